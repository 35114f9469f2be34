-- The loop of a chain's reader: what is known before each item, and what each way out answers.
use Rattle.std.proofs.Common.{◌≡◌, ℕ, ◌+◌, ◌<◌, true, false, List, [], ◌∷◌, ◌++◌, length, refl, sym, ap, ◌∙◌}
use Rattle.std.proofs.Common.{append_assoc, arith, length-append}
use Rattle.std.specs.Prelude.{flat_map, map, max}
use Rattle.std.proofs.lemmas.List.{append-nil}
use Rattle.std.proofs.lemmas.Grind.{flat_map-append}
use Rattle.hs_forms.specs.Reading.{Form, begins, Refuses}
use Rattle.hs_forms.specs.Limits.{deepest}
use Rattle.hs_forms.specs.Answers.{Accepts, Rejects, Fails}
use Rattle.hs_forms.specs.Forms.{item_form}
use Rattle.hs_forms.specs.Productions.{Chain}
use Rattle.hs_forms.specs.declared.fault.Fault.{Fault}
use Rattle.hs_forms.specs.declared.fault.Fault.TheVariants.{At, NoMemory}
use Rattle.hs_forms.proofs.ChainLemmas.{SoFar, chain_first, chain_step, chain_stop, chain_over}
use Rattle.hs_forms.proofs.ChainLemmas.{head_refused, item_refused}
use Rattle.hs_forms.proofs.LimitLemmas.{deep_more}

-- a refusal in a part
pub fails_after : {K T U : Type 0} (form : Form K T) (part : Form K U) (front ts here : List K) (e : Fault) →
    ts ≡ front ++ here →
    ((before bad : List K) → here ≡ before ++ bad → Refuses part before bad → Refuses form (front ++ before) bad) →
    Fails part here e → Fails form ts e
fails_after form part front ts here (At left) split f r = record {
  before = front ++ r.before;
  bad = r.bad;
  split = split ∙ ap (λ l. front ++ l) r.split ∙ sym (append_assoc front r.before r.bad);
  left_is = r.left_is;
  refuses = f r.before r.bad r.split r.refuses;
}
fails_after form part front ts here NoMemory split f r = tt

split_more : {K X : Type 0} (items : X → List K) (ts front : List K) (xs : List X) (x : X) (here rest : List K) →
    ts ≡ (front ++ flat_map items xs) ++ here → here ≡ items x ++ rest
    → ts ≡ (front ++ flat_map items (xs ++ x ∷ [])) ++ rest
split_more items ts front xs x here rest e at =
    e ∙ ap (λ l. (front ++ flat_map items xs) ++ l) at
    ∙ rw (flat_map-append items xs (x ∷ [])) (simp (append_assoc, append-nil))

split_first : {K X : Type 0} (items : X → List K) (ts front rest : List K) → ts ≡ front ++ rest →
    ts ≡ (front ++ flat_map items []) ++ rest
split_first items ts front rest e = e ∙ ap (λ l. l ++ rest) (sym (append-nil front))

pub record State {K T H X : Type 0} (c : Chain K T H X) (ts : List K) (h : H) (xs : List X) (here : List K)
    (deep : ℕ) : Type 0 where
  pub so : SoFar c.form c.head c.items c.make h xs here
  pub split : ts ≡ (c.head.tokens h ++ flat_map c.items xs) ++ here
  pub deep_is : deep ≡ max (c.head_depth h) (deepest (map c.item_depth xs))
  pub room : deep + length xs + length here < length ts

module _ {K T H X : Type 0} (c : Chain K T H X) where
  pub state_first : (ts : List K) (h : H) (rest : List K) (d : ℕ) → Accepts c.head c.head_depth ts h rest d →
      State c ts h [] rest d
  state_first ts h rest d a = record {
    so = chain_first c.form c.head c.items c.item c.inner c.starter c.make c.laws h rest a.reads
        (c.first h a.reads.good);
    split = split_first c.items ts (c.head.tokens h) rest a.spelled;
    deep_is = omega (arith, a.measured_is);
    room = omega (arith, a.room);
  }

  pub state_step : (ts : List K) (h : H) (xs : List X) (here : List K) (d : ℕ) (x : X) (rest : List K) (e : ℕ) →
      State c ts h xs here d → c.Room h xs →
      Accepts (item_form c.items c.item c.inner (length xs)) c.item_depth here x rest e
      → State c ts h (xs ++ x ∷ []) rest (max d e)
  state_step ts h xs here d x rest e s free a =
      let long = length-append xs (x ∷ []) in
      let new = deep_more c.item_depth xs x in
      let old = s.deep_is in
      let fits = s.room in
      let is = a.measured_is in
      let less = a.room in
      record {
        so = chain_step c.form c.head c.items c.item c.inner c.starter c.make c.laws h xs x here rest s.so a.spelled
            a.reads (c.more h xs x s.so.good free a.reads.good);
        split = split_more c.items ts (c.head.tokens h) xs x here rest s.split a.spelled;
        deep_is = omega arith;
        room = omega arith;
      }

  pub state_stop : (depth : T → ℕ) (ts : List K) (h : H) (xs : List X) (here : List K) (d measured : ℕ) →
      State c ts h xs here d → begins c.starter here ≡ false → measured ≡ depth (c.make h xs) →
      measured + length here < length ts → Accepts c.form depth ts (c.make h xs) here measured
  state_stop depth ts h xs here d measured s ends is room = record {
    spelled = s.split ∙ ap (λ l. l ++ here) (sym (c.laws.spelled h xs));
    reads = chain_stop c.form c.head c.items c.item c.inner c.starter c.make c.laws h xs here s.so ends;
    measured_is = is;
    room = room;
  }

  pub state_head_fails : (ts : List K) (e : Fault) → Fails c.head ts e → Fails c.form ts e
  state_head_fails ts e r =
      fails_after c.form c.head [] ts ts e refl
      (λ before bad at r'. head_refused c.form c.head c.items c.item c.inner c.starter c.make c.laws before bad r'
      c.first) r

  pub state_fails : (ts : List K) (h : H) (xs : List X) (here : List K) (d : ℕ) (e : Fault) →
      State c ts h xs here d → begins c.starter here ≡ true → c.Room h xs
      → Fails (item_form c.items c.item c.inner (length xs)) here e → Fails c.form ts e
  state_fails ts h xs here d e s starts free r =
      fails_after c.form (item_form c.items c.item c.inner (length xs))
      (c.head.tokens h ++ flat_map c.items xs) ts here e s.split
      (λ before bad at r'. item_refused c.form c.head c.items c.item c.inner c.starter c.make c.laws h xs here before
      bad s.so starts at r' (λ x good. c.more h xs x s.so.good free good)) r

  pub state_over : (ts : List K) (h : H) (xs : List X) (here : List K) (d : ℕ) →
      State c ts h xs here d → begins c.starter here ≡ true → (c.Room h xs → ⊥) → Rejects c.form ts (length here)
  state_over ts h xs here d s starts none = record {
    before = c.head.tokens h ++ flat_map c.items xs;
    bad = here;
    split = s.split;
    left_is = refl;
    refuses = chain_over c.form c.head c.items c.item c.inner c.starter c.make c.laws h xs here s.so starts
        (λ x more good. none (c.full h xs x more good));
  }
