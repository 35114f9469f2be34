-- A chain is read if its head and its items are.
use Rattle.std.proofs.Common.{◌≡◌, ℕ, ◌<◌, ◌≤◌, Bool, true, false, List, [], ◌∷◌, ◌++◌, length, refl, sym, ap, subst}
use Rattle.std.proofs.Common.{append_assoc, true≢false, arith, length-append}
use Rattle.std.specs.Prelude.{flat_map, map}
use Rattle.std.proofs.lemmas.List.{append-nil}
use Rattle.std.proofs.lemmas.Grind.{flat_map-append}
use Rattle.hs_forms.specs.Reading.{begins, Reads}
use Rattle.hs_forms.specs.Limits.{all_of}
use Rattle.hs_forms.specs.Forms.{item_form}
use Rattle.hs_forms.specs.Productions.{Chain}
use Rattle.hs_forms.proofs.FormLemmas.{begins_within}
use Rattle.hs_forms.proofs.ChainLemmas.{SoFar, chain_first, chain_step, chain_stop, quiet_inner, quiet_head}
use Rattle.std.proofs.lemmas.Bool.{and_from}
use Rattle.hs_forms.proofs.LimitLemmas.{and_left, and_right}

module _ {K T H X : Type 0} (c : Chain K T H X) (less : (h : H) (ys zs : List X) → c.form.Good (c.make h (ys ++ zs))
    → c.form.Good (c.make h ys)) where
  chain_on : (h : H) (done xs : List X) (rest : List K) →
      SoFar c.form c.head c.items c.make h done (flat_map c.items xs ++ rest) →
      c.form.Good (c.make h (done ++ xs)) → begins (c.form.extends (c.make h (done ++ xs))) rest ≡ false →
      ((ys : List X) (x : X) (zs : List X) → xs ≡ ys ++ x ∷ zs → (n : ℕ) → c.item n x → (here : List K)
      → begins (c.inner x) here ≡ false →
      Reads (item_form c.items c.item c.inner n) x here) →
      Reads c.form (c.make h (done ++ xs)) rest
  chain_on h done [] rest so good q each =
      let q' = subst (λ l. begins (c.form.extends (c.make h l)) rest ≡ false) (append-nil done) q in
      subst (λ l. Reads c.form (c.make h l) rest) (sym (append-nil done))
      (chain_stop c.form c.head c.items c.item c.inner c.starter c.make c.laws h done rest so
      (begins_within (c.form.extends (c.make h done)) c.starter rest (c.laws.ends h done) q'))
  chain_on h done (x ∷ xs) rest so good q each =
      let r = each [] x xs refl (length done) (c.laws.good_item h done x xs good) (flat_map c.items xs ++ rest)
      (quiet_inner c.form c.head c.items c.item c.inner c.starter c.make c.laws h done x xs rest good q) in
      let good' = subst (λ l. c.form.Good (c.make h l)) (sym (append_assoc done (x ∷ []) xs)) good in
      let q' = subst (λ l. begins (c.form.extends (c.make h l)) rest ≡ false) (sym (append_assoc done (x ∷ []) xs)) q in
      let so' = chain_step c.form c.head c.items c.item c.inner c.starter c.make c.laws h done x
      (flat_map c.items (x ∷ xs) ++ rest)
      (flat_map c.items xs ++ rest) so (append_assoc (c.items x) (flat_map c.items xs) rest) r
      (less h (done ++ x ∷ []) xs good') in
      subst (λ l. Reads c.form (c.make h l) rest) (append_assoc done (x ∷ []) xs)
      (chain_on h (done ++ x ∷ []) xs rest so' good' q' (λ ys y zs e. each (x ∷ ys) y zs (ap (λ l. x ∷ l) e)))

  pub chain_all : (h : H) (xs : List X) (rest : List K) → c.form.Good (c.make h xs) →
      begins (c.form.extends (c.make h xs)) rest ≡ false →
      ((here : List K) → begins (c.head.extends h) here ≡ false → Reads c.head h here) →
      ((ys : List X) (x : X) (zs : List X) → xs ≡ ys ++ x ∷ zs → (n : ℕ) → c.item n x → (here : List K)
      → begins (c.inner x) here ≡ false →
      Reads (item_form c.items c.item c.inner n) x here) →
      Reads c.form (c.make h xs) rest
  chain_all h xs rest good q first each =
      chain_on h [] xs rest
      (chain_first c.form c.head c.items c.item c.inner c.starter c.make c.laws h (flat_map c.items xs ++ rest)
      (first (flat_map c.items xs ++ rest) (quiet_head c.form c.head c.items c.item c.inner c.starter c.make c.laws h xs
      rest good q)) (less h [] xs good))
      good q each

pub all_less : {X : Type 0} (f : X → Bool) (ys zs : List X) → all_of (map f (ys ++ zs)) ≡ true →
    all_of (map f ys) ≡ true
all_less f [] zs e = refl
all_less f (y ∷ ys) zs e = and_from (f y) _ (and_left (f y) _ e) (all_less f ys zs (and_right (f y) _ e))

-- the tokens of an item are no more than those of the chain
pub part_length : {K X : Type 0} (items : X → List K) (xs ys zs : List X) (x : X) → xs ≡ ys ++ x ∷ zs →
    length (items x) ≤ length (flat_map items xs)
part_length items xs ys zs x e =
    omega (
      arith,
      ap (λ l. length (flat_map items l)) e,
      ap length (flat_map-append items ys (x ∷ zs)),
      length-append (flat_map items ys) (flat_map items (x ∷ zs)),
      length-append (items x) (flat_map items zs),
    )

-- a list that begins with a token has one
pub begins_length : {K : Type 0} (f : K → Bool) (xs : List K) → begins f xs ≡ true → 0 < length xs
begins_length f [] h = absurd (true≢false (sym h))
begins_length f (x ∷ xs) h = omega arith
