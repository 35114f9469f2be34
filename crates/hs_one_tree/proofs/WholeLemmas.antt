-- A chain is found if its head and its items are.
use Rattle.std.proofs.Common.{◌≡◌, ℕ, ◌+◌, ◌≤◌, false, List, [], ◌∷◌, ◌++◌, length, refl, sym, subst}
use Rattle.std.proofs.Common.{append_assoc, arith, length-append}
use Rattle.std.specs.Prelude.{max, map, flat_map}
use Rattle.std.proofs.lemmas.List.{append-nil}
use Rattle.hs_forms.specs.Reading.{Form, begins}
use Rattle.hs_forms.specs.Limits.{deepest}
use Rattle.hs_forms.specs.Answers.{Accepts}
use Rattle.hs_forms.specs.Forms.{item_form}
use Rattle.hs_forms.specs.Productions.{Chain}
use Rattle.hs_forms.proofs.FormLemmas.{begins_within}
use Rattle.hs_forms.proofs.ChainLemmas.{quiet_inner, quiet_head}
use Rattle.hs_forms.proofs.StateLemmas.{State, state_first, state_step, state_stop}

-- what holds of each item
abbrev pub Each : {X : Type 0} → (X → Type 0) → List X → Type 0
Each P [] = Unit {0}
Each P (x ∷ xs) = P x × Each P xs

pub each_map : {X : Type 0} (P Q : X → Type 0) → ((x : X) → P x → Q x) → (xs : List X) → Each P xs → Each Q xs
each_map P Q f [] each = tt
each_map P Q f (x ∷ xs) each = (f x each.0, each_map P Q f xs each.1)

pub each_all : {X : Type 0} (P : X → Type 0) → ((x : X) → P x) → (xs : List X) → Each P xs
each_all P f [] = tt
each_all P f (x ∷ xs) = (f x, each_all P f xs)

-- each item has at most as many tokens as all
pub each_upto : {K X : Type 0} (items : X → List K) (P : X → Type 0) (n : ℕ) → ((x : X) → length (items x) ≤ n → P x) →
    (xs : List X) → length (flat_map items xs) ≤ n → Each P xs
each_upto items P n f [] short = tt
each_upto items P n f (x ∷ xs) short =
    let long = length-append (items x) (flat_map items xs) in
    (f x (omega arith), each_upto items P n f xs (omega arith))

-- a tree that was read stands before what is left, at its own depth
pub told : {K T : Type 0} (form : Form K T) (depth : T → ℕ) (ts : List K) (x : T) (rest : List K) (m : ℕ) →
    Accepts form depth ts x rest m → Accepts form depth (form.tokens x ++ rest) x rest (depth x)
told form depth ts x rest m acc =
    subst (λ l. Accepts form depth l x rest (depth x)) acc.spelled
    (subst (λ k. Accepts form depth ts x rest k) acc.measured_is acc)

module _ {K T H X : Type 0} (c : Chain K T H X) where
  -- an item is found wherever it may stand
  abbrev pub ItemFound : X → Type 0
  ItemFound x =
      (n : ℕ) → c.item n x → (here : List K) → begins (c.inner x) here ≡ false →
      Accepts (item_form c.items c.item c.inner n) c.item_depth (c.items x ++ here) x here (c.item_depth x)

  -- the state behind more items
  pub state_on : (ts : List K) (h : H) (done xs : List X) (rest : List K) (d : ℕ) →
      State c ts h done (flat_map c.items xs ++ rest) d → c.form.Good (c.make h (done ++ xs)) →
      begins (c.form.extends (c.make h (done ++ xs))) rest ≡ false → Each ItemFound xs →
      (e : ℕ) × State c ts h (done ++ xs) rest e
  state_on ts h done [] rest d s good quiet each =
      (d, subst (λ l. State c ts h l rest d) (sym (append-nil done)) s)
  state_on ts h done (x ∷ xs) rest d s good quiet each =
      let here = flat_map c.items xs ++ rest in
      let at = subst (λ l. State c ts h done l d) (append_assoc (c.items x) (flat_map c.items xs) rest) s in
      let a = each.0 (length done) (c.laws.good_item h done x xs good) here
      (quiet_inner c.form c.head c.items c.item c.inner c.starter c.make c.laws h done x xs rest good quiet) in
      let more = append_assoc done (x ∷ []) xs in
      let next = state_on ts h (done ++ x ∷ []) xs rest (max d (c.item_depth x))
      (state_step c ts h done (c.items x ++ here) d x here (c.item_depth x) at (c.full h done x xs good) a)
      (subst (λ l. c.form.Good (c.make h l)) (sym more) good)
      (subst (λ l. begins (c.form.extends (c.make h l)) rest ≡ false) (sym more) quiet) each.1 in
      (next.0, subst (λ l. State c ts h l rest next.0) more next.1)

  pub chain_found : (depth : T → ℕ) (h : H) (xs : List X) (rest : List K) → c.form.Good (c.make h xs) →
      begins (c.form.extends (c.make h xs)) rest ≡ false →
      ((here : List K) → begins (c.head.extends h) here ≡ false →
      Accepts c.head c.head_depth (c.head.tokens h ++ here) h here (c.head_depth h)) →
      Each ItemFound xs →
      depth (c.make h xs) ≤ max (c.head_depth h) (deepest (map c.item_depth xs)) + length xs →
      Accepts c.form depth (c.form.tokens (c.make h xs) ++ rest) (c.make h xs) rest (depth (c.make h xs))
  chain_found depth h xs rest good quiet first each le =
      let here = flat_map c.items xs ++ rest in
      let ts = c.head.tokens h ++ here in
      let head = first here
      (quiet_head c.form c.head c.items c.item c.inner c.starter c.make c.laws h xs rest good quiet) in
      let s = state_on ts h [] xs rest (c.head_depth h) (state_first c ts h here (c.head_depth h) head) good quiet
      each in
      told c.form depth ts (c.make h xs) rest (depth (c.make h xs))
      (state_stop c depth ts h xs rest s.0 (depth (c.make h xs)) s.1
      (begins_within (c.form.extends (c.make h xs)) c.starter rest (c.laws.ends h xs) quiet) refl
      (let room = s.1.room in let is = s.1.deep_is in omega arith))
