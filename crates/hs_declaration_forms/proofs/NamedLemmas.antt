-- Declarations that begin with a word and the name of a type.
use Rattle.std.proofs.Common.{◌≡◌, ℕ, Bool, true, false, List, [], ◌∷◌, ◌++◌, length, refl, sym, ap, ◌∙◌, arith}
use Rattle.std.proofs.Common.{true≢false, append_assoc, length-append}
use Rattle.std.specs.Prelude.{map, not}
use Rattle.hs_forms.specs.Reading.{Form, begins}
use Rattle.hs_forms.specs.Answers.{Accepts, Rejects}
use Rattle.hs_tokens.specs.declared.terminal.Terminal.{Terminal}
use Rattle.hs_tokens.specs.declared.terminal.Terminal.TheVariants as t
use Rattle.hs_modules.specs.Words.{has_dot}
use Rattle.hs_headers.specs.Lists.{Ts}
use Rattle.hs_headers.specs.Names.{is_own_con, is_var}
use Rattle.hs_headers.proofs.TurnLemmas.{Turn, turn_ok, Next, stuck}
use Rattle.hs_block_forms.specs.Blocks.{ends_item}
use Rattle.hs_declarations.proofs.DeclarationLemmas.{head_front}

-- Each tree begins with the word and a name that is not qualified, and there is one for each such name.
pub record Named {T : Type 0} (form : Form Terminal T) (word : Terminal) : Type 0 where
  pub shape : (x : T) → form.Good x →
      (name : List ℕ) × (more : Ts) × (form.tokens x ≡ word ∷ t.Con name ∷ more) × (has_dot name ≡ false)
  pub least : (name : List ℕ) → has_dot name ≡ false →
      (x : T) × (more : Ts) × form.Good x × (form.tokens x ≡ word ∷ t.Con name ∷ more)

module _ {T : Type 0} (form : Form Terminal T) (word : Terminal) (n : Named form word) where
  -- the word doesn't stand there
  pub named_none : (is_word : Terminal → Bool) → is_word word ≡ true → (ts : Ts) → begins is_word ts ≡ false →
      Rejects form ts (length ts)
  named_none is_word is ts p =
      let x = n.least [] refl in
      stuck form is_word ts [] ts (form.tokens x.0) x.0 x.2 refl
      (λ other s after good quiet e. (
      let shape = n.shape other good in
      ap (begins is_word) (e ∙ ap (λ l. l ++ after) shape.2) ∙ is)) refl p

  behind_word : (a b : Ts) → word ∷ a ≡ word ∷ b → a ≡ b
  behind_word a b e = cc

  -- no such name stands behind it
  pub named_open : (ts next : Ts) → ts ≡ word ∷ next → begins is_own_con next ≡ false → Rejects form ts (length next)
  named_open ts next at p =
      let x = n.least [] refl in
      stuck form is_own_con ts (word ∷ []) next (t.Con [] ∷ x.1) x.0 x.2 (sym x.3)
      (λ other s after good quiet e. (
      let shape = n.shape other good in
      ap (begins is_own_con) (behind_word s (t.Con shape.0 ∷ (shape.1 ++ after)) (e ∙ ap (λ l. l ++ after) shape.2))
      ∙ ap not shape.3)) at p

-- a part behind a fixed front, with its depth
pub turned_took : {P T : Type 0} (form : Form Terminal T) (front : Ts) (here : Terminal → Bool) (stands : Bool)
    (part : Form Terminal P) (make : P → T) → Turn form front here stands part make → (deep : T → ℕ)
    (inner : P → ℕ) → ((p : P) → deep (make p) ≡ inner p) → (ts next : Ts) (p : P) (rest : Ts) (d : ℕ) →
    ts ≡ front ++ next → begins here next ≡ stands → Accepts part inner next p rest d →
    Accepts form deep ts (make p) rest d
turned_took form front here stands part make turn deep inner same ts next p rest d at h a =
    let bare : Accepts part (λ x. 0) next p rest 0 =
    record { spelled = a.spelled; reads = a.reads; measured_is = refl; room = omega (arith, a.room) } in
    let whole = turn_ok form front here stands part make turn ts next p rest 0 at h bare in
    record {
      spelled = whole.spelled;
      reads = whole.reads;
      measured_is = a.measured_is ∙ sym (same p);
      room = omega (arith, a.room, ap length at, length-append front next);
    }

-- what stands before the body of a declaration
pub at_front : (word : Terminal) (name : List ℕ) (ps : List (List ℕ)) (ts next behind rest body : Ts) →
    ts ≡ word ∷ next → next ≡ t.Con name ∷ behind → behind ≡ map t.Var ps ++ rest → rest ≡ t.Equals ∷ body →
    ts ≡ head_front word name ps ++ body
at_front word name ps ts next behind rest body at named params shut =
    at ∙ ap (λ l. word ∷ l) (named ∙ ap (λ l. t.Con name ∷ l) (params
    ∙ ap (λ l. map t.Var ps ++ l) shut ∙ sym (append_assoc (map t.Var ps) (t.Equals ∷ []) body)))

abbrev pub goes : Terminal → Bool
goes k = not (ends_item k)

-- where variables end before what ends a declaration, no `=` stands
pub no_equals : (ps qs : List (List ℕ)) (s after : Ts) →
    (map t.Var ps ++ t.Equals ∷ []) ++ s ≡ map t.Var qs ++ after → begins goes after ≡ false → ⊥
no_equals [] [] s after e quiet = true≢false (ap (begins goes) e ∙ quiet)
no_equals [] (q ∷ qs) s after e quiet = absurd cc
no_equals (p ∷ ps) [] s after e quiet = true≢false (ap (begins goes) e ∙ quiet)
no_equals (p ∷ ps) (q ∷ qs) s after e quiet =
    let tails : (map t.Var ps ++ t.Equals ∷ []) ++ s ≡ map t.Var qs ++ after = cc in no_equals ps qs s after tails quiet

-- and the variables are those that stand there
pub same_ends : (ps qs : List (List ℕ)) (s after : Ts) → map t.Var ps ++ s ≡ map t.Var qs ++ after →
    begins is_var s ≡ false → begins is_var after ≡ false → qs ≡ ps
same_ends [] [] s after e p q = refl
same_ends [] (v ∷ vs) s after e p q = absurd (true≢false (sym (ap (begins is_var) e) ∙ p))
same_ends (v ∷ vs) [] s after e p q = absurd (true≢false (ap (begins is_var) e ∙ q))
same_ends (v ∷ vs) (w ∷ ws) s after e p q =
    let is : w ≡ v = cc in
    let tails : map t.Var vs ++ s ≡ map t.Var ws ++ after = cc in
    let same = same_ends vs ws s after tails p q in λ i. is i ∷ same i

pub no_var : (after : Ts) → begins goes after ≡ false → begins is_var after ≡ false
no_var [] q = refl
no_var (t.Semicolon ∷ after) q = refl
no_var (t.RightBrace ∷ after) q = refl
no_var (_ ∷ after) q = absurd (true≢false q)
