-- Where tokens stop to begin a tree, of two kinds of trees of which one has more.
use Rattle.std.proofs.Common.{◌≡◌, ◌+◌, ◌<◌, ◌≤◌, ℕ, List, [], ◌++◌, length, take, drop, refl, sym, ◌∙◌, subst, arith}
use Rattle.std.proofs.Common.{inl, inr, true≢false}
use Rattle.std.specs.Prelude.{◌↔◌, IsTrue, Bool, true, false, Result, MatchResult, Ok, Err, nat_lt}
use Rattle.std.proofs.lemmas.List.{append-nil, take-append-drop}
use Rattle.std.proofs.lemmas.Bool.Decides.{nat_tests}
use Rattle.hs_forms.specs.Reading.{Form}
use Rattle.hs_forms.specs.Whole.{Spells, Begins, IsPlace, IsWhole}
use Rattle.hs_forms.specs.declared.fault.Fault.{Fault}
use Rattle.hs_forms.specs.declared.fault.Fault.TheVariants as f
use Rattle.hs_forms.proofs.WholeLemmas.{begins_less}
use Rattle.hs_forms.specs.declared.error.ParseError.{ParseError}
use Rattle.hs_forms.specs.declared.error.ParseError.TheVariants as e
use Rattle.haskell_parse.specs.Parsed.{GoesOn, IsParsed}

module _ {K T : Type 0} (form : Form K T) where
  -- tokens that spell a tree begin it at each of them
  pub begun_at : (ts : List K) (i : ℕ) (tree : T) → Spells form tree ts → Begins form (take i ts)
  begun_at ts i tree spelled =
      begins_less form (take i ts) (drop i ts) (
        [],
        tree,
        (append-nil (take i ts ++ drop i ts) ∙ take-append-drop i ts ∙ spelled.0, spelled.1),
      )

  -- before the end they go on where they begin a tree
  pub goes_before : (ts : List K) (i : ℕ) → i < length ts → (b : Bool) → IsTrue b ↔ Begins form (take (i + 1) ts) →
      IsTrue b ↔ GoesOn form ts i
  goes_before ts i lt b begun = (λ h. inl (lt, begun.0 h), back)
    where
      back : GoesOn form ts i → IsTrue b
      back (inl at) = begun.1 at.1
      back (inr all) = begun.1 (begun_at ts (i + 1) all.0 all.1)

  -- at the end they go on where they spell a tree
  pub goes_after : (ts : List K) (i : ℕ) → length ts ≤ i → (b : Bool) → IsTrue b ↔ ((tree : T) × Spells form tree ts) →
      IsTrue b ↔ GoesOn form ts i
  goes_after ts i le b whole = (λ h. inr (whole.0 h), back)
    where
      back : GoesOn form ts i → IsTrue b
      back (inl at) = absurd (let lt = at.0 in omega arith)
      back (inr all) = whole.1 all

  -- the same, of what a call answers
  pub begun_goes : {E : Type 0} (Fails : E → Type 0) (ts : List K) (i : ℕ) → i < length ts → (r : Result Bool E) →
      MatchResult r (λ b. IsTrue b ↔ Begins form (take (i + 1) ts)) Fails →
      MatchResult r (λ b. IsTrue b ↔ GoesOn form ts i) Fails
  begun_goes Fails ts i lt (Ok b) h = goes_before ts i lt b h
  begun_goes Fails ts i lt (Err e) h = h

  pub whole_goes : {E : Type 0} (Fails : E → Type 0) (ts : List K) (i : ℕ) → length ts ≤ i → (r : Result Bool E) →
      MatchResult r (λ b. IsTrue b ↔ ((tree : T) × Spells form tree ts)) Fails →
      MatchResult r (λ b. IsTrue b ↔ GoesOn form ts i) Fails
  whole_goes Fails ts i le (Ok b) h = goes_after ts i le b h
  whole_goes Fails ts i le (Err e) h = h

  pub whole_ok : (ts : List K) (tree : T) → Spells form tree ts → IsTrue true ↔ ((tree : T) × Spells form tree ts)
  whole_ok ts tree spelled = (λ _. (tree, spelled), λ _. refl)

  pub whole_err : (ts : List K) (e : Fault) (left : ℕ) → e ≡ f.At left → IsWhole form ts (Err e) →
      IsTrue false ↔ ((tree : T) × Spells form tree ts)
  whole_err ts e left is w =
      let p = subst (λ e. IsWhole form ts (Err e)) is w in (
        λ h. absurd (true≢false (sym h)),
        λ all. absurd (p.2.none all.0 all.1),
      )

  no_later : (ts : List K) (i j : ℕ) → IsPlace form ts i → IsPlace form ts j → (b : Bool) → nat_lt i j ≡ b → j ≤ i
  no_later ts i j p q false e = grind (arith, nat_tests)
  no_later ts i j p q true e =
      let lt : i < j = grind (arith, nat_tests) in
      absurd (p.stuck (omega (arith, q.within)) (q.begun (i + 1) (omega arith)))

  -- tokens stop at one place
  pub one_place : (ts : List K) (i j : ℕ) → IsPlace form ts i → IsPlace form ts j → i ≡ j
  one_place ts i j p q = omega (arith, no_later ts i j p q _ refl, no_later ts j i q p _ refl)

-- where trees within a limit are trees, what stops them and goes on to none stops all
pub place_of_all : {K T : Type 0} (form any : Form K T) (ts : List K) (i : ℕ) →
    ((j : ℕ) → Begins form (take j ts) → Begins any (take j ts)) → IsPlace form ts i → (GoesOn any ts i → ⊥) →
    IsPlace any ts i
place_of_all form any ts i wider p none = record {
  none = λ tree spelled. none (inr (tree, spelled));
  within = p.within;
  begun = λ j le. wider j (p.begun j le);
  stuck = λ lt begun. none (inl (lt, begun));
}

-- where at most one tree has these tokens, a parser answers that tree
pub answer_is : {K T : Type 0} (form any : Form K T) (ts : List K) (tree : T) →
    ((other : T) → Spells form other ts → other ≡ tree) → Spells form tree ts → (answer : Result T ParseError) →
    IsParsed form any ts answer → MatchResult answer (λ read. read ≡ tree) (λ x. x ≡ e.NoMemory)
answer_is form any ts tree one spelled (Ok read) is = one read is
answer_is form any ts tree one spelled (Err (e.Syntax i)) is = absurd (is.0.none tree spelled)
answer_is form any ts tree one spelled (Err (e.DepthLimit i)) is = absurd (is.0.none tree spelled)
answer_is form any ts tree one spelled (Err e.NoMemory) is = refl
