-- From a reading at the front to the answer over all the tokens.
use Rattle.std.proofs.Common.{◌≡◌, ℕ, zero, suc, ◌+◌, ◌<◌, Bool, true, false, List, [], ◌∷◌, ◌++◌, length, take, drop}
use Rattle.std.proofs.Common.{refl, sym, ap, ◌∙◌, subst, append_assoc, true≢false, arith, length-append}
use Rattle.std.proofs.lemmas.List.{append-nil, take-append-drop, take-append-le}
use Rattle.std.proofs.Math.Seq.{take-append-add, take-append_seam}
use Rattle.hs_forms.specs.Reading.{Form, SameStart}
use Rattle.hs_forms.specs.Answers.{Accepts, Rejects, Fails}
use Rattle.hs_forms.specs.Whole.{Spells, Begins, IsPlace, IsWhole}
use Rattle.hs_forms.specs.declared.fault.Fault.{Fault}
use Rattle.hs_forms.specs.declared.fault.Fault.TheVariants as f
use Rattle.hs_forms.proofs.FormLemmas.{same_start_self}
use Rattle.std.proofs.lemmas.Bool.Decides.{nat_tests}
use Rattle.std.specs.Prelude.{Err, ◌↔◌, IsTrue, nat_eq}

module _ {K T : Type 0} (form : Form K T) where
  pub begins_less : (xs ys : List K) → Begins form (xs ++ ys) → Begins form xs
  begins_less xs ys (more, tree, spelled) = (ys ++ more, tree, (sym (append_assoc xs ys more) ∙ spelled.0, spelled.1))

  take_begins : (xs : List K) (j : ℕ) → Begins form xs → Begins form (take j xs)
  take_begins xs j b = begins_less (take j xs) (drop j xs) (subst (Begins form) (sym (take-append-drop j xs)) b)

  place : (ts before bad : List K) → ts ≡ before ++ bad → Begins form before →
      ((s : List K) (tree : T) → SameStart bad s → form.Good tree → before ++ s ≡ form.tokens tree → ⊥)
      → IsPlace form ts (length before)
  place ts before bad split b never = record {
    none = λ tree spelled. never bad tree (same_start_self bad) spelled.1 (sym split ∙ spelled.0);
    within = omega (arith, ap length split, length-append before bad);
    begun = λ j le. subst (Begins form) (sym (ap (take j) split ∙ take-append-le j before bad le))
        (take_begins before j b);
    stuck = λ lt more. at_bad bad split never lt more;
  }
    where
      at_bad : (bad : List K) → ts ≡ before ++ bad →
          ((s : List K) (tree : T) → SameStart bad s → form.Good tree → before ++ s ≡ form.tokens tree → ⊥) →
          length before < length ts → Begins form (take (length before + 1) ts) → ⊥
      at_bad [] split never lt more = absurd (omega (arith, ap length split, length-append before []))
      at_bad (b ∷ bad) split never lt (more, tree, spelled) =
          never (b ∷ more) tree (more, refl) spelled.1
          (sym (append_assoc before (b ∷ []) more)
          ∙ ap (λ l. l ++ more) (sym (ap (take (length before + 1)) split ∙ take-append-add before (b ∷ bad) 1))
          ∙ spelled.0)

  pub place_of_rejects : (ts : List K) (left : ℕ) → Rejects form ts left →
      (i : ℕ) × (i + left ≡ length ts) × IsPlace form ts i
  place_of_rejects ts left r = (
    length r.before,
    omega (arith, r.left_is, ap length r.split, length-append r.before r.bad),
    place ts r.before r.bad r.split (r.refuses.begun.0, r.refuses.begun.1, (r.refuses.begun.3, r.refuses.begun.2))
        (λ s tree same good e. r.refuses.never s tree [] same good refl (e ∙ sym (append-nil (form.tokens tree)))),
  )

  pub whole_of_fails : (ts : List K) (e : Fault) → Fails form ts e → IsWhole form ts (Err e)
  whole_of_fails ts (f.At left) r = place_of_rejects ts left r
  whole_of_fails ts f.NoMemory r = tt

  no_rest : (tree other : T) (rest s : List K) → 0 < length rest → SameStart rest s → [] ≡ s → ⊥
  no_rest tree other [] s some same e = absurd (omega arith)
  no_rest tree other (x ∷ rest) s some same e = let long = ap length (e ∙ same.1) in absurd (omega arith)

  pub whole_of_rest : (depth : T → ℕ) (ts : List K) (tree : T) (rest : List K) (d : ℕ) →
      Accepts form depth ts tree rest d →
      0 < length rest → (i : ℕ) × (i + length rest ≡ length ts) × IsPlace form ts i
  whole_of_rest depth ts tree rest d acc some = (
    length (form.tokens tree),
    omega (arith, ap length acc.spelled, length-append (form.tokens tree) rest),
    place ts (form.tokens tree) rest acc.spelled ([], tree, (append-nil (form.tokens tree), acc.reads.good))
        (λ s other same good e.
        no_rest tree other rest s some same (acc.reads.only s other [] same good refl (e
        ∙ sym (append-nil (form.tokens other)))).1),
  )

  -- where the tokens begin a tree
  pub begun_if_whole : (ts : List K) (tree : T) → Spells form tree ts → Begins form ts
  begun_if_whole ts tree spelled = ([], tree, (append-nil ts ∙ spelled.0, spelled.1))

  pub begun_at_end : (ts : List K) (i : ℕ) → i ≡ length ts → IsPlace form ts i → Begins form ts
  begun_at_end ts i e p = subst (Begins form) (take_all ts i e) (p.begun i (omega arith))
    where
      take_all : (ts : List K) (i : ℕ) → i ≡ length ts → take i ts ≡ ts
      take_all ts i e = ap (λ n. take n ts) e ∙ ap (take (length ts)) (sym (append-nil ts)) ∙ take-append_seam ts []

  pub not_begun : (ts : List K) (i : ℕ) → i < length ts → IsPlace form ts i → Begins form ts → ⊥
  not_begun ts i lt p b = p.stuck lt (take_begins ts (i + 1) b)

  pub begun_ok : (ts : List K) (tree : T) → Spells form tree ts → IsTrue true ↔ Begins form ts
  begun_ok ts tree spelled = (λ _. begun_if_whole ts tree spelled, λ _. refl)

  pub begun_err : (ts : List K) (left : ℕ) → IsWhole form ts (Err (f.At left)) → IsTrue (nat_eq left 0) ↔ Begins form ts
  begun_err ts zero w = (λ _. begun_at_end ts w.0 (omega (arith, w.1)) w.2, λ _. refl)
  begun_err ts (suc left) w = (
    λ h. absurd (let e : nat_eq (suc left) 0 ≡ false = grind (arith, nat_tests) in
        true≢false (sym h ∙ e)),
    λ b. absurd (not_begun ts w.0 (omega (arith, w.1)) w.2 b),
  )

  pub begun_err_at : (ts : List K) (e : Fault) (left : ℕ) → e ≡ f.At left → IsWhole form ts (Err e) →
      IsTrue (nat_eq left 0) ↔ Begins form ts
  begun_err_at ts e left is w = begun_err ts left (subst (λ e. IsWhole form ts (Err e)) is w)

pub some_length : {K : Type 0} (b : Bool) (xs : List K) → b ≡ nat_eq (length xs) 0 → b ≡ false → 0 < length xs
some_length b [] e f = absurd (true≢false (sym e ∙ f))
some_length b (x ∷ xs) e f = omega arith
