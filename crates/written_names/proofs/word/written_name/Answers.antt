use Rattle.std.proofs.Common.{◌≡◌, ℕ, zero, suc, ◌+◌, ◌<◌, Bool, true, false, List, [], ◌∷◌, length, drop, get_or, refl, sym, ap, ◌∙◌, arith, add-one, drop-cons}
use Rattle.std.specs.Prelude.{◌==◌}
use Rattle.std.proofs.lemmas.Bool.Decides.{nat_tests}
use Rattle.hs_scopes.specs.Words.{Word, is_empty, word_from}
use Rattle.written_names.proofs.word.written_name.Goals as goal

same_tests : (m n : ℕ) → (m == n) ≡ (suc m == suc n)
same_tests m n = grind (arith, nat_tests)

first_by : (xs : List ℕ) → is_empty xs ≡ (1 == suc (length xs))
first_by [] = refl
first_by (y ∷ ys) = grind (arith, nat_tests)

last_by : (text : List ℕ) (i : ℕ) → i < length text → is_empty (drop (suc i) text) ≡ (suc i == length text)
last_by [] i h = absurd (omega arith)
last_by (x ∷ xs) zero h = first_by xs
last_by (x ∷ xs) (suc i) h = last_by xs i (omega arith) ∙ same_tests (suc i) (length xs)

-- behind a byte the rest goes on
next_byte : (q p q' p' text : List ℕ) (i d : ℕ) (w : Word) → i < length text
    → ((bs : List ℕ) → is_empty bs ≡ ((i + 1) == length text) → word_from q' p' bs ≡ word_from q p (get_or text i d ∷ bs))
    → word_from q p (drop i text) ≡ w → word_from q' p' (drop (i + 1) text) ≡ w
next_byte q p q' p' text i d w h step so =
    let last : is_empty (drop (i + 1) text) ≡ ((i + 1) == length text) = rw (add-one i) (last_by text i h) in
    let whole : get_or text i d ∷ drop (i + 1) text ≡ drop i text = rw (add-one i) (sym (drop-cons text i d h)) in
    step (drop (i + 1) text) last ∙ (ap (word_from q p) whole ∙ so)

pub loop-i-preserved : goal.loop-i-preserved
loop-i-preserved c =
    next_byte c.loop-i.qualifier.items c.loop-i.part.items c.add_byte.new.qualifier.items c.add_byte.new.part.items
    c.as_bytes-text.result.now c.loop-i.i _ _ c.loop-i-test.true c.in_ok-add_byte.ensures c.loop-i.invariant
