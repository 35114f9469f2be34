-- One step of each loop over a list.
use Rattle.std.proofs.Common.{◌≡◌, ℕ, suc, ◌+◌, ◌<◌, List, ◌∷◌, length, get_or, drop, sym, ◌∙◌, arith}
use Rattle.std.proofs.Math.Seq.{drop-cons}

pub front_of : {A : Type 0}
    (xs : List A) (i : ℕ) (x : A) → i < length xs
    → x ≡ get_or xs i x → drop i xs ≡ x ∷ drop (i + 1) xs
front_of xs i x lt is =
    let one : suc i ≡ i + 1 = omega arith in
    drop-cons xs i x lt ∙ (λ w. sym is w ∷ drop (one w) xs)
