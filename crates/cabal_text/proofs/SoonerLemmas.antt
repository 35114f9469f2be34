-- The least of numbers, joined.
use Rattle.std.proofs.Common.{◌≡◌, refl, sym, ap, ◌∙◌, ℕ, List, [], ◌∷◌, ◌++◌, Option, Some, None, arith}
use Rattle.std.specs.List.{flat_map}
use Rattle.cabal_text.specs.Least.{sooner, least_of}

pub sooner_assoc : (a b c : Option ℕ) → sooner (sooner a b) c ≡ sooner a (sooner b c)
sooner_assoc None b c = refl
sooner_assoc (Some n) None c = refl
sooner_assoc (Some n) (Some m) None = refl
sooner_assoc (Some n) (Some m) (Some k) = ap Some (omega arith)

pub least_append : (xs ys : List ℕ) → least_of (xs ++ ys) ≡ sooner (least_of xs) (least_of ys)
least_append [] ys = refl
least_append (n ∷ ns) ys = ap (sooner (Some n)) (least_append ns ys)
    ∙ sym (sooner_assoc (Some n) (least_of ns) (least_of ys))

-- one more item, with the numbers that it gives
pub item_next_least : {X : Type 0} (F : X → List ℕ) (x : X) (xs : List X) (least found new total : Option ℕ)
    → found ≡ least_of (F x) → new ≡ sooner least found
    → sooner least (least_of (flat_map F (x ∷ xs))) ≡ total → sooner new (least_of (flat_map F xs)) ≡ total
item_next_least F x xs least found new total e n t = rw (n, e, sooner_assoc, ← (least_append (F x) (flat_map F xs))) t
