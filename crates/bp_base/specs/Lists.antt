-- Items of lists, and the only thing that a fact holds of.
use Rattle.std.specs.Prelude.{◌≡◌, ◌⊎◌, ℕ, Bool, List, [], ◌∷◌, ◌++◌}
use Rattle.std.specs.List.{list_any}
use Rattle.std.specs.Str.{bytes_eq}

-- the item stands in the list
abbrev pub Among : {A : Type 0} → A → List A → Type 0
Among a [] = ⊥
Among a (x ∷ xs) = (x ≡ a) ⊎ Among a xs

-- the name is one of these: the test
abbrev pub is_among : List ℕ → List (List ℕ) → Bool
is_among name names = list_any (bytes_eq name) names

-- no item stands twice
abbrev pub AreDistinct : {A : Type 0} → List A → Type 0
AreDistinct [] = Unit {0}
AreDistinct (x ∷ xs) = (Among x xs → ⊥) × AreDistinct xs

-- of what is worked off along a path: neither done nor begun
abbrev pub IsNew : {A : Type 0} → List A → List A → A → Type 0
IsNew path done a = (Among a done → ⊥) × (Among a path → ⊥)

-- the fact holds of it, and of nothing else
pub record IsOnly {X : Type 0} (P : X → Type 0) (it : X) : Type 0 where
  pub holds : P it
  pub only : (other : X) → P other → other ≡ it

-- A loop that reads a list, item by item: what was read before the rest, with what is read from the rest, is what is
-- read from
-- the start.
pub record SoFar {X S : Type 0} (Yields : S → List X → Type 0) (start rest : S) (done : List X) : Type 0 where
  pub sound : (more : List X) → Yields rest more → Yields start (done ++ more)
  pub complete : (all : List X) → Yields start all → (more : List X) × (all ≡ done ++ more) × Yields rest more
