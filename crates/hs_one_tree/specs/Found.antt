-- What it means that a tree is found again in front of whatever it doesn't go on with.
use Rattle.std.specs.Prelude.{◌≡◌, ℕ, ◌≤◌, true, false, List, ◌++◌, length, None}
use Rattle.hs_forms.specs.Reading.{begins}
use Rattle.hs_expression_forms.specs.Trees.{Trees, Took}

-- Of all trees, whatever their depth, this one alone stands in front of such tokens.
abbrev pub Found : {K T : Type 0} → Trees K T → T → Type 0
Found {K} a x =
    a.formed x ≡ true → (rest : List K) → begins (a.extends x) rest ≡ false →
    Took a None (a.tokens x ++ rest) x rest (a.deep x)

-- So it is with each tree that has at most so many tokens.
abbrev pub Upto : {K T : Type 0} → Trees K T → ℕ → Type 0
Upto {K} {T} a n = (x : T) → length (a.tokens x) ≤ n → Found a x
