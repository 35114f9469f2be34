-- Texts in byte order.
use Rattle.std.specs.Prelude.{◌≡◌, ℕ, List, [], ◌∷◌}
use Rattle.std.specs.Ordering.{nat_cmp}
use Rattle.std.specs.Cmp.Lexicographic.{slice_cmp}
use Rattle.std.specs.declared.cmp.Ordering.TheVariants.{Less}

-- what a clause sees of a `Name`, of `Bytes` and of a `Path`
abbrev pub Text : Type 0
Text = List ℕ

-- one text stands before another one in byte order
abbrev pub Before : Text → Text → Type 0
Before m n = slice_cmp nat_cmp m n ≡ Less

abbrev pub RiseAfter : Text → List Text → Type 0
RiseAfter n [] = Unit {0}
RiseAfter n (m ∷ ms) = Before n m × RiseAfter m ms

-- each text stands before the next one
abbrev pub Rise : List Text → Type 0
Rise [] = Unit {0}
Rise (n ∷ ns) = RiseAfter n ns
