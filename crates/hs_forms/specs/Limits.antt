-- How deep a tree may be, and what is said of several parts.
use Rattle.std.specs.Prelude.{ℕ, ◌-◌, ◌≤◌, max, Bool, true, ◌&&◌, List, [], ◌∷◌, Option, Some, None}

-- a depth that a limit allows; without a limit each
abbrev pub Within : Option ℕ → ℕ → Type 0
Within None d = Unit {0}
Within (Some most) d = d ≤ most

-- what a limit leaves when so much of it is used: 3 of 5 used leave 2
abbrev pub lowered : Option ℕ → ℕ → Option ℕ
lowered None used = None
lowered (Some most) used = Some (most - used)

-- the greatest of several depths
abbrev pub deepest : List ℕ → ℕ
deepest [] = 0
deepest (d ∷ ds) = max d (deepest ds)

abbrev pub all_of : List Bool → Bool
all_of [] = true
all_of (b ∷ bs) = b && all_of bs
