-- Names that were seen before.
use Rattle.std.specs.Prelude.{ℕ, Bool, false, List, [], ◌∷◌, ◌++◌, ◌||◌, if◌then◌else◌}
use Rattle.bp_base.specs.Lists.{is_among}

-- some name stands among those that were seen before it
abbrev pub repeats_after : List (List ℕ) → List (List ℕ) → Bool
repeats_after seen [] = false
repeats_after seen (n ∷ ns) = is_among n seen || repeats_after (seen ++ n ∷ []) ns

-- some name stands twice
abbrev pub repeats : List (List ℕ) → Bool
repeats names = repeats_after [] names

-- the names that aren't among those that were seen before them
abbrev pub new_after : List (List ℕ) → List (List ℕ) → List (List ℕ)
new_after seen [] = []
new_after seen (n ∷ ns) = (if is_among n seen then [] else n ∷ []) ++ new_after (seen ++ n ∷ []) ns

-- each name once, at its first place
abbrev pub distinct : List (List ℕ) → List (List ℕ)
distinct names = new_after [] names
