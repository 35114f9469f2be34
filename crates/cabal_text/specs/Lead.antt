-- The length of the first item of a list, computed, and texts that begin with no blank.
use Rattle.std.specs.Prelude.{◌≡◌, ℕ, ◌+◌, false, List, [], ◌∷◌, if◌then◌else◌}
use Rattle.cabal_text.specs.declared.tokens.Brackets.{Brackets}
use Rattle.cabal_text.specs.Tokens.{is_blank, depth_after, ends_item}

abbrev pub IsUnblank : List ℕ → Type 0
IsUnblank [] = Unit {0}
IsUnblank (b ∷ bs) = is_blank b ≡ false

abbrev pub item_len : Brackets → ℕ → List (List ℕ) → ℕ
item_len brackets depth [] = 0
item_len brackets depth (token ∷ tokens) = if ends_item depth token then 0 else item_len brackets
    (depth_after brackets depth token) tokens + 1
