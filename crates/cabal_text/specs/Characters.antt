-- Characters of project and component files.
use Rattle.std.specs.Prelude.{ℕ, Bool, ◌||◌, ◌==◌}
use Rattle.std.specs.Char.{is_ascii_alphanumeric}

-- a space, or a tab, which counts as one
unfoldable pub is_space : ℕ → Bool
is_space b = (b == 32) || (b == 9)

-- a character of a field's name
unfoldable pub is_field_char : ℕ → Bool
is_field_char b = is_ascii_alphanumeric b || (b == 45) || (b == 95)

-- what stands between the items of a list: spaces, commas and line ends
unfoldable pub is_gap : ℕ → Bool
is_gap b = is_space b || (b == 44) || (b == 10)
