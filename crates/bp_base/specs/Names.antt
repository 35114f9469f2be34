-- The forms of names of packages, components and modules.
use Rattle.std.specs.Prelude.{ℕ, ◌+◌, Bool, false, not, ◌&&◌, ◌||◌, ◌==◌, [], ◌∷◌, length, take, drop, nat_lt}
use Rattle.std.specs.List.{list_all, prefix_len, slice_split}
use Rattle.std.specs.Char.{is_ascii_alphanumeric, is_ascii_uppercase}
use Rattle.bp_base.specs.Texts.{Text}

-- letters and digits, one at least
unfoldable pub is_run : Text → Bool
is_run text = nat_lt 0 (length text) && list_all is_ascii_alphanumeric text

-- runs with single dashes between them
unfoldable pub is_package_name : Text → Bool
is_package_name text = list_all is_run (slice_split (λ b. b == 45) text)

-- `exe:` and a name
abbrev pub is_executable_part : Text → Bool
is_executable_part (a ∷ b ∷ c ∷ d ∷ rest) = (a == 101) && (b == 120) && (c == 101) && (d == 58) && is_package_name rest
is_executable_part other = false

-- what stands behind the package's name and a colon: a library's name, or `exe:` and an executable's
abbrev pub is_library_or_executable : Text → Bool
is_library_or_executable text = is_package_name text || is_executable_part text

-- how many bytes stand before the first colon
abbrev pub colon_place : Text → ℕ
colon_place text = prefix_len (λ b. not (b == 58)) text

-- `p`, `p:s` or `p:exe:e`
unfoldable pub is_component_name : Text → Bool
is_component_name text =
    is_package_name (take (colon_place text) text)
    && ((colon_place text == length text) || is_library_or_executable (drop (colon_place text + 1) text))

unfoldable pub is_name_character : ℕ → Bool
is_name_character b = is_ascii_alphanumeric b || (b == 95) || (b == 39)

-- a capital letter, and then characters of names (`conid` of the Haskell 2010 Report, section 2.4)
abbrev pub is_module_part : Text → Bool
is_module_part [] = false
is_module_part (b ∷ bs) = is_ascii_uppercase b && list_all is_name_character bs

-- parts with dots between them (`modid` of the Haskell 2010 Report, section 5.1)
unfoldable pub is_module_name : Text → Bool
is_module_name text = list_all is_module_part (slice_split (λ b. b == 46) text)
