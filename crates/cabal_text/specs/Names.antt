-- Names of dependencies, and lists of names of modules.
use Rattle.std.specs.Prelude.{ℕ, ◌+◌, Bool, Option, Some, None, List, [], ◌∷◌, length, take, drop, codes, ◌==◌, ◌||◌}
use Rattle.std.specs.Prelude.{◌&&◌, if◌then◌else◌}
use Rattle.bp_base.specs.Names.{colon_place, is_module_name, is_package_name}
use Rattle.bp_base.specs.declared.linking.Rename.{Rename}
use Rattle.cabal_text.specs.declared.tokens.Brackets.TheVariants.{Round}
use Rattle.cabal_text.specs.Fields.{items_of}
use Rattle.cabal_text.specs.Tokens.{is_text, items_at, without_comma, each_read}

-- `p` or `p:s`
unfoldable pub is_dependency : List ℕ → Bool
is_dependency text =
    is_package_name (take (colon_place text) text)
    && ((colon_place text == length text) || is_package_name (drop (colon_place text + 1) text))

abbrev pub rename : List ℕ → List ℕ → Rename
rename from to = record { from = from; to = to }

-- `A` or `A as B`
abbrev pub rename_of : List (List ℕ) → Option Rename
rename_of [] = None
rename_of (from ∷ []) = if is_module_name from then Some (rename from from) else None
rename_of (from ∷ word ∷ []) = None
rename_of (from ∷ word ∷ to ∷ []) =
    if is_module_name from && is_text word (codes "as") && is_module_name to then Some (rename from to) else None
rename_of (from ∷ word ∷ to ∷ next ∷ more) = None

-- renames between commas
abbrev pub renames_of : List (List ℕ) → Option (List Rename)
renames_of tokens = each_read rename_of (items_at Round 0 (without_comma tokens))

-- a module's name alone
abbrev pub name_of : List (List ℕ) → Option (List ℕ)
name_of [] = None
name_of (name ∷ []) = if is_module_name name then Some name else None
name_of (name ∷ next ∷ more) = None

-- module names between commas
abbrev pub names_of : List (List ℕ) → Option (List (List ℕ))
names_of tokens = each_read name_of (items_at Round 0 (without_comma tokens))

-- the text where it is a module's name
abbrev pub module_name : List ℕ → Option (List ℕ)
module_name text = if is_module_name text then Some text else None

-- module names between spaces and commas
abbrev pub module_names : List ℕ → Option (List (List ℕ))
module_names value = each_read module_name (items_of value)
