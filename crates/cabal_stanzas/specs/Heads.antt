-- The package's name, and the heads of stanzas (Cabal manual, "package properties", "library", "executables").
use Rattle.std.specs.Prelude.{ℕ, Bool, false, Option, Some, None, List, [], ◌∷◌, ◌++◌, length, drop, codes, ◌||◌}
use Rattle.std.specs.Prelude.{is_some, if◌then◌else◌}
use Rattle.cabal_text.specs.Tokens.{tokens_of}
use Rattle.bp_base.specs.Names.{is_package_name}
use Rattle.cabal_text.specs.Fields.{field_of, first_word, is_word}
use Rattle.cabal_text.specs.declared.lines.Line.{Line}
use Rattle.cabal_stanzas.specs.declared.stanzas.Field.{Field}
use Rattle.cabal_stanzas.specs.declared.heads.Head.{Head}
use Rattle.cabal_stanzas.specs.declared.heads.Head.TheVariants.{Component, Common, Ignored, Other}
use Rattle.cabal_stanzas.specs.declared.table.Kind.{Kind}
use Rattle.cabal_stanzas.specs.declared.table.Kind.TheVariants.{Library, Executable}
use Rattle.cabal_stanzas.specs.Stanzas.{is_named, lines_named, value_named}

-- a package's name and nothing else
abbrev pub is_name_value : List (List ℕ) → Bool
is_name_value [] = false
is_name_value (name ∷ []) = is_package_name name
is_name_value (name ∷ next ∷ more) = false

-- a field without a package's name as its value
abbrev pub bad_name : Field → List ℕ
bad_name f = if is_name_value (tokens_of f.value) then [] else f.line ∷ []

-- line 1 where there is no field of the name; a bad value; each such field after the first
abbrev pub refused_names : List Field → List ℕ
refused_names [] = 1 ∷ []
refused_names (f ∷ fs) = if is_named (codes "name") f then bad_name f
    ++ lines_named (codes "name") fs else refused_names fs

-- the first word, or nothing
abbrev pub leading : List (List ℕ) → List ℕ
leading [] = []
leading (word ∷ words) = word

-- the package's name, of the top-level fields
abbrev pub package_of : List Field → List ℕ
package_of fs = leading (tokens_of (value_named (codes "name") fs))

-- a stanza that is read over
unfoldable pub is_ignored : List ℕ → Bool
is_ignored word =
    is_word word (codes "flag") || is_word word (codes "source-repository") || is_word word (codes "test-suite")
    || is_word word (codes "benchmark") || is_word word (codes "custom-setup") || is_word word (codes "foreign-library")

abbrev pub library_head : List (List ℕ) → Head
library_head [] = Component Library []
library_head (name ∷ []) = if is_package_name name then Component Library name else Other
library_head (name ∷ next ∷ more) = Other

abbrev pub executable_head : List (List ℕ) → Head
executable_head [] = Other
executable_head (name ∷ []) = if is_package_name name then Component Executable name else Other
executable_head (name ∷ next ∷ more) = Other

-- the words of a head: the first ends at a space, the others are tokens
abbrev pub head_words : List ℕ → List (List ℕ)
head_words text = first_word text ∷ tokens_of (drop (length (first_word text)) text)

-- what a head begins
abbrev pub head_of : List (List ℕ) → Head
head_of [] = Other
head_of (word ∷ words) =
    if is_word word (codes "library") then library_head words else
    (if is_word word (codes "executable") then executable_head words else
    (if is_word word (codes "common") then Common else
    (if is_ignored word then Ignored else Other)))

-- the head that a line of indent 0 is; none where it is a field
abbrev pub head_at : Line → Option Head
head_at l = if is_some (field_of l.text) then None else Some (head_of (head_words l.text))

-- the name of a library of a package: `p`, or `p:s`
abbrev pub library_name : List ℕ → List ℕ → List ℕ
library_name owner [] = owner
library_name owner (b ∷ bs) = owner ++ codes ":" ++ b ∷ bs

-- the name of a component: that of a library, or `p:exe:e`
abbrev pub component_name : List ℕ → Kind → List ℕ → List ℕ
component_name owner Library name = library_name owner name
component_name owner Executable name = owner ++ codes ":exe:" ++ name
