-- The lines of a package file that are refused.
use Rattle.std.specs.Prelude.{ℕ, Bool, Option, None, Some, List, [], ◌∷◌, ◌++◌, drop, map, codes, not, is_some}
use Rattle.std.specs.Prelude.{if◌then◌else◌}
use Rattle.std.specs.List.{filter, flat_map, list_any}
use Rattle.bp_base.specs.Lists.{is_among}
use Rattle.cabal_text.specs.declared.lines.Line.{Line}
use Rattle.cabal_text.specs.Lines.{Block, blocks, deeper_than}
use Rattle.cabal_stanzas.specs.declared.heads.Head.{Head}
use Rattle.cabal_stanzas.specs.declared.heads.Head.TheVariants.{Component, Common, Ignored, Other}
use Rattle.cabal_stanzas.specs.declared.table.Kind.{Kind}
use Rattle.cabal_stanzas.specs.declared.table.Kind.TheVariants.{Library, Executable}
use Rattle.cabal_stanzas.specs.declared.table.ComponentField.{ComponentField}
use Rattle.cabal_stanzas.specs.declared.table.ComponentField.TheVariants.{MainIs}
use Rattle.cabal_stanzas.specs.Project.{shallow_lines}
use Rattle.cabal_stanzas.specs.Stanzas.{fields_at, odd_lines, indent_in}
use Rattle.cabal_stanzas.specs.Heads.{refused_names, head_at}
use Rattle.cabal_stanzas.specs.Table.{component_field, is_field, all_fields}
use Rattle.cabal_component.specs.declared.given.Given.{Given}
use Rattle.cabal_component.specs.declared.package.Listing.{Listing}
use Rattle.cabal_component.specs.Given.{givens, lines_of, modules_in}

-- the field has no value of its form, or may not stand there
abbrev pub is_unread : Given → Bool
is_unread g = not (is_some g.value)

abbrev pub unread_lines : List Given → List ℕ
unread_lines gs = map (λ g. g.line) (filter is_unread gs)

abbrev pub has_main : List Given → Bool
has_main gs = list_any (λ g. is_field g.field MainIs) gs

-- an executable needs its main file
abbrev pub main_refused : Kind → ℕ → List Given → List ℕ
main_refused Library head gs = []
main_refused Executable head gs = if has_main gs then [] else head ∷ []

-- the lines that give a field again: all but the first
abbrev pub given_again : List Given → ComponentField → List ℕ
given_again gs field = drop 1 (lines_of field gs)

abbrev pub repeated : List Given → List ℕ
repeated gs = flat_map (given_again gs) all_fields

abbrev pub place : ℕ → List ℕ → Listing
place line name = record { line = line; name = name }

-- the modules or signatures that a field lists, each with the line of the field
abbrev pub placed_in : Given → List Listing
placed_in g = map (place g.line) (modules_in g.value)

-- the module `Main` of an executable stands at its head
abbrev pub main_place : Kind → ℕ → List Listing
main_place Library head = []
main_place Executable head = place head (codes "Main") ∷ []

-- the own modules and signatures, as listed
abbrev pub placed : Kind → ℕ → List Given → List Listing
placed kind head gs = main_place kind head ++ flat_map placed_in gs

-- the lines of the places at which a name stands that stood before
abbrev pub twice_after : List (List ℕ) → List Listing → List ℕ
twice_after seen [] = []
twice_after seen (p ∷ ps) = (if is_among p.name seen then p.line ∷ [] else []) ++ twice_after (seen ++ p.name ∷ []) ps

abbrev pub twice_lines : List Listing → List ℕ
twice_lines ps = twice_after [] ps

-- the refused lines of the fields of a component whose head has this line
abbrev pub fields_refused : Kind → ℕ → List Given → List ℕ
fields_refused kind head gs =
    (main_refused kind head gs ++ unread_lines gs) ++ (repeated gs ++ twice_lines (placed kind head gs))

-- what the fields of a component give
abbrev pub givens_in : Kind → List Line → List Given
givens_in kind deeper = givens kind (fields_at (indent_in deeper) deeper)

-- the refused lines of a component
abbrev pub component_refused : Kind → Line → List Line → List ℕ
component_refused kind l deeper =
    odd_lines (indent_in deeper) deeper ++ fields_refused kind l.number (givens_in kind deeper)

-- those of a common stanza: a field that some component reads may not stand there
abbrev pub common_refused : List Line → List ℕ
common_refused deeper =
    shallow_lines deeper ++ map (λ f. f.line) (filter (λ f. is_some (component_field f.name))
    (fields_at (indent_in deeper) deeper))

abbrev pub stanza_refused : Option Head → Line → List Line → List ℕ
stanza_refused None l deeper = []
stanza_refused (Some (Component kind name)) l deeper = component_refused kind l deeper
stanza_refused (Some Common) l deeper = common_refused deeper
stanza_refused (Some Ignored) l deeper = shallow_lines deeper
stanza_refused (Some Other) l deeper = l.number ∷ []

-- the refused lines of a block of indent 0
abbrev pub block_refused : Block → List ℕ
block_refused block = stanza_refused (head_at block.line) block.line block.deeper

abbrev pub blocks_refused : List Line → List ℕ
blocks_refused ls = flat_map block_refused (blocks 0 ls)

-- the refused lines of a package file
abbrev pub package_refused : List Line → List ℕ
package_refused ls =
    refused_names (fields_at 0 ls) ++ (map (λ l. l.number) (deeper_than 0 ls) ++ blocks_refused ls)
