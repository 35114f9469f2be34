-- The package files that a project file names, and the lines of it that are refused.
use Rattle.std.specs.Prelude.{◌≡◌, ℕ, Bool, Option, Some, None, List, [], ◌∷◌, ◌++◌, map, codes, nat_lt, ◌||◌}
use Rattle.std.specs.Prelude.{if◌then◌else◌}
use Rattle.std.specs.List.{filter, flat_map, list_any}
use Rattle.cabal_text.specs.declared.lines.Line.{Line}
use Rattle.cabal_stanzas.specs.declared.project.ProjectError.{ProjectError}
use Rattle.cabal_stanzas.specs.declared.project.ProjectError.TheVariants.{ProjectSyntax, NoMemory}
use Rattle.cabal_text.specs.Lines.{Block, blocks, deeper_than}
use Rattle.cabal_text.specs.Fields.{field_of, first_word, is_word, items_of}
use Rattle.cabal_stanzas.specs.Folder.{trimmed, is_refused_item, package_file}

-- the package files that a list names
abbrev pub files_of : List ℕ → List (List ℕ)
files_of text = map (λ item. package_file (trimmed item)) (items_of text)

-- the line is refused where an item of its list is
abbrev pub refused_at : ℕ → List ℕ → List ℕ
refused_at number text = if list_any is_refused_item (items_of text) then number ∷ [] else []

-- the heads of conditionals
unfoldable pub is_conditional : List ℕ → Bool
is_conditional word = is_word word (codes "if") || is_word word (codes "elif") || is_word word (codes "else")

-- the lines between the head of a stanza and the indent of its first line
abbrev pub shallow_lines : List Line → List ℕ
shallow_lines [] = []
shallow_lines (l ∷ ls) = map (λ x. x.number) (filter (λ x. nat_lt x.indent l.indent) ls)

-- the package files that a top-level field names
abbrev pub field_files : List ℕ × List ℕ → List Line → List (List ℕ)
field_files field deeper =
    if is_word field.0 (codes "packages") then files_of field.1 ++ flat_map (λ l. files_of l.text) deeper else []

-- the lines of a top-level field that are refused
abbrev pub field_refused : ℕ → List ℕ × List ℕ → List Line → List ℕ
field_refused number field deeper =
    if is_word field.0 (codes "import") then number ∷ [] else
    (if is_word field.0 (codes "packages") then refused_at number field.1
    ++ flat_map (λ l. refused_at l.number l.text) deeper else [])

-- the lines of a stanza that are refused
abbrev pub stanza_refused : Line → List Line → List ℕ
stanza_refused l deeper = if is_conditional (first_word l.text) then l.number ∷ [] else shallow_lines deeper

abbrev pub files_if : Option (List ℕ × List ℕ) → Block → List (List ℕ)
files_if None block = []
files_if (Some field) block = field_files field block.deeper

abbrev pub refused_if : Option (List ℕ × List ℕ) → Block → List ℕ
refused_if None block = stanza_refused block.line block.deeper
refused_if (Some field) block = field_refused block.line.number field block.deeper

-- the package files that a block of indent 0 names
abbrev pub block_files : Block → List (List ℕ)
block_files block = files_if (field_of block.line.text) block

-- its lines that are refused
abbrev pub block_refused : Block → List ℕ
block_refused block = refused_if (field_of block.line.text) block

-- the package files that the lines of a project file name
abbrev pub project_files : List Line → List (List ℕ)
project_files ls = flat_map block_files (blocks 0 ls)

-- the lines of a project file that are refused, in their order; the first ones have nothing before them that they go on
abbrev pub project_refused : List Line → List ℕ
project_refused ls = map (λ l. l.number) (deeper_than 0 ls) ++ flat_map block_refused (blocks 0 ls)

-- the first of numbers
abbrev pub first_of : List ℕ → Option ℕ
first_of [] = None
first_of (n ∷ ns) = Some n

-- the error names the first refused line
abbrev pub NamesFirst : ProjectError → List ℕ → Type 0
NamesFirst (ProjectSyntax line) refused = first_of refused ≡ Some line
NamesFirst NoMemory refused = Unit {0}
