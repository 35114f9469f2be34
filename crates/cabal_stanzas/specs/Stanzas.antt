-- The fields and stanzas of a package file.
use Rattle.std.specs.Prelude.{ℕ, Bool, Option, Some, None, List, [], ◌∷◌, ◌++◌, map, nat_lt, ◌==◌, ◌||◌, ◌&&◌, not}
use Rattle.std.specs.Prelude.{is_some, if◌then◌else◌}
use Rattle.std.specs.List.{filter, filter_map, flat_map}
use Rattle.std.specs.Str.{str_to_ascii_lowercase}
use Rattle.cabal_text.specs.declared.lines.Line.{Line}
use Rattle.cabal_stanzas.specs.declared.stanzas.Field.{Field}
use Rattle.cabal_text.specs.Lines.{Block, blocks}
use Rattle.cabal_text.specs.Fields.{field_of}
use Rattle.cabal_text.specs.Tokens.{is_text}

-- a name in small letters
unfoldable pub in_small : List ℕ → List ℕ
in_small name = str_to_ascii_lowercase name

-- a value over several lines: each has a line feed before it
abbrev pub joined : List ℕ → List Line → List ℕ
joined value deeper = value ++ flat_map (λ l. 10 ∷ l.text) deeper

abbrev pub field_if : Option (List ℕ × List ℕ) → Line → List Line → Option Field
field_if None l deeper = None
field_if (Some field) l deeper =
    Some (record { line = l.number; name = in_small field.0; value = joined field.1 deeper })

-- the field that a block is
abbrev pub field_in : Block → Option Field
field_in block = field_if (field_of block.line.text) block.line block.deeper

-- the fields at an indent
abbrev pub fields_at : ℕ → List Line → List Field
fields_at indent ls = filter_map field_in (blocks indent ls)

-- the line stands before the indent, or at it and is no field
abbrev pub is_odd : ℕ → Line → Bool
is_odd indent l = nat_lt l.indent indent || ((l.indent == indent) && not (is_some (field_of l.text)))

-- the lines of a stanza that its indent refuses
abbrev pub odd_lines : ℕ → List Line → List ℕ
odd_lines indent ls = map (λ l. l.number) (filter (is_odd indent) ls)

-- the indent of a stanza
abbrev pub indent_in : List Line → ℕ
indent_in [] = 0
indent_in (l ∷ ls) = l.indent

-- the field has this name
abbrev pub is_named : List ℕ → Field → Bool
is_named name f = is_text f.name name

-- the lines of the fields of a name
abbrev pub lines_named : List ℕ → List Field → List ℕ
lines_named name fs = map (λ g. g.line) (filter (λ g. is_named name g) fs)

-- the value of the first field of a name; nothing where there is none
abbrev pub value_named : List ℕ → List Field → List ℕ
value_named name [] = []
value_named name (f ∷ fs) = if is_named name f then f.value else value_named name fs
