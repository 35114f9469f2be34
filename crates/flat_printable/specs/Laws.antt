-- What holds of the flat text of each printable module.
use Rattle.std.specs.Prelude.{◌≡◌, Bool, true, ◌&&◌, List, map}
use Rattle.std.specs.List.{flat_map}
use Rattle.hs_forms.specs.Limits.{all_of}
use Rattle.flat_text.specs.declared.flat.FlatModule.{FlatModule}
use Rattle.flat_lines.specs.Lines.{cut_text, flat_text}
use Rattle.flat_whole.specs.PrintableModule.{is_printable_module}
use Rattle.flat_whole.specs.Whole.{SpellsModule}
use Rattle.flat_printable.specs.Names.{has_lawful_names}
use Rattle.flat_printable.specs.Literals.{has_lawful_literals}

-- A module has a text of the grammar: each part fits its place, and its names and literals are read as themselves.
abbrev pub is_printable : FlatModule → Bool
is_printable m = is_printable_module m && (has_lawful_names m && has_lawful_literals m)

-- The flat text of each printable module has tokens that are their own layout and spell a module.
abbrev pub PrintableTextsAreSpelled : Type 0
PrintableTextsAreSpelled = (m : FlatModule) → is_printable m ≡ true → SpellsModule (flat_text m)

-- Of printable modules the texts, one behind the other, are cut into these texts again.
abbrev pub PrintableTextsFallApart : Type 0
PrintableTextsFallApart = (ms : List FlatModule) → all_of (map is_printable ms) ≡ true
    → cut_text (flat_map flat_text ms) ≡ map flat_text ms
