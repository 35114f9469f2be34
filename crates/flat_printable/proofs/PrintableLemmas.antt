-- The flat texts of printable modules.
use Rattle.std.proofs.Common.{◌≡◌, true, List, [], ◌∷◌, map, refl}
use Rattle.std.specs.Prelude.{◌&&◌}
use Rattle.std.specs.List.{flat_map}
use Rattle.std.proofs.lemmas.Bool.{and_parts, and_from}
use Rattle.hs_forms.specs.Limits.{all_of}
use Rattle.hs_tokens.specs.declared.terminal.Terminal.{Terminal}
use Rattle.hs_tokens.specs.declared.terminal.Terminal.TheVariants as t
use Rattle.flat_text.specs.declared.flat.FlatModule.{FlatModule}
use Rattle.flat_text.specs.Marks.{Mark, Marks, seen}
use Rattle.flat_text.specs.ModuleMarks.{module_marks}
use Rattle.flat_laws.specs.Reading.{AreLawful}
use Rattle.flat_lines.specs.Lines.{keeps_line, keeps_lines}
use Rattle.flat_lines.proofs.ApartLemmas.{texts_fall_apart}
use Rattle.flat_whole.specs.PrintableModule.{is_printable_module}
use Rattle.flat_whole.proofs.WholeLemmas.{whole_spelled}
use Rattle.flat_printable.specs.Names.{is_lawful_name, are_named, has_lawful_names}
use Rattle.flat_printable.specs.Literals.{has_lawful_literals}
use Rattle.flat_printable.specs.Laws.{is_printable, PrintableTextsAreSpelled, PrintableTextsFallApart}
use Rattle.flat_printable.proofs.LiteralLemmas.{Literals, with_literal, module_read}
use Rattle.flat_printable.proofs.NameLemmas.{terminal_read}

-- marks whose names are lawful and whose literals are read
record AreRead (ms : Marks) : Type 0 where
  lawful : AreLawful (seen ms)
  keep : all_of (map keeps_line (seen ms)) ≡ true

marks_read : (ms : Marks) → are_named ms ≡ true → Literals ms → AreRead ms
marks_read [] e h = record { lawful = tt; keep = refl }
marks_read (Mark.blank b ∷ ms) e h = let it = marks_read ms e h in record { lawful = it.lawful; keep = it.keep }
marks_read (Mark.word x ∷ ms) e h =
    let both = and_parts (is_lawful_name x) (are_named ms) e in
    let one = terminal_read x (Literals ms) both.0 h in
    let it = marks_read ms both.1 (rest x h) in
    record {
      lawful = (λ _. one.lawful, it.lawful);
      keep = and_from (keeps_line x) (all_of (map keeps_line (seen ms))) one.keeps it.keep;
    }
  where
    rest : (y : Terminal) → with_literal y (Literals ms) → Literals ms
    rest (t.Integer digits) g = g.1
    rest (t.Char literal) g = g.1
    rest (t.Text literal) g = g.1
    rest _ g = g

-- what a printable module is
record Printed (m : FlatModule) : Type 0 where
  fits : is_printable_module m ≡ true
  read : AreRead (module_marks m)

printed : (m : FlatModule) → is_printable m ≡ true → Printed m
printed m e =
    let one = and_parts (is_printable_module m) (has_lawful_names m && has_lawful_literals m) e in
    let two = and_parts (has_lawful_names m) (has_lawful_literals m) one.1 in
    record { fits = one.0; read = marks_read (module_marks m) two.0 (module_read m two.1) }

pub printable_spelled : PrintableTextsAreSpelled
printable_spelled m e = let it = printed m e in whole_spelled m it.read.lawful it.fits

all_keep : (ms : List FlatModule) → all_of (map is_printable ms) ≡ true → all_of (map keeps_lines ms) ≡ true
all_keep [] e = refl
all_keep (m ∷ ms) e =
    let both = and_parts (is_printable m) (all_of (map is_printable ms)) e in
    and_from (keeps_lines m) (all_of (map keeps_lines ms)) (printed m both.0).read.keep (all_keep ms both.1)

pub printable_apart : PrintableTextsFallApart
printable_apart ms e = texts_fall_apart ms (all_keep ms e)
