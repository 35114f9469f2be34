-- The bytes of patterns.
use Rattle.std.specs.Prelude.{ℕ, List, map}
use Rattle.hs_core.specs.declared.tree.Pat.{Pat}
use Rattle.flat_text.specs.Marks.{written}
use Rattle.flat_text.specs.PatternMarks.{pat_marks}
use Rattle.flat_text.specs.Texts.{led_text}

abbrev pub pat_text : Pat → List ℕ
pat_text pat = written (pat_marks pat)

-- patterns, the first with one text before it, each further one with another
unfoldable pub pats_text : List ℕ → List ℕ → List Pat → List ℕ
pats_text lead by pats = led_text lead by (map pat_text pats)
