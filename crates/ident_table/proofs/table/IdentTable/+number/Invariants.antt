use Rattle.std.proofs.Common.{◌≡◌, ◌⊎◌, length, take}
use Rattle.bp_base.specs.Lists.{Among}
use Rattle.bp_base.specs.declared.ident.Ident.{Ident}
use Rattle.ident_table.specs.Parts.{terms_in_fills}
use Rattle.ident_table.specs.Numbers.{fills_of, AreFillsBelow, Grows}
use Rattle.ident_table.proofs.table.IdentTable.+number.Given as goal

abbrev pub invariant-number_fills-loop-fill : goal.invariant-number_fills-loop-fill
invariant-number_fills-loop-fill l =
    (fills_of l.self l.numbers ≡ take l.fill-index l.fills)
    × AreFillsBelow (length l.self) l.numbers
    × Grows l.initial.self l.self
    × ((t : Ident) → Among t l.self → Among t l.initial.self ⊎ Among t (terms_in_fills (take l.fill-index l.fills)))
