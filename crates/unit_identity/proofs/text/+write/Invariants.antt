use Rattle.std.proofs.Common.{◌≡◌, ◌++◌, drop}
use Rattle.unit_identity.specs.Text.{pieces_of}
use Rattle.unit_identity.proofs.text.+write.Given as goal

abbrev pub invariant-write_fills-loop-each : goal.invariant-write_fills-loop-each
invariant-write_fills-loop-each l = l.out.items ++ pieces_of (drop l.each-index l.fills) l.mark ≡ l.initial.out.items
    ++ pieces_of l.fills 91
