use Rattle.std.proofs.Common.{◌≡◌, true, false, ap, ◌∙◌}
use Rattle.hs_scopes.specs.Chains.{fits_left}
use Rattle.chain_readings.specs.Pieces.{pieces_at}
use Rattle.chain_readings.proofs.ReaderLemmas.{left_is}
use Rattle.chain_readings.proofs.reader.left_section.Goals as goal

pub returns-then-fits_left : goal.returns-then-fits_left
returns-then-fits_left c =
    left_is (pieces_at c.args.chain.now) c.args.operator c.in_ok-operand.operand true c.in_ok-operand.ensures
    (c.if-fits_left.ensures ∙ ap (λ o. fits_left o c.args.operator) c.last_applied.ensures)

pub returns-else-fits_left : goal.returns-else-fits_left
returns-else-fits_left c =
    left_is (pieces_at c.args.chain.now) c.args.operator c.in_ok-operand.operand false c.in_ok-operand.ensures
    (c.if-fits_left.ensures ∙ ap (λ o. fits_left o c.args.operator) c.last_applied.ensures)
