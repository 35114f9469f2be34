use Rattle.std.proofs.Common.{◌≡◌, true, false, ap, ◌∙◌}
use Rattle.hs_scopes.specs.Chains.{fits_right}
use Rattle.chain_readings.specs.Pieces.{pieces_at}
use Rattle.chain_readings.proofs.ReaderLemmas.{right_is}
use Rattle.chain_readings.proofs.reader.right_section.Goals as goal

pub returns-then-fits_right : goal.returns-then-fits_right
returns-then-fits_right c =
    right_is c.args.operator (pieces_at c.args.chain.now) c.in_ok-operand.operand true c.in_ok-operand.ensures
    (c.if-fits_right.ensures ∙ ap (λ o. fits_right o c.args.operator) c.last_applied.ensures)

pub returns-else-fits_right : goal.returns-else-fits_right
returns-else-fits_right c =
    right_is c.args.operator (pieces_at c.args.chain.now) c.in_ok-operand.operand false c.in_ok-operand.ensures
    (c.if-fits_right.ensures ∙ ap (λ o. fits_right o c.args.operator) c.last_applied.ensures)
