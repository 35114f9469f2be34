use Rattle.hs_declaration_forms.specs.Typings.{ops, op_form}
use Rattle.hs_declaration_forms.proofs.FlatLemmas.{flat_answers}
use Rattle.hs_declaration_forms.proofs.ListLemmas.{op_flat}
use Rattle.hs_typings.proofs.fixities.read_one.Goals as goal

pub returns : goal.returns
returns c = flat_answers op_form ops op_flat c.args.limit c.args.tokens.now _ c.read_op.ensures
