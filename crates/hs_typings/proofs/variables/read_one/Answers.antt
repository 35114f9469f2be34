use Rattle.hs_headers.specs.Names.{var_form}
use Rattle.hs_declaration_forms.specs.Typings.{vars}
use Rattle.hs_declaration_forms.proofs.FlatLemmas.{flat_answers}
use Rattle.hs_declaration_forms.proofs.ListLemmas.{var_flat}
use Rattle.hs_typings.proofs.variables.read_one.Goals as goal

pub returns : goal.returns
returns c = flat_answers var_form vars var_flat c.args.limit c.args.tokens.now _ c.read_var.ensures
