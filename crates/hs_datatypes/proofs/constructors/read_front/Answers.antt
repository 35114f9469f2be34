use Rattle.hs_declaration_forms.specs.Datatypes.{cons, con_form}
use Rattle.hs_declaration_forms.proofs.FlatLemmas.{flat_answers}
use Rattle.hs_declaration_forms.proofs.ConLemmas.{con_flat}
use Rattle.hs_datatypes.proofs.constructors.read_front.Goals as goal

pub returns : goal.returns
returns c = flat_answers con_form cons con_flat c.args.limit c.args.tokens.now _ c.read_con.ensures
