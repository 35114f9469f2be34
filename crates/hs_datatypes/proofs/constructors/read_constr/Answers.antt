use Rattle.hs_declaration_forms.proofs.ConstrLemmas.{constr_infix}
use Rattle.hs_datatypes.proofs.constructors.read_constr.Goals as goal

pub returns-in-Ok : goal.returns-in-Ok
returns-in-Ok c =
    constr_infix c.args.limit c.args.tokens.now _ _ _ c.in-Ok.ensures
