use Rattle.hs_declaration_forms.proofs.ConstrLemmas.{constr_prefix, constr_fails}
use Rattle.hs_datatypes.proofs.constructors.read_other.Goals as goal

pub returns-in-Ok : goal.returns-in-Ok
returns-in-Ok c =
    constr_prefix c.args.limit c.args.tokens.now _ _ _ c.in-Ok.ensures.answers c.in-Ok.ensures.ends

pub returns-in-Err-At : goal.returns-in-Err-At
returns-in-Err-At c =
    let r = rw c.in-Err-At.field-0-is at c.in-Err-At.ensures.answers in
    rw c.min.ensures (constr_fails c.args.limit c.args.tokens.now c.args.left _ c.requires r)
