use Rattle.std.proofs.lemmas.Result.{err_from_is_err_and}
use Rattle.hs_declaration_forms.proofs.NewtypeLemmas.{body_con_failed, body_failed, body_took}
use Rattle.hs_datatypes.proofs.newtypes.read_body.Goals as goal

pub returns-in_err-con : goal.returns-in_err-con
returns-in_err-con c =
    let p = err_from_is_err_and c.from_residual.result c.from_residual.ensures.1 in
    rw (p.1, p.2) (body_con_failed c.args.limit c.args.tokens.now _ c.in_err-con.ensures)

pub returns-in_err-atype : goal.returns-in_err-atype
returns-in_err-atype c =
    let p = err_from_is_err_and c.from_residual-in_err-atype.result c.from_residual-in_err-atype.ensures.1 in
    rw (p.1, p.2) (body_failed c.args.limit c.args.tokens.now _ _ _ c.in_ok-con.ensures _ c.in_err-atype.ensures)

pub returns : goal.returns
returns c = body_took c.args.limit c.args.tokens.now _ _ _ c.in_ok-con.ensures _ _ _ c.in_ok-atype.ensures
