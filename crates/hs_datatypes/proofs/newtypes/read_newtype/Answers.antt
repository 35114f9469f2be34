use Rattle.std.proofs.lemmas.Result.{err_from_is_err_and}
use Rattle.hs_declaration_forms.proofs.NewtypeLemmas.{newtype_none, newtype_no_name, newtype_open, newtype_fails}
use Rattle.hs_declaration_forms.proofs.NewtypeLemmas.{newtype_took}
use Rattle.hs_datatypes.proofs.newtypes.read_newtype.Goals as goal

pub returns-in_default : goal.returns-in_default
returns-in_default c = newtype_none c.args.limit c.args.tokens.now c.in_default.ensures

pub returns-in_default-after_own_con : goal.returns-in_default-after_own_con
returns-in_default-after_own_con c =
    newtype_no_name c.args.limit c.args.tokens.now _ c.in-Some.ensures c.in_default-after_own_con.ensures

pub returns-in_default-after_equals : goal.returns-in_default-after_equals
returns-in_default-after_equals c =
    newtype_open c.args.limit _ c.in_ok-params.params.names
    c.in-Some-after_own_con.ensures.1 c.args.tokens.now _ _ _ c.in-Some.ensures c.in-Some-after_own_con.ensures.0
    c.in_ok-params.ensures.front c.in_ok-params.ensures.all c.in_default-after_equals.ensures

pub returns-in_err-body : goal.returns-in_err-body
returns-in_err-body c =
    let p = err_from_is_err_and c.from_residual-in_err-body.result c.from_residual-in_err-body.ensures.1 in
    rw (p.1, p.2) (newtype_fails c.args.limit _ c.in_ok-params.params.names c.in-Some-after_own_con.ensures.1
    c.args.tokens.now _ _ _ c.in-Some.ensures c.in-Some-after_own_con.ensures.0 c.in_ok-params.ensures.front _
    c.in-Some-after_equals.ensures _ c.in_err-body.ensures)

pub returns : goal.returns
returns c =
    rw (c.in_ok-name.ensures, c.as_bytes.ensures) (newtype_took c.args.limit _ c.in_ok-params.params.names
    c.in-Some-after_own_con.ensures.1 c.args.tokens.now _ _ _ c.in-Some.ensures c.in-Some-after_own_con.ensures.0
    c.in_ok-params.ensures.front _ c.in-Some-after_equals.ensures _ _ _ c.in_ok-body.ensures)
