use Rattle.std.proofs.lemmas.Result.{err_from_is_err_and}
use Rattle.hs_declaration_forms.proofs.DataLemmas.{data_none, data_no_name, data_fails, data_took, empty_took}
use Rattle.hs_datatypes.proofs.datas.read_data.Goals as goal

pub returns-in_default : goal.returns-in_default
returns-in_default c = data_none c.args.limit c.args.tokens.now c.in_default.ensures

pub returns-in_default-after_own_con : goal.returns-in_default-after_own_con
returns-in_default-after_own_con c =
    data_no_name c.args.limit c.args.tokens.now _ c.in-Some.ensures c.in_default-after_own_con.ensures

pub returns-in_default-after_equals : goal.returns-in_default-after_equals
returns-in_default-after_equals c =
    rw (c.in_ok-name.ensures, c.as_bytes.ensures) (empty_took c.args.limit _ c.in_ok-params.params.names
    c.in-Some-after_own_con.ensures.1 c.args.tokens.now _ _ _ c.in-Some.ensures c.in-Some-after_own_con.ensures.0
    c.in_ok-params.ensures.front c.in_ok-params.ensures.all c.in_default-after_equals.ensures)

pub returns-in_err-constrs : goal.returns-in_err-constrs
returns-in_err-constrs c =
    let p = err_from_is_err_and c.from_residual-in_err-constrs.result c.from_residual-in_err-constrs.ensures.1 in
    rw (p.1, p.2) (data_fails c.args.limit _ c.in_ok-params.params.names c.in-Some-after_own_con.ensures.1
    c.args.tokens.now _ _ _ c.in-Some.ensures c.in-Some-after_own_con.ensures.0 c.in_ok-params.ensures.front _
    c.in-Some-after_equals.ensures _ c.in_err-constrs.ensures)

pub returns : goal.returns
returns c =
    rw (c.in_ok-name.ensures, c.as_bytes.ensures) (data_took c.args.limit _ c.in_ok-params.params.names
    c.in-Some-after_own_con.ensures.1 c.args.tokens.now _ _ _ c.in-Some.ensures c.in-Some-after_own_con.ensures.0
    c.in_ok-params.ensures.front _ c.in-Some-after_equals.ensures _ _ _ c.in_ok-constrs.ensures)
