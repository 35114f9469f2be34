use Rattle.std.proofs.lemmas.Result.{err_from_is_err_and}
use Rattle.hs_declarations.proofs.KindedLemmas.{kinded_none, kinded_no_name, kinded_open, kinded_fails, kinded_ok}
use Rattle.hs_declarations.proofs.kinded.read_kinded.Goals as goal

pub returns-in_default : goal.returns-in_default
returns-in_default c =
    kinded_none c.args.limit c.args.tokens.now c.in_default.ensures

pub returns-in_default-after_own_con : goal.returns-in_default-after_own_con
returns-in_default-after_own_con c =
    kinded_no_name c.args.limit c.args.tokens.now _ c.in-Some.ensures c.in_default-after_own_con.ensures

pub returns-in_default-after_double_colon : goal.returns-in_default-after_double_colon
returns-in_default-after_double_colon c =
    kinded_open c.args.limit _ c.in-Some-after_own_con.ensures.1 c.args.tokens.now _ _ c.in-Some.ensures
    c.in-Some-after_own_con.ensures.0 c.in_default-after_double_colon.ensures

pub returns-in_err-kind : goal.returns-in_err-kind
returns-in_err-kind c =
    let p = err_from_is_err_and c.from_residual.result c.from_residual.ensures.1 in
    rw (p.1, p.2) (kinded_fails c.args.limit _ c.in-Some-after_own_con.ensures.1 c.args.tokens.now _ _ _ _
    c.in-Some.ensures
    c.in-Some-after_own_con.ensures.0 c.in-Some-after_double_colon.ensures c.in_err-kind.ensures)

pub returns : goal.returns
returns c =
    rw (c.in_ok-name.ensures, c.as_bytes.ensures) (kinded_ok c.args.limit _ c.in-Some-after_own_con.ensures.1
    c.args.tokens.now _ _ _ _ _ _
    c.in-Some.ensures c.in-Some-after_own_con.ensures.0 c.in-Some-after_double_colon.ensures c.in_ok-kind.ensures)
