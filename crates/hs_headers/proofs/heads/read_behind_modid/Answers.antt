use Rattle.std.proofs.lemmas.Result.{err_from_is_err_and}
use Rattle.hs_headers.proofs.HeadLemmas.{exporting_ok, exporting_fails, exporting_open}
use Rattle.hs_headers.proofs.heads.read_behind_modid.Goals as goal

pub returns-in_err-exports : goal.returns-in_err-exports
returns-in_err-exports c =
    let p = err_from_is_err_and c.from_residual-in_err-exports.result c.from_residual-in_err-exports.ensures.1 in
    rw (p.1, p.2) (exporting_fails c.args.name.now c.args.tokens.now c.in_default.ensures _ c.in_err-exports.ensures)

pub returns-in_default-after_where : goal.returns-in_default-after_where
returns-in_default-after_where c =
    exporting_open c.args.name.now c.args.tokens.now c.in_default.ensures _ _ _ c.in_ok-exports.ensures
    c.in_default-after_where.ensures

pub returns : goal.returns
returns c =
    rw (c.in_ok-name.ensures, c.as_bytes.ensures) (exporting_ok c.args.name.now c.args.tokens.now
    c.in_default.ensures _ _ _ _
    c.in_ok-exports.ensures c.in-Some-after_where.ensures)
