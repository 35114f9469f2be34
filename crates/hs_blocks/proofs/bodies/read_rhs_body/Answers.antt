use Rattle.std.proofs.Common.{◌∙◌, sym}
use Rattle.std.proofs.lemmas.Result.{err_from_is_err_and}
use Rattle.hs_block_forms.proofs.BodyLemmas.{rhs_none, equals_failed, equals_took, guarded_failed, guarded_took}
use Rattle.hs_blocks.proofs.bodies.read_rhs_body.Goals as goal

pub returns-in_err-exp : goal.returns-in_err-exp
returns-in_err-exp g c =
    let p = err_from_is_err_and c.from_residual.result c.from_residual.ensures.1 in
    rw (p.1, p.2) (equals_failed c.args.limit c.args.tokens.now _ c.in-Some.ensures _ c.in_err-exp.ensures)

pub returns-in-Some : goal.returns-in-Some
returns-in-Some g c = equals_took c.args.limit c.args.tokens.now _ c.in-Some.ensures _ _ _ c.in_ok-exp.ensures

pub returns-then-not-begins_bar : goal.returns-then-not-begins_bar
returns-then-not-begins_bar g c =
    rhs_none c.args.limit c.args.tokens.now c.in_default.ensures (sym c.begins_bar.ensures ∙ c.if-not-begins_bar.true)

pub returns-in_err-guarded : goal.returns-in_err-guarded
returns-in_err-guarded g c =
    let p = err_from_is_err_and c.from_residual-in_err-guarded.result c.from_residual-in_err-guarded.ensures.1 in
    rw (p.1, p.2) (guarded_failed c.args.limit c.args.tokens.now
    (sym c.begins_bar.ensures ∙ c.if-not-begins_bar.false) _ c.in_err-guarded.ensures)

pub returns : goal.returns
returns g c =
    rw (c.guarded_equals.ensures.tree, c.guarded_equals.ensures.rest, c.guarded_equals.ensures.depth)
    (guarded_took c.args.limit c.args.tokens.now (sym c.begins_bar.ensures ∙ c.if-not-begins_bar.false) _ _ _
    c.in_ok-guarded.ensures)
