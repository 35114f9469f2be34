-- Each way out of the loop is a lemma of `ListLemmas`.
use Rattle.std.proofs.Common.{sym, ◌∙◌, true≢false}
use Rattle.std.proofs.lemmas.Result.{err_from_is_err_and}
use Rattle.hs_headers.proofs.ListLemmas.{reading_first, reading_step, reading_some, item_fails, shut_ok, shut_missed}
use Rattle.hs_headers.proofs.ListLemmas.{part_missed, trailing_ok}
use Rattle.hs_headers.proofs.listed.read_some.Goals as goal

pub parts-init : goal.parts-init
parts-init g c = rw c.new-parts.ensures (reading_first g.P.Listed.element c.args.tokens.now c.requires)

pub returns-in_err-part : goal.returns-in_err-part
returns-in_err-part g c =
    let p = err_from_is_err_and c.from_residual.result c.from_residual.ensures.1 in
    rw (p.1, p.2) (item_fails g.P.Listed.element c.args.trailing c.args.tokens.now _ _ _ c.parts.invariant.before
    (sym c.begins_part.ensures ∙ c.parts-test.true) c.in_err-part.ensures)

pub parts-preserved : goal.parts-preserved
parts-preserved g c =
    rw c.in_ok-push.ensures.ok (reading_step g.P.Listed.element c.args.tokens.now _ _ _ _ _ _ c.parts.invariant
    c.in_ok-part.ensures c.in-Some.ensures)

pub returns-in_default-after_right_paren : goal.returns-in_default-after_right_paren
returns-in_default-after_right_paren g c =
    shut_missed g.P.Listed.element c.args.trailing c.args.tokens.now _ _ _ _ c.parts.invariant.before
    c.in_ok-part.ensures.spelled c.in_ok-part.ensures.reads c.in_default.ensures c.in_default-after_right_paren.ensures

pub returns-in_default : goal.returns-in_default
returns-in_default g c =
    rw c.in_ok-push.ensures.ok (shut_ok g.P.Listed.element c.args.trailing c.args.tokens.now _ _ _ _ _
    c.parts.invariant.before c.in_ok-part.ensures.spelled c.in_ok-part.ensures.reads
    c.in-Some-after_right_paren.ensures)

pub returns-then-not-trailing : goal.returns-then-not-trailing
returns-then-not-trailing g c =
    let ends = sym c.begins_part.ensures ∙ c.parts-test.false in
    part_missed g.P.Listed.element c.args.trailing c.args.tokens.now _ _ c.parts.invariant.before
    (reading_some g.P.Listed.element c.args.tokens.now _ _ c.parts.invariant ends) ends
    (λ may. absurd (true≢false (sym may ∙ c.if-not-trailing.true)))

pub returns-in_default-after_right_paren-2 : goal.returns-in_default-after_right_paren-2
returns-in_default-after_right_paren-2 g c =
    let ends = sym c.begins_part.ensures ∙ c.parts-test.false in
    part_missed g.P.Listed.element c.args.trailing c.args.tokens.now _ _ c.parts.invariant.before
    (reading_some g.P.Listed.element c.args.tokens.now _ _ c.parts.invariant ends) ends
    (λ may. c.in_default-after_right_paren-2.ensures)

pub returns : goal.returns
returns g c =
    let ends = sym c.begins_part.ensures ∙ c.parts-test.false in
    trailing_ok g.P.Listed.element c.args.trailing c.args.tokens.now _ _ _ c.parts.invariant.before
    (reading_some g.P.Listed.element c.args.tokens.now _ _ c.parts.invariant ends) c.if-not-trailing.false
    c.in-Some-after_right_paren-2.ensures
