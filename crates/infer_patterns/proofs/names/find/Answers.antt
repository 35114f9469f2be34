use Rattle.std.proofs.Common.{sym, ap, ◌∙◌}
use Rattle.infer_patterns.proofs.NameLemmas.{named-there, unknown-next, unknown-all, false-true}
use Rattle.infer_patterns.proofs.names.find.Goals as goal

pub returns-then-same_orig_name-clause-some : goal.returns-then-same_orig_name-clause-some
returns-then-same_orig_name-clause-some c =
    named-there c.args.names.now c.loop-index.index c.index-names-index-then-same_orig_name.result
    c.loop-index-test.true c.index-names-index-then-same_orig_name.is

pub returns-clause-none : goal.returns-clause-none
returns-clause-none c = unknown-all c.args.names.now c.args.name.now c.loop-index.index c.loop-index-test.false
    c.loop-index.invariant

pub loop-index-preserved : goal.loop-index-preserved
loop-index-preserved c = unknown-next c.args.names.now c.args.name.now c.loop-index.index c.index-names-index.result
    c.loop-index-test.true c.index-names-index.is
    (λ e. false-true (c.if-same_orig_name.ensures.1 (ap (λ d. d.name) (sym c.index-names-index.is) ∙ e)))
    c.loop-index.invariant
