use Rattle.std.proofs.Common.{refl, sym, true≢false}
use Rattle.std.proofs.lemmas.List.{drop_more}
use Rattle.kind_check.proofs.ScopeLemmas.{missed_here, missed_more, stands_below}
use Rattle.kind_check.proofs.scope.place_in_group.Goals as goal

pub returns-then-same_orig_name : goal.returns-then-same_orig_name
returns-then-same_orig_name c =
    let s = missed_here c.args.decls.now c.args.name.now c.loop-index.index _ _ _
    (drop_more c.args.decls.now c.loop-index.index c.index-decls-index.result c.loop-index-test.true)
    (c.if-same_orig_name.ensures.0 refl) c.loop-index.invariant in
    (s, stands_below _ _ _ s)

pub loop-index-preserved : goal.loop-index-preserved
loop-index-preserved c =
    missed_more c.args.decls.now c.args.name.now c.loop-index.index _ _ _
    (drop_more c.args.decls.now c.loop-index.index c.index-decls-index.result c.loop-index-test.true)
    (λ e. true≢false (sym (c.if-same_orig_name.ensures.1 e))) c.loop-index.invariant
