use Rattle.std.proofs.Common.{refl, sym, ◌∙◌, true≢false}
use Rattle.std.proofs.lemmas.List.{drop_more}
use Rattle.type_groups.proofs.UseLemmas.{number_past, number_here}
use Rattle.type_groups.proofs.uses.place_of.Goals as goal

pub returns-then-same_orig_name : goal.returns-then-same_orig_name
returns-then-same_orig_name c =
    c.loop-index.invariant ∙ number_here c.loop-index.index _ _ _ c.args.name.now
    (drop_more c.args.decls.now c.loop-index.index c.index-decls-index.result c.loop-index-test.true)
    (c.if-same_orig_name.ensures.0 refl)

pub loop-index-preserved : goal.loop-index-preserved
loop-index-preserved c =
    c.loop-index.invariant ∙ number_past c.loop-index.index _ _ _ c.args.name.now
    (drop_more c.args.decls.now c.loop-index.index c.index-decls-index.result c.loop-index-test.true)
    (λ e. true≢false (sym (c.if-same_orig_name.ensures.1 e)))
