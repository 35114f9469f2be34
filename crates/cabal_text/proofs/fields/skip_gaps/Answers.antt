use Rattle.std.proofs.Common.{◌∙◌, sym, arith}
use Rattle.std.proofs.lemmas.Grind.{common_steps}
use Rattle.cabal_text.proofs.ListedLemmas.{items_skip}
use Rattle.cabal_text.proofs.fields.skip_gaps.Goals as goal

pub loop-rest-preserved : goal.loop-rest-preserved
loop-rest-preserved c = (
  items_skip c.loop-rest.rest.now c.in-len1-up.len_at_least (sym c.is_gap.ensures ∙ c.if-not-is_gap.false)
      ∙ c.loop-rest.invariant.0,
  grind (arith, common_steps),
)
