use Rattle.std.proofs.Common.{refl}
use Rattle.hs_core.specs.Types.{type_term}
use Rattle.type_expand.proofs.ExpandLemmas.{can_start, expands_alone, deeper}
use Rattle.type_expand.proofs.replace.expand.Goals as goal

pub returns-then-is_within-clause-ok : goal.returns-then-is_within-clause-ok
returns-then-is_within-clause-ok c = (
  expands_alone c.as_slice-known.result.now c.args.env.now.names (type_term c.args.ty.now)
      (type_term c.in-Ok.whole) c.new.result c.as_slice-known.ensures c.new.ensures c.in-Ok.ensures.ok,
  c.if-is_within.ensures.0 refl,
)

pub returns-else-is_within-clause-err : goal.returns-else-is_within-clause-err
returns-else-is_within-clause-err c = (
  type_term c.in-Ok.whole,
  expands_alone c.as_slice-known.result.now c.args.env.now.names (type_term c.args.ty.now)
      (type_term c.in-Ok.whole) c.new.result c.as_slice-known.ensures c.new.ensures c.in-Ok.ensures.ok,
  deeper _ 1000 c.if-is_within.ensures.1,
)

pub returns-in-Err-Synonym-clause-err : goal.returns-in-Err-Synonym-clause-err
returns-in-Err-Synonym-clause-err c x =
    c.in-Err-Synonym.ensures.none c.in-Err-Synonym.field-0-is
    (can_start c.as_slice-known.result.now c.args.env.now.names (type_term c.args.ty.now) c.new.result
    c.as_slice-known.ensures c.new.ensures x)
