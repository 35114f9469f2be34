use Rattle.type_expand.proofs.TypeLemmas.{within_nothing, then_within, else_within}
use Rattle.type_expand.proofs.apply.+is_within.Goals as goal

pub returns-then-limit-eq0 : goal.returns-then-limit-eq0
returns-then-limit-eq0 t c = within_nothing _ c.args.limit c.if-limit-eq0.true

pub returns-then-is_within : goal.returns-then-is_within
returns-then-is_within t c =
    then_within c.args.ty.now _ _ _ _ c.args.limit _ _ c.in-App.is c.get.ensures c.get-then-is_within.ensures
    c.if-limit-eq0.false c.is_within.ensures c.is_within-then-is_within.ensures c.if-is_within.true

pub returns-else-is_within : goal.returns-else-is_within
returns-else-is_within t c =
    else_within c.args.ty.now _ _ _ c.args.limit _ c.in-App.is c.get.ensures c.if-limit-eq0.false c.is_within.ensures
    c.if-is_within.false
