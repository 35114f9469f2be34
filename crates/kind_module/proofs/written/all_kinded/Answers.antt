use Rattle.std.proofs.Common.{ap}
use Rattle.kind_env.specs.Listings.{known_kind}
use Rattle.type_drafts.specs.declared.uses.TypeUse.{TypeUse}
use Rattle.kind_module.specs.Faults.{IllKinded}
use Rattle.kind_module.specs.Tests.{IsStarKinded}
use Rattle.declared_kinds.proofs.CycleLemmas.{bad-at, good-next}
use Rattle.kind_module.proofs.LoopLemmas.{all_good, untrue, holds}
use Rattle.kind_module.proofs.written.all_kinded.Goals as goal

pub returns-then-not-branch : goal.returns-then-not-branch
returns-then-not-branch c = (
  c.index-uses-index.result,
  bad-at (λ (u : TypeUse). IsStarKinded (known_kind c.args.env.now.names) u.ty) c.args.uses.now c.loop-index.index
      c.index-uses-index.result c.index-uses-index.result
      c.loop-index-test.true c.index-uses-index.is c.loop-index.invariant
      (untrue c.in_ok-is_star_kinded.field-0 _ c.if-not-branch.true c.in_ok-is_star_kinded.ensures),
  ap IllKinded c.in_ok-copied.ensures,
)

pub loop-index-preserved : goal.loop-index-preserved
loop-index-preserved c =
    good-next (λ (u : TypeUse). IsStarKinded (known_kind c.args.env.now.names) u.ty) c.args.uses.now c.loop-index.index
    c.index-uses-index.result c.index-uses-index.result
    c.loop-index-test.true c.index-uses-index.is c.loop-index.invariant
    (holds c.in_ok-is_star_kinded.field-0 _ c.if-not-branch.false c.in_ok-is_star_kinded.ensures)

pub returns : goal.returns
returns c =
    all_good (λ (u : TypeUse). IsStarKinded (known_kind c.args.env.now.names) u.ty) c.args.uses.now c.loop-index.index
    c.loop-index-test.false c.loop-index.invariant
