use Rattle.std.proofs.Common.{ap}
use Rattle.kind_check.specs.Answers.{known_synonyms}
use Rattle.type_drafts.specs.declared.uses.TypeUse.{TypeUse}
use Rattle.kind_module.specs.Faults.{Misused}
use Rattle.kind_module.specs.Tests.{IsFull}
use Rattle.declared_kinds.proofs.CycleLemmas.{bad-at, good-next}
use Rattle.kind_module.proofs.LoopLemmas.{all_good, untrue, holds}
use Rattle.kind_module.proofs.written.all_full.Goals as goal

pub returns-then-not-branch : goal.returns-then-not-branch
returns-then-not-branch c = (
  c.index-uses-index.result,
  bad-at (λ (u : TypeUse). IsFull (known_synonyms c.args.env.now.names) u.ty) c.args.uses.now c.loop-index.index
      c.index-uses-index.result c.index-uses-index.result
      c.loop-index-test.true c.index-uses-index.is c.loop-index.invariant
      (untrue c.in_ok-is_applied.field-0 _ c.if-not-branch.true c.in_ok-is_applied.ensures),
  ap Misused c.in_ok-copied.ensures,
)

pub loop-index-preserved : goal.loop-index-preserved
loop-index-preserved c =
    good-next (λ (u : TypeUse). IsFull (known_synonyms c.args.env.now.names) u.ty) c.args.uses.now c.loop-index.index
    c.index-uses-index.result c.index-uses-index.result
    c.loop-index-test.true c.index-uses-index.is c.loop-index.invariant
    (holds c.in_ok-is_applied.field-0 _ c.if-not-branch.false c.in_ok-is_applied.ensures)

pub returns : goal.returns
returns c =
    all_good (λ (u : TypeUse). IsFull (known_synonyms c.args.env.now.names) u.ty) c.args.uses.now c.loop-index.index
    c.loop-index-test.false c.loop-index.invariant
