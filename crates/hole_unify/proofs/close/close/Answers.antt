use Rattle.std.proofs.Common.{◌≡◌, length, ap, ◌∙◌, rules, arith}
use Rattle.std.proofs.lemmas.Grind.{common_steps}
use Rattle.hole_unify.proofs.CloseLemmas.{started, ended, clash-met, step-met, step-less, taken-below, rest-below}
use Rattle.hole_unify.proofs.NumberingLemmas.{upto-length}
use Rattle.hole_unify.proofs.close.close.Goals as goal

pub steps-init : goal.steps-init
steps-init c = (
  ap length c.requires.classes ∙ upto-length (length c.args.table.now),
  c.requires.pairs,
  started c.args.table.now c.args.pairs.items c.args.classes.now c.requires.table c.requires.classes,
)

pub join_pair-requires-clause-pair : goal.join_pair-requires-clause-pair
join_pair-requires-clause-pair c = taken-below (length c.args.table.now) c.steps.pending.items c.pop.new.self.items
    c.pop.result c.in-Some.pair c.steps.invariant.1 c.pop.ensures.items c.in-Some.is

pub join_pair-requires-clause-below : goal.join_pair-requires-clause-below
join_pair-requires-clause-below c = rest-below (length c.args.table.now) c.steps.pending.items c.pop.new.self.items
    c.pop.result c.in-Some.pair c.steps.invariant.1 c.pop.ensures.items c.in-Some.is

pub returns-in-Some-2-clause-ends : goal.returns-in-Some-2-clause-ends
returns-in-Some-2-clause-ends c =
    clash-met c.args.table.now c.steps.classes c.steps.pending.items c.pop.new.self.items c.pop.result c.in-Some.pair
    c.pop.ensures.items c.in-Some.is
    c.args.pairs.items c.steps.invariant.2 c.in_ok-heads.field-0 c.in-Some-2.heads c.in-Some-2.is
    c.in_ok-heads.ensures.heads

pub steps-smaller : goal.steps-smaller
steps-smaller c =
    step-less c.args.table.now c.steps.classes c.steps.pending.items c.pop.new.self.items c.pop.result c.in-Some.pair
    c.pop.ensures.items c.in-Some.is
    c.join_pair.new.classes c.join_pair.new.pending.items c.in_ok-heads.ensures.pairs c.in_ok-heads.ensures.classes

pub steps-preserved : goal.steps-preserved
steps-preserved c = (
  c.in_ok-heads.ensures.length ∙ c.steps.invariant.0,
  c.in_ok-heads.ensures.below,
  step-met c.args.table.now c.steps.classes c.steps.pending.items c.pop.new.self.items c.pop.result c.in-Some.pair
      c.pop.ensures.items c.in-Some.is
      c.join_pair.new.classes c.join_pair.new.pending.items c.in_ok-heads.ensures.pairs c.in_ok-heads.ensures.classes
      c.args.pairs.items c.steps.invariant.2 c.in_ok-heads.field-0 c.in_default-2.is c.in_ok-heads.ensures.heads,
)

pub returns-clause-ends : goal.returns-clause-ends
returns-clause-ends c =
    let none : length c.steps.pending.items ≡ 0 = first_of
    (search rules, omega (arith, c.in_default.ensures.cases), grind (arith, common_steps)) in
    ended c.args.table.now c.args.pairs.items c.steps.classes c.steps.pending.items c.steps.invariant.2 none
