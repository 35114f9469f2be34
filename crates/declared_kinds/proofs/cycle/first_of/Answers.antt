use Rattle.std.proofs.Common.{◌≡◌, refl, sym, subst, true, false, get_or}
use Rattle.bp_base.specs.Lists.{Among}
use Rattle.declared_kinds.specs.Cycles.{IsOnCycle}
use Rattle.declared_kinds.proofs.CycleLemmas.{among-at, bad-at, good-next, take-whole}
use Rattle.declared_kinds.proofs.cycle.first_of.Goals as goal

pub is_on_cycle-requires-clause-there : goal.is_on_cycle-requires-clause-there
is_on_cycle-requires-clause-there c = c.requires.there (get_or c.args.numbers.now c.loop-index.index 0)
    (among-at c.args.numbers.now c.loop-index.index (get_or c.args.numbers.now c.loop-index.index 0) 0
    c.loop-index-test.true refl)

pub returns-then-is_on_cycle-clause-some : goal.returns-then-is_on_cycle-clause-some
returns-then-is_on_cycle-clause-some c =
    bad-at (λ i. IsOnCycle c.args.uses.now i → ⊥) c.args.numbers.now c.loop-index.index _ 0 c.loop-index-test.true refl
    c.loop-index.invariant (λ g. g (c.if-is_on_cycle.ensures.0 refl))

pub loop-index-preserved : goal.loop-index-preserved
loop-index-preserved c =
    good-next (λ i. IsOnCycle c.args.uses.now i → ⊥) c.args.numbers.now c.loop-index.index _ 0 c.loop-index-test.true
    refl c.loop-index.invariant (λ o. let t : false ≡ true = c.if-is_on_cycle.ensures.1 o in absurd cc)

pub returns-clause-none : goal.returns-clause-none
returns-clause-none c = λ i a.
    c.loop-index.invariant i (subst (λ z. Among i z)
    (sym (take-whole c.args.numbers.now c.loop-index.index c.loop-index-test.false)) a)
