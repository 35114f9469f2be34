use Rattle.std.proofs.Common.{rules, arith, length, ◌≡◌, [], ◌∷◌, ◌++◌}
use Rattle.std.proofs.lemmas.Grind.{common_steps}
use Rattle.type_unify.specs.Cells.{seen}
use Rattle.type_unify.proofs.SteppingLemmas.{Step-none, Step-some, first_within, Follows-step, weight-step, Asks-after}
use Rattle.type_unify.proofs.SteppingLemmas.{HaveNoSolution-after, AllEqual-done}
use Rattle.type_unify.proofs.solve.advance.Goals as goal

pub step-requires-clause-first : goal.step-requires-clause-first
step-requires-clause-first c =
    (first_within (seen c.args.cells.now c.args.entries.now.entries)
    (length c.args.cells.now) c.args.stack.now.items c.loop-one.stack.items c.pop.new.self.items
    (c.in-Some.one, c.in-Some.other) c.loop-one.invariant c.requires.within c.in-Some.ensures.items).0

pub step-requires-clause-second : goal.step-requires-clause-second
step-requires-clause-second c =
    (first_within (seen c.args.cells.now c.args.entries.now.entries)
    (length c.args.cells.now) c.args.stack.now.items c.loop-one.stack.items c.pop.new.self.items
    (c.in-Some.one, c.in-Some.other) c.loop-one.invariant c.requires.within c.in-Some.ensures.items).1

pub loop-one-preserved : goal.loop-one-preserved
loop-one-preserved c =
    Follows-step (seen c.args.cells.now c.args.entries.now.entries)
    (length c.args.cells.now) c.args.stack.now.items c.loop-one.stack.items c.pop.new.self.items
    c.step.new.stack.items (c.in-Some.one, c.in-Some.other) c.loop-one.invariant c.in-Some.ensures.items
    (Step-none c.args.cells.now c.args.entries.now.entries
    (c.pop.new.self.items ++ (c.in-Some.one, c.in-Some.other) ∷ []) c.step.new.stack.items c.in-Ok-None.field-0
    c.in-Ok-None.ensures.ok c.in-Ok-None.field-0-is)

pub loop-one-smaller : goal.loop-one-smaller
loop-one-smaller c =
    weight-step (seen c.args.cells.now c.args.entries.now.entries)
    (length c.args.cells.now) c.loop-one.stack.items c.pop.new.self.items c.step.new.stack.items
    (c.in-Some.one, c.in-Some.other) c.in-Some.ensures.items
    (Step-none c.args.cells.now c.args.entries.now.entries
    (c.pop.new.self.items ++ (c.in-Some.one, c.in-Some.other) ∷ []) c.step.new.stack.items c.in-Ok-None.field-0
    c.in-Ok-None.ensures.ok c.in-Ok-None.field-0-is)

pub returns-in-Ok-Some-clause-ok : goal.returns-in-Ok-Some-clause-ok
returns-in-Ok-Some-clause-ok c =
    Asks-after c.args.cells.now c.args.entries.now.entries c.args.stack.now.items c.loop-one.stack.items
    c.pop.new.self.items c.step.new.stack.items
    (c.in-Some.one, c.in-Some.other) c.in-Ok-Some.wanted.id c.in-Ok-Some.wanted.to c.loop-one.invariant
    c.in-Some.ensures.items
    (Step-some c.args.cells.now c.args.entries.now.entries
    (c.pop.new.self.items ++ (c.in-Some.one, c.in-Some.other) ∷ []) c.step.new.stack.items c.in-Ok-Some.field-0
    c.in-Ok-Some.wanted c.in-Ok-Some.ensures.ok c.in-Ok-Some.field-0-is)

pub returns-in-Err-clause-none : goal.returns-in-Err-clause-none
returns-in-Err-clause-none c =
    λ e. HaveNoSolution-after (seen c.args.cells.now c.args.entries.now.entries)
    (length c.args.cells.now) c.args.stack.now.items c.loop-one.stack.items c.pop.new.self.items
    (c.in-Some.one, c.in-Some.other) c.loop-one.invariant c.in-Some.ensures.items (c.in-Err.ensures.none e)

pub returns-clause-ok : goal.returns-clause-ok
returns-clause-ok c =
    let empty : c.loop-one.stack.items ≡ [] = first_of (search rules, grind (arith, common_steps)) in
    AllEqual-done (seen c.args.cells.now c.args.entries.now.entries)
    (length c.args.cells.now) c.args.stack.now.items c.loop-one.stack.items c.loop-one.invariant empty
