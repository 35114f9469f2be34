use Rattle.std.proofs.Common.{refl}
use Rattle.type_unify.proofs.SteppingLemmas.{Advance-none, Advance-some}
use Rattle.type_unify.proofs.RunLemmas.{Reached-start, Reached-bind, unbound-bind, no_entry, Solved-done}
use Rattle.type_unify.proofs.RunLemmas.{NotSolvable-refused, NotSolvable-occurs}
use Rattle.type_unify.proofs.solve.solve.Goals as goal

pub bindings-init : goal.bindings-init
bindings-init c =
    Reached-start c.args.cells.now c.args.entries.now.entries c.in_ok-stack.stack.items c.args.one c.args.other
    c.requires.stands c.requires.first c.requires.second c.in_ok-stack.ensures

pub returns-in-Ok-None-clause-ok : goal.returns-in-Ok-None-clause-ok
returns-in-Ok-None-clause-ok c =
    Solved-done c.args.cells.now c.args.entries.now.entries c.bindings.entries.entries c.bindings.stack.items c.args.one
    c.args.other c.bindings.invariant
    (Advance-none c.args.cells.now c.bindings.entries.entries c.bindings.stack.items c.advance.new.stack.items
    c.in-Ok-None.field-0 c.in-Ok-None.ensures.ok c.in-Ok-None.field-0-is)

pub returns-then-branch-clause-none : goal.returns-then-branch-clause-none
returns-then-branch-clause-none c =
    λ _. NotSolvable-occurs c.args.cells.now c.args.entries.now.entries c.bindings.entries.entries
    c.bindings.stack.items c.advance.new.stack.items c.args.one c.args.other c.in-Ok-Some.field-0-0.id
    c.in-Ok-Some.field-0-0.to c.in_ok-occurs-in-Ok-Some.field-0 c.bindings.invariant
    (Advance-some c.args.cells.now c.bindings.entries.entries c.bindings.stack.items c.advance.new.stack.items
    c.in-Ok-Some.field-0 c.in-Ok-Some.field-0-0 c.in-Ok-Some.ensures.ok c.in-Ok-Some.field-0-is)
    c.in_ok-occurs-in-Ok-Some.ensures c.if-branch.true

pub bind-requires : goal.bind-requires
bind-requires c =
    no_entry c.args.cells.now c.bindings.entries.entries c.bindings.stack.items c.advance.new.stack.items
    c.in-Ok-Some.field-0-0.id c.in-Ok-Some.field-0-0.to c.bindings.invariant.stands
    (Advance-some c.args.cells.now c.bindings.entries.entries c.bindings.stack.items c.advance.new.stack.items
    c.in-Ok-Some.field-0 c.in-Ok-Some.field-0-0 c.in-Ok-Some.ensures.ok c.in-Ok-Some.field-0-is)

pub bindings-smaller : goal.bindings-smaller
bindings-smaller c =
    unbound-bind c.args.cells.now c.bindings.entries.entries c.bindings.stack.items c.advance.new.stack.items
    c.bind.new.entries.entries c.in-Ok-Some.field-0-0.id c.in-Ok-Some.field-0-0.to _ refl
    (Advance-some c.args.cells.now c.bindings.entries.entries c.bindings.stack.items c.advance.new.stack.items
    c.in-Ok-Some.field-0 c.in-Ok-Some.field-0-0 c.in-Ok-Some.ensures.ok c.in-Ok-Some.field-0-is)
    c.in_ok-bind-in-Ok-Some.ensures.ok

pub bindings-preserved : goal.bindings-preserved
bindings-preserved c =
    Reached-bind c.args.cells.now c.args.entries.now.entries c.bindings.entries.entries c.bindings.stack.items
    c.advance.new.stack.items c.bind.new.entries.entries c.args.one c.args.other c.in-Ok-Some.field-0-0.id
    c.in-Ok-Some.field-0-0.to c.in_ok-occurs-in-Ok-Some.field-0 c.bindings.invariant
    (Advance-some c.args.cells.now c.bindings.entries.entries c.bindings.stack.items c.advance.new.stack.items
    c.in-Ok-Some.field-0 c.in-Ok-Some.field-0-0 c.in-Ok-Some.ensures.ok c.in-Ok-Some.field-0-is)
    c.in_ok-occurs-in-Ok-Some.ensures c.if-branch.false c.in_ok-bind-in-Ok-Some.ensures.ok

pub returns-in-Err-clause-none : goal.returns-in-Err-clause-none
returns-in-Err-clause-none c =
    λ e. NotSolvable-refused c.args.cells.now c.args.entries.now.entries c.bindings.entries.entries
    c.bindings.stack.items c.args.one c.args.other c.bindings.invariant (c.in-Err.ensures.none e)
