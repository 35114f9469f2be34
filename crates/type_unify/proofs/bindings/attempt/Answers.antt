use Rattle.std.proofs.Common.{subst}
use Rattle.type_unify.specs.Written.{spelled}
use Rattle.type_unify.specs.Outcomes.{Solved}
use Rattle.type_unify.proofs.SpellingLemmas.{spelled_is}
use Rattle.type_unify.proofs.StackingLemmas.{OnOk-then}
use Rattle.type_unify.proofs.AttemptingLemmas.{TakenIn-is, Both-taken, Attempted-solved}
use Rattle.type_unify.proofs.bindings.attempt.Goals as goal

pub returns-clause-ok : goal.returns-clause-ok
returns-clause-ok c =
    OnOk-then c.solve.result
    (λ h. Attempted-solved c.args.cells.now.items c.take_in-2.new.cells.items c.args.entries.now.entries
    c.solve.new.entries.entries c.args.s.now c.args.t.now c.in_ok-one.one c.in_ok-other.other
    (Both-taken c.args.cells.now.items c.take_in.new.cells.items c.take_in-2.new.cells.items c.args.entries.now.entries
    c.args.s.now c.args.t.now c.in_ok-one.one c.in_ok-other.other c.requires
    (TakenIn-is c.args.cells.now.items c.take_in.new.cells.items
    (spelled c.nodes.result.now) c.args.s.now c.in_ok-one.one c.in_ok-one.ensures.ok
    (spelled_is c.nodes.result.now c.args.s.now c.nodes.ensures))
    (TakenIn-is c.take_in.new.cells.items c.take_in-2.new.cells.items
    (spelled c.nodes-2.result.now) c.args.t.now c.in_ok-other.other c.in_ok-other.ensures.ok
    (spelled_is c.nodes-2.result.now c.args.t.now c.nodes-2.ensures)))
    (subst (λ v. Solved v c.args.entries.now.entries c.solve.new.entries.entries c.in_ok-one.one c.in_ok-other.other)
    c.deref.ensures.value h))
    c.solve.ensures.ok
