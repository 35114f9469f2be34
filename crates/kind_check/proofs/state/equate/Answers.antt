use Rattle.kind_check.proofs.FormLemmas.{equated, not_equal}
use Rattle.kind_check.proofs.state.equate.Goals as goal

pub returns-in-Ok-clause-ok : goal.returns-in-Ok-clause-ok
returns-in-Ok-clause-ok c =
    equated c.args.bindings.now c.unify.new.bindings c.args.next c.args.s.now c.args.t.now c.requires.ready
    c.requires.first c.requires.second c.in-Ok.ensures.ok

pub returns-in-Err-NoUnifier-clause-none : goal.returns-in-Err-NoUnifier-clause-none
returns-in-Err-NoUnifier-clause-none c =
    λ _. not_equal c.args.bindings.now c.args.next c.args.s.now c.args.t.now c.requires.first c.requires.second
    (c.in-Err-NoUnifier.ensures.none c.in-Err-NoUnifier.field-0-is)
