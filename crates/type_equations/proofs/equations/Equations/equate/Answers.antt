use Rattle.std.specs.Prelude.{map}
use Rattle.hs_core.specs.Types.{kind_term}
use Rattle.type_equations.proofs.StateLemmas.{equates, refuses}
use Rattle.type_equations.proofs.equations.Equations.equate.Goals as goal

pub returns-in-Ok-clause-ok : goal.returns-in-Ok-clause-ok
returns-in-Ok-clause-ok c = equates _ _
    (map kind_term c.args.self.now.kinds.items) c.args.s.now c.args.t.now c.in-Ok.ensures.ok

pub returns-in-Err-NoUnifier-clause-none : goal.returns-in-Err-NoUnifier-clause-none
returns-in-Err-NoUnifier-clause-none c = λ _. refuses _
    (map kind_term c.args.self.now.kinds.items) c.args.s.now c.args.t.now
    (c.in-Err-NoUnifier.ensures.none c.in-Err-NoUnifier.field-0-is)
