-- The last guard tells.
use Rattle.std.proofs.Common.{◌∙◌, ap, sym}
use Rattle.std.specs.Prelude.{not}
use Rattle.hs_blocks.proofs.GuardListLemmas.{fit_at, fit_alone}
use Rattle.hs_blocks.proofs.guards.fit.Goals as goal

pub returns-in-Some : goal.returns-in-Some
returns-in-Some c =
    ap not c.ends_in_type.ensures ∙ fit_at c.args.first.now c.args.rest.now c.in-Some.guard.now
    (sym c.in-Some.ensures.value)

pub returns-in-None : goal.returns-in-None
returns-in-None c =
    ap not c.ends_in_type-in-None.ensures ∙ fit_alone c.args.first.now c.args.rest.now (sym c.in-None.ensures.value)
