use Rattle.std.proofs.Common.{ap, sym, ◌∙◌}
use Rattle.std.specs.Prelude.{unwrap_or}
use Rattle.hs_core.specs.Types.{kind_term, star}
use Rattle.kind_module.proofs.SchemeLemmas.{if_ok}
use Rattle.kind_module.proofs.ExpandLemmas.{known_is, unknown_is}
use Rattle.kind_module.proofs.expand.noted_kind.Goals as goal

pub returns-in-Some : goal.returns-in-Some
returns-in-Some c =
    if_ok c.copied.result _ _ (λ k e. ap kind_term e
    ∙ sym (ap (λ o. unwrap_or o star) (known_is c.args.known.now c.args.name.now _ c.in-Some.ensures.some)))
    c.copied.ensures

pub returns-in-None : goal.returns-in-None
returns-in-None c =
    sym (ap (λ o. unwrap_or o star) (unknown_is c.args.known.now c.args.name.now c.in-None.ensures.none))
