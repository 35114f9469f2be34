use Rattle.std.proofs.Common.{subst, ◌∙◌}
use Rattle.kind_check.specs.Answers.{known_synonyms}
use Rattle.type_drafts.specs.declared.uses.TypeUse.{TypeUse}
use Rattle.kind_module.specs.Faults.{Misused, all_are, Finds}
use Rattle.kind_module.specs.Tests.{IsFull, uses_full}
use Rattle.kind_module.proofs.written.uses_full.Goals as goal

pub returns : goal.returns
unfolding uses_full
returns c =
    subst (λ z. Finds (all_are (λ (u : TypeUse). IsFull (known_synonyms c.args.env.now.names) u.ty) (λ u. Misused u.name) z)
    c.all_full.result) (c.as_slice.ensures ∙ c.in_ok-uses.ensures) c.all_full.ensures
