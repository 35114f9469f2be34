use Rattle.std.proofs.Common.{subst, ◌∙◌}
use Rattle.kind_env.specs.Listings.{known_kind}
use Rattle.type_drafts.specs.declared.uses.TypeUse.{TypeUse}
use Rattle.kind_module.specs.Faults.{IllKinded, all_are, Finds}
use Rattle.kind_module.specs.Tests.{IsStarKinded, values_kinded}
use Rattle.kind_module.proofs.written.values_kinded.Goals as goal

pub returns : goal.returns
unfolding values_kinded
returns c =
    subst (λ z. Finds (all_are (λ (u : TypeUse). IsStarKinded (known_kind c.args.env.now.names) u.ty) (λ u. IllKinded u.name) z)
    c.all_kinded.result) (c.as_slice.ensures ∙ c.in_ok-uses.ensures) c.all_kinded.ensures
