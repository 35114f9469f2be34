use Rattle.std.proofs.Common.{List, sym, subst}
use Rattle.hs_core.specs.declared.group.UseList.{UseList}
use Rattle.hs_core.specs.Groups.{InRange}
use Rattle.hs_core.proofs.group.groups.Goals as goal

pub post_order-requires : goal.post_order-requires
post_order-requires c = subst (λ (g : List UseList). InRange g) (sym c.as_slice.ensures) c.requires

pub gathered-requires-clause-in_range : goal.gathered-requires-clause-in_range
gathered-requires-clause-in_range c = subst (λ (g : List UseList). InRange g) (sym c.as_slice-2.ensures) c.requires
