use Rattle.std.proofs.Common.{List, subst}
use Rattle.std.specs.Prelude.{◌↔◌, IsTrue}
use Rattle.hs_core.specs.declared.group.UseList.{UseList}
use Rattle.hs_core.specs.Groups.{InRange}
use Rattle.hs_core.proofs.group.are_in_range.Goals as goal

pub returns : goal.returns
returns c = subst (λ (g : List UseList). IsTrue c.all_in_range.result
    ↔ InRange g) c.as_slice.ensures c.all_in_range.ensures
