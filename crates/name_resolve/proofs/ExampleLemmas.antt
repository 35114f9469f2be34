-- The examples compute.
use Rattle.std.proofs.Common.{refl}
use Rattle.name_resolve.specs.Examples.{GroupsAreRuled}

pub groups_are_ruled : GroupsAreRuled
groups_are_ruled = (refl, refl, refl, refl, refl, refl)
