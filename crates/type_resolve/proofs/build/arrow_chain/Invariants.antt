use Rattle.std.proofs.Common.{◌≡◌, length}
use Rattle.hs_scopes.specs.Types.{arrow_to}
use Rattle.type_resolve.specs.Found.{arrow_chain, arrows_to}
use Rattle.type_resolve.proofs.build.arrow_chain.Given as goal

abbrev pub invariant-arrows : goal.invariant-arrows
invariant-arrows l = arrow_to l.first (arrows_to l.before l.to) ≡ arrow_chain l.fn.first l.fn.rest

abbrev pub decreases-arrows : goal.decreases-arrows
decreases-arrows l = length l.before
