use Rattle.std.proofs.Common.{◌≡◌, ◌++◌, drop}
use Rattle.std.specs.Prelude.{not}
use Rattle.std.specs.List.{filter}
use Rattle.bp_base.specs.Lists.{is_among}
use Rattle.mixin_names.proofs.provision.unhidden.Given as goal

abbrev pub invariant-loop-each : goal.invariant-loop-each
invariant-loop-each l = l.found ++ filter (λ p. not (is_among p.name l.names)) (drop l.each-index l.exposed) ≡ filter
    (λ p. not (is_among p.name l.names)) l.exposed
