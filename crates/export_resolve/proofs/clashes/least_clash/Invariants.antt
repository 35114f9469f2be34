use Rattle.std.proofs.Common.{◌≡◌, drop, None}
use Rattle.std.specs.Option.{option_copied}
use Rattle.export_resolve.specs.Clashes.{least_clash}
use Rattle.export_resolve.specs.Firsts.{firsts_at}
use Rattle.export_resolve.proofs.clashes.least_clash.Given as goal

abbrev pub invariant-loop-meant : goal.invariant-loop-meant
invariant-loop-meant l =
    least_clash (firsts_at l.firsts) (option_copied l.found) (drop l.meant-index l.meanings)
    ≡ least_clash (firsts_at l.firsts) None l.meanings
