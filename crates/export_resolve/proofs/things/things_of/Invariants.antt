use Rattle.std.proofs.Common.{◌≡◌, ◌++◌, drop}
use Rattle.import_resolve.specs.Exports.{things}
use Rattle.export_resolve.proofs.things.things_of.Given as goal

abbrev pub invariant-loop-export : goal.invariant-loop-export
invariant-loop-export l = l.all ++ things (drop l.export-index l.exports) ≡ things l.exports
