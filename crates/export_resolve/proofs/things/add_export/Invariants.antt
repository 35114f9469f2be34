use Rattle.std.proofs.Common.{◌≡◌, ◌++◌, drop, map}
use Rattle.import_resolve.specs.Exports.{con_thing, things_of}
use Rattle.export_resolve.proofs.things.add_export.Given as goal

abbrev pub invariant-loop-con : goal.invariant-loop-con
invariant-loop-con l =
    l.things ++ map (con_thing l.export.entity) (drop l.con-index l.con-items)
    ≡ l.fn.things ++ things_of l.export
