use Rattle.std.proofs.Common.{◌≡◌, ◌++◌, drop, map}
use Rattle.import_resolve.specs.ImportLists.{sub_name}
use Rattle.import_resolve.proofs.listing.sub_names.Given as goal

abbrev pub invariant-loop-sub : goal.invariant-loop-sub
invariant-loop-sub l = l.names ++ map sub_name (drop l.sub-index l.subs) ≡ map sub_name l.subs
