use Rattle.std.proofs.Common.{◌≡◌, List, ℕ, take}
use Rattle.std.specs.HashSet.{contains}
use Rattle.std.specs.Str.{bytes_eq}
use Rattle.bp_base.specs.Lists.{is_among}
use Rattle.import_resolve.proofs.tables.name_set.Given as goal

abbrev pub invariant-loop-name : goal.invariant-loop-name
invariant-loop-name l = (q : List ℕ) → contains bytes_eq l.set q ≡ is_among q (take l.name-index l.names)
