use Rattle.std.proofs.Common.{◌≡◌, List, ℕ, drop}
use Rattle.std.specs.HashMap.{get}
use Rattle.std.specs.Str.{bytes_eq}
use Rattle.export_resolve.specs.Clashes.{first_at, sooner}
use Rattle.export_resolve.proofs.clash.firsts_in.Given as goal

abbrev pub invariant-loop-meant : goal.invariant-loop-meant
invariant-loop-meant l =
    (q : List ℕ) → sooner (get bytes_eq l.table q) (first_at l.space q (drop l.meant-index l.meanings))
    ≡ first_at l.space q l.meanings
