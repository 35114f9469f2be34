use Rattle.std.proofs.Common.{◌≡◌, ◌++◌, drop}
use Rattle.export_resolve.specs.Named.{all_at}
use Rattle.export_resolve.specs.Clashes.{all_meant}
use Rattle.export_resolve.proofs.clashes.meanings_of.Given as goal

abbrev pub invariant-loop-thing : goal.invariant-loop-thing
invariant-loop-thing l =
    l.meanings ++ all_meant (all_at l.heads) (drop l.thing-index l.things) ≡ all_meant (all_at l.heads) l.things
