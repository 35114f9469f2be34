use Rattle.std.proofs.Common.{◌≡◌, take}
use Rattle.hs_plain.specs.Plain.{names_of}
use Rattle.plain_trees.proofs.modules.names_of.Given as goal

abbrev pub invariant-loop-binding : goal.invariant-loop-binding
invariant-loop-binding l = l.names ≡ names_of (take l.binding-index l.bindings)
