use Rattle.std.proofs.Common.{◌≡◌, ◌++◌, take}
use Rattle.hs_plain.specs.Text.{atoms_text}
use Rattle.hs_plain.proofs.print.push_atoms.Given as goal

abbrev pub invariant-loop-atom : goal.invariant-loop-atom
invariant-loop-atom l = l.out.items ≡ l.fn.out.items ++ atoms_text l.at (take l.atom-index l.atoms)
