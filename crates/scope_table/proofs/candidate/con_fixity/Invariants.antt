use Rattle.std.proofs.Common.{◌≡◌, drop}
use Rattle.hs_scopes.specs.Meanings.{con_fixity}
use Rattle.scope_table.proofs.candidate.con_fixity.Given as goal

abbrev pub invariant-loop-con : goal.invariant-loop-con
invariant-loop-con l = con_fixity l.name (drop l.con-index l.cons) ≡ con_fixity l.name l.cons
