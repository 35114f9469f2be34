use Rattle.std.proofs.Common.{◌≡◌, take}
use Rattle.type_drafts.proofs.heads.copied_cons.Given as goal

abbrev pub invariant-loop-each : goal.invariant-loop-each
invariant-loop-each l = l.all ≡ take l.each-index l.cons
