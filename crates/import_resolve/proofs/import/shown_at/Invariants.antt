use Rattle.std.proofs.Common.{◌≡◌, drop}
use Rattle.import_resolve.specs.Scopes.{shown_at}
use Rattle.import_resolve.proofs.import.shown_at.Given as goal

abbrev pub invariant-loop-each : goal.invariant-loop-each
invariant-loop-each l = shown_at l.name (drop l.each-index l.visible) ≡ shown_at l.name l.visible
