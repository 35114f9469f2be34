use Rattle.std.proofs.Common.{◌≡◌}
use Rattle.std.specs.Prelude.{map}
use Rattle.hs_core.specs.Types.{kind_term}
use Rattle.kind_check.specs.Forms.{settled}
use Rattle.kind_check.specs.Scopes.{guessed}
use Rattle.kind_check.proofs.answer.settled_kinds.Given as goal

abbrev pub invariant-loop-id : goal.invariant-loop-id
invariant-loop-id l = (map kind_term l.kinds ≡ guessed (settled l.fn.bindings) 0 l.id) × (l.bindings ≡ l.fn.bindings)
