use Rattle.std.proofs.Common.{◌≡◌, ◌++◌, length}
use Rattle.std.specs.Prelude.{map}
use Rattle.hs_tokens.specs.declared.terminal.Terminal.TheVariants as t
use Rattle.hs_declarations.proofs.params.read_params.Given as goal

abbrev pub invariant-params : goal.invariant-params
invariant-params l = l.tokens ≡ map t.Var l.names ++ l.rest

abbrev pub decreases-params : goal.decreases-params
decreases-params l = length l.rest
