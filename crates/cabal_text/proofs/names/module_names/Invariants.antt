use Rattle.std.proofs.Common.{◌≡◌, ◌++◌, length}
use Rattle.std.specs.Prelude.{option_map}
use Rattle.cabal_text.specs.Fields.{items_of}
use Rattle.cabal_text.specs.Tokens.{each_read}
use Rattle.cabal_text.specs.Names.{module_name, module_names}
use Rattle.cabal_text.proofs.names.module_names.Given as goal

abbrev pub invariant-loop-item : goal.invariant-loop-item
invariant-loop-item l = option_map (λ more. l.names ++ more)
    (each_read module_name (items_of l.rest)) ≡ module_names l.value

abbrev pub decreases-loop-item : goal.decreases-loop-item
decreases-loop-item l = length l.rest
