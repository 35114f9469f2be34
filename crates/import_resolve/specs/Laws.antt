-- What holds of the definitions.
use Rattle.std.specs.Prelude.{List}
use Rattle.bp_base.specs.declared.entity.Export.{Export}
use Rattle.bp_checks.specs.Check.{IsExact}
use Rattle.hs_modules.specs.declared.module.Module.{Module}
use Rattle.hs_scopes.specs.declared.scope.Scope.{Scope}
use Rattle.import_resolve.specs.Exports.{exports_give}

-- an export list has one list of exports, or one refusal
abbrev pub ExportsAreExact : Type 0
ExportsAreExact = (m : Module) (own : List Export) (scope : Scope) → IsExact (exports_give m own scope)
