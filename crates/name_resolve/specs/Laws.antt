-- What holds of the definitions.
use Rattle.std.specs.Prelude.{List}
use Rattle.bp_checks.specs.Check.{IsExact}
use Rattle.hs_modules.specs.declared.module.Module.{Module}
use Rattle.hs_scopes.specs.declared.scope.ScopeItem.{ScopeItem}
use Rattle.hs_scopes.specs.Patterns.{Literals}
use Rattle.name_resolve.specs.Modules.{declared_once, decls_give, resolve_gives}

-- at most one list of resolved declarations, or one refusal
abbrev pub NamesAreExact : Type 0
NamesAreExact = (ls : Literals) (m : Module) (items : List ScopeItem)
    → IsExact (declared_once m) × IsExact (decls_give ls m items) × IsExact (resolve_gives ls m items)
