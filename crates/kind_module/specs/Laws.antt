-- The types of a module have one outcome at most, whatever the limit.
use Rattle.std.specs.Prelude.{ℕ, List, Option}
use Rattle.bp_base.specs.declared.ident.Ident.{Ident}
use Rattle.bp_checks.specs.Check.{IsExact}
use Rattle.hs_core.specs.declared.tree.Decl.{Decl}
use Rattle.hs_core.specs.Globals.{Globals}
use Rattle.kind_module.specs.Kinds.{kinds_give}

abbrev pub KindsAreExact : Type 0
KindsAreExact = (most : Option ℕ) (outside : Globals) (at : Ident) (ds : List Decl)
    → IsExact (kinds_give most outside at ds)
