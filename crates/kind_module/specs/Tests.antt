-- What is asked of the types that declarations write.
use Rattle.std.specs.Prelude.{◌≡◌, ℕ, List, Option, Some, None, slice_get}
use Rattle.bp_base.specs.declared.ident.Ident.{Ident}
use Rattle.bp_base.specs.declared.ty.OrigName.{OrigName}
use Rattle.bp_checks.specs.Check.{Check}
use Rattle.hs_core.specs.declared.tree.Decl.{Decl}
use Rattle.hs_core.specs.declared.tree.Written.{Written}
use Rattle.hs_core.specs.Types.{KindTerm, star, variables, written_term}
use Rattle.hs_core.specs.Kinds.{HasKind, TypeDecl}
use Rattle.hs_core.specs.Expansion.{Synonyms, IsFullyApplied}
use Rattle.hs_core.specs.WellTyped.{type_decls, located}
use Rattle.declared_kinds.specs.Cycles.{IsFirstOnCycle}
use Rattle.type_drafts.specs.declared.uses.TypeUse.{TypeUse}
use Rattle.type_drafts.specs.Uses.{value_uses, all_uses}
use Rattle.kind_module.specs.Faults.{KindFault, IllKinded, Misused, all_are}

-- the kinds of names: each has one or none
abbrev pub Kinds : Type 0
Kinds = OrigName → Option KindTerm

-- a written type has kind `*` for some kinds of its variables (Haskell 2010 Report, section 4.1.2)
abbrev pub IsStarKinded : Kinds → Written → Type 0
IsStarKinded K w = (kinds : ℕ → KindTerm)
    × HasKind (λ n k. K n ≡ Some k) kinds (written_term (variables w) w) star

-- each synonym in a written type is fully applied (Haskell 2010 Report, section 4.2.2)
abbrev pub IsFull : Synonyms → Written → Type 0
IsFull S w = IsFullyApplied S (written_term (variables w) w) 0

-- the types that are written for values have kind `*`, or the first that hasn't is refused
unfoldable pub values_kinded : Kinds → List Decl → Check (Unit {0}) KindFault
values_kinded K ds = all_are (λ (u : TypeUse). IsStarKinded K u.ty) (λ u. IllKinded u.name) (value_uses ds)

-- synonyms in all types are fully applied, or the first type with one that isn't is refused
unfoldable pub uses_full : Synonyms → List Decl → Check (Unit {0}) KindFault
uses_full S ds = all_are (λ (u : TypeUse). IsFull S u.ty) (λ u. Misused u.name) (all_uses ds)

-- no synonym leads to itself, or the first that does is refused
unfoldable pub no_cycle : Ident → List Decl → Check (Unit {0}) KindFault
no_cycle at ds = record {
  passes = λ _. IsFirstOnCycle (type_decls (located at ds)) None;
  fails = λ r. (i : ℕ) × IsFirstOnCycle (type_decls (located at ds)) (Some i)
      × ((d : TypeDecl) × (slice_get (type_decls (located at ds)) i ≡ Some d) × (r ≡ Misused d.name.occ));
}
