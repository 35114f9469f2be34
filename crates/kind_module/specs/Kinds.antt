-- The types of a module: their kinds, lawful synonyms and expansions, in the order in which they are refused.
use Rattle.std.specs.Prelude.{◌≡◌, ℕ, List, Option, Some, map, flat_map}
use Rattle.bp_base.specs.Texts.{Text}
use Rattle.bp_base.specs.declared.ident.Ident.{Ident}
use Rattle.bp_base.specs.declared.ty.Kind.{Kind}
use Rattle.bp_base.specs.declared.entity.Entity.{Entity}
use Rattle.bp_checks.specs.Check.{Check, ◌>>=◌, ◌>>◌}
use Rattle.hs_core.specs.declared.tree.Decl.{Decl}
use Rattle.hs_core.specs.Types.{kind_term}
use Rattle.hs_core.specs.Expansion.{Synonyms}
use Rattle.hs_core.specs.Globals.{Globals, declared_by, kind_in, kinds_of, synonyms_of}
use Rattle.hs_core.specs.WellTyped.{AreKinds, type_decls, located, globals_in}
use Rattle.declared_kinds.specs.Sources.{IsIllKinded}
use Rattle.type_drafts.specs.Drafts.{drafts}
use Rattle.kind_module.specs.Faults.{KindFault, IllKinded}
use Rattle.kind_module.specs.Tests.{Kinds, values_kinded, no_cycle, uses_full}
use Rattle.kind_module.specs.Expanded.{entities_give}

-- the kinds of the type declarations, group after group; the first group without kinds is refused
unfoldable pub groups_give : Globals → Ident → List Decl → Check (List Kind) KindFault
groups_give outside at ds = record {
  passes = λ ks. AreKinds (kinds_of outside) (type_decls (located at ds)) (map kind_term ks);
  fails = λ r. (x : Text) × IsIllKinded (kinds_of outside) (type_decls (located at ds)) x × (r ≡ IllKinded x);
}

-- synonyms: none leads to itself, and all are fully applied
unfoldable pub synonyms_lawful : Synonyms → Ident → List Decl → Check (Unit {0}) KindFault
synonyms_lawful S at ds = no_cycle at ds >> uses_full S ds

-- where names have these kinds and are these synonyms: written types, then synonyms, then expansions
unfoldable pub types_give : Option ℕ → Kinds → Synonyms → Ident → List Decl → List Entity
    → Check (List Entity) KindFault
types_give most K S at ds es = values_kinded K ds >> synonyms_lawful S at ds >> entities_give most K S es

-- what names mean to the declarations, where these are the entities that they declare
abbrev pub seen : Globals → List Entity → Globals
seen outside es = globals_in outside (flat_map declared_by es)

-- The entities that the declarations of a module declare, in their order, each with its kind and its types expanded, where
-- these names are seen outside. Kind is refused first, in groups and then in written types, then SynonymUse, at cycles and
-- then at uses, and then types that are deeper than the limit (Haskell 2010 Report, sections 4.2.2 and 4.6).
unfoldable pub kinds_give : Option ℕ → Globals → Ident → List Decl → Check (List Entity) KindFault
kinds_give most outside at ds = groups_give outside at ds >>= λ ks.
    types_give most (λ n. kind_in (seen outside (drafts ds at ds ks) n)) (synonyms_of (seen outside (drafts ds at ds ks)))
    at ds (drafts ds at ds ks)
