-- What is made of names that all mean something, or why the first does not.
use Rattle.std.specs.Prelude.{List, ◌++◌, flat_map, Option, Some, None, Result, Ok, Err}
use Rattle.bp_base.specs.Texts.{Text}
use Rattle.bp_base.specs.declared.ty.Space.{Space}
use Rattle.bp_base.specs.declared.ty.OrigName.{OrigName}
use Rattle.bp_checks.specs.Check.{Check, ◌>>=◌, each, given, refusing}
use Rattle.hs_trees.specs.declared.types.TypeTree.{TypeTree}
use Rattle.hs_trees.specs.declared.types.BTypeTree.{BTypeTree}
use Rattle.hs_trees.specs.declared.types.ATypeTree.{ATypeTree}
use Rattle.hs_core.specs.declared.tree.Written.{Written}
use Rattle.hs_scopes.specs.declared.scope.ScopeItem.{ScopeItem}
use Rattle.hs_scopes.specs.Meanings.{name_meant}
use Rattle.hs_scopes.specs.Types.{resolved_type, resolved_atype}
use Rattle.name_resolve.specs.Asked.{Part, atype_parts, type_parts}
use Rattle.name_resolve.specs.Modules.{Done, NameFault, name_fault, reference_meant, reference_of, resolved_btype}
use Rattle.type_resolve.specs.declared.error.NameError.{NameError}
use Rattle.type_resolve.specs.Names.{OnFault}

-- an answer passes a check, and a fault fails it
abbrev pub Judges : {B : Type 0} → Check B NameFault → Result B NameError → Type 0
Judges check (Ok b) = check.passes b
Judges check (Err e) = OnFault e check.fails

-- what a name means, or why it means nothing
abbrev pub name_gives : List ScopeItem → Space → Text → Check OrigName NameFault
name_gives items space x = refusing (name_fault x) (name_meant items space x)

-- each reference, in the order of the source
abbrev pub all_meant : List ScopeItem → List Part → Check (List Done) NameFault
all_meant items parts = each (flat_map reference_of parts) (λ done r. reference_meant items r)

abbrev pub there : {A : Type 0} → Option A → Check A NameFault
there None = record { passes = λ a. ⊥; fails = λ f. ⊥ }
there (Some a) = given a

-- what is made of names that all mean something; the first that means nothing or different things is refused
abbrev pub made_of : {A : Type 0} → List ScopeItem → List Part → Option A → Check A NameFault
made_of items parts made = do
  meant ← all_meant items parts
  there made

-- ---- types: the variables of a head, where there is one, are those that may stand

abbrev pub btype_parts : Option (List Text) → BTypeTree → List Part
btype_parts head x = atype_parts head x.first ++ flat_map (atype_parts head) x.rest

abbrev pub type_gives : List ScopeItem → Option (List Text) → TypeTree → Check Written NameFault
type_gives items head x = made_of items (type_parts head x) (resolved_type items x)

abbrev pub btype_gives : List ScopeItem → Option (List Text) → BTypeTree → Check Written NameFault
btype_gives items head x = made_of items (btype_parts head x) (resolved_btype items x)

abbrev pub atype_gives : List ScopeItem → Option (List Text) → ATypeTree → Check Written NameFault
atype_gives items head x = made_of items (atype_parts head x) (resolved_atype items x)
