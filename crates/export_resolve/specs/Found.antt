-- What the items of an export list name, as functions.
use Rattle.std.specs.Prelude.{◌≡◌, Bool, true, false, ◌&&◌, List, [], ◌∷◌, ◌++◌, Option, Some, None, Result, Ok, Err}
use Rattle.std.specs.Prelude.{if◌then◌else◌}
use Rattle.std.specs.List.{filter, flat_map, list_any}
use Rattle.std.specs.Str.{bytes_eq}
use Rattle.bp_base.specs.Texts.{Text}
use Rattle.bp_base.specs.declared.ident.Ident.{Ident}
use Rattle.bp_base.specs.declared.ty.Space.{Space}
use Rattle.bp_base.specs.declared.ty.Space.TheVariants.{Types, Values}
use Rattle.bp_base.specs.declared.ty.OrigName.{OrigName}
use Rattle.bp_base.specs.declared.entity.Entity.{Entity}
use Rattle.bp_base.specs.declared.entity.Entity.TheVariants.{Abstract, DataType, Synonym, Value}
use Rattle.bp_base.specs.declared.entity.Con.{Con}
use Rattle.bp_base.specs.declared.entity.Export.{Export}
use Rattle.hs_core.specs.Sameness.{same_original}
use Rattle.hs_modules.specs.declared.module.CNameTree.{CNameTree}
use Rattle.hs_modules.specs.declared.module.SubsTree.{SubsTree}
use Rattle.hs_modules.specs.declared.module.SubsTree.TheVariants as s
use Rattle.hs_modules.specs.declared.module.ExportTree.{ExportTree}
use Rattle.hs_modules.specs.declared.module.ExportTree.TheVariants as x
use Rattle.hs_modules.specs.declared.module.Module.{Module}
use Rattle.hs_modules.specs.declared.module.Module.TheVariants as m
use Rattle.hs_scopes.specs.Words.{Word, word_of, is_empty}
use Rattle.hs_scopes.specs.declared.scope.MeaningFault.{MeaningFault}
use Rattle.hs_scopes.specs.declared.scope.MeaningFault.TheVariants.{NotInScope, AmbiguousName}
use Rattle.hs_scopes.specs.declared.scope.ScopeItem.{ScopeItem}
use Rattle.hs_scopes.specs.Meanings.{is_in, meaning_of, name_of}
use Rattle.import_resolve.specs.declared.thing.Thing.{Thing}
use Rattle.import_resolve.specs.ImportLists.{sub_name}
use Rattle.import_resolve.specs.Scopes.{ScopeFault, next}
use Rattle.import_resolve.specs.Exports.{named, thing_of, con_thing, qvar_name, main_name, things}
use Rattle.export_resolve.specs.Seen.{Seen}

-- ---- one after another

-- what was found, with what is found behind it
abbrev pub together : {B : Type 0} → List B → Result (List B) ScopeFault → Result (List B) ScopeFault
together bs found = next found (λ more. Ok (bs ++ more))

-- what is found of each, or the first fault
abbrev pub all_found : {A B : Type 0} → (A → Result (List B) ScopeFault) → List A → Result (List B) ScopeFault
all_found f [] = Ok []
all_found f (a ∷ rest) = next (f a) (λ bs. together bs (all_found f rest))

-- ---- a name

-- a type or a value as it is asked, behind this qualifier
abbrev pub is_asked : Space → Text → ScopeItem → Bool
is_asked space q i = is_in space i && bytes_eq i.qualifier q

-- the original name of a constructor at a module
abbrev pub con_at : Ident → Text → OrigName
con_at at c = record { at = at; space = Values; occ = c }

-- two items mean one thing
abbrev pub same_meaning : ScopeItem → ScopeItem → Bool
same_meaning i j = same_original (meaning_of i) (meaning_of j)

-- the first, where all of them mean one thing, and where this one was found before
abbrev pub found_from : Option ScopeItem → List ScopeItem → Result ScopeItem MeaningFault
found_from None [] = Err NotInScope
found_from (Some i) [] = Ok i
found_from None (j ∷ js) = found_from (Some j) js
found_from (Some i) (j ∷ js) = if same_meaning i j then found_from (Some i) js else Err AmbiguousName

abbrev pub found_in : Space → Text → Option ScopeItem → List ScopeItem → Result ScopeItem MeaningFault
found_in space q found items = found_from found (filter (is_asked space q) items)

abbrev pub item_found : Seen → Space → Word → Result ScopeItem MeaningFault
item_found see space w = found_in space w.qualifier None (see.named w.occ)

-- what is lent is the one that is found, and so is a refusal
abbrev pub Finds : {X : Type 0} → (X → ScopeItem) → Result ScopeItem MeaningFault → Result X MeaningFault → Type 0
Finds at found (Ok x) = found ≡ Ok (at x)
Finds at found (Err e) = found ≡ Err e

abbrev pub thing_or : Text → Result ScopeItem MeaningFault → Result Thing ScopeFault
thing_or name (Ok i) = Ok (thing_of i)
thing_or name (Err f) = Err (named name f)

abbrev pub thing_found : Seen → Space → Text → Result Thing ScopeFault
thing_found see space name = thing_or name (item_found see space (word_of name))

abbrev pub one_found : Seen → Space → Text → Result (List Thing) ScopeFault
one_found see space name = next (thing_found see space name) (λ t. Ok (t ∷ []))

-- ---- constructors

-- the name is one of these
abbrev pub is_one_of : OrigName → List OrigName → Bool
is_one_of n names = list_any (same_original n) names

-- a constructor of this name and type is in scope, under some name
abbrev pub is_owned : (Text → List OrigName) → OrigName → Text → Bool
is_owned owners n c = is_one_of n (owners c)

abbrev pub if_owned : (Text → List OrigName) → Entity → Con → List Thing
if_owned owners e c = if is_owned owners (name_of e) c.occ then con_thing e c.occ ∷ [] else []

abbrev pub cons_of : Entity → List Con
cons_of (Abstract n k) = []
cons_of (DataType n k p w cs) = cs
cons_of (Synonym n k p t) = []
cons_of (Value n t f) = []

abbrev pub owned_of : (Text → List OrigName) → Entity → List Con → List Thing
owned_of owners e cs = flat_map (if_owned owners e) cs

abbrev pub all_owned : (Text → List OrigName) → Entity → List Thing
all_owned owners e = owned_of owners e (cons_of e)

abbrev pub con_or : Bool → Entity → Text → Result (List Thing) ScopeFault
con_or true e c = Ok (con_thing e c ∷ [])
con_or false e c = Err (ScopeFault.NotInScope c)

abbrev pub con_found : Seen → Entity → CNameTree → Result (List Thing) ScopeFault
con_found see e c = con_or (is_owned see.owners (name_of e) (sub_name c)) e (sub_name c)

abbrev pub subs_found : Seen → Entity → SubsTree → Result (List Thing) ScopeFault
subs_found see e s.All = Ok (all_owned see.owners e)
subs_found see e (s.Only names) = all_found (con_found see e) names

-- ---- `module X`

abbrev pub same_plain : ScopeItem → ScopeItem → Bool
same_plain i j = is_empty j.qualifier && same_meaning i j

abbrev pub is_both : Seen → Text → ScopeItem → Bool
is_both see name i = bytes_eq i.qualifier name && list_any (same_plain i) (see.named i.occ)

abbrev pub if_both_names : Seen → Text → ScopeItem → List Thing
if_both_names see name i = if is_both see name i then thing_of i ∷ [] else []

abbrev pub both_found : Seen → List ScopeItem → Text → List Thing
both_found see items name = flat_map (if_both_names see name) items

abbrev pub module_or : Bool → List Thing → Text → Result (List Thing) ScopeFault
module_or true ts name = Ok ts
module_or false ts name = Err (ScopeFault.NotInScope name)

-- ---- items and lists

abbrev pub type_with : Seen → SubsTree → Thing → Result (List Thing) ScopeFault
type_with see subs t = next (subs_found see t.entity subs) (λ cs. Ok (t ∷ cs))

abbrev pub export_found : Seen → List ScopeItem → ExportTree → Result (List Thing) ScopeFault
export_found see items (x.Var n) = one_found see Values (qvar_name n)
export_found see items (x.Type n) = one_found see Types n
export_found see items (x.TypeWith n subs) = next (thing_found see Types n) (type_with see subs)
export_found see items (x.Module n) = module_or (see.qualifies n) (both_found see items n) n

abbrev pub offered_found : Seen → Module → List Export → List ScopeItem → Result (List Thing) ScopeFault
offered_found see (m.Headless b) own items = one_found see Values main_name
offered_found see (m.Named n b) own items = Ok (things own)
offered_found see (m.Exporting n es b) own items = all_found (export_found see items) es.exports
offered_found see (m.Signature n b) own items = Ok (things own)
