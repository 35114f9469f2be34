-- What a module exports (Haskell 2010 Report, section 5.2).
use Rattle.std.specs.Prelude.{◌≡◌, ◌⊎◌, Bool, true, false, not, ◌||◌, List, [], ◌∷◌, ◌++◌, map, filter, flat_map, codes}
use Rattle.std.specs.List.{list_any}
use Rattle.std.specs.Str.{bytes_eq}
use Rattle.std.specs.Ordering.{nat_cmp}
use Rattle.std.specs.Cmp.Lexicographic.{slice_cmp}
use Rattle.std.specs.declared.cmp.Ordering.{Ordering}
use Rattle.std.specs.declared.cmp.Ordering.TheVariants.{Less, Equal, Greater}
use Rattle.bp_base.specs.Texts.{Text}
use Rattle.bp_base.specs.Lists.{Among, is_among}
use Rattle.bp_checks.specs.Check.{Check, ◌>>=◌, given, each, refusing}
use Rattle.bp_base.specs.declared.ty.Space.{Space}
use Rattle.bp_base.specs.declared.ty.Space.TheVariants.{Types, Values}
use Rattle.bp_base.specs.declared.ty.OrigName.{OrigName}
use Rattle.bp_base.specs.declared.entity.Entity.{Entity}
use Rattle.bp_base.specs.declared.entity.Entity.TheVariants.{Abstract, DataType, Synonym, Value}
use Rattle.bp_base.specs.declared.entity.Export.{Export}
use Rattle.hs_modules.specs.declared.names.QVarTree.{QVarTree}
use Rattle.hs_modules.specs.declared.names.QVarTree.TheVariants as q
use Rattle.hs_modules.specs.declared.module.SubsTree.{SubsTree}
use Rattle.hs_modules.specs.declared.module.SubsTree.TheVariants as s
use Rattle.hs_modules.specs.declared.module.ExportTree.{ExportTree}
use Rattle.hs_modules.specs.declared.module.ExportTree.TheVariants as x
use Rattle.hs_modules.specs.declared.module.Module.{Module}
use Rattle.hs_modules.specs.declared.module.Module.TheVariants as m
use Rattle.hs_scopes.specs.declared.scope.ScopeItem.{ScopeItem}
use Rattle.hs_scopes.specs.declared.scope.Scope.{Scope}
use Rattle.hs_scopes.specs.Words.{word_of, is_empty}
use Rattle.hs_scopes.specs.declared.scope.MeaningFault.{MeaningFault}
use Rattle.hs_scopes.specs.declared.scope.MeaningFault.TheVariants as mf
use Rattle.import_resolve.specs.declared.thing.Thing.{Thing}
use Rattle.import_resolve.specs.ImportLists.{sub_name}
use Rattle.import_resolve.specs.Scopes.{ScopeFault, import_name, implicit_imports, written_imports, module_name}
use Rattle.hs_scopes.specs.Meanings.{name_meant, candidates, meaning_of, name_of, is_types}

-- ---- what is exported: a name and what it means, the entity, or its constructor where that is not empty

abbrev pub things_of : Export → List Thing
things_of e = record { occ = e.occ; entity = e.entity; con = [] }
    ∷ map (λ c. record { occ = c; entity = e.entity; con = c }) e.cons

abbrev pub things : List Export → List Thing
things es = flat_map things_of es

abbrev pub is_con : Thing → Bool
is_con t = not (is_empty t.con)

abbrev pub qvar_name : QVarTree → Text
qvar_name (q.Id n) = n
qvar_name (q.Sym n) = n
qvar_name (q.QualifiedId n) = n
qvar_name (q.QualifiedSym n) = n

-- a fault with the name
abbrev pub named : Text → MeaningFault → ScopeFault
named x mf.NotInScope = ScopeFault.NotInScope x
named x mf.AmbiguousName = ScopeFault.AmbiguousName x

-- this answer where the test is true
abbrev pub asked : {B R : Type 0} → Bool → B → R → Check B R
asked true b r = given b
asked false b r = record { passes = λ c. ⊥; fails = λ q. q ≡ r }

abbrev pub thing_of : ScopeItem → Thing
thing_of i = record { occ = i.occ; entity = i.entity; con = i.con }

-- ---- constructors that are in scope, under some name (plain or not)

-- An item is a constructor of the type of this name in this module.
abbrev pub IsConItem : OrigName → Text → ScopeItem → Type 0
IsConItem n c i = (name_of i.entity ≡ n) × (i.con ≡ c)

abbrev pub HasItem : (ScopeItem → Type 0) → List ScopeItem → Type 0
HasItem P [] = ⊥
HasItem P (i ∷ is) = P i ⊎ HasItem P is

-- the constructors of an entity, by their names
abbrev pub con_names : Entity → List Text
con_names (Abstract n k) = []
con_names (DataType n k p w cs) = map (λ c. c.occ) cs
con_names (Synonym n k p t) = []
con_names (Value n t f) = []

-- those of a list, in order, that a fact holds of
abbrev pub AreThose : {A : Type 0} → (A → Type 0) → List A → List A → Type 0
AreThose P [] bs = bs ≡ []
AreThose {A = A} P (a ∷ as') bs = ((rest : List A) × P a × AreThose P as' rest × (bs ≡ a ∷ rest)) ⊎
    ((P a → ⊥) × AreThose P as' bs)

-- ---- what an item of an export list names

abbrev pub con_thing : Entity → Text → Thing
con_thing e c = record { occ = c; entity = e; con = c }

abbrev pub type_thing : Entity → Thing
type_thing e = record { occ = (name_of e).occ; entity = e; con = [] }

-- a value or a type in scope under a written name, as a thing
abbrev pub IsFirst : List ScopeItem → ScopeItem → Type 0
IsFirst [] i = ⊥
IsFirst (j ∷ js) i = i ≡ j

abbrev pub thing_named : List ScopeItem → Space → Text → Check Thing ScopeFault
thing_named items space name = record {
  passes = λ t. (i : ScopeItem) × (n : OrigName) × (name_meant items space name).passes n × IsFirst
      (candidates items space (word_of name)) i × (t ≡ thing_of i);
  fails = (refusing (named name) (name_meant items space name)).fails;
}

-- a listed constructor is one of the type and in scope, under some name
abbrev pub con_there : List ScopeItem → Entity → Text → Check Thing ScopeFault
con_there items e c = record {
  passes = λ t. HasItem (IsConItem (name_of e) c) items × (t ≡ con_thing e c);
  fails = λ r. (HasItem (IsConItem (name_of e) c) items → ⊥) × (r ≡ ScopeFault.NotInScope c);
}

-- all constructors that are in scope
abbrev pub cons_there : List ScopeItem → Entity → Check (List Thing) ScopeFault
cons_there items e = record {
  passes = λ ts. (cs : List Text) × AreThose (λ c. HasItem (IsConItem (name_of e) c) items) (con_names e) cs ×
      (ts ≡ map (con_thing e) cs);
  fails = λ r. ⊥;
}

abbrev pub subs_there : List ScopeItem → Entity → SubsTree → Check (List Thing) ScopeFault
subs_there items e s.All = cons_there items e
subs_there items e (s.Only names) = each names (λ done c. con_there items e (sub_name c))

-- ---- `module X`: what is in scope both as `e` and as `X.e`

-- the names before the dot: the module's own, and that of each import
abbrev pub qualifiers : Module → List Text
qualifiers x = module_name x ∷ map import_name (implicit_imports x ++ written_imports x)

abbrev pub is_qualifier : Module → Text → Bool
is_qualifier x name = is_among name (qualifiers x)

-- a plain item of that name means the same
abbrev pub SamePlain : ScopeItem → ScopeItem → Type 0
SamePlain i j = (j.qualifier ≡ []) × (j.occ ≡ i.occ) × (meaning_of j ≡ meaning_of i)

abbrev pub IsBoth : List ScopeItem → Text → ScopeItem → Type 0
IsBoth items name i = (i.qualifier ≡ name) × HasItem (SamePlain i) items

abbrev pub both_names : List ScopeItem → Text → Check (List Thing) ScopeFault
both_names items name = record {
  passes = λ ts. (is : List ScopeItem) × AreThose (IsBoth items name) items is × (ts ≡ map thing_of is);
  fails = λ r. ⊥;
}

-- ---- a whole list

abbrev pub export_gives : Module → List ScopeItem → ExportTree → Check (List Thing) ScopeFault
export_gives m items (x.Var n) = do
  t ← thing_named items Values (qvar_name n)
  given (t ∷ [])
export_gives m items (x.Type n) = do
  t ← thing_named items Types n
  given (t ∷ [])
export_gives m items (x.TypeWith n subs) = do
  t ← thing_named items Types n
  cs ← subs_there items t.entity subs
  given (t ∷ cs)
export_gives m items (x.Module n) = do
  name ← asked (is_qualifier m n) n (ScopeFault.NotInScope n)
  both_names items n

-- `main`, which a module without a header exports
abbrev pub main_name : Text
main_name = codes "main"

-- with no list a module exports what it declares
abbrev pub offered : Module → List Export → List ScopeItem → Check (List (List Thing)) ScopeFault
offered (m.Headless b) own items = do
  t ← thing_named items Values main_name
  given ((t ∷ []) ∷ [])
offered (m.Named n b) own items = given (things own ∷ [])
offered (m.Exporting n es b) own items = each es.exports (λ done e. export_gives (m.Exporting n es b) items e)
offered (m.Signature n b) own items = given (things own ∷ [])

-- ---- what stands for a list of things: types, then values, by occurrence; each once, with the constructors that are
-- offered

abbrev pub thing_meaning : Thing → OrigName
thing_meaning t = meaning_of (record { qualifier = []; occ = t.occ; entity = t.entity; con = t.con })

-- the type of this name is among the things
abbrev pub HasType : List Thing → OrigName → Type 0
HasType [] n = ⊥
HasType (t ∷ ts) n = ((t.con ≡ []) × (name_of t.entity ≡ n)) ⊎ HasType ts n

-- a constructor is exported only with its type
abbrev pub IsExported : List Thing → Thing → Type 0
IsExported ts t = HasType ts (name_of t.entity)

-- two things of one name and space that are exported and not the same
abbrev pub Clashes : List Thing → Text → Type 0
Clashes ts n = (a : Thing) × (b : Thing) × Among a ts × Among b ts × IsExported ts a × IsExported ts b × (a.occ ≡ n) ×
    (b.occ ≡ n)
    × ((thing_meaning a).space ≡ (thing_meaning b).space) × (thing_meaning a ≡ thing_meaning b → ⊥)

abbrev pub no_clash : List Thing → Check (List Thing) ScopeFault
no_clash ts = record {
  passes = λ us. (us ≡ ts) × ((n : Text) → Clashes ts n → ⊥);
  fails = λ r. (n : Text) × Clashes ts n × ((o : Text) → Clashes ts o → slice_cmp nat_cmp n o ≡ Greater → ⊥) ×
      (r ≡ ScopeFault.ExportClash n);
}

abbrev pub space_order : Bool → Bool → Ordering
space_order true false = Less
space_order false true = Greater
space_order a b = Equal

abbrev pub then_by : Ordering → Ordering → Ordering
then_by Less o = Less
then_by Equal o = o
then_by Greater o = Greater

-- types before values, each by occurrence; of two of one name the first stays
abbrev pub export_order : Export → Export → Ordering
export_order a b = then_by (space_order (is_types (name_of a.entity).space) (is_types (name_of b.entity).space))
    (slice_cmp nat_cmp a.occ b.occ)

abbrev pub inserted_by : Ordering → Export → Export → List Export → List Export → List Export
inserted_by Less a b rest inner = a ∷ b ∷ rest
inserted_by Equal a b rest inner = a ∷ rest
inserted_by Greater a b rest inner = b ∷ inner

abbrev pub inserted : Export → List Export → List Export
inserted a [] = a ∷ []
inserted a (b ∷ rest) = inserted_by (export_order a b) a b rest (inserted a rest)

-- among the things is this constructor of this type; a type of the same name in another module is another one
abbrev pub Offers : List Thing → Entity → Text → Type 0
Offers [] e c = ⊥
Offers (t ∷ ts) e c = ((name_of t.entity ≡ name_of e) × (t.con ≡ c)) ⊎ Offers ts e c

-- A value or type as it is exported, with those of its constructors that are among the things, in order of
-- declaration. A constructor whose type is not among them is left out.
abbrev pub export_of : List Thing → Thing → Check Export ScopeFault
export_of ts t = record {
  passes = λ e. (cs : List Text) × AreThose (Offers ts t.entity) (con_names t.entity) cs ×
      (e ≡ record { occ = t.occ; entity = t.entity; cons = cs });
  fails = λ r. ⊥;
}

abbrev pub sorted : List Export → List Export
sorted [] = []
sorted (e ∷ es) = inserted e (sorted es)

abbrev pub heads : List Thing → List Thing
heads ts = filter (λ t. not (is_con t)) ts

abbrev pub exports_give : Module → List Export → Scope → Check (List Export) ScopeFault
exports_give m own scope = do
  parts ← offered m own scope.items
  ts ← no_clash (flat_map (λ us. us) parts)
  es ← each (heads ts) (λ done t. export_of ts t)
  given (sorted es)
