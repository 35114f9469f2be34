-- What is in scope in a module (Haskell 2010 Report, sections 5.3 and 5.6.1).
use Rattle.std.specs.Prelude.{◌≡◌, ⊤, Bool, true, false, List, [], ◌∷◌, ◌++◌, map, codes, Option, Some, None, Result}
use Rattle.std.specs.Prelude.{Ok, Err}
use Rattle.std.specs.Prelude.{if◌then◌else◌}
use Rattle.std.specs.List.{filter, flat_map, list_any}
use Rattle.std.specs.Str.{bytes_eq}
use Rattle.bp_base.specs.Texts.{Text}
use Rattle.bp_base.specs.declared.entity.Entity.{Entity}
use Rattle.bp_base.specs.declared.entity.Export.{Export}
use Rattle.bp_base.specs.declared.entity.Interface.{Interface}
use Rattle.hs_modules.specs.declared.module.ImportList.TheVariants as l
use Rattle.hs_modules.specs.declared.module.ImpDeclTree.{ImpDeclTree}
use Rattle.hs_modules.specs.declared.module.Module.{Module}
use Rattle.hs_modules.specs.declared.module.Module.TheVariants as m
use Rattle.hs_modules.specs.declared.declarations.TopSlot.{TopSlot}
use Rattle.hs_modules.specs.declared.declarations.TopSlot.TheVariants as ts
use Rattle.hs_modules.specs.declared.declarations.SigSlot.{SigSlot}
use Rattle.hs_modules.specs.declared.declarations.SigSlot.TheVariants as ss
use Rattle.hs_scopes.specs.declared.scope.ScopeItem.{ScopeItem}
use Rattle.hs_scopes.specs.declared.scope.Scope.{Scope}
use Rattle.hs_scopes.specs.Meanings.{name_of, is_types}
use Rattle.import_resolve.specs.declared.visible.Visible.{Visible}
use Rattle.import_resolve.specs.declared.error.ScopeError.{ScopeError}
use Rattle.import_resolve.specs.declared.error.ScopeError.TheVariants as err
use Rattle.import_resolve.specs.ImportLists.{Filter, filter_of, lets_head, lets_con, showing, missing}

-- ---- faults

pub data ScopeFault : Type 0 where
  NoModule : Text → ScopeFault
  AmbiguousModule : Text → ScopeFault
  NotInScope : Text → ScopeFault
  AmbiguousName : Text → ScopeFault
  ExportClash : Text → ScopeFault

-- what is said of an error, where it is a fault: of want of memory nothing is
abbrev pub OnFault : ScopeError → (ScopeFault → Type 0) → Type 0
OnFault (err.NoModule name) P = P (ScopeFault.NoModule name)
OnFault (err.AmbiguousModule name) P = P (ScopeFault.AmbiguousModule name)
OnFault (err.NotInScope name) P = P (ScopeFault.NotInScope name)
OnFault (err.AmbiguousName name) P = P (ScopeFault.AmbiguousName name)
OnFault (err.ExportClash name) P = P (ScopeFault.ExportClash name)
OnFault err.NoMemory P = ⊤

-- an answer is the one that is meant, and a fault is the one that is meant
abbrev pub Answers : {B : Type 0} → Result B ScopeFault → Result B ScopeError → Type 0
Answers meant (Ok b) = meant ≡ Ok b
Answers meant (Err e) = OnFault e (λ f. meant ≡ Err f)

-- the same for exports that are lent
abbrev pub ShowsOne : {X : Type 0} → (X → List Export) → Result (List Export) ScopeFault → Result X ScopeError → Type 0
ShowsOne at meant (Ok b) = meant ≡ Ok (at b)
ShowsOne at meant (Err e) = OnFault e (λ f. meant ≡ Err f)

abbrev pub next : {A B : Type 0} → Result A ScopeFault → (A → Result B ScopeFault) → Result B ScopeFault
next (Ok a) f = f a
next (Err e) f = Err e

-- ---- what an import brings

abbrev pub item_at : Text → Entity → (occ con : Text) → ScopeItem
item_at q e x c = record { qualifier = q; occ = x; entity = e; con = c }

abbrev pub head_items : Text → Filter → Export → List ScopeItem
head_items q f e =
    if lets_head f (is_types (name_of e.entity).space) e.occ then item_at q e.entity e.occ [] ∷ [] else []

abbrev pub con_items : Text → Filter → Entity → Text → List Text → List ScopeItem
con_items q f e t cs = map (λ c. item_at q e c c) (filter (lets_con f t) cs)

-- what is let in of an export, behind this qualifier
abbrev pub items_of : Text → Filter → Export → List ScopeItem
items_of q f e = head_items q f e ++ con_items q f e.entity e.occ e.cons

abbrev pub brought : Text → Filter → List Export → List ScopeItem
brought q f es = flat_map (items_of q f) es

-- plainly and behind a qualifier, or behind it alone
abbrev pub brought_by : Bool → Text → Filter → List Export → List ScopeItem
brought_by true q f es = brought q f es
brought_by false q f es = brought [] f es ++ brought q f es

-- the name before the dot of what an import brings
abbrev pub alias_or : Text → Option Text → Text
alias_or name None = name
alias_or name (Some a) = a

abbrev pub import_name : ImpDeclTree → Text
import_name d = alias_or d.modid d.alias

-- the one interface that an imported name shows
abbrev pub one_shown : Text → List Interface → Result (List Export) ScopeFault
one_shown x [] = Err (ScopeFault.NoModule x)
one_shown x (f ∷ []) = Ok f.exports
one_shown x (f ∷ g ∷ fs) = Err (ScopeFault.AmbiguousModule x)

abbrev pub shown_at : Text → List Visible → Result (List Export) ScopeFault
shown_at x [] = Err (ScopeFault.NoModule x)
shown_at x (v ∷ vs) = if bytes_eq v.name x then one_shown x v.shows else shown_at x vs

abbrev pub none_missing : {B : Type 0} → Option Text → B → Result B ScopeFault
none_missing None b = Ok b
none_missing (Some x) b = Err (ScopeFault.NotInScope x)

abbrev pub imported_from : ImpDeclTree → List Export → Result (List ScopeItem) ScopeFault
imported_from d es =
    none_missing (missing (showing es) d.list) (brought_by d.qualified (import_name d) (filter_of d.list) es)

abbrev pub imported : List Visible → ImpDeclTree → Result (List ScopeItem) ScopeFault
imported vs d = next (shown_at d.modid vs) (imported_from d)

-- what was brought, with what is brought behind it
abbrev pub behind : List ScopeItem → Result (List ScopeItem) ScopeFault → Result (List ScopeItem) ScopeFault
behind items found = next found (λ more. Ok (items ++ more))

-- what imports bring one after the other, or the first fault
abbrev pub all_imported : List Visible → List ImpDeclTree → Result (List ScopeItem) ScopeFault
all_imported vs [] = Ok []
all_imported vs (d ∷ ds) = next (imported vs d) (λ is. behind is (all_imported vs ds))

-- ---- the parts of a module

abbrev pub top_import : TopSlot → List ImpDeclTree
top_import ts.Empty = []
top_import (ts.Import d) = d ∷ []
top_import (ts.Decl d) = []

abbrev pub sig_import : SigSlot → List ImpDeclTree
sig_import ss.Empty = []
sig_import (ss.Import d) = d ∷ []
sig_import (ss.Decl d) = []

abbrev pub written_imports : Module → List ImpDeclTree
written_imports (m.Headless b) = flat_map top_import (b.first ∷ b.rest)
written_imports (m.Named x b) = flat_map top_import (b.first ∷ b.rest)
written_imports (m.Exporting x es b) = flat_map top_import (b.first ∷ b.rest)
written_imports (m.Signature x b) = flat_map sig_import (b.first ∷ b.rest)

-- a module without a header is `Main`
abbrev pub main_module : Text
main_module = codes "Main"

abbrev pub module_name : Module → Text
module_name (m.Headless b) = main_module
module_name (m.Named x b) = x
module_name (m.Exporting x es b) = x
module_name (m.Signature x b) = x

abbrev pub prelude : Text
prelude = codes "Prelude"

abbrev pub names_prelude : ImpDeclTree → Bool
names_prelude d = bytes_eq d.modid prelude

abbrev pub prelude_import : ImpDeclTree
prelude_import = record { qualified = false; modid = prelude; alias = None; list = l.Everything }

-- `Prelude` is imported before the written imports, unless one of them names it
abbrev pub implicit_imports : Module → List ImpDeclTree
implicit_imports x = if list_any names_prelude (written_imports x) then [] else prelude_import ∷ []

-- ---- the scope

-- own names, then what the implicit import brings, then what each written import brings, in order
abbrev pub scope_gives : Module → List Export → List Visible → Result Scope ScopeFault
scope_gives x own vs =
    next (all_imported vs (implicit_imports x)) (λ is.
    next (all_imported vs (written_imports x)) (λ js.
    Ok (record { items = brought_by false (module_name x) Filter.everything own ++ (is ++ js) })))
