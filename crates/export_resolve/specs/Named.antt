-- What has a name, looked up in tables.
use Rattle.std.specs.Prelude.{ℕ, List, [], ◌∷◌, unwrap_or, if◌then◌else◌}
use Rattle.std.specs.List.{flat_map}
use Rattle.std.specs.HashMap.{HashMap, get}
use Rattle.std.specs.Str.{bytes_eq}
use Rattle.bp_base.specs.Texts.{Text}
use Rattle.bp_base.specs.declared.ty.OrigName.{OrigName}
use Rattle.hs_scopes.specs.declared.scope.ScopeItem.{ScopeItem}
use Rattle.hs_scopes.specs.Meanings.{name_of}

-- what a table has of a name
abbrev pub all_at : {A S : Type 0} → HashMap (List ℕ) (List A) S → Text → List A
all_at table q = unwrap_or (get bytes_eq table q) []

-- this, where the names are one
abbrev pub if_named : {A : Type 0} → Text → Text → A → List A
if_named x q a = if bytes_eq x q then a ∷ [] else []

-- the items of this occurrence
abbrev pub items_named : List ScopeItem → Text → List ScopeItem
items_named items q = flat_map (λ i. if_named i.occ q i) items

-- the types of the constructors of this name
abbrev pub owners_named : List ScopeItem → Text → List OrigName
owners_named items q = flat_map (λ i. if_named i.con q (name_of i.entity)) items
