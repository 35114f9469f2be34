-- What an entry of `mixins` brings of a dependency, and how it renames the dependency's requirements.
use Rattle.std.specs.Prelude.{◌≡◌, ℕ, Bool, Option, Some, None, List, [], ◌∷◌, map, not, unwrap_or, if◌then◌else◌}
use Rattle.std.specs.List.{filter, flat_map}
use Rattle.std.specs.Str.{bytes_eq}
use Rattle.bp_base.specs.declared.linking.Rename.{Rename}
use Rattle.bp_base.specs.declared.linking.Provision.{Provision}
use Rattle.bp_base.specs.Lists.{is_among}
use Rattle.cabal_component.specs.declared.component.Provides.{Provides}
use Rattle.cabal_component.specs.declared.component.Provides.TheVariants.{Whole, Listed, Hiding}
use Rattle.mixin_names.specs.declared.error.NameError.{NameError}
use Rattle.mixin_names.specs.declared.error.NameError.TheVariants.{NoProvision, NoRequirement, NoMemory}

-- the first of names that isn't one of these
abbrev pub first_missing : List (List ℕ) → List (List ℕ) → Option (List ℕ)
first_missing there [] = None
first_missing there (n ∷ ns) = if is_among n there then first_missing there ns else Some n

-- the names under which modules are provided
abbrev pub provided_names : List Provision → List (List ℕ)
provided_names exposed = map (λ p. p.name) exposed

-- the provision under another name
abbrev pub under : List ℕ → Provision → Provision
under name p = record { name = name; ident = p.ident }

-- the provisions of a name, in their order
abbrev pub provisions_of : List Provision → List ℕ → List Provision
provisions_of exposed name = filter (λ p. bytes_eq p.name name) exposed

-- what an item brings: every provision of its old name, in their order, under its new name
abbrev pub brought : (List ℕ → List Provision) → Rename → List Provision
brought provisions item = map (under item.to) (provisions item.from)

-- what an entry brings
abbrev pub provided : Provides → List Provision → List Provision
provided Whole exposed = exposed
provided (Listed items) exposed = flat_map (brought (provisions_of exposed)) items
provided (Hiding names) exposed = filter (λ p. not (is_among p.name names)) exposed

-- the names that an entry lists or hides
abbrev pub named_by : Provides → List (List ℕ)
named_by Whole = []
named_by (Listed items) = map (λ r. r.from) items
named_by (Hiding names) = names

-- the first listed or hidden name that isn't exposed
abbrev pub missing_provision : Provides → List Provision → Option (List ℕ)
missing_provision provides exposed = first_missing (provided_names exposed) (named_by provides)

-- the linkage name of a hole: that of the first renaming of it; its own where it isn't mentioned
abbrev pub linkage_name : List Rename → List ℕ → List ℕ
linkage_name [] hole = hole
linkage_name (r ∷ rs) hole = if bytes_eq r.from hole then r.to else linkage_name rs hole

abbrev pub linked : (List ℕ → List ℕ) → List ℕ → Rename
linked names hole = record { from = hole; to = names hole }

-- one renaming for each hole
abbrev pub all_linked : (List ℕ → List ℕ) → List (List ℕ) → List Rename
all_linked names holes = map (linked names) holes

-- the first listed name that is no hole
abbrev pub missing_requirement : List Rename → List (List ℕ) → Option (List ℕ)
missing_requirement needs holes = first_missing holes (map (λ r. r.from) needs)

-- the error names the provision that is missing
abbrev pub NamesProvision : NameError → Option (List ℕ) → Type 0
NamesProvision (NoProvision name) missing = missing ≡ Some name
NamesProvision (NoRequirement name) missing = ⊥
NamesProvision NoMemory missing = Unit {0}

-- the error names the requirement that is missing
abbrev pub NamesRequirement : NameError → Option (List ℕ) → Type 0
NamesRequirement (NoProvision name) missing = ⊥
NamesRequirement (NoRequirement name) missing = missing ≡ Some name
NamesRequirement NoMemory missing = Unit {0}
