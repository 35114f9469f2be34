-- Which declarations a type mentions, and the declarations of dependency groups.
use Rattle.std.specs.Prelude.{◌≡◌, ℕ, List, [], ◌∷◌, ◌++◌, map, flat_map, nat_eq, if◌then◌else◌, Option, Some, None}
use Rattle.std.specs.List.{list_any}
use Rattle.hs_core.specs.Types.{TypeTerm}
use Rattle.hs_core.specs.Kinds.{TypeDecl}
use Rattle.hs_core.specs.Groups.{AreGroups}
use Rattle.hs_core.specs.declared.group.IndexGroup.{IndexGroup}
use Rattle.hs_core.specs.WellTyped.{number_of, numbers_once, names_in, type_uses, chosen, meaning_types}
use Rattle.kind_check.specs.declared.scope.GroupDecl.{GroupDecl}
use Rattle.kind_check.specs.declared.group.TypeGroup.{TypeGroup}
use Rattle.hs_core.specs.declared.group.UseList.{UseList}
use Rattle.kind_check.specs.Scopes.{decls_of, meaning_of}

-- the list has this number alone, or nothing
abbrev pub IsPlaceOf : List ℕ → Option ℕ → Type 0
IsPlaceOf ns (Some i) = ns ≡ i ∷ []
IsPlaceOf ns None = ns ≡ []

-- a number joins the others unless it is one of them
abbrev pub with_number : List ℕ → ℕ → List ℕ
with_number ns n = if list_any (λ m. nat_eq m n) ns then ns else ns ++ n ∷ []

abbrev pub with_numbers : List ℕ → List ℕ → List ℕ
with_numbers ns [] = ns
with_numbers ns (m ∷ ms) = with_numbers (with_number ns m) ms

-- the numbers of the declarations that types mention, in order of occurrence
abbrev pub uses_in : List TypeDecl → List TypeTerm → List ℕ
uses_in ds ts = flat_map (number_of 0 ds) (flat_map names_in ts)

-- the use list of a declaration
abbrev pub use_list : List TypeDecl → GroupDecl → UseList
use_list ds d = record { uses = numbers_once (uses_in ds (meaning_types (meaning_of d.params d.says))) }

abbrev pub group_decls : TypeGroup → List GroupDecl
group_decls g = g.decls

-- the groups have the declarations of the dependency groups, in their order
pub record AreTypeGroups (ds : List GroupDecl) (gs : List TypeGroup) : Type 0 where
  pub order : List IndexGroup
  pub are_groups : AreGroups (type_uses (decls_of ds)) order
  pub members : map group_decls gs ≡ map (λ g. chosen ds g.members) order
