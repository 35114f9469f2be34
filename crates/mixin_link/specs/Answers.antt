-- What linking answers.
use Rattle.std.specs.Prelude.{◌≡◌, Bool, false, Option, Some, None, List, [], ◌∷◌, ◌++◌, map, codes, if◌then◌else◌}
use Rattle.std.specs.List.{filter, flat_map}
use Rattle.std.specs.BTreeSet.{insert_key}
use Rattle.std.specs.Ordering.{nat_cmp}
use Rattle.std.specs.Cmp.Lexicographic.{slice_cmp}
use Rattle.std.specs.Str.{bytes_eq}
use Rattle.bp_base.specs.declared.ident.Ident.{Ident}
use Rattle.bp_base.specs.declared.ident.Ident.TheVariants.{Hole, Module'}
use Rattle.bp_base.specs.declared.ident.Ident.TheViews.{roll-Unit}
use Rattle.bp_base.specs.declared.ident.Fill.{Fill}
use Rattle.bp_base.specs.declared.linking.Provision.{Provision}
use Rattle.bp_base.specs.declared.linking.Include.{Include}
use Rattle.bp_base.specs.declared.linking.Linking.{Linking}
use Rattle.bp_base.specs.declared.ident.Unit.{Unit as OfUnit, out-Unit}
use Rattle.bp_base.specs.Lists.{Among, is_among}
use Rattle.bp_base.specs.Texts.{Text}
use Rattle.unit_identity.specs.Fill.{filled}
use Rattle.hole_unify.specs.declared.equation.Equation.{Equation}
use Rattle.hole_unify.specs.declared.equation.Head.{Head}
use Rattle.hole_unify.specs.declared.equation.IdentUnifyError.{IdentUnifyError}
use Rattle.hole_unify.specs.declared.equation.IdentUnifyError.TheVariants as cause
use Rattle.hole_unify.specs.Causes.{IsCause, units_of, units_in, holes_of}
use Rattle.cabal_component.specs.declared.component.Component.{Component}
use Rattle.cabal_component.specs.Includes.{includes_of}
use Rattle.mixin_link.specs.declared.error.LinkError.{LinkError}
use Rattle.mixin_link.specs.declared.error.LinkError.TheVariants.{NoProvision, NoRequirement, NameTaken, LinkClash}
use Rattle.mixin_link.specs.declared.error.LinkError.TheVariants.{LinkCycle, NoMemory}
use Rattle.mixin_link.specs.declared.open.OpenInclude.{OpenInclude}
use Rattle.mixin_link.specs.declared.summary.Summary.{Summary}
use Rattle.mixin_link.specs.Linkings.{fills_under, IsPrincipal}
use Rattle.mixin_link.specs.Equations.{equations_of}
use Rattle.mixin_link.specs.Opening.{first_refusal, open_in}

-- ---- names

-- names put among others in byte order, each once
abbrev pub in_order : List Text → List Text → List Text
in_order done [] = done
in_order done (n ∷ ns) = in_order (insert_key (slice_cmp nat_cmp) done n) ns

-- the linkage names of what includes need
abbrev pub linkage_names : List OpenInclude → List Text
linkage_names is = flat_map (λ i. map (λ r. r.to) i.needs) is

-- the required names: the signatures and the linkage names, in byte order
abbrev pub required_names : List Text → List OpenInclude → List Text
required_names signatures is = in_order [] (signatures ++ linkage_names is)

-- the own modules, `Main` of an executable among them
abbrev pub own_modules : Component → List Text
own_modules c = (if c.executable then codes "Main" ∷ [] else []) ++ (c.exposed ++ c.other)

-- the first of names that is one of these
abbrev pub first_taken : List Text → List Text → Option Text
first_taken own [] = None
first_taken own (n ∷ ns) = if is_among n own then Some n else first_taken own ns

-- ---- linkings written down

abbrev pub is_hole : Text → Ident → Bool
is_hole n (Hole m) = bytes_eq m n
is_hole n (Module' s r m) = false

-- the names that are assigned themselves
abbrev pub holes_left : (Text → Ident) → List Text → List Text
holes_left s required = filter (λ n. is_hole n (s n)) required

abbrev pub assigned : (Text → Ident) → Text → Provision
assigned s n = record { name = n; ident = s n }

-- a provision in the unit with these fills
abbrev pub provision_in : List Fill → Provision → Provision
provision_in fills p = record { name = p.name; ident = filled p.ident fills }

abbrev pub include_under : (Text → Ident) → OpenInclude → Include
include_under s i = record {
  unit = roll-Unit (record { component = i.component; fills = fills_under s i.needs });
  provides = map (provision_in (fills_under s i.needs)) i.provides;
  needs = i.needs;
}

abbrev pub linking_under : (Text → Ident) → List Text → List OpenInclude → Linking
linking_under s required is = record {
  holes = holes_left s required;
  required = map (assigned s) required;
  includes = map (include_under s) is;
}

-- ---- answers

-- the includes of a component over the summaries of its dependencies
abbrev pub open_includes : Component → List Summary → List OpenInclude
open_includes c ss = map (open_in ss) (includes_of c)

abbrev pub required_by : Component → List Summary → List Text
required_by c ss = required_names c.signatures (open_includes c ss)

-- an own module whose name is required
abbrev pub taken_by : Component → List Summary → Option Text
taken_by c ss = first_taken (own_modules c) (required_by c ss)

-- a unit with the component and the holes of one that occurs in the equations
pub record IsLike (es : List Equation) (u : OfUnit) : Type 0 where
  pub source : OfUnit
  pub there : Among source (units_in es)
  pub component : (out-Unit source).component ≡ (out-Unit u).component
  pub holes : holes_of source ≡ holes_of u

-- the principal linking, written down; the units in what it assigns are those of the equations, perhaps with other
-- fills
pub record IsLinked (required : List Text) (is : List OpenInclude) (l : Linking) : Type 0 where
  pub assigns : Text → Ident
  pub principal : IsPrincipal required is assigns
  pub written : l ≡ linking_under assigns required is
  pub parts : (n : Text) → Among n required → (u : OfUnit) → Among u (units_of (assigns n))
      → IsLike (equations_of required is) u

-- no entry is refused, and no name taken
pub record Fits (c : Component) (ss : List Summary) : Type 0 where
  pub entries : first_refusal ss (includes_of c) ≡ None
  pub names : taken_by c ss ≡ None

pub record IsLinkingOf (c : Component) (ss : List Summary) (l : Linking) : Type 0 where
  pub fits : Fits c ss
  pub linked : IsLinked (required_by c ss) (open_includes c ss) l

-- the equation of this name is the first such that those up to it and with it have no unifier, for this cause
abbrev pub IsUnlinked : List Equation → LinkError → Type 0
IsUnlinked es NoMemory = Unit {0}
IsUnlinked es (NoProvision d n) = ⊥
IsUnlinked es (NoRequirement d n) = ⊥
IsUnlinked es (NameTaken n) = ⊥
IsUnlinked es (LinkClash n) = (one other : Head) × IsCause es (cause.Clash n one other)
IsUnlinked es (LinkCycle n) = (hole : Text) × IsCause es (cause.Cycle n hole)

-- the same for the equations of a component
abbrev pub IsUnlinkedAt : Component → List Summary → LinkError → Type 0
IsUnlinkedAt c ss e = IsUnlinked (equations_of (required_by c ss) (open_includes c ss)) e

abbrev pub refusal_for : IdentUnifyError → LinkError
refusal_for (cause.Clash label one other) = LinkClash label
refusal_for (cause.Cycle label hole) = LinkCycle label
refusal_for cause.NoMemory = NoMemory

-- the refusal is this one, or memory is wanting
abbrev pub Tells : LinkError → Option LinkError → Type 0
Tells NoMemory o = Unit {0}
Tells (NoProvision d n) o = o ≡ Some (NoProvision d n)
Tells (NoRequirement d n) o = o ≡ Some (NoRequirement d n)
Tells (NameTaken n) o = ⊥
Tells (LinkClash n) o = ⊥
Tells (LinkCycle n) o = ⊥

-- the first refusal: of an entry; of the least own name that is required; of an equation
abbrev pub IsRefusal : Component → List Summary → LinkError → Type 0
IsRefusal c ss NoMemory = Unit {0}
IsRefusal c ss (NoProvision d n) = first_refusal ss (includes_of c) ≡ Some (NoProvision d n)
IsRefusal c ss (NoRequirement d n) = first_refusal ss (includes_of c) ≡ Some (NoRequirement d n)
IsRefusal c ss (NameTaken n) = (first_refusal ss (includes_of c) ≡ None) × (taken_by c ss ≡ Some n)
IsRefusal c ss (LinkClash n) = Fits c ss × IsUnlinkedAt c ss (LinkClash n)
IsRefusal c ss (LinkCycle n) = Fits c ss × IsUnlinkedAt c ss (LinkCycle n)
