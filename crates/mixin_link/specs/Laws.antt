-- What linkings have to do with unifiers.
use Rattle.std.specs.Prelude.{◌≡◌, ◌⊎◌, ◌↔◌, List, [], ◌∷◌}
use Rattle.bp_base.specs.declared.ident.Ident.{Ident}
use Rattle.bp_base.specs.declared.ident.Fill.{Fill}
use Rattle.bp_base.specs.Lists.{Among}
use Rattle.bp_base.specs.declared.ident.Ident.TheVariants.{Module}
use Rattle.bp_base.specs.declared.ident.Unit.{Unit as OfUnit, out-Unit}
use Rattle.bp_base.specs.declared.linking.Include.{Include}
use Rattle.bp_base.specs.declared.linking.Linking.{Linking}
use Rattle.bp_base.specs.declared.linking.Provision.{Provision}
use Rattle.bp_base.specs.Texts.{Text, Rise}
use Rattle.cabal_component.specs.declared.component.Component.{Component}
use Rattle.mixin_link.specs.declared.summary.Summary.{Summary}
use Rattle.mixin_link.specs.Summaries.{own_unit, units_shown, AreLawful}
use Rattle.mixin_link.specs.Answers.{in_order, IsLinkingOf, IsRefusal}
use Rattle.mixin_link.specs.declared.error.LinkError.{LinkError}
use Rattle.mixin_link.specs.declared.error.LinkError.TheVariants as error
use Rattle.unit_identity.specs.Fill.{at_hole}
use Rattle.hole_unify.specs.declared.equation.IdentUnifyError.{IdentUnifyError}
use Rattle.hole_unify.specs.declared.equation.IdentUnifyError.TheVariants.{NoMemory}
use Rattle.hole_unify.specs.Unifiers.{IsUnifier, IsAnswer}
use Rattle.hole_unify.specs.Causes.{IsCause}
use Rattle.hole_unify.specs.Occurrence.{AreOfEquations}
use Rattle.mixin_link.specs.declared.open.OpenInclude.{OpenInclude}
use Rattle.mixin_link.specs.Linkings.{IsLinking, IsPrincipal}
use Rattle.mixin_link.specs.Equations.{equations_of, fills_for, AreOpen}

-- the linkings are the unifiers of the equations
abbrev pub LinkingsAreUnifiers : Type 0
LinkingsAreUnifiers = (required : List Text) (is : List OpenInclude) → AreOpen required is
    → ((f : List Fill) → IsUnifier (equations_of required is) f → IsLinking required is (λ n. at_hole n f))
    × ((s : Text → Ident) → IsLinking required is s → IsUnifier (equations_of required is) (fills_for s required))

-- the most general unifier with least names is the principal linking
abbrev pub AnswersArePrincipal : Type 0
AnswersArePrincipal = (required : List Text) (is : List OpenInclude) (f : List Fill) → AreOpen required is
    → IsAnswer (equations_of required is) f → AreOfEquations (equations_of required is) f
    → IsPrincipal required is (λ n. at_hole n f)

-- two principal linkings assign the same to each required name
abbrev pub PrincipalIsOne : Type 0
PrincipalIsOne = (required : List Text) (is : List OpenInclude) (s t : Text → Ident) → IsPrincipal required is s
    → IsPrincipal required is t → (n : Text) → Among n required → s n ≡ t n

-- where a refusal of the equations has a cause, there is no linking
abbrev pub CausesLeaveNone : Type 0
CausesLeaveNone = (required : List Text) (is : List OpenInclude) (e : IdentUnifyError) (s : Text → Ident)
    → AreOpen required is → IsCause (equations_of required is) e → IsLinking required is s → e ≡ NoMemory

-- names are put in byte order, each once, and no others
abbrev pub NamesAreOrdered : Type 0
NamesAreOrdered = (ns : List Text) → Rise (in_order [] ns) × ((n : Text) → Among n (in_order [] ns) ↔ Among n ns)

-- what a component provides: modules of its own unit, and what its includes provide, perhaps under other names
abbrev pub IsProvided : Text → Linking → Provision → Type 0
IsProvided c l p = ((m : Text) × (p.ident ≡ Module (own_unit c l.holes) m))
    ⊎ ((i : Include) × Among i l.includes × (q : Provision) × Among q i.provides × (q.ident ≡ p.ident))

-- What a linked component provides meets the condition for the next one, where no summary has a unit of its name.
abbrev pub LinkingsAreLawful : Type 0
LinkingsAreLawful = (c : Component) (ss : List Summary) (l : Linking) (ps : List Provision) → AreLawful ss
    → IsLinkingOf c ss l
    → ((u : OfUnit) → Among u (units_shown ss) → (out-Unit u).component ≡ c.name → ⊥)
    → ((p : Provision) → Among p ps → IsProvided c.name l p)
    → AreLawful (record { component = c.name; holes = l.holes; provisions = ps } ∷ ss)

-- A component has at most one linking as an answer, and beside it no refusal but want of memory.
abbrev pub LinkingHasOneOutcome : Type 0
LinkingHasOneOutcome = (c : Component) (ss : List Summary) → AreLawful ss
    → ((l k : Linking) → IsLinkingOf c ss l → IsLinkingOf c ss k → l ≡ k)
    × ((l : Linking) (e : LinkError) → IsLinkingOf c ss l → IsRefusal c ss e → e ≡ error.NoMemory)
