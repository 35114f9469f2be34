-- Laws of the definitions.
use Rattle.std.specs.Prelude.{◌≡◌, List}
use Rattle.bp_base.specs.declared.ident.Ident.TheVariants.{Hole}
use Rattle.bp_base.specs.declared.ident.Fill.{Fill}
use Rattle.bp_base.specs.Texts.{Text}
use Rattle.hole_unify.specs.declared.equation.Equation.{Equation}
use Rattle.hole_unify.specs.declared.equation.Head.{Head}
use Rattle.hole_unify.specs.declared.equation.IdentUnifyError.{IdentUnifyError}
use Rattle.hole_unify.specs.declared.equation.IdentUnifyError.TheVariants.{Clash, Cycle, NoMemory}
use Rattle.hole_unify.specs.Causes.{IsCause}
use Rattle.hole_unify.specs.Unifiers.{HasUnifier, IsAnswer}
use Rattle.hole_unify.specs.Classes.{HasHeads, Reaches}

abbrev pub ClashHasNoUnifier : Type 0
ClashHasNoUnifier = (es : List Equation) (one other : Head) → HasHeads es one other → HasUnifier es → ⊥

abbrev pub CycleHasNoUnifier : Type 0
CycleHasNoUnifier = (es : List Equation) (n : Text) → Reaches es (Hole n) (Hole n) → HasUnifier es → ⊥

-- two answers are one list
abbrev pub AnswersAreOne : Type 0
AnswersAreOne = (es : List Equation) (f g : List Fill) → IsAnswer es f → IsAnswer es g → f ≡ g

-- the same kind with the same label, and the same hole
abbrev pub SameCause : IdentUnifyError → IdentUnifyError → Type 0
SameCause NoMemory other = Unit {0}
SameCause one NoMemory = Unit {0}
SameCause (Clash label a b) (Clash label' c d) = label ≡ label'
SameCause (Clash label a b) (Cycle label' hole) = ⊥
SameCause (Cycle label hole) (Clash label' a b) = ⊥
SameCause (Cycle label hole) (Cycle label' hole') = (label ≡ label') × (hole ≡ hole')

-- two causes have one kind, one label and one hole
abbrev pub CausesAreOne : Type 0
CausesAreOne = (es : List Equation) (one other : IdentUnifyError) → IsCause es one → IsCause es other
    → SameCause one other

-- no cause but want of memory stands beside an answer
abbrev pub NoCauseBesideAnswer : Type 0
NoCauseBesideAnswer = (es : List Equation) (f : List Fill) (e : IdentUnifyError) → IsAnswer es f → IsCause es e
    → e ≡ NoMemory
