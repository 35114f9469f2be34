-- What inference of an expression does to equations, where each local has one type.
use Rattle.std.specs.Prelude.{◌≡◌, ℕ, List, [], ◌∷◌, ◌++◌, Some, slice_get}
use Rattle.hs_core.specs.declared.tree.Pat.{Pat}
use Rattle.hs_core.specs.declared.tree.Exp.{Exp}
use Rattle.hs_core.specs.declared.tree.Rhs.{Rhs}
use Rattle.hs_core.specs.declared.tree.Alt.{Alt}
use Rattle.hs_core.specs.declared.tree.Choice.{Choice}
use Rattle.hs_core.specs.declared.tree.Guard.{Guard}
use Rattle.hs_core.specs.Types.{star}
use Rattle.hs_core.specs.Globals.{Globals}
use Rattle.type_equations.specs.States.{State, IsReady}
use Rattle.type_equations.specs.declared.equations.Binder.{Binder}
use Rattle.type_equations.specs.declared.equations.Failure.{Failure}
use Rattle.type_equations.specs.Demands.{Demand, AllStar, Imposes, HasNone}
use Rattle.type_equations.specs.Syntax.{AreStars}
use Rattle.infer_patterns.specs.Names.{Knows}
use Rattle.infer_patterns.specs.Patterns.{binds}
use Rattle.infer_patterns.specs.declared.names.Declared.{Declared}
use Rattle.expression_demands.specs.Expressions.{has_type, meant_type, have_types, meant_types, have_alternatives}
use Rattle.expression_demands.specs.Expressions.{meant_alternatives, is_alternative, meant_alternative, is_right_side}
use Rattle.expression_demands.specs.Expressions.{meant_right_side, has_guard, meant_guard}
use Rattle.expression_demands.specs.Expressions.{have_choices, meant_choices}
use Rattle.infer_expressions.specs.declared.refusal.Refusal.{Refusal}

-- where all names that have a declared type are known, the equations are ready, and these locals and unknowns stand
-- for types of kind `*`, the new equations impose what is demanded
abbrev pub Imposed : List Declared → List Binder → List ℕ → (Globals → Demand) → (Globals → Demand) → State → State
    → Type 0
Imposed names env vs gives takes old new = (G : Globals) → Knows G names → IsReady G old → AllStar old.kinds env
    → AreStars old.kinds vs → Imposes G (gives G) (takes G) [] old new

-- there no guess that meets the equations has what is asked
abbrev pub Refused : List Declared → List Binder → List ℕ → (Globals → Demand) → State → Type 0
Refused names env vs takes old = (G : Globals) → Knows G names → IsReady G old → AllStar old.kinds env
    → AreStars old.kinds vs → HasNone G (takes G) old

-- a failure as a refusal
abbrev pub StandsFor : Failure → Refusal → Type 0
StandsFor f r = (r ≡ Refusal.NoTyping → f ≡ Failure.NoTyping) × (r ≡ Refusal.Uncovered → ⊥)

-- each refusal is explained: by what has no typing, or by what is not covered
abbrev pub Explains : Type 0 → Type 0 → Refusal → Type 0
Explains none uncovered r = (r ≡ Refusal.NoTyping → none) × (r ≡ Refusal.Uncovered → uncovered)

abbrev pub ExpInferred : List Declared → List Binder → State → State → Exp → ℕ → Type 0
ExpInferred names env old new e v = Imposed names env (v ∷ []) (λ G. has_type G e env v) (λ G. meant_type G e env v)
    old new

abbrev pub ExpRefused : List Declared → List Binder → State → Exp → ℕ → Type 0
ExpRefused names env old e v = Refused names env (v ∷ []) (λ G. meant_type G e env v) old

abbrev pub ExpsInferred : List Declared → List Binder → State → State → List Exp → List ℕ → Type 0
ExpsInferred names env old new es vs = Imposed names env vs (λ G. have_types G es env vs)
    (λ G. meant_types G es env vs) old new

abbrev pub ExpsRefused : List Declared → List Binder → State → List Exp → List ℕ → Type 0
ExpsRefused names env old es vs = Refused names env vs (λ G. meant_types G es env vs) old

abbrev pub AltInferred : List Declared → List Binder → State → State → Alt → ℕ → ℕ → Type 0
AltInferred names env old new a u v = Imposed names env (u ∷ v ∷ []) (λ G. is_alternative G a env u v)
    (λ G. meant_alternative G a env u v) old new

abbrev pub AltRefused : List Declared → List Binder → State → Alt → ℕ → ℕ → Type 0
AltRefused names env old a u v = Refused names env (u ∷ v ∷ []) (λ G. meant_alternative G a env u v) old

abbrev pub AltsInferred : List Declared → List Binder → State → State → List Alt → ℕ → ℕ → Type 0
AltsInferred names env old new alts u v = Imposed names env (u ∷ v ∷ []) (λ G. have_alternatives G alts env u v)
    (λ G. meant_alternatives G alts env u v) old new

abbrev pub AltsRefused : List Declared → List Binder → State → List Alt → ℕ → ℕ → Type 0
AltsRefused names env old alts u v = Refused names env (u ∷ v ∷ []) (λ G. meant_alternatives G alts env u v) old

abbrev pub SideInferred : List Declared → List Binder → State → State → Rhs → ℕ → Type 0
SideInferred names env old new r v = Imposed names env (v ∷ []) (λ G. is_right_side G r env v)
    (λ G. meant_right_side G r env v) old new

abbrev pub SideRefused : List Declared → List Binder → State → Rhs → ℕ → Type 0
SideRefused names env old r v = Refused names env (v ∷ []) (λ G. meant_right_side G r env v) old

abbrev pub ChoicesInferred : List Declared → List Binder → State → State → List Choice → ℕ → Type 0
ChoicesInferred names env old new choices v = Imposed names env (v ∷ []) (λ G. have_choices G choices env v)
    (λ G. meant_choices G choices env v) old new

abbrev pub ChoicesRefused : List Declared → List Binder → State → List Choice → ℕ → Type 0
ChoicesRefused names env old choices v = Refused names env (v ∷ []) (λ G. meant_choices G choices env v) old

-- a pattern at the type of an unknown, and the locals behind it: what it binds, in front of those before it
abbrev pub PatternSeen : List Declared → List Binder → List Binder → State → State → Pat → ℕ → Type 0
PatternSeen names env after old new p u = (G : Globals) → Knows G names → IsReady G old
    → slice_get old.kinds u ≡ Some star
    → (binders : List Binder) × (after ≡ binders ++ env) × Imposes G (binds G p u) (binds G p u) binders old new

-- a guard, and the locals behind it: what it binds, in front of those before it
abbrev pub GuardInferred : List Declared → List Binder → List Binder → State → State → Guard → Type 0
GuardInferred names env after old new x = (G : Globals) → Knows G names → IsReady G old → AllStar old.kinds env
    → (binders : List Binder) × (after ≡ binders ++ env)
    × Imposes G (has_guard G x env) (meant_guard G x env) binders old new

abbrev pub GuardRefused : List Declared → List Binder → State → Guard → Type 0
GuardRefused names env old x = Refused names env [] (λ G. meant_guard G x env) old
