-- What is left of an expression once its head was entered.
use Rattle.std.specs.Prelude.{◌⊎◌, ℕ, ◌+◌, List, [], ◌∷◌, length, replicate}
use Rattle.std.specs.List.{range_with_len}
use Rattle.hs_core.specs.declared.tree.Exp.{Exp}
use Rattle.hs_core.specs.declared.tree.Exp.TheVariants.{Lambda}
use Rattle.hs_core.specs.declared.tree.Guard.{Guard}
use Rattle.hs_core.specs.declared.tree.Pat.{Pat}
use Rattle.type_terms.specs.Terms.{var}
use Rattle.hs_core.specs.Types.{KindTerm, star}
use Rattle.hs_core.specs.Globals.{Globals}
use Rattle.type_unify.specs.Types.{Plain}
use Rattle.type_equations.specs.States.{State, IsReady, Equated, NotEqual}
use Rattle.type_equations.specs.declared.equations.Binder.{Binder}
use Rattle.type_equations.specs.Demands.{Demand, AllStar, with_unknowns}
use Rattle.type_equations.specs.Syntax.{AreStars, KnowsSyntax, plain_boolean, plain_function, plain_functions, unknowns}
use Rattle.infer_patterns.specs.Names.{Knows}
use Rattle.infer_patterns.specs.declared.names.Declared.{Declared}
use Rattle.expression_demands.specs.Leaving.{Leaves}
use Rattle.expression_demands.specs.Expressions.{has_type, meant_type, has_guarded, meant_guarded}
use Rattle.infer_expressions.specs.Inferred.{Refused}

-- what is left of a demand where these locals are seen, and these unknowns are new types of kind `*`
abbrev pub Leads : List Declared → List Binder → List ℕ → (Globals → Demand) → (Globals → Demand) → (Globals → Demand)
    → (Globals → Demand) → List Binder → List ℕ → State → State → Type 0
Leads names env vs gives takes left_gives left_takes scope left old now = (G : Globals) → Knows G names → IsReady G old
    → AllStar old.kinds env → AreStars old.kinds vs
    → Leaves G (gives G) (takes G) (left_gives G) (left_takes G) old now × AllStar now.kinds scope
    × AreStars now.kinds left

-- an equation of types behind new unknowns of these kinds
abbrev pub HeadEntered : State → State → List KindTerm → ℕ → Plain → Plain → Type 0
HeadEntered old new js v t u = (G : Globals) → KnowsSyntax G → IsReady G old → AreStars old.kinds (v ∷ [])
    → Equated G (with_unknowns old js) new t u

abbrev pub HeadRefused : State → List KindTerm → ℕ → Plain → Plain → Type 0
HeadRefused old js v t u = (G : Globals) → KnowsSyntax G → IsReady G old → AreStars old.kinds (v ∷ [])
    → NotEqual G (with_unknowns old js) t u

-- a new unknown for a function, and others for what it takes
abbrev pub function_kinds : ℕ → List KindTerm
function_kinds m = star ∷ replicate m star

abbrev pub function_parts : State → ℕ → List ℕ
function_parts old m = range_with_len (length old.kinds + 1) m

-- the first new unknown is a function from the others to the wanted type
abbrev pub function_to : State → ℕ → ℕ → Plain
function_to old m v = plain_functions (unknowns (function_parts old m)) (var v)

abbrev pub ApplicationEntered : State → State → ℕ → ℕ → Type 0
ApplicationEntered old new v m = HeadEntered old new (function_kinds m) v (var (length old.kinds)) (function_to old m v)

abbrev pub ApplicationRefused : State → ℕ → ℕ → Type 0
ApplicationRefused old v m = HeadRefused old (function_kinds m) v (var (length old.kinds)) (function_to old m v)

-- the wanted type is a function to the first new unknown
abbrev pub FunctionEntered : State → State → ℕ → ℕ → Type 0
FunctionEntered old new v m = HeadEntered old new (function_kinds m) v (var v) (function_to old m (length old.kinds))

abbrev pub FunctionRefused : State → ℕ → ℕ → Type 0
FunctionRefused old v m = HeadRefused old (function_kinds m) v (var v) (function_to old m (length old.kinds))

-- a new unknown is `Bool`
abbrev pub TestEntered : State → State → Type 0
TestEntered old new = (G : Globals) → KnowsSyntax G → IsReady G old
    → Equated G (with_unknowns old (star ∷ [])) new (var (length old.kinds)) plain_boolean

abbrev pub TestRefused : State → Type 0
TestRefused old = (G : Globals) → KnowsSyntax G → IsReady G old
    → NotEqual G (with_unknowns old (star ∷ [])) (var (length old.kinds)) plain_boolean

-- new unknowns for the operands of an operator, its result and its own type
abbrev pub section_kinds : List KindTerm
section_kinds = star ∷ star ∷ star ∷ star ∷ []

abbrev pub section_type : State → Plain
section_type old = plain_function (var (length old.kinds)) (var (length old.kinds + 1 + 1))

abbrev pub operator_type : State → Plain
operator_type old = plain_function (var (length old.kinds))
    (plain_function (var (length old.kinds + 1)) (var (length old.kinds + 1 + 1)))

abbrev pub SectionEntered : State → State → ℕ → Type 0
SectionEntered old new v = (G : Globals) → KnowsSyntax G → IsReady G old → AreStars old.kinds (v ∷ [])
    → (middle : State) × Equated G (with_unknowns old section_kinds) middle (var v) (section_type old)
    × Equated G middle new (var (length old.kinds + 1 + 1 + 1)) (operator_type old)

abbrev pub SectionRefused : State → ℕ → Type 0
SectionRefused old v = (G : Globals) → KnowsSyntax G → IsReady G old → AreStars old.kinds (v ∷ [])
    → NotEqual G (with_unknowns old section_kinds) (var v) (section_type old)
    ⊎ ((middle : State) × Equated G (with_unknowns old section_kinds) middle (var v) (section_type old)
    × NotEqual G middle (var (length old.kinds + 1 + 1 + 1)) (operator_type old))

-- the body of a lambda is left, at an unknown, where its variables are seen
abbrev pub LambdaEntered : List Declared → List Binder → State → State → List Pat → ℕ → ℕ → List Binder → Type 0
LambdaEntered names env old new ps v w scope = (e : Exp) → Leads names env (v ∷ [])
    (λ G. has_type G (Lambda ps e) env v)
    (λ G. meant_type G (Lambda ps e) env v) (λ G. has_type G e scope w) (λ G. meant_type G e scope w) scope (w ∷ [])
    old new

abbrev pub LambdaRefused : List Declared → List Binder → State → List Pat → ℕ → Type 0
LambdaRefused names env old ps v = (e : Exp) → Refused names env (v ∷ []) (λ G. meant_type G (Lambda ps e) env v) old

-- what stands behind guards is left, where all that they bind is seen
abbrev pub GuardsInferred : List Declared → List Binder → List Binder → State → State → List Guard → Type 0
GuardsInferred names env after old new guards = (e : Exp) (v : ℕ) → Leads names env (v ∷ [])
    (λ G. has_guarded G guards e env v) (λ G. meant_guarded G guards e env v) (λ G. has_type G e after v)
    (λ G. meant_type G e after v) after (v ∷ []) old new

abbrev pub GuardsRefused : List Declared → List Binder → State → List Guard → Type 0
GuardsRefused names env old guards = (e : Exp) (v : ℕ) → Refused names env (v ∷ [])
    (λ G. meant_guarded G guards e env v) old
