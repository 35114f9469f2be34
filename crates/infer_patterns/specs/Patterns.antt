-- What inference of a pattern does to equations.
use Rattle.std.specs.Prelude.{◌≡◌, ◌≢◌, ◌⊎◌, ℕ, ◌≤◌, List, [], ◌∷◌, ◌++◌, map, length, replicate, Some, slice_get}
use Rattle.std.specs.List.{range_with_len}
use Rattle.type_terms.specs.Terms.{var}
use Rattle.type_unify.specs.Types.{Plain}
use Rattle.type_equations.specs.Coded.{IsForm}
use Rattle.hs_core.specs.declared.tree.Pat.{Pat}
use Rattle.hs_core.specs.Types.{any, star}
use Rattle.hs_core.specs.Globals.{Globals}
use Rattle.hs_core.specs.Typing.{Binds, BindEach}
use Rattle.type_equations.specs.States.{State, IsReady, Equated, NotEqual}
use Rattle.type_equations.specs.Demands.{Demand, Imposes, HasNone, with_unknowns}
use Rattle.type_equations.specs.Syntax.{AreStars, KnowsSyntax, plain_functions, plain_list, plain_tuple, unknowns}
use Rattle.type_equations.specs.declared.equations.Binder.{Binder}
use Rattle.infer_patterns.specs.Names.{Knows, Tells, kinds_of_declared, instance}
use Rattle.bp_base.specs.declared.ty.OrigName.{OrigName}
use Rattle.hs_core.specs.declared.tree.Pat.TheVariants.{PCon}
use Rattle.infer_patterns.specs.declared.names.Declared.{Declared}

-- the pattern has the type of an unknown, and binds these names
abbrev pub binds : Globals → Pat → ℕ → Demand
binds G p v g bs = Binds G any g.kinds p (g.types v) bs

-- each pattern has the type of its unknown
abbrev pub bind_each : Globals → List Pat → List ℕ → Demand
bind_each G ps vs g bs = BindEach G any g.kinds ps (map g.types vs) bs

-- the names that are bound were pushed, and the equations impose what is demanded
pub record Pushes (G : Globals) (demand : Demand) (before after : List Binder) (old new : State) : Type 0 where
  pub binders : List Binder
  pub pushed : after ≡ before ++ binders
  pub imposes : Imposes G demand demand binders old new

abbrev pub PatternInferred : List Declared → List Binder → List Binder → State → State → Pat → ℕ → Type 0
PatternInferred names before after old new p v = (G : Globals) → Knows G names → IsReady G old
    → slice_get old.kinds v ≡ Some star → Pushes G (binds G p v) before after old new

abbrev pub PatternRefused : List Declared → State → Pat → ℕ → Type 0
PatternRefused names old p v = (G : Globals) → Knows G names → IsReady G old → slice_get old.kinds v ≡ Some star
    → HasNone G (binds G p v) old

abbrev pub PatternsInferred : List Declared → List Binder → List Binder → State → State → List Pat → List ℕ → Type 0
PatternsInferred names before after old new ps vs = (G : Globals) → Knows G names → IsReady G old
    → AreStars old.kinds vs → Pushes G (bind_each G ps vs) before after old new

abbrev pub PatternsRefused : List Declared → State → List Pat → List ℕ → Type 0
PatternsRefused names old ps vs = (G : Globals) → Knows G names → IsReady G old → AreStars old.kinds vs
    → HasNone G (bind_each G ps vs) old

-- ---- what the head of a pattern does

-- the unknown has the type
abbrev pub LiteralEntered : State → State → ℕ → Plain → Type 0
LiteralEntered old new v t = (G : Globals) → KnowsSyntax G → IsReady G old → slice_get old.kinds v ≡ Some star
    → IsForm G old.kinds t star → Equated G old new (var v) t

abbrev pub LiteralRefused : State → ℕ → Plain → Type 0
LiteralRefused old v t = (G : Globals) → KnowsSyntax G → slice_get old.kinds v ≡ Some star
    → IsForm G old.kinds t star → NotEqual G old (var v) t

-- the unknown is a tuple of new ones
abbrev pub TupleEntered : State → State → ℕ → ℕ → Type 0
TupleEntered old new v m = (G : Globals) → KnowsSyntax G → IsReady G old → slice_get old.kinds v ≡ Some star
    → Equated G (with_unknowns old (replicate m star)) new (var v)
    (plain_tuple (unknowns (range_with_len (length old.kinds) m)))

-- there are no tuples of so many parts, or the unknown is none
abbrev pub TupleRefused : State → ℕ → ℕ → Type 0
TupleRefused old v m = (G : Globals) → KnowsSyntax G → IsReady G old → slice_get old.kinds v ≡ Some star
    → ((m ≤ 15) × (m ≢ 1) → ⊥) ⊎ NotEqual G (with_unknowns old (replicate m star)) (var v)
    (plain_tuple (unknowns (range_with_len (length old.kinds) m)))

-- the unknown is a list of a new one
abbrev pub ListEntered : State → State → ℕ → Type 0
ListEntered old new v = (G : Globals) → KnowsSyntax G → IsReady G old → slice_get old.kinds v ≡ Some star
    → Equated G (with_unknowns old (star ∷ [])) new (var v) (plain_list (var (length old.kinds)))

abbrev pub ListRefused : State → ℕ → Type 0
ListRefused old v = (G : Globals) → KnowsSyntax G → IsReady G old → slice_get old.kinds v ≡ Some star
    → NotEqual G (with_unknowns old (star ∷ [])) (var v) (plain_list (var (length old.kinds)))

-- the equations with unknowns for the variables of a constructor's type and for its arguments
abbrev pub con_state : State → Declared → ℕ → State
con_state old d m = with_unknowns (with_unknowns old (kinds_of_declared d)) (replicate m star)

abbrev pub con_parts : State → Declared → ℕ → List ℕ
con_parts old d m = range_with_len (length (old.kinds ++ kinds_of_declared d)) m

-- the constructor's type, at new unknowns, leads from new unknowns to the wanted one
pub record IsEntered (G : Globals) (d : Declared) (old new : State) (n : OrigName) (v m : ℕ) (is : List ℕ)
    : Type 0 where
  pub tells : Tells G d
  pub name : d.name ≡ n
  pub fields : d.fields ≡ Some m
  pub parts : is ≡ con_parts old d m
  pub equated : Equated G (con_state old d m) new (instance (kinds_of_declared d) (length old.kinds) d.ty)
      (plain_functions (unknowns (con_parts old d m)) (var v))

abbrev pub ConEntered : List Declared → State → State → OrigName → ℕ → ℕ → List ℕ → Type 0
ConEntered names old new n v m is = (G : Globals) → Knows G names → IsReady G old → slice_get old.kinds v ≡ Some star
    → (d : Declared) × IsEntered G d old new n v m is

-- the name is no constructor of so many fields, or leads to another type
abbrev pub ConRefused : List Declared → State → OrigName → ℕ → ℕ → Type 0
ConRefused names old n v m = (ps : List Pat) → length ps ≡ m → PatternRefused names old (PCon n ps) v
