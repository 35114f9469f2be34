-- What inference demands of an expression where each local has one type: a typing under schemes is promised, and one in
-- which each local stands for the set of its types is asked.
use Rattle.std.specs.Prelude.{◌≡◌, ◌≢◌, ◌⊎◌, ℕ, List, [], ◌∷◌, ◌++◌, map}
use Rattle.bp_base.specs.Texts.{Text}
use Rattle.hs_core.specs.declared.tree.Exp.{Exp}
use Rattle.hs_core.specs.declared.tree.Alt.{Alt}
use Rattle.hs_core.specs.declared.tree.Rhs.{Rhs}
use Rattle.hs_core.specs.declared.tree.Choice.{Choice}
use Rattle.hs_core.specs.declared.tree.Guard.{Guard}
use Rattle.hs_core.specs.Types.{TypeTerm, any}
use Rattle.hs_core.specs.Schemes.{Assumption, Bound, monomorphic}
use Rattle.hs_core.specs.Globals.{Globals}
use Rattle.hs_core.specs.Typing.{Kinds, HasType, IsAlternative, IsRightSide, IsGuard}
use Rattle.type_meaning.specs.Meanings.{LocalTypes, only, MeantType, MeantAlternative, MeantRightSide, MeantGuard}
use Rattle.type_equations.specs.declared.equations.Binder.{Binder}
use Rattle.type_equations.specs.Demands.{Demand, typed_names}

-- the expression has the type of an unknown, where these names have the types of theirs
abbrev pub has_type : Globals → Exp → List Binder → ℕ → Demand
has_type G e env v g bs = HasType G any e g.kinds (monomorphic (typed_names g env)) (g.types v) × (bs ≡ [])

abbrev pub meant_type : Globals → Exp → List Binder → ℕ → Demand
meant_type G e env v g bs = MeantType G g.kinds e (only (typed_names g env) []) (g.types v) × (bs ≡ [])

-- as many expressions as types
abbrev pub EachHasType : Globals → Kinds → List Exp → List Assumption → List TypeTerm → Type 0
EachHasType G kinds [] env ts = ts ≡ []
EachHasType G kinds (e ∷ es) env ts = (t : TypeTerm) × (rest : List TypeTerm) × (ts ≡ t ∷ rest)
    × HasType G any e kinds env t × EachHasType G kinds es env rest

abbrev pub EachIsMeant : Globals → Kinds → List Exp → List LocalTypes → List TypeTerm → Type 0
EachIsMeant G kinds [] env ts = ts ≡ []
EachIsMeant G kinds (e ∷ es) env ts = (t : TypeTerm) × (rest : List TypeTerm) × (ts ≡ t ∷ rest)
    × MeantType G kinds e env t × EachIsMeant G kinds es env rest

-- each expression has the type of its unknown
abbrev pub have_types : Globals → List Exp → List Binder → List ℕ → Demand
have_types G es env vs g bs =
    EachHasType G g.kinds es (monomorphic (typed_names g env)) (map g.types vs) × (bs ≡ [])

abbrev pub meant_types : Globals → List Exp → List Binder → List ℕ → Demand
meant_types G es env vs g bs = EachIsMeant G g.kinds es (only (typed_names g env) []) (map g.types vs) × (bs ≡ [])

-- the newest entry of the name stands for the unknown: an inner binder hides an outer one
abbrev pub IsNewest : Text → ℕ → List Binder → Type 0
IsNewest x w [] = ⊥
IsNewest x w (b ∷ bs) = ((b.name ≡ x) × (b.unknown ≡ w)) ⊎ ((b.name ≢ x) × IsNewest x w bs)

-- no entry has the name
abbrev pub IsUnbound : Text → List Binder → Type 0
IsUnbound x [] = Unit {0}
IsUnbound x (b ∷ bs) = (b.name ≢ x) × IsUnbound x bs

-- ---- alternatives

-- alternatives lead from one type to another
abbrev pub EachAlternative : Globals → Kinds → List Alt → List Bound → TypeTerm → TypeTerm → Type 0
EachAlternative G kinds [] names u t = Unit {0}
EachAlternative G kinds (a ∷ alts) names u t = IsAlternative G any a kinds (monomorphic names) u t
    × EachAlternative G kinds alts names u t

abbrev pub EachMeantAlternative : Globals → Kinds → List Alt → List Bound → TypeTerm → TypeTerm → Type 0
EachMeantAlternative G kinds [] names u t = Unit {0}
EachMeantAlternative G kinds (a ∷ alts) names u t = MeantAlternative G kinds a (only names []) u t
    × EachMeantAlternative G kinds alts names u t

abbrev pub is_alternative : Globals → Alt → List Binder → ℕ → ℕ → Demand
is_alternative G a env u v g bs =
    IsAlternative G any a g.kinds (monomorphic (typed_names g env)) (g.types u) (g.types v) × (bs ≡ [])

abbrev pub meant_alternative : Globals → Alt → List Binder → ℕ → ℕ → Demand
meant_alternative G a env u v g bs =
    MeantAlternative G g.kinds a (only (typed_names g env) []) (g.types u) (g.types v) × (bs ≡ [])

abbrev pub have_alternatives : Globals → List Alt → List Binder → ℕ → ℕ → Demand
have_alternatives G alts env u v g bs =
    EachAlternative G g.kinds alts (typed_names g env) (g.types u) (g.types v) × (bs ≡ [])

abbrev pub meant_alternatives : Globals → List Alt → List Binder → ℕ → ℕ → Demand
meant_alternatives G alts env u v g bs =
    EachMeantAlternative G g.kinds alts (typed_names g env) (g.types u) (g.types v) × (bs ≡ [])

-- ---- right sides

abbrev pub is_right_side : Globals → Rhs → List Binder → ℕ → Demand
is_right_side G r env v g bs =
    IsRightSide G any r g.kinds (monomorphic (typed_names g env)) (g.types v) × (bs ≡ [])

abbrev pub meant_right_side : Globals → Rhs → List Binder → ℕ → Demand
meant_right_side G r env v g bs =
    MeantRightSide G g.kinds r (only (typed_names g env) []) (g.types v) × (bs ≡ [])

-- what a guard binds
abbrev pub has_guard : Globals → Guard → List Binder → Demand
has_guard G x env g bs = IsGuard G any x g.kinds (monomorphic (typed_names g env)) bs

abbrev pub meant_guard : Globals → Guard → List Binder → Demand
meant_guard G x env g bs = MeantGuard G g.kinds x (only (typed_names g env) []) bs

-- an expression behind guards: what a guard binds is seen to the right of it
abbrev pub HasGuarded : Globals → Kinds → List Guard → Exp → List Bound → TypeTerm → Type 0
HasGuarded G kinds [] e names t = HasType G any e kinds (monomorphic names) t
HasGuarded G kinds (x ∷ guards) e names t = (bs : List Bound) × IsGuard G any x kinds (monomorphic names) bs
    × HasGuarded G kinds guards e (bs ++ names) t

abbrev pub MeantGuarded : Globals → Kinds → List Guard → Exp → List Bound → TypeTerm → Type 0
MeantGuarded G kinds [] e names t = MeantType G kinds e (only names []) t
MeantGuarded G kinds (x ∷ guards) e names t = (bs : List Bound) × MeantGuard G kinds x (only names []) bs
    × MeantGuarded G kinds guards e (bs ++ names) t

abbrev pub has_guarded : Globals → List Guard → Exp → List Binder → ℕ → Demand
has_guarded G guards e env v g bs = HasGuarded G g.kinds guards e (typed_names g env) (g.types v) × (bs ≡ [])

abbrev pub meant_guarded : Globals → List Guard → Exp → List Binder → ℕ → Demand
meant_guarded G guards e env v g bs = MeantGuarded G g.kinds guards e (typed_names g env) (g.types v) × (bs ≡ [])

-- choices of one type
abbrev pub EachChoice : Globals → Kinds → List Choice → List Bound → TypeTerm → Type 0
EachChoice G kinds [] names t = Unit {0}
EachChoice G kinds (c ∷ choices) names t = HasGuarded G kinds c.guards c.exp names t
    × EachChoice G kinds choices names t

abbrev pub EachMeantChoice : Globals → Kinds → List Choice → List Bound → TypeTerm → Type 0
EachMeantChoice G kinds [] names t = Unit {0}
EachMeantChoice G kinds (c ∷ choices) names t = MeantGuarded G kinds c.guards c.exp names t
    × EachMeantChoice G kinds choices names t

abbrev pub have_choices : Globals → List Choice → List Binder → ℕ → Demand
have_choices G choices env v g bs = EachChoice G g.kinds choices (typed_names g env) (g.types v) × (bs ≡ [])

abbrev pub meant_choices : Globals → List Choice → List Binder → ℕ → Demand
meant_choices G choices env v g bs = EachMeantChoice G g.kinds choices (typed_names g env) (g.types v) × (bs ≡ [])
