-- Equations between types with unknowns, and the guesses that meet them.
use Rattle.std.specs.Prelude.{◌≡◌, ◌↔◌, ℕ, List, length, Some, slice_get, map}
use Rattle.hs_core.specs.Types.{KindTerm, TypeAssignment, kind_term}
use Rattle.hs_core.specs.Kinds.{HasKind}
use Rattle.hs_core.specs.Globals.{Globals, plain_names}
use Rattle.hs_core.specs.Typing.{Kinds}
use Rattle.type_unify.specs.Types.{Plain, Assignment, Bound, Solves, IsTriangular}
use Rattle.kind_check.specs.Forms.{is_below, any_name}
use Rattle.type_unify.specs.Types.{EveryBound}
use Rattle.type_meaning.specs.MeaningLaws.{HasAllKinds}
use Rattle.type_equations.specs.Coded.{IsForm, value, type_code, type_of, kind_or_star}
use Rattle.type_equations.specs.declared.equations.Equations.{Equations}

-- what unknowns are bound to, and the kind of each, by its number
pub record State : Type 0 where
  pub bindings : List Bound
  pub kinds : List KindTerm

abbrev pub state_of : Equations → State
state_of e = record { bindings = e.bindings; kinds = map kind_term e.kinds.items }

-- a guess: kinds of type variables, and a type for each unknown
pub record Guess : Type 0 where
  pub kinds : Kinds
  pub types : TypeAssignment

-- a guess as an assignment of unification
abbrev pub coded : Globals → Guess → Assignment
coded G g i = type_code G g.kinds (g.types i)

-- the guess meets the equations, and gives each unknown a type of its kind
pub record Meets (G : Globals) (g : Guess) (state : State) : Type 0 where
  pub solves : Solves (coded G g) state.bindings
  pub kinded : (i : ℕ) (k : KindTerm) → slice_get state.kinds i ≡ Some k
      → HasKind (plain_names G) g.kinds (g.types i) k

-- the kind of an unknown
abbrev pub kind_of_unknown : List KindTerm → ℕ → KindTerm
kind_of_unknown ks i = kind_or_star (slice_get ks i)

-- the guess that an assignment of unification makes
abbrev pub read_back : (G : Globals) (kinds : Kinds) → HasAllKinds G kinds → List KindTerm → Assignment → Guess
read_back G kinds rich ks s = record {
  kinds = kinds;
  types = λ i. type_of G (λ k. (rich k).0) (kind_of_unknown ks i) (s i);
}

-- equations that some guess meets, whatever the type variables are, as long as there are types of all kinds
pub record IsReady (G : Globals) (state : State) : Type 0 where
  pub triangular : IsTriangular state.bindings
  pub below : EveryBound (is_below (length state.kinds)) any_name state.bindings
  pub decides : (kinds : Kinds) (rich : HasAllKinds G kinds) (s : Assignment) → Solves s state.bindings
      → Meets G (read_back G kinds rich state.kinds s) state

-- two types of one kind were made equal
pub record Equated (G : Globals) (old new : State) (t u : Plain) : Type 0 where
  pub ready : IsReady G new
  pub same : new.kinds ≡ old.kinds
  pub meets : (g : Guess) → Meets G g new ↔ Meets G g old × (value g.types t ≡ value g.types u)

abbrev pub NotEqual : Globals → State → Plain → Plain → Type 0
NotEqual G state t u = (g : Guess) → Meets G g state → value g.types t ≡ value g.types u → ⊥

-- what making two types equal does, where both have one kind
abbrev pub Equates : State → State → Plain → Plain → Type 0
Equates old new t u = (G : Globals) (k : KindTerm) → IsReady G old → IsForm G old.kinds t k → IsForm G old.kinds u k
    → Equated G old new t u

abbrev pub Refuses : State → Plain → Plain → Type 0
Refuses old t u = (G : Globals) (k : KindTerm) → IsForm G old.kinds t k → IsForm G old.kinds u k → NotEqual G old t u
