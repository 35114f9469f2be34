-- What a part of a tree demands of a guess, and of the types of the names that it binds.
use Rattle.std.specs.Prelude.{◌≡◌, ℕ, zero, suc, ◌<◌, List, [], ◌∷◌, ◌++◌, length, map, slice_get, get_or, Some}
use Rattle.hs_core.specs.Types.{KindTerm, star, TypeTerm, TypeAssignment}
use Rattle.hs_core.specs.Kinds.{HasKind}
use Rattle.hs_core.specs.Schemes.{Bound}
use Rattle.hs_core.specs.Globals.{Globals, plain_names}
use Rattle.type_unify.specs.Types.{Plain}
use Rattle.type_equations.specs.Coded.{value}
use Rattle.type_equations.specs.States.{State, Guess, Meets, IsReady}
use Rattle.type_equations.specs.declared.equations.Binder.{Binder}

abbrev pub Demand : Type 1
Demand = Guess → List Bound → Type 0

-- names with the types that a guess gives their unknowns
abbrev pub typed_names : Guess → List Binder → List Bound
typed_names g bs = map (λ b. record { name = b.name; type = g.types b.unknown }) bs

-- each name's unknown stands for a type of kind `*`
abbrev pub AllStar : List KindTerm → List Binder → Type 0
AllStar ks [] = Unit {0}
AllStar ks (b ∷ bs) = (slice_get ks b.unknown ≡ Some star) × AllStar ks bs

-- two guesses are one below n
pub record Agree (n : ℕ) (g h : Guess) : Type 0 where
  pub kinds : g.kinds ≡ h.kinds
  pub types : (i : ℕ) → i < n → g.types i ≡ h.types i

-- A part of a tree turns equations into new ones, by new unknowns: each guess that meets the new ones gives what is
-- promised, and each that meets the old ones and has what is asked can be changed at new unknowns so that it meets
-- the new
-- ones, with the same types for the names that are bound.
pub record Imposes (G : Globals) (gives takes : Demand) (binders : List Binder) (old new : State) : Type 0 where
  pub ready : IsReady G new
  pub more : List KindTerm
  pub grows : new.kinds ≡ old.kinds ++ more
  pub stars : AllStar new.kinds binders
  pub sound : (g : Guess) → Meets G g new → Meets G g old × gives g (typed_names g binders)
  pub complete : (g : Guess) (bs : List Bound) → Meets G g old → takes g bs
      → (h : Guess) × Agree (length old.kinds) g h × Meets G h new × (bs ≡ typed_names h binders)

-- no guess that meets the equations has what is asked
abbrev pub HasNone : Globals → Demand → State → Type 0
HasNone G takes state = (g : Guess) (bs : List Bound) → Meets G g state → takes g bs → ⊥

-- what is asked speaks of unknowns below n alone
abbrev pub IsLocal : ℕ → Demand → Type 0
IsLocal n takes = (g h : Guess) (bs : List Bound) → Agree n g h → takes g bs → takes h bs

-- nothing is bound
abbrev pub nothing : Demand
nothing g bs = bs ≡ []

-- two types are equal, and nothing is bound
abbrev pub equal : Plain → Plain → Demand
equal t u g bs = (value g.types t ≡ value g.types u) × (bs ≡ [])

-- one and then another
abbrev pub both : Demand → Demand → Demand
both first second g bs = (a : List Bound) × (b : List Bound) × first g a × second g b × (bs ≡ a ++ b)

-- these types in the places behind so many
abbrev pub spliced : List KindTerm → List TypeTerm → TypeAssignment → TypeAssignment
spliced [] us g i = get_or us i (g i)
spliced (k ∷ ks) us g zero = g zero
spliced (k ∷ ks) us g (suc i) = spliced ks us (λ j. g (suc j)) i

-- types for the unknowns behind those of these kinds
abbrev pub with_types : List KindTerm → List TypeTerm → Guess → Guess
with_types ks us g = record { kinds = g.kinds; types = spliced ks us g.types }

abbrev pub HaveKinds : Globals → Guess → List TypeTerm → List KindTerm → Type 0
HaveKinds G g [] ks = ks ≡ []
HaveKinds G g (u ∷ us) [] = ⊥
HaveKinds G g (u ∷ us) (k ∷ ks) = HasKind (plain_names G) g.kinds u k × HaveKinds G g us ks

-- something is had for some types of these kinds, in the place of new unknowns
abbrev pub some : Globals → List KindTerm → List KindTerm → Demand → Demand
some G old ks takes g bs = (us : List TypeTerm) × HaveKinds G g us ks × takes (with_types old us g) bs

abbrev pub with_unknowns : State → List KindTerm → State
with_unknowns state ks = record { bindings = state.bindings; kinds = state.kinds ++ ks }
