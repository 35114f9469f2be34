-- What going through a type does to the bindings.
use Rattle.std.specs.Prelude.{◌≡◌, ℕ, zero, suc, ◌<◌, ◌≤◌, List, [], ◌∷◌}
use Rattle.bp_base.specs.declared.ty.OrigName.{OrigName}
use Rattle.hs_core.specs.Types.{KindTerm, TypeTerm}
use Rattle.hs_core.specs.Kinds.{NameKinds, HasKind, HaveStar, Keeps, TypeDecl, IsKinding}
use Rattle.type_terms.specs.Terms.{var, app}
use Rattle.type_unify.specs.Types.{Plain, Bound}
use Rattle.kind_check.specs.Forms.{Guess, value, Meets, AreReady}
use Rattle.bp_base.specs.Texts.{Text}
use Rattle.hs_core.specs.Types.{count, written_term}
use Rattle.hs_core.specs.declared.tree.Written.{Written}
use Rattle.kind_check.specs.declared.scope.Known.{Known}
use Rattle.kind_check.specs.declared.scope.GroupDecl.{GroupDecl}
use Rattle.kind_check.specs.Scopes.{Agree, names_under, variables_under}

-- what a guess has to keep to
abbrev pub Demand : Type 1
Demand = Guess → Type 0

-- The guesses that meet the new bindings are those that meet the old ones and keep to the demand, but for unknowns
-- from n on.
pub record Imposes (demand : Demand) (old new : List Bound) (n next : ℕ) : Type 0 where
  pub ready : AreReady new next
  pub grows : n ≤ next
  pub sound : (g : Guess) → Meets g new → Meets g old × demand g
  pub complete : (g : Guess) → Meets g old → demand g → (h : Guess) × Agree n g h × Meets h new

abbrev pub NoGuess : Demand → List Bound → Type 0
NoGuess demand bs = (g : Guess) → Meets g bs → demand g → ⊥

-- the type has the kind, under a guess
abbrev pub fits : (Guess → NameKinds) → (Guess → ℕ → KindTerm) → TypeTerm → Plain → Demand
fits names vars t k g = HasKind (names g) (vars g) t (value g k)

-- names and variables have kinds by unknowns below n alone
pub record Local (names : Guess → NameKinds) (vars : Guess → ℕ → KindTerm) (n : ℕ) : Type 0 where
  pub named : (g h : Guess) → Agree n g h → (m : OrigName) (k : KindTerm) → names g m k → names h m k
  pub ranged : (g h : Guess) → Agree n g h → (i : ℕ) → vars g i ≡ vars h i

-- the written type fits where the group's names and these parameters have their unknowns
abbrev pub fits_under : List Known → List GroupDecl → List Text → ℕ → Written → Plain → Demand
fits_under known ds params first w k = fits (names_under known ds) (variables_under first (count params))
    (written_term params w) k

-- the types of fields have kind `*`
abbrev pub stars : (Guess → NameKinds) → (Guess → ℕ → KindTerm) → List TypeTerm → Demand
stars names vars ts g = HaveStar (names g) (vars g) ts

-- the declaration keeps to the kind of its unknown
abbrev pub keeps : (Guess → NameKinds) → TypeDecl → ℕ → Demand
keeps names d i g = Keeps (names g) d (g i)

-- a declaration of a list by its number
abbrev pub At : List TypeDecl → ℕ → TypeDecl → Type 0
At [] i d = ⊥
At (e ∷ es) zero d = e ≡ d
At (e ∷ es) (suc i) d = At es i d

-- the first so many declarations keep to theirs
abbrev pub first_keep : (Guess → NameKinds) → List TypeDecl → ℕ → Demand
first_keep names ds n g = (i : ℕ) (d : TypeDecl) → i < n → At ds i d → Keeps (names g) d (g i)

-- the kind of a type constructor with unknowns for its parameters, from one on
abbrev pub head : ℕ → ℕ → Plain → Plain
head i zero r = r
head i (suc m) r = app (var i) (head (suc i) m r)

abbrev pub HasNoKinding : NameKinds → List TypeDecl → Type 0
HasNoKinding names ds = (ks : List KindTerm) → IsKinding names ds ks → ⊥
