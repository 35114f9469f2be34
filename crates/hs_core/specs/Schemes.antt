-- Types for all types of some variables, and environments (Damas and Milner; Haskell 2010 Report, section 4.5).
use Rattle.std.specs.Prelude.{◌≡◌, ◌≢◌, ◌⊎◌, ℕ, Bool, true, false, not, ◌&&◌, ◌||◌, List, [], ◌∷◌, map}
use Rattle.bp_base.specs.Texts.{Text}
use Rattle.type_terms.specs.Terms.{var, occurs_in, applied}
use Rattle.hs_core.specs.Types.{KindTerm, star, TypeTerm, TypeAssignment}
use Rattle.hs_core.specs.Kinds.{NameKinds, HasKind, AreLeast}

-- A type, generic in the variables that pass a test. Each of them keeps its kind.
pub record TypeScheme : Type 0 where
  pub generic : ℕ → Bool
  pub kinds : ℕ → KindTerm
  pub body : TypeTerm

-- a type for each generic variable, of its kind; the other variables stay
pub record IsInstance (names : NameKinds) (kinds : ℕ → KindTerm) (c : TypeScheme) (t : TypeTerm) : Type 0 where
  pub choice : TypeAssignment
  pub fixed : (w : ℕ) → c.generic w ≡ false → choice w ≡ var w
  pub kinded : (w : ℕ) → occurs_in w c.body ≡ true → c.generic w ≡ true → HasKind names kinds (choice w) (c.kinds w)
  pub gives : applied choice c.body ≡ t

-- the scheme of a declared type: all its variables are generic and have their least kinds
pub record IsDeclared (names : NameKinds) (t : TypeTerm) (c : TypeScheme) : Type 0 where
  pub generic : (w : ℕ) → c.generic w ≡ true
  pub kinds : AreLeast names t c.kinds
  pub body : c.body ≡ t

-- a monotype: one type, generic in no variable
abbrev pub monotype : TypeTerm → TypeScheme
monotype t = record { generic = λ w. false; kinds = λ w. star; body = t }

-- a type assumption: a local name with its scheme
pub record Assumption : Type 0 where
  pub name : Text
  pub scheme : TypeScheme

-- a local name with one type, as patterns and the inside of a group give it
pub record Bound : Type 0 where
  pub name : Text
  pub type : TypeTerm

-- the newest assumption on the name has the scheme: an inner binder hides an outer one
abbrev pub Selects : List Assumption → Text → TypeScheme → Type 0
Selects [] x c = ⊥
Selects (e ∷ es) x c = ((e.name ≡ x) × (e.scheme ≡ c)) ⊎ ((e.name ≢ x) × Selects es x c)

-- names of one type each, as assumptions
abbrev pub monomorphic : List Bound → List Assumption
monomorphic bs = map (λ b. record { name = b.name; scheme = monotype b.type }) bs

-- a variable is free in an environment: it occurs in a scheme that is not generic in it
abbrev pub free_in : List Assumption → ℕ → Bool
free_in [] w = false
free_in (e ∷ es) w = (occurs_in w e.scheme.body && not (e.scheme.generic w)) || free_in es w

-- names, each generic in the variables that are not free in the environment
abbrev pub generalised : List Assumption → (ℕ → KindTerm) → List Bound → List Assumption
generalised env kinds bs = map
    (λ b. record {
      name = b.name;
      scheme = record {
        generic = λ w. not
            (free_in env w);
        kinds = kinds;
        body = b.type;
      };
    }) bs

-- a declared type with its variables rigid: they are different variables of their kinds, none of which is free in the
-- environment
pub record IsRigid (kinds : ℕ → KindTerm) (env : List Assumption) (c : TypeScheme) (t : TypeTerm) : Type 0 where
  pub new : ℕ → ℕ
  pub distinct : (v w : ℕ) → occurs_in v c.body ≡ true → occurs_in w c.body ≡ true → new v ≡ new w → v ≡ w
  pub apart : (v : ℕ) → occurs_in v c.body ≡ true → free_in env (new v) ≡ false
  pub kinded : (v : ℕ) → occurs_in v c.body ≡ true → kinds (new v) ≡ c.kinds v
  pub gives : applied (λ v. var (new v)) c.body ≡ t

-- kinds of variables that are the same for those free in the environment
abbrev pub Agree : List Assumption → (ℕ → KindTerm) → (ℕ → KindTerm) → Type 0
Agree env kinds inside = (w : ℕ) → free_in env w ≡ true → inside w ≡ kinds w
