-- Type synonyms: what a type is once none is left, and which synonyms are lawful (Haskell 2010 Report, section 4.2.2).
use Rattle.std.specs.Prelude.{◌≡◌, ◌⊎◌, ◌≤◌, ◌↔◌, ℕ, suc, List, [], ◌∷◌, Option, Some, None, IsSome}
use Rattle.bp_base.specs.Lists.{Among}
use Rattle.bp_base.specs.declared.ty.OrigName.{OrigName}
use Rattle.type_terms.specs.Terms.{var, con, app, applied}
use Rattle.hs_core.specs.Types.{TypeTerm, applied_to, listed, count}

-- what a synonym stands for: a body, in which its parameters are the variables from 0
pub record Synonym : Type 0 where
  pub params : ℕ
  pub body : TypeTerm

-- which names are synonyms
abbrev pub Synonyms : Type 0
Synonyms = OrigName → Option Synonym

-- The second type is the first with each synonym, applied to as many types as it has parameters, replaced by its body.
-- Each
-- argument, and the body, is expanded by itself. `type P a = (a, a)`: `[P Int]` expands to `[(Int, Int)]`; `P` alone
-- does not
-- expand, wherever it stands.
mutual
  pub data Expands (S : Synonyms) : TypeTerm → TypeTerm → Type 0 where
    variable : (i : ℕ) → Expands S (var i) (var i)
    name : (n : OrigName) → S n ≡ None → Expands S (con n) (con n)
    application : (f a g b : TypeTerm) → Expands S f g → Expands S a b → Expands S (app f a) (app g b)
    body_for : (n : OrigName) (s : Synonym) (args us : List TypeTerm) (t v : TypeTerm) → S n ≡ Some s
        → count args ≡ s.params
        → t ≡ applied_to (con n) args → ExpandEach S args us → Expands S s.body v → Expands S t (applied (listed us) v)

  pub data ExpandEach (S : Synonyms) : List TypeTerm → List TypeTerm → Type 0 where
    none : ExpandEach S [] []
    each : (t u : TypeTerm) (ts us : List TypeTerm) → Expands S t u → ExpandEach S ts us
        → ExpandEach S (t ∷ ts) (u ∷ us)

-- two types are one: they expand to the same term
abbrev pub AreSameType : Synonyms → TypeTerm → TypeTerm → Type 0
AreSameType S t u = (v : TypeTerm) × Expands S t v × Expands S u v

-- Each synonym in a type that is applied to so many others has an argument for each of its parameters.
abbrev pub IsFullyApplied : Synonyms → TypeTerm → ℕ → Type 0
IsFullyApplied S (var i) given = Unit {0}
IsFullyApplied S (con n) given = (s : Synonym) → S n ≡ Some s → s.params ≤ given
IsFullyApplied S (app f a) given = IsFullyApplied S f (suc given) × IsFullyApplied S a 0

abbrev pub Mentions : TypeTerm → OrigName → Type 0
Mentions (var i) n = ⊥
Mentions (con m) n = m ≡ n
Mentions (app f a) n = Mentions f n ⊎ Mentions a n

-- a synonym's body leads to a name, by itself or through synonyms; no data type stands between
pub data LeadsTo (S : Synonyms) : OrigName → OrigName → Type 0 where
  at_once : (n m : OrigName) (s : Synonym) → S n ≡ Some s → Mentions s.body m → LeadsTo S n m
  through : (n m l : OrigName) → LeadsTo S n m → LeadsTo S m l → LeadsTo S n l

-- none of these names leads to itself, and where one is a synonym, each synonym in its body is fully applied
pub record AreLawful (S : Synonyms) (own : List OrigName) : Type 0 where
  pub acyclic : (n : OrigName) → Among n own → LeadsTo S n n → ⊥
  pub applied_fully : (n : OrigName) (s : Synonym) → Among n own → S n ≡ Some s → IsFullyApplied S s.body 0

-- ---- where an expansion exists

-- a name is met where a type is expanded: the type mentions it, or a synonym that the type mentions leads to it
abbrev pub IsMet : Synonyms → TypeTerm → OrigName → Type 0
IsMet S t n = Mentions t n ⊎ ((m : OrigName) × Mentions t m × LeadsTo S m n)

-- each synonym that is met is fully applied wherever it stands, and none leads to itself
pub record IsExpandable (S : Synonyms) (t : TypeTerm) : Type 0 where
  pub applied_fully : IsFullyApplied S t 0
  pub bodies : (n : OrigName) (s : Synonym) → IsMet S t n → S n ≡ Some s → IsFullyApplied S s.body 0
  pub acyclic : (n : OrigName) → IsMet S t n → LeadsTo S n n → ⊥

-- these are all synonyms
abbrev pub AreAll : Synonyms → List OrigName → Type 0
AreAll S names = (n : OrigName) → IsSome (S n) → Among n names

-- of finitely many synonyms, a type has an expansion exactly where those that are met are acyclic and fully applied
abbrev pub ExpansionExists : Type 0
ExpansionExists = (S : Synonyms) (names : List OrigName) → AreAll S names → (t : TypeTerm)
    → ((u : TypeTerm) × Expands S t u) ↔ IsExpandable S t

-- a type has one expansion
abbrev pub ExpansionIsOne : Type 0
ExpansionIsOne = (S : Synonyms) (t u v : TypeTerm) → Expands S t u → Expands S t v → u ≡ v

-- no synonym is left in an expansion
abbrev pub NoneIsLeft : Type 0
NoneIsLeft = (S : Synonyms) (t u : TypeTerm) (n : OrigName) → Expands S t u → Mentions u n → S n ≡ None
