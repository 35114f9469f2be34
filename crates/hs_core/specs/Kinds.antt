-- Kinds of types, of groups of type declarations, and of the variables of declared types.
use Rattle.std.specs.Prelude.{◌≡◌, ◌≢◌, ◌⊎◌, ℕ, zero, suc, true, List, [], ◌∷◌}
use Rattle.bp_base.specs.declared.ty.OrigName.{OrigName}
use Rattle.type_terms.specs.Terms.{var, con, app, occurs_in}
use Rattle.hs_core.specs.declared.tree.Written.{Written}
use Rattle.hs_core.specs.Types.{KindTerm, star, arrow, TypeTerm, arrows, count, variables, written_term}

-- which name has which kind
abbrev pub NameKinds : Type 1
NameKinds = OrigName → KindTerm → Type 0

-- A type has a kind where each application fits: the function's parameter has the argument's kind (Haskell 2010 Report,
-- section 4.6).
abbrev pub HasKind : NameKinds → (ℕ → KindTerm) → TypeTerm → KindTerm → Type 0
HasKind names kinds (var i) k = kinds i ≡ k
HasKind names kinds (con n) k = names n k
HasKind names kinds (app f a) k = (j : KindTerm) × HasKind names kinds f (arrow j k) × HasKind names kinds a j

-- `*` is below every kind, and an arrow is below an arrow whose parts are above its own: what stays undecided becomes
-- `*`
-- (Haskell 2010 Report, section 4.6)
abbrev pub Below : KindTerm → KindTerm → Type 0
Below star k = Unit {0}
Below (arrow a b) star = ⊥
Below (arrow a b) (arrow c d) = Below a c × Below b d

-- the kinds are those of the variables of a type of kind `*`, and no others are less
pub record AreLeast (names : NameKinds) (t : TypeTerm) (kinds : ℕ → KindTerm) : Type 0 where
  pub fit : HasKind names kinds t star
  pub least : (other : ℕ → KindTerm) → HasKind names other t star → (w : ℕ) → occurs_in w t ≡ true
      → Below (kinds w) (other w)

-- what a type declaration says: its fields' types, or the type that a synonym stands for
pub data Meaning : Type 0 where
  fields : (types : List TypeTerm) → Meaning
  synonym : (body : TypeTerm) → Meaning

-- a type declaration, whose parameters are the variables from 0
pub record TypeDecl : Type 0 where
  pub name : OrigName
  pub params : ℕ
  pub meaning : Meaning

-- the kinds of parameters, by their number
abbrev pub kind_at : List KindTerm → ℕ → KindTerm
kind_at [] i = star
kind_at (k ∷ ks) zero = k
kind_at (k ∷ ks) (suc i) = kind_at ks i

-- each type has kind `*`
abbrev pub HaveStar : NameKinds → (ℕ → KindTerm) → List TypeTerm → Type 0
HaveStar names kinds [] = Unit {0}
HaveStar names kinds (t ∷ ts) = HasKind names kinds t star × HaveStar names kinds ts

-- A type constructor's kind leads from its parameters' kinds to `*`, and each field has kind `*` (Haskell 2010 Report,
-- section
-- 4.2.1); a synonym's leads to the kind of its body, whatever that is (section 4.2.2).
abbrev pub Leads : NameKinds → List KindTerm → Meaning → KindTerm → Type 0
Leads names params (fields ts) k = (k ≡ arrows params star) × HaveStar names (kind_at params) ts
Leads names params (synonym t) k = (j : KindTerm) × (k ≡ arrows params j) × HasKind names (kind_at params) t j

-- the declaration keeps to the kind
abbrev pub Keeps : NameKinds → TypeDecl → KindTerm → Type 0
Keeps names d k = (params : List KindTerm) × (count params ≡ d.params) × Leads names params d.meaning k

-- the kinds that the declarations of a group get, in their order: of two of one name the first counts
abbrev pub Given : List TypeDecl → List KindTerm → OrigName → KindTerm → Type 0
Given [] ks n k = ⊥
Given (d ∷ ds) [] n k = ⊥
Given (d ∷ ds) (j ∷ js) n k = ((d.name ≡ n) × (j ≡ k)) ⊎ ((d.name ≢ n) × Given ds js n k)

abbrev pub IsOutside : List TypeDecl → OrigName → Type 0
IsOutside [] n = Unit {0}
IsOutside (d ∷ ds) n = (d.name ≢ n) × IsOutside ds n

-- a group's names have the kinds that it gives, and others have those that they have
abbrev pub within_group : NameKinds → List TypeDecl → List KindTerm → NameKinds
within_group names ds ks n k = Given ds ks n k ⊎ (IsOutside ds n × names n k)

abbrev pub AllKeep : NameKinds → List TypeDecl → List KindTerm → Type 0
AllKeep names [] ks = ks ≡ []
AllKeep names (d ∷ ds) ks = (k : KindTerm) × (rest : List KindTerm) × (ks ≡ k ∷ rest) × Keeps names d k
    × AllKeep names ds rest

-- a valid kinding of a group: one kind for each declaration, to which all of them keep
abbrev pub IsKinding : NameKinds → List TypeDecl → List KindTerm → Type 0
IsKinding names ds ks = AllKeep (within_group names ds ks) ds ks

abbrev pub AllBelow : List KindTerm → List KindTerm → Type 0
AllBelow [] ls = ls ≡ []
AllBelow (k ∷ ks) ls = (l : KindTerm) × (rest : List KindTerm) × (ls ≡ l ∷ rest) × Below k l × AllBelow ks rest

-- the kinds of a group: the valid kinding that is below every other one
pub record AreLeastKinds (names : NameKinds) (ds : List TypeDecl) (ks : List KindTerm) : Type 0 where
  pub valid : IsKinding names ds ks
  pub least : (others : List KindTerm) → IsKinding names ds others → AllBelow ks others

-- The kind of a written type: the least that it has for any kinds of its variables, which are then the least too.
-- `Maybe` has
-- `* -> *`, and a variable alone `*`.
pub record IsKindOf (names : NameKinds) (w : Written) (k : KindTerm) : Type 0 where
  pub kinds : List KindTerm
  pub many : count kinds ≡ count (variables w)
  pub fit : HasKind names (kind_at kinds) (written_term (variables w) w) k
  pub least : (others : List KindTerm) (j : KindTerm) → count others ≡ count (variables w)
      → HasKind names (kind_at others) (written_term (variables w) w) j → AllBelow kinds others × Below k j
