-- A typing is met by sets of types: where each local's set has the instances of its scheme, an expression that is typed
-- under schemes is typed under the sets, at each type that an assignment makes of its own.
use Rattle.std.specs.Prelude.{◌≡◌, ℕ, true, false, List, [], ◌∷◌, map}
use Rattle.hs_core.specs.declared.tree.Pat.{Pat}
use Rattle.hs_core.specs.declared.tree.Exp.{Exp}
use Rattle.hs_core.specs.declared.tree.Decl.{Decl}
use Rattle.type_terms.specs.Terms.{occurs_in, applied}
use Rattle.hs_core.specs.Types.{KindTerm, TypeTerm, TypeAssignment, any}
use Rattle.hs_core.specs.Kinds.{HasKind}
use Rattle.hs_core.specs.Schemes.{TypeScheme, Assumption, Bound}
use Rattle.hs_core.specs.Globals.{Globals, plain_names}
use Rattle.hs_core.specs.Typing.{Kinds, Binds, HasType, IsTypedDecl}
use Rattle.type_meaning.specs.Meanings.{LocalTypes, MeantType, MeantDecl}

abbrev pub applied_bound : TypeAssignment → Bound → Bound
applied_bound s b = record { name = b.name; type = applied s b.type }

-- there is a type of each kind
abbrev pub HasAllKinds : Globals → Kinds → Type 0
HasAllKinds G K = (k : KindTerm) → (u : TypeTerm) × HasKind (plain_names G) K u k

-- the assignment gives each variable a type of its kind
abbrev pub IsKinded : Globals → Kinds → Kinds → TypeAssignment → Type 0
IsKinded G K kinds s = (w : ℕ) → HasKind (plain_names G) K (s w) (kinds w)

-- an instance of a scheme whose other variables stand for what the assignment gives
pub record IsInstanceUnder (G : Globals) (K : Kinds) (s : TypeAssignment) (c : TypeScheme) (t : TypeTerm) : Type 0 where
  pub choice : TypeAssignment
  pub fixed : (w : ℕ) → occurs_in w c.body ≡ true → c.generic w ≡ false → choice w ≡ s w
  pub kinded : (w : ℕ) → occurs_in w c.body ≡ true → c.generic w ≡ true
      → HasKind (plain_names G) K (choice w) (c.kinds w)
  pub gives : applied choice c.body ≡ t

-- name by name, the set has each instance of the scheme
abbrev pub Covers : Globals → Kinds → TypeAssignment → List Assumption → List LocalTypes → Type 0
Covers G K s [] [] = Unit {0}
Covers G K s [] (k ∷ ks) = ⊥
Covers G K s (e ∷ es) [] = ⊥
Covers G K s (e ∷ es) (k ∷ ks) = (e.name ≡ k.name) × ((t : TypeTerm) → IsInstanceUnder G K s e.scheme t → k.has t)
    × Covers G K s es ks

-- each local with the instances of its scheme
abbrev pub sets_under : Globals → Kinds → TypeAssignment → List Assumption → List LocalTypes
sets_under G K s [] = []
sets_under G K s (e ∷ es) = record { name = e.name; has = λ t. IsInstanceUnder G K s e.scheme t } ∷ sets_under G K s es

abbrev pub TypedExpressionsAreMeant : Type 0
TypedExpressionsAreMeant = (G : Globals) (K : Kinds) → HasAllKinds G K
    → (e : Exp) (kinds : Kinds) (env : List Assumption) (t : TypeTerm) → HasType G any e kinds env t
    → (s : TypeAssignment) → IsKinded G K kinds s → MeantType G K e (sets_under G K s env) (applied s t)

abbrev pub TypedDeclarationsAreMeant : Type 0
TypedDeclarationsAreMeant = (G : Globals) (K : Kinds) → HasAllKinds G K
    → (d : Decl) (kinds : Kinds) (env : List Assumption) (bs : List Bound) → IsTypedDecl G any d kinds env bs
    → (s : TypeAssignment) → IsKinded G K kinds s
    → MeantDecl G K d (sets_under G K s env) (map (applied_bound s) bs)

-- a pattern keeps its typing where types stand for variables
abbrev pub TypedPatternsAreMeant : Type 0
TypedPatternsAreMeant = (G : Globals) (K : Kinds) → HasAllKinds G K
    → (p : Pat) (kinds : Kinds) (t : TypeTerm) (bs : List Bound) → Binds G any kinds p t bs
    → (s : TypeAssignment) → IsKinded G K kinds s → Binds G any K p (applied s t) (map (applied_bound s) bs)
