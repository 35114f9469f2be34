-- Local declarations, group after group, over any meaning of "this declaration is typed" (Haskell 2010 Report, sections
-- 4.5.1,
-- 4.5.2 and 4.4.1).
use Rattle.std.specs.Prelude.{◌≡◌, ℕ, not, List, [], ◌∷◌, ◌++◌, filter, flat_map, map, slice_index_or}
use Rattle.bp_base.specs.Texts.{Text}
use Rattle.bp_base.specs.Lists.{Among, is_among}
use Rattle.hs_core.specs.declared.group.IndexGroup.{IndexGroup}
use Rattle.hs_core.specs.declared.tree.Written.{Written}
use Rattle.hs_core.specs.Groups.{AreGroups}
use Rattle.hs_core.specs.Types.{KindTerm, TypeTerm, variables, written_term}
use Rattle.hs_core.specs.Expansion.{Expands}
use Rattle.hs_core.specs.Schemes.{TypeScheme, IsDeclared, Assumption, Bound, monomorphic, generalised, IsRigid, Agree}
use Rattle.hs_core.specs.Globals.{Globals, plain_names, synonyms_of}
use Rattle.hs_core.specs.FreeNames.{Signed, LocalDecl, without, all_signed, signed_names, uses}

-- the declaration of a number is typed under kinds of variables and an environment, and what it binds has these types
abbrev pub IsTyped : Type 1
IsTyped = ℕ → (ℕ → KindTerm) → List Assumption → List Bound → Type 0

-- the scheme of a written type: its expansion with all variables generic
abbrev pub HasScheme : Globals → Written → TypeScheme → Type 0
HasScheme G w c = (t : TypeTerm) × Expands (synonyms_of G) (written_term (variables w) w) t
    × IsDeclared (plain_names G) t c

-- each type signature's name has a scheme of its type
abbrev pub HaveSchemes : Globals → List Signed → List Assumption → Type 0
HaveSchemes G [] es = es ≡ []
HaveSchemes G (s ∷ ss) es = (c : TypeScheme) × (rest : List Assumption)
    × (es ≡ record { name = s.name; scheme = c } ∷ rest) × HasScheme G s.written c × HaveSchemes G ss rest

-- each name once, at its first place
abbrev pub each_once : List Text → List Text
each_once [] = []
each_once (x ∷ xs) = x ∷ without (x ∷ []) (each_once xs)

abbrev pub no_decl : LocalDecl
no_decl = record { binds = []; mentions = []; signed = [] }

-- what the declarations of a group bind
abbrev pub names_bound : List LocalDecl → List ℕ → List Text
names_bound ds members = each_once (flat_map (λ i. (slice_index_or ds i no_decl).binds) members)

-- the binders that have no type signature
abbrev pub unsigned : List LocalDecl → List Bound → List Bound
unsigned ds bs = filter (λ b. not (is_among b.name (signed_names ds))) bs

abbrev pub AllAmong : List Bound → List Bound → Type 0
AllAmong [] given = Unit {0}
AllAmong (b ∷ bs) given = Among b given × AllAmong bs given

-- each declaration of a group is typed, and what it binds has the types that the group gives
abbrev pub AllTyped : IsTyped → (ℕ → KindTerm) → List Assumption → List Bound → List ℕ → Type 0
AllTyped typed kinds env given [] = Unit {0}
AllTyped typed kinds env given (i ∷ is) = ((bs : List Bound) × typed i kinds env bs × AllAmong bs given)
    × AllTyped typed kinds env given is

-- One typing of a group. It may choose the kinds of variables that are not free in the environment. Each binder has one
-- type, and
-- inside the group those without a type signature are seen with it.
pub record GroupTyping (typed : IsTyped) (ds : List LocalDecl) (kinds : ℕ → KindTerm) (env : List Assumption)
    (members : List ℕ) : Type 0 where
  pub inside : ℕ → KindTerm
  pub agree : Agree env kinds inside
  pub given : List Bound
  pub names : map (λ b. b.name) given ≡ names_bound ds members
  pub each : AllTyped typed inside (monomorphic (unsigned ds given) ++ env) given members

-- A binder with a type signature: some typing of its group gives it the declared type with rigid variables.
pub record MeetsSignature (typed : IsTyped) (ds : List LocalDecl) (kinds : ℕ → KindTerm) (env : List Assumption)
    (members : List ℕ) (e : Assumption) : Type 0 where
  pub typing : GroupTyping typed ds kinds env members
  pub type : TypeTerm
  pub has : Among (record { name = e.name; type = type }) typing.given
  pub rigid : IsRigid typing.inside env e.scheme type

-- A group's binders without a type signature have the types of one typing, generalised; those with one meet it.
pub record IsGroupTyped (typed : IsTyped) (ds : List LocalDecl) (declared : List Assumption) (kinds : ℕ → KindTerm)
    (env : List Assumption) (members : List ℕ) (new : List Assumption) : Type 0 where
  pub typing : GroupTyping typed ds kinds env members
  pub generalises : new ≡ generalised env typing.inside (unsigned ds typing.given)
  pub signatures : (e : Assumption) → Among e declared → Among e.name (names_bound ds members)
      → MeetsSignature typed ds kinds env members e

-- one group after another: each sees those before it, generalised
abbrev pub GroupAfterGroup : IsTyped → List LocalDecl → List Assumption → (ℕ → KindTerm) → List IndexGroup
    → List Assumption → List Assumption → Type 0
GroupAfterGroup typed ds declared kinds [] env after = after ≡ env
GroupAfterGroup typed ds declared kinds (g ∷ gs) env after =
    (new : List Assumption) × IsGroupTyped typed ds declared kinds env g.members new
    × GroupAfterGroup typed ds declared kinds gs (new ++ env) after

-- Local declarations extend an environment: by the declared types of all that have a type signature, and then by one
-- dependency
-- group after another.
pub record Extends (G : Globals) (typed : IsTyped) (ds : List LocalDecl) (kinds : ℕ → KindTerm)
    (env after : List Assumption) : Type 0 where
  pub declared : List Assumption
  pub schemes : HaveSchemes G (all_signed ds) declared
  pub groups : List IndexGroup
  pub order : AreGroups (uses ds) groups
  pub each : GroupAfterGroup typed ds declared kinds groups (declared ++ env) after
