-- Typings in which a local name stands for the set of types that it has, and kinds of type variables are the same
-- everywhere: no type is generalised, and no environment is looked through (MacQueen, Plotkin and Sethi, "An ideal
-- model
-- for recursive polymorphic types", 1984; Damas and Milner).
use Rattle.std.specs.Prelude.{◌≡◌, ◌≢◌, ◌⊎◌, ℕ, zero, suc, true, not, List, [], ◌∷◌, map, filter}
use Rattle.bp_base.specs.Texts.{Text}
use Rattle.bp_base.specs.Lists.{Among, is_among}
use Rattle.hs_core.specs.declared.group.IndexGroup.{IndexGroup}
use Rattle.hs_core.specs.Groups.{AreGroups}
use Rattle.hs_core.specs.declared.tree.Exp.{Exp}
use Rattle.hs_core.specs.declared.tree.Exp.TheVariants.{Local, Global, Int, Chr, Str, Apply', Lambda', Let', If', Case'}
use Rattle.hs_core.specs.declared.tree.Exp.TheVariants.{Tuple', List' as ListOf', RightSection', Annot'}
use Rattle.hs_core.specs.declared.tree.Decl.{Decl}
use Rattle.hs_core.specs.declared.tree.Decl.TheVariants.{DataDecl, SynonymDecl, TypeSig, FixityOf, Clause, PatBind}
use Rattle.hs_core.specs.declared.tree.Rhs.{Rhs, Rhs'}
use Rattle.hs_core.specs.declared.tree.Guard.{Guard}
use Rattle.hs_core.specs.declared.tree.Guard.TheVariants.{Test, Bind}
use Rattle.hs_core.specs.declared.tree.Alt.{Alt, Alt'}
use Rattle.hs_core.specs.declared.tree.Decl.TheBlock.{Row_of-Choice, end_of-Choice, more_of-Choice, Row_of-Decl}
use Rattle.hs_core.specs.declared.tree.Decl.TheBlock.{end_of-Decl, more_of-Decl, Row_of-Guard, end_of-Guard}
use Rattle.hs_core.specs.declared.tree.Decl.TheBlock.{more_of-Guard, Row_of-Exp, end_of-Exp, more_of-Exp, Row_of-Alt}
use Rattle.hs_core.specs.declared.tree.Decl.TheBlock.{end_of-Alt, more_of-Alt}
use Rattle.type_terms.specs.Terms.{occurs_in, applied}
use Rattle.hs_core.specs.Types.{TypeTerm, TypeAssignment, any, integer, character, boolean, function, functions}
use Rattle.hs_core.specs.Types.{list_of}
use Rattle.hs_core.specs.Types.{tuple_of}
use Rattle.hs_core.specs.Kinds.{HasKind}
use Rattle.hs_core.specs.Schemes.{TypeScheme, IsInstance, IsDeclared, Assumption, Bound}
use Rattle.hs_core.specs.Globals.{Globals, plain_names, HasDeclared}
use Rattle.hs_core.specs.FreeNames.{LocalDecl, local_decls, all_signed, signed_names, uses}
use Rattle.hs_core.specs.LocalGroups.{HasScheme, HaveSchemes, names_bound, unsigned, AllAmong}
use Rattle.hs_core.specs.Typing.{Kinds, IsProperType, AllAre, Binds, BindEach}

-- a local name with the set of types that it has
pub record LocalTypes : Type 1 where
  pub name : Text
  pub has : TypeTerm → Type 0

-- the newest entry of the name has the type: an inner binder hides an outer one
abbrev pub Offers : List LocalTypes → Text → TypeTerm → Type 0
Offers [] x t = ⊥
Offers (k ∷ ks) x t = ((k.name ≡ x) × k.has t) ⊎ ((k.name ≢ x) × Offers ks x t)

-- names of one type each, in front of others
abbrev pub only : List Bound → List LocalTypes → List LocalTypes
only [] ks = ks
only (b ∷ bs) ks = record { name = b.name; has = λ t. b.type ≡ t } ∷ only bs ks

-- the declaration of a number is typed where locals stand for sets of types, and what it binds has these types
abbrev pub MeantTyping : Type 1
MeantTyping = ℕ → List LocalTypes → List Bound → Type 0

-- each declaration of a group is typed, and what it binds has the types that the group gives
abbrev pub AllMeant : MeantTyping → List LocalTypes → List Bound → List ℕ → Type 0
AllMeant typed env given [] = Unit {0}
AllMeant typed env given (i ∷ is) = ((bs : List Bound) × typed i env bs × AllAmong bs given)
    × AllMeant typed env given is

-- one typing of a group, in which each binder has one type
pub record GroupMeaning (typed : MeantTyping) (ds : List LocalDecl) (env : List LocalTypes)
    (members : List ℕ) : Type 0 where
  pub given : List Bound
  pub names : map (λ b. b.name) given ≡ names_bound ds members
  pub each : AllMeant typed (only (unsigned ds given) env) given members

-- each name has the types that some typing of the group gives it
abbrev pub sets_of : MeantTyping → List LocalDecl → List LocalTypes → List ℕ → List Text → List LocalTypes
    → List LocalTypes
sets_of typed ds env members [] ks = ks
sets_of typed ds env members (x ∷ xs) ks = record {
  name = x;
  has = λ t. (g : GroupMeaning typed ds env members)
      × Among (record { name = x; type = t }) g.given;
} ∷ sets_of typed ds env members xs ks

-- a type of its kind for each variable that occurs in a scheme
abbrev pub IsChoice : Globals → Kinds → TypeScheme → TypeAssignment → Type 0
IsChoice G K c choice = (w : ℕ) → occurs_in w c.body ≡ true → HasKind (plain_names G) K (choice w) (c.kinds w)

-- a binder with a type signature has every instance of it
-- some typing of the group gives a binder with a type signature each instance of it
pub record HasEveryInstance (G : Globals) (K : Kinds) (typed : MeantTyping) (ds : List LocalDecl)
    (env : List LocalTypes) (members : List ℕ) (e : Assumption) : Type 0 where
  pub every : (choice : TypeAssignment) → IsChoice G K e.scheme choice →
      (g : GroupMeaning typed ds env members) × Among
      (record { name = e.name; type = applied choice e.scheme.body }) g.given

-- names with type signatures have all instances of them
abbrev pub declared_sets : Globals → Kinds → List Assumption → List LocalTypes → List LocalTypes
declared_sets G K [] ks = ks
declared_sets G K (e ∷ es) ks = record {
  name = e.name;
  has = λ t. (choice : TypeAssignment)
      × IsChoice G K e.scheme choice × (applied choice e.scheme.body ≡ t);
} ∷ declared_sets G K es ks

-- what the declarations of a group bind without a type signature
abbrev pub unsigned_names : List LocalDecl → List ℕ → List Text
unsigned_names ds members = filter (λ x. not (is_among x (signed_names ds))) (names_bound ds members)

-- one group after another, and what holds behind them
abbrev pub MeantGroups : Globals → Kinds → MeantTyping → List LocalDecl → List Assumption → List IndexGroup
    → List LocalTypes → (List LocalTypes → Type 0) → Type 0
MeantGroups G K typed ds declared [] env k = k env
MeantGroups G K typed ds declared (g ∷ gs) env k = GroupMeaning typed ds env g.members
    × ((e : Assumption) → Among e declared → Among e.name (names_bound ds g.members)
    → HasEveryInstance G K typed ds env g.members e)
    × MeantGroups G K typed ds declared gs (sets_of typed ds env g.members (unsigned_names ds g.members) env) k

-- local declarations in front of an environment, and what holds behind them
abbrev pub MeantExtension : Globals → Kinds → MeantTyping → List LocalDecl → List LocalTypes → (List LocalTypes
    → Type 0) → Type 0
MeantExtension G K typed ds env k = (declared : List Assumption) × HaveSchemes G (all_signed ds) declared
    × (groups : List IndexGroup) × AreGroups (uses ds) groups
    × MeantGroups G K typed ds declared groups (declared_sets G K declared env) k

-- The typing relation, case by case as that over schemes. A written type has each instance, in place of rigid
-- variables.
abbrev mutual
  pub MeantType : Globals → Kinds → Exp → List LocalTypes → TypeTerm → Type 0
  MeantType G K (Local x) env t = IsProperType G any K t × Offers env x t
  MeantType G K (Global n) env t = IsProperType G any K t × (d : TypeTerm) × (c : TypeScheme) × HasDeclared G n d
      × IsDeclared (plain_names G) d c × IsInstance (plain_names G) K c t
  MeantType G K (Int n) env t = IsProperType G any K t × (t ≡ integer)
  MeantType G K (Chr c) env t = IsProperType G any K t × (t ≡ character)
  MeantType G K (Str cs) env t = IsProperType G any K t × (t ≡ list_of character)
  MeantType G K (Apply' s (more_of-Exp f end_of-Exp) z es) env t = IsProperType G any K t × (us : List TypeTerm)
      × MeantType G K f env (functions us t) × MeantTypes G K es env us
  MeantType G K (Lambda' ps s (more_of-Exp e end_of-Exp)) env t = IsProperType G any K t
      × (us : List TypeTerm) × (v : TypeTerm) × (bs : List Bound) × (t ≡ functions us v)
      × BindEach G any K ps us bs × MeantType G K e (only bs env) v
  MeantType G K (Let' s ds z (more_of-Exp e end_of-Exp)) env t = IsProperType G any K t
      × MeantExtension G K (λ i ks bs. MeantAt G K ds i ks bs) (local_decls ds) env (λ after. MeantType G K e after t)
  MeantType G K (If' s (more_of-Exp a end_of-Exp) y (more_of-Exp b end_of-Exp) z
      (more_of-Exp c end_of-Exp)) env t = IsProperType G any K t × MeantType G K a env boolean
      × MeantType G K b env t × MeantType G K c env t
  MeantType G K (Case' s (more_of-Exp e end_of-Exp) z as') env t = IsProperType G any K t × (u : TypeTerm)
      × MeantType G K e env u × MeantAlternatives G K as' env u t
  MeantType G K (Tuple' s es) env t = IsProperType G any K t × (us : List TypeTerm) × (t ≡ tuple_of us)
      × MeantTypes G K es env us
  MeantType G K (ListOf' s es) env t = IsProperType G any K t × (u : TypeTerm) × (us : List TypeTerm)
      × (t ≡ list_of u) × AllAre u us × MeantTypes G K es env us
  MeantType G K (RightSection' s (more_of-Exp op end_of-Exp) z
      (more_of-Exp a end_of-Exp)) env t = IsProperType G any K t
      × (l : TypeTerm) × (r : TypeTerm) × (v : TypeTerm) × (t ≡ function l v)
      × MeantType G K op env (function l (function r v)) × MeantType G K a env r
  MeantType G K (Annot' s (more_of-Exp e end_of-Exp) w) env t = IsProperType G any K t
      × (c : TypeScheme) × HasScheme G w c × ((choice : TypeAssignment) → IsChoice G K c choice
      → MeantType G K e env (applied choice c.body)) × IsInstance (plain_names G) K c t

  pub MeantTypes : Globals → Kinds → {m : _} → Row_of-Exp m → List LocalTypes → List TypeTerm → Type 0
  MeantTypes G K end_of-Exp env ts = ts ≡ []
  MeantTypes G K (more_of-Exp e es) env ts = (t : TypeTerm) × (rest : List TypeTerm) × (ts ≡ t ∷ rest)
      × MeantType G K e env t × MeantTypes G K es env rest

  pub MeantAlternatives : Globals → Kinds → {m : _} → Row_of-Alt m → List LocalTypes → TypeTerm → TypeTerm → Type 0
  MeantAlternatives G K end_of-Alt env u t = Unit {0}
  MeantAlternatives G K (more_of-Alt a as') env u t = MeantAlternative G K a env u t × MeantAlternatives G K as' env u t

  pub MeantAlternative : Globals → Kinds → Alt → List LocalTypes → TypeTerm → TypeTerm → Type 0
  MeantAlternative G K (Alt' p r) env u t = (bs : List Bound) × Binds G any K p u bs
      × MeantRightSide G K r (only bs env) t

  pub MeantRightSide : Globals → Kinds → Rhs → List LocalTypes → TypeTerm → Type 0
  MeantRightSide G K (Rhs' s cs z ds) env t = IsProperType G any K t × MeantExtension G K
      (λ i ks bs. MeantAt G K ds i ks bs) (local_decls ds) env (λ after. MeantChoices G K cs after t)

  pub MeantChoices : Globals → Kinds → {m : _} → Row_of-Choice m → List LocalTypes → TypeTerm → Type 0
  MeantChoices G K end_of-Choice env t = Unit {0}
  MeantChoices G K (more_of-Choice s gs e cs) env t = MeantGuards G K gs env (λ after. MeantType G K e after t)
      × MeantChoices G K cs env t

  pub MeantGuards : Globals → Kinds → {m : _} → Row_of-Guard m → List LocalTypes → (List LocalTypes → Type 0) → Type 0
  MeantGuards G K end_of-Guard env k = k env
  MeantGuards G K (more_of-Guard g gs) env k = (a : List Bound) × MeantGuard G K g env a
      × MeantGuards G K gs (only a env) k

  pub MeantGuard : Globals → Kinds → Guard → List LocalTypes → List Bound → Type 0
  MeantGuard G K (Test e) env bs = MeantType G K e env boolean × (bs ≡ [])
  MeantGuard G K (Bind p e) env bs = (t : TypeTerm) × Binds G any K p t bs × MeantType G K e env t

  pub MeantDecl : Globals → Kinds → Decl → List LocalTypes → List Bound → Type 0
  MeantDecl G K (DataDecl x w ps cs) env bs = bs ≡ []
  MeantDecl G K (SynonymDecl x ps b) env bs = bs ≡ []
  MeantDecl G K (TypeSig x w) env bs = bs ≡ []
  MeantDecl G K (FixityOf x f) env bs = bs ≡ []
  MeantDecl G K (Clause x ps r) env bs = (us : List TypeTerm) × (v : TypeTerm) × (inner : List Bound)
      × (bs ≡ record { name = x; type = functions us v } ∷ []) × IsProperType G any K (functions us v)
      × BindEach G any K ps us inner × MeantRightSide G K r (only inner env) v
  MeantDecl G K (PatBind p r) env bs = (t : TypeTerm) × Binds G any K p t bs × MeantRightSide G K r env t

  pub MeantAt : Globals → Kinds → {m : _} → Row_of-Decl m → ℕ → List LocalTypes → List Bound → Type 0
  MeantAt G K end_of-Decl i env bs = ⊥
  MeantAt G K (more_of-Decl d ds) zero env bs = MeantDecl G K d env bs
  MeantAt G K (more_of-Decl d ds) (suc i) env bs = MeantAt G K ds i env bs
