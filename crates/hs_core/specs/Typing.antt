-- The typing relation (Damas and Milner; Haskell 2010 Report, chapter 3 and sections 4.4 and 4.5).
use Rattle.std.specs.Prelude.{◌≡◌, ℕ, zero, suc, Bool, true, List, [], ◌∷◌, ◌++◌}
use Rattle.hs_core.specs.declared.tree.Pat.{Pat}
use Rattle.hs_core.specs.declared.tree.Pat.TheVariants.{PVar, PWild, PInt, PChr, PStr, PCon', PTuple', PList', PAs'}
use Rattle.hs_core.specs.declared.tree.Pat.TheVariants.{PLazy'}
use Rattle.hs_core.specs.declared.tree.Pat.TheBlock.{Row_of-Pat, end_of-Pat, more_of-Pat}
use Rattle.hs_core.specs.declared.tree.Exp.{Exp}
use Rattle.hs_core.specs.declared.tree.Exp.TheVariants.{Local, Global, Int, Chr, Str, Apply', Lambda', Let', If', Case'}
use Rattle.hs_core.specs.declared.tree.Exp.TheVariants.{Tuple', List' as ListOf', RightSection', Annot'}
use Rattle.hs_core.specs.declared.tree.Decl.{Decl}
use Rattle.hs_core.specs.declared.tree.Decl.TheVariants.{DataDecl, SynonymDecl, TypeSig, FixityOf, Clause, PatBind}
use Rattle.hs_core.specs.declared.tree.Rhs.{Rhs, Rhs'}
use Rattle.hs_core.specs.declared.tree.Guard.{Guard}
use Rattle.hs_core.specs.declared.tree.Guard.TheVariants.{Test, Bind}
use Rattle.hs_core.specs.declared.tree.Alt.{Alt, Alt'}
use Rattle.hs_core.specs.declared.tree.Decl.TheBlock.{Row_of-Choice, end_of-Choice, more_of-Choice, Row_of-Decl}
use Rattle.hs_core.specs.declared.tree.Decl.TheBlock.{end_of-Decl, more_of-Decl, Row_of-Guard, end_of-Guard}
use Rattle.hs_core.specs.declared.tree.Decl.TheBlock.{more_of-Guard, Row_of-Exp, end_of-Exp, more_of-Exp, Row_of-Alt}
use Rattle.hs_core.specs.declared.tree.Decl.TheBlock.{end_of-Alt, more_of-Alt}
use Rattle.hs_core.specs.Types.{KindTerm, star, TypeTerm, integer, character, boolean, function, functions, list_of}
use Rattle.hs_core.specs.Types.{tuple_of, count}
use Rattle.hs_core.specs.Kinds.{NameKinds, HasKind}
use Rattle.hs_core.specs.Schemes.{TypeScheme, IsInstance, IsDeclared, Assumption, Bound, monomorphic, Selects, IsRigid}
use Rattle.hs_core.specs.Schemes.{Agree}
use Rattle.hs_core.specs.Globals.{Constructor, Globals, plain_names, HasDeclared, HasConstructor}
use Rattle.hs_core.specs.FreeNames.{local_decls}
use Rattle.hs_core.specs.LocalGroups.{HasScheme, Extends}

-- A test that each type of a derivation has to pass: `any`, or `within` a depth.
abbrev pub TypeTest : Type 0
TypeTest = TypeTerm → Bool

-- kinds of type variables
abbrev pub Kinds : Type 0
Kinds = ℕ → KindTerm

-- a proper type, which may stand in a derivation: it passes the test, has no synonym, and has kind `*`
abbrev pub IsProperType : Globals → TypeTest → Kinds → TypeTerm → Type 0
IsProperType G fits kinds t = (fits t ≡ true) × HasKind (plain_names G) kinds t star

-- A constructor's fields have these types, and its data type this one: as a function it is an instance of its declared
-- type.
pub record IsBuilt (names : NameKinds) (kinds : Kinds) (c : Constructor) (fields : List TypeTerm)
    (result : TypeTerm) : Type 0 where
  pub scheme : TypeScheme
  pub declared : IsDeclared names (functions c.fields c.result) scheme
  pub many : count fields ≡ count c.fields
  pub built : IsInstance names kinds scheme (functions fields result)

-- all of these are that type
abbrev pub AllAre : TypeTerm → List TypeTerm → Type 0
AllAre t [] = Unit {0}
AllAre t (u ∷ us) = (u ≡ t) × AllAre t us

-- A pattern of a type binds these names, each with one type (Haskell 2010 Report, section 3.17).
abbrev mutual
  pub Binds : Globals → TypeTest → Kinds → Pat → TypeTerm → List Bound → Type 0
  Binds G fits kinds (PVar x) t bs = IsProperType G fits kinds t × (bs ≡ record { name = x; type = t } ∷ [])
  Binds G fits kinds PWild t bs = IsProperType G fits kinds t × (bs ≡ [])
  Binds G fits kinds (PInt negative n) t bs = IsProperType G fits kinds t × (t ≡ integer) × (bs ≡ [])
  Binds G fits kinds (PChr c) t bs = IsProperType G fits kinds t × (t ≡ character) × (bs ≡ [])
  Binds G fits kinds (PStr cs) t bs = IsProperType G fits kinds t × (t ≡ list_of character) × (bs ≡ [])
  Binds G fits kinds (PCon' n s ps) t bs = IsProperType G fits kinds t × (c : Constructor) × HasConstructor G n c
      × (us : List TypeTerm) × IsBuilt (plain_names G) kinds c us t × BindAll G fits kinds ps us bs
  Binds G fits kinds (PTuple' s ps) t bs = IsProperType G fits kinds t × (us : List TypeTerm) × (t ≡ tuple_of us)
      × BindAll G fits kinds ps us bs
  Binds G fits kinds (PList' s ps) t bs = IsProperType G fits kinds t
      × (u : TypeTerm) × (us : List TypeTerm) × (t ≡ list_of u) × AllAre u us × BindAll G fits kinds ps us bs
  Binds G fits kinds (PAs' x s (more_of-Pat p end_of-Pat)) t bs = (inner : List Bound) × Binds G fits kinds p t inner
      × (bs ≡ record { name = x; type = t } ∷ inner)
  Binds G fits kinds (PLazy' s (more_of-Pat p end_of-Pat)) t bs = Binds G fits kinds p t bs

  -- as many patterns as types
  pub BindAll : Globals → TypeTest → Kinds → {m : _} → Row_of-Pat m → List TypeTerm → List Bound → Type 0
  BindAll G fits kinds end_of-Pat ts bs = (ts ≡ []) × (bs ≡ [])
  BindAll G fits kinds (more_of-Pat p ps) ts bs = (t : TypeTerm) × (rest : List TypeTerm) × (a : List Bound)
      × (b : List Bound)
      × (ts ≡ t ∷ rest) × Binds G fits kinds p t a × BindAll G fits kinds ps rest b × (bs ≡ a ++ b)

abbrev pub BindEach : Globals → TypeTest → Kinds → List Pat → List TypeTerm → List Bound → Type 0
BindEach G fits kinds [] ts bs = (ts ≡ []) × (bs ≡ [])
BindEach G fits kinds (p ∷ ps) ts bs = (t : TypeTerm) × (rest : List TypeTerm) × (a : List Bound) × (b : List Bound)
    × (ts ≡ t ∷ rest) × Binds G fits kinds p t a × BindEach G fits kinds ps rest b × (bs ≡ a ++ b)

-- a written type with rigid variables, which are new to the environment and of their kinds
pub record IsAsWritten (kinds : Kinds) (env : List Assumption) (c : TypeScheme)
    (HasIt : Kinds → TypeTerm → Type 0) : Type 0 where
  pub inside : Kinds
  pub agree : Agree env kinds inside
  pub type : TypeTerm
  pub rigid : IsRigid inside env c type
  pub has : HasIt inside type

-- An expression has a type under kinds of type variables and an environment.
abbrev mutual
  pub HasType : Globals → TypeTest → Exp → Kinds → List Assumption → TypeTerm → Type 0
  HasType G fits (Local x) kinds env t = IsProperType G fits kinds t × (c : TypeScheme) × Selects env x c
      × IsInstance (plain_names G) kinds c t
  HasType G fits (Global n) kinds env t = IsProperType G fits kinds t
      × (d : TypeTerm) × (c : TypeScheme) × HasDeclared G n d × IsDeclared (plain_names G) d c
      × IsInstance (plain_names G) kinds c t
  HasType G fits (Int n) kinds env t = IsProperType G fits kinds t × (t ≡ integer)
  HasType G fits (Chr c) kinds env t = IsProperType G fits kinds t × (t ≡ character)
  HasType G fits (Str cs) kinds env t = IsProperType G fits kinds t × (t ≡ list_of character)
  HasType G fits (Apply' s (more_of-Exp f end_of-Exp) z es) kinds env t = IsProperType G fits kinds t
      × (us : List TypeTerm) × HasType G fits f kinds env (functions us t) × HaveTypes G fits es kinds env us
  HasType G fits (Lambda' ps s (more_of-Exp e end_of-Exp)) kinds env t = IsProperType G fits kinds t
      × (us : List TypeTerm) × (v : TypeTerm) × (bs : List Bound) × (t ≡ functions us v)
      × BindEach G fits kinds ps us bs
      × HasType G fits e kinds (monomorphic bs ++ env) v
  HasType G fits (Let' s ds z (more_of-Exp e end_of-Exp)) kinds env t = IsProperType G fits kinds t
      × (after : List Assumption)
      × Extends G (λ i k en bs. IsTypedAt G fits ds i k en bs) (local_decls ds) kinds env after
      × HasType G fits e kinds after t
  HasType G fits
      (If' s (more_of-Exp a end_of-Exp) y (more_of-Exp b end_of-Exp) z
      (more_of-Exp c end_of-Exp)) kinds env t = IsProperType G fits kinds t
      × HasType G fits a kinds env boolean × HasType G fits b kinds env t × HasType G fits c kinds env t
  HasType G fits (Case' s (more_of-Exp e end_of-Exp) z as') kinds env t = IsProperType G fits kinds t
      × (u : TypeTerm) × HasType G fits e kinds env u × HaveAlternatives G fits as' kinds env u t
  HasType G fits (Tuple' s es) kinds env t = IsProperType G fits kinds t × (us : List TypeTerm) × (t ≡ tuple_of us)
      × HaveTypes G fits es kinds env us
  HasType G fits (ListOf' s es) kinds env t = IsProperType G fits kinds t
      × (u : TypeTerm) × (us : List TypeTerm) × (t ≡ list_of u) × AllAre u us × HaveTypes G fits es kinds env us
  HasType G fits
      (RightSection' s (more_of-Exp op end_of-Exp) z
      (more_of-Exp a end_of-Exp)) kinds env t = IsProperType G fits kinds t
      × (l : TypeTerm) × (r : TypeTerm) × (v : TypeTerm) × (t ≡ function l v)
      × HasType G fits op kinds env (function l (function r v)) × HasType G fits a kinds env r
  HasType G fits (Annot' s (more_of-Exp e end_of-Exp) w) kinds env t = IsProperType G fits kinds t
      × (c : TypeScheme) × HasScheme G w c × IsAsWritten kinds env c (λ k u. HasType G fits e k env u)
      × IsInstance (plain_names G) kinds c t

  -- as many expressions as types
  pub HaveTypes : Globals → TypeTest → {m : _} → Row_of-Exp m → Kinds → List Assumption → List TypeTerm → Type 0
  HaveTypes G fits end_of-Exp kinds env ts = ts ≡ []
  HaveTypes G fits (more_of-Exp e es) kinds env ts = (t : TypeTerm) × (rest : List TypeTerm) × (ts ≡ t ∷ rest)
      × HasType G fits e kinds env t × HaveTypes G fits es kinds env rest

  -- alternatives from one type to another
  pub HaveAlternatives : Globals → TypeTest → {m : _} → Row_of-Alt m → Kinds → List Assumption → TypeTerm → TypeTerm
      → Type 0
  HaveAlternatives G fits end_of-Alt kinds env u t = Unit {0}
  HaveAlternatives G fits (more_of-Alt a as') kinds env u t = IsAlternative G fits a kinds env u t
      × HaveAlternatives G fits as' kinds env u t

  pub IsAlternative : Globals → TypeTest → Alt → Kinds → List Assumption → TypeTerm → TypeTerm → Type 0
  IsAlternative G fits (Alt' p r) kinds env u t = (bs : List Bound) × Binds G fits kinds p u bs
      × IsRightSide G fits r kinds (monomorphic bs ++ env) t

  -- the declarations of a `where` are seen in every choice
  pub IsRightSide : Globals → TypeTest → Rhs → Kinds → List Assumption → TypeTerm → Type 0
  IsRightSide G fits (Rhs' s cs z ds) kinds env t = IsProperType G fits kinds t
      × (after : List Assumption)
      × Extends G (λ i k en bs. IsTypedAt G fits ds i k en bs) (local_decls ds) kinds env after
      × HaveChoices G fits cs kinds after t

  pub HaveChoices : Globals → TypeTest → {m : _} → Row_of-Choice m → Kinds → List Assumption → TypeTerm → Type 0
  HaveChoices G fits end_of-Choice kinds env t = Unit {0}
  HaveChoices G fits (more_of-Choice s gs e cs) kinds env t =
      ((bs : List Bound) × GuardsBind G fits gs kinds env bs × HasType G fits e kinds (monomorphic bs ++ env) t)
      × HaveChoices G fits cs kinds env t

  -- guards from left to right bind these names, the newest first
  pub GuardsBind : Globals → TypeTest → {m : _} → Row_of-Guard m → Kinds → List Assumption → List Bound → Type 0
  GuardsBind G fits end_of-Guard kinds env bs = bs ≡ []
  GuardsBind G fits (more_of-Guard g gs) kinds env bs = (a : List Bound) × (b : List Bound)
      × IsGuard G fits g kinds env a × GuardsBind G fits gs kinds (monomorphic a ++ env) b × (bs ≡ b ++ a)

  pub IsGuard : Globals → TypeTest → Guard → Kinds → List Assumption → List Bound → Type 0
  IsGuard G fits (Test e) kinds env bs = HasType G fits e kinds env boolean × (bs ≡ [])
  IsGuard G fits (Bind p e) kinds env bs = (t : TypeTerm) × Binds G fits kinds p t bs × HasType G fits e kinds env t

  -- a declaration is typed where what it binds has these types
  pub IsTypedDecl : Globals → TypeTest → Decl → Kinds → List Assumption → List Bound → Type 0
  IsTypedDecl G fits (DataDecl x w ps cs) kinds env bs = bs ≡ []
  IsTypedDecl G fits (SynonymDecl x ps b) kinds env bs = bs ≡ []
  IsTypedDecl G fits (TypeSig x w) kinds env bs = bs ≡ []
  IsTypedDecl G fits (FixityOf x f) kinds env bs = bs ≡ []
  IsTypedDecl G fits (Clause x ps r) kinds env bs = (us : List TypeTerm) × (v : TypeTerm) × (inner : List Bound)
      × (bs ≡ record { name = x; type = functions us v } ∷ []) × IsProperType G fits kinds (functions us v)
      × BindEach G fits kinds ps us inner × IsRightSide G fits r kinds (monomorphic inner ++ env) v
  IsTypedDecl G fits (PatBind p r) kinds env bs = (t : TypeTerm) × Binds G fits kinds p t bs
      × IsRightSide G fits r kinds env t

  -- the declaration of a number, from 0
  pub IsTypedAt : Globals → TypeTest → {m : _} → Row_of-Decl m → ℕ → Kinds → List Assumption → List Bound → Type 0
  IsTypedAt G fits end_of-Decl i kinds env bs = ⊥
  IsTypedAt G fits (more_of-Decl d ds) zero kinds env bs = IsTypedDecl G fits d kinds env bs
  IsTypedAt G fits (more_of-Decl d ds) (suc i) kinds env bs = IsTypedAt G fits ds i kinds env bs
