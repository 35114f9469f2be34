-- More small programs: names that are not exported, `negate`, local declarations, annotations, a whole module, and
-- which of two
-- names counts.
use Rattle.std.specs.Prelude.{◌≡◌, List, [], ◌∷◌, codes, false, Some, None, if◌then◌else◌}
use Rattle.bp_base.specs.Texts.{Text}
use Rattle.bp_base.specs.Specials.{special_name}
use Rattle.bp_base.specs.declared.special.Special.TheVariants as s
use Rattle.bp_base.specs.declared.ident.Ident.TheVariants.{Module}
use Rattle.bp_base.specs.declared.ident.Ident.TheViews.{roll-Unit}
use Rattle.bp_base.specs.declared.ty.Space.TheVariants.{Types, Values}
use Rattle.bp_base.specs.declared.ty.OrigName.{OrigName}
use Rattle.bp_base.specs.Entities.{default_fixity}
use Rattle.bp_base.specs.declared.ty.Kind.TheVariants.{Star, Arrow}
use Rattle.bp_base.specs.declared.ty.Ty.{Ty}
use Rattle.bp_base.specs.declared.ty.Ty.TheVariants.{Var, Con, App}
use Rattle.bp_base.specs.declared.entity.Entity.{Entity}
use Rattle.bp_base.specs.declared.entity.Entity.TheVariants.{Abstract, DataType, Value}
use Rattle.type_terms.specs.Terms.{var, con, app}
use Rattle.hs_core.specs.declared.tree.Written.TheVariants.{WVar, WCon}
use Rattle.hs_core.specs.declared.tree.Pat.TheVariants.{PVar}
use Rattle.hs_core.specs.declared.tree.Exp.{Exp}
use Rattle.hs_core.specs.declared.tree.Exp.TheVariants.{Local, Global, Int, Chr, Apply, Lambda, Let, Tuple}
use Rattle.hs_core.specs.declared.tree.Exp.TheVariants.{List as ListOf, Annot}
use Rattle.hs_core.specs.declared.tree.Decl.{Decl}
use Rattle.hs_core.specs.declared.tree.Decl.TheVariants.{TypeSig, Clause}
use Rattle.hs_core.specs.declared.tree.Decl.TheViews.{roll-Rhs}
use Rattle.hs_core.specs.declared.tree.Guard.TheVariants.{Bind}
use Rattle.hs_core.specs.declared.why.Why.TheVariants as w
use Rattle.hs_core.specs.Sameness.{same_original}
use Rattle.hs_core.specs.Types.{star, TypeTerm, any, within, function, integer, list_of}
use Rattle.hs_core.specs.Kinds.{IsKindOf}
use Rattle.hs_core.specs.Expansion.{Synonyms, Expands}
use Rattle.hs_core.specs.Globals.{globals_of, kinds_of, negate}
use Rattle.hs_core.specs.Typing.{HasType}
use Rattle.hs_core.specs.WellTyped.{HasDeclaredTypes, AreWellTyped, bindings_of}
use Rattle.hs_core.specs.Stubs.{IsWellTypedStub}
use Rattle.hs_core.specs.Matching.{Matches, IsMismatch}
use Rattle.hs_core_laws.specs.Examples.{simply, int_written, char_written, function_written, pair_written, is_simply}
use Rattle.hs_core_laws.specs.Examples.{returns_argument, base_name, base_ty, value_of, exported_value, here_named}
use Rattle.hs_core_laws.specs.Examples.{maybe, star_to_star, zero_clause, guarded_clause}

-- ---- names

-- `module A (t, u) where { data T = T; t :: T; t = T; u :: T -> Int; u x = 1 }`: what it exports
abbrev pub in_a : Text → OrigName
in_a x = record {
  at = Module (roll-Unit (record { component = codes "one"; fills = [] }))
      (codes "A");
  space = Values;
  occ = x;
}

abbrev pub hidden_type : OrigName
hidden_type = record { at = (in_a []).at; space = Types; occ = codes "T" }

abbrev pub hidden_ty : Ty
hidden_ty = Con hidden_type Star

abbrev pub shown_by_a : List Entity
shown_by_a = Value (in_a (codes "t")) (record { vars = 0; body = hidden_ty }) default_fixity
    ∷ Value (in_a (codes "u"))
    (record {
      vars = 0;
      body = App
          (App (Con (special_name Types s.Arrow) (Arrow Star (Arrow Star Star))) hidden_ty)
          (base_ty (codes "Int"));
    }) default_fixity ∷ []

-- `b :: Int; b = u t` is well typed where A is imported, though it cannot name the type of t
abbrev pub HiddenTypesHaveKinds : Type 0
HiddenTypesHaveKinds = HasDeclaredTypes (globals_of shown_by_a) any (TypeSig (codes "b") int_written ∷ [])
    (is_simply (codes "b") (Apply (Global (in_a (codes "u"))) (Global (in_a (codes "t")) ∷ [])) ∷ [])

-- `x :: Int; x = -1` is well typed where the visible `Prelude` exports `Int` alone
abbrev pub NegateIsKnown : Type 0
NegateIsKnown = HasDeclaredTypes (globals_of (DataType (base_name Types (codes "Int")) Star 0 false [] ∷ [])) any
    (TypeSig (codes "x") int_written ∷ [])
    (is_simply (codes "x") (Apply (Global negate) (Int 1 ∷ [])) ∷ [])

-- of two exports of one name the first counts: `f :: Int` is met by the one list, and not by the other
abbrev pub FirstExportCounts : Type 0
FirstExportCounts = Matches (value_of (base_ty (codes "Int")) ∷ [])
    (exported_value (base_ty (codes "Int")) ∷ exported_value (base_ty (codes "Char")) ∷ [])
    × IsMismatch (value_of (base_ty (codes "Int")) ∷ [])
    (exported_value (base_ty (codes "Char")) ∷ exported_value (base_ty (codes "Int")) ∷ []) (codes "f") w.OtherType

-- types of values match whatever numbers their variables have
abbrev pub NumberingIsFree : Type 0
NumberingIsFree = Matches (value_of (Var 3) ∷ []) (exported_value (Var 0) ∷ [])

-- `Maybe` has kind `* -> *`
abbrev pub MaybeHasKind : Type 0
MaybeHasKind = IsKindOf (kinds_of (globals_of (Abstract maybe (Arrow Star Star) ∷ []))) (WCon maybe) star_to_star

-- ---- synonyms

-- `type Ap f x = f x; type L a = [a]`
abbrev pub partial : Synonyms
partial n = if same_original n (here_named Types (codes "Ap")) then Some
    (record { params = 2; body = app (var 0) (var 1) })
    else if same_original n (here_named Types (codes "L")) then Some
    (record { params = 1; body = list_of (var 0) }) else None

-- `Ap L Int` has no expansion, since `L` stands there without its argument
abbrev pub PartialSynonymsDoNotExpand : Type 0
PartialSynonymsDoNotExpand = (t : TypeTerm)
    → Expands partial (app (app (con (here_named Types (codes "Ap"))) (con (here_named Types (codes "L")))) integer) t
    → ⊥

-- ---- local declarations

-- `\x -> x`
abbrev pub itself : Exp
itself = Lambda (PVar (codes "x") ∷ []) (Local (codes "x"))

-- `p :: (Int, Char); p = let { i = \x -> x; k = i } in (i 1, k 'c')`: two groups, the second of which sees the first
-- generalised
abbrev pub two_bindings : List Decl
two_bindings = is_simply (codes "i") itself ∷ is_simply (codes "k") (Local (codes "i")) ∷ []

abbrev pub uses_of_both : Exp
uses_of_both = Tuple (Apply (Local (codes "i")) (Int 1 ∷ []) ∷ Apply (Local (codes "k")) (Chr 99 ∷ []) ∷ [])

abbrev pub GroupAfterGroupIsTyped : Type 0
GroupAfterGroupIsTyped = HasDeclaredTypes (globals_of []) any
    (TypeSig (codes "p") (pair_written int_written char_written) ∷ [])
    (is_simply (codes "p") (Let two_bindings uses_of_both) ∷ [])

-- `p :: Int; p = let { f :: a -> Int; f x = f [x] } in f 1`: with a type signature a local function may call itself at
-- another type
abbrev pub calls_itself : List Decl
calls_itself = TypeSig (codes "f") (function_written (WVar (codes "a")) int_written)
    ∷ Clause (codes "f") (PVar (codes "x") ∷ [])
    (simply (Apply (Local (codes "f")) (ListOf (Local (codes "x") ∷ []) ∷ []))) ∷ []

abbrev pub PolymorphicRecursionIsTyped : Type 0
PolymorphicRecursionIsTyped = HasDeclaredTypes (globals_of []) any (TypeSig (codes "p") int_written ∷ [])
    (is_simply (codes "p") (Let calls_itself (Apply (Local (codes "f")) (Int 1 ∷ []))) ∷ [])

-- `h :: Int -> Int; h x | z <- y = z where y = x`: what `where` declares is seen in guards and behind them
abbrev pub where_clause : Decl
where_clause = Clause (codes "h") (PVar (codes "x") ∷ []) (roll-Rhs (record {
  choices = record { guards = Bind (PVar (codes "z")) (Local (codes "y")) ∷ []; exp = Local (codes "z") } ∷ [];
  local = is_simply (codes "y") (Local (codes "x")) ∷ [];
}))

abbrev pub WhereIsSeenInGuards : Type 0
WhereIsSeenInGuards = HasDeclaredTypes (globals_of []) any
    (TypeSig (codes "h") (function_written int_written int_written) ∷ []) (where_clause ∷ [])

-- ---- annotations and depth

-- `(\x -> x) :: a -> a` is accepted, at `Int -> Int`
abbrev pub AnnotationIsTyped : Type 0
AnnotationIsTyped = HasType (globals_of []) any (Annot itself (function_written (WVar (codes "a")) (WVar (codes "a"))))
    (λ w. star) [] (function integer integer)

-- `i :: a -> a; i x = x` has a typing within 1,000, as its function type has depth 3, and none within 2
abbrev pub DepthIsMeasured : Type 0
DepthIsMeasured = HasDeclaredTypes (globals_of []) (within 1000)
    (TypeSig (codes "i") (function_written (WVar (codes "a")) (WVar (codes "a"))) ∷ [])
    (returns_argument (codes "i") ∷ [])
    × (HasDeclaredTypes (globals_of []) (within 2)
    (TypeSig (codes "i") (function_written (WVar (codes "a")) (WVar (codes "a"))) ∷ [])
    (returns_argument (codes "i") ∷ []) → ⊥)

-- ---- a whole module

-- `x :: Int; x = 1` in the module M
abbrev pub one_value : List Decl
one_value = TypeSig (codes "x") int_written ∷ is_simply (codes "x") (Int 1) ∷ []

abbrev pub ModuleIsWellTyped : Type 0
ModuleIsWellTyped = AreWellTyped any (globals_of []) (here_named Types []).at one_value

-- all clauses of one name are one binding
abbrev pub ClausesAreOneBinding : Type 0
ClausesAreOneBinding = bindings_of (zero_clause ∷ guarded_clause ∷ is_simply (codes "x") (Int 1) ∷ [])
    ≡ (zero_clause ∷ guarded_clause ∷ []) ∷ (is_simply (codes "x") (Int 1) ∷ []) ∷ []

-- a hole with `data P a` of the kind `(* -> *) -> *`: a stub module keeps the kind that its entry has, though a least
-- one is less
abbrev pub of_higher_kind : Entity
of_higher_kind = DataType (here_named Types (codes "P")) (Arrow (Arrow Star Star) Star) 1 false []

abbrev pub StubIsWellTyped : Type 0
StubIsWellTyped = IsWellTypedStub (globals_of []) (of_higher_kind ∷ [])
