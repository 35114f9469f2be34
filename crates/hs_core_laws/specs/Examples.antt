-- Small programs, and what the definitions say of them.
use Rattle.std.specs.Prelude.{List, [], ◌∷◌, ◌++◌, Some, None, codes, false, if◌then◌else◌}
use Rattle.bp_base.specs.Texts.{Text}
use Rattle.bp_base.specs.Specials.{base_prelude, special_name}
use Rattle.bp_base.specs.declared.special.Special.TheVariants as s
use Rattle.bp_base.specs.declared.ty.Space.{Space}
use Rattle.bp_base.specs.declared.ty.Space.TheVariants.{Types, Values}
use Rattle.bp_base.specs.declared.ty.OrigName.{OrigName}
use Rattle.bp_base.specs.Entities.{default_fixity}
use Rattle.bp_base.specs.declared.ty.Kind.TheVariants.{Star}
use Rattle.bp_base.specs.declared.ty.Ty.{Ty}
use Rattle.bp_base.specs.declared.ty.Ty.TheVariants.{Var, Con}
use Rattle.bp_base.specs.declared.entity.Entity.{Entity}
use Rattle.bp_base.specs.declared.entity.Entity.TheVariants.{Value}
use Rattle.bp_base.specs.declared.entity.Export.{Export}
use Rattle.hs_core.specs.declared.tree.Written.{Written}
use Rattle.hs_core.specs.declared.tree.Written.TheVariants.{WVar, WCon, WApp}
use Rattle.hs_core.specs.declared.tree.Pat.TheVariants.{PVar, PInt, PCon}
use Rattle.hs_core.specs.declared.tree.Exp.{Exp}
use Rattle.hs_core.specs.declared.tree.Exp.TheVariants.{Local, Global, Int, Chr, Apply, Lambda, Let, Case, Tuple, Annot}
use Rattle.hs_core.specs.declared.tree.Decl.{Decl}
use Rattle.hs_core.specs.declared.tree.Decl.TheVariants.{TypeSig, Clause}
use Rattle.hs_core.specs.declared.tree.Decl.TheViews.{roll-Rhs, roll-Alt}
use Rattle.hs_core.specs.declared.tree.Guard.TheVariants.{Bind}
use Rattle.hs_core.specs.declared.tree.Rhs.{Rhs}
use Rattle.bp_base.specs.declared.ident.Ident.TheVariants.{Module}
use Rattle.bp_base.specs.declared.ident.Ident.TheViews.{roll-Unit}
use Rattle.type_terms.specs.Terms.{var, con, app}
use Rattle.hs_core.specs.Types.{KindTerm, star, arrow, TypeTerm, any, list_of, character}
use Rattle.hs_core.specs.Schemes.{Assumption, Bound}
use Rattle.hs_core.specs.Sameness.{same_original}
use Rattle.hs_core.specs.Globals.{Globals, kinds_of, type_name, value_name, constructor_name, known_names, in_front}
use Rattle.hs_core.specs.Globals.{no_names, globals_of}
use Rattle.hs_core.specs.Typing.{Kinds, Binds, HasType}
use Rattle.hs_core.specs.Kinds.{TypeDecl, fields, IsKinding, AreLeastKinds}
use Rattle.hs_core.specs.Expansion.{Synonyms, Expands}
use Rattle.hs_core.specs.Matching.{Matches, IsMismatch}
use Rattle.hs_core.specs.declared.why.Why.TheVariants as w
use Rattle.hs_core.specs.WellTyped.{HasDeclaredTypes}

-- an expression as a right side, without guards and without `where`
abbrev pub simply : Exp → Rhs
simply e = roll-Rhs (record { choices = record { guards = []; exp = e } ∷ []; local = [] })

abbrev pub base_name : Space → Text → OrigName
base_name space x = record { at = base_prelude; space = space; occ = x }

abbrev pub int_written : Written
int_written = WCon (base_name Types (codes "Int"))

abbrev pub char_written : Written
char_written = WCon (base_name Types (codes "Char"))

abbrev pub function_written : Written → Written → Written
function_written t u = WApp (WApp (WCon (special_name Types s.Arrow)) t) u

abbrev pub pair_written : Written → Written → Written
pair_written t u = WApp (WApp (WCon (special_name Types (s.Tuple 2))) t) u

-- a binding of one clause without arguments, and one of `f x = x`
abbrev pub is_simply : Text → Exp → Decl
is_simply f e = Clause f [] (simply e)

abbrev pub returns_argument : Text → Decl
returns_argument f = Clause f (PVar (codes "x") ∷ []) (simply (Local (codes "x")))

-- `i :: a -> a; i x = x` has its declared type
abbrev pub IdentityIsTyped : Type 0
IdentityIsTyped = HasDeclaredTypes (globals_of []) any
    (TypeSig (codes "i") (function_written (WVar (codes "a")) (WVar (codes "a"))) ∷ [])
    (returns_argument (codes "i") ∷ [])

-- `j :: a -> b; j x = x` has not: two rigid variables are different
abbrev pub ConversionIsNotTyped : Type 0
ConversionIsNotTyped = HasDeclaredTypes (globals_of []) any
    (TypeSig (codes "j") (function_written (WVar (codes "a")) (WVar (codes "b"))) ∷ [])
    (returns_argument (codes "j") ∷ []) → ⊥

-- `(i 1, i 'c')`
abbrev pub uses_at_two_types : Exp
uses_at_two_types = Tuple (Apply (Local (codes "i")) (Int 1 ∷ []) ∷ Apply (Local (codes "i")) (Chr 99 ∷ []) ∷ [])

-- `p :: (Int, Char); p = let i = \x -> x in (i 1, i 'c')` has its declared type: what `let` binds is generalised
abbrev pub LetIsGeneralised : Type 0
LetIsGeneralised = HasDeclaredTypes (globals_of []) any
    (TypeSig (codes "p") (pair_written int_written char_written) ∷ [])
    (is_simply (codes "p")
    (Let (is_simply (codes "i") (Lambda (PVar (codes "x") ∷ []) (Local (codes "x"))) ∷ []) uses_at_two_types) ∷ [])

-- `\i -> (i 1, i 'c')` has no type: what a lambda binds is not generalised
abbrev pub LambdaIsNotGeneralised : Type 0
LambdaIsNotGeneralised = HasDeclaredTypes (globals_of []) any
    (TypeSig (codes "q")
    (function_written (function_written int_written int_written) (pair_written int_written char_written)) ∷ [])
    (is_simply (codes "q") (Lambda (PVar (codes "i") ∷ []) uses_at_two_types) ∷ []) → ⊥

-- `data P f a = P (f a); data T m = T (m Int); v :: T Maybe`, in a module M
abbrev pub here_named : Space → Text → OrigName
here_named space x = record {
  at = Module (roll-Unit (record { component = codes "one"; fills = [] }))
      (codes "M");
  space = space;
  occ = x;
}

abbrev pub star_to_star : KindTerm
star_to_star = arrow star star

abbrev pub maybe : OrigName
maybe = base_name Types (codes "Maybe")

abbrev pub two_kinds : Globals
two_kinds = in_front (known_names
    ++ record { name = here_named Types (codes "P"); means = type_name (arrow star_to_star star_to_star) }
    ∷ record { name = here_named Types (codes "T"); means = type_name (arrow star_to_star star) }
    ∷ record { name = maybe; means = type_name star_to_star }
    ∷ record {
      name = here_named Values (codes "v");
      means = value_name
          (app (con (here_named Types (codes "T"))) (con maybe));
    }
    ∷ record {
      name = here_named Values (codes "P");
      means = constructor_name
          (record {
            fields = app (var 0) (var 1)
                ∷ [];
            result = app (app (con (here_named Types (codes "P"))) (var 0)) (var 1);
          });
    } ∷ []) no_names

-- `w = case P v of P x -> 1` has no type, since T has not the kind of f: a variable stands for types of its kind alone
abbrev pub KindsAreKept : Type 0
KindsAreKept = (kinds : Kinds) → (env : List Assumption) → (t : TypeTerm)
    → HasType two_kinds any
    (Case (Apply (Global (here_named Values (codes "P"))) (Global (here_named Values (codes "v")) ∷ []))
    (roll-Alt (record { pat = PCon (here_named Values (codes "P")) (PVar (codes "x") ∷ []); rhs = simply (Int 1) })
    ∷ [])) kinds env t → ⊥

-- `(:) x` has too few arguments to be a pattern
abbrev pub ArgumentsAreCounted : Type 0
ArgumentsAreCounted = (kinds : Kinds) → (t : TypeTerm) → (bs : List Bound)
    → Binds (globals_of []) any kinds (PCon (special_name Values s.Cons) (PVar (codes "x") ∷ [])) t bs → ⊥

-- `\x -> (x :: a)` has no type: the rigid variable would be one of the environment
abbrev pub RigidVariablesStay : Type 0
RigidVariablesStay = (kinds : Kinds) → (t : TypeTerm)
    → HasType (globals_of []) any (Lambda (PVar (codes "x") ∷ []) (Annot (Local (codes "x")) (WVar (codes "a")))) kinds
    [] t → ⊥

-- a declaration of one's own module, and the list of it alone
abbrev pub phantom : TypeDecl
phantom = record { name = here_named Types (codes "P"); params = 1; meaning = fields [] }

abbrev pub self_applied : TypeDecl
self_applied = record { name = here_named Types (codes "A"); params = 1; meaning = fields (app (var 0) (var 0) ∷ []) }

-- of `data P a = P` the least kind is `* -> *`, and `data A f = A (f f)` has none
abbrev pub KindsAreLeast : Type 0
KindsAreLeast = AreLeastKinds (kinds_of (globals_of [])) (phantom ∷ []) (star_to_star ∷ [])
    × ((ks : List KindTerm) → IsKinding (kinds_of (globals_of [])) (self_applied ∷ []) ks → ⊥)

-- `type String = [Char]`: `String` expands to `[Char]`, and to nothing else
abbrev pub string_name : OrigName
string_name = base_name Types (codes "String")

abbrev pub strings : Synonyms
strings n = if same_original string_name n then Some (record { params = 0; body = list_of character }) else None

abbrev pub StringExpands : Type 0
StringExpands = Expands strings (con string_name) (list_of character)

-- a value of a type, as an entry of a signature and as an export
abbrev pub value_of : Ty → Entity
value_of t = Value (here_named Values (codes "f")) (record { vars = 0; body = t }) default_fixity

abbrev pub exported_value : Ty → Export
exported_value t = record { occ = codes "f"; entity = value_of t; cons = [] }

abbrev pub base_ty : Text → Ty
base_ty x = Con (base_name Types x) Star

-- `f :: Int` is met by `f :: Int`; by `f :: Char` it is not, since the types differ; nor by `f :: a`, a more general
-- type; where
-- nothing is exported, it is missing
abbrev pub ValuesMatch : Type 0
ValuesMatch = Matches (value_of (base_ty (codes "Int")) ∷ []) (exported_value (base_ty (codes "Int")) ∷ [])
    × IsMismatch (value_of (base_ty (codes "Int")) ∷ []) (exported_value (base_ty (codes "Char")) ∷ [])
    (codes "f") w.OtherType
    × IsMismatch (value_of (base_ty (codes "Int")) ∷ []) (exported_value (Var 0) ∷ []) (codes "f") w.OtherType
    × IsMismatch (value_of (base_ty (codes "Int")) ∷ []) [] (codes "f") w.Missing

-- `g :: Int -> Int; g 0 = 1; g x | y <- x = y`
abbrev pub zero_clause : Decl
zero_clause = Clause (codes "g") (PInt false 0 ∷ []) (simply (Int 1))

abbrev pub guarded_clause : Decl
guarded_clause = Clause (codes "g") (PVar (codes "x") ∷ [])
    (roll-Rhs (record {
      choices = record {
        guards = Bind (PVar (codes "y")) (Local (codes "x")) ∷ [];
        exp = Local (codes "y");
      } ∷ [];
      local = [];
    }))

-- it has its declared type: all clauses of a name have one type, and a guard binds in what it guards
abbrev pub ClausesAreTyped : Type 0
ClausesAreTyped = HasDeclaredTypes (globals_of []) any
    (TypeSig (codes "g") (function_written int_written int_written) ∷ []) (zero_clause ∷ guarded_clause ∷ [])
