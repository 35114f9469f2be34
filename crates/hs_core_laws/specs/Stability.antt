-- The law of typing under replacement of names of types: a typing stays one where names of types stand for closed types
-- of their
-- kinds. So what is well typed over a hole's abstract types stays so over what fills the hole.
use Rattle.std.specs.Prelude.{◌≡◌, ℕ, false, List, map}
use Rattle.bp_base.specs.Specials.{special_name}
use Rattle.bp_base.specs.declared.special.Special.TheVariants as s
use Rattle.bp_base.specs.declared.ty.Space.TheVariants.{Types}
use Rattle.bp_base.specs.declared.ty.OrigName.{OrigName}
use Rattle.type_terms.specs.Terms.{var, con, app, occurs_in, applied}
use Rattle.hs_core.specs.declared.tree.Exp.{Exp}
use Rattle.hs_core.specs.declared.tree.Decl.{Decl}
use Rattle.hs_core.specs.Types.{KindTerm, TypeTerm, TypeAssignment, any, integer, character, boolean, special_type}
use Rattle.hs_core.specs.Kinds.{HasKind}
use Rattle.hs_core.specs.Expansion.{Expands}
use Rattle.hs_core.specs.Schemes.{TypeScheme, Assumption, Bound}
use Rattle.hs_core.specs.Globals.{Constructor, Globals, plain_names, synonyms_of, HasDeclared, HasConstructor}
use Rattle.hs_core.specs.Typing.{Kinds, HasType, IsTypedDecl}
use Rattle.hs_core.specs.WellTyped.{HasDeclaredTypes}

-- a type for each name of a type
abbrev pub Replacement : Type 0
Replacement = OrigName → TypeTerm

abbrev pub replaced_names : Replacement → TypeTerm → TypeTerm
replaced_names r (var i) = var i
replaced_names r (con n) = r n
replaced_names r (app f a) = app (replaced_names r f) (replaced_names r a)

abbrev pub replaced_scheme : Replacement → TypeScheme → TypeScheme
replaced_scheme r c = record { generic = c.generic; kinds = c.kinds; body = replaced_names r c.body }

abbrev pub replaced_assumption : Replacement → Assumption → Assumption
replaced_assumption r e = record { name = e.name; scheme = replaced_scheme r e.scheme }

abbrev pub replaced_environment : Replacement → List Assumption → List Assumption
replaced_environment r es = map (replaced_assumption r) es

abbrev pub replaced_bound : Replacement → Bound → Bound
replaced_bound r b = record { name = b.name; type = replaced_names r b.type }

abbrev pub replaced_constructor : Replacement → Constructor → Constructor
replaced_constructor r c = record { fields = map (replaced_names r) c.fields; result = replaced_names r c.result }

-- Names of types stand for closed types of their kinds; types with a syntax of their own and those of literals stay;
-- values and
-- constructors have the types that this makes of theirs, and written types expand to what it makes of their expansions.
pub record Follows (r : Replacement) (G H : Globals) : Type 0 where
  pub apart : (n : OrigName) (w : ℕ) → occurs_in w (r n) ≡ false
  pub closed : (n : OrigName) (s : TypeAssignment) → applied s (r n) ≡ r n
  pub arrow_stays : r (special_name Types s.Arrow) ≡ special_type s.Arrow
  pub list_stays : r (special_name Types s.List) ≡ special_type s.List
  pub tuple_stays : (k : ℕ) → r (special_name Types (s.Tuple k)) ≡ special_type (s.Tuple k)
  pub integer_stays : replaced_names r integer ≡ integer
  pub character_stays : replaced_names r character ≡ character
  pub boolean_stays : replaced_names r boolean ≡ boolean
  pub kinds : (n : OrigName) (k : KindTerm) → plain_names G n k → (kinds : Kinds)
      → HasKind (plain_names H) kinds (r n) k
  pub back : (n : OrigName) (k j : KindTerm) (kinds : Kinds) → plain_names G n k
      → HasKind (plain_names H) kinds (r n) j → k ≡ j
  pub values : (n : OrigName) (d : TypeTerm) → HasDeclared G n d → HasDeclared H n (replaced_names r d)
  pub constructors : (n : OrigName) (c : Constructor) → HasConstructor G n c
      → HasConstructor H n (replaced_constructor r c)
  pub written : (w t : TypeTerm) → Expands (synonyms_of G) w t → Expands (synonyms_of H) w (replaced_names r t)

-- typings of expressions
abbrev pub ExpressionsStayTyped : Type 0
ExpressionsStayTyped = (r : Replacement) (G H : Globals) → Follows r G H
    → (e : Exp) (kinds : Kinds) (env : List Assumption) (t : TypeTerm)
    → HasType G any e kinds env t → HasType H any e kinds (replaced_environment r env) (replaced_names r t)

-- of declarations
abbrev pub DeclarationsStayTyped : Type 0
DeclarationsStayTyped = (r : Replacement) (G H : Globals) → Follows r G H
    → (d : Decl) (kinds : Kinds) (env : List Assumption) (bs : List Bound)
    → IsTypedDecl G any d kinds env bs
    → IsTypedDecl H any d kinds (replaced_environment r env) (map (replaced_bound r) bs)

-- of a module's bindings, with their type signatures as they are written
abbrev pub BindingsStayTyped : Type 0
BindingsStayTyped = (r : Replacement) (G H : Globals) → Follows r G H → (signatures clauses : List Decl)
    → HasDeclaredTypes G any signatures clauses → HasDeclaredTypes H any signatures clauses
