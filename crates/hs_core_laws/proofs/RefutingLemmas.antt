-- Small programs that have no derivation.
use Rattle.bp_base.specs.declared.ident.Ident.TheViews.{roll-Unit}
use Rattle.bp_base.specs.declared.ident.Ident.TheBlock.{hidden-the_row-Unit-0, hidden-the_row-Fill-1}
use Rattle.std.proofs.Common.{◌≡◌, refl, sym, ap, ◌∙◌, subst, inl, ℕ, Bool, true, false, true≢false, List, [], ◌∷◌}
use Rattle.std.proofs.Common.{◌++◌}
use Rattle.std.specs.Prelude.{codes, nat_eq, Option, unwrap_or}
use Rattle.bp_base.specs.Texts.{Text}
use Rattle.bp_base.specs.Lists.{Among}
use Rattle.bp_base.specs.declared.ty.Space.TheVariants.{Types, Values}
use Rattle.bp_base.specs.declared.ty.OrigName.{OrigName}
use Rattle.hs_core.specs.declared.tree.Written.TheVariants.{WVar}
use Rattle.hs_core.specs.declared.tree.Written.TheBlock.{hidden-the_row-Written-0}
use Rattle.hs_core.specs.declared.tree.Pat.TheVariants.{PVar}
use Rattle.hs_core.specs.declared.tree.Exp.TheVariants.{Local, Global, Int, Chr, Lambda, Apply}
use Rattle.hs_core.specs.declared.tree.Decl.TheBlock.{hidden-the_row-Exp-0, hidden-the_row-Exp-1}
use Rattle.type_terms.specs.Terms.{var, con, app, occurs_in, applied}
use Rattle.hs_core.specs.Types.{KindTerm, star, arrow, TypeTerm, function, functions, any, variables, written_term}
use Rattle.hs_core.specs.Kinds.{HasKind}
use Rattle.hs_core.specs.Schemes.{Assumption, Bound, monotype, monomorphic}
use Rattle.hs_core.specs.Globals.{NameMeaning, kind_in, plain_names, HasDeclared, synonyms_of}
use Rattle.hs_core.specs.LocalGroups.{AllAmong}
use Rattle.hs_core.specs.Typing.{Kinds, IsTypedDecl, HasType}
use Rattle.hs_core_laws.specs.Examples.{function_written, returns_argument, uses_at_two_types, ConversionIsNotTyped}
use Rattle.hs_core_laws.specs.Examples.{LambdaIsNotGeneralised, here_named, maybe, star_to_star, two_kinds}
use Rattle.hs_core_laws.specs.Examples.{KindsAreKept}
use Rattle.hs_core_laws.proofs.DerivingLemmas.{bare, no_synonym, local_single, local_applied, simply_only, first_typed}
use Rattle.hs_core_laws.proofs.DerivingLemmas.{expands_itself, argument_of, result_of, integer_character, one_given}
use denote.Hole.Carrier.{hidden, roll}

abbrev named : Text → TypeTerm → Bound
named x t = record { name = x; type = t }

-- a clause `f x = x` gives f a type from some type to itself
returns_itself : (f : Text) (kinds : Kinds) (env : List Assumption) (bs : List Bound)
    → IsTypedDecl bare any (returns_argument f) kinds env bs → (u : TypeTerm) × (bs ≡ named f (function u u) ∷ [])
returns_itself f kinds env bs h =
    let b = h.5 in
    let inner : h.2 ≡ named (codes "x") b.0 ∷ [] = b.7 ∙ ap (λ a. a ++ b.3) b.5.1
    ∙ ap (λ z. named (codes "x") b.0 ∷ z) b.6.1 in
    let body = simply_only bare any (Local (codes "x")) kinds (monomorphic h.2 ++ env) h.1 h.6 in
    let same : b.0
    ≡ h.1 = local_single bare any (codes "x") kinds env b.0 h.1
    (subst (λ z. HasType bare any (Local (codes "x")) kinds (monomorphic z ++ env) h.1) inner body) in
    let types : h.0 ≡ b.0 ∷ [] = b.4 ∙ ap (λ r. b.0 ∷ r) b.6.0 in
    (b.0, h.3 ∙ ap (λ us. named f (functions us h.1) ∷ []) types ∙ ap (λ v. named f (function b.0 v) ∷ []) (sym same))

conversion_term : written_term (variables (function_written (WVar (codes "a")) (WVar (codes "b"))))
    (function_written (WVar (codes "a")) (WVar (codes "b"))) ≡ function (var 0) (var 1)
unfolding hidden-the_row-Written-0 hidden
conversion_term = refl

abbrev index_of : TypeTerm → ℕ
index_of (var i) = i
index_of t = 0

zero_one : ◌≡◌ {A = ℕ} 0 1 → ⊥
zero_one p = true≢false (ap (λ n. nat_eq n 0) p)

pub conversion_is_not_typed : ConversionIsNotTyped
conversion_is_not_typed h =
    let m = h.2.signatures (record { name = codes "j"; scheme = h.1.0 })
    (subst (λ es. Among (record { name = codes "j"; scheme = h.1.0 }) es) (sym h.1.2) (inl refl)) (inl refl) in
    let first = m.typing.each.0 in
    let u = returns_itself (codes "j") m.typing.inside _ first.0
    (first_typed bare any (returns_argument (codes "j")) [] m.typing.inside _ first.0 first.1) in
    let among : Among (named (codes "j") (function u.0 u.0)) m.typing.given =
    (subst (λ bs. AllAmong bs m.typing.given) u.1 first.2).0 in
    let same : named (codes "j") (function u.0 u.0)
    ≡ named (codes "j") m.type = one_given m.typing.given (codes "j") m.typing.names _ _ among m.has in
    let body : h.1.0.body ≡ function (var 0) (var 1) = h.1.3.2.body
    ∙ sym (expands_itself (synonyms_of bare) no_synonym _ _ h.1.3.1) ∙ conversion_term in
    let types : function (var (m.rigid.new 0)) (var (m.rigid.new 1)) ≡ function u.0 u.0 =
    ap (λ t. applied (λ v. var (m.rigid.new v)) t) (sym body) ∙ m.rigid.gives ∙ sym (ap (λ b. b.type) same) in
    let one = ap index_of (ap argument_of types ∙ sym (ap result_of types)) in
    zero_one (m.rigid.distinct 0 1 (subst (λ t. occurs_in 0 t ≡ true) (sym body) refl)
    (subst (λ t. occurs_in 1 t ≡ true) (sym body) refl) one)

-- a name of one type is used at two
two_types : (kinds : Kinds) (env : List Assumption) (t w : TypeTerm)
    → HasType bare any uses_at_two_types kinds (record { name = codes "i"; scheme = monotype t } ∷ env) w → ⊥
unfolding hidden-the_row-Exp-1 hidden
two_types kinds env t w h =
    let a = local_applied bare any (codes "i") (Int 1) kinds env t h.3.0 h.3.3 in
    let b = local_applied bare any (codes "i") (Chr 99) kinds env t h.3.4.0 h.3.4.3 in
    integer_character (sym a.2.1 ∙ ap argument_of (sym a.1 ∙ b.1) ∙ b.2.1)

lambda_fails : (kinds : Kinds) (env : List Assumption) (v : TypeTerm)
    → HasType bare any (Lambda (PVar (codes "i") ∷ []) uses_at_two_types) kinds env v → ⊥
unfolding hidden-the_row-Exp-0 hidden
lambda_fails kinds env v h =
    let b = h.5 in
    let inner : h.3 ≡ named (codes "i") b.0 ∷ [] = b.7 ∙ ap (λ a. a ++ b.3) b.5.1
    ∙ ap (λ z. named (codes "i") b.0 ∷ z) b.6.1 in
    two_types kinds env b.0 h.2
    (subst (λ z. HasType bare any uses_at_two_types kinds (monomorphic z ++ env) h.2) inner h.6)

pub lambda_is_not_generalised : LambdaIsNotGeneralised
lambda_is_not_generalised h =
    let first = h.2.typing.each.0 in
    let clause = first_typed bare any _ [] h.2.typing.inside _ first.0 first.1 in
    lambda_fails h.2.typing.inside (monomorphic clause.2 ++ _) clause.1
    (simply_only bare any _ h.2.typing.inside _ clause.1 clause.6)

-- kinds: which names are which
abbrev name_t : OrigName
name_t = here_named Types (codes "T")

abbrev name_p : OrigName
name_p = here_named Types (codes "P")

abbrev kind_or_star : Option NameMeaning → KindTerm
kind_or_star o = unwrap_or (kind_in o) star

kind_of_t : (k : KindTerm) → plain_names two_kinds name_t k → arrow star_to_star star ≡ k
unfolding roll-Unit roll hidden-the_row-Unit-0 hidden-the_row-Fill-1 hidden
kind_of_t k h = ap kind_or_star h

kind_of_p : (k : KindTerm) → plain_names two_kinds name_p k → arrow star_to_star star_to_star ≡ k
unfolding roll-Unit roll hidden-the_row-Unit-0 hidden-the_row-Fill-1 hidden
kind_of_p k h = ap kind_or_star h

abbrev type_of_v : TypeTerm
type_of_v = app (con name_t) (con maybe)

abbrev result_of_p : TypeTerm
result_of_p = app (app (con name_p) (var 0)) (var 1)

declared_v : (d : TypeTerm) → HasDeclared two_kinds (here_named Values (codes "v")) d → d ≡ type_of_v
unfolding roll-Unit roll hidden-the_row-Unit-0 hidden-the_row-Fill-1 hidden
declared_v d h = sym (ap (λ o. unwrap_or o type_of_v) h)

declared_p : (d : TypeTerm) → HasDeclared two_kinds (here_named Values (codes "P")) d
    → d ≡ function (app (var 0) (var 1)) result_of_p
unfolding roll-Unit roll hidden-the_row-Unit-0 hidden-the_row-Fill-1 hidden
declared_p d h = sym (ap (λ o. unwrap_or o type_of_v) h)

-- the kind of the first parameter of P in the constructor's type
abbrev from_of : KindTerm → KindTerm
from_of star = star
from_of (arrow a b) = a

kind_of_f : (kinds : Kinds) → HasKind (plain_names two_kinds) kinds (function (app (var 0) (var 1)) result_of_p) star
    → kinds 0 ≡ star_to_star
kind_of_f kinds h = h.2.1.2 ∙ sym (ap from_of (kind_of_p _ h.2.1.1))

abbrev is_star_to_star : KindTerm → Bool
is_star_to_star (arrow star b) = true
is_star_to_star k = false

abbrev function_of : TypeTerm → TypeTerm
function_of (app f a) = f
function_of t = t

-- `P v` has no type
constructor_fails : (kinds : Kinds) (env : List Assumption) (t : TypeTerm)
    → HasType two_kinds any
    (Apply (Global (here_named Values (codes "P"))) (Global (here_named Values (codes "v")) ∷ [])) kinds env t → ⊥
unfolding hidden-the_row-Exp-0 hidden-the_row-Exp-1 hidden
constructor_fails kinds env t h =
    let f = h.2 in
    let v = h.3.3 in
    let args : h.1 ≡ h.3.0 ∷ [] = h.3.2 ∙ ap (λ r. h.3.0 ∷ r) h.3.4 in
    let body_v : v.2.body ≡ type_of_v = v.4.body ∙ declared_v v.1 v.3 in
    let is_v : type_of_v ≡ h.3.0 = ap (λ b. applied v.5.choice b) (sym body_v) ∙ v.5.gives in
    let body_p : f.2.body ≡ function (app (var 0) (var 1)) result_of_p = f.4.body ∙ declared_p f.1 f.3 in
    let is_p : function (app (f.5.choice 0) (f.5.choice 1)) (applied f.5.choice result_of_p) ≡ function h.3.0 t =
    ap (λ b. applied f.5.choice b) (sym body_p) ∙ f.5.gives ∙ ap (λ us. functions us t) args in
    let is_t : f.5.choice 0 ≡ con name_t = ap function_of (ap argument_of is_p ∙ sym is_v) in
    let kind : HasKind (plain_names two_kinds) kinds (f.5.choice 0) (f.2.kinds 0) = f.5.kinded 0
    (subst (λ b. occurs_in 0 b ≡ true) (sym body_p) refl) (f.4.generic 0) in
    let of_t : arrow star_to_star star
    ≡ f.2.kinds 0 = kind_of_t _ (subst (λ u. HasKind (plain_names two_kinds) kinds u (f.2.kinds 0)) is_t kind) in
    let of_f : f.2.kinds 0
    ≡ star_to_star = kind_of_f f.2.kinds
    (subst (λ b. HasKind (plain_names two_kinds) f.2.kinds b star) (declared_p f.1 f.3) f.4.kinds.fit) in
    true≢false (sym (ap is_star_to_star (of_t ∙ of_f)))

pub kinds_are_kept : KindsAreKept
unfolding hidden-the_row-Exp-0 hidden
kinds_are_kept kinds env t h = constructor_fails kinds env h.1 h.2
