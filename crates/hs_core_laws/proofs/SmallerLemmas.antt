-- Small facts of patterns, annotations, kinds, expansion and matching.
use Rattle.bp_base.specs.declared.ident.Ident.TheViews.{roll-Unit}
use Rattle.bp_base.specs.declared.ident.Ident.TheBlock.{hidden-the_row-Unit-0, hidden-the_row-Fill-1}
use Rattle.std.proofs.Common.{◌≡◌, refl, sym, ap, ◌∙◌, subst, inl, inr, ℕ, suc, Bool, true, false, true≢false, not}
use Rattle.std.proofs.Common.{◌&&◌, ◌||◌, List, [], ◌∷◌, ◌++◌, eq-eqb, arith}
use Rattle.std.specs.Prelude.{codes, nat_eq, Option, Some, None}
use Rattle.std.specs.Str.{bytes_eq}
use Rattle.bp_base.specs.Specials.{special_name}
use Rattle.bp_base.specs.declared.special.Special.TheVariants as s
use Rattle.bp_base.specs.declared.ty.Space.TheVariants.{Values}
use Rattle.bp_base.specs.declared.ty.OrigName.{OrigName}
use Rattle.hs_core.specs.declared.tree.Written.TheVariants.{WVar}
use Rattle.hs_core.specs.declared.tree.Pat.TheBlock.{hidden-the_row-Pat-1}
use Rattle.hs_core.specs.declared.tree.Exp.TheVariants.{Local, Annot}
use Rattle.hs_core.specs.declared.tree.Decl.TheBlock.{hidden-the_row-Exp-0}
use Rattle.bp_base.specs.declared.ty.Ty.{Ty}
use Rattle.bp_base.specs.declared.ty.Ty.TheVariants.{Var}
use Rattle.hs_core.specs.declared.why.Why.{Why}
use Rattle.hs_core.specs.declared.why.Why.TheVariants as w
use Rattle.type_terms.specs.Terms.{var, con, applied, occurs_in}
use Rattle.hs_core.specs.Types.{KindTerm, star, arrow, arrows, TypeTerm, character, list_of, count, any}
use Rattle.hs_core.specs.Kinds.{Below}
use Rattle.hs_core.specs.Expansion.Expands.{name, application, body_for}
use Rattle.hs_core.specs.Expansion.ExpandEach.{none}
use Rattle.hs_core.specs.Schemes.{monotype, monomorphic, free_in}
use Rattle.hs_core.specs.Globals.{NameMeaning, type_name, synonym_name, value_name, constructor_name, Constructor}
use Rattle.hs_core.specs.Globals.{HasConstructor, synonyms_of}
use Rattle.hs_core.specs.Typing.{HasType}
use Rattle.hs_core.specs.Matching.{PassAll}
use Rattle.hs_core_laws.specs.Examples.{base_ty, value_of, exported_value, string_name, star_to_star, StringExpands}
use Rattle.hs_core_laws.specs.Examples.{ValuesMatch, ArgumentsAreCounted, RigidVariablesStay, KindsAreLeast}
use Rattle.hs_core_laws.proofs.DerivingLemmas.{bare, no_synonym, local_single, expands_itself}
use denote.Hole.Carrier.{hidden, roll}

abbrev pub has_occ : List ℕ → OrigName → Bool
has_occ x n = bytes_eq n.occ x

abbrev pub con_has_occ : List ℕ → TypeTerm → Bool
con_has_occ x (con n) = has_occ x n
con_has_occ x t = false

pub string_expands : StringExpands
unfolding roll-Unit roll hidden-the_row-Unit-0 hidden-the_row-Fill-1 hidden
string_expands = body_for string_name (record { params = 0; body = list_of character }) [] [] _ _ refl refl refl none
    (application _ _ _ _ (name _ refl) (name _ refl))

abbrev pub head_has_occ : List ℕ → List TypeTerm → Bool
head_has_occ x [] = false
head_has_occ x (t ∷ ts) = con_has_occ x t

abbrev pub int_value : Ty
int_value = base_ty (codes "Int")

abbrev pub char_value : Ty
char_value = base_ty (codes "Char")

abbrev pub before_types : List Why
before_types = w.Form ∷ w.Kind ∷ w.Constructors ∷ w.FieldType ∷ []

pub passes_before : (t : Ty) → PassAll before_types (value_of int_value) (exported_value t)
passes_before t = (tt, (refl, (tt, (tt, tt))))

pub values_match : ValuesMatch
values_match = (
  ((exported_value int_value, refl, (tt, (refl, (tt, (tt, (refl, (refl, tt))))))), tt),
  inl (
    refl,
    inr (
      exported_value char_value,
      refl,
      before_types,
      w.Fixity
          ∷ [],
      refl,
      passes_before char_value,
      λ h. true≢false (ap (head_has_occ (codes "Char")) h),
    ),
  ),
  inl (
    refl,
    inr (
      exported_value (Var 0),
      refl,
      before_types,
      w.Fixity
          ∷ [],
      refl,
      passes_before (Var 0),
      λ h. true≢false (sym (ap (head_has_occ (codes "Int")) h)),
    ),
  ),
  inl (refl, inl (refl, refl)),
)

-- patterns
abbrev fields_in : Option NameMeaning → List TypeTerm
fields_in None = []
fields_in (Some (type_name k)) = []
fields_in (Some (synonym_name k s)) = []
fields_in (Some (value_name t)) = []
fields_in (Some (constructor_name c)) = c.fields

cons_fields : (c : Constructor) → HasConstructor bare (special_name Values s.Cons) c
    → var 0 ∷ list_of (var 0) ∷ [] ≡ c.fields
unfolding roll-Unit roll hidden-the_row-Unit-0 hidden-the_row-Fill-1 hidden
cons_fields c h = ap fields_in h

pub arguments_are_counted : ArgumentsAreCounted
unfolding hidden-the_row-Pat-1 hidden
arguments_are_counted kinds t bs h =
    let one : h.3 ≡ h.5.0 ∷ [] = h.5.4 ∙ ap (λ r. h.5.0 ∷ r) h.5.6.0 in
    true≢false (ap (λ n. nat_eq 1 n) (sym (ap count one) ∙ h.4.many ∙ sym (ap count (cons_fields h.1 h.2))))

-- annotations
once_free : (n : ℕ) → free_in (record { name = codes "x"; scheme = monotype (var n) } ∷ []) n ≡ true
once_free n = ap (λ b. (b && not false) || false) (eq-eqb n n refl)

pub rigid_variables_stay : RigidVariablesStay
unfolding hidden-the_row-Exp-0 hidden
rigid_variables_stay kinds t h =
    let b = h.5 in
    let inner : h.3 ≡ record { name = codes "x"; type = b.0 } ∷ [] = b.7 ∙ ap (λ a. a ++ b.3) b.5.1
    ∙ ap (λ z. record { name = codes "x"; type = b.0 } ∷ z) b.6.1 in
    let body = subst
    (λ z. HasType bare any (Annot (Local (codes "x")) (WVar (codes "a"))) kinds
    (monomorphic z ++ []) h.2) inner h.6 in
    let scheme : body.1.body ≡ var 0 = body.2.2.body
    ∙ sym (expands_itself (synonyms_of bare) no_synonym _ _ body.2.1) in
    let has : b.0 ≡ body.3.type = local_single bare any (codes "x") body.3.inside [] b.0 body.3.type body.3.has in
    let is_new : var (body.3.rigid.new 0) ≡ b.0 = ap (λ u. applied (λ v. var (body.3.rigid.new v)) u) (sym scheme)
    ∙ body.3.rigid.gives ∙ sym has in
    let apart = body.3.rigid.apart 0 (subst (λ u. occurs_in 0 u ≡ true) (sym scheme) refl) in
    true≢false (sym (once_free (body.3.rigid.new 0))
    ∙ ap (λ u. free_in (record { name = codes "x"; scheme = monotype u } ∷ []) (body.3.rigid.new 0)) is_new ∙ apart)

-- kinds
at_least : (params : List KindTerm) → count params ≡ 1 → Below star_to_star (arrows params star)
at_least [] e = absurd (true≢false (ap (λ n. nat_eq n 0) e))
at_least (j ∷ js) e = (tt, tt)

never_next : (n : ℕ) → n ≡ suc n → ⊥
never_next n p = Prim.omega arith

abbrev left_depth : KindTerm → ℕ
left_depth star = 0
left_depth (arrow a b) = suc (left_depth a)

pub kinds_are_least : KindsAreLeast
kinds_are_least = (
  record {
    valid = (star_to_star, [], refl, (star ∷ [], refl, (refl, tt)), refl);
    least = λ others h. (h.0, h.1, h.2, subst (λ k. Below star_to_star k) (sym h.3.2.0) (at_least h.3.0 h.3.1), h.4);
  },
  λ ks h. let f = h.3.2.1.0 in never_next (left_depth f.0) (ap left_depth (sym f.2 ∙ f.1)),
)
