-- Names that are not exported, `negate`, and which of two names counts.
use Rattle.bp_base.specs.declared.ident.Ident.TheViews.{roll-Unit}
use Rattle.bp_base.specs.declared.ident.Ident.TheBlock.{hidden-the_row-Unit-0, hidden-the_row-Fill-1}
use Rattle.std.proofs.Common.{◌≡◌, refl, ap, subst, inl, inr, ℕ, suc, true≢false, List, [], ◌∷◌, arith, ◌≤◌}
use Rattle.std.specs.Prelude.{codes, false, unwrap_or}
use Rattle.bp_base.specs.declared.ty.Space.TheVariants.{Types}
use Rattle.bp_base.specs.declared.ty.Kind.TheVariants.{Star}
use Rattle.bp_base.specs.declared.ty.Ty.TheVariants.{Var}
use Rattle.bp_base.specs.declared.entity.Entity.TheVariants.{DataType}
use Rattle.bp_base.specs.declared.ty.Ty.TheBlock.{hidden-the_row-Ty-0}
use Rattle.bp_base.specs.declared.ty.Kind.TheBlock.{hidden-the_row-Kind-0}
use Rattle.type_terms.specs.Terms.{var, con}
use Rattle.hs_core.specs.declared.tree.Exp.TheVariants.{Global, Int, Apply}
use Rattle.hs_core.specs.declared.tree.Decl.TheBlock.{hidden-the_row-Exp-0, hidden-the_row-Exp-1}
use Rattle.hs_core.specs.declared.why.Why.TheVariants as w
use Rattle.hs_core.specs.Types.{KindTerm, star, any, function, integer, list_of, count}
use Rattle.hs_core.specs.Kinds.{Below, AllBelow}
use Rattle.hs_core.specs.Expansion.Expands.{name}
use Rattle.hs_core.specs.Globals.{Globals, globals_of, negate, HasDeclared}
use Rattle.hs_core.specs.Typing.{HasType}
use Rattle.hs_core.proofs.ExpansionLemmas.{expanded_full}
use Rattle.hs_core_laws.specs.Examples.{base_name, exported_value, star_to_star}
use Rattle.hs_core_laws.specs.Programs.{in_a, hidden_type, shown_by_a, partial, HiddenTypesHaveKinds, NegateIsKnown}
use Rattle.hs_core_laws.specs.Programs.{FirstExportCounts, NumberingIsFree, MaybeHasKind, PartialSynonymsDoNotExpand}
use Rattle.hs_core_laws.proofs.DerivingLemmas.{simply_has}
use Rattle.hs_core_laws.proofs.DerivationLemmas.{stars}
use Rattle.hs_core_laws.proofs.SmallerLemmas.{int_value, char_value, before_types, passes_before, head_has_occ}
use Rattle.hs_core_laws.proofs.BindingLemmas.{one_binding, closed_global}
use denote.Hole.Carrier.{hidden, roll}

abbrev a_shows : Globals
a_shows = globals_of shown_by_a

declared_u : HasDeclared a_shows (in_a (codes "u")) (function (con hidden_type) integer)
unfolding hidden-the_row-Ty-0 hidden roll-Unit roll hidden-the_row-Unit-0 hidden-the_row-Fill-1
declared_u = refl

call_typed : HasType a_shows any (Apply (Global (in_a (codes "u"))) (Global (in_a (codes "t")) ∷ [])) stars [] integer
unfolding hidden-the_row-Exp-0 hidden-the_row-Exp-1 hidden roll-Unit roll hidden-the_row-Unit-0 hidden-the_row-Fill-1
call_typed = (
  (refl, refl),
  con hidden_type ∷ [],
  closed_global a_shows any (in_a (codes "u")) (function (con hidden_type) integer) stars [] declared_u (λ w. refl)
      (star, (star, refl, refl), refl) (star, (star, refl, refl), refl) refl,
  (
    con hidden_type,
    [],
    refl,
    closed_global a_shows any (in_a (codes "t")) (con hidden_type) stars [] refl
        (λ w. refl) refl refl refl,
    refl,
  ),
)

pub hidden_types_have_kinds : HiddenTypesHaveKinds
unfolding roll-Unit roll hidden-the_row-Unit-0 hidden-the_row-Fill-1 hidden
hidden_types_have_kinds = one_binding a_shows any (codes "b") _ [] _ integer refl (name _ refl) (
  [],
  integer,
  [],
  refl,
  (refl, refl),
  (refl, refl),
  simply_has a_shows any
      (Apply (Global (in_a (codes "u"))) (Global (in_a (codes "t")) ∷ [])) stars _ integer (refl, refl) call_typed,
)

abbrev int_only : Globals
int_only = globals_of (DataType (base_name Types (codes "Int")) Star 0 false [] ∷ [])

minus_typed : HasType int_only any (Apply (Global negate) (Int 1 ∷ [])) stars [] integer
unfolding hidden-the_row-Exp-0 hidden-the_row-Exp-1 hidden roll-Unit roll hidden-the_row-Unit-0 hidden-the_row-Fill-1
minus_typed = (
  (refl, refl),
  integer ∷ [],
  closed_global int_only any negate (function integer integer) stars [] refl (λ w. refl)
      (star, (star, refl, refl), refl) (star, (star, refl, refl), refl) refl,
  (integer, [], refl, ((refl, refl), refl), refl),
)

pub negate_is_known : NegateIsKnown
unfolding roll-Unit roll hidden-the_row-Unit-0 hidden-the_row-Fill-1 hidden
negate_is_known = one_binding int_only any (codes "x") _ [] _ integer refl (name _ refl) (
  [],
  integer,
  [],
  refl,
  (refl, refl),
  (refl, refl),
  simply_has int_only any
      (Apply (Global negate) (Int 1 ∷ [])) stars _ integer (refl, refl) minus_typed,
)

pub first_export_counts : FirstExportCounts
first_export_counts = (
  ((exported_value int_value, refl, (tt, (refl, (tt, (tt, (refl, (refl, tt))))))), tt),
  inl (
    refl,
    inr (
      exported_value char_value,
      refl,
      before_types,
      w.Fixity
          ∷ [],
      refl,
      passes_before char_value,
      λ h. true≢false (ap (head_has_occ (codes "Char")) h),
    ),
  ),
)

pub numbering_is_free : NumberingIsFree
numbering_is_free = ((exported_value (Var 0), refl, (tt, (refl, (tt, (tt, (refl, (refl, tt))))))), tt)

no_kinds : (ks : List KindTerm) → count ks ≡ 0 → AllBelow [] ks
no_kinds [] e = refl
no_kinds (k ∷ ks) e = absurd (never (count ks) e)
  where
    never : (n : ℕ) → suc n ≡ 0 → ⊥
    never n p = Prim.omega arith

pub maybe_has_kind : MaybeHasKind
unfolding hidden-the_row-Kind-0 hidden roll-Unit roll hidden-the_row-Unit-0 hidden-the_row-Fill-1
maybe_has_kind = record {
  kinds = [];
  many = refl;
  fit = refl;
  least = λ others j c h.
      (no_kinds others c, subst (λ k. Below star_to_star k) (ap (λ o. unwrap_or o star) h) (tt, tt));
}

one_zero : 1 ≤ 0 → ⊥
one_zero h = Prim.omega arith

pub partial_synonyms_do_not_expand : PartialSynonymsDoNotExpand
unfolding roll-Unit roll hidden-the_row-Unit-0 hidden-the_row-Fill-1 hidden
partial_synonyms_do_not_expand t e = one_zero
    ((expanded_full partial _ t e).0.1 (record { params = 1; body = list_of (var 0) }) refl)
