-- An annotation, a depth, and a whole module.
use Rattle.bp_base.specs.declared.ident.Ident.TheViews.{roll-Unit}
use Rattle.bp_base.specs.declared.ident.Ident.TheBlock.{hidden-the_row-Unit-0, hidden-the_row-Fill-1}
use Rattle.std.proofs.Common.{◌≡◌, refl, ap, ◌∙◌, subst, inl, inr, ℕ, suc, ◌≤◌, arith, true, true≢false, List, [], ◌∷◌}
use Rattle.std.specs.Prelude.{codes, Some, max}
use Rattle.bp_base.specs.Lists.{Among}
use Rattle.bp_base.specs.declared.ty.OrigName.{OrigName}
use Rattle.bp_base.specs.declared.ty.Kind.TheBlock.{hidden-the_row-Kind-0}
use Rattle.std.proofs.lemmas.Option.{none-some}
use Rattle.std.proofs.lemmas.Bool.{leb-true}
use Rattle.bp_base.specs.declared.ident.Ident.{Ident}
use Rattle.bp_base.specs.declared.ty.Space.TheVariants.{Types, Values}
use Rattle.type_terms.specs.Terms.{var}
use Rattle.hs_core.specs.declared.tree.Written.TheVariants.{WVar}
use Rattle.hs_core.specs.declared.tree.Pat.TheVariants.{PVar}
use Rattle.hs_core.specs.declared.tree.Exp.TheVariants.{Local, Int}
use Rattle.hs_core.specs.declared.tree.Decl.TheViews.{roll-Rhs}
use Rattle.hs_core.specs.declared.tree.Decl.TheBlock.{hidden-the_row-Exp-0, hidden-the_row-Decl-2}
use Rattle.hs_core.specs.declared.tree.Decl.TheBlock.{hidden-the_row-Choice-5}
use Rattle.hs_core.specs.Types.{star, arrow, TypeTerm, any, within, depth, function, functions, integer}
use Rattle.hs_core.specs.Expansion.{Synonym}
use Rattle.hs_core.specs.Expansion.Expands.{name}
use Rattle.hs_core.specs.Schemes.{monotype}
use Rattle.hs_core.specs.Globals.{Globals, Named, value_name, globals_of, synonyms_of}
use Rattle.hs_core.specs.Rules.{DeclKeepsRules}
use Rattle.hs_core.specs.Typing.{IsTypedDecl}
use Rattle.hs_core.specs.WellTyped.{globals_in, IsWellKinded}
use Rattle.hs_core.specs.Stubs.{globals_with}
use Rattle.hs_core.proofs.ExpansionLemmas.{starts}
use Rattle.hs_core_laws.specs.Examples.{int_written, function_written, is_simply, returns_argument, here_named}
use Rattle.hs_core_laws.specs.Programs.{of_higher_kind, AnnotationIsTyped, DepthIsMeasured, ModuleIsWellTyped}
use Rattle.hs_core_laws.specs.Programs.{ClausesAreOneBinding, StubIsWellTyped}
use Rattle.hs_core_laws.proofs.DerivingLemmas.{bare, no_groups, simply_has, first_typed, integer_kind, function_kind}
use Rattle.hs_core_laws.proofs.DerivingLemmas.{single_instance}
use Rattle.hs_core_laws.proofs.DerivationLemmas.{stars, of_stars, lambda_has, written_identity}
use Rattle.hs_core_laws.proofs.BindingLemmas.{one_binding, declared_with_stars}
use denote.Hole.Carrier.{hidden, roll}

pub annotation_is_typed : AnnotationIsTyped
unfolding hidden-the_row-Exp-0 hidden
annotation_is_typed = (
  (refl, function_kind stars integer integer (integer_kind stars) (integer_kind stars)),
  of_stars (function (var 0) (var 0)),
  (
    function (var 0) (var 0),
    written_identity,
    declared_with_stars bare _
        (function_kind stars (var 0) (var 0) refl refl),
  ),
  record {
    inside = stars;
    agree = λ w h. refl;
    type = function (var 0) (var 0);
    rigid = record { new = λ v. v; distinct = λ v w o p q. q; apart = λ v o. refl; kinded = λ v o. refl; gives = refl };
    has = lambda_has [];
  },
  record {
    choice = λ w. integer;
    fixed = λ w g. absurd
        (true≢false g);
    kinded = λ w o g. integer_kind stars;
    gives = refl;
  },
)

too_deep : (a b : ℕ) → suc (max (suc (max 1 a)) b) ≤ 2 → ⊥
too_deep a b h = Prim.omega arith

within_two : (t u : TypeTerm) → within 2 (function t u) ≡ true → ⊥
within_two t u h = too_deep (depth t) (depth u) (leb-true _ _ h)

pub depth_is_measured : DepthIsMeasured
depth_is_measured = (
  one_binding bare (within 1000) (codes "i") (function_written (WVar (codes "a")) (WVar (codes "a")))
      (PVar (codes "x") ∷ []) _ (function (var 0) (var 0))
      (function_kind stars (var 0) (var 0) refl refl) written_identity (
        var 0 ∷ [],
        var 0,
        record { name = codes "x"; type = var 0 }
            ∷ [],
        refl,
        (refl, function_kind stars (var 0) (var 0) refl refl),
        (var 0, [], record { name = codes "x"; type = var 0 } ∷ [], [], refl, ((refl, refl), refl), (refl, refl), refl),
        simply_has bare (within 1000) (Local (codes "x")) stars _ (var 0) (refl, refl)
            ((refl, refl), monotype (var 0), inl (refl, refl), single_instance bare stars (var 0)),
      ),
  λ h.
      let first = h.2.typing.each.0 in
      let clause = first_typed bare (within 2) (returns_argument (codes "i")) [] h.2.typing.inside _ first.0 first.1 in
      let b = clause.5 in
      within_two b.0 clause.1
      (subst (λ us. within 2 (functions us clause.1) ≡ true) (b.4 ∙ ap (λ r. b.0 ∷ r) b.6.0) clause.4.0),
)

abbrev at_m : Ident
at_m = (here_named Types []).at

abbrev its_names : List Named
its_names = record { name = here_named Values (codes "x"); means = value_name integer } ∷ []

abbrev names_there : Globals
names_there = globals_in (globals_of []) its_names

keeps : DeclKeepsRules (IsWellKinded names_there) (is_simply (codes "x") (Int 1))
unfolding roll-Rhs roll hidden-the_row-Decl-2 hidden hidden-the_row-Choice-5 roll-Unit hidden-the_row-Unit-0
    hidden-the_row-Fill-1
keeps = (tt, (record { bound_once = tt; signed_once = tt; signed_bound = tt }, tt, ((tt, tt, tt))))

one_typed : IsTypedDecl names_there any (is_simply (codes "x") (Int 1)) stars []
    (record { name = codes "x"; type = integer } ∷ [])
unfolding roll-Unit roll hidden-the_row-Unit-0 hidden-the_row-Fill-1 hidden
one_typed = (
  [],
  integer,
  [],
  refl,
  (refl, refl),
  (refl, refl),
  simply_has names_there any (Int 1) stars _ integer (refl, refl)
      ((refl, refl), refl),
)

pub module_is_well_typed : ModuleIsWellTyped
unfolding roll-Unit roll hidden-the_row-Unit-0 hidden-the_row-Fill-1 hidden
module_is_well_typed = record {
  types_once = tt;
  values_once = ((λ h. h), tt);
  bindings = record { bound_once = ((λ h. h), tt); signed_once = ((λ h. h), tt); signed_bound = (inl refl, tt) };
  signed = (inl refl, tt);
  fixities_once = tt;
  fixities_bound = tt;
  heads = (tt, (tt, tt));
  well_kinded = record {
    kinds = [];
    are_kinds = record { each = refl; groups = []; order = no_groups; least = tt };
    names = its_names;
    are_names = (
      [],
      [],
      its_names,
      [],
      refl,
      refl,
      (integer, refl, name _ refl, refl),
      ([], [], [], [], refl, refl, (refl, refl), (refl, refl)),
    );
    lawful = record { acyclic = λ n h l. absurd h; applied_fully = λ n s h q. absurd h };
    full = tt;
    written = (((stars, refl), λ s q. absurd (none-some s q)), (keeps, tt));
  };
  typed = (one_binding names_there any (codes "x") int_written [] _ integer refl (name _ refl) one_typed, tt);
}

pub clauses_are_one_binding : ClausesAreOneBinding
clauses_are_one_binding = refl

abbrev in_stub : Globals
in_stub = globals_with (globals_of []) (of_higher_kind ∷ [])

no_synonym_there : (n : OrigName) (s : Synonym) → Among n (here_named Types (codes "P") ∷ [])
    → synonyms_of in_stub n ≡ Some s → ⊥
unfolding roll-Unit roll hidden-the_row-Unit-0 hidden-the_row-Fill-1 hidden
no_synonym_there n s (inl p) q = none-some s (ap (synonyms_of in_stub) p ∙ q)
no_synonym_there n s (inr k) q = k

pub stub_is_well_typed : StubIsWellTyped
unfolding hidden-the_row-Kind-0 hidden roll-Unit roll hidden-the_row-Unit-0 hidden-the_row-Fill-1
stub_is_well_typed = record {
  names_once = ((λ h. h), tt);
  kinding = (_, [], refl, (arrow star star ∷ [], refl, (refl, tt)), refl);
  lawful = record {
    acyclic = λ n h l. let s = starts (synonyms_of in_stub) n n l in no_synonym_there n s.0 h s.1;
    applied_fully = λ n s h q. absurd (no_synonym_there n s h q);
  };
  full = (tt, tt);
  values = tt;
}
