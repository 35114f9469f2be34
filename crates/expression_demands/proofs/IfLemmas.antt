-- Conditionals (Haskell 2010 Report, section 3.6).
use Rattle.std.proofs.Common.{◌≡◌, refl, sym, ap₂, subst, ◌∙◌, ℕ, List, [], ◌∷◌, ◌++◌}
use Rattle.std.proofs.lemmas.Option.{slice_get_within}
use Rattle.std.specs.Prelude.{Some, slice_get, length}
use denote.Hole.Carrier.{hidden}
use Rattle.hs_core.specs.declared.tree.Exp.{Exp}
use Rattle.hs_core.specs.declared.tree.Exp.TheVariants.{If}
use Rattle.hs_core.specs.declared.tree.Decl.TheBlock.{hidden-the_row-Exp-0}
use Rattle.type_terms.specs.Terms.{var}
use Rattle.hs_core.specs.Types.{star, any, boolean}
use Rattle.hs_core.specs.Schemes.{Bound, monomorphic}
use Rattle.hs_core.specs.Typing.{HasType}
use Rattle.hs_core.specs.Globals.{Globals}
use Rattle.kind_check.proofs.DeclareLemmas.{head_same}
use Rattle.type_meaning.specs.Meanings.{only, MeantType}
use Rattle.type_equations.specs.States.{State, Guess, Meets, IsReady, Equated}
use Rattle.type_equations.specs.declared.equations.Binder.{Binder}
use Rattle.type_equations.specs.Demands.{typed_names, AllStar, Imposes, IsLocal, equal, both, with_types, some}
use Rattle.type_equations.specs.Demands.{with_unknowns}
use Rattle.type_equations.specs.Syntax.{plain_boolean}
use Rattle.type_equations.proofs.DemandLemmas.{agree-with, typed_names-agree}
use Rattle.type_equations.proofs.UnknownLemmas.{unknowns_read}
use Rattle.infer_patterns.proofs.PartsLemmas.{behind_equal, before_rest}
use Rattle.expression_demands.specs.Expressions.{has_type, meant_type}
use Rattle.expression_demands.proofs.FormLemmas.{form_imposes}
use Rattle.expression_demands.proofs.RowLemmas.{meant-proper}

module _ (G : Globals) (a b c : Exp) (env : List Binder) (v : ℕ) (state : State)
    (s : slice_get state.kinds v ≡ Some star) where
  pub if_gives : (g : Guess) (xs : List Bound) → Meets G g state
      → both (equal (var (length state.kinds)) plain_boolean)
      (both (has_type G a env (length state.kinds)) (both (has_type G b env v) (has_type G c env v))) g xs
      → has_type G (If a b c) env v g xs
  unfolding hidden-the_row-Exp-0 hidden
  if_gives g xs m t =
      let w = length state.kinds in
      let q = behind_equal (var w) plain_boolean
      (both (has_type G a env w) (both (has_type G b env v) (has_type G c env v))) g xs t in
      let r = q.1.3 in (
        (
          (refl, m.kinded v star s),
          subst (λ z. HasType G any a g.kinds (monomorphic (typed_names g env)) z) q.0 q.1.2.0,
          r.2.0,
          r.3.0,
        ),
        q.1.4 ∙ ap₂ (λ x y. x ++ y) q.1.2.1 (r.4 ∙ ap₂ (λ x y. x ++ y) r.2.1 r.3.1),
      )

  pub if_takes : AllStar state.kinds env → (g : Guess) (xs : List Bound) → Meets G g state
      → meant_type G (If a b c) env v g xs
      → some G state.kinds (star ∷ []) (both (equal (var (length state.kinds)) plain_boolean)
      (both (meant_type G a env (length state.kinds)) (both (meant_type G b env v) (meant_type G c env v)))) g xs
  unfolding hidden-the_row-Exp-0 hidden
  if_takes n g xs m t =
      let w = length state.kinds in
      let ls = only (typed_names g env) [] in
      let h = with_types state.kinds (boolean ∷ []) g in
      let own : h.types w ≡ boolean = head_same _ _ _ _ (unknowns_read state.kinds (boolean ∷ []) g.types) in
      let agree = agree-with state.kinds (boolean ∷ []) g in
      let names : typed_names g env ≡ typed_names h env = typed_names-agree state.kinds env g h n agree in
      let same = agree.types v (slice_get_within state.kinds v star s) in (
        boolean ∷ [],
        ((meant-proper G g.kinds a ls boolean t.0.1).1, refl),
        before_rest (var w) plain_boolean
            (both (meant_type G a env w) (both (meant_type G b env v) (meant_type G c env v))) h xs own (
              [],
              [],
              (
                subst (λ z. MeantType G g.kinds a (only z []) (h.types w)) names
                    (subst (λ z. MeantType G g.kinds a ls z) (sym own) t.0.1),
                refl,
              ),
              (
                [],
                [],
                (
                  subst (λ z. MeantType G g.kinds b (only z []) (h.types v)) names
                      (subst (λ z. MeantType G g.kinds b ls z) same t.0.2),
                  refl,
                ),
                (
                  subst (λ z. MeantType G g.kinds c (only z []) (h.types v)) names
                      (subst (λ z. MeantType G g.kinds c ls z) same t.0.3),
                  refl,
                ),
                refl,
              ),
              t.1,
            ),
      )

  pub if_imposes : (middle new : State) → IsReady G state → AllStar state.kinds env
      → IsLocal (length (state.kinds ++ star ∷ []))
      (both (meant_type G a env (length state.kinds)) (both (meant_type G b env v) (meant_type G c env v)))
      → Equated G (with_unknowns state (star ∷ [])) middle (var (length state.kinds)) plain_boolean
      → Imposes G (both (has_type G a env (length state.kinds)) (both (has_type G b env v) (has_type G c env v)))
      (both (meant_type G a env (length state.kinds)) (both (meant_type G b env v)
      (meant_type G c env v))) [] middle new
      → Imposes G (has_type G (If a b c) env v) (meant_type G (If a b c) env v) [] state new
  if_imposes middle new r n l e p = form_imposes G (has_type G (If a b c) env v) (meant_type G (If a b c) env v)
      (both (has_type G a env (length state.kinds)) (both (has_type G b env v) (has_type G c env v)))
      (both (meant_type G a env (length state.kinds)) (both (meant_type G b env v) (meant_type G c env v)))
      (var (length state.kinds)) plain_boolean [] state middle new (star ∷ []) r l if_gives (if_takes n) e p
