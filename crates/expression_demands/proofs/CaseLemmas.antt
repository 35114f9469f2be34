-- Case expressions and their alternatives (Haskell 2010 Report, section 3.13).
use Rattle.std.proofs.Common.{◌≡◌, refl, sym, ap₂, subst, ◌∙◌, ℕ, List, [], ◌∷◌, ◌++◌}
use Rattle.std.proofs.lemmas.Option.{slice_get_within}
use Rattle.std.specs.Prelude.{Some, slice_get, length}
use denote.Hole.Carrier.{hidden, out}
use Rattle.hs_core.specs.declared.tree.Exp.{Exp}
use Rattle.hs_core.specs.declared.tree.Exp.TheVariants.{Case}
use Rattle.hs_core.specs.declared.tree.Rhs.{Rhs}
use Rattle.hs_core.specs.declared.tree.Alt.{Alt, Alt', out-Alt}
use Rattle.hs_core.specs.declared.tree.Decl.TheBlock.{hidden-the_row-Exp-0, hidden-the_row-Alt-3}
use Rattle.hs_core.specs.Types.{star, TypeTerm, any}
use Rattle.hs_core.specs.Schemes.{Bound, monomorphic}
use Rattle.hs_core.specs.Globals.{Globals}
use Rattle.hs_core.specs.Typing.{Kinds, IsRightSide, HaveAlternatives}
use Rattle.type_meaning.specs.Meanings.{only, MeantType, MeantRightSide, MeantAlternatives}
use Rattle.kind_check.proofs.DeclareLemmas.{head_same}
use Rattle.type_equations.specs.States.{State, Guess, Meets}
use Rattle.type_equations.specs.declared.equations.Binder.{Binder}
use Rattle.type_equations.specs.Demands.{typed_names, AllStar, both, with_types, some}
use Rattle.type_equations.proofs.DemandLemmas.{agree-with, typed_names-agree}
use Rattle.type_equations.proofs.UnknownLemmas.{unknowns_read}
use Rattle.infer_patterns.specs.Patterns.{binds}
use Rattle.expression_demands.specs.Expressions.{has_type, meant_type, EachAlternative, EachMeantAlternative}
use Rattle.expression_demands.specs.Expressions.{is_alternative, meant_alternative, have_alternatives}
use Rattle.expression_demands.specs.Expressions.{meant_alternatives}
use Rattle.expression_demands.proofs.RowLemmas.{meant-proper}
use Rattle.expression_demands.specs.Leaving.{under}
use Rattle.expression_demands.proofs.LeaveLemmas.{monomorphic-append, only-append}

-- a right side where names stand in front of others
abbrev pub right_under : Globals → Rhs → List Binder → ℕ → List Bound → Guess → Type 0
right_under G r env v xs g = IsRightSide G any r g.kinds (monomorphic (xs ++ typed_names g env)) (g.types v)

abbrev pub meant_right_under : Globals → Rhs → List Binder → ℕ → List Bound → Guess → Type 0
meant_right_under G r env v xs g = MeantRightSide G g.kinds r (only (xs ++ typed_names g env) []) (g.types v)

module _ (G : Globals) where
  -- the list of a node's alternatives and their row
  alternatives-row : (kinds : Kinds) (alts : List Alt) (names : List Bound) (u t : TypeTerm)
      → EachAlternative G kinds alts names u t
      → HaveAlternatives G any (hidden-the_row-Alt-3 alts) kinds (monomorphic names) u t
  unfolding hidden-the_row-Alt-3 hidden
  alternatives-row kinds [] names u t h = h
  alternatives-row kinds (a ∷ alts) names u t h = (h.0, alternatives-row kinds alts names u t h.1)

  meant_alternatives-list : (kinds : Kinds) (alts : List Alt) (names : List Bound) (u t : TypeTerm)
      → MeantAlternatives G kinds (hidden-the_row-Alt-3 alts) (only names []) u t
      → EachMeantAlternative G kinds alts names u t
  unfolding hidden-the_row-Alt-3 hidden
  meant_alternatives-list kinds [] names u t h = h
  meant_alternatives-list kinds (a ∷ alts) names u t h = (h.0, meant_alternatives-list kinds alts names u t h.1)

  pub case_gives : (state : State) (e : Exp) (alts : List Alt) (env : List Binder) (v w : ℕ)
      → slice_get state.kinds v ≡ Some star → (g : Guess) (xs : List Bound) → Meets G g state
      → both (has_type G e env w) (have_alternatives G alts env w v) g xs → has_type G (Case e alts) env v g xs
  unfolding hidden-the_row-Exp-0 hidden
  case_gives state e alts env v w s g xs m t = (
    (
      (refl, m.kinded v star s),
      g.types w,
      t.2.0,
      alternatives-row g.kinds alts (typed_names g env) (g.types w) (g.types v) t.3.0,
    ),
    t.4 ∙ ap₂ (λ a b. a ++ b) t.2.1 t.3.1,
  )

  pub case_takes : (state : State) (e : Exp) (alts : List Alt) (env : List Binder) (v : ℕ) → AllStar state.kinds env
      → slice_get state.kinds v ≡ Some star → (g : Guess) (xs : List Bound) → Meets G g state
      → meant_type G (Case e alts) env v g xs
      → some G state.kinds (star ∷ []) (both (meant_type G e env (length state.kinds))
      (meant_alternatives G alts env (length state.kinds) v)) g xs
  unfolding hidden-the_row-Exp-0 hidden
  case_takes state e alts env v b s g xs m t =
      let w = length state.kinds in
      let u = t.0.1 in
      let names = typed_names g env in
      let h = with_types state.kinds (u ∷ []) g in
      let own : h.types w ≡ u = head_same _ _ _ _ (unknowns_read state.kinds (u ∷ []) g.types) in
      let a = agree-with state.kinds (u ∷ []) g in
      let same : names ≡ typed_names h env = typed_names-agree state.kinds env g h b a in
      let each = meant_alternatives-list g.kinds alts names u (g.types v) t.0.3 in (
        u ∷ [],
        ((meant-proper G g.kinds e (only names []) u t.0.2).1, refl),
        (
          [],
          [],
          (
            subst (λ z. MeantType G g.kinds e (only z []) (h.types w)) same
                (subst (λ z. MeantType G g.kinds e (only names []) z) (sym own) t.0.2),
            refl,
          ),
          (
            subst (λ z. EachMeantAlternative G g.kinds alts (typed_names h env) (h.types w) z)
                (a.types v (slice_get_within state.kinds v star s))
                (subst (λ z. EachMeantAlternative G g.kinds alts z (h.types w) (g.types v)) same
                (subst (λ z. EachMeantAlternative G g.kinds alts names z (g.types v)) (sym own) each)),
            refl,
          ),
          t.1,
        ),
      )

  -- one more alternative in front of others
  pub alternatives_give : (a : Alt) (alts : List Alt) (env : List Binder) (u v : ℕ) (g : Guess) (xs : List Bound)
      → both (is_alternative G a env u v) (have_alternatives G alts env u v) g xs
      → have_alternatives G (a ∷ alts) env u v g xs
  alternatives_give a alts env u v g xs t = ((t.2.0, t.3.0), t.4 ∙ ap₂ (λ x y. x ++ y) t.2.1 t.3.1)

  pub alternatives_take : (a : Alt) (alts : List Alt) (env : List Binder) (u v : ℕ) (g : Guess) (xs : List Bound)
      → meant_alternatives G (a ∷ alts) env u v g xs
      → both (meant_alternative G a env u v) (meant_alternatives G alts env u v) g xs
  alternatives_take a alts env u v g xs t = ([], [], (t.0.0, refl), (t.0.1, refl), t.1)

  -- a pattern and a right side that sees its names
  pub alternative_gives : (a : Alt) (env : List Binder) (u v : ℕ) (g : Guess) (xs : List Bound)
      → under (binds G (out-Alt a).pat u) (right_under G (out-Alt a).rhs env v) g xs
      → is_alternative G a env u v g xs
  unfolding out-Alt out
  alternative_gives (Alt' p r) env u v g xs t = (
    (
      t.0,
      t.1,
      subst (λ z. IsRightSide G any r g.kinds z (g.types v)) (monomorphic-append t.0 (typed_names g env)) t.2,
    ),
    t.3,
  )

  pub alternative_takes : (a : Alt) (env : List Binder) (u v : ℕ) (g : Guess) (xs : List Bound)
      → meant_alternative G a env u v g xs
      → under (binds G (out-Alt a).pat u) (meant_right_under G (out-Alt a).rhs env v) g xs
  unfolding out-Alt out
  alternative_takes (Alt' p r) env u v g xs t = (
    t.0.0,
    t.0.1,
    subst (λ z. MeantRightSide G g.kinds r z (g.types v)) (sym (only-append t.0.0 (typed_names g env) [])) t.0.2,
    t.1,
  )
