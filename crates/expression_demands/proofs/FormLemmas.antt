-- Expressions of which new unknowns, one equation and the parts decide.
use Rattle.std.proofs.Common.{◌≡◌, refl, sym, ap, subst, ◌∙◌, true≢false, inl, inr, ℕ, List, [], ◌∷◌, ◌++◌}
use Rattle.std.proofs.lemmas.Option.{slice_get_within}
use Rattle.std.specs.Prelude.{Some, slice_get, length}
use Rattle.hs_core.specs.declared.tree.Exp.{Exp}
use Rattle.hs_core.specs.declared.tree.Exp.TheVariants.{Local, Int}
use Rattle.type_terms.specs.Terms.{var}
use Rattle.hs_core.specs.Types.{KindTerm, star, TypeTerm, TypeAssignment, any, integer}
use Rattle.hs_core.specs.Schemes.{Assumption, Bound, Selects, monotype, monomorphic}
use Rattle.bp_base.specs.Texts.{Text}
use Rattle.type_terms.proofs.TermLemmas.{applied-itself}
use Rattle.hs_core.specs.Globals.{Globals}
use Rattle.hs_core.specs.Typing.{Kinds, IsProperType, HasType}
use Rattle.type_unify.specs.Types.{Plain}
use Rattle.type_meaning.specs.Meanings.{LocalTypes, Offers, only, MeantType}
use Rattle.type_equations.specs.Coded.{value}
use Rattle.type_equations.specs.States.{State, Guess, Meets, IsReady, Equated, NotEqual}
use Rattle.type_equations.specs.declared.equations.Binder.{Binder}
use Rattle.type_equations.specs.Demands.{Demand, typed_names, AllStar, Imposes, HasNone, IsLocal, equal, both}
use Rattle.type_equations.specs.Demands.{some, with_unknowns}
use Rattle.type_equations.proofs.DemandLemmas.{imposed_equation, imposed_both, imposed_unknowns, imposed_so, none_equal}
use Rattle.type_equations.proofs.DemandLemmas.{none_first, none_later, none_some, none_so, typed_names-agree}
use Rattle.expression_demands.specs.Expressions.{has_type, meant_type, IsNewest}

module _ (G : Globals) where
  -- new unknowns, an equation, and what stands behind it
  pub form_imposes : (gives takes first_gives first_takes : Demand) (t u : Plain) (bs : List Binder)
      (state middle new : State) (js : List KindTerm) → IsReady G state
      → IsLocal (length (state.kinds ++ js)) first_takes
      → ((g : Guess) (xs : List Bound) → Meets G g state → both (equal t u) first_gives g xs → gives g xs)
      → ((g : Guess) (xs : List Bound) → Meets G g state → takes g xs
      → some G state.kinds js (both (equal t u) first_takes) g xs)
      → Equated G (with_unknowns state js) middle t u → Imposes G first_gives first_takes bs middle new
      → Imposes G gives takes bs state new
  form_imposes gives takes first_gives first_takes t u bs state middle new js r l f h e p =
      imposed_so G (both (equal t u) first_gives) gives (some G state.kinds js (both (equal t u) first_takes)) takes bs
      state new f h
      (imposed_unknowns G (both (equal t u) first_gives) (both (equal t u) first_takes) bs state new js r
      (imposed_both G (equal t u) (equal t u) first_gives first_takes [] bs (with_unknowns state js) middle new l
      (imposed_equation G (with_unknowns state js) middle t u e) p))

  -- where no guess makes both types equal, or no guess has what stands behind the equation
  pub form_none : (takes first_takes : Demand) (t u : Plain) (state : State) (js : List KindTerm) → IsReady G state
      → ((g : Guess) (xs : List Bound) → Meets G g state → takes g xs
      → some G state.kinds js (both (equal t u) first_takes) g xs)
      → NotEqual G (with_unknowns state js) t u → HasNone G takes state
  form_none takes first_takes t u state js r h n =
      none_so G (some G state.kinds js (both (equal t u) first_takes)) takes state h
      (none_some G (both (equal t u) first_takes) state js r
      (none_first G (equal t u) first_takes (with_unknowns state js)
      (none_equal G (with_unknowns state js) t u n)))

  pub form_parts_none : (takes first_takes : Demand) (t u : Plain) (state middle : State) (js : List KindTerm)
      → IsReady G state → IsLocal (length (state.kinds ++ js)) first_takes
      → ((g : Guess) (xs : List Bound) → Meets G g state → takes g xs
      → some G state.kinds js (both (equal t u) first_takes) g xs)
      → Equated G (with_unknowns state js) middle t u → HasNone G first_takes middle → HasNone G takes state
  form_parts_none takes first_takes t u state middle js r l h e n =
      none_so G (some G state.kinds js (both (equal t u) first_takes)) takes state h
      (none_some G (both (equal t u) first_takes) state js r
      (none_later G (equal t u) (equal t u) first_takes [] (with_unknowns state js) middle l
      (imposed_equation G (with_unknowns state js) middle t u e) n))

  -- ---- literals

  pub literal_imposes : (old new : State) (e : Exp) (env : List Binder) (v : ℕ) (t : Plain) (u : TypeTerm)
      → slice_get old.kinds v ≡ Some star
      → ((kinds : Kinds) (es : List Assumption) (w : TypeTerm) → IsProperType G any kinds w → w ≡ u
      → HasType G any e kinds es w)
      → ((kinds : Kinds) (ls : List LocalTypes) (w : TypeTerm) → MeantType G kinds e ls w → w ≡ u)
      → ((g : TypeAssignment) → value g t ≡ u) → Equated G old new (var v) t
      → Imposes G (has_type G e env v) (meant_type G e env v) [] old new
  literal_imposes old new e env v t u s f h val q =
      imposed_so G (equal (var v) t) (has_type G e env v) (equal (var v) t) (meant_type G e env v) [] old new
      (λ g bs m k. (
        f g.kinds (monomorphic (typed_names g env)) (g.types v) (refl, m.kinded v star s)
            (k.0 ∙ val g.types),
        k.1,
      ))
      (λ g bs m k. (h g.kinds (only (typed_names g env) []) (g.types v) k.0 ∙ sym (val g.types), k.1))
      (imposed_equation G old new (var v) t q)

  pub integer_imposes : (old new : State) (i : ℕ) (env : List Binder) (v : ℕ) (t : Plain)
      → slice_get old.kinds v ≡ Some star → ((g : TypeAssignment) → value g t ≡ integer) → Equated G old new (var v) t
      → Imposes G (has_type G (Int i) env v) (meant_type G (Int i) env v) [] old new
  integer_imposes old new i env v t s val q = literal_imposes old new (Int i) env v t integer s
      (λ k l w p e. (p, e)) (λ k l w h. h.1) val q

  -- ---- the demands of an expression speak of the unknowns of its names and of its own

  pub meant-local : (ks : List KindTerm) (e : Exp) (env : List Binder) (v : ℕ) → AllStar ks env
      → slice_get ks v ≡ Some star → IsLocal (length ks) (meant_type G e env v)
  meant-local ks e env v s o g h bs a t = (
    subst (λ z. MeantType G h.kinds e (only (typed_names h env) []) z) (a.types v (slice_get_within ks v star o))
        (subst (λ z. MeantType G h.kinds e (only z []) (g.types v)) (typed_names-agree ks env g h s a)
        (subst (λ z. MeantType G z e (only (typed_names g env) []) (g.types v)) a.kinds t.0)),
    t.1,
  )

  -- ---- names

  -- the newest name of a list of names with one type each
  selects-one : (x : Text) (w : ℕ) (g : Guess) (env : List Binder) → IsNewest x w env
      → Selects (monomorphic (typed_names g env)) x (monotype (g.types w))
  selects-one x w g [] h = h
  selects-one x w g (b ∷ env) (inl h) = inl (h.0, ap (λ i. monotype (g.types i)) h.1)
  selects-one x w g (b ∷ env) (inr h) = inr (h.0, selects-one x w g env h.1)

  offers-one : (x : Text) (w : ℕ) (g : Guess) (env : List Binder) (t : TypeTerm) → IsNewest x w env
      → Offers (only (typed_names g env) []) x t → g.types w ≡ t
  offers-one x w g [] t h o = absurd h
  offers-one x w g (b ∷ env) t (inl h) (inl o) = ap g.types (sym h.1) ∙ o.1
  offers-one x w g (b ∷ env) t (inl h) (inr o) = absurd (o.0 h.0)
  offers-one x w g (b ∷ env) t (inr h) (inl o) = absurd (h.0 o.0)
  offers-one x w g (b ∷ env) t (inr h) (inr o) = offers-one x w g env t h.1 o.1

  -- a local has the type of its unknown
  pub local_imposes : (old new : State) (x : Text) (w : ℕ) (env : List Binder) (v : ℕ)
      → slice_get old.kinds v ≡ Some star → IsNewest x w env → Equated G old new (var v) (var w)
      → Imposes G (has_type G (Local x) env v) (meant_type G (Local x) env v) [] old new
  local_imposes old new x w env v s n q =
      imposed_so G (equal (var v) (var w)) (has_type G (Local x) env v) (equal (var v) (var w))
      (meant_type G (Local x) env v) [] old new
      (λ g bs m k. (
        (
          (refl, m.kinded v star s),
          monotype (g.types w),
          selects-one x w g env n,
          record {
            choice = λ i. var i;
            fixed = λ i e. refl;
            kinded = λ i o e. absurd (true≢false (sym e));
            gives = applied-itself (g.types w) ∙ sym k.0;
          },
        ),
        k.1,
      ))
      (λ g bs m k. (sym (offers-one x w g env (g.types v) n k.0.1), k.1))
      (imposed_equation G old new (var v) (var w) q)

  pub local_none : (old : State) (x : Text) (w : ℕ) (env : List Binder) (v : ℕ) → IsNewest x w env
      → NotEqual G old (var v) (var w) → HasNone G (meant_type G (Local x) env v) old
  local_none old x w env v n h = none_so G (equal (var v) (var w)) (meant_type G (Local x) env v) old
      (λ g bs m k. (sym (offers-one x w g env (g.types v) n k.0.1), k.1)) (none_equal G old (var v) (var w) h)
