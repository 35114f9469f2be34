-- Names: those of modules, at an instance of their declared type, and locals that nothing binds.
use Rattle.std.proofs.Common.{◌≡◌, refl, sym, ap, subst, ◌∙◌, ℕ, ◌+◌, true, List, [], ◌∷◌, map, true≢false, inl, inr}
use Rattle.std.proofs.Common.{arith}
use Rattle.std.proofs.lemmas.List.{length-map}
use Rattle.std.proofs.lemmas.List.FromFn.{length-range_with_len}
use Rattle.std.proofs.lemmas.Option.{slice_get_within, same_Some}
use Rattle.std.specs.Prelude.{Some, slice_get, length}
use Rattle.std.specs.List.{range_with_len}
use Rattle.bp_base.specs.Texts.{Text}
use Rattle.hs_core.specs.declared.tree.Exp.{Exp}
use Rattle.hs_core.specs.declared.tree.Exp.TheVariants.{Local, Global}
use Rattle.type_terms.specs.Terms.{var, applied, occurs_in}
use Rattle.hs_core.specs.Types.{KindTerm, star, TypeTerm, TypeAssignment, type_term}
use Rattle.hs_core.specs.Kinds.{kind_at}
use Rattle.hs_core.specs.Schemes.{Bound, IsDeclared}
use Rattle.hs_core.specs.Globals.{Globals, plain_names}
use Rattle.hs_core.specs.Typing.{Kinds}
use Rattle.type_unify.specs.Types.{Plain}
use Rattle.type_meaning.specs.Meanings.{LocalTypes, Offers, only, MeantType}
use Rattle.type_meaning.proofs.MeaningLemmas.{agreeing}
use Rattle.type_equations.specs.Coded.{value}
use Rattle.type_equations.specs.States.{State, Guess, Meets, IsReady, Equated, NotEqual}
use Rattle.type_equations.specs.declared.equations.Binder.{Binder}
use Rattle.type_equations.specs.Demands.{typed_names, Imposes, HasNone, equal, with_types, some, with_unknowns}
use Rattle.type_equations.proofs.DemandLemmas.{imposed_equation, imposed_unknowns, imposed_so, none_equal, none_some}
use Rattle.type_equations.proofs.DemandLemmas.{none_so, spliced-front, meets-without}
use Rattle.type_equations.proofs.UnknownLemmas.{slice_get-behind, spliced-some}
use Rattle.infer_patterns.specs.Names.{kinds_of_declared, Tells, Knows, IsUnknownName, instance}
use Rattle.infer_patterns.specs.declared.names.Declared.{Declared}
use Rattle.infer_patterns.proofs.ConLemmas.{kind_at-some, zero-plus, instance-value, choice-kinds, slice_get-range}
use Rattle.infer_patterns.proofs.ConLemmas.{chosen-kinds}
use Rattle.expression_demands.specs.Expressions.{has_type, meant_type, IsUnbound}

module _ (G : Globals) where
  -- ---- locals that nothing binds

  offers-none : (x : Text) (g : Guess) (env : List Binder) (t : TypeTerm) → IsUnbound x env
      → Offers (only (typed_names g env) []) x t → ⊥
  offers-none x g [] t h o = o
  offers-none x g (b ∷ env) t h (inl o) = h.0 o.0
  offers-none x g (b ∷ env) t h (inr o) = offers-none x g env t h.1 o.1

  pub unbound_none : (old : State) (x : Text) (env : List Binder) (v : ℕ) → IsUnbound x env
      → HasNone G (meant_type G (Local x) env v) old
  unbound_none old x env v h g bs m t = offers-none x g env (g.types v) h t.0.1

  -- ---- literals

  pub literal_none : (old : State) (e : Exp) (env : List Binder) (v : ℕ) (t : Plain) (u : TypeTerm)
      → ((kinds : Kinds) (ls : List LocalTypes) (w : TypeTerm) → MeantType G kinds e ls w → w ≡ u)
      → ((g : TypeAssignment) → value g t ≡ u) → NotEqual G old (var v) t → HasNone G (meant_type G e env v) old
  literal_none old e env v t u h val n = none_so G (equal (var v) t) (meant_type G e env v) old
      (λ g bs m k. (h g.kinds (only (typed_names g env) []) (g.types v) k.0 ∙ sym (val g.types), k.1))
      (none_equal G old (var v) t n)

  -- ---- names of modules

  module _ (state : State) (d : Declared) (T : Tells G d) (env : List Binder) (v : ℕ)
      (s : slice_get state.kinds v ≡ Some star) where
    abbrev ks : List KindTerm
    ks = kinds_of_declared d

    abbrev own : Plain
    own = instance ks (length state.kinds) d.ty

    global_gives : (g : Guess) (xs : List Bound) → Meets G g (with_unknowns state ks) → equal own (var v) g xs
        → has_type G (Global d.name) env v g xs
    global_gives g xs m t = (
      (
        (refl, (meets-without G state ks g m).kinded v star s),
        type_term d.ty,
        record { generic = λ w. true; kinds = kind_at ks; body = type_term d.ty },
        T.has,
        record { generic = λ w. refl; kinds = T.least; body = refl },
        record {
          choice = λ i. g.types (length state.kinds + i);
          fixed = λ w e. absurd (true≢false e);
          kinded = λ w o e. m.kinded (length state.kinds + w) (kind_at ks w)
              (slice_get-behind state.kinds ks w ∙ kind_at-some ks w ((T.variables w).0 o));
          gives = sym (instance-value g.types ks (length state.kinds) d.ty) ∙ t.0;
        },
      ),
      t.1,
    )

    global_takes : (g : Guess) (xs : List Bound) → Meets G g state → meant_type G (Global d.name) env v g xs
        → some G state.kinds ks (equal own (var v)) g xs
    global_takes g xs m t =
        let c = t.0.2 in
        let is : t.0.1 ≡ type_term d.ty = same_Some t.0.1 (type_term d.ty) (sym t.0.3 ∙ T.has) in
        let declared = subst (λ z. IsDeclared (plain_names G) z c) is t.0.4 in
        let b = t.0.5 in
        let us = map b.choice (range_with_len 0 (length ks)) in
        let h = with_types state.kinds us g in
        let at : (w : ℕ) → occurs_in w (type_term d.ty) ≡ true → h.types (length state.kinds + w) ≡ b.choice w =
        (λ w o. let l = (T.variables w).0 o in
        same_Some _ _ (sym (spliced-some state.kinds us g.types w
        (let n = length-map (range_with_len 0 (length ks)) b.choice ∙ length-range_with_len 0 (length ks) in
        omega (arith, n, l)))
        ∙ slice_get-range G b.choice 0 (length ks) w l)
        ∙ ap b.choice (zero-plus w)) in (
          us,
          choice-kinds G g b.choice 0 ks (λ i k e. chosen-kinds G d T g c (g.types v) declared b i k e),
          (
            instance-value h.types ks (length state.kinds) d.ty
                ∙ agreeing (λ i. h.types (length state.kinds + i)) b.choice (type_term d.ty) at
                ∙ ap (applied b.choice) (sym declared.body) ∙ b.gives
                ∙ spliced-front state.kinds us g.types v (slice_get_within state.kinds v star s),
            t.1,
          ),
        )

    pub global_imposes : (new : State) → IsReady G state → Equated G (with_unknowns state ks) new own (var v)
        → Imposes G (has_type G (Global d.name) env v) (meant_type G (Global d.name) env v) [] state new
    global_imposes new r e =
        imposed_so G (has_type G (Global d.name) env v) (has_type G (Global d.name) env v)
        (some G state.kinds ks (equal own (var v))) (meant_type G (Global d.name) env v) [] state new (λ g xs m t. t)
        global_takes
        (imposed_unknowns G (has_type G (Global d.name) env v) (equal own (var v)) [] state new ks r
        (imposed_so G (equal own (var v)) (has_type G (Global d.name) env v) (equal own (var v)) (equal own (var v)) []
        (with_unknowns state ks) new global_gives (λ g xs m t. t)
        (imposed_equation G (with_unknowns state ks) new own (var v) e)))

    pub global_none : IsReady G state → NotEqual G (with_unknowns state ks) own (var v)
        → HasNone G (meant_type G (Global d.name) env v) state
    global_none r n = none_so G (some G state.kinds ks (equal own (var v))) (meant_type G (Global d.name) env v) state
        global_takes
        (none_some G (equal own (var v)) state ks r (none_equal G (with_unknowns state ks) own (var v) n))

  -- a name that has no declared type
  pub undeclared_none : (state : State) (names : List Declared) (x : _) (env : List Binder) (v : ℕ) → Knows G names
      → IsUnknownName names x → HasNone G (meant_type G (Global x) env v) state
  undeclared_none state names x env v K n g xs m t = let d = K.all x t.0.1 t.0.3 in n d.0 d.1 d.2
