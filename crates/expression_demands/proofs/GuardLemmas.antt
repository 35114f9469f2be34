-- Right sides without local declarations, their choices and guards (Haskell 2010 Report, sections 3.13 and 4.4.3).
use Rattle.std.proofs.Common.{◌≡◌, refl, sym, ap, ap₂, subst, ◌∙◌, ℕ, List, [], ◌∷◌, ◌++◌}
use Rattle.std.proofs.lemmas.List.{append_assoc}
use Rattle.std.specs.Prelude.{Some, slice_get, length}
use denote.Hole.Carrier.{hidden, roll}
use Rattle.hs_core.specs.declared.tree.Exp.{Exp}
use Rattle.hs_core.specs.declared.tree.Rhs.{Rhs, out-Rhs}
use Rattle.hs_core.specs.declared.tree.Choice.{Choice}
use Rattle.hs_core.specs.declared.tree.Decl.{Decl}
use Rattle.hs_core.specs.declared.tree.Decl.TheViews.{roll-Rhs, roll-out-Rhs}
use Rattle.hs_core.specs.declared.tree.Guard.{Guard}
use Rattle.hs_core.specs.declared.tree.Guard.TheVariants.{Test, Bind}
use Rattle.hs_core.specs.declared.tree.Decl.TheBlock.{hidden-the_row-Decl-2, hidden-the_row-Guard-4}
use Rattle.hs_core.specs.declared.tree.Decl.TheBlock.{hidden-the_row-Choice-5}
use Rattle.hs_core.specs.Groups.{AreGroups}
use Rattle.hs_core.specs.Groups.DepthFirst.{ended}
use Rattle.hs_core.specs.Groups.Grouped.{none}
use Rattle.hs_core.specs.LocalGroups.{IsTyped, Extends}
use Rattle.hs_core.proofs.OneGroupingLemmas.{groups-are-one}
use Rattle.type_terms.specs.Terms.{var}
use Rattle.hs_core.specs.Types.{star, TypeTerm, any, boolean}
use Rattle.hs_core.specs.Schemes.{Assumption, Bound, monomorphic}
use Rattle.hs_core.specs.Globals.{Globals}
use Rattle.hs_core.specs.Typing.{Kinds, HasType, HaveChoices, GuardsBind, Binds}
use Rattle.type_meaning.specs.Meanings.{LocalTypes, MeantTyping, MeantExtension, MeantGroups, only, MeantType}
use Rattle.type_meaning.specs.Meanings.{declared_sets, MeantChoices, MeantGuards}
use Rattle.kind_check.proofs.DeclareLemmas.{head_same}
use Rattle.type_equations.specs.States.{State, Guess, Meets, IsReady}
use Rattle.type_equations.specs.declared.equations.Binder.{Binder}
use Rattle.type_equations.specs.Demands.{typed_names, AllStar, Imposes, HasNone, IsLocal, equal, both}
use Rattle.type_equations.specs.Demands.{with_types, some, with_unknowns}
use Rattle.type_equations.specs.Syntax.{plain_boolean}
use Rattle.type_equations.proofs.DemandLemmas.{agree-with, typed_names-agree, imposed_both, imposed_unknowns}
use Rattle.type_equations.proofs.DemandLemmas.{imposed_so, none_first, none_later, none_some, none_so}
use Rattle.type_equations.proofs.UnknownLemmas.{unknowns_read}
use Rattle.infer_patterns.specs.Patterns.{binds}
use Rattle.infer_patterns.proofs.PartsLemmas.{behind_equal, before_rest}
use Rattle.expression_demands.specs.Expressions.{has_type, meant_type, is_right_side, meant_right_side, has_guard}
use Rattle.expression_demands.specs.Expressions.{meant_guard, HasGuarded, MeantGuarded, has_guarded, meant_guarded}
use Rattle.expression_demands.specs.Expressions.{EachChoice, EachMeantChoice, have_choices, meant_choices}
use Rattle.expression_demands.proofs.RowLemmas.{meant-proper}
use Rattle.expression_demands.specs.Leaving.{under}
use Rattle.expression_demands.proofs.LeaveLemmas.{monomorphic-append, only-append}

-- ---- no local declarations

no_groups : AreGroups [] []
no_groups = record { order = []; walk = ended [] []; grouped = none }

-- what a guard binds, in front of others
abbrev pub guarded_under : Globals → List Guard → Exp → List Binder → ℕ → List Bound → Guess → Type 0
guarded_under G guards e env v xs g = HasGuarded G g.kinds guards e (xs ++ typed_names g env) (g.types v)

abbrev pub meant_guarded_under : Globals → List Guard → Exp → List Binder → ℕ → List Bound → Guess → Type 0
meant_guarded_under G guards e env v xs g = MeantGuarded G g.kinds guards e (xs ++ typed_names g env) (g.types v)

module _ (G : Globals) where
  nothing_extends : (typed : IsTyped) (kinds : Kinds) (env : List Assumption) → Extends G typed [] kinds env env
  nothing_extends typed kinds env = record {
    declared = [];
    schemes = refl;
    groups = [];
    order = no_groups;
    each = refl;
  }

  nothing_meant : (K : Kinds) (typed : MeantTyping) (env : List LocalTypes) (k : List LocalTypes → Type 0)
      → MeantExtension G K typed [] env k → k env
  nothing_meant K typed env k (declared, d, groups, o, h) =
      subst (λ z. MeantGroups G K typed [] z [] (declared_sets G K z env) k) d
      (subst (λ z. MeantGroups G K typed [] declared z (declared_sets G K declared env) k)
      (groups-are-one [] groups [] o no_groups) h)

  -- ---- guards

  guards-bind : (kinds : Kinds) (guards : List Guard) (e : Exp) (names : List Bound) (t : TypeTerm)
      → HasGuarded G kinds guards e names t
      → (bs : List Bound) × GuardsBind G any (hidden-the_row-Guard-4 guards) kinds (monomorphic names) bs
      × HasType G any e kinds (monomorphic bs ++ monomorphic names) t
  unfolding hidden-the_row-Guard-4 hidden
  guards-bind kinds [] e names t h = ([], refl, h)
  guards-bind kinds (x ∷ guards) e names t h =
      let a = h.0 in
      let q = guards-bind kinds guards e (a ++ names) t h.2 in
      let b = q.0 in (
        b ++ a,
        (
          a,
          b,
          h.1,
          subst (λ z. GuardsBind G any (hidden-the_row-Guard-4 guards) kinds z b) (monomorphic-append a names) q.1,
          refl,
        ),
        subst (λ z. HasType G any e kinds z t)
            (ap (λ z. monomorphic b ++ z) (monomorphic-append a names)
            ∙ sym (append_assoc (monomorphic b) (monomorphic a) (monomorphic names))
            ∙ ap (λ z. z ++ monomorphic names) (sym (monomorphic-append b a))) q.2,
      )

  guards-meant : (kinds : Kinds) (guards : List Guard) (e : Exp) (names : List Bound) (t : TypeTerm)
      → MeantGuards G kinds (hidden-the_row-Guard-4 guards) (only names []) (λ after. MeantType G kinds e after t)
      → MeantGuarded G kinds guards e names t
  unfolding hidden-the_row-Guard-4 hidden
  guards-meant kinds [] e names t h = h
  guards-meant kinds (x ∷ guards) e names t h = (
    h.0,
    h.1,
    guards-meant kinds guards e (h.0 ++ names) t
        (subst (λ z. MeantGuards G kinds (hidden-the_row-Guard-4 guards) z (λ after. MeantType G kinds e after t))
        (sym (only-append h.0 names [])) h.2),
  )

  -- a guard in front of others
  pub guarded_gives : (x : Guard) (guards : List Guard) (e : Exp) (env : List Binder) (v : ℕ) (g : Guess)
      (xs : List Bound) → under (has_guard G x env) (guarded_under G guards e env v) g xs
      → has_guarded G (x ∷ guards) e env v g xs
  guarded_gives x guards e env v g xs t = ((t.0, t.1, t.2), t.3)

  pub guarded_takes : (x : Guard) (guards : List Guard) (e : Exp) (env : List Binder) (v : ℕ) (g : Guess)
      (xs : List Bound) → meant_guarded G (x ∷ guards) e env v g xs
      → under (meant_guard G x env) (meant_guarded_under G guards e env v) g xs
  guarded_takes x guards e env v g xs t = (t.0.0, t.0.1, t.0.2, t.1)

  -- ---- choices

  choices-row : (kinds : Kinds) (choices : List Choice) (names : List Bound) (t : TypeTerm)
      → EachChoice G kinds choices names t
      → HaveChoices G any (hidden-the_row-Choice-5 choices) kinds (monomorphic names) t
  unfolding hidden-the_row-Choice-5 hidden hidden-the_row-Guard-4
  choices-row kinds [] names t h = h
  choices-row kinds (c ∷ choices) names t h =
      (guards-bind kinds c.guards c.exp names t h.0, choices-row kinds choices names t h.1)

  choices-list : (kinds : Kinds) (choices : List Choice) (names : List Bound) (t : TypeTerm)
      → MeantChoices G kinds (hidden-the_row-Choice-5 choices) (only names []) t
      → EachMeantChoice G kinds choices names t
  unfolding hidden-the_row-Choice-5 hidden hidden-the_row-Guard-4
  choices-list kinds [] names t h = h
  choices-list kinds (c ∷ choices) names t h =
      (guards-meant kinds c.guards c.exp names t h.0, choices-list kinds choices names t h.1)

  pub choices_give : (c : Choice) (choices : List Choice) (env : List Binder) (v : ℕ) (g : Guess) (xs : List Bound)
      → both (has_guarded G c.guards c.exp env v) (have_choices G choices env v) g xs
      → have_choices G (c ∷ choices) env v g xs
  choices_give c choices env v g xs t = ((t.2.0, t.3.0), t.4 ∙ ap₂ (λ x y. x ++ y) t.2.1 t.3.1)

  pub choices_take : (c : Choice) (choices : List Choice) (env : List Binder) (v : ℕ) (g : Guess) (xs : List Bound)
      → meant_choices G (c ∷ choices) env v g xs
      → both (meant_guarded G c.guards c.exp env v) (meant_choices G choices env v) g xs
  choices_take c choices env v g xs t = ([], [], (t.0.0, refl), (t.0.1, refl), t.1)

  -- ---- right sides

  abbrev right_of : List Choice → List Decl → Rhs
  right_of choices local = roll-Rhs (record { choices = choices; local = local })

  rolled_gives : (state : State) (choices : List Choice) (env : List Binder) (v : ℕ)
      → slice_get state.kinds v ≡ Some star → (g : Guess) (xs : List Bound) → Meets G g state
      → have_choices G choices env v g xs → is_right_side G (right_of choices []) env v g xs
  unfolding roll-Rhs roll hidden-the_row-Decl-2 hidden hidden-the_row-Choice-5
  rolled_gives state choices env v s g xs m t = (
    (
      (refl, m.kinded v star s),
      monomorphic (typed_names g env),
      nothing_extends _ g.kinds (monomorphic (typed_names g env)),
      choices-row g.kinds choices (typed_names g env) (g.types v) t.0,
    ),
    t.1,
  )

  rolled_takes : (choices : List Choice) (env : List Binder) (v : ℕ) (g : Guess) (xs : List Bound)
      → meant_right_side G (right_of choices []) env v g xs → meant_choices G choices env v g xs
  unfolding roll-Rhs roll hidden-the_row-Decl-2 hidden hidden-the_row-Choice-5
  rolled_takes choices env v g xs t = (
    choices-list g.kinds choices (typed_names g env) (g.types v)
        (nothing_meant g.kinds _ (only (typed_names g env) [])
        (λ after. MeantChoices G g.kinds (hidden-the_row-Choice-5 choices) after (g.types v)) t.0.1),
    t.1,
  )

  right_is : (r : Rhs) → (out-Rhs r).local ≡ [] → right_of (out-Rhs r).choices [] ≡ r
  right_is r e = ap (λ z. right_of (out-Rhs r).choices z) (sym e) ∙ roll-out-Rhs r

  pub right_gives : (state : State) (r : Rhs) (env : List Binder) (v : ℕ) → (out-Rhs r).local ≡ []
      → slice_get state.kinds v ≡ Some star → (g : Guess) (xs : List Bound) → Meets G g state
      → have_choices G (out-Rhs r).choices env v g xs → is_right_side G r env v g xs
  right_gives state r env v e s g xs m t = subst (λ z. is_right_side G z env v g xs) (right_is r e)
      (rolled_gives state (out-Rhs r).choices env v s g xs m t)

  pub right_takes : (r : Rhs) (env : List Binder) (v : ℕ) → (out-Rhs r).local ≡ [] → (g : Guess) (xs : List Bound)
      → meant_right_side G r env v g xs → meant_choices G (out-Rhs r).choices env v g xs
  right_takes r env v e g xs t = rolled_takes (out-Rhs r).choices env v g xs
      (subst (λ z. meant_right_side G z env v g xs) (sym (right_is r e)) t)

  -- ---- a guard

  pub test_gives : (e : Exp) (env : List Binder) (w : ℕ) (g : Guess) (xs : List Bound)
      → both (equal (var w) plain_boolean) (has_type G e env w) g xs → has_guard G (Test e) env g xs
  test_gives e env w g xs t =
      let q = behind_equal (var w) plain_boolean (has_type G e env w) g xs t in
      (subst (λ z. HasType G any e g.kinds (monomorphic (typed_names g env)) z) q.0 q.1.0, q.1.1)

  pub test_takes : (state : State) (e : Exp) (env : List Binder) → AllStar state.kinds env → (g : Guess)
      (xs : List Bound) → meant_guard G (Test e) env g xs
      → some G state.kinds (star ∷ []) (both (equal (var (length state.kinds)) plain_boolean)
      (meant_type G e env (length state.kinds))) g xs
  test_takes state e env b g xs t =
      let w = length state.kinds in
      let names = typed_names g env in
      let h = with_types state.kinds (boolean ∷ []) g in
      let own : h.types w ≡ boolean = head_same _ _ _ _ (unknowns_read state.kinds (boolean ∷ []) g.types) in
      let a = agree-with state.kinds (boolean ∷ []) g in
      let same : names ≡ typed_names h env = typed_names-agree state.kinds env g h b a in (
        boolean ∷ [],
        ((meant-proper G g.kinds e (only names []) boolean t.0).1, refl),
        before_rest (var w) plain_boolean (meant_type G e env w) h xs own (
          subst (λ z. MeantType G g.kinds e (only z []) (h.types w)) same
              (subst (λ z. MeantType G g.kinds e (only names []) z) (sym own) t.0),
          t.1,
        ),
      )

  bind_gives : (p : _) (e : Exp) (env : List Binder) (w : ℕ) (g : Guess) (xs : List Bound)
      → both (has_type G e env w) (binds G p w) g xs → has_guard G (Bind p e) env g xs
  bind_gives p e env w g xs t = (
    g.types w,
    subst (λ z. Binds G any g.kinds p (g.types w) z) (sym (t.4 ∙ ap (λ z. z ++ t.1) t.2.1)) t.3,
    t.2.0,
  )

  bind_takes : (state : State) (p : _) (e : Exp) (env : List Binder) → AllStar state.kinds env → (g : Guess)
      (xs : List Bound) → meant_guard G (Bind p e) env g xs
      → some G state.kinds (star ∷ []) (both (meant_type G e env (length state.kinds))
      (binds G p (length state.kinds))) g xs
  bind_takes state p e env b g xs t =
      let w = length state.kinds in
      let u = t.0 in
      let names = typed_names g env in
      let h = with_types state.kinds (u ∷ []) g in
      let own : h.types w ≡ u = head_same _ _ _ _ (unknowns_read state.kinds (u ∷ []) g.types) in
      let a = agree-with state.kinds (u ∷ []) g in
      let same : names ≡ typed_names h env = typed_names-agree state.kinds env g h b a in (
        u ∷ [],
        ((meant-proper G g.kinds e (only names []) u t.2).1, refl),
        (
          [],
          xs,
          (
            subst (λ z. MeantType G g.kinds e (only z []) (h.types w)) same
                (subst (λ z. MeantType G g.kinds e (only names []) z) (sym own) t.2),
            refl,
          ),
          subst (λ z. Binds G any g.kinds p z xs) (sym own) t.1,
          refl,
        ),
      )

  -- an expression at a new unknown, and a pattern at it
  pub bind_imposes : (state middle new : State) (p : _) (e : Exp) (env binders : List Binder) → IsReady G state
      → AllStar state.kinds env → IsLocal (length (state.kinds ++ star ∷ [])) (binds G p (length state.kinds))
      → Imposes G (has_type G e env (length state.kinds)) (meant_type G e env (length state.kinds)) []
      (with_unknowns state (star ∷ [])) middle
      → Imposes G (binds G p (length state.kinds)) (binds G p (length state.kinds)) binders middle new
      → Imposes G (has_guard G (Bind p e) env) (meant_guard G (Bind p e) env) binders state new
  bind_imposes state middle new p e env binders r b l i j =
      let w = length state.kinds in
      imposed_so G (both (has_type G e env w) (binds G p w)) (has_guard G (Bind p e) env)
      (some G state.kinds (star ∷ []) (both (meant_type G e env w) (binds G p w))) (meant_guard G (Bind p e) env)
      binders state new (λ g xs m t. bind_gives p e env w g xs t) (λ g xs m t. bind_takes state p e env b g xs t)
      (imposed_unknowns G (both (has_type G e env w) (binds G p w)) (both (meant_type G e env w) (binds G p w)) binders
      state new (star ∷ []) r
      (imposed_both G (has_type G e env w) (meant_type G e env w) (binds G p w) (binds G p w) [] binders
      (with_unknowns state (star ∷ [])) middle new l i j))

  bind_none : (state : State) (p : _) (e : Exp) (env : List Binder) → IsReady G state → AllStar state.kinds env
      → HasNone G (both (meant_type G e env (length state.kinds)) (binds G p (length state.kinds)))
      (with_unknowns state (star ∷ []))
      → HasNone G (meant_guard G (Bind p e) env) state
  bind_none state p e env r b n =
      let w = length state.kinds in
      none_so G (some G state.kinds (star ∷ []) (both (meant_type G e env w) (binds G p w)))
      (meant_guard G (Bind p e) env) state (λ g xs m t. bind_takes state p e env b g xs t)
      (none_some G (both (meant_type G e env w) (binds G p w)) state (star ∷ []) r n)

  pub bind_exp_none : (state : State) (p : _) (e : Exp) (env : List Binder) → IsReady G state → AllStar state.kinds env
      → HasNone G (meant_type G e env (length state.kinds)) (with_unknowns state (star ∷ []))
      → HasNone G (meant_guard G (Bind p e) env) state
  bind_exp_none state p e env r b n = bind_none state p e env r b
      (none_first G (meant_type G e env (length state.kinds)) (binds G p (length state.kinds))
      (with_unknowns state (star ∷ [])) n)

  pub bind_pat_none : (state middle : State) (p : _) (e : Exp) (env : List Binder) → IsReady G state
      → AllStar state.kinds env → IsLocal (length (state.kinds ++ star ∷ [])) (binds G p (length state.kinds))
      → Imposes G (has_type G e env (length state.kinds)) (meant_type G e env (length state.kinds)) []
      (with_unknowns state (star ∷ [])) middle
      → HasNone G (binds G p (length state.kinds)) middle → HasNone G (meant_guard G (Bind p e) env) state
  bind_pat_none state middle p e env r b l i n = bind_none state p e env r b
      (none_later G (has_type G e env (length state.kinds)) (meant_type G e env (length state.kinds))
      (binds G p (length state.kinds)) [] (with_unknowns state (star ∷ [])) middle l i n)
