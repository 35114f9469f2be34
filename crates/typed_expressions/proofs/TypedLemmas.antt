-- From one unknown and no equation to the typing relation.
use Rattle.std.proofs.Common.{◌≡◌, refl, subst, ℕ, zero, suc, List, [], ◌∷◌, map}
use Rattle.std.proofs.lemmas.Option.{none-some, same_Some}
use Rattle.std.specs.Prelude.{Result, Ok, Err, IfErr, Some, slice_get}
use Rattle.bp_base.specs.declared.ty.Kind.TheVariants.{Star}
use Rattle.hs_core.specs.declared.tree.Exp.{Exp}
use Rattle.type_terms.specs.Terms.{var}
use Rattle.type_terms.proofs.TermLemmas.{applied-itself}
use Rattle.hs_core.specs.Types.{KindTerm, star, TypeTerm, kind_term}
use Rattle.hs_core.specs.Kinds.{HasKind}
use Rattle.hs_core.specs.Globals.{Globals, plain_names}
use Rattle.hs_core.specs.Typing.{Kinds}
use Rattle.type_unify.proofs.SolvingLemmas.{solution, Solves-solution}
use Rattle.type_meaning.specs.Meanings.{MeantType}
use Rattle.type_meaning.proofs.MeaningLemmas.{typed_expressions_are_meant}
use Rattle.type_equations.specs.States.{State, state_of, IsReady, read_back}
use Rattle.type_equations.specs.declared.equations.Binder.{Binder}
use Rattle.type_equations.specs.declared.equations.Equations.{Equations}
use Rattle.type_equations.proofs.DemandLemmas.{ready-with}
use Rattle.infer_patterns.specs.declared.names.Declared.{Declared}
use Rattle.expression_demands.proofs.RowLemmas.{meant-proper}
use Rattle.infer_expressions.specs.Inferred.{Explains, ExpInferred, ExpRefused}
use Rattle.infer_expressions.specs.declared.refusal.Refusal.{Refusal}
use Rattle.typed_expressions.specs.Typed.{HasSomeType, HasNoType}

-- one unknown of kind `*`, and no equation
abbrev pub start : State
start = record { bindings = []; kinds = star ∷ [] }

start_is : (state : Equations) → state.bindings ≡ [] → state.kinds.items ≡ Star ∷ [] → state_of state ≡ start
start_is state p q = λ i. record { bindings = p i; kinds = map kind_term (q i) }

nothing_ready : (G : Globals) → IsReady G (record { bindings = []; kinds = [] })
nothing_ready G = record {
  triangular = tt;
  below = tt;
  decides = λ kinds rich s o. record { solves = tt; kinded = λ i k e. absurd (none-some k e) };
}

start_ready : (G : Globals) → IsReady G start
start_ready G = ready-with G (record { bindings = []; kinds = [] }) (star ∷ []) (nothing_ready G)

started_ok : (names : List Declared) (new : State) (e : Exp) → ExpInferred names [] start new e 0 → HasSomeType names e
started_ok names new e h G kinds K rich =
    let i = h G K (start_ready G) tt (refl, tt) in
    let s = solution new.bindings in
    let g = read_back G kinds rich new.kinds s in
    let m = i.ready.decides kinds rich s (Solves-solution new.bindings i.ready.triangular) in
    (g.types 0, (i.sound g m).1.0)

-- a type of kind `*` for the one unknown
one_kind : (G : Globals) (kinds : Kinds) (t : TypeTerm) → HasKind (plain_names G) kinds t star → (i : ℕ) (k : KindTerm)
    → slice_get (star ∷ []) i ≡ Some k → HasKind (plain_names G) kinds t k
one_kind G kinds t h zero k e = subst (λ z. HasKind (plain_names G) kinds t z) (same_Some star k e) h
one_kind G kinds t h (suc i) k e = absurd (none-some k e)

started_err : (names : List Declared) (e : Exp) → ExpRefused names [] start e 0 → HasNoType names e
started_err names e n G kinds K rich t h =
    let meant = subst (λ z. MeantType G kinds e [] z) (applied-itself t)
    (typed_expressions_are_meant G kinds rich e kinds [] t h (λ w. var w) (λ w. refl)) in
    n G K (start_ready G) tt (refl, tt) (record { kinds = kinds; types = λ i. t }) []
    (record { solves = tt; kinded = one_kind G kinds t (meant-proper G kinds e [] t meant).1 }) (meant, refl)

module _ (names : List Declared) (env : List Binder) (state : Equations) (e : Exp) (v : ℕ) (env_is : env ≡ [])
    (bindings : state.bindings ≡ []) (kinds : state.kinds.items ≡ Star ∷ []) (v_is : v ≡ 0) where
  pub typed_ok : (new : State) → ExpInferred names env (state_of state) new e v → HasSomeType names e
  typed_ok new h = started_ok names new e
      (subst (λ z. ExpInferred names z start new e 0) env_is
      (subst (λ z. ExpInferred names env z new e 0) (start_is state bindings kinds)
      (subst (λ z. ExpInferred names env (state_of state) new e z) v_is h)))

  pub typed_err : ExpRefused names env (state_of state) e v → HasNoType names e
  typed_err h = started_err names e
      (subst (λ z. ExpRefused names z start e 0) env_is
      (subst (λ z. ExpRefused names env z e 0) (start_is state bindings kinds)
      (subst (λ z. ExpRefused names env (state_of state) e z) v_is h)))

pub none_of : {A P P' Q : Type 0} (r : Result A Refusal) → (P → P') → (Q → Q) → IfErr r (λ e. Explains P Q e)
    → IfErr r (λ e. e ≡ Refusal.NoTyping → P')
none_of (Ok x) f k h = h
none_of (Err e) f k h = λ z. f (h.0 z)

pub uncovered_of : {A P Q Q' : Type 0} (r : Result A Refusal) → (P → P) → (Q → Q') → IfErr r (λ e. Explains P Q e)
    → IfErr r (λ e. e ≡ Refusal.Uncovered → Q')
uncovered_of (Ok x) f k h = h
uncovered_of (Err e) f k h = λ z. k (h.1 z)
