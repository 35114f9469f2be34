-- Patterns, guards and right sides, and the locals that they put in front of others.
use Rattle.std.proofs.Common.{◌≡◌, sym, ap, ap₂, subst, ◌∙◌, ℕ, ◌+◌, ◌<◌, ◌≤◌, List, [], ◌∷◌, ◌++◌, drop}
use Rattle.std.proofs.Common.{get_or, map}
use Rattle.std.proofs.lemmas.List.{length-map, drop_more, drop_all}
use Rattle.std.specs.Prelude.{length, slice_get, Some}
use Rattle.std.specs.List.{range_with_len}
use Rattle.bp_base.specs.declared.ty.Kind.TheVariants.{Star}
use Rattle.hs_core.specs.declared.tree.Exp.{Exp}
use Rattle.hs_core.specs.declared.tree.Exp.TheVariants.{Lambda}
use Rattle.hs_core.specs.declared.tree.Pat.{Pat}
use Rattle.hs_core.specs.declared.tree.Alt.{Alt, out-Alt}
use Rattle.hs_core.specs.declared.tree.Rhs.{Rhs, out-Rhs}
use Rattle.hs_core.specs.declared.tree.Guard.{Guard}
use Rattle.hs_core.specs.declared.tree.Guard.TheVariants.{Test, Bind}
use Rattle.type_terms.specs.Terms.{var}
use Rattle.hs_core.specs.Types.{star, kind_term, any}
use Rattle.hs_core.specs.Schemes.{Bound, monomorphic}
use Rattle.hs_core.specs.Globals.{Globals}
use Rattle.hs_core.specs.Typing.{HasType, IsRightSide}
use Rattle.type_meaning.specs.Meanings.{only, MeantType, MeantRightSide}
use Rattle.type_equations.specs.States.{State, state_of, Guess, IsReady}
use Rattle.type_equations.specs.declared.equations.Binder.{Binder}
use Rattle.type_equations.specs.declared.equations.Equations.{Equations}
use Rattle.type_equations.specs.Demands.{Demand, AllStar, Imposes, IsLocal, with_unknowns}
use Rattle.type_equations.specs.Syntax.{AreStars, plain_boolean}
use Rattle.type_equations.proofs.DemandLemmas.{imposed_so, none_so, stars-front, ready-with, slice_get-front}
use Rattle.type_equations.proofs.UnknownLemmas.{new_stars}
use Rattle.infer_patterns.specs.Names.{Knows}
use Rattle.infer_patterns.specs.Patterns.{binds, bind_each, PatternInferred, PatternRefused, PatternsInferred}
use Rattle.infer_patterns.specs.Patterns.{PatternsRefused}
use Rattle.infer_patterns.specs.declared.names.Declared.{Declared}
use Rattle.infer_patterns.proofs.EnterLemmas.{state_behind, kinds_behind}
use Rattle.infer_patterns.proofs.PatternLemmas.{binds-local}
use Rattle.expression_demands.specs.Leaving.{Leaves, under, seen}
use Rattle.expression_demands.specs.Expressions.{has_type, meant_type, is_alternative, meant_alternative, is_right_side}
use Rattle.expression_demands.specs.Expressions.{meant_right_side, has_guard, meant_guard, HasGuarded, MeantGuarded}
use Rattle.expression_demands.specs.Expressions.{has_guarded, meant_guarded, have_choices, meant_choices}
use Rattle.expression_demands.proofs.FormLemmas.{meant-local, form_none}
use Rattle.expression_demands.proofs.LeaveLemmas.{names-append, all_left, head_left}
use Rattle.expression_demands.proofs.LocalLemmas.{local-under}
use Rattle.expression_demands.proofs.LambdaLemmas.{has_under, meant_under}
use Rattle.expression_demands.proofs.CaseLemmas.{right_under, meant_right_under, alternative_gives, alternative_takes}
use Rattle.expression_demands.proofs.GuardLemmas.{guarded_under, meant_guarded_under, guarded_gives, guarded_takes}
use Rattle.expression_demands.proofs.GuardLemmas.{right_gives, right_takes, test_gives, test_takes, bind_imposes}
use Rattle.expression_demands.proofs.GuardLemmas.{bind_exp_none, bind_pat_none}
use Rattle.infer_expressions.specs.Inferred.{PatternSeen, ExpInferred, ExpRefused, AltInferred}
use Rattle.infer_expressions.specs.Inferred.{AltRefused, SideInferred, SideRefused, ChoicesInferred, ChoicesRefused}
use Rattle.infer_expressions.specs.Inferred.{GuardInferred, GuardRefused}
use Rattle.infer_expressions.specs.Entered.{Leads, function_parts, FunctionEntered, FunctionRefused, TestEntered}
use Rattle.infer_expressions.specs.Entered.{TestRefused, LambdaEntered, LambdaRefused, GuardsInferred, GuardsRefused}
use Rattle.infer_expressions.proofs.LeadLemmas.{leads_end, leads_none, leads_so, leads_under, leads_under_none}
use Rattle.infer_expressions.proofs.HeadLemmas.{exp_has, exp_meant, lambda_leads, lambda_none}

known : (old : Equations) → length old.kinds.items ≡ length (map kind_term old.kinds.items)
known old = sym (length-map old.kinds.items kind_term)

-- nothing is done yet
pub leads_all : (names : List Declared) (env : List Binder) (vs : List ℕ) (gives takes : Globals → Demand) (old : State)
    → Leads names env vs gives takes gives takes env vs old old
leads_all names env vs gives takes old G K r o s = (all_left G (gives G) (takes G) old r, o, s)

-- ---- names in front of others

has_seen : (G : Globals) (e : Exp) (env : List Binder) (w : ℕ) (binders : List Binder) (g : Guess) (xs : List Bound)
    → has_type G e (binders ++ env) w g xs → seen binders (has_under G e env w) g xs
has_seen G e env w binders g xs t =
    (subst (λ z. HasType G any e g.kinds (monomorphic z) (g.types w)) (names-append g binders env) t.0, t.1)

seen_meant : (G : Globals) (e : Exp) (env : List Binder) (w : ℕ) (binders : List Binder) (g : Guess) (xs : List Bound)
    → seen binders (meant_under G e env w) g xs → meant_type G e (binders ++ env) w g xs
seen_meant G e env w binders g xs t =
    (subst (λ z. MeantType G g.kinds e (only z []) (g.types w)) (sym (names-append g binders env)) t.0, t.1)

-- ---- patterns

pub pattern_seen : (names : List Declared) (env start pushed after : List Binder) (old new : State) (p : Pat) (u : ℕ)
    → start ≡ [] → after ≡ pushed ++ env → PatternInferred names start pushed old new p u
    → PatternSeen names env after old new p u
pattern_seen names env start pushed after old new p u e a h G K r s =
    let q = h G K r s in
    (q.binders, a ∙ ap (λ z. z ++ env) (q.pushed ∙ ap (λ z. z ++ q.binders) e), q.imposes)

-- ---- lambdas

module _ (names : List Declared) (env : List Binder) (old : Equations) (middle : State) (ps : List Pat) (v m own : ℕ)
    (parts slice : List ℕ) (own_is : own ≡ length old.kinds.items)
    (parts_are : parts ≡ range_with_len (length old.kinds.items + 1) m) (slice_is : slice ≡ parts)
    (many : m ≡ length ps)
    (h : FunctionEntered (state_of old) middle v m) where
  abbrev w : ℕ
  w = length (map kind_term old.kinds.items)

  abbrev ids : List ℕ
  ids = function_parts (state_of old) (length ps)

  slice_are : slice ≡ ids
  slice_are = slice_is ∙ parts_are ∙ ap₂ (λ a k. range_with_len (a + 1) k) (known old) many

  lambda_head : (e : Exp) → Leads names env (v ∷ []) (exp_has (Lambda ps e) env v) (exp_meant (Lambda ps e) env v)
      (λ G. under (bind_each G ps ids) (has_under G e env w)) (λ G. under (bind_each G ps ids) (meant_under G e env w))
      env (w ∷ ids) (state_of old) middle
  lambda_head e = lambda_leads names env v (state_of old) middle ps e
      (subst (λ k. FunctionEntered (state_of old) middle v k) many h)

  pub lambda_entered : (start pushed scope : List Binder) (new : State) → start ≡ [] → scope ≡ pushed ++ env
      → PatternsInferred names start pushed middle new ps slice
      → LambdaEntered names env (state_of old) new ps v own scope
  lambda_entered start pushed scope new e a rows body =
      subst (λ z. Leads names env (v ∷ []) (exp_has (Lambda ps body) env v) (exp_meant (Lambda ps body) env v)
      (exp_has body scope z) (exp_meant body scope z) scope (z ∷ []) (state_of old) new) (sym (own_is ∙ known old))
      (leads_under names env (v ∷ []) (exp_has (Lambda ps body) env v) (exp_meant (Lambda ps body) env v)
      (λ G. bind_each G ps ids) (λ G. bind_each G ps ids) (λ G. has_under G body env w) (λ G. meant_under G body env w)
      (λ G z. has_type G body z w) (λ G z. meant_type G body z w) env scope (w ∷ ids) (w ∷ []) (state_of old) middle new
      (λ G ks o s. (local-under ks env w (λ k n t. MeantType G k body (only n []) t) o s.0, (s.0, tt)))
      (λ G binders g xs t. has_seen G body env w binders g xs t)
      (λ G binders g xs t. seen_meant G body env w binders g xs t) (lambda_head body)
      (λ G K r o s. let q = subst (λ z. PatternsInferred names start pushed middle new ps z) slice_are rows G K r s.1 in
      (q.binders, a ∙ ap (λ z. z ++ env) (q.pushed ∙ ap (λ z. z ++ q.binders) e), q.imposes)))

  pub lambda_patterns_err : PatternsRefused names middle ps slice → LambdaRefused names env (state_of old) ps v
  lambda_patterns_err rows body =
      leads_under_none names env (v ∷ []) (exp_has (Lambda ps body) env v) (exp_meant (Lambda ps body) env v)
      (λ G. bind_each G ps ids) (λ G. bind_each G ps ids) (λ G. has_under G body env w) (λ G. meant_under G body env w)
      env (w ∷ ids) (state_of old) middle (lambda_head body)
      (λ G K r o s. subst (λ z. PatternsRefused names middle ps z) slice_are rows G K r s.1)

pub lambda_function_err : (names : List Declared) (env : List Binder) (old : State) (ps : List Pat) (v m : ℕ)
    → m ≡ length ps → FunctionRefused old v m → LambdaRefused names env old ps v
lambda_function_err names env old ps v m many h e =
    lambda_none names env v old ps e (subst (λ k. FunctionRefused old v k) many h)

-- ---- alternatives

alternative_leads : (names : List Declared) (env after : List Binder) (old mid : State) (a : Alt) (u v : ℕ)
    → PatternSeen names env after old mid (out-Alt a).pat u
    → Leads names env (u ∷ v ∷ []) (λ G. is_alternative G a env u v) (λ G. meant_alternative G a env u v)
    (λ G. is_right_side G (out-Alt a).rhs after v) (λ G. meant_right_side G (out-Alt a).rhs after v) after (v ∷ []) old
    mid
alternative_leads names env after old mid a u v h =
    let p = (out-Alt a).pat in
    let r = (out-Alt a).rhs in
    leads_under names env (u ∷ v ∷ []) (λ G. is_alternative G a env u v) (λ G. meant_alternative G a env u v)
    (λ G. binds G p u) (λ G. binds G p u) (λ G. right_under G r env v) (λ G. meant_right_under G r env v)
    (λ G z. is_right_side G r z v) (λ G z. meant_right_side G r z v) env after (u ∷ v ∷ []) (v ∷ []) old old mid
    (λ G ks o s. (local-under ks env v (λ k n t. MeantRightSide G k r (only n []) t) o s.1.0, s.1))
    (λ G binders g xs t.
    (subst (λ z. IsRightSide G any r g.kinds (monomorphic z) (g.types v)) (names-append g binders env) t.0, t.1))
    (λ G binders g xs t.
    (subst (λ z. MeantRightSide G g.kinds r (only z []) (g.types v)) (sym (names-append g binders env)) t.0, t.1))
    (leads_so names env (u ∷ v ∷ []) (λ G. is_alternative G a env u v) (λ G. meant_alternative G a env u v)
    (λ G. is_alternative G a env u v) (λ G. meant_alternative G a env u v)
    (λ G. under (binds G p u) (right_under G r env v)) (λ G. under (binds G p u) (meant_right_under G r env v)) env
    (u ∷ v ∷ []) old old (λ G g xs s m t. alternative_gives G a env u v g xs t)
    (λ G g xs t. alternative_takes G a env u v g xs t)
    (leads_all names env (u ∷ v ∷ []) (λ G. is_alternative G a env u v) (λ G. meant_alternative G a env u v) old))
    (λ G K r o s. h G K r s.0)

pub alternative_ok : (names : List Declared) (env after slice : List Binder) (old mid new : State) (a : Alt) (u v : ℕ)
    → slice ≡ after → PatternSeen names env after old mid (out-Alt a).pat u
    → SideInferred names slice mid new (out-Alt a).rhs v → AltInferred names env old new a u v
alternative_ok names env after slice old mid new a u v e h i =
    let r = (out-Alt a).rhs in
    leads_end names env (u ∷ v ∷ []) (λ G. is_alternative G a env u v) (λ G. meant_alternative G a env u v)
    (λ G. is_right_side G r after v) (λ G. meant_right_side G r after v) after (v ∷ []) old mid new
    (alternative_leads names env after old mid a u v h) (subst (λ z. SideInferred names z mid new r v) e i)

pub alternative_side_err : (names : List Declared) (env after slice : List Binder) (old mid : State) (a : Alt) (u v : ℕ)
    → slice ≡ after → PatternSeen names env after old mid (out-Alt a).pat u
    → SideRefused names slice mid (out-Alt a).rhs v → AltRefused names env old a u v
alternative_side_err names env after slice old mid a u v e h n =
    let r = (out-Alt a).rhs in
    leads_none names env (u ∷ v ∷ []) (λ G. is_alternative G a env u v) (λ G. meant_alternative G a env u v)
    (λ G. is_right_side G r after v) (λ G. meant_right_side G r after v) after (v ∷ []) old mid
    (alternative_leads names env after old mid a u v h) (subst (λ z. SideRefused names z mid r v) e n)

pub alternative_pattern_err : (names : List Declared) (env : List Binder) (old : State) (a : Alt) (u v : ℕ)
    → PatternRefused names old (out-Alt a).pat u → AltRefused names env old a u v
alternative_pattern_err names env old a u v h G K r o s g xs m t =
    let q = alternative_takes G a env u v g xs t in h G K r s.0 g q.0 m q.1

-- ---- right sides

pub side_ok : (names : List Declared) (env : List Binder) (old new : State) (r : Rhs) (v : ℕ) → (out-Rhs r).local ≡ []
    → ChoicesInferred names env old new (out-Rhs r).choices v → SideInferred names env old new r v
side_ok names env old new r v e h G K ready o s =
    imposed_so G (have_choices G (out-Rhs r).choices env v) (is_right_side G r env v)
    (meant_choices G (out-Rhs r).choices env v) (meant_right_side G r env v) [] old new
    (λ g xs m t. right_gives G old r env v e s.0 g xs m t) (λ g xs m t. right_takes G r env v e g xs t)
    (h G K ready o s)

pub side_err : (names : List Declared) (env : List Binder) (old : State) (r : Rhs) (v : ℕ) → (out-Rhs r).local ≡ []
    → ChoicesRefused names env old (out-Rhs r).choices v → SideRefused names env old r v
side_err names env old r v e h G K ready o s =
    none_so G (meant_choices G (out-Rhs r).choices env v) (meant_right_side G r env v) old
    (λ g xs m t. right_takes G r env v e g xs t) (h G K ready o s)

-- ---- guards

test_leaves : (G : Globals) (names : List Declared) (env : List Binder) (old mid : State) (e : Exp) → Knows G names
    → IsReady G old → AllStar old.kinds env → TestEntered old mid
    → Leaves G (has_guard G (Test e) env) (meant_guard G (Test e) env) (has_type G e env (length old.kinds))
    (meant_type G e env (length old.kinds)) old mid
test_leaves G names env old mid e K r o h =
    let n = length old.kinds in
    head_left G (has_guard G (Test e) env) (meant_guard G (Test e) env) (has_type G e env n) (meant_type G e env n)
    (var n)
    plain_boolean old mid (star ∷ []) r
    (meant-local G (old.kinds ++ star ∷ []) e env n (stars-front old.kinds (star ∷ []) env o) (new_stars old.kinds 1).0)
    (λ g xs m t. test_gives G e env n g xs t) (λ g xs m t. test_takes G old e env o g xs t) (h G K.syntax r)

-- what stands for kind `*` after a test's head
test_stars : (G : Globals) (names : List Declared) (env : List Binder) (old mid : State) → Knows G names → IsReady G old
    → AllStar old.kinds env → TestEntered old mid
    → AllStar mid.kinds env × AreStars mid.kinds (length old.kinds ∷ [])
test_stars G names env old mid K r o h =
    let same = (h G K.syntax r).same in (
      subst (λ z. AllStar z env) (sym same) (stars-front old.kinds (star ∷ []) env o),
      subst (λ z. AreStars z (length old.kinds ∷ [])) (sym same) (new_stars old.kinds 1),
    )

pub test_guard_ok : (names : List Declared) (env start after : List Binder) (old : Equations) (mid new : State)
    (x : Guard) (e : Exp) (own : ℕ) → x ≡ Test e → start ≡ [] → after ≡ start ++ env → own ≡ length old.kinds.items
    → TestEntered (state_of old) mid → ExpInferred names env mid new e own
    → GuardInferred names env after (state_of old) new x
test_guard_ok names env start after old mid new x e own is st a o h i =
    subst (λ z. GuardInferred names env after (state_of old) new z) (sym is) (λ G K r w.
    let stars = test_stars G names env (state_of old) mid K r w h in
    let l = test_leaves G names env (state_of old) mid e K r w h in (
      [],
      a ∙ ap (λ z. z ++ env) st,
      l.finish new
          (subst (λ z. ExpInferred names env mid new e z) (o ∙ known old) i G K l.ready stars.0 stars.1),
    ))

pub test_guard_err : (names : List Declared) (env : List Binder) (old : Equations) (mid : State) (x : Guard) (e : Exp)
    (own : ℕ) → x ≡ Test e → own ≡ length old.kinds.items → TestEntered (state_of old) mid
    → ExpRefused names env mid e own → GuardRefused names env (state_of old) x
test_guard_err names env old mid x e own is o h n =
    subst (λ z. GuardRefused names env (state_of old) z) (sym is) (λ G K r w s.
    let stars = test_stars G names env (state_of old) mid K r w h in
    let l = test_leaves G names env (state_of old) mid e K r w h in
    l.refuse (subst (λ z. ExpRefused names env mid e z) (o ∙ known old) n G K l.ready stars.0 stars.1))

pub test_guard_head_err : (names : List Declared) (env : List Binder) (old : State) (x : Guard) (e : Exp) → x ≡ Test e
    → TestRefused old → GuardRefused names env old x
test_guard_head_err names env old x e is h = subst (λ z. GuardRefused names env old z) (sym is) (λ G K r w s.
    form_none G (meant_guard G (Test e) env) (meant_type G e env (length old.kinds)) (var (length old.kinds))
    plain_boolean old (star ∷ []) r (λ g xs m t. test_takes G old e env w g xs t) (h G K.syntax r))

module _ (names : List Declared) (env : List Binder) (old mid : Equations) (x : Guard) (p : Pat) (e : Exp) (own : ℕ)
    (is : x ≡ Bind p e) (own_is : own ≡ length old.kinds.items) (same : mid.bindings ≡ old.bindings)
    (kinds : mid.kinds.items ≡ old.kinds.items ++ Star ∷ []) where
  abbrev of : ℕ
  of = length (map kind_term old.kinds.items)

  abbrev inner : State
  inner = with_unknowns (state_of old) (star ∷ [])

  mid_is : state_of mid ≡ inner
  mid_is = state_behind (state_of old) (state_of mid) (star ∷ []) same
      (kinds_behind old.kinds.items mid.kinds.items 1 kinds)

  bound_local : (G : Globals) → IsLocal (length inner.kinds) (binds G p of)
  bound_local G = binds-local G inner.kinds p of (new_stars (map kind_term old.kinds.items) 1).0

  exp_imposes : (next : State) → ExpInferred names env (state_of mid) next e own → (G : Globals) → Knows G names
      → IsReady G (state_of old) → AllStar (map kind_term old.kinds.items) env
      → Imposes G (has_type G e env of) (meant_type G e env of) [] inner next
  exp_imposes next i G K r o = subst (λ z. ExpInferred names env z next e of) mid_is
      (subst (λ z. ExpInferred names env (state_of mid) next e z) (own_is ∙ known old) i) G K
      (ready-with G (state_of old) (star ∷ []) r) (stars-front (map kind_term old.kinds.items) (star ∷ []) env o)
      (new_stars (map kind_term old.kinds.items) 1)

  pub bind_guard_ok : (next new : State) (after : List Binder) → ExpInferred names env (state_of mid) next e own
      → PatternSeen names env after next new p own → GuardInferred names env after (state_of old) new x
  bind_guard_ok next new after i h = subst (λ z. GuardInferred names env after (state_of old) new z) (sym is)
      (λ G K r o.
      let j = exp_imposes next i G K r o in
      let q = subst (λ z. PatternSeen names env after next new p z) (own_is ∙ known old) h G K j.ready
      (subst (λ z. slice_get z of ≡ Some star) (sym j.grows)
      (slice_get-front inner.kinds j.more of star (new_stars (map kind_term old.kinds.items) 1).0)) in
      (q.0, q.1, bind_imposes G (state_of old) next new p e env q.0 r o (bound_local G) j q.2))

  pub bind_guard_exp_err : ExpRefused names env (state_of mid) e own → GuardRefused names env (state_of old) x
  bind_guard_exp_err n = subst (λ z. GuardRefused names env (state_of old) z) (sym is)
      (λ G K r o s. bind_exp_none G (state_of old) p e env r o
      (subst (λ z. ExpRefused names env z e of) mid_is
      (subst (λ z. ExpRefused names env (state_of mid) e z) (own_is ∙ known old) n) G K
      (ready-with G (state_of old) (star ∷ []) r) (stars-front (map kind_term old.kinds.items) (star ∷ []) env o)
      (new_stars (map kind_term old.kinds.items) 1)))

  pub bind_guard_pat_err : (next : State) → ExpInferred names env (state_of mid) next e own
      → PatternRefused names next p own → GuardRefused names env (state_of old) x
  bind_guard_pat_err next i n = subst (λ z. GuardRefused names env (state_of old) z) (sym is)
      (λ G K r o s.
      let j = exp_imposes next i G K r o in
      bind_pat_none G (state_of old) next p e env r o (bound_local G) j
      (subst (λ z. PatternRefused names next p z) (own_is ∙ known old) n G K j.ready
      (subst (λ z. slice_get z of ≡ Some star) (sym j.grows)
      (slice_get-front inner.kinds j.more of star (new_stars (map kind_term old.kinds.items) 1).0))))

-- ---- guards in a row

-- the guards from a number on are left
abbrev pub GuardsLeft : List Declared → List Binder → List Guard → ℕ → List Binder → State → State → Type 0
GuardsLeft names env guards i scope old now = (e : Exp) (v : ℕ) → Leads names env (v ∷ [])
    (λ G. has_guarded G guards e env v) (λ G. meant_guarded G guards e env v)
    (λ G. has_guarded G (drop i guards) e scope v) (λ G. meant_guarded G (drop i guards) e scope v) scope (v ∷ []) old
    now

pub guards_start : (names : List Declared) (env start scope : List Binder) (guards : List Guard) (old : State)
    → start ≡ [] → scope ≡ start ++ env → GuardsLeft names env guards 0 scope old old
guards_start names env start scope guards old e a = subst (λ z. GuardsLeft names env guards 0 z old old)
    (sym (a ∙ ap (λ z. z ++ env) e))
    (λ exp v. leads_all names env (v ∷ []) (λ G. has_guarded G guards exp env v) (λ G. meant_guarded G guards exp env v)
    old)

-- the guards, with the next one in front
next_guard : (names : List Declared) (env : List Binder) (guards : List Guard) (i : ℕ) (d : Guard) (scope : List Binder)
    (old now : State) → i < length guards → GuardsLeft names env guards i scope old now → (e : Exp) (v : ℕ)
    → Leads names env (v ∷ []) (λ G. has_guarded G guards e env v) (λ G. meant_guarded G guards e env v)
    (λ G. under (has_guard G (get_or guards i d) scope) (guarded_under G (drop (i + 1) guards) e scope v))
    (λ G. under (meant_guard G (get_or guards i d) scope) (meant_guarded_under G (drop (i + 1) guards) e scope v)) scope
    (v ∷ []) old now
next_guard names env guards i d scope old now l h e v =
    let x = get_or guards i d in
    let rest = drop (i + 1) guards in
    leads_so names env (v ∷ []) (λ G. has_guarded G guards e env v) (λ G. meant_guarded G guards e env v)
    (λ G. has_guarded G (x ∷ rest) e scope v) (λ G. meant_guarded G (x ∷ rest) e scope v)
    (λ G. under (has_guard G x scope) (guarded_under G rest e scope v))
    (λ G. under (meant_guard G x scope) (meant_guarded_under G rest e scope v)) scope (v ∷ []) old now
    (λ G g xs s m t. guarded_gives G x rest e scope v g xs t) (λ G g xs t. guarded_takes G x rest e scope v g xs t)
    (subst (λ z. Leads names env (v ∷ []) (λ G. has_guarded G guards e env v) (λ G. meant_guarded G guards e env v)
    (λ G. has_guarded G z e scope v) (λ G. meant_guarded G z e scope v) scope (v ∷ []) old now) (drop_more guards i d l)
    (h e v))

pub guards_next : (names : List Declared) (env : List Binder) (guards : List Guard) (i : ℕ) (d : Guard)
    (scope slice after : List Binder) (old now mid : State) → i < length guards → slice ≡ scope
    → GuardsLeft names env guards i scope old now
    → GuardInferred names slice after now mid (get_or guards i d) → GuardsLeft names env guards (i + 1) after old mid
guards_next names env guards i d scope slice after old now mid l q h k e v =
    let x = get_or guards i d in
    let rest = drop (i + 1) guards in
    leads_under names env (v ∷ []) (λ G. has_guarded G guards e env v) (λ G. meant_guarded G guards e env v)
    (λ G. has_guard G x scope) (λ G. meant_guard G x scope) (λ G. guarded_under G rest e scope v)
    (λ G. meant_guarded_under G rest e scope v) (λ G z. has_guarded G rest e z v) (λ G z. meant_guarded G rest e z v)
    scope after (v ∷ []) (v ∷ []) old now mid
    (λ G ks o s. (local-under ks scope v (λ j n t. MeantGuarded G j rest e n t) o s.0, s))
    (λ G binders g xs t.
    (subst (λ z. HasGuarded G g.kinds rest e z (g.types v)) (names-append g binders scope) t.0, t.1))
    (λ G binders g xs t.
    (subst (λ z. MeantGuarded G g.kinds rest e z (g.types v)) (sym (names-append g binders scope)) t.0, t.1))
    (next_guard names env guards i d scope old now l h e v)
    (λ G K r o s. subst (λ z. GuardInferred names z after now mid x) q k G K r o)

pub guards_none : (names : List Declared) (env : List Binder) (guards : List Guard) (i : ℕ) (d : Guard)
    (scope slice : List Binder) (old now : State) → i < length guards → slice ≡ scope
    → GuardsLeft names env guards i scope old now → GuardRefused names slice now (get_or guards i d)
    → GuardsRefused names env old guards
guards_none names env guards i d scope slice old now l q h n e v =
    let x = get_or guards i d in
    let rest = drop (i + 1) guards in
    leads_under_none names env (v ∷ []) (λ G. has_guarded G guards e env v) (λ G. meant_guarded G guards e env v)
    (λ G. has_guard G x scope) (λ G. meant_guard G x scope) (λ G. guarded_under G rest e scope v)
    (λ G. meant_guarded_under G rest e scope v) scope (v ∷ []) old now
    (next_guard names env guards i d scope old now l h e v)
    (λ G K r o s. subst (λ z. GuardRefused names z now x) q n G K r o tt)

pub guards_end : (names : List Declared) (env : List Binder) (guards : List Guard) (i : ℕ) (scope : List Binder)
    (old now : State) → length guards ≤ i → GuardsLeft names env guards i scope old now
    → GuardsInferred names env scope old now guards
guards_end names env guards i scope old now l h e v =
    subst (λ z. Leads names env (v ∷ []) (λ G. has_guarded G guards e env v) (λ G. meant_guarded G guards e env v)
    (λ G. has_guarded G z e scope v) (λ G. meant_guarded G z e scope v) scope (v ∷ []) old now) (drop_all i guards l)
    (h e v)
