-- What a walk over a project's nodes says of its order.
use Rattle.std.proofs.Common.{◌≡◌, ℕ, List, [], ◌∷◌, Err, map, sym, ap, ◌∙◌, subst}
use Rattle.std.specs.HashMap.{HashMap}
use Rattle.bp_base.specs.Texts.{Text}
use Rattle.bp_base.specs.declared.defect.Refusal.{Refusal}
use Rattle.bp_checks.specs.BuildOrder.{Asks, IsAbsent}
use Rattle.bp_checks.specs.Check.{IsExact}
use Rattle.bp_checks.specs.Refused.{Refused, OnRefusal}
use Rattle.bp_checks.specs.Walk.{WalkStop}
use Rattle.bp_checks.specs.Walk.WalkStop.{Cycle, Blocked}
use Rattle.bp_checks.proofs.CheckLemmas.{IsExact-refusing}
use Rattle.bp_checks.proofs.RefusedLemmas.{OnRefusal-map}
use Rattle.bp_checks.proofs.WalkLemmas.{IsExact-walk}
use Rattle.graph_walk.specs.declared.walk.Node.{Node}
use Rattle.graph_walk.specs.declared.walk.Use.{Use}
use Rattle.graph_walk.specs.declared.walk.WalkError.{WalkError}
use Rattle.graph_walk.specs.declared.walk.WalkError.TheVariants as e
use Rattle.graph_walk.specs.Graph.{walk_from, ChecksWalk}
use Rattle.cabal_component.specs.declared.component.Component.{Component}
use Rattle.project_order.specs.Order.{build_order, deps_in, is_listed, order_refused}
use Rattle.project_order.specs.Numbers.{number_in, number_at, name_at, all_names, nodes_of, stop_of, RefusesAt}
use Rattle.project_order.proofs.NumberLemmas.{order-named, stop-named}

module _ {S : Type 0} (cs : List Component) (target : Text) (ns : List Text) (table : HashMap Text ℕ S) (count : ℕ)
    (nodes : List Node) (start : ℕ) (all : ns ≡ all_names cs target)
    (numbers : (q : Text) → number_at table count q ≡ number_in ns q)
    (made : nodes ≡ nodes_of (number_at table count) cs) (first : start ≡ number_at table count target) where
  numbers-all : (q : Text) → number_at table count q ≡ number_in (all_names cs target) q
  numbers-all q = numbers q ∙ ap (λ (xs : List Text). number_in xs q) all

  same-nodes : (P : List Node → ℕ → Type 0) → P nodes start
      → P (nodes_of (number_at table count) cs) (number_at table count target)
  same-nodes P h = subst (λ (v : ℕ). P (nodes_of (number_at table count) cs) v) first
      (subst (λ (xs : List Node). P xs start) made h)

  -- an order of the nodes, by names, is the answer
  pub order_told : (order : List ℕ) (told : List Text) → (walk_from nodes (start ∷ [])).passes order
      → told ≡ map (name_at ns) order → (build_order cs target).passes told
  order_told order told v e =
      subst (λ (xs : List Text). (build_order cs target).passes xs)
      (sym (e ∙ ap (λ (xs : List Text). map (name_at xs) order) all))
      (order-named cs target (number_at table count) numbers-all order
      (same-nodes (λ xs v. (walk_from xs (v ∷ [])).passes order) v))

  stopped : (s : WalkStop ℕ Use) (r : Refused) → (walk_from nodes (start ∷ [])).fails s
      → r ≡ order_refused (stop_of (name_at ns) s) → (build_order cs target).fails r
  stopped s r v e =
      subst (λ (q : Refused). (build_order cs target).fails q)
      (sym (e ∙ ap (λ (xs : List Text). order_refused (stop_of (name_at xs) s)) all))
      (stop-named cs target (number_at table count) numbers-all s
      (same-nodes (λ xs v. (walk_from xs (v ∷ [])).fails s) v))

  -- where the walk stops, the refusal is that of the order
  pub refusal_told : (error : WalkError) (refusal : Refusal) → ChecksWalk (walk_from nodes (start ∷ [])) (Err error)
      → RefusesAt (name_at ns) error refusal → OnRefusal refusal (build_order cs target).fails
  refusal_told (e.Cycle at) refusal v h =
      OnRefusal-map refusal _ (build_order cs target).fails (λ r is. stopped (Cycle at) r v is) h
  refusal_told (e.Absent wanted) refusal v h =
      OnRefusal-map refusal _ (build_order cs target).fails (λ r is. stopped (Blocked wanted) r v is) h
  refusal_told e.NoMemory refusal v h = subst (λ (x : Refusal). OnRefusal x (build_order cs target).fails) (sym h) tt

-- a target has one order, or one refusal
pub IsExact-build_order : (cs : List Component) (target : Text) → IsExact (build_order cs target)
unfolding build_order
IsExact-build_order cs target = IsExact-refusing order_refused _
    (IsExact-walk (λ e. e.name) (Asks (deps_in cs)) (IsAbsent (is_listed cs)) (λ a xs ys p q. p ∙ sym q)
    (λ path e r q x y. x.1 ∙ sym y.1) _)
