-- What the stages of a build tell, from what their steps tell.
use Rattle.std.proofs.Common.{◌≡◌, inl, inr, ℕ, Option, List, Ok, Err, refl, ◌∙◌}
use Rattle.bp_base.specs.Texts.{Text}
use Rattle.bp_base.specs.declared.defect.Refusal.{Refusal}
use Rattle.bp_checks.specs.Check.{Check, ◌>>=◌, given}
use Rattle.bp_checks.specs.Refused.{Refused, OnRefusal}
use Rattle.bp_checks.specs.Stop.{Tells, stop_of}
use Rattle.bp_checks.specs.declared.stop.Stop.{Stop}
use Rattle.bp_checks.proofs.RefusedLemmas.{OnStop-map, OnRefusal-map, OnRefusal-stops}
use Rattle.bp_edges.specs.declared.files.File.{File}
use Rattle.cabal_component.specs.declared.component.Component.{Component}
use Rattle.hs_plain.specs.declared.plain.PlainModule.{PlainModule}
use Rattle.project_sources.specs.declared.project.Project.{Project}
use Rattle.project_sources.specs.declared.sources.Input.{Input}
use Rattle.project_sources.specs.Limits.{limited}
use Rattle.project_sources.specs.Project.{project_at}
use Rattle.project_sources.specs.Sources.{gathered}
use Rattle.project_order.specs.Order.{build_order}
use Rattle.plain_check.specs.Given.{source_read, typed}
use Rattle.backpack_run.specs.declared.build.Built.{Built}
use Rattle.backpack_run.specs.declared.plan.Plan.{Plan}
use Rattle.backpack_run.specs.Given.{reached, planned, plan_of, own_module, first_bytes, built_of, read_one, checked_one}
use Rattle.backpack_run.specs.Given.{all_checked, closed, built}

-- a pure step behind a reading: its refusal and its answer
module _ (told : Option (List File)) {B C : Type 0} (s : List File → Check B Refused) (t : B → Check C Refused) (b : B)
    (h : Tells told s (Ok b)) where
  then_refused : (refusal : Refusal) → OnRefusal refusal (t b).fails
      → Tells told (λ (files : List File). s files >>= t) (Err (stop_of refusal))
  then_refused refusal k = λ files m. OnRefusal-stops refusal (s files >>= t).fails
      (OnRefusal-map refusal (t b).fails (s files >>= t).fails (λ r z. inr (b, h files m, z)) k)

  then_told : (c : C) → (t b).passes c → Tells told (λ (files : List File). s files >>= t) (Ok c)
  then_told c k = λ files m. (b, h files m, k)

first_stopped : (told : Option (List File)) {B C : Type 0} (s : List File → Check B Refused) (t : B → Check C Refused)
    (stop : Stop) → Tells told s (Err stop) → Tells told (λ (files : List File). s files >>= t) (Err stop)
first_stopped told s t stop h = λ files m. OnStop-map stop (s files).fails (s files >>= t).fails (λ r z. inl z) (h files m)

module _ (told : Option (List File)) (target : Text) where
  abbrev rest_of_plan : Project → Check Plan Refused
  rest_of_plan p = build_order p.components target >>= λ order. reached p order >>= λ cs. given (plan_of p cs)

  abbrev projects : List File → Check Project Refused
  projects files = project_at limited files

  pub plan_stopped : (stop : Stop) → Tells told projects (Err stop)
      → Tells told (λ (files : List File). planned limited files target) (Err stop)
  unfolding planned
  plan_stopped stop h = first_stopped told projects rest_of_plan stop h

  module _ (p : Project) (h : Tells told projects (Ok p)) where
    pub plan_order_refused : (refusal : Refusal) → OnRefusal refusal (build_order p.components target).fails
        → Tells told (λ (files : List File). planned limited files target) (Err (stop_of refusal))
    unfolding planned
    plan_order_refused refusal k = then_refused told projects rest_of_plan p h refusal
        (OnRefusal-map refusal (build_order p.components target).fails (rest_of_plan p).fails (λ r z. inl z) k)

    module _ (order : List Text) (k : (build_order p.components target).passes order) where
      pub plan_reach_refused : (refusal : Refusal) → OnRefusal refusal (reached p order).fails
          → Tells told (λ (files : List File). planned limited files target) (Err (stop_of refusal))
      unfolding planned
      plan_reach_refused refusal m = then_refused told projects rest_of_plan p h refusal
          (OnRefusal-map refusal (reached p order).fails (rest_of_plan p).fails (λ r z. inr (order, k, inl z)) m)

      pub plan_told : (cs : List Component) (plan : Plan) → (reached p order).passes cs → plan ≡ plan_of p cs
          → Tells told (λ (files : List File). planned limited files target) (Ok plan)
      unfolding planned
      plan_told cs plan m e = then_told told projects rest_of_plan p h plan (order, k, (cs, m, e))

module _ (told : Option (List File)) (seen : ℕ) (c : Component) where
  abbrev module_of : Input → Check PlainModule Refused
  module_of i = source_read limited.nesting i.component.name (own_module i.component) (first_bytes i.sources)

  abbrev rest_of_reading : Input → Check Built Refused
  rest_of_reading i = module_of i >>= λ m. given (built_of i m)

  abbrev inputs : List File → Check Input Refused
  inputs files = gathered limited files seen c

  pub read_stopped : (stop : Stop) → Tells told inputs (Err stop)
      → Tells told (λ (files : List File). read_one limited files seen c) (Err stop)
  unfolding read_one
  read_stopped stop h = first_stopped told inputs rest_of_reading stop h

  module _ (i : Input) (h : Tells told inputs (Ok i)) where
    pub read_refused : (refusal : Refusal) → OnRefusal refusal (module_of i).fails
        → Tells told (λ (files : List File). read_one limited files seen c) (Err (stop_of refusal))
    unfolding read_one
    read_refused refusal k = then_refused told inputs rest_of_reading i h refusal
        (OnRefusal-map refusal (module_of i).fails (rest_of_reading i).fails (λ r z. inl z) k)

    pub read_told : (m : PlainModule) (b : Built) → (module_of i).passes m → b ≡ built_of i m
        → Tells told (λ (files : List File). read_one limited files seen c) (Ok b)
    unfolding read_one
    read_told m b k e = then_told told inputs rest_of_reading i h b (m, k, e)

  abbrev rest_of_check : Built → Check Built Refused
  rest_of_check b = typed b.name b.plain >>= λ _. given b

  abbrev readings : List File → Check Built Refused
  readings files = read_one limited files seen c

  pub check_stopped : (stop : Stop) → Tells told readings (Err stop)
      → Tells told (λ (files : List File). checked_one limited files seen c) (Err stop)
  unfolding checked_one
  check_stopped stop h = first_stopped told readings rest_of_check stop h

  module _ (b : Built) (h : Tells told readings (Ok b)) where
    pub check_refused : (refusal : Refusal) → OnRefusal refusal (typed b.name b.plain).fails
        → Tells told (λ (files : List File). checked_one limited files seen c) (Err (stop_of refusal))
    unfolding checked_one
    check_refused refusal k = then_refused told readings rest_of_check b h refusal
        (OnRefusal-map refusal (typed b.name b.plain).fails (rest_of_check b).fails (λ r z. inl z) k)

    pub check_told : (u : Unit {0}) → (typed b.name b.plain).passes u
        → Tells told (λ (files : List File). checked_one limited files seen c) (Ok b)
    unfolding checked_one
    check_told u k = then_told told readings rest_of_check b h b (u, k, refl)

module _ (told later : Option (List File)) (same : later ≡ told) (target : Text) where
  abbrev plans : List File → Check Plan Refused
  plans files = planned limited files target

  abbrev checks : Plan → List File → Check (List Built) Refused
  checks plan files = all_checked limited files plan.bytes plan.components

  pub built_stopped : (stop : Stop) → Tells told plans (Err stop)
      → Tells told (λ (files : List File). built limited files target) (Err stop)
  unfolding built
  built_stopped stop h = λ files m. OnStop-map stop (plans files).fails (built limited files target).fails (λ r z. inl z)
      (h files m)

  module _ (plan : Plan) (h : Tells told plans (Ok plan)) where
    pub built_check_stopped : (stop : Stop) → Tells later (checks plan) (Err stop)
        → Tells told (λ (files : List File). built limited files target) (Err stop)
    unfolding built
    built_check_stopped stop k = λ files m. OnStop-map stop (checks plan files).fails (built limited files target).fails
        (λ r z. inr (plan, h files m, inl z)) (k files (same ∙ m))

    module _ (bs : List Built) (k : Tells later (checks plan) (Ok bs)) where
      pub built_refused : (refusal : Refusal) → OnRefusal refusal (closed bs target).fails
          → Tells told (λ (files : List File). built limited files target) (Err (stop_of refusal))
      unfolding built
      built_refused refusal e = λ files m. OnRefusal-stops refusal (built limited files target).fails
          (OnRefusal-map refusal (closed bs target).fails (built limited files target).fails
          (λ r z. inr (plan, h files m, inr (bs, k files (same ∙ m), z))) e)

      pub built_told : (text : Text) → (closed bs target).passes text
          → Tells told (λ (files : List File). built limited files target) (Ok text)
      unfolding built
      built_told text e = λ files m. (plan, h files m, (bs, k files (same ∙ m), e))
