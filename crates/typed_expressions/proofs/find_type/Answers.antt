use Rattle.std.proofs.Common.{ap, ◌∙◌, ◌++◌, ◌∷◌, []}
use Rattle.std.specs.Prelude.{length}
use Rattle.bp_base.specs.declared.ty.Kind.TheVariants.{Star}
use Rattle.type_equations.specs.States.{state_of}
use Rattle.infer_patterns.proofs.ArmLemmas.{on_ok}
use Rattle.typed_expressions.proofs.TypedLemmas.{typed_ok, typed_err, none_of, uncovered_of}
use Rattle.typed_expressions.proofs.find_type.Goals as goal

pub returns-clause-typed : goal.returns-clause-typed
returns-clause-typed c = on_ok c.infer_exp.result
    (λ h. typed_ok c.args.names.now c.as_slice.result.now c.fresh.new.self c.args.exp.now c.in_ok-wanted.wanted
    (c.as_slice.ensures.value ∙ c.new-env.ensures.items) (c.in_ok-wanted.ensures.same ∙ c.new-state.ensures.bindings)
    (c.in_ok-wanted.ensures.kinds ∙ ap (λ l. l ++ Star ∷ []) c.new-state.ensures.kinds)
    (c.in_ok-wanted.ensures.first ∙ ap length c.new-state.ensures.kinds) (state_of c.infer_exp.new.state) h)
    c.infer_exp.ensures.ok

pub returns-clause-untyped : goal.returns-clause-untyped
returns-clause-untyped c = none_of c.infer_exp.result
    (λ h. typed_err c.args.names.now c.as_slice.result.now c.fresh.new.self c.args.exp.now c.in_ok-wanted.wanted
    (c.as_slice.ensures.value ∙ c.new-env.ensures.items) (c.in_ok-wanted.ensures.same ∙ c.new-state.ensures.bindings)
    (c.in_ok-wanted.ensures.kinds ∙ ap (λ l. l ++ Star ∷ []) c.new-state.ensures.kinds)
    (c.in_ok-wanted.ensures.first ∙ ap length c.new-state.ensures.kinds) h) (λ h. h) c.infer_exp.ensures.err

pub returns-clause-uncovered : goal.returns-clause-uncovered
returns-clause-uncovered c = uncovered_of c.infer_exp.result (λ h. h) (λ h. h) c.infer_exp.ensures.err
