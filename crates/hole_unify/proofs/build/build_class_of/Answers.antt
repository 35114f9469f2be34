use Rattle.std.proofs.Common.{ℕ, ◌<◌, List, length, get_or, subst, ap, sym, ◌∙◌, arith}
use Rattle.std.specs.Prelude.{Option}
use Rattle.std.specs.Option.{option_map}
use Rattle.hole_unify.specs.Stages.{ready_entry, unbuilt_classes, IsStage, Follows}
use Rattle.hole_unify.proofs.TableLemmas.{Among-get_or}
use Rattle.hole_unify.proofs.StageLemmas.{class-stage, class-follows, class-fewer}
use Rattle.hole_unify.proofs.build.build_class_of.Goals as goal

pub set_built-requires : goal.set_built-requires
set_built-requires c =
    let lt : get_or c.args.classes.now c.args.number 0 < length c.args.classes.now =
    c.requires.stage.within _ (Among-get_or c.args.classes.now c.args.number 0 c.requires.number) in
    omega (arith, lt, c.requires.stage.sized)

pub returns-in_ok-ident-in-Some-clause-stage : goal.returns-in_ok-ident-in-Some-clause-stage
returns-in_ok-ident-in-Some-clause-stage c =
    subst (IsStage c.put_ready.new.table c.args.classes.now) (sym c.set_built.ensures)
    (class-stage c.args.table.now c.args.classes.now c.args.built.now c.requires.stage c.args.number c.requires.number
    c.in-Some.ready c.put_ready.new.table c.in_ok-ident-in-Some.ident
    (sym (ap (option_map (ready_entry c.args.table.now (get_or c.args.classes.now c.args.number 0))) c.in-Some.is)
    ∙ c.in_ok-ready.ensures.ready)
    c.in_ok-ident-in-Some.ensures.grows c.in_ok-ident-in-Some.ensures.table c.in_ok-ident-in-Some.ensures.number)

pub returns-in_ok-ident-in-Some-clause-steps : goal.returns-in_ok-ident-in-Some-clause-steps
returns-in_ok-ident-in-Some-clause-steps c =
    let found = sym (ap (option_map (ready_entry c.args.table.now (get_or c.args.classes.now c.args.number 0)))
    c.in-Some.is) ∙ c.in_ok-ready.ensures.ready in
    subst (λ (l : List (Option ℕ)). Follows c.args.classes.now c.args.table.now c.args.built.now c.put_ready.new.table l
    × (unbuilt_classes l < unbuilt_classes c.args.built.now)) (sym c.set_built.ensures) (
      class-follows c.args.table.now c.args.classes.now c.args.built.now c.requires.stage c.args.number
          c.requires.number c.in-Some.ready c.put_ready.new.table c.in_ok-ident-in-Some.ident
          found c.in_ok-ident-in-Some.ensures.grows c.in_ok-ident-in-Some.ensures.table
          c.in_ok-ident-in-Some.ensures.number,
      class-fewer c.args.table.now c.args.classes.now c.args.built.now c.requires.stage c.args.number c.requires.number
          c.in-Some.ready c.put_ready.new.table c.in_ok-ident-in-Some.ident
          found c.in_ok-ident-in-Some.ensures.grows c.in_ok-ident-in-Some.ensures.table
          c.in_ok-ident-in-Some.ensures.number,
    )
