use Rattle.std.proofs.Common.{[], subst, ap, ◌∙◌, arith}
use Rattle.std.proofs.lemmas.Option.{get_or_from_slice_get}
use Rattle.bp_base.specs.declared.ident.Ident.TheVariants.{Hole}
use Rattle.bp_base.specs.Lists.{Among}
use Rattle.ident_table.specs.Numbers.{node_of, IsNodeBelow}
use Rattle.hole_unify.specs.Table.{nodes_of}
use Rattle.hole_unify.specs.Build.{built_of}
use Rattle.hole_unify.specs.Stages.{numbers_built, made_of}
use Rattle.hole_unify.proofs.StageLemmas.{hole-found, hole-below, hole-ready, module-ready, module-below}
use Rattle.hole_unify.proofs.build.find_ready.Goals as goal

pub ready_module-requires-clause-fills : goal.ready_module-requires-clause-fills
ready_module-requires-clause-fills c f h =
    let b = subst (IsNodeBelow c.args.number) c.in-Module.is c.node_at.ensures.below f
    (subst (Among f) c.as_slice-fills.ensures h) in
    omega (arith, b, c.requires.number)

pub returns-in-Hole-clause-ready : goal.returns-in-Hole-clause-ready
returns-in-Hole-clause-ready c =
    hole-found c.args.table.now c.class_hole_number-hole.result c.ready_hole.result c.ready_hole.ensures
    ∙ c.class_hole_number-hole.ensures.hole
    ∙ hole-ready (nodes_of c.args.table.now c.args.classes.now)
    (built_of c.args.table.now c.args.built.now) _ _ c.in-Hole.name
    (get_or_from_slice_get c.args.table.now c.args.number _ (Hole []) c.node_at.ensures.ident
    ∙ ap (node_of c.args.table.now) c.in-Hole.is)

pub returns-in-Hole-clause-below : goal.returns-in-Hole-clause-below
returns-in-Hole-clause-below c = hole-below _ c.class_hole_number-hole.result c.ready_hole.result c.ready_hole.ensures
    c.class_hole_number-hole.ensures.below

pub returns-in_ok-ready-in-Module-clause-ready : goal.returns-in_ok-ready-in-Module-clause-ready
returns-in_ok-ready-in-Module-clause-ready c =
    module-ready c.args.table.now c.args.classes.now c.args.built.now c.requires.stage.numbered c.requires.stage.listed
    _ _ c.in-Module.component c.in-Module.«module» c.in-Module.fills c.in_ok-ready-in-Module.ready
    (get_or_from_slice_get c.args.table.now c.args.number _ (Hole []) c.node_at.ensures.ident
    ∙ ap (node_of c.args.table.now) c.in-Module.is)
    (λ f h. let b = subst (IsNodeBelow c.args.number) c.in-Module.is c.node_at.ensures.below f h in
    omega (arith, b, c.requires.number))
    (c.in_ok-ready-in-Module.ensures ∙ ap (λ l. made_of c.in-Module.component c.in-Module.«module»
    (numbers_built c.args.classes.now c.args.built.now l)) c.as_slice-fills.ensures)

pub returns-in_ok-ready-in-Module-clause-below : goal.returns-in_ok-ready-in-Module-clause-below
returns-in_ok-ready-in-Module-clause-below c =
    module-below _ c.args.classes.now c.args.built.now c.in-Module.component c.in-Module.«module»
    c.as_slice-fills.result.now c.in_ok-ready-in-Module.ready c.requires.stage.below c.in_ok-ready-in-Module.ensures
