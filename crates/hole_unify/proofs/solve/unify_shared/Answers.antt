use Rattle.std.proofs.Common.{length, sym, ◌∙◌, [], subst}
use Rattle.hole_unify.specs.Table.{nodes_of}
use Rattle.hole_unify.specs.Build.{built_of, AreBuiltBelow, answer}
use Rattle.hole_unify.specs.Solve.{IsFree, IsSettlement}
use Rattle.hole_unify.proofs.SettlingLemmas.{read-below}
use Rattle.hole_unify.proofs.SolvingLemmas.{answer-found}
use Rattle.hole_unify.proofs.solve.unify_shared.Goals as goal

pub build-requires-clause-classes : goal.build-requires-clause-classes
build-requires-clause-classes c =
    let f : IsFree c.args.equations.now c.in-Free.table c.in-Free.classes.items =
    subst (IsSettlement c.args.equations.now) c.in-Free.is
    (subst (λ es. IsSettlement es c.in_ok-table.field-0) c.as_slice-all.ensures c.in_ok-table.ensures) in
    read-below c.args.equations.now c.in-Free.table c.in-Free.classes.items c.as_slice.result.now
    (record { long = f.length; settled = f.settled; same = c.as_slice.ensures.value })

pub list_answer-requires-clause-below : goal.list_answer-requires-clause-below
list_answer-requires-clause-below c = subst (AreBuiltBelow (length c.build.new.table))
    (sym c.as_slice-in-Free-3.ensures.value) c.in_ok-built-in-Free.ensures.below

pub returns-in_ok-fills-in-Free-clause-ok : goal.returns-in_ok-fills-in-Free-clause-ok
returns-in_ok-fills-in-Free-clause-ok c =
    let f : IsFree c.args.equations.now c.in-Free.table c.in-Free.classes.items =
    subst (IsSettlement c.args.equations.now) c.in-Free.is
    (subst (λ es. IsSettlement es c.in_ok-table.field-0) c.as_slice-all.ensures c.in_ok-table.ensures) in
    (answer-found c.args.equations.now c.in-Free.table c.build.new.table c.as_slice.result.now
    c.in_ok-built-in-Free.built.items c.in_ok-fills-in-Free.fills c.requires
    (subst (IsFree c.args.equations.now c.in-Free.table) (sym c.as_slice.ensures.value) f)
    c.in_ok-built-in-Free.ensures.grows c.in_ok-built-in-Free.ensures.stands c.in_ok-built-in-Free.ensures.ends
    (c.in_ok-fills-in-Free.ensures.fills ∙ (λ w. answer
    (built_of c.build.new.table (c.as_slice-in-Free-3.ensures.value w))
    (nodes_of c.build.new.table ((c.as_slice-in-Free-2.ensures.value ∙ sym c.as_slice.ensures.value) w)) []))).0

pub returns-in_ok-fills-in-Free-clause-occurs : goal.returns-in_ok-fills-in-Free-clause-occurs
returns-in_ok-fills-in-Free-clause-occurs c =
    let f : IsFree c.args.equations.now c.in-Free.table c.in-Free.classes.items =
    subst (IsSettlement c.args.equations.now) c.in-Free.is
    (subst (λ es. IsSettlement es c.in_ok-table.field-0) c.as_slice-all.ensures c.in_ok-table.ensures) in
    (answer-found c.args.equations.now c.in-Free.table c.build.new.table c.as_slice.result.now
    c.in_ok-built-in-Free.built.items c.in_ok-fills-in-Free.fills c.requires
    (subst (IsFree c.args.equations.now c.in-Free.table) (sym c.as_slice.ensures.value) f)
    c.in_ok-built-in-Free.ensures.grows c.in_ok-built-in-Free.ensures.stands c.in_ok-built-in-Free.ensures.ends
    (c.in_ok-fills-in-Free.ensures.fills ∙ (λ w. answer
    (built_of c.build.new.table (c.as_slice-in-Free-3.ensures.value w))
    (nodes_of c.build.new.table ((c.as_slice-in-Free-2.ensures.value ∙ sym c.as_slice.ensures.value) w)) []))).1
