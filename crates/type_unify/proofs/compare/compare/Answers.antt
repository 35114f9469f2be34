use Rattle.type_unify.proofs.SeeingLemmas.{same_flexes, BindOf-two, BindOf-left, BindOf-right, Tells-nodes, IfNone-use}
use Rattle.std.proofs.Common.{sym, ap, ◌∙◌}
use Rattle.type_unify.specs.Types.{bare}
use Rattle.type_unify.specs.Cells.{seen}
use Rattle.type_unify.proofs.compare.compare.Goals as goal

pub returns-then-one-other : goal.returns-then-one-other
returns-then-one-other c =
    ap bare (sym c.walk-one.ensures.same ∙ ap (seen c.args.cells.now c.args.entries.now.entries) c.if-one-other.true
    ∙ c.walk-other.ensures.same)

pub returns-then-id-last : goal.returns-then-id-last
returns-then-id-last c =
    same_flexes c.args.cells.now c.args.entries.now.entries c.args.one c.walk-one.result c.args.other
    c.walk-other.result c.in-Some-Some.id c.in-Some-Some.last c.index-cells-one.result c.index-cells-other.result
    c.requires.stands (record { walked = c.walk-one.ensures; is = c.index-cells-one.is })
    (record { walked = c.walk-other.ensures; is = c.index-cells-other.is }) c.in-Some-Some.ensures.some
    c.in-Some-Some.ensures'.some c.if-id-last.true

pub returns-else-id-last : goal.returns-else-id-last
returns-else-id-last c =
    BindOf-two c.args.cells.now c.args.entries.now.entries c.args.one c.walk-one.result c.args.other c.walk-other.result
    c.in-Some-Some.id c.in-Some-Some.last c.index-cells-one.result c.index-cells-other.result c.requires.stands
    (record { walked = c.walk-one.ensures; is = c.index-cells-one.is })
    (record { walked = c.walk-other.ensures; is = c.index-cells-other.is }) c.in-Some-Some.ensures.some
    c.in-Some-Some.ensures'.some c.in-Some-Some.ensures.in_range c.if-id-last.false

pub returns-in-Some-None : goal.returns-in-Some-None
returns-in-Some-None c =
    BindOf-left c.args.cells.now c.args.entries.now.entries c.args.one c.walk-one.result c.args.other
    c.walk-other.result c.in-Some-None.id c.index-cells-one.result c.index-cells-other.result c.requires.stands
    (record { walked = c.walk-one.ensures; is = c.index-cells-one.is })
    (record { walked = c.walk-other.ensures; is = c.index-cells-other.is }) c.in-Some-None.ensures.some
    c.in-Some-None.ensures'.none c.in-Some-None.ensures.in_range

pub returns-in-None-Some : goal.returns-in-None-Some
returns-in-None-Some c =
    BindOf-right c.args.cells.now c.args.entries.now.entries c.args.one c.walk-one.result c.args.other
    c.walk-other.result c.in-None-Some.id c.index-cells-one.result c.index-cells-other.result c.requires.stands
    (record { walked = c.walk-one.ensures; is = c.index-cells-one.is })
    (record { walked = c.walk-other.ensures; is = c.index-cells-other.is })
    (IfNone-use c.flex_of.result c.in-None-Some.is-0 c.flex_of.ensures.none) c.in-None-Some.ensures.some
    c.in-None-Some.ensures.in_range

pub returns-in-None-None : goal.returns-in-None-None
returns-in-None-None c =
    Tells-nodes c.args.cells.now c.args.entries.now.entries c.args.one c.walk-one.result c.args.other
    c.walk-other.result c.index-cells-one.result c.index-cells-other.result c.differ.result c.requires.stands
    (record { walked = c.walk-one.ensures; is = c.index-cells-one.is })
    (record { walked = c.walk-other.ensures; is = c.index-cells-other.is })
    (IfNone-use c.flex_of.result c.in-None-None.is-0 c.flex_of.ensures.none) c.in-None-None.ensures.none
    c.differ.ensures
