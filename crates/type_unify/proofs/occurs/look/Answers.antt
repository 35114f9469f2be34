use Rattle.std.proofs.Common.{refl, ap, length}
use Rattle.type_terms.specs.Terms.{occurs_in}
use Rattle.type_unify.specs.Cells.{seen}
use Rattle.type_unify.proofs.SeeingLemmas.{shows_flex_at, shows_rigid_at, shows_con_at, shows_app_at}
use Rattle.type_unify.proofs.StackingLemmas.{Looks-var, Unseen-leaf, Unseen-app}
use Rattle.type_unify.proofs.occurs.look.Goals as goal

pub returns-in-Flex : goal.returns-in-Flex
returns-in-Flex c =
    Looks-var (seen c.args.cells.now c.args.entries.now.entries)
    (length c.args.cells.now) c.args.id c.args.at c.in-Flex.other _ _ _ refl
    (shows_flex_at c.args.cells.now c.args.entries.now.entries c.args.at c.walk-end.result _ _ c.requires.stands
    c.walk-end.ensures c.index-cells-end.is c.in-Flex.is) refl

pub returns-in-Rigid : goal.returns-in-Rigid
returns-in-Rigid c =
    Unseen-leaf (seen c.args.cells.now c.args.entries.now.entries)
    (length c.args.cells.now) c.args.id c.args.at _ _ refl
    (ap (occurs_in c.args.id) (shows_rigid_at c.args.cells.now c.args.entries.now.entries c.args.at c.walk-end.result _
    _ c.requires.stands c.walk-end.ensures c.index-cells-end.is c.in-Rigid.is))

pub returns-in-Con : goal.returns-in-Con
returns-in-Con c =
    Unseen-leaf (seen c.args.cells.now c.args.entries.now.entries)
    (length c.args.cells.now) c.args.id c.args.at _ _ refl
    (ap (occurs_in c.args.id) (shows_con_at c.args.cells.now c.args.entries.now.entries c.args.at c.walk-end.result _ _
    _ c.requires.stands c.walk-end.ensures c.index-cells-end.is c.in-Con.is))

pub returns-in_ok-push_both-in-App : goal.returns-in_ok-push_both-in-App
returns-in_ok-push_both-in-App c =
    let s = shows_app_at c.args.cells.now c.args.entries.now.entries c.args.at c.walk-end.result c.in-App.fun
    c.in-App.arg c.index-cells-end.result c.requires.stands c.walk-end.ensures c.index-cells-end.is c.in-App.is in
    Unseen-app (seen c.args.cells.now c.args.entries.now.entries)
    (length c.args.cells.now) c.args.id c.args.at c.in-App.fun c.in-App.arg _ _ c.in_ok-push_both-in-App.ensures s.0
    s.1 s.2
