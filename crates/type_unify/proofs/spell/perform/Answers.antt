use Rattle.std.proofs.Common.{refl, ap, ap₂, sym, ◌∙◌, ◌∷◌, [], length}
use Rattle.type_unify.specs.Written.{nodes_of}
use Rattle.type_unify.specs.Cells.{seen}
use Rattle.type_unify.specs.declared.term.Node.TheVariants.{Con}
use Rattle.type_unify.proofs.SeeingLemmas.{shows_flex_at, shows_rigid_at, shows_con_at, shows_app_at}
use Rattle.type_unify.proofs.StackingLemmas.{Performs-leaf, Performs-app, OnOk-then}
use Rattle.type_unify.proofs.spell.perform.Goals as goal

pub returns-in-Flex : goal.returns-in-Flex
returns-in-Flex c =
    let s = shows_flex_at c.args.cells.now c.args.entries.now.entries c.args.at c.walk-end.result c.in-Flex.id
    c.index-cells-end.result c.requires.stands c.walk-end.ensures c.index-cells-end.is c.in-Flex.is in
    OnOk-then c.put.result (λ h. Performs-leaf (seen c.args.cells.now c.args.entries.now.entries)
    (length c.args.cells.now) c.args.at _ _ _ _ _ refl h (ap nodes_of s)) c.put.ensures

pub returns-in-Rigid : goal.returns-in-Rigid
returns-in-Rigid c =
    let s = shows_rigid_at c.args.cells.now c.args.entries.now.entries c.args.at c.walk-end.result c.in-Rigid.id
    c.index-cells-end.result c.requires.stands c.walk-end.ensures c.index-cells-end.is c.in-Rigid.is in
    OnOk-then c.put-in-Rigid.result (λ h. Performs-leaf (seen c.args.cells.now c.args.entries.now.entries)
    (length c.args.cells.now) c.args.at _ _ _ _ _ refl h (ap nodes_of s)) c.put-in-Rigid.ensures

pub returns-in_ok-kind-in-Con : goal.returns-in_ok-kind-in-Con
returns-in_ok-kind-in-Con c =
    let s = shows_con_at c.args.cells.now c.args.entries.now.entries c.args.at c.walk-end.result c.in-Con.name
    c.in-Con.kind c.index-cells-end.result c.requires.stands c.walk-end.ensures c.index-cells-end.is c.in-Con.is in
    OnOk-then c.put-in-Con.result
    (λ h. Performs-leaf (seen c.args.cells.now c.args.entries.now.entries)
    (length c.args.cells.now) c.args.at _ _ _ _ _ refl h
    (ap nodes_of s ∙ sym (ap₂ (λ n k. Con n k ∷ []) c.in_ok-name-in-Con.ensures c.in_ok-kind-in-Con.ensures)))
    c.put-in-Con.ensures

pub returns-in-App : goal.returns-in-App
returns-in-App c =
    let s = shows_app_at c.args.cells.now c.args.entries.now.entries c.args.at c.walk-end.result c.in-App.fun
    c.in-App.arg c.index-cells-end.result c.requires.stands c.walk-end.ensures c.index-cells-end.is c.in-App.is in
    OnOk-then c.push_parts.result
    (λ h. Performs-app (seen c.args.cells.now c.args.entries.now.entries)
    (length c.args.cells.now) c.args.at c.in-App.fun c.in-App.arg _ _ _ _ h refl s.0 s.1 s.2)
    c.push_parts.ensures
