use Rattle.std.proofs.Common.{ap, ap₂, sym, ◌∙◌, ◌∷◌, List}
use Rattle.type_terms.specs.Terms.{con}
use Rattle.type_unify.specs.Types.{Plain, named}
use Rattle.type_unify.specs.Written.{read_node}
use Rattle.type_unify.specs.declared.cell.Cell.TheVariants.{Flex, Rigid, Con}
use Rattle.type_unify.proofs.StackingLemmas.{OnOk-both}
use Rattle.type_unify.proofs.TakingLemmas.{Took-cell}
use Rattle.type_unify.proofs.take_in.take_node.Goals as goal

pub returns-in-Flex-clause-ok : goal.returns-in-Flex-clause-ok
returns-in-Flex-clause-ok c =
    OnOk-both c.put.result
    (λ g a. Took-cell c.args.node.now c.args.cells.now.items c.put.new.cells.items c.args.stack.now.items
    c.put.new.stack.items (Flex c.in-Flex.id) g a tt (λ (ts : List Plain). ap (λ n. read_node n ts) c.in-Flex.is))
    c.put.ensures.cells c.put.ensures.stack

pub returns-in-Rigid-clause-ok : goal.returns-in-Rigid-clause-ok
returns-in-Rigid-clause-ok c =
    OnOk-both c.put-in-Rigid.result
    (λ g a. Took-cell c.args.node.now c.args.cells.now.items c.put-in-Rigid.new.cells.items c.args.stack.now.items
    c.put-in-Rigid.new.stack.items (Rigid c.in-Rigid.id) g a tt
    (λ (ts : List Plain). ap (λ n. read_node n ts) c.in-Rigid.is))
    c.put-in-Rigid.ensures.cells c.put-in-Rigid.ensures.stack

pub returns-in_ok-kind-in-Con-clause-ok : goal.returns-in_ok-kind-in-Con-clause-ok
returns-in_ok-kind-in-Con-clause-ok c =
    OnOk-both c.put-in-Con.result
    (λ g a. Took-cell c.args.node.now c.args.cells.now.items c.put-in-Con.new.cells.items c.args.stack.now.items
    c.put-in-Con.new.stack.items (Con c.in_ok-name-in-Con.name c.in_ok-kind-in-Con.kind) g a tt
    (λ (ts : List Plain). ap (λ n. read_node n ts) c.in-Con.is
    ∙ sym (ap₂ (λ n k. con (named n k) ∷ ts) c.in_ok-name-in-Con.ensures c.in_ok-kind-in-Con.ensures)))
    c.put-in-Con.ensures.cells c.put-in-Con.ensures.stack
