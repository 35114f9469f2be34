use Rattle.std.proofs.Common.{rules, arith}
use Rattle.project_order.proofs.OrderLemmas.{order_told, refusal_told}
use Rattle.project_order.proofs.order.build_order.Goals as goal

pub returns-in-Ok : goal.returns-in-Ok
returns-in-Ok c = order_told c.args.components.now c.args.target.now c.in_ok-names.names c.in_ok-table.table
    c.len-count.result c.in_ok-nodes.nodes c.number_of.result (search (rules, arith)) (λ q. search (rules, arith))
    (search (rules, arith)) (search (rules, arith)) c.in-Ok.order c.in_ok-named-in-Ok.field-0 (search (rules, arith))
    (search (rules, arith))

pub returns : goal.returns
returns c = refusal_told c.args.components.now c.args.target.now c.in_ok-names.names c.in_ok-table.table
    c.len-count.result c.in_ok-nodes.nodes c.number_of.result (search (rules, arith)) (λ q. search (rules, arith))
    (search (rules, arith)) (search (rules, arith)) c.in-Err.error c.order_refused.result (search (rules, arith))
    (search (rules, arith))
