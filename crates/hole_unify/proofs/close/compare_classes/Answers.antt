use Rattle.hole_unify.proofs.PairingLemmas.{compared-heads, compared-pairs, compared-below}
use Rattle.hole_unify.proofs.close.compare_classes.Goals as goal

pub returns-in_ok-heads-in-Some-find_module-clause-heads :
    goal.returns-in_ok-heads-in-Some-find_module-clause-heads
returns-in_ok-heads-in-Some-find_module-clause-heads c =
    compared-heads c.args.table.now c.in-Some.one c.in-Some-find_module.other c.node_at.result.now
    c.node_at-in-Some-find_module.result.now _ _ c.node_at.ensures.ident c.node_at-in-Some-find_module.ensures.ident
    c.in-Some.ensures.module c.in-Some-find_module.ensures.module
    _ c.in_ok-heads-in-Some-find_module.ensures.heads

pub returns-in_ok-heads-in-Some-find_module-clause-pairs :
    goal.returns-in_ok-heads-in-Some-find_module-clause-pairs
returns-in_ok-heads-in-Some-find_module-clause-pairs c =
    compared-pairs c.args.table.now c.in-Some.one c.in-Some-find_module.other c.node_at.result.now
    c.node_at-in-Some-find_module.result.now _ _ c.node_at.ensures.ident c.node_at-in-Some-find_module.ensures.ident
    c.in-Some.ensures.module c.in-Some-find_module.ensures.module
    _ _ c.in_ok-heads-in-Some-find_module.ensures.pairs

pub returns-in_ok-heads-in-Some-find_module-clause-below :
    goal.returns-in_ok-heads-in-Some-find_module-clause-below
returns-in_ok-heads-in-Some-find_module-clause-below c =
    compared-below c.args.table.now c.in-Some.one c.in-Some-find_module.other c.node_at.result.now
    c.node_at-in-Some-find_module.result.now c.in-Some.ensures.below c.in-Some-find_module.ensures.below
    c.node_at.ensures.below c.node_at-in-Some-find_module.ensures.below
    _ _ c.requires.below c.in_ok-heads-in-Some-find_module.ensures.pairs
