-- Each return is a lemma of `BracketLemmas`.
use Rattle.std.proofs.lemmas.Result.{err_from_is_err_and}
use Rattle.hs_forms.specs.Limits.{lowered}
use Rattle.hs_operand_forms.proofs.BracketLemmas.{section_op_failed, section_chain_failed, section_missed, section_took}
use Rattle.hs_operands.proofs.brackets.read_section.Goals as goal

pub returns-in_err-op : goal.returns-in_err-op
returns-in_err-op g c =
    let p = err_from_is_err_and c.from_residual.result c.from_residual.ensures.1 in
    rw (p.1, p.2) (section_op_failed c.args.limit c.args.tokens.now c.requires.opens c.requires.room _
    (c.in_err-op.ensures (lowered c.args.limit 1)))

pub returns-in_err-chain : goal.returns-in_err-chain
returns-in_err-chain g c =
    let p = err_from_is_err_and c.from_residual-in_err-chain.result c.from_residual-in_err-chain.ensures.1 in
    rw (p.1, p.2) (section_chain_failed c.args.limit c.args.tokens.now c.requires.opens c.requires.room
    c.in_ok-op.op.tree _ _ (c.in_ok-op.ensures (lowered c.args.limit 1)) _ c.lower.ensures _ c.in_err-chain.ensures)

pub returns-in_default : goal.returns-in_default
returns-in_default g c =
    section_missed c.args.limit c.args.tokens.now c.requires.opens c.requires.room
    c.in_ok-op.op.tree _ _ (c.in_ok-op.ensures (lowered c.args.limit 1)) _ c.lower.ensures c.in_ok-chain.chain.tree _ _
    c.in_ok-chain.ensures c.in_default.ensures

pub returns : goal.returns
returns g c =
    rw c.in_ok-tree.ensures
    (section_took c.args.limit c.args.tokens.now c.requires.opens c.requires.room
    c.in_ok-op.op.tree _ _ (c.in_ok-op.ensures (lowered c.args.limit 1)) _ c.lower.ensures c.in_ok-chain.chain.tree _ _
    _ c.in_ok-chain.ensures c.in-Some.ensures)
