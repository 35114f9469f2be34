use Rattle.hs_forms.specs.declared.fault.Fault.TheVariants.{At}
use Rattle.std.proofs.lemmas.Result.{err_from_is_err_and}
use Rattle.hs_body_forms.proofs.PartChainLemmas.{shut_failed, shut_took, shut_missed}
use Rattle.hs_body_forms.proofs.ModuleLemmas.{block_took, block_failed}
use Rattle.hs_bodies.proofs.blocks.read_top_block.Goals as goal

pub returns-in_err-parts : goal.returns-in_err-parts
returns-in_err-parts c =
    let p = err_from_is_err_and c.from_residual.result c.from_residual.ensures.1 in
    rw (p.1, p.2) (block_failed c.args.limit c.args.tokens.now _
    (shut_failed c.args.limit c.args.tokens.now _ c.in_err-parts.ensures))

pub returns-in_default : goal.returns-in_default
returns-in_default c =
    block_failed c.args.limit c.args.tokens.now (At _)
    (shut_missed c.args.limit c.args.tokens.now _ _ _ c.in_ok-parts.ensures c.in_default.ensures)

pub returns : goal.returns
returns c =
    rw c.in_ok-tree.ensures (block_took c.args.limit c.args.tokens.now _ _ _
    (shut_took c.args.limit c.args.tokens.now _ _ _ _ c.in_ok-parts.ensures c.in-Some.ensures))
