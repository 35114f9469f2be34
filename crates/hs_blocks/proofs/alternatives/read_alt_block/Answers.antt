use Rattle.std.proofs.Common.{refl}
use Rattle.std.proofs.lemmas.Result.{err_from_is_err_and}
use Rattle.hs_block_forms.specs.Blocks.{is_right_brace}
use Rattle.hs_block_forms.proofs.BodyLemmas.{block_failed, block_missed, block_took}
use Rattle.hs_blocks.proofs.alternatives.read_alt_block.Goals as goal

pub returns-in_err-items : goal.returns-in_err-items
returns-in_err-items g c =
    let p = err_from_is_err_and c.from_residual.result c.from_residual.ensures.1 in
    rw (p.1, p.2) (block_failed c.args.limit c.args.tokens.now _ c.in_err-items.ensures)

pub returns-in_default : goal.returns-in_default
returns-in_default g c =
    block_missed c.args.limit is_right_brace refl c.args.tokens.now _ _ _ c.in_ok-items.ensures c.in_default.ensures

pub returns : goal.returns
returns g c =
    rw c.in_ok-tree.ensures (block_took c.args.limit c.args.tokens.now _ _ _ _ c.in_ok-items.ensures
    c.in-Some.ensures)
