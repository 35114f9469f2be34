use Rattle.std.proofs.lemmas.Result.{err_from_is_err_and}
use Rattle.hs_block_forms.proofs.BodyLemmas.{rhs_failed, rhs_took}
use Rattle.hs_blocks.proofs.PartsLemmas.{rhs_short}
use Rattle.hs_blocks.proofs.bodies.read_rhs.Goals as goal

pub returns-in_err-parts : goal.returns-in_err-parts
returns-in_err-parts g c =
    let p = err_from_is_err_and c.from_residual.result c.from_residual.ensures.1 in
    rw (p.1, p.2) (rhs_failed c.args.limit c.args.tokens.now _ c.in_err-parts.ensures)

pub rhs_of-requires : goal.rhs_of-requires
rhs_of-requires g c = rhs_short c.in_ok-parts.parts.tree c.in_ok-parts.ensures.reads.good.0

pub returns : goal.returns
returns g c =
    rw (c.rhs_of.ensures.tree, c.rhs_of.ensures.rest, c.rhs_of.ensures.depth)
    (rhs_took c.args.limit c.args.tokens.now _ _ _ c.in_ok-parts.ensures)
