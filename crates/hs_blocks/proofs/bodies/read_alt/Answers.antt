use Rattle.std.proofs.lemmas.Result.{err_from_is_err_and}
use Rattle.hs_block_forms.proofs.BodyLemmas.{alt_pat_failed, alt_parts_failed, alt_took}
use Rattle.hs_blocks.proofs.PartsLemmas.{alt_short}
use Rattle.hs_blocks.proofs.bodies.read_alt.Goals as goal

pub returns-in_err-pat : goal.returns-in_err-pat
returns-in_err-pat g c =
    let p = err_from_is_err_and c.from_residual.result c.from_residual.ensures.1 in
    rw (p.1, p.2) (alt_pat_failed c.args.limit c.args.tokens.now _ c.in_err-pat.ensures)

pub returns-in_err-parts : goal.returns-in_err-parts
returns-in_err-parts g c =
    let p = err_from_is_err_and c.from_residual-in_err-parts.result c.from_residual-in_err-parts.ensures.1 in
    rw (p.1, p.2) (alt_parts_failed c.args.limit c.args.tokens.now _ _ _ c.in_ok-pat.ensures _
    c.in_err-parts.ensures)

pub alt_of-requires : goal.alt_of-requires
alt_of-requires g c = alt_short c.in_ok-parts.parts.tree c.in_ok-parts.ensures.reads.good.0

pub returns : goal.returns
returns g c =
    rw (c.alt_of.ensures.tree, c.alt_of.ensures.rest, c.alt_of.ensures.depth)
    (alt_took c.args.limit c.args.tokens.now _ _ _ c.in_ok-pat.ensures _ _ _ c.in_ok-parts.ensures)
