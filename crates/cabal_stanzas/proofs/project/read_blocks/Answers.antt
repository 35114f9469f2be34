use Rattle.std.proofs.Common.{sym, ◌∙◌, append_assoc}
use Rattle.std.proofs.lemmas.Result.{err_from_is_err_and}
use Rattle.cabal_stanzas.specs.Project.{block_refused, project_refused}
use Rattle.cabal_stanzas.proofs.BlockedLemmas.{block, lead_block, next_refused, next_files, first_stays}
use Rattle.cabal_stanzas.proofs.project.read_blocks.Goals as goal

pub returns-in_err-read_block : goal.returns-in_err-read_block
returns-in_err-read_block c =
    let lead = lead_block c.loop-rest.rest.now c.line-item.result c.deeper_len.result c.split_at.result.0.now
    c.split_at.result.1.now
    c.in-len1-up-rest.len_at_least c.line-item.is c.deeper_len.ensures.value c.split_at.ensures.front
    c.split_at.ensures.back c.loop-rest.invariant.2 in
    let all = next_refused c.loop-rest.rest.now c.split_at.result.1.now c.line-item.result c.split_at.result.0.now lead
    c.loop-rest.invariant.2 in
    let p = err_from_is_err_and c.from_residual.result c.from_residual.ensures.1 in
    rw (p.1, p.2, ← c.loop-rest.invariant.0, all)
    (first_stays c.in_err-read_block.field-0.0 (block_refused (block c.line-item.result c.split_at.result.0.now))
    (project_refused c.split_at.result.1.now)
    c.in_err-read_block.ensures)

pub loop-rest-preserved : goal.loop-rest-preserved
loop-rest-preserved c =
    let lead = lead_block c.loop-rest.rest.now c.line-item.result c.deeper_len.result c.split_at.result.0.now
    c.split_at.result.1.now
    c.in-len1-up-rest.len_at_least c.line-item.is c.deeper_len.ensures.value c.split_at.ensures.front
    c.split_at.ensures.back c.loop-rest.invariant.2 in
    let all = next_refused c.loop-rest.rest.now c.split_at.result.1.now c.line-item.result c.split_at.result.0.now lead
    c.loop-rest.invariant.2 in
    let files = next_files c.loop-rest.rest.now c.split_at.result.1.now c.line-item.result c.split_at.result.0.now lead
    in (
      rw c.in_ok-read_block.ensures.0 at (sym all) ∙ c.loop-rest.invariant.0,
      rw (c.in_ok-read_block.ensures.1, append_assoc, ← files) c.loop-rest.invariant.1,
      lead.none,
    )
