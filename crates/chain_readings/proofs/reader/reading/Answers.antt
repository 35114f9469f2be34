use Rattle.std.proofs.Common.{◌≡◌, sym, ap, ◌∙◌}
use Rattle.std.proofs.lemmas.Result.{err_from_is_err_and}
use Rattle.chain_readings.proofs.ReaderLemmas.{whole_err, whole_ok}
use Rattle.chain_readings.proofs.reader.reading.Goals as goal

pub returns-in_err-tree : goal.returns-in_err-tree
returns-in_err-tree c =
    let p = err_from_is_err_and c.from_residual.result c.from_residual.ensures.1 in
    rw (p.1, p.2) (whole_err _ c.args.chain.now c.in_err-tree.ensures)

pub returns : goal.returns
returns c = whole_ok _ _ _ c.in_ok-tree.ensures.0
