use Rattle.std.proofs.lemmas.Result.{err_from_is_err_and}
use Rattle.hs_forms.proofs.WholeLemmas.{whole_of_fails, whole_of_rest, some_length}
use Rattle.haskell_parse.proofs.reading.whole.Goals as goal

pub returns-in_err-read : goal.returns-in_err-read
returns-in_err-read g c =
    let p = err_from_is_err_and c.from_residual.result c.from_residual.ensures.1 in
    rw (p.1, p.2) (whole_of_fails (g.T.Readable.sort c.args.limit).form c.args.tokens.now _ c.in_err-read.ensures)

pub returns-else-is_empty : goal.returns-else-is_empty
returns-else-is_empty g c =
    let sort = g.T.Readable.sort c.args.limit in
    whole_of_rest sort.form sort.depth c.args.tokens.now c.in_ok-read.read.tree c.in_ok-read.read.rest.now _
    c.in_ok-read.ensures
    (some_length c.is_empty.result c.in_ok-read.read.rest.now c.is_empty.ensures c.if-is_empty.false)
