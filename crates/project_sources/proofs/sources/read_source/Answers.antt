use Rattle.std.proofs.Common.{rules, arith, sym, ◌∙◌}
use Rattle.std.proofs.lemmas.Result.{err_from_is_err_and}
use Rattle.project_sources.proofs.SourceLemmas.{source_unread, source_told, source_absent}
use Rattle.project_sources.proofs.sources.read_source.Goals as goal

pub returns-in_err-source-clause-tells : goal.returns-in_err-source-clause-tells
returns-in_err-source-clause-tells g c =
    let p = err_from_is_err_and c.from_residual-in_err-source.result c.from_residual-in_err-source.ensures.1 in
    rw (p.1, p.2) (source_unread _ c.args.seen c.args.component.now c.args.wanted.now c.in_err-source.field-0.0
    c.in_err-source.ensures.unrefused)

pub returns-in-Some-clause-tells : goal.returns-in-Some-clause-tells
returns-in-Some-clause-tells g c =
    source_told _ c.args.seen c.args.component.now c.args.wanted.now c.as_slice.result.now
    (c.as_slice.ensures ∙ c.in_ok-paths.ensures) c.in-Some.source c.sized_file.result
    (λ files told. sym c.in-Some.is ∙ c.in_ok-source.ensures.told files told) c.sized_file.ensures.stops

pub returns-clause-tells : goal.returns-clause-tells
returns-clause-tells g c =
    source_absent _ c.args.seen c.args.component.now c.args.wanted.now c.as_slice.result.now
    (c.as_slice.ensures ∙ c.in_ok-paths.ensures) c.in_ok-absent-in-None.field-0
    (λ files told. sym c.in-None.is ∙ c.in_ok-source.ensures.told files told) (search (rules, arith))
