use Rattle.project_sources.proofs.FileLemmas.{read_told}
use Rattle.project_sources.proofs.files.whole_file.Goals as goal

pub returns-in-Ok-Some-clause-tells : goal.returns-in-Ok-Some-clause-tells
returns-in-Ok-Some-clause-tells g c = read_told _ c.args.path.now c.args.component.now c.args.at.now
    c.in-Ok-Some.bytes c.args.seen c.sized.result
    (λ files t. let h = c.in-Ok-Some.ensures.told files t in let e = c.in-Ok-Some.field-0-is in cc)
    c.sized.ensures.stops
