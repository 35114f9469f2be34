use Rattle.std.specs.Option.{option_copied}
use Rattle.type_resolve.proofs.FitLemmas.{atype_judged}
use Rattle.type_resolve.proofs.resolve.resolve_atype.Goals as goal

pub returns : goal.returns
returns c = λ items t. atype_judged items c.args.table.now (option_copied c.args.head) t c.args.tree.now
    c.atype_found.result c.atype_found.ensures
