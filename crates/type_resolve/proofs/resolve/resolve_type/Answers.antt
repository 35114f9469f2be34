use Rattle.std.specs.Option.{option_copied}
use Rattle.type_resolve.proofs.FitLemmas.{type_judged}
use Rattle.type_resolve.proofs.resolve.resolve_type.Goals as goal

pub returns : goal.returns
returns c = λ items t. type_judged items c.args.table.now (option_copied c.args.head) t c.args.tree.now
    c.type_found.result c.type_found.ensures
