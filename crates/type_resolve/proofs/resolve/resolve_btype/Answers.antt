use Rattle.std.specs.Option.{option_copied}
use Rattle.type_resolve.proofs.FitLemmas.{btype_judged}
use Rattle.type_resolve.proofs.resolve.resolve_btype.Goals as goal

pub returns : goal.returns
returns c = λ items t. btype_judged items c.args.table.now (option_copied c.args.head) t c.args.tree.now
    c.btype_found.result c.btype_found.ensures
