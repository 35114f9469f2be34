use Rattle.type_resolve.proofs.FitLemmas.{name_judged}
use Rattle.type_resolve.proofs.name.meaning_of_name.Goals as goal

pub returns : goal.returns
returns c = λ items t. name_judged items c.args.table.now c.args.space c.args.name.now c.meaning_found.result t
    c.meaning_found.ensures
