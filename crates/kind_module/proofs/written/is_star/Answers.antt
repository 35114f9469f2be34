use Rattle.kind_module.proofs.WrittenLemmas.{arrow_not_star}
use Rattle.kind_module.proofs.written.is_star.Goals as goal

pub returns-in-Arrow : goal.returns-in-Arrow
returns-in-Arrow c = arrow_not_star c.args.kind.now _ _ c.in-Arrow.is
