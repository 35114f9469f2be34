use Rattle.export_resolve.proofs.SortLemmas.{pairs_order, put_by}
use Rattle.export_resolve.proofs.sorted.put_in.Goals as goal

pub returns : goal.returns
returns c = put_by _ pairs_order c.args.export _ _ _ c.in_ok-key.ensures c.in_ok-insert.ensures.entries
