use Rattle.scope_table.proofs.SameLemmas.{same_test}
use Rattle.export_resolve.proofs.meaning.is_same.Goals as goal

pub returns : goal.returns
returns c = same_test c.args.one.now c.args.other.now c.same_orig_name.result c.same_orig_name.ensures
