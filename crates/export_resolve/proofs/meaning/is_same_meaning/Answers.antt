use Rattle.hs_scopes.specs.Meanings.{meaning_of}
use Rattle.scope_table.proofs.SameLemmas.{same_test}
use Rattle.export_resolve.proofs.meaning.is_same_meaning.Goals as goal

pub returns : goal.returns
returns c = same_test (meaning_of c.args.one.now) (meaning_of c.args.other.now) c.mean_one.result c.mean_one.ensures
