use Rattle.std.proofs.Common.{◌≡◌, subst}
use Rattle.std.specs.Prelude.{IfOk}
use Rattle.import_resolve.specs.ImportLists.{Showing, first_some, missing_in}
use Rattle.import_resolve.proofs.showing.missing_listed.Goals as goal

pub returns : goal.returns
returns c = subst (λ (s : Showing). IfOk c.missing_of.result
    (λ found. found ≡ first_some (missing_in s) c.args.items.now)) c.in_ok-table.ensures c.missing_of.ensures
