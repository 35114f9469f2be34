use Rattle.std.proofs.Common.{◌≡◌, List, subst}
use Rattle.std.specs.Prelude.{IfOk}
use Rattle.bp_base.specs.Texts.{Text}
use Rattle.bp_base.specs.declared.ty.OrigName.{OrigName}
use Rattle.export_resolve.specs.Named.{all_at}
use Rattle.export_resolve.specs.Whole.{all_exports, con_owners}
use Rattle.export_resolve.proofs.sorted.all_exports.Goals as goal

pub returns : goal.returns
returns c =
    let same : all_at c.in_ok-owners.owners ≡ con_owners c.args.things.now = λ i. λ q. c.in_ok-owners.ensures q i in
    subst (λ (owners : Text → List OrigName). IfOk c.exports_by.result (λ exports. exports ≡ all_exports owners c.args.things.now))
    same c.exports_by.ensures
