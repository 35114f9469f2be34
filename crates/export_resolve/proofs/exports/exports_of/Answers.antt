use Rattle.export_resolve.proofs.WholeLemmas.{exports_judged}
use Rattle.export_resolve.proofs.exports.exports_of.Goals as goal

pub returns : goal.returns
returns c = exports_judged c.args.module.now c.args.own.now c.args.scope.now c.exports_found.result c.exports_found.ensures
