use Rattle.std.proofs.lemmas.Result.{err_from_is_err_and}
use Rattle.haskell_module.proofs.ModuleLemmas.{module_refused, module_named}
use Rattle.haskell_module.proofs.module.read_module.Goals as goal

pub returns-in_err-module : goal.returns-in_err-module
returns-in_err-module c =
    let p = err_from_is_err_and c.from_residual-in_err-module.result c.from_residual-in_err-module.ensures.1 in
    rw (p.1, p.2) (module_refused c.args.name.now c.args.bytes.now c.in_ok-laid.laid c.in_ok-laid.ensures _
    c.in_err-module.ensures)

pub returns : goal.returns
returns c =
    module_named c.args.name.now c.args.bytes.now c.in_ok-laid.laid c.in_ok-laid.ensures c.in_ok-module.module
    c.in_ok-module.ensures c.named_as.result (rw c.as_slice.ensures at c.named_as.ensures)
