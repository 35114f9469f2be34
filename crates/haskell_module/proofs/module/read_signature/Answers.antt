use Rattle.std.proofs.lemmas.Result.{err_from_is_err_and}
use Rattle.haskell_module.proofs.ModuleLemmas.{signature_refused, signature_named}
use Rattle.haskell_module.proofs.module.read_signature.Goals as goal

pub returns-in_err-signature : goal.returns-in_err-signature
returns-in_err-signature c =
    let p = err_from_is_err_and c.from_residual-in_err-signature.result c.from_residual-in_err-signature.ensures.1 in
    rw (p.1, p.2) (signature_refused c.args.name.now c.args.bytes.now c.in_ok-laid.laid c.in_ok-laid.ensures _
    c.in_err-signature.ensures)

pub returns : goal.returns
returns c =
    signature_named c.args.name.now c.args.bytes.now c.in_ok-laid.laid c.in_ok-laid.ensures c.in_ok-signature.signature
    c.in_ok-signature.ensures c.named_as.result (rw c.as_slice.ensures at c.named_as.ensures)
