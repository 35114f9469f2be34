use Rattle.hs_signature_forms.proofs.SigDeclLemmas.{sig_declared, sig_fails}
use Rattle.hs_signatures.proofs.declarations.read_other.Goals as goal

pub returns-in-Ok : goal.returns-in-Ok
returns-in-Ok c =
    sig_declared c.args.limit c.args.tokens.now _ _ _ c.in-Ok.ensures.answers c.in-Ok.ensures.ends

pub returns-in-Err-At : goal.returns-in-Err-At
returns-in-Err-At c =
    let r = rw c.in-Err-At.field-0-is at c.in-Err-At.ensures.answers in
    rw c.min.ensures (sig_fails c.args.limit c.args.tokens.now c.args.left _ c.requires.refused r)
