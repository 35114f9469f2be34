use Rattle.hs_signature_forms.proofs.SigDeclLemmas.{sig_kinded}
use Rattle.hs_signatures.proofs.declarations.read_sig_type.Goals as goal

pub returns-in-Ok : goal.returns-in-Ok
returns-in-Ok c = sig_kinded c.args.limit c.args.tokens.now _ _ _ c.in-Ok.ensures
