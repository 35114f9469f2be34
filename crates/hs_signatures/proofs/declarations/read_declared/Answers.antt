use Rattle.hs_signature_forms.proofs.SigDeclLemmas.{declared_goes}
use Rattle.hs_signatures.proofs.declarations.read_declared.Goals as goal

pub returns-in-Some-clause-answers : goal.returns-in-Some-clause-answers
returns-in-Some-clause-answers c =
    declared_goes c.args.limit c.args.tokens.now _ _ _ c.in_ok-declared.ensures _ c.in-Some.ensures
