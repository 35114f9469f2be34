use Rattle.hs_binding_forms.proofs.BindingLemmas.{plain_took}
use Rattle.hs_bindings.proofs.declarations.read_decl.Goals as goal

pub returns-in-Ok : goal.returns-in-Ok
returns-in-Ok g c = plain_took c.args.limit c.args.tokens.now _ _ _ c.in-Ok.ensures
