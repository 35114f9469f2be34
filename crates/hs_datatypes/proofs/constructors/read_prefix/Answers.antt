use Rattle.std.proofs.Common.{◌∙◌, sym}
use Rattle.std.proofs.lemmas.Result.{err_from_is_err_and}
use Rattle.hs_declaration_forms.proofs.ConstrLemmas.{prefix_took, prefix_failed, prefix_goes}
use Rattle.hs_datatypes.proofs.constructors.read_prefix.Goals as goal

pub returns-in_err-prefix-clause-answers : goal.returns-in_err-prefix-clause-answers
returns-in_err-prefix-clause-answers c =
    let p = err_from_is_err_and c.from_residual.result c.from_residual.ensures.1 in
    rw (p.1, p.2) (prefix_failed c.args.limit c.args.tokens.now _ c.in_err-prefix.ensures)

pub returns-then-goes_on_constr-clause-answers : goal.returns-then-goes_on_constr-clause-answers
returns-then-goes_on_constr-clause-answers c =
    prefix_goes c.args.limit c.args.tokens.now _ _ _ c.in_ok-prefix.ensures
    (sym c.goes_on_constr.ensures ∙ c.if-goes_on_constr.true)

pub returns-clause-answers : goal.returns-clause-answers
returns-clause-answers c =
    prefix_took c.args.limit c.args.tokens.now _ _ _ c.in_ok-prefix.ensures
