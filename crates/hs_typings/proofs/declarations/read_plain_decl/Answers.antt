use Rattle.std.proofs.Common.{◌∙◌, sym}
use Rattle.std.proofs.lemmas.Result.{err_from_is_err_and}
use Rattle.hs_declaration_forms.proofs.PlainLemmas.{plain_fixity_took, plain_fixity_failed, plain_typing_took}
use Rattle.hs_declaration_forms.proofs.PlainLemmas.{plain_typing_failed}
use Rattle.hs_typings.proofs.declarations.read_plain_decl.Goals as goal

pub returns-in_err-fixity : goal.returns-in_err-fixity
returns-in_err-fixity c =
    let p = err_from_is_err_and c.from_residual.result c.from_residual.ensures.1 in
    rw (p.1, p.2) (plain_fixity_failed c.args.limit c.args.tokens.now
    (sym c.begins_fixity.ensures ∙ c.if-begins_fixity.true) _ c.in_err-fixity.ensures)

pub returns-then-begins_fixity : goal.returns-then-begins_fixity
returns-then-begins_fixity c =
    plain_fixity_took c.args.limit c.args.tokens.now _ _ _ c.in_ok-fixity.ensures

pub returns-in_err-typing : goal.returns-in_err-typing
returns-in_err-typing c =
    let p = err_from_is_err_and c.from_residual-in_err-typing.result c.from_residual-in_err-typing.ensures.1 in
    rw (p.1, p.2) (plain_typing_failed c.args.limit c.args.tokens.now
    (sym c.begins_fixity.ensures ∙ c.if-begins_fixity.false) _ c.in_err-typing.ensures)

pub returns : goal.returns
returns c =
    plain_typing_took c.args.limit c.args.tokens.now _ _ _ c.in_ok-typing.ensures
