use Rattle.std.proofs.Common.{◌∙◌, sym}
use Rattle.std.proofs.lemmas.Result.{err_from_is_err_and}
use Rattle.hs_body_forms.proofs.TopDeclLemmas.{top_type_took, top_type_failed, top_decl_took, top_decl_failed}
use Rattle.hs_bodies.proofs.declarations.read_top_decl.Goals as goal

pub returns-in_err-declared : goal.returns-in_err-declared
returns-in_err-declared c =
    let p = err_from_is_err_and c.from_residual.result c.from_residual.ensures.1 in
    rw (p.1, p.2) (top_type_failed c.args.limit c.args.tokens.now
    (sym c.begins_type_decl.ensures ∙ c.if-begins_type_decl.true) _ c.in_err-declared.ensures)

pub returns-then-begins_type_decl : goal.returns-then-begins_type_decl
returns-then-begins_type_decl c =
    top_type_took c.args.limit c.args.tokens.now _ _ _ c.in_ok-declared.ensures

pub returns-in_err-decl : goal.returns-in_err-decl
returns-in_err-decl c =
    let p = err_from_is_err_and c.from_residual-in_err-decl.result c.from_residual-in_err-decl.ensures.1 in
    rw (p.1, p.2) (top_decl_failed c.args.limit c.args.tokens.now
    (sym c.begins_type_decl.ensures ∙ c.if-begins_type_decl.false) _ c.in_err-decl.ensures)

pub returns : goal.returns
returns c = top_decl_took c.args.limit c.args.tokens.now _ _ _ c.in_ok-decl.ensures
