use Rattle.std.proofs.Common.{◌∙◌, sym}
use Rattle.std.proofs.lemmas.Result.{err_from_is_err_and}
use Rattle.hs_declaration_forms.proofs.TypeDeclLemmas.{data_answers, newtype_answers, synonym_failed, synonym_took}
use Rattle.hs_datatypes.proofs.type_decls.read_type_decl.Goals as goal

pub returns-then-begins_data : goal.returns-then-begins_data
returns-then-begins_data c =
    data_answers c.args.limit c.args.tokens.now (sym c.begins_data.ensures ∙ c.if-begins_data.true) _
    c.read_data.ensures

pub returns-then-begins_newtype : goal.returns-then-begins_newtype
returns-then-begins_newtype c =
    newtype_answers c.args.limit c.args.tokens.now (sym c.begins_newtype.ensures ∙ c.if-begins_newtype.true) _
    c.read_newtype.ensures

pub returns-in_err-synonym : goal.returns-in_err-synonym
returns-in_err-synonym c =
    let p = err_from_is_err_and c.from_residual.result c.from_residual.ensures.1 in
    rw (p.1, p.2) (synonym_failed c.args.limit c.args.tokens.now c.requires
    (sym c.begins_data.ensures ∙ c.if-begins_data.false) (sym c.begins_newtype.ensures ∙ c.if-begins_newtype.false) _
    c.in_err-synonym.ensures)

pub returns : goal.returns
returns c = synonym_took c.args.limit c.args.tokens.now _ _ _ c.in_ok-synonym.ensures
