use Rattle.std.proofs.lemmas.Result.{err_from_is_err_and}
use Rattle.hs_declaration_forms.specs.Datatypes.{fields, atypes}
use Rattle.hs_declaration_forms.proofs.FieldLemmas.{lazy_fields, strict_fields, strict_field, lazy_field, strict_failed}
use Rattle.hs_declaration_forms.proofs.FieldLemmas.{lazy_failed}
use Rattle.hs_datatypes.proofs.fields.read_field.Goals as goal

pub returns-in_err-atype : goal.returns-in_err-atype
returns-in_err-atype c =
    let p = err_from_is_err_and c.from_residual.result c.from_residual.ensures.1 in
    rw (p.1, p.2) (strict_failed fields strict_field strict_fields c.args.limit c.args.tokens.now _ c.in-Some.ensures _
    c.in_err-atype.ensures)

pub returns-in_err-atype-2 : goal.returns-in_err-atype-2
returns-in_err-atype-2 c =
    let p = err_from_is_err_and c.from_residual-in_err-atype-2.result c.from_residual-in_err-atype-2.ensures.1 in
    rw (p.1, p.2) (lazy_failed fields atypes lazy_field lazy_fields c.args.limit c.args.tokens.now c.in_default.ensures _
    c.in_err-atype-2.ensures)
