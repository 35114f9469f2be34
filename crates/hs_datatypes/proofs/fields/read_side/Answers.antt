use Rattle.std.proofs.lemmas.Result.{err_from_is_err_and}
use Rattle.hs_modules.specs.declared.declarations.ConstrSide.TheVariants as v_side
use Rattle.hs_declaration_forms.specs.Datatypes.{sides, btypes}
use Rattle.hs_declaration_forms.proofs.FieldLemmas.{lazy_sides, strict_sides, strict_took, strict_failed}
use Rattle.hs_declaration_forms.proofs.FieldLemmas.{lazy_took, lazy_failed}
use Rattle.hs_datatypes.proofs.fields.read_side.Goals as goal

pub returns-in_err-atype : goal.returns-in_err-atype
returns-in_err-atype c =
    let p = err_from_is_err_and c.from_residual.result c.from_residual.ensures.1 in
    rw (p.1, p.2) (strict_failed sides (λ x. v_side.Strict x) strict_sides c.args.limit c.args.tokens.now _ c.in-Some.ensures _
    c.in_err-atype.ensures)

pub returns-in-Some : goal.returns-in-Some
returns-in-Some c =
    strict_took sides (λ x. v_side.Strict x) strict_sides c.args.limit c.args.tokens.now _ c.in-Some.ensures _ _ _ c.in_ok-atype.ensures

pub returns-in_err-btype : goal.returns-in_err-btype
returns-in_err-btype c =
    let p = err_from_is_err_and c.from_residual-in_err-btype.result c.from_residual-in_err-btype.ensures.1 in
    rw (p.1, p.2) (lazy_failed sides btypes (λ x. v_side.Lazy x) lazy_sides c.args.limit c.args.tokens.now c.in_default.ensures _
    c.in_err-btype.ensures)

pub returns : goal.returns
returns c =
    lazy_took sides btypes (λ x. v_side.Lazy x) lazy_sides c.args.limit c.args.tokens.now _ _ _ c.in_ok-btype.ensures
