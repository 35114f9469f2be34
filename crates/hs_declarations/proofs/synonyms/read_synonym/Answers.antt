use Rattle.std.proofs.lemmas.Result.{err_from_is_err_and}
use Rattle.hs_declarations.proofs.DeclarationLemmas.{synonym_none, synonym_no_name, synonym_open, synonym_fails}
use Rattle.hs_declarations.proofs.DeclarationLemmas.{synonym_ok}
use Rattle.hs_declarations.proofs.synonyms.read_synonym.Goals as goal

pub returns-in_default : goal.returns-in_default
returns-in_default c =
    synonym_none c.args.limit c.args.tokens.now c.in_default.ensures

pub returns-in_default-after_own_con : goal.returns-in_default-after_own_con
returns-in_default-after_own_con c =
    synonym_no_name c.args.limit c.args.tokens.now _ c.in-Some.ensures c.in_default-after_own_con.ensures

pub returns-in_default-after_equals : goal.returns-in_default-after_equals
returns-in_default-after_equals c =
    synonym_open c.args.limit c.args.tokens.now _ _ _ _ c.in_ok-params.params.names c.in-Some.ensures
    c.in-Some-after_own_con.ensures.0 c.in-Some-after_own_con.ensures.1 c.in_ok-params.ensures.front
    c.in_ok-params.ensures.all c.in_default-after_equals.ensures

pub returns-in_err-ty : goal.returns-in_err-ty
returns-in_err-ty c =
    let p = err_from_is_err_and c.from_residual-in_err-ty.result c.from_residual-in_err-ty.ensures.1 in
    rw (p.1, p.2) (synonym_fails c.args.limit _ c.in_ok-params.params.names c.in-Some-after_own_con.ensures.1
    c.args.tokens.now _ _ _ _ _ c.in-Some.ensures c.in-Some-after_own_con.ensures.0
    c.in_ok-params.ensures.front c.in-Some-after_equals.ensures c.in_err-ty.ensures)

pub returns : goal.returns
returns c =
    rw (c.in_ok-name.ensures, c.as_bytes.ensures) (synonym_ok c.args.limit _ c.in_ok-params.params.names
    c.in-Some-after_own_con.ensures.1 c.args.tokens.now _ _ _ _ _ _ _ c.in-Some.ensures
    c.in-Some-after_own_con.ensures.0 c.in_ok-params.ensures.front c.in-Some-after_equals.ensures
    c.in_ok-ty.ensures)
