use Rattle.hs_headers.proofs.HeadLemmas.{signature_none, signature_no_name, signature_open}
use Rattle.hs_headers.proofs.heads.read_signature_head.Goals as goal

pub returns-in_default : goal.returns-in_default
returns-in_default c =
    signature_none c.args.tokens.now c.in_default.ensures

pub returns-in_default-after_con : goal.returns-in_default-after_con
returns-in_default-after_con c =
    signature_no_name c.args.tokens.now _ c.in-Some.ensures c.in_default-after_con.ensures

pub returns-in_default-after_where : goal.returns-in_default-after_where
returns-in_default-after_where c =
    signature_open c.args.tokens.now _ _ _ c.in-Some.ensures c.in-Some-after_con.ensures
    c.in_default-after_where.ensures
