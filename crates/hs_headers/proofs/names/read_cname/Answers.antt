use Rattle.hs_headers.proofs.NameLemmas.{cname_none}
use Rattle.hs_headers.proofs.names.read_cname.Goals as goal

pub returns-in_default-after_left_paren : goal.returns-in_default-after_left_paren
returns-in_default-after_left_paren c =
    cname_none c.args.tokens.now c.in_default.ensures c.in_default-after_own_con.ensures
    c.in_default-after_left_paren.ensures
