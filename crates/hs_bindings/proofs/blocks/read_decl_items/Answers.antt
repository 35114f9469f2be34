use Rattle.std.proofs.lemmas.Result.{err_from_is_err_and}
use Rattle.hs_forms.proofs.StateLemmas.{state_head_fails}
use Rattle.hs_binding_forms.proofs.DeclBlockLemmas.{decl_chain}
use Rattle.hs_bindings.proofs.blocks.read_decl_items.Goals as goal

pub returns-in_err-head : goal.returns-in_err-head
returns-in_err-head g c =
    let p = err_from_is_err_and c.from_residual.result c.from_residual.ensures.1 in
    rw (p.1, p.2) (state_head_fails (decl_chain c.args.limit) c.args.tokens.now _ c.in_err-head.ensures)
