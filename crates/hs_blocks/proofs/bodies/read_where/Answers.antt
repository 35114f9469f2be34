use Rattle.std.proofs.Common.{◌∷◌, ◌∙◌, ap, sym, subst}
use Rattle.std.proofs.lemmas.Result.{err_from_is_err_and}
use Rattle.hs_tokens.specs.declared.terminal.Terminal.TheVariants as t
use Rattle.hs_tokens.specs.declared.word.Word.TheVariants as w
use Rattle.hs_expression_forms.specs.Trees.{Took, Failed}
use Rattle.hs_expression_forms.specs.Expressions.{decl_blocks}
use Rattle.hs_block_forms.proofs.BodyLemmas.{where_failed, where_took}
use Rattle.hs_block_forms.proofs.TokenLemmas.{where_led}
use Rattle.hs_blocks.proofs.bodies.read_where.Goals as goal

pub returns-in_err-decls : goal.returns-in_err-decls
returns-in_err-decls g c =
    let led = where_led c.args.tokens.now c.requires.starts
    ∙ ap (λ l. t.Word w.Where ∷ l) (sym c.after.ensures) in
    let p = err_from_is_err_and c.from_residual.result c.from_residual.ensures.1 in
    rw (p.1, p.2) (where_failed c.args.limit c.args.tokens.now c.after.result.now c.in_err-decls.field-0.0 led
    (subst (λ l. Failed decl_blocks l c.after.result.now c.in_err-decls.field-0.0) c.lower.ensures
    (c.requires.says_decls c.after.result c.lower.result _ c.in_err-decls.ensures)))

pub returns : goal.returns
returns g c =
    let led = where_led c.args.tokens.now c.requires.starts
    ∙ ap (λ l. t.Word w.Where ∷ l) (sym c.after.ensures) in
    where_took c.args.limit c.args.tokens.now c.after.result.now c.in_ok-decls.decls.tree
    c.in_ok-decls.decls.rest.now c.in_ok-decls.decls.depth led
    (subst (λ l. Took decl_blocks l c.after.result.now c.in_ok-decls.decls.tree c.in_ok-decls.decls.rest.now
    c.in_ok-decls.decls.depth) c.lower.ensures
    (c.requires.says_decls c.after.result c.lower.result _ c.in_ok-decls.ensures))
