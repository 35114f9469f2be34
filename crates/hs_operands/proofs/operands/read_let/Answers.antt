-- Each return is a lemma of `LedLemmas`.
use Rattle.std.proofs.Common.{◌∙◌, refl, sym, true≢false, arith}
use Rattle.std.proofs.lemmas.Result.{err_from_is_err_and}
use Rattle.hs_tokens.specs.declared.terminal.Terminal.TheVariants as t
use Rattle.hs_tokens.specs.declared.word.Word.TheVariants as w
use Rattle.hs_expression_forms.proofs.OperandLayerLemmas.{make_let}
use Rattle.hs_expression_forms.proofs.OperandLemmas.{let_makes}
use Rattle.hs_expression_forms.proofs.RowLemmas.{exp_follows}
use Rattle.hs_expression_forms.specs.Expressions.{decl_blocks, exps, starts_exp}
use Rattle.hs_operand_forms.proofs.LedLemmas.{led_over, led_first, led_missed, led_second, led_ok}
use Rattle.hs_expressions.specs.Leaves.{is_in}
use Rattle.hs_operands.proofs.operands.read_let.Goals as goal

pub returns-then-not-allows : goal.returns-then-not-allows
returns-then-not-allows g c =
    led_over (t.Word w.Let) (t.Word w.In) decl_blocks exps make_let 2 let_makes starts_exp (exp_follows decl_blocks
    (t.Word w.In)) (λ x. refl) is_in refl refl c.args.limit c.args.tokens.now
    (λ r. true≢false (sym (c.allows.ensures.1 r) ∙ c.if-not-allows.true)) _ (omega arith)

pub returns-in_err-decls : goal.returns-in_err-decls
returns-in_err-decls g c =
    let p = err_from_is_err_and c.from_residual.result c.from_residual.ensures.1 in
    rw (p.1, p.2) (led_first (t.Word w.Let) (t.Word w.In) decl_blocks exps make_let 2 let_makes starts_exp
    (exp_follows decl_blocks (t.Word w.In)) (λ x. refl) is_in refl refl c.args.limit c.args.tokens.now
    (c.allows.ensures.0 c.if-not-allows.false) _ c.lower-below.ensures _ (c.requires.says_decls _ _ _
    c.in_err-decls.ensures))

pub returns-in_default : goal.returns-in_default
returns-in_default g c =
    led_missed (t.Word w.Let) (t.Word w.In) decl_blocks exps make_let 2 let_makes starts_exp (exp_follows decl_blocks
    (t.Word w.In)) (λ x. refl) is_in refl refl c.args.limit c.args.tokens.now
    (c.allows.ensures.0 c.if-not-allows.false) _ c.lower-below.ensures c.in_ok-decls.decls.tree _ _
    (c.requires.says_decls _ _ _ c.in_ok-decls.ensures) c.in_default.ensures

pub returns-in_err-exp : goal.returns-in_err-exp
returns-in_err-exp g c =
    let p = err_from_is_err_and c.from_residual-in_err-exp.result c.from_residual-in_err-exp.ensures.1 in
    rw (p.1, p.2) (led_second (t.Word w.Let) (t.Word w.In) decl_blocks exps make_let 2 let_makes starts_exp
    (exp_follows decl_blocks (t.Word w.In)) (λ x. refl) is_in refl refl c.args.limit c.args.tokens.now
    (c.allows.ensures.0 c.if-not-allows.false) _ c.lower-below.ensures c.in_ok-decls.decls.tree _ _ _
    (c.requires.says_decls _ _ _ c.in_ok-decls.ensures) c.in-Some.ensures _ c.in_err-exp.ensures)

pub returns : goal.returns
returns g c =
    rw (c.max.ensures, c.in_ok-tree.ensures)
    (led_ok (t.Word w.Let) (t.Word w.In) decl_blocks exps make_let 2 let_makes starts_exp (exp_follows decl_blocks
    (t.Word w.In)) (λ x. refl) is_in refl refl c.args.limit c.args.tokens.now
    (c.allows.ensures.0 c.if-not-allows.false) _ c.lower-below.ensures c.in_ok-decls.decls.tree _ _ _
    (c.requires.says_decls _ _ _ c.in_ok-decls.ensures) c.in-Some.ensures
    c.in_ok-exp.exp.tree _ _ c.in_ok-exp.ensures)
