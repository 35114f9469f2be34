-- Each return is a lemma of `KindLemmas`.
use Rattle.std.proofs.Common.{◌+◌, ◌∷◌, ◌∙◌, sym, ap, subst, true≢false}
use Rattle.std.proofs.lemmas.Result.{err_from_is_err_and}
use Rattle.hs_forms.specs.Limits.{lowered}
use Rattle.hs_tokens.specs.declared.terminal.Terminal.TheVariants as t_of
use Rattle.hs_forms.proofs.StateLemmas.{state_head_fails}
use Rattle.hs_trees.proofs.KindLemmas.{kind_chain, akind_none, no_akind, parens_over, parens_fails, parens_ok}
use Rattle.hs_trees.proofs.KindLemmas.{parens_none}
use Rattle.hs_readers.specs.Answers.{Answers}
use Rattle.hs_trees.specs.Kinds.{akind_sort}
use Rattle.hs_readers.proofs.AnswerLemmas.{behind_answers, arrow_led}
use Rattle.hs_readers.proofs.kinds.+kinds.Goals as goal

pub read_arrow-returns : goal.read_arrow-returns
read_arrow-returns t c =
    let led = arrow_led c.args.tokens.now c.requires.starts ∙ ap (λ l. t_of.Arrow ∷ l) (sym c.after.ensures) in
    behind_answers t_of.Arrow (akind_sort (lowered c.args.limit (c.args.count + 1))) c.args.tokens.now _
    c.read_akind.result led
    (subst (λ b. Answers (akind_sort b) c.after.result.now c.read_akind.result) c.lower.ensures c.read_akind.ensures)

pub read_kind-returns-in_err-head : goal.read_kind-returns-in_err-head
read_kind-returns-in_err-head t c =
    let p = err_from_is_err_and c.from_residual.result c.from_residual.ensures.1 in
    rw (p.1, p.2) (state_head_fails (kind_chain c.args.limit) c.args.tokens.now _ c.in_err-head.ensures)

pub read_akind-returns-in_default-after_left_paren :
    goal.read_akind-returns-in_default-after_left_paren
read_akind-returns-in_default-after_left_paren t c =
    akind_none c.args.limit c.args.tokens.now (no_akind c.args.tokens.now c.in_default-after_left_paren.ensures
    c.in_default.ensures)

pub read_akind-returns-then-not-allows : goal.read_akind-returns-then-not-allows
read_akind-returns-then-not-allows t c =
    parens_over c.args.limit c.args.tokens.now _ c.in-Some-after_left_paren.ensures
    (λ w. true≢false (sym (c.allows.ensures.1 w) ∙ c.if-not-allows.true))

pub read_akind-returns-in_err-inner : goal.read_akind-returns-in_err-inner
read_akind-returns-in_err-inner t c =
    let p = err_from_is_err_and c.from_residual.result c.from_residual.ensures.1 in
    rw (p.1, p.2) (parens_fails c.args.limit c.args.tokens.now _ _ _ c.in-Some-after_left_paren.ensures
    (c.allows.ensures.0 c.if-not-allows.false) c.lower.ensures
    c.in_err-inner.ensures)

pub read_akind-returns-in-Some-after_right_paren :
    goal.read_akind-returns-in-Some-after_right_paren
read_akind-returns-in-Some-after_right_paren t c =
    rw c.in_ok-tree-in-Some-after_right_paren.ensures
    (parens_ok c.args.limit c.args.tokens.now _ _ c.in_ok-inner.inner.tree _ _ _ c.in-Some-after_left_paren.ensures
    (c.allows.ensures.0 c.if-not-allows.false) c.lower.ensures
    c.in_ok-inner.ensures c.in-Some-after_right_paren.ensures)

pub read_akind-returns : goal.read_akind-returns
read_akind-returns t c =
    parens_none c.args.limit c.args.tokens.now _ _ _ _ _ c.in-Some-after_left_paren.ensures
    (c.allows.ensures.0 c.if-not-allows.false) c.lower.ensures c.in_ok-inner.ensures
    c.in-None.ensures
