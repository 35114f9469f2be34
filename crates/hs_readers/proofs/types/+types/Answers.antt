-- Each return is a lemma of `TypeReturns`.
use Rattle.std.proofs.Common.{◌+◌, ◌∷◌, ◌∙◌, sym, ap, subst, true≢false}
use Rattle.std.proofs.lemmas.Result.{err_from_is_err_and}
use Rattle.hs_forms.specs.Reading.{begins}
use Rattle.hs_forms.specs.Limits.{lowered}
use Rattle.hs_forms.proofs.StateLemmas.{state_head_fails}
use Rattle.hs_trees.specs.Types.{starts_atype, btype_sort, type_sort}
use Rattle.hs_tokens.specs.declared.terminal.Terminal.TheVariants as t_of
use Rattle.hs_trees.proofs.TypeChainLemmas.{btype_chain, type_chain, parts_chain}
use Rattle.hs_trees.proofs.TypeReturnLemmas.{none_here, arrow_ok, arrow_none, tuple_ok, tuple_fails, paren_too_deep}
use Rattle.hs_trees.proofs.TypeReturnLemmas.{inner_fails, inner_ok, inner_none, bracket_too_deep, list_fails, list_ok}
use Rattle.hs_trees.proofs.TypeReturnLemmas.{list_none, none_at_end, no_start, ends_none}
use Rattle.hs_readers.specs.Answers.{Answers}
use Rattle.hs_readers.proofs.AnswerLemmas.{behind_answers, arrow_led, comma_led}
use Rattle.hs_readers.proofs.types.+types.Goals as goal

pub read_arrow-returns : goal.read_arrow-returns
read_arrow-returns t c =
    let led = arrow_led c.args.tokens.now c.requires.starts ∙ ap (λ l. t_of.Arrow ∷ l) (sym c.after.ensures) in
    behind_answers t_of.Arrow (btype_sort (lowered c.args.limit (c.args.count + 1))) c.args.tokens.now _
    c.read_btype.result led
    (subst (λ b. Answers (btype_sort b) c.after.result.now c.read_btype.result) c.lower.ensures c.read_btype.ensures)

pub read_part-returns : goal.read_part-returns
read_part-returns t c =
    let led = comma_led c.args.tokens.now c.requires ∙ ap (λ l. t_of.Comma ∷ l) (sym c.after.ensures) in
    behind_answers t_of.Comma (type_sort c.args.limit) c.args.tokens.now _ c.read_type.result led c.read_type.ensures

pub read_type-returns-in_err-head : goal.read_type-returns-in_err-head
read_type-returns-in_err-head t c =
    let p = err_from_is_err_and c.from_residual.result c.from_residual.ensures.1 in
    rw (p.1, p.2) (state_head_fails (type_chain c.args.limit) c.args.tokens.now _ c.in_err-head.ensures)

pub read_btype-returns-in_err-head : goal.read_btype-returns-in_err-head
read_btype-returns-in_err-head t c =
    let p = err_from_is_err_and c.from_residual.result c.from_residual.ensures.1 in
    rw (p.1, p.2) (state_head_fails (btype_chain c.args.limit) c.args.tokens.now _ c.in_err-head.ensures)

pub read_parts-returns-in_err-head : goal.read_parts-returns-in_err-head
read_parts-returns-in_err-head t c =
    let p = err_from_is_err_and c.from_residual.result c.from_residual.ensures.1 in
    rw (p.1, p.2) (state_head_fails (parts_chain c.args.limit) c.args.tokens.now _ c.in_err-head.ensures)

pub read_atype-returns-in_default : goal.read_atype-returns-in_default
read_atype-returns-in_default t c =
    none_at_end c.args.limit c.args.tokens.now c.in_default.ensures.cases

pub read_atype-returns-in_default-first : goal.read_atype-returns-in_default-first
read_atype-returns-in_default-first t c =
    none_here c.args.limit c.args.tokens.now
    (ap (begins starts_atype) c.in-Some.ensures.cases.0
    ∙ no_start c.in-Some.first.now c.in_default-first.not-Con c.in_default-first.not-Var
    c.in_default-first.not-LeftParen c.in_default-first.not-LeftBracket)

pub read_bracket-returns-then-not-allows : goal.read_bracket-returns-then-not-allows
read_bracket-returns-then-not-allows t c =
    bracket_too_deep c.args.limit c.args.tokens.now
    (λ w. true≢false (sym (c.allows.ensures.1 w) ∙ c.if-not-allows.true)) c.in_default.ensures

pub read_bracket-returns-in_err-inner : goal.read_bracket-returns-in_err-inner
read_bracket-returns-in_err-inner t c =
    let p = err_from_is_err_and c.from_residual.result c.from_residual.ensures.1 in
    rw (p.1, p.2) (list_fails c.args.limit c.args.tokens.now _ _
    (c.allows.ensures.0 c.if-not-allows.false) c.lower.ensures c.in_default.ensures c.in_err-inner.ensures)

pub read_bracket-returns-in-Some-after_right_bracket :
    goal.read_bracket-returns-in-Some-after_right_bracket
read_bracket-returns-in-Some-after_right_bracket t c =
    rw c.in_ok-tree-in-Some-after_right_bracket.ensures
    (list_ok c.args.limit c.args.tokens.now _ c.in_ok-inner.inner.tree _ _ _
    (c.allows.ensures.0 c.if-not-allows.false) c.lower.ensures c.in_ok-inner.ensures
    c.in-Some-after_right_bracket.ensures)

pub read_bracket-returns : goal.read_bracket-returns
read_bracket-returns t c =
    list_none c.args.limit c.args.tokens.now _ _ _ _
    (c.allows.ensures.0 c.if-not-allows.false) c.lower.ensures c.in_default.ensures c.in_ok-inner.ensures
    c.in-None.ensures

pub read_paren-returns-in_err-name : goal.read_paren-returns-in_err-name
read_paren-returns-in_err-name t c =
    let p = err_from_is_err_and c.from_residual.result c.from_residual.ensures.1 in
    rw (p.1, p.2) (tuple_fails c.args.limit c.args.tokens.now _ (sym c.begins_tuple_name.ensures
    ∙ c.if-begins_tuple_name.true) c.in_err-name.ensures.answers)

pub read_paren-returns-then-begins_tuple_name : goal.read_paren-returns-then-begins_tuple_name
read_paren-returns-then-begins_tuple_name t c =
    rw c.named_type.ensures (tuple_ok c.args.limit c.args.tokens.now c.in_ok-name.name.tree _ _
    c.in_ok-name.ensures.answers)

pub read_paren-returns-in-Some-after_right_paren : goal.read_paren-returns-in-Some-after_right_paren
read_paren-returns-in-Some-after_right_paren t c =
    arrow_ok c.args.limit c.args.tokens.now _ _ c.in-Some.ensures c.in-Some-after_right_paren.ensures

pub read_paren-returns-in-None : goal.read_paren-returns-in-None
read_paren-returns-in-None t c =
    arrow_none c.args.limit c.args.tokens.now _ c.in-Some.ensures c.in-None.ensures

pub read_paren-returns-then-not-allows : goal.read_paren-returns-then-not-allows
read_paren-returns-then-not-allows t c =
    paren_too_deep c.args.limit c.args.tokens.now (λ w. true≢false (sym (c.allows.ensures.1 w) ∙ c.if-not-allows.true))
    (ends_none c.args.tokens.now (sym c.begins_tuple_name.ensures ∙ c.if-begins_tuple_name.false) c.in_default.ensures)

pub read_paren-returns-in_err-inner : goal.read_paren-returns-in_err-inner
read_paren-returns-in_err-inner t c =
    let p = err_from_is_err_and c.from_residual-in_err-inner.result c.from_residual-in_err-inner.ensures.1 in
    rw (p.1, p.2) (inner_fails c.args.limit c.args.tokens.now _ _
    (c.allows.ensures.0 c.if-not-allows.false) c.lower.ensures
    (ends_none c.args.tokens.now (sym c.begins_tuple_name.ensures
    ∙ c.if-begins_tuple_name.false) c.in_default.ensures) c.in_err-inner.ensures)

pub read_paren-returns-in-Some-after_right_paren-2 :
    goal.read_paren-returns-in-Some-after_right_paren-2
read_paren-returns-in-Some-after_right_paren-2 t c =
    rw c.in_ok-first-in-Some-after_right_paren-2.ensures
    (inner_ok c.args.limit c.args.tokens.now _ c.in_ok-inner.inner.tree.0 c.in_ok-inner.inner.tree.1 _ _ _
    (c.allows.ensures.0 c.if-not-allows.false) c.lower.ensures
    c.in_ok-inner.ensures c.in-Some-after_right_paren-2.ensures)

pub read_paren-returns : goal.read_paren-returns
read_paren-returns t c =
    inner_none c.args.limit c.args.tokens.now _ c.in_ok-inner.inner.tree.0 c.in_ok-inner.inner.tree.1 _ _
    (c.allows.ensures.0 c.if-not-allows.false) c.lower.ensures
    (ends_none c.args.tokens.now (sym c.begins_tuple_name.ensures ∙ c.if-begins_tuple_name.false) c.in_default.ensures)
    c.in_ok-inner.ensures c.in-None-after_right_paren.ensures
