-- Each return is a lemma of the pattern modules of `hs_trees`, and each step of a loop.
use Rattle.std.proofs.Common.{◌∷◌, ◌∙◌, refl, sym, ap, subst, true≢false, arith}
use Rattle.std.proofs.lemmas.Result.{err_from_is_err_and}
use Rattle.hs_forms.specs.Reading.{begins}
use Rattle.hs_forms.specs.Answers.{Accepts, Rejects}
use Rattle.hs_trees.specs.Types.{starts_tuple_name}
use Rattle.hs_trees.specs.Patterns.{starts_apat, opens_name, apat_form, depth_of_apat, pat_sort}
use Rattle.hs_trees.proofs.PatternAtomLemmas.{sym_ok, colon_ok, tuple_ok, name_ok, name_over, as_fails, as_ok}
use Rattle.hs_trees.proofs.PatternAtomLemmas.{lazy_fails, lazy_ok, lazy_over, none_here, colon_none, sym_none}
use Rattle.hs_trees.proofs.PatternAtomLemmas.{tuple_fails, op_none, minus_over, paren_over, paren_end}
use Rattle.hs_trees.proofs.PatternBracketLemmas.{inside_fails, inside_ok, inside_none, nil_ok, bracket_over, list_fails}
use Rattle.hs_trees.proofs.PatternBracketLemmas.{list_ok, list_none}
use Rattle.hs_trees.proofs.PatternLPatLemmas.{minus_none, apat_fails, alone_ok, applied_ok, args_fail}
use Rattle.hs_trees.proofs.PatternReturnLemmas.{op_fails, operand_fails, item_ok, no_apat, no_opening, empty_begins}
use Rattle.hs_trees.proofs.PatternChainLemmas.{apats_chain, pat_chain, pats_chain}
use Rattle.hs_forms.proofs.StateLemmas.{state_head_fails}
use Rattle.hs_readers.proofs.AnswerLemmas.{behind_answers, comma_led}
use Rattle.hs_tokens.specs.declared.terminal.Terminal.TheVariants as t_of
use Rattle.hs_tokens.specs.declared.terminal.Terminal.TheVariants.{Tilde}
use Rattle.hs_readers.proofs.patterns.+patterns.Goals as goal
use Rattle.hs_readers.proofs.patterns.+patterns.Goals.{read_paren-then-not-starts_pat-via-then-not-starts_pat}
use Rattle.hs_readers.proofs.patterns.+patterns.Goals.{read_paren-then-not-starts_pat-via-else-not-starts_pat+then-not-allows}

pub read_pat-returns-in_err-head : goal.read_pat-returns-in_err-head
read_pat-returns-in_err-head t c =
    let p = err_from_is_err_and c.from_residual.result c.from_residual.ensures.1 in
    rw (p.1, p.2) (state_head_fails (pat_chain c.args.limit) c.args.tokens.now _ c.in_err-head.ensures)

pub read_operand-returns-in_err-op : goal.read_operand-returns-in_err-op
read_operand-returns-in_err-op t c =
    let p = err_from_is_err_and c.from_residual.result c.from_residual.ensures.1 in
    rw (p.1, p.2) (op_fails c.args.limit c.args.count c.args.tokens.now _ c.in_err-op.ensures)

pub read_operand-returns-in_err-pat : goal.read_operand-returns-in_err-pat
read_operand-returns-in_err-pat t c =
    let p = err_from_is_err_and c.from_residual-in_err-pat.result c.from_residual-in_err-pat.ensures.1 in
    rw (p.1, p.2) (operand_fails c.args.limit c.args.count c.args.tokens.now c.in_ok-op.op.tree _ _ _ _
    c.in_ok-op.ensures c.lower.ensures c.in_err-pat.ensures)

pub read_operand-returns : goal.read_operand-returns
read_operand-returns t c =
    item_ok c.args.limit c.args.count c.args.tokens.now c.in_ok-op.op.tree _ _ _ c.in_ok-pat.pat.tree _ _
    c.in_ok-op.ensures c.lower.ensures c.in_ok-pat.ensures

pub read_apats-returns-in_err-head : goal.read_apats-returns-in_err-head
read_apats-returns-in_err-head t c =
    let p = err_from_is_err_and c.from_residual.result c.from_residual.ensures.1 in
    rw (p.1, p.2) (state_head_fails (apats_chain c.args.limit) c.args.tokens.now _ c.in_err-head.ensures)

pub read_pats-returns-in_err-head : goal.read_pats-returns-in_err-head
read_pats-returns-in_err-head t c =
    let p = err_from_is_err_and c.from_residual.result c.from_residual.ensures.1 in
    rw (p.1, p.2) (state_head_fails (pats_chain c.args.most c.args.limit) c.args.tokens.now _ c.in_err-head.ensures)

pub read_pats-read_chain-returns : goal.read_pats-read_chain-returns
read_pats-read_chain-returns t c = c.read_part.ensures

pub read_part-returns : goal.read_part-returns
read_part-returns t c =
    let led = comma_led c.args.tokens.now c.requires ∙ ap (λ l. t_of.Comma ∷ l) (sym c.after.ensures) in
    behind_answers t_of.Comma (pat_sort c.args.limit) c.args.tokens.now _ c.read_pat.result led c.read_pat.ensures

pub read_as-returns-then-not-allows : goal.read_as-returns-then-not-allows
read_as-returns-then-not-allows t c =
    name_over c.args.limit c.args.name c.args.tokens.now _ c.in-Some.ensures
    (λ w. true≢false (sym (c.allows.ensures.1 w) ∙ c.if-not-allows.true))

pub read_as-returns-in_err-part : goal.read_as-returns-in_err-part
read_as-returns-in_err-part t c =
    let p = err_from_is_err_and c.from_residual.result c.from_residual.ensures.1 in
    rw (p.1, p.2) (as_fails c.args.limit c.args.name c.args.tokens.now _ _ _ c.in-Some.ensures
    (c.allows.ensures.0 c.if-not-allows.false) c.lower.ensures c.in_err-part.ensures)

pub read_inside-returns-in_err-inner : goal.read_inside-returns-in_err-inner
read_inside-returns-in_err-inner t c =
    let p = err_from_is_err_and c.from_residual.result c.from_residual.ensures.1 in
    rw (p.1, p.2) (inside_fails c.args.limit c.args.tokens.now _ _ c.requires.room c.lower.ensures c.requires.opens
    c.in_err-inner.ensures)

pub read_inside-returns : goal.read_inside-returns
read_inside-returns t c =
    inside_none c.args.limit c.args.tokens.now _ c.in_ok-inner.inner.tree.0 c.in_ok-inner.inner.tree.1 _ _
    c.requires.room c.lower.ensures c.requires.opens c.in_ok-inner.ensures c.in-None.ensures

pub read_bracket-returns-then-not-allows : goal.read_bracket-returns-then-not-allows
read_bracket-returns-then-not-allows t c =
    bracket_over c.args.limit c.args.tokens.now (λ w. true≢false (sym (c.allows.ensures.1 w)
    ∙ c.if-not-allows.true)) c.in_default.ensures

pub read_bracket-returns-in_err-inner : goal.read_bracket-returns-in_err-inner
read_bracket-returns-in_err-inner t c =
    let p = err_from_is_err_and c.from_residual.result c.from_residual.ensures.1 in
    rw (p.1, p.2) (list_fails c.args.limit c.args.tokens.now _ _
    (c.allows.ensures.0 c.if-not-allows.false) c.lower.ensures c.in_default.ensures c.in_err-inner.ensures)

pub read_bracket-returns : goal.read_bracket-returns
read_bracket-returns t c =
    list_none c.args.limit c.args.tokens.now _ c.in_ok-inner.inner.tree.0 c.in_ok-inner.inner.tree.1 _ _
    (c.allows.ensures.0 c.if-not-allows.false) c.lower.ensures c.in_default.ensures c.in_ok-inner.ensures
    c.in-None.ensures

pub read_lazy-returns-in_err-part : goal.read_lazy-returns-in_err-part
read_lazy-returns-in_err-part w c =
    let p = err_from_is_err_and c.from_residual.result c.from_residual.ensures.1 in
    rw (p.1, p.2) (lazy_fails c.args.limit (Tilde ∷ c.args.tokens.now) c.args.tokens.now _ _ refl
    (c.allows.ensures.0 c.if-not-allows.false) c.lower.ensures c.in_err-part.ensures)

pub read_apat-returns-in_default : goal.read_apat-returns-in_default
read_apat-returns-in_default t c =
    subst (λ n. Rejects (apat_form c.args.limit) c.args.tokens.now n) c.in_default.ensures.cases
    (none_here c.args.limit c.args.tokens.now (empty_begins starts_apat c.args.tokens.now c.in_default.ensures.cases))

pub read_apat-returns-in_default-first : goal.read_apat-returns-in_default-first
read_apat-returns-in_default-first t c =
    let is = c.in_default-first in
    none_here c.args.limit c.args.tokens.now
    (ap (begins starts_apat) c.in-Some.ensures.cases.0
    ∙ no_apat c.in-Some.first.now is.not-Var is.not-Con is.not-Underscore is.not-Integer is.not-Char is.not-Text
    is.not-LeftParen is.not-LeftBracket is.not-Tilde)

pub read_as-returns-in_default : goal.read_as-returns-in_default
read_as-returns-in_default t c = name_ok c.args.limit c.args.name c.args.tokens.now c.in_default.ensures

pub read_as-returns : goal.read_as-returns
read_as-returns t c =
    rw c.in_ok-tree.ensures
    (as_ok c.args.limit c.args.name c.args.tokens.now _ _ c.in_ok-part.part.tree _ _ c.in-Some.ensures
    (c.allows.ensures.0 c.if-not-allows.false) c.lower.ensures
    c.in_ok-part.ensures)

pub read_bracket-returns-in-Some : goal.read_bracket-returns-in-Some
read_bracket-returns-in-Some t c = nil_ok c.args.limit c.args.tokens.now _ c.in-Some.ensures

pub read_bracket-returns-in-Some-after_right_bracket :
    goal.read_bracket-returns-in-Some-after_right_bracket
read_bracket-returns-in-Some-after_right_bracket t c =
    rw c.in_ok-first-in-Some-after_right_bracket.ensures
    (list_ok c.args.limit c.args.tokens.now _ c.in_ok-inner.inner.tree.0 c.in_ok-inner.inner.tree.1 _ _ _
    (c.allows.ensures.0 c.if-not-allows.false) c.lower.ensures
    c.in_ok-inner.ensures c.in-Some-after_right_bracket.ensures)

pub read_inside-returns-in-Some : goal.read_inside-returns-in-Some
read_inside-returns-in-Some t c =
    rw c.in_ok-first-in-Some.ensures
    (inside_ok c.args.limit c.args.tokens.now _ c.in_ok-inner.inner.tree.0 c.in_ok-inner.inner.tree.1 _ _ _
    c.requires.room c.lower.ensures
    c.in_ok-inner.ensures c.in-Some.ensures)

pub read_lazy-returns-then-not-allows : goal.read_lazy-returns-then-not-allows
read_lazy-returns-then-not-allows t c =
    subst (λ n. Rejects (apat_form c.args.limit) (Tilde ∷ c.args.tokens.now) n) (omega arith)
    (lazy_over c.args.limit (Tilde ∷ c.args.tokens.now) c.args.tokens.now refl
    (λ w. true≢false (sym (c.allows.ensures.1 w) ∙ c.if-not-allows.true)))

pub read_lazy-returns : goal.read_lazy-returns
read_lazy-returns t c =
    rw c.in_ok-tree.ensures
    (lazy_ok c.args.limit (Tilde ∷ c.args.tokens.now) c.args.tokens.now _ c.in_ok-part.part.tree _ _ refl
    (c.allows.ensures.0 c.if-not-allows.false) c.lower.ensures
    c.in_ok-part.ensures)

pub read_lpat-returns-in-None : goal.read_lpat-returns-in-None
read_lpat-returns-in-None t c = minus_none c.args.limit c.args.tokens.now _ c.in-Some.ensures c.in-None.ensures

pub read_lpat-returns-in_err-first : goal.read_lpat-returns-in_err-first
read_lpat-returns-in_err-first t c =
    let p = err_from_is_err_and c.from_residual-in_err-first.result c.from_residual-in_err-first.ensures.1 in
    rw (p.1, p.2) (apat_fails c.args.limit c.args.tokens.now _ c.in_default.ensures c.in_err-first.ensures)

pub read_lpat-returns-then-not-begins_apat : goal.read_lpat-returns-then-not-begins_apat
read_lpat-returns-then-not-begins_apat t c =
    alone_ok c.args.limit c.args.tokens.now _ _ _
    (subst (λ x. Accepts (apat_form c.args.limit) depth_of_apat c.args.tokens.now x c.in_ok-first.field-0.rest.now
    c.in_ok-first.field-0.depth) c.in-Con.is c.in_ok-first.ensures)
    (λ con e. sym c.begins_apat.ensures ∙ c.if-not-begins_apat.true)

pub read_lpat-returns-in_err-args-in-Con : goal.read_lpat-returns-in_err-args-in-Con
read_lpat-returns-in_err-args-in-Con t c =
    let con = subst (λ x. Accepts (apat_form c.args.limit) depth_of_apat c.args.tokens.now x
    c.in_ok-first.field-0.rest.now c.in_ok-first.field-0.depth) c.in-Con.is c.in_ok-first.ensures in
    let p = err_from_is_err_and c.from_residual-in_err-args-in-Con.result c.from_residual-in_err-args-in-Con.ensures.1
    in
    rw (p.1, p.2) (args_fail c.args.limit c.args.tokens.now c.in-Con.con _ _ _ con (sym c.begins_apat.ensures
    ∙ c.if-not-begins_apat.false) c.in_err-args-in-Con.ensures)

pub read_lpat-returns-in_ok-args-in-Con : goal.read_lpat-returns-in_ok-args-in-Con
read_lpat-returns-in_ok-args-in-Con t c =
    let con = subst (λ x. Accepts (apat_form c.args.limit) depth_of_apat c.args.tokens.now x
    c.in_ok-first.field-0.rest.now c.in_ok-first.field-0.depth) c.in-Con.is c.in_ok-first.ensures in
    applied_ok c.args.limit c.args.tokens.now c.in-Con.con _ _ c.in_ok-args-in-Con.args.tree.0
    c.in_ok-args-in-Con.args.tree.1 _ _ con c.in_ok-args-in-Con.ensures

pub read_lpat-returns-in_default-first : goal.read_lpat-returns-in_default-first
read_lpat-returns-in_default-first t c =
    alone_ok c.args.limit c.args.tokens.now c.in_ok-first.field-0.tree _ _ c.in_ok-first.ensures
    (λ con e. absurd (c.in_default-first.not-Con con (sym e)))

pub read_paren-returns-in_default : goal.read_paren-returns-in_default
read_paren-returns-in_default t c = paren_end c.args.limit c.args.tokens.now c.in_default.ensures.cases

pub read_paren-returns-in_err-name : goal.read_paren-returns-in_err-name
read_paren-returns-in_err-name t c =
    let p = err_from_is_err_and c.from_residual.result c.from_residual.ensures.1 in
    rw (p.1, p.2) (tuple_fails c.args.limit c.args.tokens.now _ (sym c.begins_tuple_name.ensures
    ∙ c.if-begins_tuple_name.true) c.in_err-name.ensures.answers)

pub read_paren-returns-then-begins_tuple_name : goal.read_paren-returns-then-begins_tuple_name
read_paren-returns-then-begins_tuple_name t c =
    rw c.named_con.ensures (tuple_ok c.args.limit c.args.tokens.now c.in_ok-name.name.tree _ _
    c.in_ok-name.ensures.answers)

pub read_paren-returns-then-not-starts_pat : goal.read_paren-returns-then-not-starts_pat
read_paren-returns-then-not-starts_pat t c =
    let at = c.in-Some.ensures.cases.0 ∙ ap (λ k. k ∷ c.in-Some.next.now) c.in-VarSym.is in
    let ends = c.in_default-after_right_paren.ensures in
    elim c.then-not-starts_pat.branch [
      | read_paren-then-not-starts_pat-via-then-not-starts_pat w ↦
          op_none c.args.limit c.in-VarSym.name c.args.tokens.now c.in-Some.next.now at ends (sym c.starts_pat.ensures
          ∙ w.if-not-starts_pat.true)
      | read_paren-then-not-starts_pat-via-else-not-starts_pat+then-not-allows w ↦
          minus_over c.args.limit c.in-VarSym.name c.args.tokens.now c.in-Some.next.now at (sym c.starts_pat.ensures
          ∙ w.if-not-starts_pat.false)
          (λ r. true≢false (sym (w.allows.ensures.1 r) ∙ w.if-not-allows.true))
    ]

pub read_paren-returns-then-not-allows-2 : goal.read_paren-returns-then-not-allows-2
read_paren-returns-then-not-allows-2 t c =
    let is = c.in_default-first in
    let name = sym (ap (begins starts_tuple_name) c.in-Some.ensures.cases.0) ∙ sym c.begins_tuple_name.ensures
    ∙ c.if-begins_tuple_name.false in
    paren_over c.args.limit c.args.tokens.now
    (ap (begins opens_name) c.in-Some.ensures.cases.0
    ∙ no_opening c.in-Some.first.now name is.not-ConSym is.not-Colon is.not-VarSym)
    (λ w. true≢false (sym (c.allows-in_default-first.ensures.1 w) ∙ c.if-not-allows-2.true))

pub read_paren-returns-in_ok-from_bytes-in-Some-after_right_paren :
    goal.read_paren-returns-in_ok-from_bytes-in-Some-after_right_paren
read_paren-returns-in_ok-from_bytes-in-Some-after_right_paren t c =
    let at = c.in-Some.ensures.cases.0 ∙ ap (λ k. k ∷ c.in-Some.next.now) c.in-ConSym.is in
    rw (c.in_ok-from_bytes-in-Some-after_right_paren.ensures, c.as_bytes.ensures)
    (sym_ok c.args.limit c.in-ConSym.name c.args.tokens.now c.in-Some.next.now _ at c.in-Some-after_right_paren.ensures)

pub read_paren-returns-in-None : goal.read_paren-returns-in-None
read_paren-returns-in-None t c =
    let at = c.in-Some.ensures.cases.0 ∙ ap (λ k. k ∷ c.in-Some.next.now) c.in-ConSym.is in
    sym_none c.args.limit c.in-ConSym.name c.args.tokens.now c.in-Some.next.now at c.in-None.ensures

pub read_paren-returns-in-Some-after_right_paren-2 : goal.read_paren-returns-in-Some-after_right_paren-2
read_paren-returns-in-Some-after_right_paren-2 t c =
    let at = c.in-Some.ensures.cases.0 ∙ ap (λ k. k ∷ c.in-Some.next.now) c.in-Colon.is in
    colon_ok c.args.limit c.args.tokens.now c.in-Some.next.now _ at c.in-Some-after_right_paren-2.ensures

pub read_paren-returns-in-None-after_right_paren : goal.read_paren-returns-in-None-after_right_paren
read_paren-returns-in-None-after_right_paren t c =
    let at = c.in-Some.ensures.cases.0 ∙ ap (λ k. k ∷ c.in-Some.next.now) c.in-Colon.is in
    colon_none c.args.limit c.args.tokens.now c.in-Some.next.now at c.in-None-after_right_paren.ensures
