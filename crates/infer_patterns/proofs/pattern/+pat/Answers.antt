use Rattle.std.proofs.Common.{sym, subst, get_or}
use Rattle.std.proofs.lemmas.Result.{err_from_is_err_and}
use Rattle.type_equations.specs.States.{state_of}
use Rattle.infer_patterns.specs.Patterns.{LiteralEntered, LiteralRefused, TupleRefused, PatternInferred, PatternRefused}
use Rattle.infer_patterns.proofs.EnterLemmas.{variable_inferred, wild_inferred, integer_inferred, integer_refused}
use Rattle.infer_patterns.proofs.EnterLemmas.{character_inferred, character_refused, string_inferred, string_refused}
use Rattle.infer_patterns.proofs.EnterLemmas.{tuple_head_refused, list_head_refused}
use Rattle.infer_patterns.proofs.RowLemmas.{row_start, row_next, row_end, row_none}
use Rattle.infer_patterns.proofs.ArmLemmas.{on_ok, if_err, Inferred, Refused, tuple_ok, tuple_err, list_ok, list_err}
use Rattle.infer_patterns.proofs.ArmLemmas.{con_ok, con_err, as_ok, as_err, lazy_ok, lazy_err}
use Rattle.infer_patterns.proofs.pattern.+pat.Goals as goal

pub infer_pat-returns-in_err-parts-in-PCon-clause-none : goal.infer_pat-returns-in_err-parts-in-PCon-clause-none
infer_pat-returns-in_err-parts-in-PCon-clause-none t c =
    let p = err_from_is_err_and c.from_residual-in_err-parts-in-PCon.result
    c.from_residual-in_err-parts-in-PCon.ensures.1 in
    rw (p.1, p.2) (λ z. subst (Refused c.args.names.now (state_of c.args.state.now) c.args.wanted) (sym c.in-PCon.is)
    (c.in_err-parts-in-PCon.ensures.none z c.in-PCon.args (sym c.len.ensures)))

pub infer_pat-returns-in_err-ids-in-PTuple-clause-none : goal.infer_pat-returns-in_err-ids-in-PTuple-clause-none
infer_pat-returns-in_err-ids-in-PTuple-clause-none t c =
    let p = err_from_is_err_and c.from_residual-in_err-ids-in-PTuple.result
    c.from_residual-in_err-ids-in-PTuple.ensures.1 in
    rw (p.1, p.2) (λ z. subst (Refused c.args.names.now (state_of c.args.state.now) c.args.wanted) (sym c.in-PTuple.is)
    (tuple_head_refused c.args.names.now (state_of c.args.state.now) c.in-PTuple.parts c.args.wanted
    (subst (λ k. TupleRefused (state_of c.args.state.now) c.args.wanted k) c.len-in-PTuple.ensures
    (c.in_err-ids-in-PTuple.ensures.none z))))

pub infer_pat-returns-in_err-ids-in-PList-clause-none : goal.infer_pat-returns-in_err-ids-in-PList-clause-none
infer_pat-returns-in_err-ids-in-PList-clause-none t c =
    let p = err_from_is_err_and c.from_residual-in_err-ids-in-PList.result
    c.from_residual-in_err-ids-in-PList.ensures.1 in
    rw (p.1, p.2) (λ z. subst (Refused c.args.names.now (state_of c.args.state.now) c.args.wanted) (sym c.in-PList.is)
    (list_head_refused c.args.names.now (state_of c.args.state.now) c.in-PList.parts c.args.wanted
    (c.in_err-ids-in-PList.ensures.none z)))

pub infer_pat-returns-in_ok-bind-in-PVar-clause-ok : goal.infer_pat-returns-in_ok-bind-in-PVar-clause-ok
infer_pat-returns-in_ok-bind-in-PVar-clause-ok t c =
    subst (Inferred c.args.names.now c.args.binders.now.items c.bind.new.binders.items (state_of c.args.state.now)
    (state_of c.args.state.now) c.args.wanted) (sym c.in-PVar.is)
    (variable_inferred c.args.names.now c.args.binders.now.items c.bind.new.binders.items (state_of c.args.state.now)
    c.in-PVar.name c.args.wanted c.in_ok-bind-in-PVar.ensures)

pub infer_pat-returns-in-PWild-clause-ok : goal.infer_pat-returns-in-PWild-clause-ok
infer_pat-returns-in-PWild-clause-ok t c =
    subst (Inferred c.args.names.now c.args.binders.now.items c.args.binders.now.items (state_of c.args.state.now)
    (state_of c.args.state.now) c.args.wanted) (sym c.in-PWild.is)
    (wild_inferred c.args.names.now c.args.binders.now.items (state_of c.args.state.now) c.args.wanted)

pub infer_pat-returns-in_ok-ty-in-PInt-clause-ok : goal.infer_pat-returns-in_ok-ty-in-PInt-clause-ok
infer_pat-returns-in_ok-ty-in-PInt-clause-ok t c = on_ok c.enter_literal.result
    (λ h. subst (Inferred c.args.names.now c.args.binders.now.items c.args.binders.now.items (state_of c.args.state.now)
    (state_of c.enter_literal.new.state) c.args.wanted) (sym c.in-PInt.is)
    (integer_inferred c.args.names.now c.args.binders.now.items (state_of c.args.state.now)
    (state_of c.enter_literal.new.state) c.in-PInt.negative c.in-PInt.value c.args.wanted
    (subst (LiteralEntered (state_of c.args.state.now) (state_of c.enter_literal.new.state) c.args.wanted)
    c.in_ok-ty-in-PInt.ensures h))) c.enter_literal.ensures.ok

pub infer_pat-returns-in_ok-ty-in-PInt-clause-none : goal.infer_pat-returns-in_ok-ty-in-PInt-clause-none
infer_pat-returns-in_ok-ty-in-PInt-clause-none t c = if_err c.enter_literal.result
    (λ h. subst (Refused c.args.names.now (state_of c.args.state.now) c.args.wanted) (sym c.in-PInt.is)
    (integer_refused c.args.names.now (state_of c.args.state.now) c.in-PInt.negative c.in-PInt.value c.args.wanted
    (subst (LiteralRefused (state_of c.args.state.now) c.args.wanted) c.in_ok-ty-in-PInt.ensures h)))
    c.enter_literal.ensures.none

pub infer_pat-returns-in_ok-ty-in-PChr-clause-ok : goal.infer_pat-returns-in_ok-ty-in-PChr-clause-ok
infer_pat-returns-in_ok-ty-in-PChr-clause-ok t c = on_ok c.enter_literal-in-PChr.result
    (λ h. subst (Inferred c.args.names.now c.args.binders.now.items c.args.binders.now.items (state_of c.args.state.now)
    (state_of c.enter_literal-in-PChr.new.state) c.args.wanted) (sym c.in-PChr.is)
    (character_inferred c.args.names.now c.args.binders.now.items (state_of c.args.state.now)
    (state_of c.enter_literal-in-PChr.new.state) c.in-PChr.code c.args.wanted
    (subst (LiteralEntered (state_of c.args.state.now) (state_of c.enter_literal-in-PChr.new.state) c.args.wanted)
    c.in_ok-ty-in-PChr.ensures h))) c.enter_literal-in-PChr.ensures.ok

pub infer_pat-returns-in_ok-ty-in-PChr-clause-none : goal.infer_pat-returns-in_ok-ty-in-PChr-clause-none
infer_pat-returns-in_ok-ty-in-PChr-clause-none t c = if_err c.enter_literal-in-PChr.result
    (λ h. subst (Refused c.args.names.now (state_of c.args.state.now) c.args.wanted) (sym c.in-PChr.is)
    (character_refused c.args.names.now (state_of c.args.state.now) c.in-PChr.code c.args.wanted
    (subst (LiteralRefused (state_of c.args.state.now) c.args.wanted) c.in_ok-ty-in-PChr.ensures h)))
    c.enter_literal-in-PChr.ensures.none

pub infer_pat-returns-in_ok-ty-in-PStr-clause-ok : goal.infer_pat-returns-in_ok-ty-in-PStr-clause-ok
infer_pat-returns-in_ok-ty-in-PStr-clause-ok t c = on_ok c.enter_literal-in-PStr.result
    (λ h. subst (Inferred c.args.names.now c.args.binders.now.items c.args.binders.now.items (state_of c.args.state.now)
    (state_of c.enter_literal-in-PStr.new.state) c.args.wanted) (sym c.in-PStr.is)
    (string_inferred c.args.names.now c.args.binders.now.items (state_of c.args.state.now)
    (state_of c.enter_literal-in-PStr.new.state) c.in-PStr.codes c.args.wanted
    (subst (LiteralEntered (state_of c.args.state.now) (state_of c.enter_literal-in-PStr.new.state) c.args.wanted)
    c.in_ok-ty-in-PStr.ensures h))) c.enter_literal-in-PStr.ensures.ok

pub infer_pat-returns-in_ok-ty-in-PStr-clause-none : goal.infer_pat-returns-in_ok-ty-in-PStr-clause-none
infer_pat-returns-in_ok-ty-in-PStr-clause-none t c = if_err c.enter_literal-in-PStr.result
    (λ h. subst (Refused c.args.names.now (state_of c.args.state.now) c.args.wanted) (sym c.in-PStr.is)
    (string_refused c.args.names.now (state_of c.args.state.now) c.in-PStr.codes c.args.wanted
    (subst (LiteralRefused (state_of c.args.state.now) c.args.wanted) c.in_ok-ty-in-PStr.ensures h)))
    c.enter_literal-in-PStr.ensures.none

pub infer_pat-returns-in_ok-parts-in-PCon-clause-ok : goal.infer_pat-returns-in_ok-parts-in-PCon-clause-ok
infer_pat-returns-in_ok-parts-in-PCon-clause-ok t c = on_ok c.infer_pats.result
    (λ h. con_ok c.args.names.now c.args.binders.now.items c.infer_pats.new.binders.items (state_of c.args.state.now)
    (state_of c.enter_con.new.state) (state_of c.infer_pats.new.state) c.args.pat.now c.in-PCon.name c.in-PCon.args
    c.as_slice.result.now c.as_slice-in-PCon.result.now c.in_ok-parts-in-PCon.parts.items c.args.wanted c.len.result
    c.in-PCon.is c.as_slice.ensures c.as_slice-in-PCon.ensures.value c.len.ensures c.in_ok-parts-in-PCon.ensures.ok h)
    c.infer_pats.ensures.ok

pub infer_pat-returns-in_ok-parts-in-PCon-clause-none : goal.infer_pat-returns-in_ok-parts-in-PCon-clause-none
infer_pat-returns-in_ok-parts-in-PCon-clause-none t c = if_err c.infer_pats.result
    (λ h. con_err c.args.names.now (state_of c.args.state.now) (state_of c.enter_con.new.state) c.args.pat.now
    c.in-PCon.name c.in-PCon.args c.as_slice.result.now c.as_slice-in-PCon.result.now
    c.in_ok-parts-in-PCon.parts.items c.args.wanted c.len.result c.in-PCon.is c.as_slice.ensures
    c.as_slice-in-PCon.ensures.value c.len.ensures c.in_ok-parts-in-PCon.ensures.ok h) c.infer_pats.ensures.none

pub infer_pat-returns-in_ok-ids-in-PTuple-clause-ok : goal.infer_pat-returns-in_ok-ids-in-PTuple-clause-ok
infer_pat-returns-in_ok-ids-in-PTuple-clause-ok t c = on_ok c.infer_pats-in-PTuple.result
    (λ h. tuple_ok c.args.names.now c.args.binders.now.items c.infer_pats-in-PTuple.new.binders.items c.args.state.now
    (state_of c.enter_tuple.new.state) (state_of c.infer_pats-in-PTuple.new.state) c.args.pat.now c.in-PTuple.parts
    c.as_slice-in-PTuple.result.now c.as_slice-in-PTuple-2.result.now c.in_ok-ids-in-PTuple.ids.items c.args.wanted
    c.len-in-PTuple.result c.in-PTuple.is c.as_slice-in-PTuple.ensures c.as_slice-in-PTuple-2.ensures.value
    c.len-in-PTuple.ensures c.in_ok-ids-in-PTuple.ensures.ids c.in_ok-ids-in-PTuple.ensures.ok h)
    c.infer_pats-in-PTuple.ensures.ok

pub infer_pat-returns-in_ok-ids-in-PTuple-clause-none : goal.infer_pat-returns-in_ok-ids-in-PTuple-clause-none
infer_pat-returns-in_ok-ids-in-PTuple-clause-none t c = if_err c.infer_pats-in-PTuple.result
    (λ h. tuple_err c.args.names.now c.args.state.now (state_of c.enter_tuple.new.state) c.args.pat.now
    c.in-PTuple.parts c.as_slice-in-PTuple.result.now c.as_slice-in-PTuple-2.result.now
    c.in_ok-ids-in-PTuple.ids.items c.args.wanted c.len-in-PTuple.result c.in-PTuple.is c.as_slice-in-PTuple.ensures
    c.as_slice-in-PTuple-2.ensures.value c.len-in-PTuple.ensures c.in_ok-ids-in-PTuple.ensures.ids
    c.in_ok-ids-in-PTuple.ensures.ok h) c.infer_pats-in-PTuple.ensures.none

pub infer_pat-returns-in_ok-ids-in-PList-clause-ok : goal.infer_pat-returns-in_ok-ids-in-PList-clause-ok
infer_pat-returns-in_ok-ids-in-PList-clause-ok t c = on_ok c.infer_pats-in-PList.result
    (λ h. list_ok c.args.names.now c.args.binders.now.items c.infer_pats-in-PList.new.binders.items c.args.state.now
    (state_of c.enter_list.new.state) (state_of c.infer_pats-in-PList.new.state) c.args.pat.now c.in-PList.parts
    c.as_slice-in-PList.result.now c.as_slice-in-PList-2.result.now c.in_ok-ids-in-PList.ids.items c.args.wanted
    c.len-in-PList.result c.in-PList.is c.as_slice-in-PList.ensures c.as_slice-in-PList-2.ensures.value
    c.len-in-PList.ensures c.in_ok-ids-in-PList.ensures.ids c.in_ok-ids-in-PList.ensures.ok h)
    c.infer_pats-in-PList.ensures.ok

pub infer_pat-returns-in_ok-ids-in-PList-clause-none : goal.infer_pat-returns-in_ok-ids-in-PList-clause-none
infer_pat-returns-in_ok-ids-in-PList-clause-none t c = if_err c.infer_pats-in-PList.result
    (λ h. list_err c.args.names.now c.args.state.now (state_of c.enter_list.new.state) c.args.pat.now
    c.in-PList.parts c.as_slice-in-PList.result.now c.as_slice-in-PList-2.result.now
    c.in_ok-ids-in-PList.ids.items c.args.wanted c.len-in-PList.result c.in-PList.is c.as_slice-in-PList.ensures
    c.as_slice-in-PList-2.ensures.value c.len-in-PList.ensures c.in_ok-ids-in-PList.ensures.ids
    c.in_ok-ids-in-PList.ensures.ok h) c.infer_pats-in-PList.ensures.none

pub infer_pat-returns-in_ok-bind-in-PAs-clause-ok : goal.infer_pat-returns-in_ok-bind-in-PAs-clause-ok
infer_pat-returns-in_ok-bind-in-PAs-clause-ok t c = on_ok c.infer_pat.result
    (λ h. as_ok c.args.names.now c.args.binders.now.items c.bind-in-PAs.new.binders.items
    c.infer_pat.new.binders.items (state_of c.args.state.now) (state_of c.infer_pat.new.state) c.args.pat.now
    c.in-PAs.pat c.get.result.now c.in-PAs.name c.args.wanted c.in-PAs.is c.get.ensures c.in_ok-bind-in-PAs.ensures h)
    c.infer_pat.ensures.ok

pub infer_pat-returns-in_ok-bind-in-PAs-clause-none : goal.infer_pat-returns-in_ok-bind-in-PAs-clause-none
infer_pat-returns-in_ok-bind-in-PAs-clause-none t c = if_err c.infer_pat.result
    (λ h. as_err c.args.names.now (state_of c.args.state.now) c.args.pat.now c.in-PAs.pat c.get.result.now
    c.in-PAs.name c.args.wanted c.in-PAs.is c.get.ensures h) c.infer_pat.ensures.none

pub infer_pat-returns-in-PLazy-clause-ok : goal.infer_pat-returns-in-PLazy-clause-ok
infer_pat-returns-in-PLazy-clause-ok t c = on_ok c.infer_pat-in-PLazy.result
    (λ h. lazy_ok c.args.names.now c.args.binders.now.items c.infer_pat-in-PLazy.new.binders.items
    (state_of c.args.state.now) (state_of c.infer_pat-in-PLazy.new.state) c.args.pat.now c.in-PLazy.pat
    c.get-in-PLazy.result.now c.args.wanted c.in-PLazy.is c.get-in-PLazy.ensures h) c.infer_pat-in-PLazy.ensures.ok

pub infer_pat-returns-in-PLazy-clause-none : goal.infer_pat-returns-in-PLazy-clause-none
infer_pat-returns-in-PLazy-clause-none t c = if_err c.infer_pat-in-PLazy.result
    (λ h. lazy_err c.args.names.now (state_of c.args.state.now) c.args.pat.now c.in-PLazy.pat
    c.get-in-PLazy.result.now c.args.wanted c.in-PLazy.is c.get-in-PLazy.ensures h) c.infer_pat-in-PLazy.ensures.none

pub infer_pats-loop-index-init : goal.infer_pats-loop-index-init
infer_pats-loop-index-init t c = row_start c.args.names.now c.args.pats.now c.args.wanted.now c.args.binders.now.items
    (state_of c.args.state.now)

pub infer_pats-loop-index-preserved : goal.infer_pats-loop-index-preserved
infer_pats-loop-index-preserved t c = row_next c.args.names.now c.args.pats.now c.args.wanted.now c.loop-index.index
    c.index-pats-index.result 0 c.args.binders.now.items c.loop-index.binders.items c.infer_pat.new.binders.items
    (state_of c.args.state.now) (state_of c.loop-index.state) (state_of c.infer_pat.new.state) c.loop-index-test.true
    c.requires c.loop-index.invariant
    (subst (λ p. PatternInferred c.args.names.now c.loop-index.binders.items c.infer_pat.new.binders.items
    (state_of c.loop-index.state) (state_of c.infer_pat.new.state) p
    (get_or c.args.wanted.now c.loop-index.index 0)) c.index-pats-index.is
    c.in_ok-infer_pat.ensures.ok)

pub infer_pats-returns-in_err-infer_pat-clause-none : goal.infer_pats-returns-in_err-infer_pat-clause-none
infer_pats-returns-in_err-infer_pat-clause-none t c =
    let p = err_from_is_err_and c.from_residual.result c.from_residual.ensures.1 in
    rw (p.1, p.2) (λ z. row_none c.args.names.now c.args.pats.now c.args.wanted.now c.loop-index.index
    c.index-pats-index.result 0 c.args.binders.now.items c.loop-index.binders.items (state_of c.args.state.now)
    (state_of c.loop-index.state) c.loop-index-test.true c.requires c.loop-index.invariant
    (subst (λ p. PatternRefused c.args.names.now (state_of c.loop-index.state) p
    (get_or c.args.wanted.now c.loop-index.index 0)) c.index-pats-index.is
    (c.in_err-infer_pat.ensures.none z)))

pub infer_pats-returns-clause-ok : goal.infer_pats-returns-clause-ok
infer_pats-returns-clause-ok t c = row_end c.args.names.now c.args.pats.now c.args.wanted.now c.loop-index.index
    c.args.binders.now.items c.loop-index.binders.items (state_of c.args.state.now) (state_of c.loop-index.state)
    c.loop-index-test.false c.requires c.loop-index.invariant
