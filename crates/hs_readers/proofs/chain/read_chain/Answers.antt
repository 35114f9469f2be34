-- Each step of the loop is a lemma of `StateLemmas`.
use Rattle.std.proofs.Common.{arith, ◌∙◌, sym, subst, true≢false}
use Rattle.std.proofs.lemmas.Result.{err_from_is_err_and}
use Rattle.hs_forms.specs.Answers.{Fails, Accepts}
use Rattle.hs_forms.specs.Forms.{item_form}
use Rattle.hs_forms.proofs.StateLemmas.{state_first, state_step, state_over, state_fails, state_stop}
use Rattle.hs_readers.proofs.chain.read_chain.Goals as goal

pub items-init : goal.items-init
items-init g c = rw c.new-more.ensures (state_first
    (g.C.Chained.chain c.args.limit) c.args.tokens.now _ _ _ c.requires.head)

pub returns-then-not-has_room : goal.returns-then-not-has_room
returns-then-not-has_room g c =
    let chain = g.C.Chained.chain c.args.limit in
    state_over chain c.args.tokens.now _ _ _ _ c.items.invariant (sym (c.begins_item.ensures c.args.limit)
    ∙ c.items-test.true)
    (λ room. true≢false (sym ((c.has_room.ensures c.items.invariant.deep_is).1 room) ∙ c.if-not-has_room.true))

pub returns-in_err-read : goal.returns-in_err-read
returns-in_err-read g c =
    let chain = g.C.Chained.chain c.args.limit in
    let p = err_from_is_err_and c.from_residual.result c.from_residual.ensures.1 in
    let room = (c.has_room.ensures c.items.invariant.deep_is).0 c.if-not-has_room.false in
    let part = subst (λ n. Fails (item_form chain.items chain.item chain.inner n) c.items.rest.now
    c.in_err-read.field-0.0) c.len-count.ensures (c.requires.says _ _ _ c.in_err-read.ensures) in
    rw (p.1, p.2) (state_fails chain c.args.tokens.now _ _ _ _ _ c.items.invariant
    (sym (c.begins_item.ensures c.args.limit) ∙ c.items-test.true) room part)

pub items-preserved : goal.items-preserved
items-preserved g c =
    let chain = g.C.Chained.chain c.args.limit in
    let room = (c.has_room.ensures c.items.invariant.deep_is).0 c.if-not-has_room.false in
    let part = subst (λ n. Accepts (item_form chain.items chain.item chain.inner n) chain.item_depth c.items.rest.now
    c.in_ok-read.read.tree c.in_ok-read.read.rest.now c.in_ok-read.read.depth) c.len-count.ensures
    (c.requires.says _ _ _ c.in_ok-read.ensures) in
    rw (c.in_ok-push.ensures.ok, c.max-deep.ensures)
    (state_step chain c.args.tokens.now _ _ _ _ _ _ _ c.items.invariant room part)

pub returns : goal.returns
returns g c =
    let chain = g.C.Chained.chain c.args.limit in
    let deep = c.total-depth.ensures.exact c.args.limit c.args.head.tree c.items.more
    (sym c.len.ensures) c.items.invariant.deep_is in
    let less = c.total-depth.ensures.within in
    let count = c.len.ensures in
    let room = c.items.invariant.room in
    rw (c.make.ensures c.args.limit) (state_stop chain g.C.Chained.depth c.args.tokens.now _ _ _ _ _ c.items.invariant
    (sym (c.begins_item.ensures c.args.limit) ∙ c.items-test.false) deep (omega arith))
