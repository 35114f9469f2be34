-- Each return and each step of the loop is a lemma of the reader.
use Rattle.std.proofs.Common.{◌≡◌, ℕ, ◌+◌, ◌*◌, ◌<◌, length, [], ◌∷◌, refl, sym, ap, ◌∙◌, subst, arith}
use Rattle.std.specs.Prelude.{Some}
use Rattle.std.proofs.lemmas.Result.{err_from_is_err_and}
use Rattle.bp_base.specs.declared.entity.Fixity.{Fixity}
use Rattle.hs_scopes.specs.Sides.{side_in}
use Rattle.hs_scopes.specs.Chains.{Tree}
use Rattle.hs_scopes.specs.Reads.{Going, Reads, NotRead, Stops}
use Rattle.hs_scopes.proofs.StepLemmas.{head_operand, head_minus, minus_barred, head_none, step, clash, stop, stuck}
use Rattle.chain_readings.specs.Pieces.{operator_at, pieces_at, side_at, tree_at}
use Rattle.chain_readings.specs.declared.chain.Reading.TheBlock.{hidden-the_row-Reading-0}
use denote.Hole.Carrier.{hidden}
use Rattle.chain_readings.proofs.ReaderLemmas.{step_err, minus_err, sign_barred, stop_empty, is_empty, not_empty}
use Rattle.chain_readings.proofs.reader.+read.Goals as goal

pub read-returns-in-Left : goal.read-returns-in-Left
read-returns-in-Left t c = (
  stop _ _ _ _ c.operators.invariant.0
      (subst (Stops c.args.outer) (sym (ap pieces_at c.in-Some.ensures)) (sym c.in-Left.ensures)),
  c.operators.invariant.1,
)

pub read-returns-in-Neither : goal.read-returns-in-Neither
read-returns-in-Neither t c =
    clash _ _ _ _ _ _ c.operators.invariant.0 (ap pieces_at c.in-Some.ensures) (sym c.in-Neither.ensures)

pub read-returns-in_err-right-in-Right : goal.read-returns-in_err-right-in-Right
read-returns-in_err-right-in-Right t c =
    let p = err_from_is_err_and c.from_residual-in_err-right-in-Right.result c.from_residual-in_err-right-in-Right.ensures.1 in
    rw (p.1, p.2)
    (step_err _ _ c.args.pieces.now _ _ (operator_at c.in-Some.operator) c.in-Some.behind.now c.operators.invariant.0
    (ap pieces_at c.in-Some.ensures) (sym c.in-Right.ensures) c.in_err-right-in-Right.ensures)

pub read-operators-preserved : goal.read-operators-preserved
unfolding hidden-the_row-Reading-0 hidden
read-operators-preserved t c =
    rw (c.in_ok-new-in-Right.ensures, c.in_ok-new-in-Right-2.ensures) (
      step _ _ _ _ (operator_at c.in-Some.operator) _ _ _ c.operators.invariant.0 (ap pieces_at c.in-Some.ensures)
          (sym c.in-Right.ensures) c.in_ok-right-in-Right.ensures.0,
      (let e = ap length c.in-Some.ensures in let d = c.in_ok-right-in-Right.ensures.1 in omega arith),
    )

pub read-returns-then-is_empty : goal.read-returns-then-is_empty
read-returns-then-is_empty t c =
    (stop_empty _ _ _ _ c.operators.invariant.0 (is_empty c.operators.rest.now c.if-is_empty.ensures), c.operators.invariant.1)

pub read-returns-else-is_empty : goal.read-returns-else-is_empty
read-returns-else-is_empty t c =
    stuck _ _ _ _ c.operators.invariant.0 c.in_default.ensures (not_empty c.operators.rest.now c.if-is_empty.ensures)

pub read_head-returns-in-Some : goal.read_head-returns-in-Some
read_head-returns-in-Some t c = (
  subst (λ x. Going c.args.outer x (Tree.operand c.in-Some.index) (pieces_at c.in-Some.rest.now))
      (sym (ap pieces_at c.in-Some.ensures)) (head_operand _ _ _),
  (let e = ap length c.in-Some.ensures in omega arith),
)

pub read_head-returns-in_default-after_minus : goal.read_head-returns-in_default-after_minus
read_head-returns-in_default-after_minus t c = head_none _ _ c.in_default.ensures c.in_default-after_minus.ensures

pub read_head-returns-in_err-arg-in-Right : goal.read_head-returns-in_err-arg-in-Right
read_head-returns-in_err-arg-in-Right t c =
    let p = err_from_is_err_and c.from_residual.result c.from_residual.ensures.1 in
    rw (p.1, p.2)
    (minus_err _ _ _ c.args.pieces.now _ c.fixity_of_minus-sign.ensures (ap pieces_at c.in-Some-after_minus.ensures)
    c.in_err-arg-in-Right.ensures)

pub read_head-returns-in_ok-arg-in-Right-2 : goal.read_head-returns-in_ok-arg-in-Right-2
unfolding hidden-the_row-Reading-0 hidden
read_head-returns-in_ok-arg-in-Right-2 t c =
    rw c.in_ok-arg-in-Right-2.ensures (
      subst (λ x. Going c.args.outer x (Tree.negate (tree_at c.in_ok-arg-in-Right.arg)) (pieces_at c.in_ok-arg-in-Right.rest.now))
          (sym (ap pieces_at c.in-Some-after_minus.ensures))
          (head_minus _ _ _ _ (ap (side_in c.args.outer) (sym c.fixity_of_minus-sign.ensures) ∙ sym c.in-Right.ensures)
          (subst (λ (f : Fixity). Reads (Some f) (pieces_at c.in-Some-after_minus.behind.now) (tree_at c.in_ok-arg-in-Right.arg)
          (pieces_at c.in_ok-arg-in-Right.rest.now)) c.fixity_of_minus-sign.ensures c.in_ok-arg-in-Right.ensures.0)),
      (let e = ap length c.in-Some-after_minus.ensures in let d = c.in_ok-arg-in-Right.ensures.1 in omega arith),
    )

pub read_head-returns-in_default-side_within : goal.read_head-returns-in_default-side_within
read_head-returns-in_default-side_within t c =
    subst (NotRead c.args.outer) (sym (ap pieces_at c.in-Some-after_minus.ensures))
    (minus_barred _ _ (sign_barred c.args.outer _ c.side_within.result c.fixity_of_minus-sign.ensures c.side_within.ensures
    c.in_default-side_within.not-Right))
