use Rattle.std.proofs.Common.{◌+◌, true, refl, sym, subst, arith}
use Rattle.std.proofs.lemmas.Result.{err_from_is_err_and}
use Rattle.hs_lex.proofs.CoverLemmas.{SoFar, so_far_none, so_far_more, so_far_all, refused}
use Rattle.hs_lex.proofs.PieceLemmas.{front_stands}
use Rattle.hs_lex.proofs.reader.lex.Goals as goal

pub pieces-init : goal.pieces-init
pieces-init c = subst (λ ts. SoFar c.args.bytes.now c.args.bytes.now ts 0 1 true) (sym c.new-tokens.ensures)
    (so_far_none c.args.bytes.now)

pub returns-in_err-take_piece : goal.returns-in_err-take_piece
returns-in_err-take_piece c =
    let p = err_from_is_err_and c.from_residual.result c.from_residual.ensures.1 in
    rw (p.1, p.2)
    (refused c.args.bytes.now c.pieces.left.now c.pieces.tokens c.pieces.offset c.pieces.column c.pieces.first
    c.piece-kind.result.0 (c.piece-kind.result.1 + 1)
    c.in_err-take_piece.field-0.0 c.pieces.invariant (omega arith)
    (front_stands c.in-Some.byte.now c.in-Some.rest.now c.pieces.left.now c.piece-kind.result.0 c.piece-kind.result.1
    c.in-Some.ensures.cases.0 c.piece-kind.ensures)
    c.in_err-take_piece.ensures)

pub pieces-preserved : goal.pieces-preserved
pieces-preserved c = so_far_more c.args.bytes.now c.pieces.left.now c.behind-left.result.now c.front-text.result.now
    c.pieces.tokens _ c.pieces.offset _ c.pieces.column c.column_past-column.result c.pieces.first
    c.first_after-first.result c.piece-kind.result.0 (c.piece-kind.result.1 + 1) c.pieces.invariant (omega arith)
    (front_stands c.in-Some.byte.now c.in-Some.rest.now c.pieces.left.now c.piece-kind.result.0 c.piece-kind.result.1
    c.in-Some.ensures.cases.0 c.piece-kind.ensures) c.in_ok-take_piece.ensures.1 c.front-text.ensures
    c.behind-left.ensures c.in_ok-take_piece.ensures.0 refl c.column_past-column.ensures c.first_after-first.ensures

pub returns : goal.returns
returns c = so_far_all c.args.bytes.now c.pieces.left.now c.pieces.tokens c.pieces.offset c.pieces.column c.pieces.first
    c.pieces.invariant c.in_default.ensures.cases
