-- A chain of operators piece by piece (Haskell 2010 Report, section 3.4). Each operator and each sign begins a piece,
-- so the number of the pieces is what the chain adds to its deepest operand: `- a + - b` are the pieces `- a`, `+`, `- b`.
use Rattle.std.specs.Prelude.{◌≡◌, ℕ, ◌+◌, Bool, true, false, not, ◌&&◌, ◌||◌, List, [], ◌∷◌, ◌++◌, flat_map}
use Rattle.std.specs.Prelude.{map, Option, Some, None}
use Rattle.hs_forms.specs.Reading.{Form}
use Rattle.hs_forms.specs.Limits.{Within, lowered, all_of}
use Rattle.hs_tokens.specs.Terminals.{minus}
use Rattle.hs_tokens.specs.declared.terminal.Terminal.{Terminal}
use Rattle.hs_trees.specs.Patterns.{Ts}
use Rattle.hs_modules.specs.Words.{qop_tokens}
use Rattle.hs_modules.specs.Tokens.{spelling_operand, spelling_infix}
use Rattle.hs_modules.specs.Formed.{facts_of_operand, facts_of_infix}
use Rattle.hs_modules.specs.declared.names.QOpTree.{QOpTree}
use Rattle.hs_modules.specs.declared.names.QOpTree.TheVariants as q
use Rattle.hs_modules.specs.declared.expressions.OperandTree.{OperandTree}
use Rattle.hs_modules.specs.declared.expressions.InfixTree.{InfixTree, out-InfixTree}
use Rattle.hs_modules.specs.declared.expressions.OpOperand.{OpOperand, out-OpOperand}
use Rattle.hs_modules.specs.declared.expressions.SignedOperand.{SignedOperand, out-SignedOperand}
use Rattle.hs_expression_forms.specs.Trees.{Trees}
use Rattle.hs_expression_forms.specs.Expressions.{is_operand, depth_of_operand, operand_goes_on, starts_operand}
use Rattle.hs_expression_forms.specs.Expressions.{starts_qop, is_infix, depth_of_infix, infix_goes_on}

-- an operand, or none
abbrev pub Maybe : Type 0
Maybe = Option OperandTree

abbrev pub maybe_tokens : Maybe → Ts
maybe_tokens None = []
maybe_tokens (Some x) = spelling_operand x

abbrev pub maybe_formed : Maybe → Bool
maybe_formed None = true
maybe_formed (Some x) = is_operand x

abbrev pub maybe_deep : Maybe → ℕ
maybe_deep None = 0
maybe_deep (Some x) = depth_of_operand x

abbrev pub maybe_open : Maybe → Bool
maybe_open None = false
maybe_open (Some x) = (facts_of_operand x).is_open

abbrev pub maybe_goes_on : Maybe → Terminal → Bool
maybe_goes_on None k = starts_operand k
maybe_goes_on (Some x) k = operand_goes_on (facts_of_operand x) k

abbrev pub maybes : Trees Terminal Maybe
maybes = record { tokens = maybe_tokens; formed = maybe_formed; deep = maybe_deep; extends = maybe_goes_on }

-- an operator or sign, and the operand behind it if one stands there
abbrev pub Piece : Type 0
Piece = QOpTree × Maybe

abbrev pub piece_tokens : Piece → Ts
piece_tokens p = qop_tokens p.0 ++ maybe_tokens p.1

abbrev pub piece_formed : Piece → Bool
piece_formed p = maybe_formed p.1

abbrev pub piece_deep : Piece → ℕ
piece_deep p = maybe_deep p.1

abbrev pub piece_open : Piece → Bool
piece_open p = maybe_open p.1

-- no part but the last is open
abbrev pub shut_front : Bool → List Bool → Bool
shut_front b [] = true
shut_front b (c ∷ cs) = not b && shut_front c cs

abbrev pub last_maybe : Maybe → List Piece → Maybe
last_maybe h [] = h
last_maybe h (p ∷ ps) = last_maybe p.1 ps

abbrev pub pieces_formed : Maybe → List Piece → Bool
pieces_formed h ps =
    (maybe_formed h && all_of (map piece_formed ps)) && shut_front (maybe_open h) (map piece_open ps)

-- Each operand is within what the operators and signs before it leave of the limit.
abbrev pub Placed : Option ℕ → ℕ → List Piece → Type 0
Placed limit n [] = Unit {0}
Placed limit n (p ∷ ps) = Within (lowered limit (n + 1)) (piece_deep p) × Placed limit (n + 1) ps

-- Pieces in a row, whatever their signs.
abbrev pub pieces_form : Option ℕ → Form Terminal (Maybe × List Piece)
pieces_form limit = record {
  tokens = λ x. maybe_tokens x.0 ++ flat_map piece_tokens x.1;
  Good = λ x. (pieces_formed x.0 x.1 ≡ true) × Within limit (maybe_deep x.0) × Placed limit 0 x.1;
  extends = λ x k. starts_qop k || maybe_goes_on (last_maybe x.0 x.1) k;
}

-- the pieces of a chain
abbrev pub head_of : Bool → OperandTree → Maybe
head_of true x = None
head_of false x = Some x

abbrev pub sign_of : Bool → OperandTree → List Piece
sign_of true x = (q.Sym minus, Some x) ∷ []
sign_of false x = []

abbrev pub link_of : QOpTree → Bool → OperandTree → List Piece
link_of op true x = (op, None) ∷ (q.Sym minus, Some x) ∷ []
link_of op false x = (op, Some x) ∷ []

abbrev pub pieces_of_link : OpOperand → List Piece
pieces_of_link x =
    link_of (out-OpOperand x).op (out-SignedOperand (out-OpOperand x).operand).negated
    (out-SignedOperand (out-OpOperand x).operand).operand

abbrev pub head_piece : SignedOperand → Maybe
head_piece s = head_of (out-SignedOperand s).negated (out-SignedOperand s).operand

abbrev pub first_pieces : SignedOperand → List OpOperand → List Piece
first_pieces s xs =
    sign_of (out-SignedOperand s).negated (out-SignedOperand s).operand ++ flat_map pieces_of_link xs

abbrev pub tail_pieces : Option QOpTree → List Piece
tail_pieces None = []
tail_pieces (Some op) = (op, None) ∷ []

-- a chain, and the operator of a section behind it
abbrev pub Links : Type 0
Links = InfixTree × Option QOpTree

abbrev pub links_head : Links → Maybe
links_head l = head_piece (out-InfixTree l.0).first

abbrev pub links_pieces : Links → List Piece
links_pieces l = first_pieces (out-InfixTree l.0).first (out-InfixTree l.0).rest ++ tail_pieces l.1

abbrev pub tail_tokens : Option QOpTree → Ts
tail_tokens None = []
tail_tokens (Some op) = qop_tokens op

-- Chains, with an operator behind those that have no open operand, where one may stand there.
abbrev pub links : Bool → Trees Terminal Links
links lone = record {
  tokens = λ l. spelling_infix l.0 ++ tail_tokens l.1;
  formed = formed;
  deep = λ l. depth_of_infix l.0;
  extends = goes;
}
  where
    formed : Links → Bool
    formed (x, None) = is_infix x
    formed (x, Some op) = lone && (is_infix x && not (facts_of_infix x).is_open)

    goes : Links → Terminal → Bool
    goes (x, None) k = infix_goes_on (facts_of_infix x) k
    goes (x, Some op) k = starts_operand k || starts_qop k
