-- Pieces and readings, as trees of chains.
use Rattle.std.specs.Prelude.{List, map, Option, Some, None}
use Rattle.bp_base.specs.declared.entity.Fixity.{Fixity}
use Rattle.hs_scopes.specs.Sides.{Side, minus}
use Rattle.hs_scopes.specs.Chains.{Tree}
use Rattle.hs_scopes.specs.Chains as chains
use Rattle.chain_readings.specs.declared.side.Sided.{Sided}
use Rattle.chain_readings.specs.declared.side.Sided.TheVariants as s
use Rattle.chain_readings.specs.declared.chain.Operator.{Operator}
use Rattle.chain_readings.specs.declared.chain.Piece.{Piece}
use Rattle.chain_readings.specs.declared.chain.Piece.TheVariants as p
use Rattle.chain_readings.specs.declared.chain.Reading.{Reading}
use Rattle.chain_readings.specs.declared.chain.Reading.TheVariants as r
use Rattle.chain_readings.specs.declared.chain.Reading.TheBlock.{more_of-Reading, end_of-Reading}

abbrev pub side_at : Sided → Side
side_at s.Left = Side.Left
side_at s.Right = Side.Right
side_at s.Neither = Side.Neither

abbrev pub operator_at : Operator → chains.Operator
operator_at o = record { index = o.index; fixity = o.fixity }

abbrev pub piece_at : Piece → chains.Piece
piece_at (p.Operand i) = chains.Piece.Operand i
piece_at p.Minus = chains.Piece.Minus
piece_at (p.Operator o) = chains.Piece.Operator' (operator_at o)

abbrev pub pieces_at : List Piece → List chains.Piece
pieces_at ps = map piece_at ps

-- the tree that a reading is
abbrev pub tree_at : Reading → Tree
tree_at (r.Operand i) = Tree.operand i
tree_at (r.Negate' s (more_of-Reading a end_of-Reading)) = Tree.negate (tree_at a)
tree_at (r.Apply' o s (more_of-Reading l end_of-Reading) z (more_of-Reading t end_of-Reading)) =
    Tree.apply (operator_at o) (tree_at l) (tree_at t)

-- the operator that a reading applies last
abbrev pub root_at : Reading → Option Fixity
root_at (r.Operand i) = None
root_at (r.Negate' s a) = Some minus
root_at (r.Apply' o s l z t) = Some o.fixity
