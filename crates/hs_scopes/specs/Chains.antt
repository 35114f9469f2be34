-- Chains of operators, and how they are read (Haskell 2010 Report, section 10.6).
use Rattle.std.specs.Prelude.{◌≡◌, ℕ, zero, suc, Bool, true, false, List, [], ◌∷◌, ◌++◌, length, Option, Some, None}
use Rattle.std.specs.Prelude.{MatchOption}
use Rattle.bp_base.specs.declared.entity.Fixity.{Fixity}
use Rattle.hs_scopes.specs.Sides.{Side, side_of, side_in, minus}

-- an operator by its place, and what stands in a chain
pub record Operator : Type 0 where
  pub index : ℕ
  pub fixity : Fixity

pub data Piece : Type 0 where
  Operand : (index : ℕ) → Piece
  Minus : Piece
  Operator' : Operator → Piece

-- a chain with its operators applied
pub data Tree : Type 0 where
  operand : (index : ℕ) → Tree
  negate : (arg : Tree) → Tree
  apply : (operator : Operator) (left right : Tree) → Tree

-- ---- a reading, by what it is: each operator and its neighbours respect the fixities

-- the pieces of a tree, from left to right
abbrev pub spelled : Tree → List Piece
spelled (Tree.operand i) = Piece.Operand i ∷ []
spelled (Tree.negate t) = Piece.Minus ∷ spelled t
spelled (Tree.apply o l r) = spelled l ++ Piece.Operator' o ∷ spelled r

-- the operator that a tree applies last
abbrev pub root : Tree → Option Fixity
root (Tree.operand i) = None
root (Tree.negate t) = Some minus
root (Tree.apply o l r) = Some o.fixity

-- a tree may stand to the left of an operator
abbrev pub FitsLeft : Tree → Fixity → Type 0
FitsLeft t right = MatchOption (root t) (Unit {0}) (λ f. side_of f right ≡ Side.Left)

-- a tree may stand behind an operator, if there is one
abbrev pub FitsRight : Option Fixity → Tree → Type 0
FitsRight outer t = MatchOption (root t) (Unit {0}) (λ f. side_in outer f ≡ Side.Right)

abbrev pub Respects : Tree → Type 0
Respects (Tree.operand i) = Unit {0}
Respects (Tree.negate t) = Respects t × FitsRight (Some minus) t
Respects (Tree.apply o l r) = Respects l × FitsLeft l o.fixity × Respects r × FitsRight (Some o.fixity) r

pub record IsReading (chain : List Piece) (t : Tree) : Type 0 where
  pub spells : spelled t ≡ chain
  pub respects : Respects t

-- ---- a reading, as the report finds it

-- a tree that was read, and what stands behind it
pub record Got : Type 0 where
  pub tree : Tree
  pub rest : List Piece

abbrev pub if_got : {B : Type 0} → Option Got → (Got → Option B) → Option B
if_got None f = None
if_got (Some g) f = f g

-- behind an operator that goes first nothing is read; beside one of the same level that groups otherwise there is no
-- reading
abbrev pub by_side : Side → Option Got → (Unit {0} → Option Got) → Option Got
by_side Side.Left here further = here
by_side Side.Neither here further = None
by_side Side.Right here further = further tt

-- `parseNeg` and `parse1` of the report, where what was read so far is `left`. Each step takes a piece at least, so
-- as many steps as there are pieces are enough. A `-` may stand where an operator of its level may.
abbrev mutual
  pub parse_neg : ℕ → Option Fixity → List Piece → Option Got
  parse_neg zero outer ps = None
  parse_neg (suc n) outer [] = None
  parse_neg (suc n) outer (Piece.Operand i ∷ ps) = parse_one n outer (Tree.operand i) ps
  parse_neg (suc n) outer (Piece.Minus ∷ ps) =
      by_side (side_in outer minus) None (λ u. if_got (parse_neg n (Some minus) ps)
      (λ g. parse_one n outer (Tree.negate g.tree) g.rest))
  parse_neg (suc n) outer (Piece.Operator' o ∷ ps) = None

  pub parse_one : ℕ → Option Fixity → Tree → List Piece → Option Got
  parse_one n outer left [] = Some (record { tree = left; rest = [] })
  parse_one n outer left (Piece.Operand i ∷ ps) = None
  parse_one n outer left (Piece.Minus ∷ ps) = None
  parse_one zero outer left (Piece.Operator' o ∷ ps) = None
  parse_one (suc n) outer left (Piece.Operator' o ∷ ps) =
      by_side (side_in outer o.fixity) (Some (record { tree = left; rest = Piece.Operator' o ∷ ps }))
      (λ u. if_got (parse_neg n (Some o.fixity) ps) (λ g. parse_one n outer (Tree.apply o left g.tree) g.rest))

abbrev pub whole : Option Got → Option Tree
whole None = None
whole (Some g) = Some g.tree

-- the one reading of a chain
abbrev pub reading : List Piece → Option Tree
reading ps = whole (parse_neg (length ps) None ps)

-- ---- sections (Haskell 2010 Report, section 3.5)

-- `(c op)`: whatever operand comes last, the chain reads with this operator outermost
abbrev pub IsLeftSection : List Piece → Operator → Tree → Type 0
IsLeftSection ps o t = (z : ℕ) → IsReading (ps ++ Piece.Operator' o ∷ Piece.Operand z ∷ [])
    (Tree.apply o t (Tree.operand z))

abbrev pub IsRightSection : Operator → List Piece → Tree → Type 0
IsRightSection o ps t = (z : ℕ) → IsReading (Piece.Operand z ∷ Piece.Operator' o ∷ ps) (Tree.apply o (Tree.operand z) t)

abbrev pub is_left : Side → Bool
is_left Side.Left = true
is_left Side.Right = false
is_left Side.Neither = false

abbrev pub is_right : Side → Bool
is_right Side.Left = false
is_right Side.Right = true
is_right Side.Neither = false

abbrev pub fits_left : Option Fixity → Fixity → Bool
fits_left None f = true
fits_left (Some g) f = is_left (side_of g f)

abbrev pub fits_right : Option Fixity → Fixity → Bool
fits_right None f = true
fits_right (Some g) f = is_right (side_of f g)

abbrev pub kept : Bool → Tree → Option Tree
kept true t = Some t
kept false t = None

abbrev pub kept_left : Fixity → Option Tree → Option Tree
kept_left f None = None
kept_left f (Some t) = kept (fits_left (root t) f) t

abbrev pub kept_right : Fixity → Option Tree → Option Tree
kept_right f None = None
kept_right f (Some t) = kept (fits_right (root t) f) t

abbrev pub left_section : List Piece → Fixity → Option Tree
left_section ps f = kept_left f (reading ps)

abbrev pub right_section : Fixity → List Piece → Option Tree
right_section f ps = kept_right f (reading ps)
