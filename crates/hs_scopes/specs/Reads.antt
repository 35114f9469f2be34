-- What a reader of chains answers.
use Rattle.std.specs.Prelude.{Bool, true, false, ◌≡◌, List, [], ◌∷◌, ◌++◌, Option}
use Rattle.hs_scopes.specs.Sides.{Side}
use Rattle.bp_base.specs.declared.entity.Fixity.{Fixity}
use Rattle.hs_scopes.specs.Chains.{Operator}
use Rattle.hs_scopes.specs.Chains.{Piece}
use Rattle.hs_scopes.specs.Sides.{side_in}
use Rattle.hs_scopes.specs.Chains.{Tree, spelled, FitsLeft, FitsRight, Respects}

-- what follows isn't for an Tree.operand behind `outer`
abbrev pub Stops : Option Fixity → List Piece → Type 0
Stops outer [] = Unit {0}
Stops outer (Piece.Operator' o ∷ ps) = side_in outer o.fixity ≡ Side.Left
Stops outer (x ∷ ps) = ⊥

-- what follows may take the tree as its left Tree.operand
abbrev pub Takes : Tree → List Piece → Type 0
Takes t (Piece.Operator' o ∷ ps) = FitsLeft t o.fixity
Takes t ps = Unit {0}

pub record Reads (outer : Option Fixity) (ps : List Piece) (t : Tree) (rest : List Piece) : Type 0 where
  pub respects : Respects t
  pub fits : FitsRight outer t
  pub split : spelled t ++ rest ≡ ps
  pub stops : Stops outer rest
  pub only : (u : Tree) (after : List Piece) → Respects u → FitsRight outer u → Stops outer after → spelled u ++ after
      ≡ ps → (u ≡ t) × (after ≡ rest)

abbrev pub NotRead : Option Fixity → List Piece → Type 0
NotRead outer ps = (u : Tree) (after : List Piece) → Respects u → FitsRight outer u → Stops outer after → spelled u
    ++ after ≡ ps → ⊥

-- operators with their right operands
pub record Part : Type 0 where
  pub operator : Operator
  pub right : Tree

abbrev pub grown : Tree → List Part → Tree
grown t [] = t
grown t (x ∷ xs) = grown (Tree.apply x.operator t x.right) xs

abbrev pub tail_of : List Part → List Piece
tail_of [] = []
tail_of (x ∷ xs) = Piece.Operator' x.operator ∷ (spelled x.right ++ tail_of xs)

-- so far a tree was read, and each tree at the front grows from it
pub record Going (outer : Option Fixity) (ps : List Piece) (t : Tree) (rest : List Piece) : Type 0 where
  pub respects : Respects t
  pub fits : FitsRight outer t
  pub split : spelled t ++ rest ≡ ps
  pub takes : Takes t rest
  pub only : (u : Tree) (after : List Piece) → Respects u → FitsRight outer u → Stops outer after → spelled u ++ after
      ≡ ps →
      (more : List Part) × (u ≡ grown t more) × (rest ≡ tail_of more ++ after)

abbrev pub begins : (Piece → Bool) → List Piece → Bool
begins f [] = false
begins f (x ∷ xs) = f x

abbrev pub is_operator : Piece → Bool
is_operator (Piece.Operator' o) = true
is_operator other = false

abbrev pub is_operand : Piece → Bool
is_operand (Piece.Operand i) = true
is_operand other = false

abbrev pub is_minus : Piece → Bool
is_minus Piece.Minus = true
is_minus other = false
