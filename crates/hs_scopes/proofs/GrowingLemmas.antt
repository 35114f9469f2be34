-- Trees that grow from their first operand.
use Rattle.std.proofs.Common.{◌≡◌, ◌++◌, List, [], ◌∷◌, refl, sym, ap, ◌∙◌, subst, append_assoc, append-nil}
use Rattle.std.specs.Prelude.{Option, Some, MatchOption}
use Rattle.hs_scopes.specs.Sides.{Side}
use Rattle.bp_base.specs.declared.entity.Fixity.{Fixity}
use Rattle.hs_scopes.specs.Chains.{Operator}
use Rattle.hs_scopes.specs.Chains.{Piece}
use Rattle.hs_scopes.specs.Sides.{side_of, side_in, minus}
use Rattle.hs_scopes.specs.Chains.{Tree, spelled, root, FitsLeft, FitsRight, Respects}
use Rattle.hs_scopes.specs.Reads.{Stops, Part, grown, tail_of}
use Rattle.hs_scopes.proofs.SideLemmas.{behind_in, ends_in}

pub fits_behind : (outer : Option Fixity) (t : Tree) (o : Operator) → FitsLeft t o.fixity → side_in outer o.fixity
    ≡ Side.Right → FitsRight outer t
fits_behind outer (Tree.operand i) o l r = tt
fits_behind outer (Tree.negate t) o l r = behind_in outer o.fixity minus r l
fits_behind outer (Tree.apply x t u) o l r = behind_in outer o.fixity x.fixity r l

pub respects_grown : (t : Tree) (more : List Part) → Respects (grown t more) → Respects t
respects_grown t [] h = h
respects_grown t (x ∷ xs) h = (respects_grown (Tree.apply x.operator t x.right) xs h).0

pub fits_grown : (outer : Option Fixity) (t : Tree) (more : List Part) → Respects (grown t more) → FitsRight outer
    (grown t more) → FitsRight outer t
fits_grown outer t [] r h = h
fits_grown outer t (x ∷ xs) r h =
    fits_behind outer t x.operator (respects_grown (Tree.apply x.operator t x.right) xs r).1
    (fits_grown outer (Tree.apply x.operator t x.right) xs r h)

pub stops_behind : (outer : Option Fixity) (f : Fixity) (rest : List Piece) → side_in outer f ≡ Side.Right
    → Stops outer rest → Stops (Some f) rest
stops_behind outer f [] r h = tt
stops_behind outer f (Piece.Operator' o ∷ ps) r h = ends_in outer f o.fixity r h
stops_behind outer f (Piece.Operand i ∷ ps) r h = h
stops_behind outer f (Piece.Minus ∷ ps) r h = h

-- what follows a tree that grows ends what its last operator takes
pub stops_grown : (outer : Option Fixity) (f : Fixity) (t : Tree) (more : List Part) (after : List Piece) → root t
    ≡ Some f →
    Respects (grown t more) → FitsRight outer (grown t more) → Stops outer after → Stops (Some f)
    (tail_of more ++ after)
stops_grown outer f t [] after e r h stops =
    stops_behind outer f after (subst (λ x. MatchOption x (Unit {0}) (λ g. side_in outer g ≡ Side.Right)) e h) stops
stops_grown outer f t (x ∷ xs) after e r h stops =
    subst (λ y. MatchOption y (Unit {0}) (λ g. side_of g x.operator.fixity ≡ Side.Left)) e
    (respects_grown (Tree.apply x.operator t x.right) xs r).1

pub spelled_grown : (t : Tree) (more : List Part) → spelled (grown t more) ≡ spelled t ++ tail_of more
spelled_grown t [] = sym (append-nil (spelled t))
spelled_grown t (x ∷ xs) =
    spelled_grown (Tree.apply x.operator t x.right) xs ∙ append_assoc (spelled t)
    (Piece.Operator' x.operator ∷ spelled x.right) (tail_of xs)

grown_append : (t : Tree) (xs : List Part) (x : Part) → grown t (xs ++ x ∷ []) ≡ Tree.apply x.operator
    (grown t xs) x.right
grown_append t [] x = refl
grown_append t (y ∷ ys) x = grown_append (Tree.apply y.operator t y.right) ys x

-- an Tree.operand or a negation
abbrev pub IsSimple : Tree → Type 0
IsSimple (Tree.apply o l r) = ⊥
IsSimple t = Unit {0}

pub record Spine (u : Tree) : Type 0 where
  pub head : Tree
  pub more : List Part
  pub simple : IsSimple head
  pub is : u ≡ grown head more

pub spine : (u : Tree) → Spine u
spine (Tree.operand i) = record { head = Tree.operand i; more = []; simple = tt; is = refl }
spine (Tree.negate t) = record { head = Tree.negate t; more = []; simple = tt; is = refl }
spine (Tree.apply o l r) =
    let sub = spine l in
    let x : Part = record { operator = o; right = r } in
    record {
      head = sub.head;
      more = sub.more ++ x ∷ [];
      simple = sub.simple;
      is =
          ap (λ t. Tree.apply o t r) sub.is ∙ sym (grown_append sub.head sub.more x);
    }
