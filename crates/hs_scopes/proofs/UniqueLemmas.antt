-- A chain has at most one reading; sections.
use Rattle.std.proofs.Common.{◌≡◌, ◌++◌, List, [], ◌∷◌, refl, sym, ap, ◌∙◌, subst, append_assoc, append-nil}
use Rattle.std.specs.Prelude.{Option, Some, None, MatchOption}
use Rattle.std.proofs.lemmas.List.{append_cancel_right}
use Rattle.bp_base.specs.declared.entity.Fixity.{Fixity}
use Rattle.hs_scopes.specs.Chains.{Operator}
use Rattle.hs_scopes.specs.Chains.{Piece}
use Rattle.hs_scopes.specs.Sides.{minus}
use Rattle.hs_scopes.specs.Chains.{Tree, spelled, root, FitsLeft, FitsRight, Respects, IsReading, IsLeftSection}
use Rattle.hs_scopes.specs.Chains.{IsRightSection}
use Rattle.hs_scopes.specs.Reads.{Stops, Going}
use Rattle.hs_scopes.proofs.GrowingLemmas.{fits_behind, stops_behind}
use Rattle.hs_scopes.proofs.StepLemmas.{head_operand, head_minus, step, stop, fits_none}

-- what the last operator of the tree takes ends before the rest
abbrev Ends : Tree → List Piece → Type 0
Ends t rest = MatchOption (root t) (Unit {0}) (λ f. Stops (Some f) rest)

ends_of : (outer : Option Fixity) (t : Tree) (rest : List Piece) → FitsRight outer t → Stops outer rest → Ends t rest
ends_of outer (Tree.operand i) rest f st = tt
ends_of outer (Tree.negate t) rest f st = stops_behind outer minus rest f st
ends_of outer (Tree.apply o l r) rest f st = stops_behind outer o.fixity rest f st

going : (outer : Option Fixity) (t : Tree) (rest : List Piece) → Respects t → FitsRight outer t → Ends t rest
    → Going outer (spelled t ++ rest) t rest
going outer (Tree.operand i) rest h f e = head_operand outer i rest
going outer (Tree.negate t) rest h f e =
    head_minus outer (spelled t ++ rest) rest t f
    (stop (Some minus) (spelled t ++ rest) t rest (going (Some minus) t rest h.0 h.1
    (ends_of (Some minus) t rest h.1 e)) e)
going outer (Tree.apply o l r) rest h f e =
    subst (λ ps. Going outer ps (Tree.apply o l r) rest)
    (sym (append_assoc (spelled l) (Piece.Operator' o ∷ spelled r) rest))
    (step outer (spelled l ++ Piece.Operator' o ∷ (spelled r ++ rest)) l (Piece.Operator' o ∷ (spelled r ++ rest)) o
    (spelled r ++ rest) r rest
    (going outer l (Piece.Operator' o ∷ (spelled r ++ rest)) h.0 (fits_behind outer l o h.1 f) h.1) refl f
    (stop (Some o.fixity) (spelled r ++ rest) r rest
    (going (Some o.fixity) r rest h.2 h.3 (ends_of (Some o.fixity) r rest h.3 e)) e))

pub one : (chain : List Piece) (t u : Tree) → IsReading chain t → IsReading chain u → u ≡ t
one chain t u a b =
    let g = stop None (spelled t ++ []) t [] (going None t [] a.respects (fits_none t)
    (ends_of None t [] (fits_none t) tt)) tt in
    (g.only u [] b.respects (fits_none u) tt (append-nil (spelled u) ∙ b.spells ∙ sym a.spells ∙ sym
    (append-nil (spelled t)))).0

pub left_ok : (ps : List Piece) (o : Operator) (t : Tree) → IsReading ps t → FitsLeft t o.fixity → IsLeftSection ps o t
left_ok ps o t h f z = record {
  spells = ap (λ q. q ++ Piece.Operator' o ∷ Piece.Operand z ∷ []) h.spells;
  respects =
      (h.respects, f, tt, tt);
}

pub left_chain : (ps : List Piece) (o : Operator) (t : Tree) → IsLeftSection ps o t → IsReading ps t
left_chain ps o t h = record {
  spells = append_cancel_right (spelled t) ps (Piece.Operator' o ∷ Piece.Operand 0 ∷ [])
      (h 0).spells;
  respects = (h 0).respects.0;
}

pub right_ok : (o : Operator) (ps : List Piece) (t : Tree) → IsReading ps t → FitsRight (Some o.fixity) t
    → IsRightSection o ps t
right_ok o ps t h f z = record {
  spells = ap (λ q. Piece.Operand z ∷ Piece.Operator' o ∷ q) h.spells;
  respects =
      (tt, tt, h.respects, f);
}

pub right_chain : (o : Operator) (ps : List Piece) (t : Tree) → IsRightSection o ps t → IsReading ps t
right_chain o ps t h = record { spells = let q = (h 0).spells in cc; respects = (h 0).respects.2 }
