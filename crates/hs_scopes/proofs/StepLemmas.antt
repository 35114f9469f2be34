-- The steps of the reader.
use Rattle.std.proofs.Common.{◌≡◌, ℕ, ◌++◌, List, [], ◌∷◌, refl, sym, ap, ◌∙◌, subst, append_assoc, append-nil, length}
use Rattle.std.proofs.Common.{arith}
use Rattle.std.proofs.lemmas.Bool.Decides.{nat_tests}
use Rattle.std.specs.Prelude.{true, false, Option, Some, None, MatchOption, ◌==◌}
use Rattle.hs_scopes.specs.Sides.{Side}
use Rattle.bp_base.specs.declared.entity.Fixity.{Fixity}
use Rattle.hs_scopes.specs.Chains.{Operator}
use Rattle.hs_scopes.specs.Chains.{Piece}
use Rattle.hs_scopes.specs.Sides.{side_of, side_in, minus}
use Rattle.hs_scopes.specs.Chains.{Tree, spelled, root, FitsRight, Respects, IsReading}
use Rattle.hs_scopes.specs.Reads.{begins, is_operator, is_operand, is_minus, Stops, Takes, Part, grown, tail_of, Reads}
use Rattle.hs_scopes.specs.Reads.{NotRead, Going}
use Rattle.hs_scopes.proofs.GrowingLemmas.{respects_grown, fits_grown, stops_grown, spelled_grown, IsSimple, spine}

grown_split : (t : Tree) (more : List Part) (u : Tree) (after ps : List Piece) → u ≡ grown t more → spelled u ++ after
    ≡ ps →
    spelled t ++ (tail_of more ++ after) ≡ ps
grown_split t more u after ps is e =
    sym (append_assoc (spelled t) (tail_of more) after) ∙ ap (λ x. x ++ after)
    (sym (spelled_grown t more) ∙ ap spelled (sym is)) ∙ e

takes_operand : (i : ℕ) (rest : List Piece) → Takes (Tree.operand i) rest
takes_operand i [] = tt
takes_operand i (Piece.Operator' o ∷ ps) = tt
takes_operand i (Piece.Operand j ∷ ps) = tt
takes_operand i (Piece.Minus ∷ ps) = tt

takes_stops : (f : Fixity) (t : Tree) (rest : List Piece) → root t ≡ Some f → Stops (Some f) rest → Takes t rest
takes_stops f t [] e h = tt
takes_stops f t (Piece.Operator' o ∷ ps) e h = subst
    (λ x. MatchOption x (Unit {0}) (λ g. side_of g o.fixity ≡ Side.Left)) (sym e) h
takes_stops f t (Piece.Operand j ∷ ps) e h = tt
takes_stops f t (Piece.Minus ∷ ps) e h = tt

operand_only : (i : ℕ) (rest : List Piece) (u : Tree) (after : List Piece) (head : Tree) (more : List Part)
    → IsSimple head → u ≡ grown head more →
    spelled u ++ after ≡ Piece.Operand i ∷ rest → (more : List Part) × (u ≡ grown (Tree.operand i) more) ×
    (rest ≡ tail_of more ++ after)
operand_only i rest u after (Tree.operand j) more simple is e =
    let q = grown_split (Tree.operand j) more u after (Piece.Operand i ∷ rest) is e in
    (more, is ∙ ap (λ k. grown (Tree.operand k) more) (let c : j ≡ i = cc in c), cc)
operand_only i rest u after (Tree.negate t) more simple is e =
    let q = grown_split (Tree.negate t) more u after (Piece.Operand i ∷ rest) is e in absurd (cc)
operand_only i rest u after (Tree.apply o l r) more simple is e = absurd simple

pub head_operand : (outer : Option Fixity) (i : ℕ) (rest : List Piece) → Going outer (Piece.Operand i ∷ rest)
    (Tree.operand i) rest
head_operand outer i rest = record {
  respects = tt;
  fits = tt;
  split = refl;
  takes = takes_operand i rest;
  only = λ u after r f s e. let h = spine u in operand_only i rest u after h.head h.more h.simple h.is e;
}

-- how a tree begins with a `-`
record MinusCase (outer : Option Fixity) (rest : List Piece) (u : Tree) (after : List Piece) : Type 0 where
  arg : Tree
  more : List Part
  is : u ≡ grown (Tree.negate arg) more
  here : side_in outer minus ≡ Side.Right
  respects : Respects arg
  fits : FitsRight (Some minus) arg
  stops : Stops (Some minus) (tail_of more ++ after)
  split : spelled arg ++ (tail_of more ++ after) ≡ rest

minus_case_of : (outer : Option Fixity) (rest : List Piece) (u : Tree) (after : List Piece) (head : Tree)
    (more : List Part) → IsSimple head → u ≡ grown head more →
    Respects u → FitsRight outer u → Stops outer after → spelled u ++ after ≡ Piece.Minus ∷ rest
    → MinusCase outer rest u after
minus_case_of outer rest u after (Tree.operand j) more simple is r f st e =
    let q = grown_split (Tree.operand j) more u after (Piece.Minus ∷ rest) is e in absurd (cc)
minus_case_of outer rest u after (Tree.negate t) more simple is r f st e =
    let q = grown_split (Tree.negate t) more u after (Piece.Minus ∷ rest) is e in
    let r' : Respects (grown (Tree.negate t) more) = subst Respects is r in
    let f' : FitsRight outer (grown (Tree.negate t) more) = subst (λ x. FitsRight outer x) is f in
    let own = respects_grown (Tree.negate t) more r' in
    record {
      arg = t;
      more = more;
      is = is;
      here = fits_grown outer (Tree.negate t) more r' f';
      respects = own.0;
      fits = own.1;
      stops = stops_grown outer minus (Tree.negate t) more after refl r' f' st;
      split = cc;
    }
minus_case_of outer rest u after (Tree.apply o l r') more simple is r f st e = absurd simple

minus_case : (outer : Option Fixity) (rest : List Piece) (u : Tree) (after : List Piece) →
    Respects u → FitsRight outer u → Stops outer after → spelled u ++ after ≡ Piece.Minus ∷ rest
    → MinusCase outer rest u after
minus_case outer rest u after r f st e = let h =
    spine u in minus_case_of outer rest u after h.head h.more h.simple h.is r f st e

pub head_minus : (outer : Option Fixity) (rest after : List Piece) (t : Tree) → side_in outer minus ≡ Side.Right
    → Reads (Some minus) rest t after →
    Going outer (Piece.Minus ∷ rest) (Tree.negate t) after
head_minus outer rest after t here reads = record {
  respects = (reads.respects, reads.fits);
  fits = here;
  split = ap (λ x. Piece.Minus ∷ x) reads.split;
  takes = takes_stops minus (Tree.negate t) after refl reads.stops;
  only = λ u end r f st e.
      let m = minus_case outer rest u end r f st e in
      let o = reads.only m.arg (tail_of m.more ++ end) m.respects m.fits m.stops m.split in
      (m.more, m.is ∙ ap (λ x. grown (Tree.negate x) m.more) o.0, sym o.1);
}

pub minus_barred : (outer : Option Fixity) (rest : List Piece) → (side_in outer minus ≡ Side.Right → ⊥)
    → NotRead outer (Piece.Minus ∷ rest)
minus_barred outer rest barred u after r f st e = barred (minus_case outer rest u after r f st e).here

pub minus_fails : (outer : Option Fixity) (rest : List Piece) → NotRead (Some minus) rest → NotRead outer
    (Piece.Minus ∷ rest)
minus_fails outer rest fails u after r f st e =
    let m = minus_case outer rest u after r f st e in fails m.arg
    (tail_of m.more ++ after) m.respects m.fits m.stops m.split

none_of : (outer : Option Fixity) (ps : List Piece) (u : Tree) (after : List Piece) (head : Tree) (more : List Part)
    → begins is_operand ps ≡ false → begins is_minus ps ≡ false →
    IsSimple head → u ≡ grown head more → spelled u ++ after ≡ ps → ⊥
none_of outer ps u after (Tree.operand j) more a b simple is e =
    let q = ap (begins is_operand) (grown_split (Tree.operand j) more u after ps is e) in cc
none_of outer ps u after (Tree.negate t) more a b simple is e =
    let q = ap (begins is_minus) (grown_split (Tree.negate t) more u after ps is e) in cc
none_of outer ps u after (Tree.apply o l r) more a b simple is e = absurd simple

pub head_none : (outer : Option Fixity) (ps : List Piece) → begins is_operand ps ≡ false → begins is_minus ps ≡ false
    → NotRead outer ps
head_none outer ps a b u after r f st e = let h = spine u in none_of outer ps u after h.head h.more a b h.simple h.is e

-- how a tree goes on with an operator
record StepCase (outer : Option Fixity) (t : Tree) (o : Operator) (behind : List Piece) (u : Tree)
    (after : List Piece) : Type 0 where
  right : Tree
  more : List Part
  is : u ≡ grown (Tree.apply o t right) more
  here : side_in outer o.fixity ≡ Side.Right
  respects : Respects right
  fits : FitsRight (Some o.fixity) right
  stops : Stops (Some o.fixity) (tail_of more ++ after)
  split : spelled right ++ (tail_of more ++ after) ≡ behind

step_case_of : (outer : Option Fixity) (t : Tree) (o : Operator) (behind : List Piece) (u : Tree) (after : List Piece)
    (more : List Part) →
    (side_in outer o.fixity ≡ Side.Left → ⊥) → u ≡ grown t more → Piece.Operator' o ∷ behind ≡ tail_of more ++ after →
    Respects u → FitsRight outer u → Stops outer after → StepCase outer t o behind u after
step_case_of outer t o behind u after [] other is e r f st = absurd (other (subst (Stops outer) (sym e) st))
step_case_of outer t o behind u after (x ∷ xs) other is e r f st =
    let same : x.operator ≡ o = cc in
    let is' : u ≡ grown (Tree.apply o t x.right) xs = is ∙ ap (λ y. grown (Tree.apply y t x.right) xs) same in
    let r' : Respects (grown (Tree.apply o t x.right) xs) = subst Respects is' r in
    let f' : FitsRight outer (grown (Tree.apply o t x.right) xs) = subst (λ y. FitsRight outer y) is' f in
    let own = respects_grown (Tree.apply o t x.right) xs r' in
    record {
      right = x.right;
      more = xs;
      is = is';
      here = fits_grown outer (Tree.apply o t x.right) xs r' f';
      respects = own.2;
      fits = own.3;
      stops = stops_grown outer o.fixity (Tree.apply o t x.right) xs after refl r' f' st;
      split = sym (append_assoc (spelled x.right) (tail_of xs) after) ∙
          (let q : (spelled x.right ++ tail_of xs) ++ after ≡ behind = cc in q);
    }

step_case : (outer : Option Fixity) (ps : List Piece) (t : Tree) (rest : List Piece) (o : Operator)
    (behind : List Piece) (u : Tree) (after : List Piece) →
    Going outer ps t rest → rest ≡ Piece.Operator' o ∷ behind → (side_in outer o.fixity ≡ Side.Left → ⊥) →
    Respects u → FitsRight outer u → Stops outer after → spelled u ++ after ≡ ps → StepCase outer t o behind u after
step_case outer ps t rest o behind u after g at other r f st e =
    let m = g.only u after r f st e in step_case_of outer t o behind u after m.0 other m.1 (sym at ∙ m.2) r f st

pub step : (outer : Option Fixity) (ps : List Piece) (t : Tree) (rest : List Piece) (o : Operator)
    (behind : List Piece) (right : Tree) (after : List Piece) →
    Going outer ps t rest → rest ≡ Piece.Operator' o ∷ behind → side_in outer o.fixity ≡ Side.Right → Reads
    (Some o.fixity) behind right after →
    Going outer ps (Tree.apply o t right) after
step outer ps t rest o behind right after g at here reads = record {
  respects = (g.respects, subst (Takes t) at g.takes, reads.respects, reads.fits);
  fits = here;
  split = append_assoc (spelled t) (Piece.Operator' o ∷ spelled right) after ∙ ap
      (λ x. spelled t ++ Piece.Operator' o ∷ x) reads.split ∙ ap (λ x. spelled t ++ x) (sym at) ∙ g.split;
  takes = takes_stops o.fixity (Tree.apply o t right) after refl reads.stops;
  only = λ u end r f st e.
      let m = step_case outer ps t rest o behind u end g at (λ l. let q = here in cc) r f st e in
      let k = reads.only m.right (tail_of m.more ++ end) m.respects m.fits m.stops m.split in
      (m.more, m.is ∙ ap (λ x. grown (Tree.apply o t x) m.more) k.0, sym k.1);
}

pub step_fails : (outer : Option Fixity) (ps : List Piece) (t : Tree) (rest : List Piece) (o : Operator)
    (behind : List Piece) →
    Going outer ps t rest → rest ≡ Piece.Operator' o ∷ behind → side_in outer o.fixity ≡ Side.Right → NotRead
    (Some o.fixity) behind → NotRead outer ps
step_fails outer ps t rest o behind g at here fails u after r f st e =
    let m = step_case outer ps t rest o behind u after g at (λ l. let q = here in cc) r f st e in
    fails m.right (tail_of m.more ++ after) m.respects m.fits m.stops m.split

pub clash : (outer : Option Fixity) (ps : List Piece) (t : Tree) (rest : List Piece) (o : Operator)
    (behind : List Piece) →
    Going outer ps t rest → rest ≡ Piece.Operator' o ∷ behind → side_in outer o.fixity ≡ Side.Neither → NotRead outer ps
clash outer ps t rest o behind g at here u after r f st e =
    let m = step_case outer ps t rest o behind u after g at (λ l. let q = here in cc) r f st e in
    let k = m.here in cc

stop_of : (outer : Option Fixity) (t : Tree) (rest : List Piece) (u : Tree) (after : List Piece) (more : List Part)
    → Stops outer rest → u ≡ grown t more → rest ≡ tail_of more ++ after →
    Respects u → FitsRight outer u → (u ≡ t) × (after ≡ rest)
stop_of outer t rest u after [] st is e r f = (is, sym e)
stop_of outer t rest u after (x ∷ xs) st is e r f =
    let left : side_in outer x.operator.fixity ≡ Side.Left = subst (Stops outer) e st in
    let right : side_in outer x.operator.fixity ≡ Side.Right =
    fits_grown outer (Tree.apply x.operator t x.right) xs (subst Respects is r) (subst (λ y. FitsRight outer y) is f) in
    absurd (cc)

pub stop : (outer : Option Fixity) (ps : List Piece) (t : Tree) (rest : List Piece) → Going outer ps t rest
    → Stops outer rest → Reads outer ps t rest
stop outer ps t rest g st = record {
  respects = g.respects;
  fits = g.fits;
  split = g.split;
  stops = st;
  only = λ u after r f end e. let m = g.only u after r f end e in stop_of outer t rest u after m.0 st m.1 m.2 r f;
}

stuck_of : (outer : Option Fixity) (t : Tree) (rest : List Piece) (u : Tree) (after : List Piece) (more : List Part) →
    begins is_operator rest ≡ false → (rest ≡ [] → ⊥) → Stops outer after → rest ≡ tail_of more ++ after → ⊥
stuck_of outer t rest u [] [] a b st e = b e
stuck_of outer t rest u (Piece.Operator' o ∷ after) [] a b st e = let q = ap (begins is_operator) e in cc
stuck_of outer t rest u (Piece.Operand i ∷ after) [] a b st e = st
stuck_of outer t rest u (Piece.Minus ∷ after) [] a b st e = st
stuck_of outer t rest u after (x ∷ xs) a b st e = let q = ap (begins is_operator) e in cc

pub stuck : (outer : Option Fixity) (ps : List Piece) (t : Tree) (rest : List Piece) → Going outer ps t rest →
    begins is_operator rest ≡ false → (rest ≡ [] → ⊥) → NotRead outer ps
stuck outer ps t rest g a b u after r f st e = let m =
    g.only u after r f st e in stuck_of outer t rest u after m.0 a b st m.2

pub is_empty : (xs : List Piece) → true ≡ (length xs == 0) → xs ≡ []
is_empty [] e = refl
is_empty (x ∷ xs) e = absurd (grind (arith, nat_tests))

pub not_empty : (xs : List Piece) → false ≡ (length xs == 0) → xs ≡ [] → ⊥
not_empty [] e h = grind (arith, nat_tests)
not_empty (x ∷ xs) e h = cc

-- the whole chain
pub whole : (ps : List Piece) (t : Tree) (rest : List Piece) → Reads None ps t rest → rest ≡ [] → IsReading ps t
whole ps t rest r e = record {
  spells = sym (append-nil (spelled t)) ∙ ap (λ x. spelled t ++ x) (sym e) ∙ r.split;
  respects = r.respects;
}

pub fits_none : (t : Tree) → FitsRight None t
fits_none (Tree.operand i) = tt
fits_none (Tree.negate t) = refl
fits_none (Tree.apply o l r) = refl

pub not_whole : (ps : List Piece) → NotRead None ps → (t : Tree) → IsReading ps t → ⊥
not_whole ps n t h = n t [] h.respects (fits_none t) tt (append-nil (spelled t) ∙ h.spells)

stops_none : (rest : List Piece) → Stops None rest → rest ≡ []
stops_none [] h = refl
stops_none (Piece.Operator' o ∷ ps) h = absurd (cc)
stops_none (Piece.Operand i ∷ ps) h = absurd h
stops_none (Piece.Minus ∷ ps) h = absurd h

pub no_rest : (ps : List Piece) (t : Tree) (rest : List Piece) → Reads None ps t rest → rest ≡ []
no_rest ps t rest r = stops_none rest r.stops
