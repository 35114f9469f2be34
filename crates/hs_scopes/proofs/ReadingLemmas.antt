-- The report's reader finds the reading, if there is one.
use Rattle.std.proofs.Common.{◌≡◌, ℕ, zero, suc, ◌≤◌, ◌<◌, List, [], ◌∷◌, refl, sym, ap, ◌∙◌, subst, length, arith}
use Rattle.std.specs.Prelude.{Bool, true, false, Option, Some, None, MatchOption, ◌↔◌}
use Rattle.bp_base.specs.declared.entity.Fixity.{Fixity}
use Rattle.hs_scopes.specs.Sides.{Side, side_of, side_in, minus}
use Rattle.hs_scopes.specs.Chains.{Operator, Piece, Tree, IsReading, Got, if_got, by_side, parse_neg, parse_one}
use Rattle.hs_scopes.specs.Chains.{whole as whole_tree, reading, root, FitsLeft, FitsRight, IsLeftSection}
use Rattle.hs_scopes.specs.Chains.{IsRightSection, is_left, is_right, fits_left, fits_right, kept, kept_left}
use Rattle.hs_scopes.specs.Chains.{kept_right}
use Rattle.hs_scopes.specs.Reads.{Reads, NotRead, Going}
use Rattle.hs_scopes.specs.Laws.{ChainsAreRead, SectionsAreRead}
use Rattle.hs_scopes.proofs.StepLemmas.{head_operand, head_minus, minus_barred, minus_fails, head_none, step}
use Rattle.hs_scopes.proofs.StepLemmas.{step_fails, clash, stop, stuck, whole, not_whole, no_rest}
use Rattle.hs_scopes.proofs.UniqueLemmas.{one, left_ok, left_chain, right_ok, right_chain}

abbrev Outcome : Option Fixity → List Piece → Option Got → Type 0
Outcome outer ps None = NotRead outer ps
Outcome outer ps (Some g) = Reads outer ps g.tree g.rest × (length g.rest < length ps)

abbrev GoesOn : Option Fixity → List Piece → List Piece → Option Got → Type 0
GoesOn outer ps rest None = NotRead outer ps
GoesOn outer ps rest (Some g) = Reads outer ps g.tree g.rest × (length g.rest ≤ length rest)

shorter : (outer : Option Fixity) (ps rest : List Piece) (o : Option Got) → length rest < length ps
    → GoesOn outer ps rest o → Outcome outer ps o
shorter outer ps rest None l h = h
shorter outer ps rest (Some g) l h = (h.0, omega (arith, l, h.1))

longer : (outer : Option Fixity) (ps rest more : List Piece) (o : Option Got) → length rest ≤ length more
    → GoesOn outer ps rest o → GoesOn outer ps more o
longer outer ps rest more None l h = h
longer outer ps rest more (Some g) l h = (h.0, omega (arith, l, h.1))

at_minus : (outer : Option Fixity) (ps : List Piece) (side : Side) (k : Unit {0} → Option Got) → side_in outer minus
    ≡ side
    → (side_in outer minus ≡ Side.Right → Outcome outer (Piece.Minus ∷ ps) (k tt)) → Outcome outer (Piece.Minus ∷ ps)
    (by_side side None k)
at_minus outer ps Side.Left k e f = minus_barred outer ps (λ h. let q : Side.Left ≡ Side.Right = sym e ∙ h in cc)
at_minus outer ps Side.Neither k e f = minus_barred outer ps (λ h. let q : Side.Neither ≡ Side.Right = sym e ∙ h in cc)
at_minus outer ps Side.Right k e f = f e

past_minus : (outer : Option Fixity) (ps : List Piece) (o : Option Got) (k : Got → Option Got) → Outcome
    (Some minus) ps o
    → ((g : Got) → Reads (Some minus) ps g.tree g.rest → length g.rest < length ps → Outcome outer (Piece.Minus ∷ ps)
    (k g)) → Outcome outer (Piece.Minus ∷ ps) (if_got o k)
past_minus outer ps None k h f = minus_fails outer ps h
past_minus outer ps (Some g) k h f = f g h.0 h.1

at_operator : (outer : Option Fixity) (ps : List Piece) (left : Tree) (o : Operator) (rest : List Piece) (side : Side)
    (k : Unit {0} → Option Got)
    → Going outer ps left (Piece.Operator' o ∷ rest) → side_in outer o.fixity ≡ side
    → (side_in outer o.fixity ≡ Side.Right → GoesOn outer ps (Piece.Operator' o ∷ rest) (k tt))
    → GoesOn outer ps (Piece.Operator' o ∷ rest) (by_side side
    (Some (record { tree = left; rest = Piece.Operator' o ∷ rest })) k)
at_operator outer ps left o rest Side.Left k g e f = (stop outer ps left (Piece.Operator' o ∷ rest) g e, omega arith)
at_operator outer ps left o rest Side.Neither k g e f = clash outer ps left (Piece.Operator' o ∷ rest) o rest g refl e
at_operator outer ps left o rest Side.Right k g e f = f e

past_operator : (outer : Option Fixity) (ps : List Piece) (left : Tree) (o : Operator) (rest : List Piece)
    (got : Option Got) (k : Got → Option Got)
    → Going outer ps left (Piece.Operator' o ∷ rest) → side_in outer o.fixity ≡ Side.Right → Outcome
    (Some o.fixity) rest got
    → ((g : Got) → Reads (Some o.fixity) rest g.tree g.rest → length g.rest < length rest → GoesOn outer ps
    (Piece.Operator' o ∷ rest) (k g))
    → GoesOn outer ps (Piece.Operator' o ∷ rest) (if_got got k)
past_operator outer ps left o rest None k g here h f =
    step_fails outer ps left (Piece.Operator' o ∷ rest) o rest g refl here h
past_operator outer ps left o rest (Some x) k g here h f = f x h.0 h.1

mutual
  parse_neg_gives : (n : ℕ) (outer : Option Fixity) (ps : List Piece) → length ps ≤ n → Outcome outer ps
      (parse_neg n outer ps)
  parse_neg_gives zero outer [] l = head_none outer [] refl refl
  parse_neg_gives zero outer (p ∷ ps) l = absurd (omega (arith, l))
  parse_neg_gives (suc n) outer [] l = head_none outer [] refl refl
  parse_neg_gives (suc n) outer (Piece.Operand i ∷ ps) l =
      shorter outer (Piece.Operand i ∷ ps) ps (parse_one n outer (Tree.operand i) ps) (omega arith)
      (parse_one_gives n outer (Piece.Operand i ∷ ps) (Tree.operand i) ps (head_operand outer i ps) (omega (arith, l)))
  parse_neg_gives (suc n) outer (Piece.Minus ∷ ps) l =
      at_minus outer ps (side_in outer minus) (λ u. if_got (parse_neg n (Some minus) ps)
      (λ g. parse_one n outer (Tree.negate g.tree) g.rest)) refl (λ here.
      past_minus outer ps (parse_neg n (Some minus) ps) (λ g. parse_one n outer (Tree.negate g.tree) g.rest)
      (parse_neg_gives n (Some minus) ps (omega (arith, l))) (λ g r s.
      shorter outer (Piece.Minus ∷ ps) g.rest (parse_one n outer (Tree.negate g.tree) g.rest) (omega (arith, s))
      (parse_one_gives n outer (Piece.Minus ∷ ps) (Tree.negate g.tree) g.rest
      (head_minus outer ps g.rest g.tree here r) (omega (arith, l, s)))))
  parse_neg_gives (suc n) outer (Piece.Operator' o ∷ ps) l = head_none outer (Piece.Operator' o ∷ ps) refl refl

  parse_one_gives : (n : ℕ) (outer : Option Fixity) (ps : List Piece) (left : Tree) (rest : List Piece)
      → Going outer ps left rest → length rest ≤ n
      → GoesOn outer ps rest (parse_one n outer left rest)
  parse_one_gives n outer ps left [] g l = (stop outer ps left [] g tt, omega arith)
  parse_one_gives n outer ps left (Piece.Operand i ∷ rest) g l =
      stuck outer ps left (Piece.Operand i ∷ rest) g refl (λ e. cc)
  parse_one_gives n outer ps left (Piece.Minus ∷ rest) g l = stuck outer ps left (Piece.Minus ∷ rest) g refl (λ e. cc)
  parse_one_gives zero outer ps left (Piece.Operator' o ∷ rest) g l = absurd (omega (arith, l))
  parse_one_gives (suc n) outer ps left (Piece.Operator' o ∷ rest) g l =
      at_operator outer ps left o rest (side_in outer o.fixity)
      (λ u. if_got (parse_neg n (Some o.fixity) rest) (λ x. parse_one n outer (Tree.apply o left x.tree) x.rest))
      g refl (λ here.
      past_operator outer ps left o rest (parse_neg n (Some o.fixity) rest)
      (λ x. parse_one n outer (Tree.apply o left x.tree) x.rest) g here
      (parse_neg_gives n (Some o.fixity) rest (omega (arith, l))) (λ x r s.
      longer outer ps x.rest (Piece.Operator' o ∷ rest) (parse_one n outer (Tree.apply o left x.tree) x.rest)
      (omega (arith, s))
      (parse_one_gives n outer ps (Tree.apply o left x.tree) x.rest
      (step outer ps left (Piece.Operator' o ∷ rest) o rest x.tree x.rest g refl here r) (omega (arith, l, s)))))

read_is : (ps : List Piece) (o : Option Got) → Outcome None ps o → (t : Tree) → (whole_tree o ≡ Some t) ↔ IsReading ps t
read_is ps None h t = (λ e. absurd (cc), λ r. absurd (not_whole ps h t r))
read_is ps (Some g) h t =
    let is = whole ps g.tree g.rest h.0 (no_rest ps g.tree g.rest h.0) in
    (λ e. let q : g.tree ≡ t = cc in subst (IsReading ps) q is, λ r. ap Some (sym (one ps g.tree t is r)))

pub chains_are_read : ChainsAreRead
chains_are_read ps t = read_is ps (parse_neg (length ps) None ps) (parse_neg_gives (length ps) None ps (omega arith)) t

-- ---- sections

left_side : (side : Side) → is_left side ≡ true → side ≡ Side.Left
left_side Side.Left e = refl
left_side Side.Right e = absurd (cc)
left_side Side.Neither e = absurd (cc)

right_side : (side : Side) → is_right side ≡ true → side ≡ Side.Right
right_side Side.Left e = absurd (cc)
right_side Side.Right e = refl
right_side Side.Neither e = absurd (cc)

fits_left_is : (r : Option Fixity) (f : Fixity) → (fits_left r f ≡ true) ↔ MatchOption r (Unit {0})
    (λ g. side_of g f ≡ Side.Left)
fits_left_is None f = (λ e. tt, λ h. refl)
fits_left_is (Some g) f = (λ e. left_side (side_of g f) e, λ h. ap is_left h)

fits_right_is : (r : Option Fixity) (f : Fixity) → (fits_right r f ≡ true) ↔ MatchOption r (Unit {0})
    (λ g. side_of f g ≡ Side.Right)
fits_right_is None f = (λ e. tt, λ h. refl)
fits_right_is (Some g) f = (λ e. right_side (side_of f g) e, λ h. ap is_right h)

kept_is : (b : Bool) (t u : Tree) → kept b t ≡ Some u → (b ≡ true) × (t ≡ u)
kept_is true t u e = (refl, cc)
kept_is false t u e = absurd (cc)

left_is : (ps : List Piece) (o : Operator) (t : Tree) (r : Option Tree) → reading ps ≡ r →
    (kept_left o.fixity r ≡ Some t) ↔ IsLeftSection ps o t
left_is ps o t None e = (
  λ k. absurd (cc),
  λ h.
      let q : None ≡ Some t = sym e ∙ (chains_are_read ps t).1 (left_chain ps o t h) in absurd (cc),
)
left_is ps o t (Some u) e =
    let is = (chains_are_read ps u).0 e in (
      λ k. let q = kept_is (fits_left (root u) o.fixity) u t k in subst (IsLeftSection ps o) q.1
          (left_ok ps o u is ((fits_left_is (root u) o.fixity).0 q.0)),
      λ h. let same : t ≡ u = one ps u t is (left_chain ps o t h) in
          let fits : FitsLeft u o.fixity = subst (λ x. FitsLeft x o.fixity) same (h 0).respects.1 in
          ap (λ b. kept b u) ((fits_left_is (root u) o.fixity).1 fits) ∙ ap Some (sym same),
    )

right_is : (o : Operator) (ps : List Piece) (t : Tree) (r : Option Tree) → reading ps ≡ r →
    (kept_right o.fixity r ≡ Some t) ↔ IsRightSection o ps t
right_is o ps t None e = (
  λ k. absurd (cc),
  λ h.
      let q : None ≡ Some t = sym e ∙ (chains_are_read ps t).1 (right_chain o ps t h) in absurd (cc),
)
right_is o ps t (Some u) e =
    let is = (chains_are_read ps u).0 e in (
      λ k. let q = kept_is (fits_right (root u) o.fixity) u t k in subst (IsRightSection o ps) q.1
          (right_ok o ps u is ((fits_right_is (root u) o.fixity).0 q.0)),
      λ h. let same : t ≡ u = one ps u t is (right_chain o ps t h) in
          let fits : FitsRight (Some o.fixity) u = subst (FitsRight (Some o.fixity)) same (h 0).respects.3 in
          ap (λ b. kept b u) ((fits_right_is (root u) o.fixity).1 fits) ∙ ap Some (sym same),
    )

pub sections_are_read : SectionsAreRead
sections_are_read = (λ ps o t. left_is ps o t (reading ps) refl, λ o ps t. right_is o ps t (reading ps) refl)
