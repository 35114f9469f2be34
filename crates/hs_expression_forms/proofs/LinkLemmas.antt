-- How a chain of operators is read, with and without the operator of a section behind it.
use Rattle.std.proofs.Common.{◌≡◌, ℕ, ◌+◌, ◌≤◌, Bool, true, false, List, [], ◌∷◌, ◌++◌, length, refl}
use Rattle.std.proofs.Common.{sym, ap, ◌∙◌, arith, length-append, append_assoc}
use Rattle.std.specs.Prelude.{map, flat_map, Option, Some, None}
use Rattle.std.proofs.lemmas.Option.{same_Some}
use Rattle.std.proofs.lemmas.List.{append-nil}
use Rattle.hs_forms.specs.Reading.{SameStart, begins}
use Rattle.hs_forms.specs.Limits.{Within, deepest}
use Rattle.hs_forms.proofs.FormLemmas.{begins_within}
use Rattle.hs_forms.proofs.LimitLemmas.{deep_front, deep_more}
use Rattle.hs_forms.proofs.StateLemmas.{State}
use Rattle.hs_tokens.specs.Terminals.{minus}
use Rattle.hs_trees.specs.Patterns.{Ts}
use Rattle.hs_modules.specs.Tokens.{spelling_infix}
use Rattle.hs_modules.specs.declared.names.QOpTree.{QOpTree}
use Rattle.hs_modules.specs.declared.names.QOpTree.TheVariants as q
use Rattle.hs_modules.specs.declared.expressions.OperandTree.{OperandTree}
use Rattle.hs_modules.specs.declared.expressions.InfixTree.{InfixTree, out-InfixTree}
use Rattle.hs_modules.specs.declared.expressions.InfixTree.{roll-InfixTree, roll-out-InfixTree}
use Rattle.hs_modules.specs.declared.expressions.OpOperand.{OpOperand, out-OpOperand, roll-OpOperand}
use Rattle.hs_modules.specs.declared.expressions.OpOperand.{roll-out-OpOperand}
use Rattle.hs_modules.specs.declared.expressions.SignedOperand.{SignedOperand, roll-SignedOperand}
use Rattle.hs_modules.specs.declared.expressions.SignedOperand.{roll-out-SignedOperand}
use Rattle.hs_expression_forms.specs.Trees.{within}
use Rattle.hs_expression_forms.specs.Expressions.{is_infix, depth_of_infix}
use Rattle.hs_expression_forms.specs.Links.{Maybe, maybe_tokens, maybe_deep, Piece}
use Rattle.hs_expression_forms.specs.Links.{piece_tokens, piece_deep, pieces_form, head_of, sign_of, link_of}
use Rattle.hs_expression_forms.specs.Links.{pieces_of_link, head_piece, first_pieces, tail_pieces, Links, links_head}
use Rattle.hs_expression_forms.specs.Links.{links_pieces, links}
use Rattle.hs_expression_forms.proofs.PieceLemmas.{pieces_chain}
use Rattle.hs_expression_forms.proofs.LinkLayerLemmas.{negated_of, operand_of, links_spelled, links_good, links_quiet}
use Rattle.hs_expression_forms.proofs.LinkLayerLemmas.{infix_deep}

abbrev pub make_infix : SignedOperand → List OpOperand → InfixTree
make_infix s xs = roll-InfixTree (record { first = s; rest = xs })

abbrev pub make_signed : Bool → OperandTree → SignedOperand
make_signed b e = roll-SignedOperand (record { negated = b; operand = e })

abbrev pub make_link : QOpTree → SignedOperand → OpOperand
make_link op s = roll-OpOperand (record { op = op; operand = s })

-- from the pieces back to the chain
unlinks : List Piece → List OpOperand × Option QOpTree
unlinks [] = ([], None)
unlinks ((op, Some e) ∷ ps) = (make_link op (make_signed false e) ∷ (unlinks ps).0, (unlinks ps).1)
unlinks ((op, None) ∷ []) = ([], Some op)
unlinks ((op, None) ∷ (m, Some e) ∷ ps) = (make_link op (make_signed true e) ∷ (unlinks ps).0, (unlinks ps).1)
unlinks ((op, None) ∷ (m, None) ∷ ps) = ([], Some op)

link_is : (x : OpOperand) →
    make_link (out-OpOperand x).op (make_signed (negated_of (out-OpOperand x).operand) (operand_of
    (out-OpOperand x).operand)) ≡ x
link_is x =
    ap (λ s. make_link (out-OpOperand x).op s) (roll-out-SignedOperand (out-OpOperand x).operand) ∙ roll-out-OpOperand x

unlinks_link : (op : QOpTree)
    (b : Bool) (e : OperandTree) (ps : List Piece) →
    unlinks (link_of op b e ++ ps) ≡ (make_link op (make_signed b e) ∷ (unlinks ps).0, (unlinks ps).1)
unfolding unlinks
unlinks_link op true e ps = refl
unlinks_link op false e ps = refl

unlinks_pieces : (xs : List OpOperand) (o : Option QOpTree) →
    unlinks (flat_map pieces_of_link xs ++ tail_pieces o) ≡ (xs, o)
unfolding unlinks
unlinks_pieces [] None = refl
unlinks_pieces [] (Some op) = refl
unlinks_pieces (x ∷ xs) o =
    let l = out-OpOperand x in
    ap unlinks (append_assoc (pieces_of_link x) (flat_map pieces_of_link xs) (tail_pieces o))
    ∙ unlinks_link l.op (negated_of l.operand) (operand_of l.operand) (flat_map pieces_of_link xs ++ tail_pieces o)
    ∙ ap (λ (r : List OpOperand × Option QOpTree). (
      make_link l.op (make_signed (negated_of l.operand)
          (operand_of l.operand)) ∷ r.0,
      r.1,
    )) (unlinks_pieces xs o)
    ∙ ap (λ y. (y ∷ xs, o)) (link_is x)

unpieces : Maybe → List Piece → Option (SignedOperand × (List OpOperand × Option QOpTree))
unpieces (Some e) ps = Some (make_signed false e, unlinks ps)
unpieces None [] = None
unpieces None ((m, Some e) ∷ ps) = Some (make_signed true e, unlinks ps)
unpieces None ((m, None) ∷ ps) = None

unpieces_first : (b : Bool)
    (e : OperandTree) (ps : List Piece) →
    unpieces (head_of b e) (sign_of b e ++ ps) ≡ Some (make_signed b e, unlinks ps)
unfolding unpieces
unpieces_first true e ps = refl
unpieces_first false e ps = refl

unpieces_links : (l : Links) →
    unpieces (links_head l) (links_pieces l) ≡ Some ((out-InfixTree l.0).first, ((out-InfixTree l.0).rest, l.1))
unpieces_links l =
    let o = out-InfixTree l.0 in
    ap (unpieces (head_piece o.first))
    (append_assoc (sign_of (negated_of o.first) (operand_of o.first)) (flat_map pieces_of_link o.rest)
    (tail_pieces l.1))
    ∙ unpieces_first (negated_of o.first) (operand_of o.first) (flat_map pieces_of_link o.rest ++ tail_pieces l.1)
    ∙ ap (λ r. Some (make_signed (negated_of o.first) (operand_of o.first), r)) (unlinks_pieces o.rest l.1)
    ∙ ap (λ s. Some (s, (o.rest, l.1))) (roll-out-SignedOperand o.first)

abbrev rebuilt : SignedOperand × (List OpOperand × Option QOpTree) → Links
rebuilt p = (make_infix p.0 p.1.0, p.1.1)

pub links_same : (l l' : Links) → links_head l ≡ links_head l' → links_pieces l ≡ links_pieces l' → l ≡ l'
links_same l l' h ps =
    let o = out-InfixTree l.0 in
    let o' = out-InfixTree l'.0 in
    let e : Some (o.first, (o.rest, l.1)) ≡ Some (o'.first, (o'.rest, l'.1)) =
    sym (unpieces_links l) ∙ ap (λ m. unpieces m (links_pieces l)) h ∙ ap (unpieces (links_head l')) ps
    ∙ unpieces_links l' in
    let e' = ap rebuilt (same_Some (o.first, (o.rest, l.1)) (o'.first, (o'.rest, l'.1)) e) in
    ap (λ x. (x, l.1)) (sym (roll-out-InfixTree l.0)) ∙ e' ∙ ap (λ x. (x, l'.1)) (roll-out-InfixTree l'.0)

-- what goes on from whole links are links
second_of : (p p' : Piece) (ps ps' : List Piece) → p ∷ ps ≡ p' ∷ ps' → p.1 ≡ p'.1
second_of p p' ps ps' h = let e : p ≡ p' = cc in ap (λ (r : Piece). r.1) e

no_operand : (e : OperandTree) → None ≡ Some e → ⊥
no_operand e h = cc

strip_link : (op op' : QOpTree) (b b' : Bool) (e e' : OperandTree) (ps ps' : List Piece) →
    link_of op b e ++ ps ≡ link_of op' b' e' ++ ps' → ps ≡ ps'
strip_link op op' true true e e' ps ps' h = cc
strip_link op op' false false e e' ps ps' h = cc
strip_link op op' true false e e' ps ps' h = absurd (no_operand e' (second_of _ _ _ _ h))
strip_link op op' false true e e' ps ps' h = absurd (no_operand e (sym (second_of _ _ _ _ h)))

no_link : (o : Option QOpTree) (op : QOpTree) (b : Bool) (e : OperandTree) (ps : List Piece) →
    tail_pieces o ≡ link_of op b e ++ ps → ⊥
no_link None op true e ps h = cc
no_link None op false e ps h = cc
no_link (Some o) op true e ps h = short (sym h)
  where
    short : (op, None) ∷ (q.Sym minus, Some e) ∷ ps ≡ (o, None) ∷ [] → ⊥
    short h = cc
no_link (Some o) op false e ps h = no_operand e (second_of _ _ _ _ h)

strip : (xs zs : List OpOperand) (o : Option QOpTree) (more : List Piece) →
    flat_map pieces_of_link zs ++ tail_pieces o ≡ flat_map pieces_of_link xs ++ more →
    (ys : List OpOperand) × (more ≡ flat_map pieces_of_link ys ++ tail_pieces o)
strip [] zs o more h = (zs, sym h)
strip (x ∷ xs) [] o more h =
    let l = out-OpOperand x in
    absurd (no_link o l.op (negated_of l.operand) (operand_of l.operand) (flat_map pieces_of_link xs ++ more)
    (h ∙ append_assoc (pieces_of_link x) (flat_map pieces_of_link xs) more))
strip (x ∷ xs) (z ∷ zs) o more h =
    let l = out-OpOperand x in
    let k = out-OpOperand z in
    strip xs zs o more
    (strip_link k.op l.op (negated_of k.operand) (negated_of l.operand) (operand_of k.operand) (operand_of l.operand)
    (flat_map pieces_of_link zs ++ tail_pieces o) (flat_map pieces_of_link xs ++ more)
    (sym (append_assoc (pieces_of_link z) (flat_map pieces_of_link zs) (tail_pieces o)) ∙ h
    ∙ append_assoc (pieces_of_link x) (flat_map pieces_of_link xs) more))

strip_sign : (b b' : Bool) (e e' : OperandTree) (ps ps' : List Piece) → head_of b e ≡ head_of b' e' →
    sign_of b e ++ ps ≡ sign_of b' e' ++ ps' → ps ≡ ps'
strip_sign true true e e' ps ps' h k = cc
strip_sign false false e e' ps ps' h k = k
strip_sign true false e e' ps ps' h k = absurd cc
strip_sign false true e e' ps ps' h k = absurd cc

strip_first : (s s' : SignedOperand) (xs zs : List OpOperand) (o : Option QOpTree) (more : List Piece) →
    head_piece s' ≡ head_piece s → first_pieces s' zs ++ tail_pieces o ≡ first_pieces s xs ++ more →
    (ys : List OpOperand) × (more ≡ flat_map pieces_of_link ys ++ tail_pieces o)
strip_first s s' xs zs o more h k =
    strip xs zs o more
    (strip_sign (negated_of s') (negated_of s) (operand_of s') (operand_of s)
    (flat_map pieces_of_link zs ++ tail_pieces o)
    (flat_map pieces_of_link xs ++ more) h
    (sym (append_assoc (sign_of (negated_of s') (operand_of s')) (flat_map pieces_of_link zs) (tail_pieces o)) ∙ k
    ∙ append_assoc (sign_of (negated_of s) (operand_of s)) (flat_map pieces_of_link xs) more))

-- how links go on
pub data Next (l : Links) (more : List Piece) (beyond : ℕ) : Type 0 where
  ends : more ≡ [] → l.1 ≡ None → Next l more beyond
  alone : (op : QOpTree) → more ≡ (op, None) ∷ [] → l.1 ≡ Some op → Next l more beyond
  plain : (op : QOpTree) (e : OperandTree) (ps : List Piece) → more ≡ (op, Some e) ∷ ps → 1 ≤ beyond →
      Next l more beyond
  signed : (op : QOpTree) (e : OperandTree) (ps : List Piece) → more ≡ (op, None) ∷ (q.Sym minus, Some e) ∷ ps →
      2 ≤ beyond → Next l more beyond

next_link : (l : Links) (op : QOpTree) (b : Bool) (e : OperandTree) (more ps : List Piece) (beyond : ℕ) →
    more ≡ link_of op b e ++ ps → length (link_of op b e) ≤ beyond → Next l more beyond
next_link l op true e more ps beyond h le = signed op e ps h le
next_link l op false e more ps beyond h le = plain op e ps h le

next_of : (l : Links) (ys : List OpOperand) (o : Option QOpTree) (more : List Piece) (beyond : ℕ) → l.1 ≡ o →
    more ≡ flat_map pieces_of_link ys ++ tail_pieces o → beyond ≡ length (flat_map pieces_of_link ys) →
    Next l more beyond
next_of l [] None more beyond is h le = ends h is
next_of l [] (Some op) more beyond is h le = alone op h is
next_of l (y ∷ ys) o more beyond is h le =
    let k = out-OpOperand y in
    next_link l k.op (negated_of k.operand) (operand_of k.operand) more
    (flat_map pieces_of_link ys ++ tail_pieces o) beyond
    (h ∙ append_assoc (pieces_of_link y) (flat_map pieces_of_link ys) (tail_pieces o))
    (omega (arith, le, length-append (pieces_of_link y) (flat_map pieces_of_link ys)))

pub record LinkState (limit : Option ℕ) (ts : Ts) (x : InfixTree) (here : Ts) (deep ops : ℕ) : Type 0 where
  pub state : State (pieces_chain limit) ts (links_head (x, None))
      (first_pieces (out-InfixTree x).first (out-InfixTree x).rest) here deep
  pub good : is_infix x ≡ true
  pub room : Within limit (deep + ops)
  pub ops_is : ops ≡ length (first_pieces (out-InfixTree x).first (out-InfixTree x).rest)

-- the pieces of a tree that goes on from what was read
pub record Meeting (limit : Option ℕ) (x : InfixTree) (deep ops : ℕ) (other : Links) (s after : Ts) : Type 0 where
  pub more : List Piece
  pub beyond : ℕ
  pub head : links_head other ≡ links_head (x, None)
  pub pieces : links_pieces other ≡ first_pieces (out-InfixTree x).first (out-InfixTree x).rest ++ more
  pub spelled : s ≡ flat_map piece_tokens more ++ after
  pub next : Next other more beyond
  pub total : deep + (ops + beyond) ≤ depth_of_infix other.0

tail_deep : (ps : List Piece) (o : Option QOpTree) →
    deepest (map piece_deep (ps ++ tail_pieces o)) ≡ deepest (map piece_deep ps)
tail_deep ps None = ap (λ l. deepest (map piece_deep l)) (append-nil ps)
tail_deep ps (Some op) = let e = deep_more piece_deep ps (op, None) in omega (arith, e)

module _ (lone : Bool) (limit : Option ℕ) where
  pub meet : (ts : Ts) (x : InfixTree) (here : Ts) (deep ops : ℕ) → LinkState limit ts x here deep ops →
      (s : Ts) (other : Links) (after : Ts) → SameStart here s → (within (links lone) limit).Good other →
      begins ((links lone).extends other) after ≡ false →
      spelling_infix x ++ s ≡ (links lone).tokens other ++ after → Meeting limit x deep ops other s after
  meet ts x here deep ops st s other after same good quiet e =
      let o = out-InfixTree x in
      let k = out-InfixTree other.0 in
      let ps = first_pieces o.first o.rest in
      let front : maybe_tokens (links_head (x, None)) ++ flat_map piece_tokens ps ≡ spelling_infix x =
      ap (λ l. maybe_tokens (links_head (x, None)) ++ flat_map piece_tokens l) (sym (append-nil ps))
      ∙ links_spelled (x, None) ∙ append-nil (spelling_infix x) in
      let found = st.state.so.only s (links_head other) (links_pieces other) after same
      (links_good limit lone other good)
      (begins_within ((links lone).extends other) ((pieces_form limit).extends (links_head other, links_pieces other))
      after (links_quiet lone limit other) quiet)
      (ap (λ l. l ++ s) front ∙ e ∙ ap (λ l. l ++ after) (sym (links_spelled other))) in
      let stripped = strip_first o.first k.first o.rest k.rest other.1 found.1 found.0 found.2 in
      let beyond = length (flat_map pieces_of_link stripped.0) in
      let long : length (first_pieces k.first k.rest) ≡ length ps + beyond =
      omega (
        arith,
        length-append (first_pieces k.first k.rest) (tail_pieces other.1),
        ap length found.2,
        length-append ps found.1,
        ap length stripped.1,
        length-append (flat_map pieces_of_link stripped.0) (tail_pieces other.1),
      ) in
      let deeper : deepest (map piece_deep ps) ≤ deepest (map piece_deep (first_pieces k.first k.rest)) =
      omega (
        arith,
        deep_front piece_deep ps found.1,
        ap (λ l. deepest (map piece_deep l)) found.2,
        tail_deep (first_pieces k.first k.rest) other.1,
      ) in
      record {
        more = found.1;
        beyond = beyond;
        head = found.0;
        pieces = found.2;
        spelled = found.3;
        next = next_of other stripped.0 other.1 found.1 beyond refl stripped.1 refl;
        total = omega (
          arith,
          infix_deep other.0,
          long,
          deeper,
          st.ops_is,
          st.state.deep_is,
          ap maybe_deep found.0,
        );
      }
