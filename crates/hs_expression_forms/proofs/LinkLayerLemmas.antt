-- A chain of operators and its pieces.
use Rattle.std.proofs.Common.{◌≡◌, ℕ, ◌+◌, Bool, true, false, List, [], ◌∷◌, ◌++◌, length, refl, sym}
use Rattle.std.proofs.Common.{ap, ◌∙◌, subst, arith, append_assoc}
use Rattle.std.specs.Prelude.{map, max, sum, not, flat_map, ◌&&◌, Option, Some, None}
use Rattle.std.proofs.lemmas.Bool.{not-true, or_from}
use Rattle.std.proofs.lemmas.List.{append-nil}
use Rattle.std.proofs.lemmas.List.Folds.{flat_map-map}
use Rattle.std.specs.List.{fold}
use Rattle.std.proofs.lemmas.Grind.{flat_map-append}
use Rattle.hs_forms.specs.Limits.{Within, lowered, deepest, all_of}
use Rattle.hs_forms.proofs.LimitLemmas.{within_less, within_lowered, and_left, and_right, or_left, or_right}
use Rattle.hs_tokens.specs.declared.terminal.Terminal.{Terminal}
use Rattle.hs_modules.specs.Extents.{Extent, depth_of}
use Rattle.hs_modules.specs.ExpressionExtents.{extent_algebra, sign, extent_of_operand}
use Rattle.hs_modules.specs.Words.{qop_tokens}
use Rattle.hs_modules.specs.Folds.{folded_link, folded_signed}
use Rattle.hs_modules.specs.Tokens.{token_algebra, sign_tokens, spelling_infix, spelling_link, spelling_signed}
use Rattle.hs_modules.specs.Tokens.{spelling_operand}
use Rattle.hs_modules.specs.Formed.{Facts, fact_algebra, good_of, closed_front, last_of, facts_of_infix, facts_of_link}
use Rattle.hs_modules.specs.Formed.{facts_of_signed, facts_of_operand}
use Rattle.hs_modules.specs.declared.names.QOpTree.{QOpTree}
use Rattle.hs_modules.specs.declared.expressions.OperandTree.{OperandTree}
use Rattle.hs_modules.specs.declared.expressions.InfixTree.{InfixTree, out-InfixTree, roll-out-InfixTree}
use Rattle.hs_modules.specs.declared.expressions.OpOperand.{OpOperand, out-OpOperand}
use Rattle.hs_modules.specs.declared.expressions.OpOperand.{roll-out-OpOperand}
use Rattle.hs_modules.specs.declared.expressions.SignedOperand.{SignedOperand, out-SignedOperand}
use Rattle.hs_modules.specs.declared.expressions.SignedOperand.{roll-out-SignedOperand}
use Rattle.hs_modules.proofs.MeasuringLemmas.{sum_first}
use Rattle.hs_modules.proofs.FoldingLemmas.{infix_folded, link_folded, signed_folded}
use Rattle.hs_expression_forms.specs.Trees.{within}
use Rattle.hs_expression_forms.specs.Expressions.{is_operand, depth_of_operand, goes_on}
use Rattle.hs_expression_forms.specs.Expressions.{starts_operand, starts_qop, starts_aexp, is_infix, depth_of_infix}
use Rattle.hs_expression_forms.specs.Links.{Maybe, maybe_tokens, maybe_open, maybe_deep, maybe_goes_on}
use Rattle.hs_expression_forms.specs.Links.{Piece, piece_tokens, piece_formed, piece_deep, piece_open, shut_front}
use Rattle.hs_expression_forms.specs.Links.{last_maybe, pieces_formed, Placed, pieces_form, head_of, sign_of, link_of}
use Rattle.hs_expression_forms.specs.Links.{pieces_of_link, head_piece, first_pieces, tail_pieces, Links, links_head}
use Rattle.hs_expression_forms.specs.Links.{links_pieces, tail_tokens, links}
use Rattle.hs_expression_forms.proofs.StarterLemmas.{goes_on_fewer}
use Rattle.hs_expression_forms.proofs.PieceLemmas.{pieces_more}

abbrev pub negated_of : SignedOperand → Bool
negated_of s = (out-SignedOperand s).negated

abbrev pub operand_of : SignedOperand → OperandTree
operand_of s = (out-SignedOperand s).operand

pub signed_spelled : (s : SignedOperand) →
    spelling_signed s ≡ sign_tokens (negated_of s) ++ spelling_operand (operand_of s)
unfolding token_algebra
signed_spelled s = ap spelling_signed (sym (roll-out-SignedOperand s)) ∙ signed_folded token_algebra
    (out-SignedOperand s)

link_spelled : (x : OpOperand) →
    spelling_link x ≡ qop_tokens (out-OpOperand x).op ++ spelling_signed (out-OpOperand x).operand
unfolding token_algebra
link_spelled x = ap spelling_link (sym (roll-out-OpOperand x)) ∙ link_folded token_algebra (out-OpOperand x)

pub infix_spelled : (x : InfixTree) →
    spelling_infix x ≡ spelling_signed (out-InfixTree x).first ++ flat_map spelling_link (out-InfixTree x).rest
unfolding token_algebra
infix_spelled x =
    ap spelling_infix (sym (roll-out-InfixTree x)) ∙ infix_folded token_algebra (out-InfixTree x)
    ∙ ap (λ ts. spelling_signed (out-InfixTree x).first ++ ts) (flat_map-map (λ y. y) spelling_link
    (out-InfixTree x).rest)

pub signed_facts : (s : SignedOperand) → facts_of_signed s ≡ facts_of_operand (operand_of s)
unfolding fact_algebra
signed_facts s = ap facts_of_signed (sym (roll-out-SignedOperand s)) ∙ signed_folded fact_algebra (out-SignedOperand s)

pub link_facts : (x : OpOperand) → facts_of_link x ≡ facts_of_operand (operand_of (out-OpOperand x).operand)
unfolding fact_algebra
link_facts x =
    ap facts_of_link (sym (roll-out-OpOperand x)) ∙ link_folded fact_algebra (out-OpOperand x)
    ∙ signed_facts (out-OpOperand x).operand

abbrev pub last_fact : InfixTree → Facts
last_fact x = last_of (facts_of_signed (out-InfixTree x).first) (map facts_of_link (out-InfixTree x).rest)

pub infix_facts : (x : InfixTree) → facts_of_infix x ≡ record {
  good = ((facts_of_signed (out-InfixTree x).first).good && all_of (map good_of (map facts_of_link
      (out-InfixTree x).rest)))
      && closed_front (facts_of_signed (out-InfixTree x).first) (map facts_of_link (out-InfixTree x).rest);
  is_open = (last_fact x).is_open;
  ends_in_type = (last_fact x).ends_in_type;
}
unfolding fact_algebra
infix_facts x = ap facts_of_infix (sym (roll-out-InfixTree x)) ∙ infix_folded fact_algebra (out-InfixTree x)

signed_extent : (s : SignedOperand) →
    folded_signed extent_algebra s ≡ (sign (negated_of s), extent_of_operand (operand_of s))
unfolding extent_algebra
signed_extent s =
    ap (folded_signed extent_algebra) (sym (roll-out-SignedOperand s)) ∙ signed_folded extent_algebra
    (out-SignedOperand s)

link_extent : (x : OpOperand) → folded_link extent_algebra x
    ≡ (1 + sign (negated_of (out-OpOperand x).operand), extent_of_operand (operand_of (out-OpOperand x).operand))
unfolding extent_algebra
link_extent x =
    ap (folded_link extent_algebra) (sym (roll-out-OpOperand x)) ∙ link_folded extent_algebra (out-OpOperand x)
    ∙ ap (λ (e : ℕ × Extent). (1 + e.0, e.1)) (signed_extent (out-OpOperand x).operand)

abbrev link_pairs : List OpOperand → List (ℕ × Extent)
link_pairs xs = map (folded_link extent_algebra) xs

infix_extent : (x : InfixTree) → depth_of_infix x
    ≡ max (folded_signed extent_algebra (out-InfixTree x).first).1.depth
    (deepest (map depth_of (map (λ o. o.1) (link_pairs (out-InfixTree x).rest))))
    + ((folded_signed extent_algebra (out-InfixTree x).first).0 + sum (map (λ o. o.0) (link_pairs
    (out-InfixTree x).rest)))
unfolding extent_algebra
infix_extent x =
    ap (λ y. depth_of_infix y) (sym (roll-out-InfixTree x)) ∙ ap depth_of (infix_folded extent_algebra
    (out-InfixTree x))

-- tokens
link_of_spelled : (op : QOpTree)
    (b : Bool) (e : OperandTree) →
    flat_map piece_tokens (link_of op b e) ≡ qop_tokens op ++ (sign_tokens b ++ spelling_operand e)
link_of_spelled op true e = simp (append-nil)
link_of_spelled op false e = simp (append-nil)

pieces_spelled : (xs : List OpOperand) → flat_map piece_tokens (flat_map pieces_of_link xs) ≡ flat_map spelling_link xs
pieces_spelled [] = refl
pieces_spelled (x ∷ xs) =
    let o = out-OpOperand x in
    flat_map-append piece_tokens (pieces_of_link x) (flat_map pieces_of_link xs)
    ∙ ap (λ ts. ts ++ flat_map piece_tokens (flat_map pieces_of_link xs))
    (link_of_spelled o.op (negated_of o.operand) (operand_of o.operand)
    ∙ ap (λ ts. qop_tokens o.op ++ ts) (sym (signed_spelled o.operand)) ∙ sym (link_spelled x))
    ∙ ap (λ ts. spelling_link x ++ ts) (pieces_spelled xs)

first_spelled : (b : Bool) (e : OperandTree) (ps : List Piece) →
    maybe_tokens (head_of b e) ++ flat_map piece_tokens (sign_of b e ++ ps)
    ≡ (sign_tokens b ++ spelling_operand e) ++ flat_map piece_tokens ps
first_spelled true e ps = refl
first_spelled false e ps = refl

pub chain_spelled : (s : SignedOperand) (xs : List OpOperand) (ps : List Piece) →
    maybe_tokens (head_piece s) ++ flat_map piece_tokens (first_pieces s xs ++ ps)
    ≡ (spelling_signed s ++ flat_map spelling_link xs) ++ flat_map piece_tokens ps
chain_spelled s xs ps =
    ap (λ l. maybe_tokens (head_piece s) ++ flat_map piece_tokens l)
    (append_assoc (sign_of (negated_of s) (operand_of s)) (flat_map pieces_of_link xs) ps)
    ∙ first_spelled (negated_of s) (operand_of s) (flat_map pieces_of_link xs ++ ps)
    ∙ ap (λ ts. ts ++ flat_map piece_tokens (flat_map pieces_of_link xs ++ ps)) (sym (signed_spelled s))
    ∙ ap (λ ts. spelling_signed s ++ ts) (flat_map-append piece_tokens (flat_map pieces_of_link xs) ps
    ∙ ap (λ ts. ts ++ flat_map piece_tokens ps) (pieces_spelled xs))
    ∙ sym (append_assoc (spelling_signed s) (flat_map spelling_link xs) (flat_map piece_tokens ps))

tail_spelled : (o : Option QOpTree) → flat_map piece_tokens (tail_pieces o) ≡ tail_tokens o
tail_spelled None = refl
tail_spelled (Some op) = simp (append-nil)

pub links_spelled : (l : Links) →
    maybe_tokens (links_head l) ++ flat_map piece_tokens (links_pieces l) ≡ spelling_infix l.0 ++ tail_tokens l.1
links_spelled l =
    let o = out-InfixTree l.0 in
    chain_spelled o.first o.rest (tail_pieces l.1)
    ∙ ap (λ ts. ts ++ flat_map piece_tokens (tail_pieces l.1)) (sym (infix_spelled l.0))
    ∙ ap (λ ts. spelling_infix l.0 ++ ts) (tail_spelled l.1)

-- depth
link_of_deep : (op : QOpTree) (b : Bool) (e : OperandTree) (ps : List Piece) →
    deepest (map piece_deep (link_of op b e ++ ps)) ≡ max (depth_of_operand e) (deepest (map piece_deep ps))
link_of_deep op true e ps = omega arith
link_of_deep op false e ps = refl

link_of_long : (op : QOpTree)
    (b : Bool) (e : OperandTree) (ps : List Piece) →
    length (link_of op b e ++ ps) ≡ (1 + sign b) + length ps
link_of_long op true e ps = omega arith
link_of_long op false e ps = omega arith

pieces_deep : (xs : List OpOperand) →
    deepest (map depth_of (map (λ o. o.1) (link_pairs xs))) ≡ deepest (map piece_deep (flat_map pieces_of_link xs))
pieces_deep [] = refl
pieces_deep (x ∷ xs) =
    let o = out-OpOperand x in
    ap (λ (e : ℕ × Extent). max e.1.depth (deepest (map depth_of (map (λ o. o.1) (link_pairs xs))))) (link_extent x)
    ∙ ap (λ n. max (depth_of_operand (operand_of o.operand)) n) (pieces_deep xs)
    ∙ sym (link_of_deep o.op (negated_of o.operand) (operand_of o.operand) (flat_map pieces_of_link xs))

pieces_long : (xs : List OpOperand) → sum (map (λ o. o.0) (link_pairs xs)) ≡ length (flat_map pieces_of_link xs)
pieces_long [] = refl
pieces_long (x ∷ xs) =
    let o = out-OpOperand x in
    sum_first (folded_link extent_algebra x).0 (map (λ o. o.0) (link_pairs xs))
    ∙ ap (λ (e : ℕ × Extent). e.0 + sum (map (λ o. o.0) (link_pairs xs))) (link_extent x)
    ∙ ap (λ n. (1 + sign (negated_of o.operand)) + n) (pieces_long xs)
    ∙ sym (link_of_long o.op (negated_of o.operand) (operand_of o.operand) (flat_map pieces_of_link xs))

first_deep : (b : Bool)
    (e : OperandTree) (ps : List Piece) →
    max (maybe_deep (head_of b e)) (deepest (map piece_deep (sign_of b e ++ ps))) + length (sign_of b e ++ ps)
    ≡ max (depth_of_operand e) (deepest (map piece_deep ps)) + (sign b + length ps)
first_deep true e ps = omega arith
first_deep false e ps = omega arith

pub infix_deep : (x : InfixTree) → depth_of_infix x
    ≡ max (maybe_deep (links_head (x, None))) (deepest (map piece_deep (first_pieces (out-InfixTree x).first
    (out-InfixTree x).rest))) + length (first_pieces (out-InfixTree x).first (out-InfixTree x).rest)
infix_deep x =
    let o = out-InfixTree x in
    infix_extent x
    ∙ ap (λ (e : ℕ × Extent). max e.1.depth (deepest (map depth_of (map (λ o. o.1) (link_pairs o.rest))))
    + (e.0 + sum (map (λ o. o.0) (link_pairs o.rest)))) (signed_extent o.first)
    ∙ ap (λ n. max (depth_of_operand (operand_of o.first)) n + (sign (negated_of o.first)
    + sum (map (λ o. o.0) (link_pairs o.rest)))) (pieces_deep o.rest)
    ∙ ap (λ n. max (depth_of_operand (operand_of o.first)) (deepest (map piece_deep (flat_map pieces_of_link o.rest)))
    + (sign (negated_of o.first) + n)) (pieces_long o.rest)
    ∙ sym (first_deep (negated_of o.first) (operand_of o.first) (flat_map pieces_of_link o.rest))

-- good trees
link_of_formed : (op : QOpTree)
    (b : Bool) (e : OperandTree) (ps : List Piece) →
    all_of (map piece_formed (link_of op b e ++ ps)) ≡ is_operand e && all_of (map piece_formed ps)
link_of_formed op true e ps = refl
link_of_formed op false e ps = refl

link_of_front : (c : Bool) (op : QOpTree) (b : Bool) (e : OperandTree) (ps : List Piece) →
    shut_front c (map piece_open (link_of op b e ++ ps))
    ≡ not c && shut_front (facts_of_operand e).is_open (map piece_open ps)
link_of_front c op true e ps = refl
link_of_front c op false e ps = refl

all_pieces : (xs : List OpOperand) →
    all_of (map good_of (map facts_of_link xs)) ≡ all_of (map piece_formed (flat_map pieces_of_link xs))
all_pieces [] = refl
all_pieces (x ∷ xs) =
    let o = out-OpOperand x in
    ap (λ (f : Facts). f.good && all_of (map good_of (map facts_of_link xs))) (link_facts x)
    ∙ ap (λ b. is_operand (operand_of o.operand) && b) (all_pieces xs)
    ∙ sym (link_of_formed o.op (negated_of o.operand) (operand_of o.operand) (flat_map pieces_of_link xs))

front_pieces : (f : Facts) (xs : List OpOperand) →
    closed_front f (map facts_of_link xs) ≡ shut_front f.is_open (map piece_open (flat_map pieces_of_link xs))
front_pieces f [] = refl
front_pieces f (x ∷ xs) =
    let o = out-OpOperand x in
    ap (λ b. not f.is_open && b) (front_pieces (facts_of_link x) xs)
    ∙ ap (λ (g : Facts). not f.is_open && shut_front g.is_open (map piece_open (flat_map pieces_of_link xs)))
    (link_facts x)
    ∙ sym (link_of_front f.is_open o.op (negated_of o.operand) (operand_of o.operand) (flat_map pieces_of_link xs))

first_formed : (b : Bool) (e : OperandTree) (ps : List Piece) → pieces_formed (head_of b e) (sign_of b e ++ ps)
    ≡ (is_operand e && all_of (map piece_formed ps)) && shut_front (facts_of_operand e).is_open (map piece_open ps)
first_formed true e ps = refl
first_formed false e ps = refl

pub infix_formed : (x : InfixTree) → is_infix x
    ≡ pieces_formed (links_head (x, None)) (first_pieces (out-InfixTree x).first (out-InfixTree x).rest)
infix_formed x =
    let o = out-InfixTree x in
    ap good_of (infix_facts x)
    ∙ ap (λ b. ((facts_of_signed o.first).good && b) && closed_front (facts_of_signed o.first)
    (map facts_of_link o.rest))
    (all_pieces o.rest)
    ∙ ap (λ b. ((facts_of_signed o.first).good && all_of (map piece_formed (flat_map pieces_of_link o.rest))) && b)
    (front_pieces (facts_of_signed o.first) o.rest)
    ∙ ap (λ (f : Facts). (f.good && all_of (map piece_formed (flat_map pieces_of_link o.rest)))
    && shut_front f.is_open (map piece_open (flat_map pieces_of_link o.rest))) (signed_facts o.first)
    ∙ sym (first_formed (negated_of o.first) (operand_of o.first) (flat_map pieces_of_link o.rest))

-- the last operand
abbrev pub MaybeIs : Maybe → Facts → Type 0
MaybeIs m f = (e : OperandTree) × (m ≡ Some e) × (facts_of_operand e ≡ f)

link_of_last : (m : Maybe) (op : QOpTree) (b : Bool) (e : OperandTree) (ps : List Piece) →
    last_maybe m (link_of op b e ++ ps) ≡ last_maybe (Some e) ps
link_of_last m op true e ps = refl
link_of_last m op false e ps = refl

pieces_last : (m : Maybe) (f : Facts) → MaybeIs m f → (xs : List OpOperand) →
    MaybeIs (last_maybe m (flat_map pieces_of_link xs)) (last_of f (map facts_of_link xs))
pieces_last m f is [] = is
pieces_last m f is (x ∷ xs) =
    let o = out-OpOperand x in
    let e = operand_of o.operand in
    let found = pieces_last (Some e) (facts_of_link x) (e, refl, sym (link_facts x)) xs in
    (found.0, link_of_last m o.op (negated_of o.operand) e (flat_map pieces_of_link xs) ∙ found.1, found.2)

first_last : (b : Bool)
    (e : OperandTree) (ps : List Piece) →
    last_maybe (head_of b e) (sign_of b e ++ ps) ≡ last_maybe (Some e) ps
first_last true e ps = refl
first_last false e ps = refl

pub infix_last : (x : InfixTree) → (e : OperandTree)
    × (last_maybe (links_head (x, None)) (first_pieces (out-InfixTree x).first (out-InfixTree x).rest) ≡ Some e)
    × ((facts_of_operand e).is_open ≡ (facts_of_infix x).is_open)
    × ((facts_of_operand e).ends_in_type ≡ (facts_of_infix x).ends_in_type)
infix_last x =
    let o = out-InfixTree x in
    let e = operand_of o.first in
    let found = pieces_last (Some e) (facts_of_signed o.first) (e, refl, sym (signed_facts o.first)) o.rest in (
      found.0,
      first_last (negated_of o.first) e (flat_map pieces_of_link o.rest) ∙ found.1,
      ap (λ (f : Facts). f.is_open) found.2 ∙ sym (ap (λ (f : Facts). f.is_open) (infix_facts x)),
      ap (λ (f : Facts). f.ends_in_type) found.2 ∙ sym (ap (λ (f : Facts). f.ends_in_type) (infix_facts x)),
    )

placed_total : (limit : Option ℕ) (n : ℕ) (ps : List Piece) →
    Within limit (deepest (map piece_deep ps) + (n + length ps)) → Placed limit n ps
placed_total limit n [] h = tt
placed_total limit n (p ∷ ps) h = (
  within_lowered limit (piece_deep p) (n + 1) (within_less limit _ _ (omega arith) h),
  placed_total limit (n + 1) ps (within_less limit _ _ (omega arith) h),
)

module _ (limit : Option ℕ) where
  pub infix_good : (x : InfixTree) → is_infix x ≡ true → Within limit (depth_of_infix x) →
      (pieces_form limit).Good (links_head (x, None), first_pieces (out-InfixTree x).first (out-InfixTree x).rest)
  infix_good x is within_ =
      let ps = first_pieces (out-InfixTree x).first (out-InfixTree x).rest in
      let w = subst (Within limit) (infix_deep x) within_ in (
        sym (infix_formed x) ∙ is,
        within_less limit _ _ (omega arith) w,
        placed_total limit 0 ps (within_less limit _ _ (omega arith) w),
      )

  pub links_good : (lone : Bool) (l : Links) → (within (links lone) limit).Good l →
      (pieces_form limit).Good (links_head l, links_pieces l)
  links_good lone (x, None) good =
      subst (λ ps. (pieces_form limit).Good (links_head (x, None), ps))
      (sym (append-nil (first_pieces (out-InfixTree x).first (out-InfixTree x).rest)))
      (infix_good x good.0 good.1)
  links_good lone (x, Some op) good =
      let is = and_right lone _ good.0 in
      let last = infix_last x in
      pieces_more limit (links_head (x, None)) (first_pieces (out-InfixTree x).first (out-InfixTree x).rest) (op, None)
      (infix_good x (and_left (is_infix x) _ is) good.1)
      (ap maybe_open last.1 ∙ last.2 ∙ not-true (facts_of_infix x).is_open (and_right (is_infix x) _ is))
      (refl, lowest (lowered limit (length (first_pieces (out-InfixTree x).first (out-InfixTree x).rest) + 1)))
    where
      lowest : (l : Option ℕ) → Within l 0
      lowest None = tt
      lowest (Some n) = omega arith

last_tail : (h : Maybe) (ps : List Piece) (op : QOpTree) → last_maybe h (ps ++ (op, None) ∷ []) ≡ None
last_tail h [] op = refl
last_tail h (p ∷ ps) op = last_tail p.1 ps op

-- what ends a chain ends its pieces
pub links_quiet : (lone : Bool) (limit : Option ℕ) (l : Links) (k : Terminal) → (links lone).extends l k ≡ false →
    (pieces_form limit).extends (links_head l, links_pieces l) k ≡ false
links_quiet lone limit (x, None) k e =
    let ps = first_pieces (out-InfixTree x).first (out-InfixTree x).rest in
    let last = infix_last x in
    let f = facts_of_infix x in
    let m : last_maybe (links_head (x, None)) (ps ++ []) ≡ Some last.0 =
    ap (last_maybe (links_head (x, None))) (append-nil ps) ∙ last.1 in
    or_from _ _ (or_left (starts_qop k) _ (or_right (starts_aexp k) _ e))
    (ap (λ m. maybe_goes_on m k) m
    ∙ ap (λ b. goes_on b b (facts_of_operand last.0).ends_in_type k) last.2
    ∙ ap (λ b. goes_on f.is_open f.is_open b k) last.3
    ∙ goes_on_fewer true f.is_open f.ends_in_type f.is_open f.is_open f.ends_in_type k (λ h. refl) (λ h. h) (λ h. h) e)
links_quiet lone limit (x, Some op) k e =
    let ps = first_pieces (out-InfixTree x).first (out-InfixTree x).rest in
    or_from _ _ (or_right (starts_operand k) _ e)
    (ap (λ m. maybe_goes_on m k) (last_tail (links_head (x, None)) ps op) ∙ or_left (starts_operand k) _ e)
