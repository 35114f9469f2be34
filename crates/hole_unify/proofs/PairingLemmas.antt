-- Pairs of numbers, and the pairs of terms that they stand for.
use Rattle.std.proofs.Common.{◌≡◌, ℕ, ◌<◌, ◌≤◌, Bool, true, false, ◌&&◌, cond, List, [], ◌∷◌, ◌++◌, length, inl, inr}
use Rattle.std.proofs.Common.{refl, ap, sym, ◌∙◌, subst, arith}
use Rattle.std.proofs.lemmas.List.{map-append}
use Rattle.std.specs.Prelude.{Option, Some, None, slice_get, option_map}
use Rattle.std.specs.Str.{bytes_eq}
use Rattle.ident_table.proofs.NodeLemmas.{below-longer}
use Rattle.bp_base.proofs.SetLemmas.{among-either}
use Rattle.bp_base.specs.declared.ident.Ident.{Ident}
use Rattle.bp_base.specs.declared.ident.Ident.TheViews.{roll-Unit, out-roll-Unit}
use Rattle.bp_base.specs.declared.ident.Unit.{Unit as OfUnit}
use Rattle.bp_base.specs.Texts.{Text}
use Rattle.ident_table.specs.declared.node.NumberFill.{NumberFill}
use Rattle.ident_table.specs.declared.node.IdentNode.{IdentNode}
use Rattle.ident_table.specs.declared.node.IdentNode.TheVariants as node
use Rattle.ident_table.specs.Numbers.{ident_of, fills_of, node_of, AreFillsBelow, IsNodeBelow}
use Rattle.hole_unify.specs.declared.equation.Head.{Head}
use Rattle.hole_unify.specs.declared.pair.NumberPair.{NumberPair}
use Rattle.hole_unify.specs.Close.{pairs_of, ArePairsBelow, fill_pair, fills_pairs, terms_pairs, terms_heads}
use Rattle.hole_unify.specs.Close.{modules_pairs, modules_heads, fill_numbers, fills_numbers, nodes_numbers}
use Rattle.hole_unify.specs.Close.{nodes_heads}
use Rattle.hole_unify.proofs.OpeningLemmas.{terms_pairs-Modules, terms_heads-Modules, terms_pairs-Hole}
use Rattle.hole_unify.proofs.OpeningLemmas.{terms_heads-Hole}
use Rattle.hole_unify.specs.Numbers.{number_at}
use Rattle.hole_unify.proofs.FillerLemmas.{found-number, number-below}
use Rattle.hole_unify.proofs.NumberingLemmas.{ident_of-place}

-- ---- what pairs of numbers stand for

fill-numbers : (table : List Ident) (o q : Option ℕ)
    → fill_pair (option_map (ident_of table) o) (option_map (ident_of table) q) ≡ pairs_of table (fill_numbers o q)
fill-numbers table None q = refl
fill-numbers table (Some i) None = refl
fill-numbers table (Some i) (Some j) = refl

fills-numbers : (table : List Ident) (ours theirs fs : List NumberFill)
    → fills_pairs (fills_of table ours) (fills_of table theirs) (fills_of table fs) ≡ pairs_of table
    (fills_numbers ours theirs fs)
fills-numbers table ours theirs [] = refl
fills-numbers table ours theirs (f ∷ fs) =
    (λ w. fill_pair (found-number table f.hole ours w) (found-number table f.hole theirs w)
    ++ fills-numbers table ours theirs fs w)
    ∙ ap (λ l. l ++ pairs_of table (fills_numbers ours theirs fs))
    (fill-numbers table (number_at f.hole ours) (number_at f.hole theirs))
    ∙ sym (map-append _ (fill_numbers (number_at f.hole ours) (number_at f.hole theirs)) (fills_numbers ours theirs fs))

-- the unit of a node
abbrev unit_of : List Ident → Text → List NumberFill → OfUnit
unit_of table c fs = roll-Unit (record { component = c; fills = fills_of table fs })

pub nodes-pairs : (table : List Ident) (x y : IdentNode)
    → terms_pairs (node_of table x) (node_of table y) ≡ pairs_of table (nodes_numbers x y)
nodes-pairs table (node.Hole m) y = refl
nodes-pairs table (node.Module c fs m) (node.Hole n) = terms_pairs-Hole (unit_of table c fs) m n
nodes-pairs table (node.Module c fs m) (node.Module d gs n) =
    terms_pairs-Modules (unit_of table c fs) (unit_of table d gs) m n
    ∙ (λ w. cond (bytes_eq (out-roll-Unit (record { component = c; fills = fills_of table fs }) w).component
    (out-roll-Unit (record { component = d; fills = fills_of table gs }) w).component && bytes_eq m n)
    (fills_pairs (out-roll-Unit (record { component = c; fills = fills_of table fs }) w).fills
    (out-roll-Unit (record { component = d; fills = fills_of table gs }) w).fills
    (out-roll-Unit (record { component = c; fills = fills_of table fs }) w).fills) [])
    ∙ by (bytes_eq c d && bytes_eq m n)
  where
    by : (b : Bool) → cond b (fills_pairs (fills_of table fs) (fills_of table gs) (fills_of table fs)) [] ≡ pairs_of
        table (cond b (fills_numbers fs gs fs) [])
    by true = fills-numbers table fs gs fs
    by false = refl

pub nodes-heads : (table : List Ident) (x y : IdentNode)
    → terms_heads (node_of table x) (node_of table y) ≡ nodes_heads x y
nodes-heads table (node.Hole m) y = refl
nodes-heads table (node.Module c fs m) (node.Hole n) = terms_heads-Hole (unit_of table c fs) m n
nodes-heads table (node.Module c fs m) (node.Module d gs n) =
    terms_heads-Modules (unit_of table c fs) (unit_of table d gs) m n
    ∙ (λ w. cond (bytes_eq (out-roll-Unit (record { component = c; fills = fills_of table fs }) w).component
    (out-roll-Unit (record { component = d; fills = fills_of table gs }) w).component && bytes_eq m n) None
    (Some (
      record {
        component = (out-roll-Unit (record { component = c; fills = fills_of table fs }) w).component;
        «module» = m;
      },
      record {
        component = (out-roll-Unit
            (record { component = d; fills = fills_of table gs }) w).component;
        «module» = n;
      },
    )))

-- ---- numbers below the length of the table

pub pairs-below-append : (n : ℕ) (ps qs : List NumberPair) → ArePairsBelow n ps → ArePairsBelow n qs
    → ArePairsBelow n (ps ++ qs)
pairs-below-append n ps qs a b p h = elim (among-either p ps qs h) [ inl x ↦ a p x | inr y ↦ b p y ]

fills-below : (n : ℕ) (ours theirs fs : List NumberFill) → AreFillsBelow n ours → AreFillsBelow n theirs
    → ArePairsBelow n (fills_numbers ours theirs fs)
fills-below n ours theirs [] a b = λ p h. absurd h
fills-below n ours theirs (f ∷ fs) a b = pairs-below-append n
    (fill_numbers (number_at f.hole ours) (number_at f.hole theirs)) (fills_numbers ours theirs fs)
    (by (number_at f.hole ours) (number_at f.hole theirs) refl refl) (fills-below n ours theirs fs a b)
  where
    by : (o q : Option ℕ) → number_at f.hole ours ≡ o → number_at f.hole theirs ≡ q → ArePairsBelow n (fill_numbers o q)
    by None q d e p h = absurd h
    by (Some i) None d e p h = absurd h
    by (Some i) (Some j) d e p (inl is) = subst (λ z. (z.one < n)
        × (z.other < n)) is (number-below n f.hole ours i a d, number-below n f.hole theirs j b e)
    by (Some i) (Some j) d e p (inr h) = absurd h

pub nodes-below : (k l n : ℕ) (x y : IdentNode) → k ≤ n → l ≤ n → IsNodeBelow k x → IsNodeBelow l y
    → ArePairsBelow n (nodes_numbers x y)
nodes-below k l n (node.Hole m) y p q a b = λ c h. absurd h
nodes-below k l n (node.Module c fs m) (node.Hole o) p q a b = λ e h. absurd h
nodes-below k l n (node.Module c fs m) (node.Module d gs o) p q a b = by (bytes_eq c d && bytes_eq m o)
  where
    by : (t : Bool) → ArePairsBelow n (cond t (fills_numbers fs gs fs) [])
    by true = fills-below n fs gs fs (below-longer k n fs p a) (below-longer l n gs q b)
    by false = λ e h. absurd h

-- ---- two modules that stand at numbers of the table

module _ (table : List Ident) (i j : ℕ) (x y : IdentNode) (o q : Option Ident)
    (first : slice_get table i ≡ Some (node_of table x)) (second : slice_get table j ≡ Some (node_of table y))
    (left : Some (ident_of table i) ≡ o) (right : Some (ident_of table j) ≡ q) where
  at-left : o ≡ Some (node_of table x)
  at-left = sym left ∙ ap Some (ident_of-place table i (node_of table x) first)

  at-right : q ≡ Some (node_of table y)
  at-right = sym right ∙ ap Some (ident_of-place table j (node_of table y) second)

  pub compared-heads : (r : Option (Head × Head)) → r ≡ nodes_heads x y → r ≡ modules_heads o q
  compared-heads r e = e ∙ sym (nodes-heads table x y) ∙ (λ w. modules_heads (sym at-left w) (sym at-right w))

  pub compared-pairs : (old new : List NumberPair) → new ≡ old ++ nodes_numbers x y
      → pairs_of table new ≡ pairs_of table old ++ modules_pairs o q
  compared-pairs old new e =
      ap (pairs_of table) e ∙ map-append _ old (nodes_numbers x y)
      ∙ ap (λ l. pairs_of table old ++ l) (sym (nodes-pairs table x y)
      ∙ (λ w. modules_pairs (sym at-left w) (sym at-right w)))

pub compared-below : (table : List Ident) (i j : ℕ) (x y : IdentNode) → i < length table → j < length table
    → IsNodeBelow i x → IsNodeBelow j y
    → (old new : List NumberPair) → ArePairsBelow (length table) old → new ≡ old ++ nodes_numbers x y
    → ArePairsBelow (length table) new
compared-below table i j x y p q a b old new under e =
    let k : i ≤ length table = omega (arith, p) in
    let l : j ≤ length table = omega (arith, q) in
    subst (ArePairsBelow (length table)) (sym e) (pairs-below-append (length table) old (nodes_numbers x y) under
    (nodes-below i j (length table) x y k l a b))
