-- Edges by the numbers of a table.
use Rattle.std.proofs.Common.{◌≡◌, ℕ, zero, suc, ◌+◌, ◌≤◌, List, [], ◌∷◌, ◌++◌, length, get_or, drop, refl, ap, sym}
use Rattle.std.proofs.Common.{◌∙◌, subst, arith, append_assoc, append-nil}
use Rattle.std.proofs.Math.ListN.{drop_of_length-le}
use Rattle.std.specs.Prelude.{Option, Some, None, option_map, slice_get}
use Rattle.bp_base.specs.Texts.{Text}
use Rattle.bp_base.specs.declared.ident.Ident.{Ident}
use Rattle.bp_base.specs.declared.ident.Ident.TheViews.{roll-Unit, out-roll-Unit}
use Rattle.unit_identity.specs.Fill.{found}
use Rattle.ident_table.specs.declared.node.NumberFill.{NumberFill}
use Rattle.ident_table.specs.declared.node.IdentNode.{IdentNode}
use Rattle.ident_table.specs.declared.node.IdentNode.TheVariants as node
use Rattle.ident_table.specs.Numbers.{ident_of, fills_of, node_of, AreFillsBelow, IsNodeBelow, IsIdentTable}
use Rattle.hole_unify.specs.declared.edge.Edge.{Edge}
use Rattle.hole_unify.specs.Table.{Node, nodes_of}
use Rattle.hole_unify.specs.Reach.{class_edge, fill_edge, fills_edges, term_edges, edges_of, number_edge, number_edges}
use Rattle.hole_unify.specs.Reach.{node_edges}
use Rattle.hole_unify.specs.Numbers.{number_at}
use Rattle.hole_unify.proofs.OpeningLemmas.{term_edges-Module}
use Rattle.hole_unify.proofs.NumberingLemmas.{nodes_of-length, class_at-number}
use Rattle.hole_unify.proofs.FillerLemmas.{found-number, number-below}

-- ---- the nodes of a table

nodes-at : (table : List Ident) (classes : List ℕ) (i : ℕ) (t : Ident) → length classes ≡ length table
    → slice_get table i ≡ Some t
    → drop i (nodes_of table classes) ≡ record {
      ident = t;
      class = get_or classes i 0;
    } ∷ drop (suc i) (nodes_of table classes)
nodes-at [] ks i t l e = cc
nodes-at (x ∷ ts) [] i t l e = absurd (omega (arith, l))
nodes-at (x ∷ ts) (k ∷ ks) zero t l e = let is : x ≡ t = cc in λ w. record { ident = is w; class = k } ∷ nodes_of ts ks
nodes-at (x ∷ ts) (k ∷ ks) (suc i) t l e = nodes-at ts ks i t (omega (arith, l)) e

-- the node of a number stands first among those from it on
pub nodes-front : (table : List Ident) (classes : List ℕ) (i : ℕ) (t : Ident) → length classes ≡ length table
    → slice_get table i ≡ Some t
    → drop i (nodes_of table classes) ≡ record {
      ident = t;
      class = get_or classes i 0;
    } ∷ drop (i + 1) (nodes_of table classes)
nodes-front table classes i t l e =
    let one : suc i ≡ i + 1 = omega arith in
    nodes-at table classes i t l e ∙ (λ w. record {
      ident = t;
      class = get_or classes i 0;
    } ∷ drop (one w) (nodes_of table classes))

pub nodes-end : (table : List Ident) (classes : List ℕ) (i : ℕ) → length classes ≡ length table → length table ≤ i
    → drop i (nodes_of table classes) ≡ []
nodes-end table classes i l le = drop_of_length-le (nodes_of table classes) (let n =
    nodes_of-length table classes (omega (arith, l)) in omega (arith, n, l, le))

module _ (table : List Ident) (classes : List ℕ) (is : IsIdentTable table) (l : length classes ≡ length table) where
  abbrev nodes : List Node
  nodes = nodes_of table classes

  fill-edge : (from : ℕ) (all : List NumberFill) (h : Text) → AreFillsBelow (length table) all
      → fill_edge nodes from (found h (fills_of table all)) ≡ number_edge classes from (number_at h all)
  fill-edge from all h below = ap (fill_edge nodes from) (found-number table h all) ∙ by (number_at h all) refl
    where
      by : (o : Option ℕ) → number_at h all ≡ o → fill_edge nodes from
          (option_map (ident_of table) o) ≡ number_edge classes from o
      by None e = refl
      by (Some k) e =
          let lt = number-below (length table) h all k below e in
          ap (λ c. class_edge from c) (class_at-number table classes k is l lt)

  fills-edges : (from : ℕ) (all fs : List NumberFill) → AreFillsBelow (length table) all
      → fills_edges nodes from (fills_of table all) (fills_of table fs) ≡ number_edges classes from all fs
  fills-edges from all [] below = refl
  fills-edges from all (f ∷ fs) below = λ w. fill-edge from all f.hole below w ++ fills-edges from all fs below w

  pub node-edges : (from : ℕ) (x : IdentNode) → IsNodeBelow (length table) x
      → term_edges nodes from (node_of table x) ≡ node_edges classes from x
  node-edges from (node.Hole n) below = refl
  node-edges from (node.Module c fs m) below =
      term_edges-Module nodes from (roll-Unit (record { component = c; fills = fills_of table fs })) m
      ∙ ap (λ o. fills_edges nodes from o.fills o.fills)
      (out-roll-Unit (record { component = c; fills = fills_of table fs }))
      ∙ fills-edges from fs fs below

  -- one step of the loop over the numbers
  pub edges-step : (i : ℕ) (x : IdentNode) (old new all : List Edge) → IsNodeBelow (length table) x
      → slice_get table i ≡ Some (node_of table x) → new ≡ old ++ node_edges classes (get_or classes i 0) x
      → old ++ edges_of nodes (drop i nodes) ≡ all → new ++ edges_of nodes (drop (i + 1) nodes) ≡ all
  edges-step i x old new all below at made so =
      ap (λ z. z ++ edges_of nodes (drop (i + 1) nodes)) (made
      ∙ ap (λ z. old ++ z) (sym (node-edges (get_or classes i 0) x below)))
      ∙ append_assoc old (term_edges nodes (get_or classes i 0) (node_of table x)) (edges_of nodes (drop (i + 1) nodes))
      ∙ ap (λ z. old ++ edges_of nodes z) (sym (nodes-front table classes i (node_of table x) l at)) ∙ so

  pub edges-end : (i : ℕ) (old all : List Edge) → length table ≤ i → old ++ edges_of nodes (drop i nodes) ≡ all
      → old ≡ all
  edges-end i old all le so = sym (append-nil old)
      ∙ ap (λ z. old ++ edges_of nodes z) (sym (nodes-end table classes i l le)) ∙ so

-- a node below a number is below a greater one
pub node-below : (x : IdentNode) (i n : ℕ) → i ≤ n → IsNodeBelow i x → IsNodeBelow n x
node-below (node.Hole name) i n le below = tt
node-below (node.Module c fs m) i n le below = λ f a. let h = below f a in omega (arith, h, le)

-- the fills of a module that is below a number
pub module-fills : (x : IdentNode) (c m : Text) (fs l : List NumberFill) (n : ℕ) → x ≡ node.Module c fs m → l ≡ fs
    → IsNodeBelow n x → AreFillsBelow n l
module-fills x c m fs l n is same below = subst (AreFillsBelow n) (sym same) (subst (IsNodeBelow n) is below)
