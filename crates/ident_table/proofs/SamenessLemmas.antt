-- Nodes that pass the test of sameness are one.
use Rattle.std.proofs.Common.{◌≡◌, ℕ, zero, suc, Bool, true, false, true≢false, ◌||◌, List, [], ◌∷◌, refl, ap, sym, ◌∙◌}
use Rattle.std.specs.Prelude.{slice_get, Some}
use Rattle.std.specs.List.{list_any}
use Rattle.std.specs.Bool.{Decides}
use Rattle.std.specs.Cmp.Lexicographic.{pointwise}
use Rattle.std.proofs.lemmas.Slice.Eq.{slice_eq-Decides}
use Rattle.std.proofs.lemmas.Bool.Decides.{Decides-eqb}
use Rattle.std.proofs.lemmas.Bool.{and_parts, and_from, or_parts}
use Rattle.std.proofs.lemmas.Option.{same_Some}
use Rattle.bp_base.proofs.TextLemmas.{Decides-texts}
use Rattle.ident_table.specs.declared.node.NumberFill.{NumberFill}
use Rattle.ident_table.specs.declared.node.IdentNode.{IdentNode}
use Rattle.ident_table.specs.declared.node.IdentNode.TheVariants as node
use Rattle.ident_table.specs.Sameness.{fill_eq}
use Rattle.ident_table.specs.contracts.node.IdentNodePartialEq.TheImpl.{ghosts}

-- the test of the table
abbrev pub node_eq : IdentNode → IdentNode → Bool
node_eq = ghosts.eq

Decides-fill : (f g : NumberFill) → Decides (fill_eq f g) (f ≡ g)
Decides-fill f g = (
  (λ e.
      let p = and_parts _ _ e in
      let hole = (Decides-texts f.hole g.hole).0 p.0 in
      let ident = (Decides-eqb f.ident g.ident).0 p.1 in
      λ i. record { hole = hole i; ident = ident i }),
  (λ e. and_from _ _ ((Decides-texts f.hole g.hole).1 (ap (λ x. x.hole) e))
      ((Decides-eqb f.ident g.ident).1 (ap (λ x. x.ident) e))),
)

Decides-fills : (fs gs : List NumberFill) → Decides (pointwise fill_eq fs gs) (fs ≡ gs)
Decides-fills fs gs = slice_eq-Decides Decides-fill fs gs (pointwise fill_eq fs gs) refl

pub same-nodes : (x y : IdentNode) → node_eq x y ≡ true → x ≡ y
same-nodes (node.Hole n) (node.Hole m) e = ap node.Hole ((Decides-texts n m).0 e)
same-nodes (node.Hole n) (node.Module d gs m) e = cc
same-nodes (node.Module c fs n) (node.Hole m) e = cc
same-nodes (node.Module c fs n) (node.Module d gs m) e =
    let p = and_parts _ _ e in
    let q = and_parts _ _ p.1 in
    let component = (Decides-texts c d).0 p.0 in
    let fills = (Decides-fills fs gs).0 q.0 in
    let name = (Decides-texts n m).0 q.1 in
    λ i. node.Module (component i) (fills i) (name i)

pub nodes-same : (x : IdentNode) → node_eq x x ≡ true
nodes-same (node.Hole n) = (Decides-texts n n).1 refl
nodes-same (node.Module c fs n) = and_from _ _ ((Decides-texts c c).1 refl)
    (and_from _ _ ((Decides-fills fs fs).1 refl) ((Decides-texts n n).1 refl))

-- a node that the test does not find stands nowhere
pub node-absent : (nodes : List IdentNode) (x : IdentNode) (k : ℕ) → list_any (node_eq x) nodes ≡ false
    → slice_get nodes k ≡ Some x → ⊥
node-absent [] x k e is = absurd (cc is)
node-absent (y ∷ ys) x zero e is =
    let found : node_eq x y ≡ true = ap (node_eq x) (same_Some y x is) ∙ nodes-same x in
    let all : node_eq x y || list_any (node_eq x) ys ≡ true = ap (λ t. t || list_any (node_eq x) ys) found in
    absurd (true≢false (sym all ∙ e))
node-absent (y ∷ ys) x (suc k) e is =
    node-absent ys x k (or_parts (node_eq x y) (list_any (node_eq x) ys) e).1 is
