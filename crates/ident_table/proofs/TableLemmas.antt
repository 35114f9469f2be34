-- What an insertion does to a table.
use Rattle.std.proofs.Common.{◌≡◌, ◌⊎◌, inl, inr, ℕ, Bool, true, false, List, [], ◌∷◌, ◌++◌, length, refl, ap, sym}
use Rattle.std.proofs.Common.{subst, ◌∙◌}
use Rattle.std.specs.Prelude.{if◌then◌else◌, slice_get, Some}
use Rattle.std.specs.List.{list_any}
use Rattle.indexmap.specs.IndexSet.{insert_key}
use Rattle.bp_base.specs.declared.ident.Ident.{Ident}
use Rattle.bp_base.specs.Lists.{Among}
use Rattle.bp_base.proofs.SetLemmas.{among-either}
use Rattle.ident_table.specs.declared.node.IdentNode.{IdentNode}
use Rattle.ident_table.specs.Numbers.{node_of, idents_of, IsNodeBelow, Grows}
use Rattle.ident_table.specs.Nodes.{AreNodes}
use Rattle.ident_table.proofs.SamenessLemmas.{node_eq, same-nodes, node-absent}
use Rattle.ident_table.proofs.NodeLemmas.{Grows-not, idents-push, length-idents, node-grown, ident-of-node}
use Rattle.ident_table.proofs.NodeLemmas.{AreNodes-push}

-- the table has grown by one node at most
pub record Inserted (table : List Ident) (new : List IdentNode) (x : IdentNode) : Type 0 where
  pub nodes : AreNodes new
  pub grows : Grows table (idents_of [] new)
  pub parts : (t : Ident) → Among t (idents_of [] new) → Among t table ⊎ (node_of table x ≡ t)

not-inserted : (old : List IdentNode) (x : IdentNode) → AreNodes old → Inserted (idents_of [] old) old x
not-inserted old x h = record { nodes = h; grows = Grows-not (idents_of [] old); parts = λ t k. inl k }

last-only : {A : Type 0} (x t : A) → Among t (x ∷ []) → x ≡ t
last-only x t (inl e) = e
last-only x t (inr h) = absurd h

inserted-last : (old : List IdentNode) (x : IdentNode) → AreNodes old → IsNodeBelow (length old) x
    → list_any (node_eq x) old ≡ false → Inserted (idents_of [] old) (old ++ x ∷ []) x
inserted-last old x h low none =
    let new = idents-push [] old x in
    record {
      nodes = AreNodes-push old h x low (λ k is. node-absent old x k none is);
      grows = (node_of (idents_of [] old) x ∷ [], new);
      parts = λ t k. elim (among-either t (idents_of [] old) _ (subst (Among t) new k)) [
        | inl a ↦ inl a
        | inr a ↦
            inr (last-only _ t a)
      ];
    }

inserted-key : (old : List IdentNode) (x : IdentNode) → AreNodes old → IsNodeBelow (length old) x
    → Inserted (idents_of [] old) (insert_key node_eq old x) x
inserted-key old x h low = by (list_any (node_eq x) old) refl
  where
    by : (b : Bool) → list_any (node_eq x) old ≡ b → Inserted (idents_of [] old) (if b then old else old ++ x ∷ []) x
    by true e = not-inserted old x h
    by false e = inserted-last old x h low e

pub inserted : (old new : List IdentNode) (x : IdentNode) (table : List Ident) → AreNodes old → idents_of [] old ≡ table
    → IsNodeBelow (length table) x → new ≡ insert_key node_eq old x → Inserted table new x
inserted old new x table h is low made =
    let step = inserted-key old x h (subst (λ n. IsNodeBelow n x) (length-idents old)
    (subst (λ t. IsNodeBelow (length t) x) (sym is) low)) in
    subst (λ t. Inserted t new x) is (subst (λ l. Inserted (idents_of [] old) l x) (sym made) step)

-- the identity of a node that the test found
pub ident-found : (table : List Ident) (new : List IdentNode) (x k : IdentNode) (n : ℕ) → Inserted table new x
    → IsNodeBelow (length table) x → slice_get new n ≡ Some k → node_eq x k ≡ true
    → slice_get (idents_of [] new) n ≡ Some (node_of table x)
ident-found table new x k n step low is same =
    let one = same-nodes x k same in
    ident-of-node new n k step.nodes is ∙ ap (λ y. Some (node_of (idents_of [] new) y)) (sym one)
    ∙ ap Some (node-grown table (idents_of [] new) x step.grows low)
