-- What a table keeps.
use Rattle.std.specs.Prelude.{◌≡◌, ℕ, List, [], slice_get, Some}
use Rattle.bp_base.specs.declared.ident.Ident.{Ident}
use Rattle.ident_table.specs.declared.node.IdentNode.{IdentNode}
use Rattle.ident_table.specs.Numbers.{idents_of, IsNodeBelow}

-- no identity stands twice
abbrev pub StandOnce : List Ident → Type 0
StandOnce table = (i j : ℕ) (t : Ident) → slice_get table i ≡ Some t → slice_get table j ≡ Some t → i ≡ j

-- each node refers to those before it, and no two of them are one identity
pub record AreNodes (nodes : List IdentNode) : Type 0 where
  pub below : (k : ℕ) (x : IdentNode) → slice_get nodes k ≡ Some x → IsNodeBelow k x
  pub once : StandOnce (idents_of [] nodes)
