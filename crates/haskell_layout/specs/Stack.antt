-- What is open, the innermost first, what a look down finds, and where closing stops.
use Rattle.std.specs.Prelude.{ℕ, Bool, true, false, nat_le, List, [], ◌∷◌, if◌then◌else◌}
use Rattle.haskell_layout.specs.declared.stack.Item.{Item}
use Rattle.haskell_layout.specs.declared.stack.Item.TheVariants as i
use Rattle.haskell_layout.specs.declared.stack.Sought.{Sought}
use Rattle.haskell_layout.specs.declared.stack.Sought.TheVariants as s
use Rattle.haskell_layout.specs.declared.stack.Until.{Until}
use Rattle.haskell_layout.specs.declared.stack.Until.TheVariants as u
use Rattle.haskell_layout.specs.declared.stack.Reach.{Reach}

-- the column of the innermost block, 0 for an explicit one or for none
abbrev pub column_of : List Item → ℕ
column_of [] = 0
column_of (i.Block column ∷ outer) = column
column_of (i.Explicit ∷ outer) = 0
column_of (mark ∷ outer) = column_of outer

-- whether the innermost block is an implicit one
abbrev pub is_implicit : List Item → Bool
is_implicit [] = false
is_implicit (i.Block column ∷ outer) = true
is_implicit (i.Explicit ∷ outer) = false
is_implicit (mark ∷ outer) = is_implicit outer

abbrev pub is_block : Item → Bool
is_block (i.Block column) = true
is_block i.Explicit = true
is_block _ = false

-- what a token looks down for
abbrev pub seeks : Sought → Item → Bool
seeks s.Paren i.Paren = true
seeks s.Bracket i.Bracket = true
seeks s.Parts i.Paren = true
seeks s.Parts i.Bracket = true
seeks s.Parts i.Guard = true
seeks s.Explicit i.Explicit = true
seeks s.If i.If = true
seeks s.Then i.Then = true
seeks s.Case i.Case = true
seeks s.Let i.Let = true
seeks _ _ = false

-- What it does not look past: brackets and explicit blocks. Only `}` looks past everything.
abbrev pub bars : Sought → Item → Bool
bars s.Explicit _ = false
bars _ i.Paren = true
bars _ i.Bracket = true
bars _ i.Explicit = true
bars _ _ = false

-- whether a look down finds what is sought
abbrev pub finds : Sought → List Item → Bool
finds sought [] = false
finds sought (item ∷ outer) = if seeks sought item then true else
    (if bars sought item then false else finds sought outer)

-- whether the stack is closed so far
abbrev pub reached : Until → List Item → Bool
reached until [] = true
reached (u.Top sought) (item ∷ outer) = seeks sought item
reached (u.Column column) (item ∷ outer) = nat_le (column_of (item ∷ outer)) column
reached u.Block (item ∷ outer) = is_block item
reached u.Bottom (item ∷ outer) = false

-- all that looks down can find
abbrev pub reach_of : List Item → Reach
reach_of stack = record {
  column = column_of stack;
  implicit = is_implicit stack;
  paren = finds s.Paren stack;
  bracket = finds s.Bracket stack;
  parts = finds s.Parts stack;
  explicit = finds s.Explicit stack;
  of_if = finds s.If stack;
  of_then = finds s.Then stack;
  of_case = finds s.Case stack;
  of_let = finds s.Let stack;
}
