-- The rules by which tokens open and close blocks and marks (Haskell 2010 Report, section 10.3, with closing tokens in
-- place of
-- its rule on parse errors).
use Rattle.std.specs.Prelude.{ℕ, Bool, false, not, ◌&&◌, ◌==◌, nat_lt, List, [], ◌∷◌, ◌++◌, if◌then◌else◌}
use Rattle.haskell_layout.specs.declared.role.Role.{Role}
use Rattle.haskell_layout.specs.declared.role.Role.TheVariants as r
use Rattle.haskell_layout.specs.declared.role.Made.{Made}
use Rattle.haskell_layout.specs.declared.role.Made.TheVariants as m
use Rattle.haskell_layout.specs.declared.stack.Item.{Item}
use Rattle.haskell_layout.specs.declared.stack.Item.TheVariants as i
use Rattle.haskell_layout.specs.declared.stack.Sought.{Sought}
use Rattle.haskell_layout.specs.declared.stack.Sought.TheVariants as s
use Rattle.haskell_layout.specs.declared.stack.Until.{Until}
use Rattle.haskell_layout.specs.declared.stack.Until.TheVariants as u
use Rattle.haskell_layout.specs.Role.{is_open_brace}
use Rattle.haskell_layout.specs.Stack.{column_of, is_implicit, finds, reached}

-- what a rule makes, and what is open behind it
pub record Moved : Type 0 where
  pub made : List Made
  pub stack : List Item

abbrev pub nothing_made : List Item → Moved
nothing_made stack = record { made = []; stack = stack }

-- with this made before it
abbrev pub behind : List Made → Moved → Moved
behind made moved = record { made = made ++ moved.made; stack = moved.stack }

-- The end of an implicit block is a `}`.
abbrev pub end_of : Item → List Made
end_of (i.Block column) = m.Close ∷ []
end_of _ = []

-- "to close down": items are popped, with a `}` for each implicit block among them
abbrev pub closed : Until → List Item → Moved
closed until [] = nothing_made []
closed until (item ∷ outer) = if reached until (item ∷ outer) then nothing_made (item ∷ outer) else behind (end_of item)
    (closed until outer)

abbrev pub popped : List Item → List Item
popped [] = []
popped (item ∷ outer) = outer

-- without what is on top
abbrev pub without_top : Moved → Moved
without_top moved = record { made = moved.made; stack = popped moved.stack }

abbrev pub opening : Item → Moved → Moved
opening item moved = record { made = moved.made; stack = item ∷ moved.stack }

-- Where a look down finds what is sought, the stack is closed down to it; else nothing changes.
abbrev pub closed_to : Sought → List Item → Moved
closed_to sought stack = if finds sought stack then closed (u.Top sought) stack else nothing_made stack

-- and it is popped too
abbrev pub closed_over : Sought → List Item → Moved
closed_over sought stack = if finds sought stack then without_top (closed (u.Top sought) stack) else nothing_made stack

-- `;` pops all marks above the innermost block.
abbrev pub item_ended : List Item → Moved
item_ended stack = closed u.Block stack

-- A token in the innermost block's column begins an item of it, where the block is implicit.
abbrev pub item_begun : ℕ → List Item → Moved
item_begun column stack =
    if is_implicit stack && column_of stack == column then behind (m.Semicolon ∷ [])
    (item_ended stack) else nothing_made stack

-- A token that begins a line closes the blocks to the right of its column.
abbrev pub line_begun : ℕ → List Item → Moved
line_begun column stack = let moved = closed (u.Column column) stack in
    behind moved.made (item_begun column moved.stack)

-- A block that is due begins at a column to the right of the innermost block's. Else it is empty, and the token begins
-- a line.
abbrev pub block_begun : ℕ → List Item → Moved
block_begun column stack =
    if nat_lt (column_of stack) column then record { made = m.Open ∷ []; stack = i.Block column ∷ stack }
    else behind (m.Open ∷ m.Close ∷ []) (line_begun column stack)

-- What stands before a token: no block is due at a `{`.
abbrev pub before_token : Bool → Role → ℕ → Bool → List Item → Moved
before_token due role column first stack =
    if due && not (is_open_brace role) then block_begun column stack
    else (if first then line_begun column stack else nothing_made stack)

-- `->` and `=` pop what they end, where it is on top.
abbrev pub arrow_met : List Item → List Item
arrow_met (i.Lam ∷ outer) = outer
arrow_met (i.Guard ∷ outer) = outer
arrow_met stack = stack

abbrev pub equals_met : List Item → List Item
equals_met (i.Guard ∷ outer) = outer
equals_met stack = stack

-- A `where` closes the implicit block on top, where it would begin an item of it.
abbrev pub where_met : Bool → List Item → Moved
where_met fresh (i.Block column ∷ outer) = if fresh then record {
  made = m.Close ∷ [];
  stack = outer;
} else nothing_made (i.Block column ∷ outer)
where_met fresh stack = nothing_made stack

-- What a token does; `fresh` tells whether the token emitted last is `{` or `;`.
abbrev pub token_met : Bool → Role → List Item → Moved
token_met fresh r.Semicolon stack = item_ended stack
token_met fresh r.OpenParen stack = nothing_made (i.Paren ∷ stack)
token_met fresh r.OpenBracket stack = nothing_made (i.Bracket ∷ stack)
token_met fresh r.CloseParen stack = closed_over s.Paren stack
token_met fresh r.CloseBracket stack = closed_over s.Bracket stack
token_met fresh r.Comma stack = closed_to s.Parts stack
token_met fresh r.OpenBrace stack = nothing_made (i.Explicit ∷ stack)
token_met fresh r.CloseBrace stack = closed_over s.Explicit stack
token_met fresh r.If stack = nothing_made (i.If ∷ stack)
token_met fresh r.Case stack = nothing_made (i.Case ∷ stack)
token_met fresh r.Let stack = nothing_made (i.Let ∷ stack)
token_met fresh r.Lambda stack = nothing_made (i.Lam ∷ stack)
token_met fresh r.Bar stack = nothing_made (i.Guard ∷ stack)
token_met fresh r.Then stack = opening i.Then (closed_over s.If stack)
token_met fresh r.Else stack = closed_over s.Then stack
token_met fresh r.Of stack = closed_over s.Case stack
token_met fresh r.In stack = closed_over s.Let stack
token_met fresh r.Arrow stack = nothing_made (arrow_met stack)
token_met fresh r.Equals stack = nothing_made (equals_met stack)
token_met fresh r.Where stack = where_met fresh stack
token_met fresh r.Header stack = nothing_made stack
token_met fresh r.Other stack = nothing_made stack

-- A `}` needs an explicit block.
abbrev pub unmatched : Role → List Item → Bool
unmatched r.CloseBrace stack = not (finds s.Explicit stack)
unmatched _ stack = false
