-- A layout on its way: what a rule makes of it.
use Rattle.std.specs.Prelude.{◌≡◌, ℕ, List, [], ◌∷◌, ◌++◌, Option, None, Err}
use Rattle.hs_tokens.specs.declared.token.Token.{Token}
use Rattle.haskell_layout.specs.declared.stack.Item.{Item}
use Rattle.haskell_layout.specs.declared.progress.Progress.{Progress}
use Rattle.haskell_layout.specs.declared.error.LayoutError.{LayoutError}
use Rattle.haskell_layout.specs.declared.error.LayoutError.TheVariants as e
use Rattle.haskell_layout.specs.Role.{role_of, makes_due, begins_item}
use Rattle.haskell_layout.specs.Rules.{Moved, nothing_made, end_of}
use Rattle.haskell_layout.specs.Layout.{State, Answer, made_tokens, fresh_after}

abbrev pub state_of : Progress → State
state_of progress = record { stack = progress.stack; due = progress.due; fresh = progress.fresh }

-- with what a rule makes at an offset, and what is open behind it
abbrev pub advanced : ℕ → Moved → Progress → Progress
advanced offset moved progress = record {
  stack = moved.stack;
  due = progress.due;
  fresh = fresh_after progress.fresh moved.made;
  out = progress.out ++ made_tokens moved.made offset;
}

-- with a token of the source behind it
abbrev pub emitted : Token → Progress → Progress
emitted token progress = record {
  stack = progress.stack;
  due = makes_due (role_of token);
  fresh = begins_item (role_of token);
  out = progress.out ++ token ∷ [];
}

-- the item on top is popped, with a `}` where it is an implicit block
abbrev pub top_ended : List Item → Moved
top_ended [] = nothing_made []
top_ended (item ∷ outer) = record { made = end_of item; stack = outer }

-- the answer is this error
abbrev pub IsRefused : Answer → LayoutError → Type 0
IsRefused answer (e.Layout index) = answer ≡ Err index
IsRefused answer e.NoMemory = Unit {0}

-- layout fails at the index, where the rules do not go on
abbrev pub IsStuck : ℕ → Option Moved → LayoutError → Type 0
IsStuck index moved (e.Layout at) = (moved ≡ None) × (at ≡ index)
IsStuck index moved e.NoMemory = Unit {0}
