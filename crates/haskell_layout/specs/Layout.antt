-- Layout: a function of the tokens of a source and of its length.
use Rattle.std.specs.Prelude.{ℕ, ◌+◌, Bool, true, false, List, [], ◌∷◌, ◌++◌, map, Option, Some, None, Result, Ok, Err}
use Rattle.std.specs.Prelude.{if◌then◌else◌}
use Rattle.hs_tokens.specs.declared.token.Token.{Token}
use Rattle.haskell_layout.specs.declared.role.Role.{Role}
use Rattle.haskell_layout.specs.declared.role.Made.{Made}
use Rattle.haskell_layout.specs.declared.role.Made.TheVariants as m
use Rattle.haskell_layout.specs.declared.stack.Item.{Item}
use Rattle.haskell_layout.specs.declared.stack.Sought.TheVariants as s
use Rattle.haskell_layout.specs.declared.stack.Until.TheVariants as u
use Rattle.haskell_layout.specs.Role.{role_of, makes_due, begins_item, is_header, made_token}
use Rattle.haskell_layout.specs.Stack.{finds}
use Rattle.haskell_layout.specs.Rules.{Moved, behind, closed, before_token, token_met, unmatched}

-- What stands between two tokens: what is open, whether a block is due, and whether the token emitted last is `{` or
-- `;`.
pub record State : Type 0 where
  pub stack : List Item
  pub due : Bool
  pub fresh : Bool

abbrev pub made_opens : Made → Bool
made_opens m.Open = true
made_opens m.Close = false
made_opens m.Semicolon = true

-- whether the token emitted last is `{` or `;`, with this made after it
abbrev pub fresh_after : Bool → List Made → Bool
fresh_after fresh [] = fresh
fresh_after fresh (made ∷ more) = fresh_after (made_opens made) more

-- What is made for a token before it is emitted, unless it is a `}` without its `{`.
abbrev pub token_moves : State → Token → Option Moved
token_moves state token =
    let before = before_token state.due (role_of token) token.column token.first state.stack in
    if unmatched (role_of token) before.stack then None
    else Some (behind before.made (token_met (fresh_after state.fresh before.made) (role_of token) before.stack))

abbrev pub state_behind : Role → List Item → State
state_behind role stack = record { stack = stack; due = makes_due role; fresh = begins_item role }

abbrev pub made_tokens : List Made → ℕ → List Token
made_tokens made offset = map (λ it. made_token it offset) made

-- The answer: the tokens, or the index of the token at which layout fails.
abbrev pub Answer : Type 0
Answer = Result (List Token) ℕ

abbrev pub before_answer : List Token → Answer → Answer
before_answer tokens (Ok more) = Ok (tokens ++ more)
before_answer tokens (Err index) = Err index

-- At the end a block that is due is empty, and all implicit blocks are closed. No explicit block is left.
abbrev pub made_at_end : State → List Made
made_at_end state = (if state.due then m.Open ∷ m.Close ∷ [] else []) ++ (closed u.Bottom state.stack).made

abbrev pub ending : ℕ → ℕ → State → Answer
ending length index state =
    if finds s.Explicit state.stack then Err index else Ok (made_tokens (made_at_end state) length)

-- A token with what is made before it, and then the rest.
abbrev pub going_on : Token → ℕ → (State → Answer) → Option Moved → Answer
going_on token index rest None = Err index
going_on token index rest (Some moved) =
    before_answer (made_tokens moved.made token.offset ++ token ∷ []) (rest (state_behind (role_of token) moved.stack))

-- the layout of the tokens from an index on
abbrev pub layout_from : ℕ → List Token → ℕ → State → Answer
layout_from length [] index state = ending length index state
layout_from length (token ∷ tokens) index state =
    going_on token index (λ next. layout_from length tokens (index + 1) next) (token_moves state token)

-- A block is due at the start, unless the source begins with a header or `{`.
abbrev pub due_at_start : List Token → Bool
due_at_start [] = true
due_at_start (token ∷ tokens) = if is_header (role_of token) then false else true

abbrev pub layout_of : List Token → ℕ → Answer
layout_of tokens length = layout_from length tokens 0 (record { stack = []; due = due_at_start tokens; fresh = false })
