-- Where no block is due, no implicit block is open, and nothing is made.
use Rattle.std.proofs.Common.{◌≡◌, ℕ, ◌+◌, Bool, true, false, not, ◌&&◌, ◌==◌, List, [], ◌∷◌, ◌++◌, Option, Some, None}
use Rattle.std.proofs.Common.{Ok, Err, if◌then◌else◌, refl, sym, ap, subst, ◌∙◌}
use Rattle.std.proofs.lemmas.Bool.{and_parts}
use Rattle.hs_tokens.specs.declared.token.Token.{Token}
use Rattle.haskell_layout.specs.declared.role.Role.{Role}
use Rattle.haskell_layout.specs.declared.role.Role.TheVariants as r
use Rattle.haskell_layout.specs.declared.role.Made.{Made}
use Rattle.haskell_layout.specs.declared.role.Made.TheVariants as m
use Rattle.haskell_layout.specs.declared.stack.Item.{Item}
use Rattle.haskell_layout.specs.declared.stack.Item.TheVariants as i
use Rattle.haskell_layout.specs.declared.stack.Sought.{Sought}
use Rattle.haskell_layout.specs.declared.stack.Sought.TheVariants as s
use Rattle.haskell_layout.specs.declared.stack.Until.{Until}
use Rattle.haskell_layout.specs.declared.stack.Until.TheVariants as u
use Rattle.haskell_layout.specs.Role.{role_of, makes_due, is_open_brace}
use Rattle.haskell_layout.specs.Stack.{column_of, is_implicit, finds, reached}
use Rattle.haskell_layout.specs.Rules.{Moved, nothing_made, behind, end_of, closed, closed_over, without_top, popped}
use Rattle.haskell_layout.specs.Rules.{item_ended, item_begun, line_begun, block_begun, before_token, arrow_met}
use Rattle.haskell_layout.specs.Rules.{equals_met, where_met, token_met, unmatched}
use Rattle.haskell_layout.specs.Layout.{State, Answer, going_on, layout_from, due_at_start, fresh_after, made_tokens}
use Rattle.haskell_layout.specs.Layout.{token_moves, state_behind}
use Rattle.haskell_layout.specs.Laws.{none_due, BracesStay}
use Rattle.haskell_layout.proofs.StandingLemmas.{before_inverts}

-- no implicit block is open
abbrev pub IsPlain : List Item → Type 0
IsPlain [] = Unit {0}
IsPlain (i.Block column ∷ outer) = ⊥
IsPlain (item ∷ outer) = IsPlain outer

-- nothing is made, and no implicit block is open
record Still (moved : Moved) : Type 0 where
  made : moved.made ≡ []
  plain : IsPlain moved.stack

-- such an item makes nothing where it ends
pub plain_item : (item : Item) (outer : List Item) → IsPlain (item ∷ outer) → (end_of item ≡ []) × IsPlain outer
plain_item (i.Block column) outer plain = absurd plain
plain_item i.Explicit outer plain = (refl, plain)
plain_item i.Paren outer plain = (refl, plain)
plain_item i.Bracket outer plain = (refl, plain)
plain_item i.If outer plain = (refl, plain)
plain_item i.Then outer plain = (refl, plain)
plain_item i.Case outer plain = (refl, plain)
plain_item i.Let outer plain = (refl, plain)
plain_item i.Lam outer plain = (refl, plain)
plain_item i.Guard outer plain = (refl, plain)

-- the innermost block is not implicit
pub plain_implicit : (stack : List Item) → IsPlain stack → is_implicit stack ≡ false
plain_implicit [] plain = refl
plain_implicit (i.Block column ∷ outer) plain = absurd plain
plain_implicit (i.Explicit ∷ outer) plain = refl
plain_implicit (i.Paren ∷ outer) plain = plain_implicit outer plain
plain_implicit (i.Bracket ∷ outer) plain = plain_implicit outer plain
plain_implicit (i.If ∷ outer) plain = plain_implicit outer plain
plain_implicit (i.Then ∷ outer) plain = plain_implicit outer plain
plain_implicit (i.Case ∷ outer) plain = plain_implicit outer plain
plain_implicit (i.Let ∷ outer) plain = plain_implicit outer plain
plain_implicit (i.Lam ∷ outer) plain = plain_implicit outer plain
plain_implicit (i.Guard ∷ outer) plain = plain_implicit outer plain

at_rest : (stack : List Item) → IsPlain stack → Still (nothing_made stack)
at_rest stack plain = record { made = refl; plain = plain }

behind_still : (made : List Made) (moved : Moved) → made ≡ [] → Still moved → Still (behind made moved)
behind_still made moved none still = record {
  made = ap (λ (before : List Made). before ++ moved.made) none
      ∙ still.made;
  plain = still.plain;
}

closed_still_by : (stop : Bool) (until : Until) (item : Item) (outer : List Item) → IsPlain (item ∷ outer)
    → Still (closed until outer) →
    Still (if stop then nothing_made (item ∷ outer) else behind (end_of item) (closed until outer))
closed_still_by true until item outer plain still = at_rest (item ∷ outer) plain
closed_still_by false until item outer plain still =
    behind_still (end_of item) (closed until outer) (plain_item item outer plain).0 still

closed_still : (until : Until) (stack : List Item) → IsPlain stack → Still (closed until stack)
closed_still until [] plain = at_rest [] tt
closed_still until (item ∷ outer) plain =
    closed_still_by (reached until (item ∷ outer)) until item outer plain
    (closed_still until outer (plain_item item outer plain).1)

popped_plain : (stack : List Item) → IsPlain stack → IsPlain (popped stack)
popped_plain [] plain = tt
popped_plain (item ∷ outer) plain = (plain_item item outer plain).1

closed_to_still : (found : Bool) (sought : Sought) (stack : List Item) → IsPlain stack →
    Still (if found then closed (u.Top sought) stack else nothing_made stack)
closed_to_still true sought stack plain = closed_still (u.Top sought) stack plain
closed_to_still false sought stack plain = at_rest stack plain

without_top_still : (moved : Moved) → Still moved → Still (without_top moved)
without_top_still moved still = record { made = still.made; plain = popped_plain moved.stack still.plain }

closed_over_still : (found : Bool) (sought : Sought) (stack : List Item) → IsPlain stack →
    Still (if found then without_top (closed (u.Top sought) stack) else nothing_made stack)
closed_over_still true sought stack plain = without_top_still (closed (u.Top sought) stack)
    (closed_still (u.Top sought) stack plain)
closed_over_still false sought stack plain = at_rest stack plain

item_begun_still : (column : ℕ) (stack : List Item) → IsPlain stack → Still (item_begun column stack)
item_begun_still column stack plain =
    subst (λ (implicit : Bool). Still (if implicit && column_of stack == column then behind (m.Semicolon ∷ [])
    (item_ended stack) else nothing_made stack))
    (sym (plain_implicit stack plain)) (at_rest stack plain)

line_begun_still : (column : ℕ) (stack : List Item) → IsPlain stack → Still (line_begun column stack)
line_begun_still column stack plain =
    let moved = closed (u.Column column) stack in
    let still = closed_still (u.Column column) stack plain in
    behind_still moved.made (item_begun column moved.stack) still.made (item_begun_still column moved.stack still.plain)

before_still_by : (due first : Bool) (column : ℕ) (stack : List Item) → due ≡ false → IsPlain stack →
    Still (if due then block_begun column stack else (if first then line_begun column stack else nothing_made stack))
before_still_by true first column stack none plain = absurd (cc)
before_still_by false true column stack none plain = line_begun_still column stack plain
before_still_by false false column stack none plain = at_rest stack plain

arrow_plain : (stack : List Item) → IsPlain stack → IsPlain (arrow_met stack)
arrow_plain [] plain = tt
arrow_plain (i.Block column ∷ outer) plain = absurd plain
arrow_plain (i.Explicit ∷ outer) plain = plain
arrow_plain (i.Paren ∷ outer) plain = plain
arrow_plain (i.Bracket ∷ outer) plain = plain
arrow_plain (i.If ∷ outer) plain = plain
arrow_plain (i.Then ∷ outer) plain = plain
arrow_plain (i.Case ∷ outer) plain = plain
arrow_plain (i.Let ∷ outer) plain = plain
arrow_plain (i.Lam ∷ outer) plain = plain
arrow_plain (i.Guard ∷ outer) plain = plain

equals_plain : (stack : List Item) → IsPlain stack → IsPlain (equals_met stack)
equals_plain [] plain = tt
equals_plain (i.Block column ∷ outer) plain = absurd plain
equals_plain (i.Explicit ∷ outer) plain = plain
equals_plain (i.Paren ∷ outer) plain = plain
equals_plain (i.Bracket ∷ outer) plain = plain
equals_plain (i.If ∷ outer) plain = plain
equals_plain (i.Then ∷ outer) plain = plain
equals_plain (i.Case ∷ outer) plain = plain
equals_plain (i.Let ∷ outer) plain = plain
equals_plain (i.Lam ∷ outer) plain = plain
equals_plain (i.Guard ∷ outer) plain = plain

where_still : (fresh : Bool) (stack : List Item) → IsPlain stack → Still (where_met fresh stack)
where_still fresh [] plain = at_rest [] tt
where_still fresh (i.Block column ∷ outer) plain = absurd plain
where_still fresh (i.Explicit ∷ outer) plain = at_rest (i.Explicit ∷ outer) plain
where_still fresh (i.Paren ∷ outer) plain = at_rest (i.Paren ∷ outer) plain
where_still fresh (i.Bracket ∷ outer) plain = at_rest (i.Bracket ∷ outer) plain
where_still fresh (i.If ∷ outer) plain = at_rest (i.If ∷ outer) plain
where_still fresh (i.Then ∷ outer) plain = at_rest (i.Then ∷ outer) plain
where_still fresh (i.Case ∷ outer) plain = at_rest (i.Case ∷ outer) plain
where_still fresh (i.Let ∷ outer) plain = at_rest (i.Let ∷ outer) plain
where_still fresh (i.Lam ∷ outer) plain = at_rest (i.Lam ∷ outer) plain
where_still fresh (i.Guard ∷ outer) plain = at_rest (i.Guard ∷ outer) plain

then_still : (moved : Moved) → Still moved → Still (record { made = moved.made; stack = i.Then ∷ moved.stack })
then_still moved still = record { made = still.made; plain = still.plain }

over : (sought : Sought) (stack : List Item) → IsPlain stack → Still (closed_over sought stack)
over sought stack plain = closed_over_still (finds sought stack) sought stack plain

met_still : (fresh : Bool) (role : Role) (stack : List Item) → IsPlain stack → Still (token_met fresh role stack)
met_still fresh r.Semicolon stack plain = closed_still u.Block stack plain
met_still fresh r.OpenParen stack plain = at_rest (i.Paren ∷ stack) plain
met_still fresh r.OpenBracket stack plain = at_rest (i.Bracket ∷ stack) plain
met_still fresh r.CloseParen stack plain = over s.Paren stack plain
met_still fresh r.CloseBracket stack plain = over s.Bracket stack plain
met_still fresh r.Comma stack plain = closed_to_still (finds s.Parts stack) s.Parts stack plain
met_still fresh r.OpenBrace stack plain = at_rest (i.Explicit ∷ stack) plain
met_still fresh r.CloseBrace stack plain = over s.Explicit stack plain
met_still fresh r.If stack plain = at_rest (i.If ∷ stack) plain
met_still fresh r.Case stack plain = at_rest (i.Case ∷ stack) plain
met_still fresh r.Let stack plain = at_rest (i.Let ∷ stack) plain
met_still fresh r.Lambda stack plain = at_rest (i.Lam ∷ stack) plain
met_still fresh r.Bar stack plain = at_rest (i.Guard ∷ stack) plain
met_still fresh r.Then stack plain = then_still (closed_over s.If stack) (over s.If stack plain)
met_still fresh r.Else stack plain = over s.Then stack plain
met_still fresh r.Of stack plain = over s.Case stack plain
met_still fresh r.In stack plain = over s.Let stack plain
met_still fresh r.Arrow stack plain = at_rest (arrow_met stack) (arrow_plain stack plain)
met_still fresh r.Equals stack plain = at_rest (equals_met stack) (equals_plain stack plain)
met_still fresh r.Where stack plain = where_still fresh stack plain
met_still fresh r.Header stack plain = at_rest stack plain
met_still fresh r.Other stack plain = at_rest stack plain

abbrev GoesStill : Option Moved → Type 0
GoesStill None = Unit {0}
GoesStill (Some moved) = Still moved

goes_still_by : (stuck : Bool) (moved : Moved) → Still moved → GoesStill (if stuck then None else Some moved)
goes_still_by true moved still = tt
goes_still_by false moved still = still

-- what is due is there
not_due : (due brace : Bool) → (if due then brace else true) ≡ true → (due && not brace) ≡ false
not_due true true is = refl
not_due true false is = absurd (cc)
not_due false brace is = refl

goes_still : (state : State) (token : Token) → (if state.due then is_open_brace (role_of token) else true) ≡ true
    → IsPlain state.stack →
    GoesStill (token_moves state token)
goes_still state token is plain =
    let before = before_token state.due (role_of token) token.column token.first state.stack in
    let still : Still before = before_still_by (state.due && not (is_open_brace (role_of token))) token.first
    token.column state.stack
    (not_due state.due (is_open_brace (role_of token)) is) plain in
    let met = token_met (fresh_after state.fresh before.made) (role_of token) before.stack in
    goes_still_by (unmatched (role_of token) before.stack) (behind before.made met)
    (behind_still before.made met still.made (met_still (fresh_after state.fresh before.made)
    (role_of token) before.stack still.plain))

gone_stays : (index : ℕ) (token : Token) (tokens : List Token) (rest : State
    → Answer) (moves : Option Moved) (answer : List Token) → GoesStill moves →
    ((stack : List Item) (more : List Token) → IsPlain stack → rest (state_behind (role_of token) stack) ≡ Ok more
    → more ≡ tokens) →
    going_on token index rest moves ≡ Ok answer → answer ≡ token ∷ tokens
gone_stays index token tokens rest None answer still stays e = absurd (cc)
gone_stays index token tokens rest (Some moved) answer still stays e =
    let inverted = before_inverts (made_tokens moved.made token.offset ++ token ∷ []) _ answer e in
    inverted.2
    ∙ ap (λ (made : List Made). (made_tokens made token.offset ++ token ∷ []) ++ inverted.0) still.made
    ∙ ap (λ (more : List Token). token ∷ more) (stays moved.stack inverted.0 still.plain inverted.1)

ended_stays : (source_length index : ℕ) (due explicit : Bool) (closing : List Made) (answer : List Token)
    → not due ≡ true → closing ≡ [] →
    ◌≡◌ {A = Answer} (if explicit then Err index else Ok
    (made_tokens ((if due then m.Open ∷ m.Close ∷ [] else []) ++ closing) source_length)) (Ok answer) →
    answer ≡ []
ended_stays source_length index true explicit closing answer none is e = absurd (cc)
ended_stays source_length index false true closing answer none is e = absurd (cc)
ended_stays source_length index false false closing answer none is e =
    let out : made_tokens closing source_length ≡ answer = cc in
    sym out ∙ ap (λ (made : List Made). made_tokens made source_length) is

from_stays : (source_length : ℕ) (tokens : List Token) (index : ℕ)
    (state : State) (answer : List Token) →
    none_due state.due tokens ≡ true → IsPlain state.stack → layout_from source_length tokens index state ≡ Ok answer
    → answer ≡ tokens
from_stays source_length [] index state answer none plain e =
    ended_stays source_length index state.due (finds s.Explicit state.stack)
    (closed u.Bottom state.stack).made answer none
    (closed_still u.Bottom state.stack plain).made e
from_stays source_length (token ∷ tokens) index state answer none plain e =
    let parts = and_parts (if state.due then is_open_brace (role_of token) else true)
    (none_due (makes_due (role_of token)) tokens) none in
    gone_stays index token tokens (λ next. layout_from source_length tokens (index + 1) next)
    (token_moves state token) answer
    (goes_still state token parts.0 plain)
    (λ stack more opened is. from_stays source_length tokens (index + 1)
    (state_behind (role_of token) stack) more parts.1 opened is) e

pub braces_stay : BracesStay
braces_stay tokens answer source_length none e =
    from_stays source_length tokens 0 (record { stack = []; due = due_at_start tokens; fresh = false }) answer none tt e
