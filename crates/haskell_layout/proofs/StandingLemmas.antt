-- What holds of every layout.
use Rattle.std.proofs.Common.{◌≡◌, ℕ, ◌+◌, Bool, true, false, List, [], ◌∷◌, ◌++◌, Option, Some, None, Ok, Err}
use Rattle.std.proofs.Common.{if◌then◌else◌, append_assoc, append-nil, refl, sym, subst, ◌∙◌, inl, inr}
use Rattle.hs_tokens.specs.declared.token.Token.{Token}
use Rattle.haskell_layout.specs.declared.role.Made.{Made}
use Rattle.haskell_layout.specs.declared.role.Made.TheVariants as m
use Rattle.haskell_layout.specs.declared.stack.Sought.TheVariants as s
use Rattle.haskell_layout.specs.Role.{made_token}
use Rattle.haskell_layout.specs.Stack.{finds}
use Rattle.haskell_layout.specs.Rules.{Moved}
use Rattle.haskell_layout.specs.Layout.{State, Answer, before_answer, going_on, layout_from, due_at_start, made_at_end}
use Rattle.haskell_layout.specs.Layout.{made_tokens, token_moves}
use Rattle.haskell_layout.specs.Laws.{IsMade, next_offset, LaidOut, GivenStand}
use Rattle.haskell_layout.specs.Laws.LaidOut.{ended, given, made}

made_is : (made : Made) (offset : ℕ) → IsMade offset (made_token made offset)
made_is m.Open offset = record { kind = refl; text = inl refl; at = refl; column = refl; first = refl }
made_is m.Close offset = record { kind = refl; text = inr (inl refl); at = refl; column = refl; first = refl }
made_is m.Semicolon offset = record { kind = refl; text = inr (inr (inl refl)); at = refl; column = refl; first = refl }

made_before : (length : ℕ) (tokens answer : List Token) (marks : List Made) → LaidOut length tokens answer →
    LaidOut length tokens (made_tokens marks (next_offset length tokens) ++ answer)
made_before length tokens answer [] laid = laid
made_before length tokens answer (it ∷ marks) laid =
    made _ tokens _ (made_is it (next_offset length tokens)) (made_before length tokens answer marks laid)

-- an answer with tokens before it
pub before_inverts : (tokens : List Token) (rest : Answer) (answer : List Token)
    → before_answer tokens rest ≡ Ok answer →
    (more : List Token) × (rest ≡ Ok more) × (answer ≡ tokens ++ more)
before_inverts tokens (Ok more) answer e = (more, refl, sym (cc))
before_inverts tokens (Err index) answer e = absurd (cc)

ended_laid : (length index : ℕ) (state : State) (explicit : Bool) (answer : List Token) →
    ◌≡◌ {A = Answer} (if explicit then Err index else Ok (made_tokens (made_at_end state) length)) (Ok answer)
    → LaidOut length [] answer
ended_laid length index state true answer e = absurd (cc)
ended_laid length index state false answer e =
    let is : made_tokens (made_at_end state) length ++ [] ≡ answer = append-nil (made_tokens (made_at_end state) length)
    ∙ cc in
    subst (λ out. LaidOut length [] out) is (made_before length [] [] (made_at_end state) ended)

gone_laid : (length index : ℕ) (token : Token) (tokens : List Token) (rest : State
    → Answer) (moves : Option Moved) (answer : List Token) →
    ((next : State) (more : List Token) → rest next ≡ Ok more → LaidOut length tokens more) →
    going_on token index rest moves ≡ Ok answer → LaidOut length (token ∷ tokens) answer
gone_laid length index token tokens rest None answer laid e = absurd (cc)
gone_laid length index token tokens rest (Some moved) answer laid e =
    let inverted = before_inverts (made_tokens moved.made token.offset ++ token ∷ []) _ answer e in
    let more = inverted.0 in
    let is : made_tokens moved.made token.offset ++ (token ∷ more) ≡ answer =
    sym (append_assoc (made_tokens moved.made token.offset) (token ∷ []) more) ∙ sym inverted.2 in
    subst (λ out. LaidOut length (token ∷ tokens) out) is
    (made_before length (token ∷ tokens) (token ∷ more) moved.made (given token tokens more (laid _ more inverted.1)))

from_laid : (length : ℕ) (tokens : List Token) (index : ℕ) (state : State)
    (answer : List Token) → layout_from length tokens index state ≡ Ok answer → LaidOut length tokens answer
from_laid length [] index state answer e = ended_laid length index state (finds s.Explicit state.stack) answer e
from_laid length (token ∷ tokens) index state answer e =
    gone_laid length index token tokens (λ next. layout_from length tokens (index + 1) next)
    (token_moves state token) answer
    (λ next more is. from_laid length tokens (index + 1) next more is) e

pub given_stand : GivenStand
given_stand tokens answer length e = from_laid length tokens 0
    (record { stack = []; due = due_at_start tokens; fresh = false }) answer e
