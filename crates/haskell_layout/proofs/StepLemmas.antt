-- One token more.
use Rattle.std.proofs.Common.{◌≡◌, ℕ, suc, ◌+◌, ◌<◌, List, [], ◌∷◌, ◌++◌, Option, Some, None, Ok, Err, IsSomeAnd}
use Rattle.std.proofs.Common.{length, drop, get_or, append_assoc, refl, sym, ap, ◌∙◌, add-one}
use Rattle.std.proofs.Math.Seq.{drop-cons}
use Rattle.hs_tokens.specs.declared.token.Token.{Token}
use Rattle.haskell_layout.specs.declared.progress.Progress.{Progress}
use Rattle.haskell_layout.specs.Rules.{Moved}
use Rattle.haskell_layout.specs.Layout.{State, Answer, before_answer, going_on, layout_from, made_tokens, token_moves}
use Rattle.haskell_layout.specs.Progress.{state_of, advanced, emitted}

before_answer-append : (one two : List Token) (answer : Answer)
    → before_answer (one ++ two) answer ≡ before_answer one (before_answer two answer)
before_answer-append one two (Ok more) = ap Ok (append_assoc one two more)
before_answer-append one two (Err index) = refl

gone_on : (token : Token) (index : ℕ) (rest : State → Answer) (progress next : Progress) (moves : Option Moved) →
    IsSomeAnd moves (λ moved. next ≡ emitted token (advanced token.offset moved progress)) →
    before_answer next.out (rest (state_of next)) ≡ before_answer progress.out (going_on token index rest moves)
gone_on token index rest progress next None is = absurd is
gone_on token index rest progress next (Some moved) is =
    let made = made_tokens moved.made token.offset in
    let after = emitted token (advanced token.offset moved progress) in
    ap (λ (p : Progress). before_answer p.out (rest (state_of p))) is
    ∙ ap (λ (out : List Token). before_answer out (rest (state_of after))) (append_assoc progress.out made (token ∷ []))
    ∙ before_answer-append progress.out (made ++ token ∷ []) (rest (state_of after))

-- the tokens at an index: the one there, and those behind it
split_at : (tokens : List Token) (index : ℕ) (token : Token) → index < length tokens
    → token ≡ get_or tokens index token →
    drop index tokens ≡ token ∷ drop (index + 1) tokens
split_at tokens index token within is =
    drop-cons tokens index token within ∙ ap (λ (it : Token). it ∷ drop (suc index) tokens) (sym is)
    ∙ ap (λ (n : ℕ). token ∷ drop n tokens) (sym (add-one index))

pub step_taken : (source_length : ℕ) (tokens : List Token) (index : ℕ) (token : Token) (progress next : Progress)
    → index < length tokens →
    token ≡ get_or tokens index token →
    IsSomeAnd (token_moves (state_of progress) token)
    (λ moved. next ≡ emitted token (advanced token.offset moved progress)) →
    before_answer next.out (layout_from source_length (drop (index + 1) tokens) (index + 1) (state_of next))
    ≡ before_answer progress.out (layout_from source_length (drop index tokens) index (state_of progress))
step_taken source_length tokens index token progress next within is moves =
    gone_on token index (λ state. layout_from source_length (drop (index + 1) tokens) (index + 1) state) progress next
    (token_moves (state_of progress) token) moves
    ∙ ap (λ (rest : List Token). before_answer progress.out (layout_from source_length rest index (state_of progress)))
    (sym (split_at tokens index token within is))
