-- Lists in round brackets (Haskell 2010 Report, sections 5.2 and 5.3): parts between commas, of which the last may have
-- a comma behind it.
use Rattle.std.specs.Prelude.{◌≡◌, Bool, true, false, List, [], ◌∷◌, ◌++◌, map}
use Rattle.hs_forms.specs.Reading.{Form, begins}
use Rattle.hs_forms.specs.Answers.{Sort}
use Rattle.hs_forms.specs.Limits.{all_of}
use Rattle.hs_tokens.specs.declared.terminal.Terminal.{Terminal}
use Rattle.hs_tokens.specs.declared.terminal.Terminal.TheVariants as t

abbrev pub Ts : Type 0
Ts = List Terminal

-- Trees without depth.
abbrev pub flat : {T : Type 0} → Form Terminal T → Sort Terminal T
flat form = record { form = form; depth = λ x. 0 }

-- What may be a part of a list: it begins with a token that is no comma and no bracket, and goes on with neither.
pub record Element (X : Type 0) : Type 0 where
  pub tokens : X → Ts
  pub formed : X → Bool
  pub extends : X → Terminal → Bool
  pub starter : Terminal → Bool
  pub least : X
  pub least_formed : formed least ≡ true
  pub starts : (x : X) → begins starter (tokens x) ≡ true
  pub comma : (x : X) → extends x t.Comma ≡ false
  pub close : (x : X) → extends x t.RightParen ≡ false
  pub no_comma : starter t.Comma ≡ false
  pub no_close : starter t.RightParen ≡ false

abbrev pub element_form : {X : Type 0} → Element X → Form Terminal X
element_form e = record { tokens = e.tokens; Good = λ x. e.formed x ≡ true; extends = e.extends }

-- what stands behind a part: the other parts, maybe a comma, and the closing bracket
abbrev pub more_tokens : {X : Type 0} → (X → Ts) → List X → Bool → Ts
more_tokens f [] true = t.Comma ∷ t.RightParen ∷ []
more_tokens f [] false = t.RightParen ∷ []
more_tokens f (x ∷ xs) b = t.Comma ∷ (f x ++ more_tokens f xs b)

-- what stands behind the opening bracket, or behind a comma that follows a part
abbrev pub tail_tokens : {X : Type 0} → Bool → (X → Ts) → List X → Bool → Ts
tail_tokens behind f (x ∷ xs) b = f x ++ more_tokens f xs b
tail_tokens true f [] b = t.RightParen ∷ []
tail_tokens false f [] true = t.Comma ∷ t.RightParen ∷ []
tail_tokens false f [] false = t.RightParen ∷ []

-- A list behind its `(`: `A, B)`, and where it may end in a comma also `A, B,)`.
abbrev pub listed_form : {X : Type 0} → Element X → Bool → Form Terminal (List X × Bool)
listed_form e may = record {
  tokens = λ p. tail_tokens false e.tokens p.0 p.1;
  Good = λ p. (all_of (map e.formed p.0) ≡ true) × (p.1 ≡ true → may ≡ true);
  extends = λ p k. false;
}
