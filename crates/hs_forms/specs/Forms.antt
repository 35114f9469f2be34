-- Forms made of forms.
use Rattle.std.specs.Prelude.{◌≡◌, ℕ, ◌<◌, Bool, false, not, List, [], ◌∷◌, ◌++◌, replicate, ◌⊎◌}
use Rattle.std.proofs.Common.{inl, inr}
use Rattle.hs_forms.specs.Reading.{Form}

-- A tree of one token.
abbrev pub leaf : {K N : Type 0} → (N → K) → Form K N
leaf token = record { tokens = λ n. token n ∷ []; Good = λ n. Unit {0}; extends = λ n k. false }

-- The form of a tree behind a token.
abbrev pub behind : {K T : Type 0} → K → Form K T → Form K T
behind t form = record { tokens = λ x. t ∷ form.tokens x; Good = form.Good; extends = form.extends }

-- A form and a token behind it, by which no tree of the form goes on.
abbrev pub closed : {K T : Type 0} → Form K T → K → Form K T
closed form t = record { tokens = λ x. form.tokens x ++ t ∷ []; Good = form.Good; extends = λ x k. false }

-- A form and a token behind those of its trees that fit, by which none that fits goes on: a guard before `->` does not
-- end in a type.
abbrev pub closed_if : {K T : Type 0} → Form K T → (T → Type 0) → K → Form K T
closed_if form Fits t = record {
  tokens = λ x. form.tokens x ++ t ∷ [];
  Good = λ x. form.Good x × Fits x;
  extends = λ x k. false;
}

-- Each tree can be gone on with to one that fits.
abbrev pub Completes : {K T : Type 0} → Form K T → (T → Type 0) → Type 0
Completes {K} {T} form Fits =
    (x : T) → form.Good x → (more : List K) × (y : T) × form.Good y × Fits y × (form.tokens x ++ more ≡ form.tokens y)

-- Two forms in a row, where the second fits the first.
abbrev pub pair : {K T U : Type 0} → Form K T → Form K U → (T → U → Type 0) → Form K (T × U)
pair one two Fits = record {
  tokens = λ p. one.tokens p.0 ++ two.tokens p.1;
  Good = λ p. one.Good p.0 × two.Good p.1 × Fits p.0 p.1;
  extends = λ p. two.extends p.1;
}

-- Each tree of the first can be gone on with to a pair.
abbrev pub CompletesPair : {K T U : Type 0} → Form K T → Form K U → (T → U → Type 0) → Type 0
CompletesPair {K} {T} {U} one two Fits =
    (x : T) → one.Good x →
    (more : List K) × (y : T) × (u : U) × one.Good y × two.Good u × Fits y u
    × (one.tokens x ++ more ≡ one.tokens y ++ two.tokens u)

-- Trees that are followed by such a token, or by none.
abbrev pub narrow : {K T : Type 0} → Form K T → (K → Bool) → Form K T
narrow form follow = record { tokens = form.tokens; Good = form.Good; extends = λ x t. not (follow t) }

abbrev pub side : {A B C : Type 0} → (A → C) → (B → C) → A ⊎ B → C
side f g (inl a) = f a
side f g (inr b) = g b

abbrev pub side_type : {A B : Type 0} → (A → Type 0) → (B → Type 0) → A ⊎ B → Type 0
side_type f g (inl a) = f a
side_type f g (inr b) = g b

-- The trees of both of two forms.
abbrev pub either : {K T U : Type 0} → Form K T → Form K U → Form K (T ⊎ U)
either one two = record {
  tokens = side one.tokens two.tokens;
  Good = side_type one.Good two.Good;
  extends = side one.extends two.extends;
}

-- One token any number of times, fewer than a bound, and a closing one: behind a `(` the name of the unit, without a
-- comma, or of a
-- tuple.
abbrev pub commas_form : {K : Type 0} → K → K → ℕ → Form K ℕ
commas_form comma shut bound = record {
  tokens = λ n. replicate n comma ++ shut ∷ [];
  Good = λ n. n < bound;
  extends = λ n k. false;
}

-- An item of a chain, behind so many others.
abbrev pub item_form : {K X : Type 0} → (X → List K) → (ℕ → X → Type 0) → (X → K → Bool) → ℕ → Form K X
item_form items item inner n = record { tokens = items; Good = item n; extends = inner }
