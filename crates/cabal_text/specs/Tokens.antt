-- The words and marks of a value, and the items of its lists.
use Rattle.std.specs.Prelude.{ℕ, ◌+◌, ◌-◌, Bool, false, Option, Some, None, List, [], ◌∷◌, codes, ◌==◌, ◌||◌, ◌&&◌, not}
use Rattle.std.specs.Prelude.{if◌then◌else◌}
use Rattle.std.specs.List.{onto_first}
use Rattle.std.specs.Cmp.Lexicographic.{pointwise}
use Rattle.cabal_text.specs.declared.tokens.Brackets.{Brackets}
use Rattle.cabal_text.specs.declared.tokens.Brackets.TheVariants.{Round, Curly}
use Rattle.cabal_text.specs.Characters.{is_space}

-- white space of a value, whose lines are joined by line feeds
unfoldable pub is_blank : ℕ → Bool
is_blank b = is_space b || (b == 10)

-- a comma, a bracket or a brace
unfoldable pub is_mark : ℕ → Bool
is_mark b = (b == 44) || (b == 40) || (b == 41) || (b == 123) || (b == 125)

-- a character of a word
unfoldable pub is_word_char : ℕ → Bool
is_word_char b = not (is_blank b) && not (is_mark b)

abbrev pub goes_on : List ℕ → Bool
goes_on [] = false
goes_on (b ∷ bs) = is_word_char b

-- the words and marks of a text: a word goes on as far as it can
abbrev pub tokens_of : List ℕ → List (List ℕ)
tokens_of [] = []
tokens_of (b ∷ bs) =
    if is_blank b then tokens_of bs else
    (if is_word_char b && goes_on bs then onto_first b (tokens_of bs) else (b ∷ []) ∷ tokens_of bs)

-- the two texts are the same
abbrev pub is_text : List ℕ → List ℕ → Bool
is_text text other = pointwise ◌==◌ text other

-- the marks of a kind of brackets
abbrev pub opening : Brackets → List ℕ
opening Round = codes "("
opening Curly = codes "{"

abbrev pub closing : Brackets → List ℕ
closing Round = codes ")"
closing Curly = codes "}"

-- how many brackets are open after a token
unfoldable pub depth_after : Brackets → ℕ → List ℕ → ℕ
depth_after brackets depth token =
    if is_text token (opening brackets) then depth + 1 else
    (if is_text token (closing brackets) then depth - 1 else depth)

-- the token is a comma outside brackets
unfoldable pub ends_item : ℕ → List ℕ → Bool
ends_item depth token = (depth == 0) && is_text token (codes ",")

-- the items of a list: each ends at a comma outside brackets, or at the end
abbrev pub items_at : Brackets → ℕ → List (List ℕ) → List (List (List ℕ))
items_at brackets depth [] = []
items_at brackets depth (token ∷ tokens) =
    if ends_item depth token then [] ∷ items_at brackets 0 tokens else onto_first token
    (items_at brackets (depth_after brackets depth token) tokens)

-- the list without a comma before it
abbrev pub without_comma : List (List ℕ) → List (List ℕ)
without_comma [] = []
without_comma (token ∷ tokens) = if is_text token (codes ",") then tokens else token ∷ tokens

-- what is read, in order, where each item reads
abbrev pub cons_if : {X : Type 0} → Option X → Option (List X) → Option (List X)
cons_if None read = None
cons_if (Some x) None = None
cons_if (Some x) (Some xs) = Some (x ∷ xs)

abbrev pub each_read : {A X : Type 0} → (A → Option X) → List A → Option (List X)
each_read reads [] = Some []
each_read reads (item ∷ items) = cons_if (reads item) (each_read reads items)
