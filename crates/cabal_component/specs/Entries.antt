-- The entries of mixins (Cabal manual, "mixins").
use Rattle.std.specs.Prelude.{ℕ, ◌+◌, Bool, Option, Some, None, option_map, List, [], ◌∷◌, length, take, drop, map}
use Rattle.std.specs.Prelude.{codes, nat_lt, ◌==◌, ◌&&◌, not, if◌then◌else◌}
use Rattle.std.specs.List.{prefix_len}
use Rattle.bp_base.specs.declared.linking.Rename.{Rename}
use Rattle.cabal_text.specs.declared.tokens.Brackets.TheVariants.{Round}
use Rattle.cabal_text.specs.Tokens.{is_text, tokens_of, items_at, without_comma, each_read}
use Rattle.cabal_text.specs.Names.{is_dependency, renames_of, names_of}
use Rattle.cabal_text.specs.Seen.{repeats}
use Rattle.cabal_component.specs.declared.component.Mixin.{Mixin}
use Rattle.cabal_component.specs.declared.component.Provides.{Provides}
use Rattle.cabal_component.specs.declared.component.Provides.TheVariants.{Whole, Listed, Hiding}

-- how many tokens stand before the closing bracket
abbrev pub close_len : List (List ℕ) → ℕ
close_len tokens = prefix_len (λ token. not (is_text token (codes ")"))) tokens

-- what stands in brackets, and what comes after them
abbrev pub bracket_of : List (List ℕ) → Option (List (List ℕ) × List (List ℕ))
bracket_of [] = None
bracket_of (token ∷ tokens) =
    if is_text token (codes "(") && nat_lt (close_len tokens) (length tokens)
    then Some (take (close_len tokens) tokens, drop (close_len tokens + 1) tokens) else None

-- the same behind a word
abbrev pub word_bracket : List ℕ → List (List ℕ) → Option (List (List ℕ) × List (List ℕ))
word_bracket word [] = None
word_bracket word (token ∷ tokens) = if is_text token word then bracket_of tokens else None

-- two have one new name
abbrev pub news_repeat : List Rename → Bool
news_repeat renames = repeats (map (λ r. r.to) renames)

-- two have one old name
abbrev pub olds_repeat : List Rename → Bool
olds_repeat renames = repeats (map (λ r. r.from) renames)

abbrev pub needs_if : Option (List Rename) → Option (List Rename)
needs_if None = None
needs_if (Some needs) = if olds_repeat needs then None else Some needs

abbrev pub needs_in : Option (List (List ℕ) × List (List ℕ)) → Option (List Rename)
needs_in None = None
needs_in (Some x) = if length x.1 == 0 then needs_if (renames_of x.0) else None

-- nothing, or `requires` and renames in brackets
abbrev pub needs_of : List (List ℕ) → Option (List Rename)
needs_of [] = Some []
needs_of (token ∷ tokens) = needs_in (word_bracket (codes "requires") (token ∷ tokens))

abbrev pub mixin : List ℕ → Provides → List Rename → Mixin
mixin dep provides needs = record { dep = dep; provides = provides; needs = needs }

abbrev pub mixin_with : List ℕ → Provides → List (List ℕ) → Option Mixin
mixin_with dep provides rest = option_map (λ needs. mixin dep provides needs) (needs_of rest)

abbrev pub listed_with : List ℕ → Option (List Rename) → List (List ℕ) → Option Mixin
listed_with dep None rest = None
listed_with dep (Some items) rest = if news_repeat items then None else mixin_with dep (Listed items) rest

abbrev pub hiding_with : List ℕ → Option (List (List ℕ)) → List (List ℕ) → Option Mixin
hiding_with dep None rest = None
hiding_with dep (Some names) rest = mixin_with dep (Hiding names) rest

abbrev pub entry_at : List ℕ → List (List ℕ) → Option (List (List ℕ) × List (List ℕ))
    → Option (List (List ℕ) × List (List ℕ)) → Option Mixin
entry_at dep rest (Some x) hiding = listed_with dep (renames_of x.0) x.1
entry_at dep rest None (Some x) = hiding_with dep (names_of x.0) x.1
entry_at dep rest None None = mixin_with dep Whole rest

-- a dependency; renames in brackets, or `hiding` and names in brackets, or neither; and what it needs
abbrev pub entry_of : List (List ℕ) → Option Mixin
entry_of [] = None
entry_of (dep ∷ rest) = if is_dependency dep then entry_at dep rest (bracket_of rest)
    (word_bracket (codes "hiding") rest) else None

-- the entries of a value
abbrev pub mixins_of : List ℕ → Option (List Mixin)
mixins_of value = each_read entry_of (items_at Round 0 (without_comma (tokens_of value)))
