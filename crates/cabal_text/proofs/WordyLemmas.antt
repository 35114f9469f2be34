-- Tokens and items, one after another.
use Rattle.std.proofs.Common.{◌≡◌, refl, ap, ◌∙◌, ℕ, ◌+◌, ◌<◌, ◌≤◌, max, Bool, true, false, List, [], ◌∷◌, length, take}
use Rattle.std.proofs.Common.{drop, codes, cond, arith}
use Rattle.std.specs.List.{prefix_len, onto_first}
use Rattle.std.proofs.lemmas.Grind.{common_steps}
use Rattle.cabal_text.specs.declared.tokens.Brackets.{Brackets}
use Rattle.cabal_text.specs.Tokens.{is_blank, is_word_char, goes_on, tokens_of, is_text, depth_after, ends_item}
use Rattle.cabal_text.specs.Tokens.{items_at, without_comma}
use Rattle.cabal_text.specs.Lead.{IsUnblank, item_len}

word_unblank : (b : ℕ) → is_word_char b ≡ true → is_blank b ≡ false
unfolding is_word_char
word_unblank b e = grind arith

-- a word at the front, by its length after the first character
abbrev IsWord : ℕ → List ℕ → ℕ → Type 0
IsWord b bs n = tokens_of (b ∷ bs) ≡ (b ∷ take n bs) ∷ tokens_of (drop n bs)

word_ends : (b : ℕ) (bs : List ℕ) → is_word_char b ≡ true → goes_on bs ≡ false → IsWord b bs 0
word_ends b bs e f = rw (word_unblank b e, e, f) refl

word_goes_on : (b c : ℕ) (cs : List ℕ) (n : ℕ) → is_word_char b ≡ true → is_word_char c ≡ true → IsWord c cs n
    → IsWord b (c ∷ cs) (1 + n)
word_goes_on b c cs n e f h =
    let more : take (1 + n) (c ∷ cs) ≡ c ∷ take n cs = grind (arith, common_steps) in
    let rest : drop (1 + n) (c ∷ cs) ≡ drop n cs = grind (arith, common_steps) in
    let word : tokens_of (b ∷ c ∷ cs) ≡ onto_first b (tokens_of (c ∷ cs)) = rw (word_unblank b e, e, f) refl in
    rw (more, rest) (word ∙ ap (onto_first b) h)

word_at : (b c : ℕ) (cs : List ℕ) (r : Bool) → is_word_char b ≡ true → is_word_char c ≡ r
    → (is_word_char c ≡ true → IsWord c cs (prefix_len is_word_char cs))
    → IsWord b (c ∷ cs) (cond r (1 + prefix_len is_word_char cs) 0)
word_at b c cs true e f h = word_goes_on b c cs (prefix_len is_word_char cs) e f (h f)
word_at b c cs false e f h = word_ends b (c ∷ cs) e f

word_next : (bs : List ℕ) (b : ℕ) → is_word_char b ≡ true → IsWord b bs (prefix_len is_word_char bs)
word_next [] b e = word_ends b [] e refl
word_next (c ∷ cs) b e = word_at b c cs (is_word_char c) e refl (word_next cs c)

mark_next : (b : ℕ) (bs : List ℕ) → is_blank b ≡ false → is_word_char b ≡ false
    → tokens_of (b ∷ bs) ≡ (b ∷ []) ∷ tokens_of bs
mark_next b bs e f = rw (e, f) refl

one_at : (b : ℕ) (bs : List ℕ) (k : ℕ) (r : Bool) → is_blank b ≡ false → is_word_char b ≡ r
    → k ≡ max (cond r (1 + prefix_len is_word_char bs) 0) 1
    → tokens_of (b ∷ bs) ≡ take k (b ∷ bs) ∷ tokens_of (drop k (b ∷ bs))
one_at b bs k true e f l =
    let n : k ≡ 1 + prefix_len is_word_char bs = omega arith in
    let more : take (1 + prefix_len is_word_char bs) (b ∷ bs) ≡ b ∷ take (prefix_len is_word_char bs) bs =
    grind (arith, common_steps) in
    let rest : drop (1 + prefix_len is_word_char bs) (b ∷ bs) ≡ drop (prefix_len is_word_char bs) bs =
    grind (arith, common_steps) in
    rw (n, more, rest) (word_next bs b f)
one_at b bs k false e f l =
    let n : k ≡ 1 = omega arith in
    rw n (mark_next b bs e f)

-- the token at the front of a text that begins with no blank
pub token_next : (text : List ℕ) (k : ℕ) → 0 < length text → IsUnblank text → k ≡ max (prefix_len is_word_char text) 1
    → tokens_of text ≡ take k text ∷ tokens_of (drop k text)
token_next [] k h e l = absurd (omega arith)
token_next (b ∷ bs) k h e l = one_at b bs k (is_word_char b) e refl l

comma_is : (depth : ℕ) (token : List ℕ) → ends_item depth token ≡ true → is_text token (codes ",") ≡ true
unfolding ends_item
comma_is depth token e = grind arith

comma_shorter : (tokens : List (List ℕ)) → length (without_comma tokens) ≤ length tokens
comma_shorter [] = omega arith
comma_shorter (token ∷ tokens) = grind arith

abbrev IsItem : Brackets → ℕ → List (List ℕ) → ℕ → Type 0
IsItem brackets depth tokens n =
    0 < length tokens → (items_at brackets depth tokens ≡ take n tokens ∷ items_at brackets 0
    (without_comma (drop n tokens))) × (length (without_comma (drop n tokens)) < length tokens)

item_ends : (brackets : Brackets) (depth : ℕ) (token : List ℕ) (tokens : List (List ℕ)) → ends_item depth token ≡ true
    → IsItem brackets depth (token ∷ tokens) 0
item_ends brackets depth token tokens e h =
    let comma = comma_is depth token e in
    (rw (e, comma) refl, rw comma (omega arith))

item_goes_on : (brackets : Brackets) (depth : ℕ) (token : List ℕ) (tokens : List (List ℕ)) (n : ℕ)
    → ends_item depth token ≡ false
    → items_at brackets (depth_after brackets depth token) tokens ≡ take n tokens ∷ items_at brackets 0
    (without_comma (drop n tokens))
    → IsItem brackets depth (token ∷ tokens) (n + 1)
item_goes_on brackets depth token tokens n e i h =
    let more : take (n + 1) (token ∷ tokens) ≡ token ∷ take n tokens = grind (arith, common_steps) in
    let rest : drop (n + 1) (token ∷ tokens) ≡ drop n tokens = grind (arith, common_steps) in
    let short = comma_shorter (drop n tokens) in
    let less : length (drop n tokens) ≤ length tokens = grind (arith, common_steps) in
    (rw (more, rest, e) (ap (onto_first token) i), rw rest (omega arith))

item_last : (brackets : Brackets) (depth : ℕ) (token : List ℕ) → ends_item depth token ≡ false
    → IsItem brackets depth (token ∷ []) 1
item_last brackets depth token e h = (rw e refl, omega arith)

item_at : (brackets : Brackets) (depth : ℕ) (token : List ℕ) (tokens : List (List ℕ)) (r : Bool)
    → ends_item depth token ≡ r
    → IsItem brackets (depth_after brackets depth token) tokens
    (item_len brackets (depth_after brackets depth token) tokens)
    → IsItem brackets depth (token ∷ tokens) (cond r 0
    (item_len brackets (depth_after brackets depth token) tokens + 1))
item_at brackets depth token tokens true e h = item_ends brackets depth token tokens e
item_at brackets depth token [] false e h = item_last brackets depth token e
item_at brackets depth token (next ∷ tokens) false e h =
    item_goes_on brackets depth token (next ∷ tokens)
    (item_len brackets (depth_after brackets depth token) (next ∷ tokens)) e (h (omega arith)).0

item_from : (brackets : Brackets) (tokens : List (List ℕ)) (depth : ℕ)
    → IsItem brackets depth tokens (item_len brackets depth tokens)
item_from brackets [] depth = λ h. absurd (omega arith)
item_from brackets (token ∷ tokens) depth = item_at brackets depth token tokens (ends_item depth token) refl
    (item_from brackets tokens (depth_after brackets depth token))

-- the first item of a list
pub item_next : (brackets : Brackets) (tokens item rest after : List (List ℕ)) (k : ℕ) → 0 < length tokens
    → k ≡ item_len brackets 0 tokens → item ≡ take k tokens → rest ≡ drop k tokens
    → after ≡ without_comma rest → items_at brackets 0 tokens ≡ item ∷ items_at brackets 0 after
item_next brackets tokens item rest after k h e i r a = rw (i, a, r, e) (item_from brackets tokens 0 h).0

pub item_shorter : (brackets : Brackets) (tokens rest after : List (List ℕ)) (k : ℕ) → 0 < length tokens
    → k ≡ item_len brackets 0 tokens → rest ≡ drop k tokens
    → after ≡ without_comma rest → length after < length tokens
item_shorter brackets tokens rest after k h e r a = rw (a, r, e) (item_from brackets tokens 0 h).1
