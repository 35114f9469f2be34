-- Items of a list, one after another.
use Rattle.std.proofs.Common.{◌≡◌, ◌⊎◌, inl, inr, refl, sym, ap, ◌∙◌, ℕ, ◌+◌, ◌-◌, ◌<◌, ◌≤◌, true, not, List, [], ◌∷◌}
use Rattle.std.proofs.Common.{length, take, drop, get_or, nat_lt, arith}
use Rattle.std.specs.List.{prefix_len, slice_split, filter}
use Rattle.std.proofs.lemmas.Grind.{common_steps}
use Rattle.std.proofs.lemmas.List.{take_rest, drop_all}
use Rattle.std.proofs.lemmas.List.Splits.{slice_split-cons_yes}
use Rattle.cabal_text.specs.Characters.{is_gap}
use Rattle.cabal_text.specs.Fields.{items_of}
use Rattle.cabal_text.proofs.SplitLemmas.{split_whole, split_cut, split_stop}

abbrev parts_kept : List (List ℕ) → List (List ℕ)
parts_kept parts = filter (λ item. nat_lt 0 (length item)) parts

keep_first : (x : List ℕ) (parts : List (List ℕ)) → 0 < length x → parts_kept (x ∷ parts) ≡ x ∷ parts_kept parts
keep_first x parts h = grind (arith, common_steps)

pub items_none : (text : List ℕ) → length text ≡ 0 → items_of text ≡ []
unfolding items_of
items_none [] e = refl
items_none (b ∷ bs) e = absurd (omega arith)

-- a gap before the list
pub items_skip : (text : List ℕ) → 1 ≤ length text → is_gap (get_or text 0 0) ≡ true
    → items_of (take (length text - 1) (drop 1 text)) ≡ items_of text
unfolding items_of
items_skip [] h g = absurd (omega arith)
items_skip (b ∷ bs) h g = rw (take_rest (b ∷ bs) 1) (sym (ap parts_kept (slice_split-cons_yes is_gap b bs g)))

items_last : (text : List ℕ) (k : ℕ) → 0 < k → k ≡ prefix_len (λ b. not (is_gap b)) text → k ≡ length text
    → items_of text ≡ text ∷ []
unfolding items_of
items_last text k h e f = ap parts_kept (split_whole is_gap text (cc)) ∙ keep_first text [] (omega arith)

items_more : (text : List ℕ) (k : ℕ) → 0 < k → k ≡ prefix_len (λ b. not (is_gap b)) text → k < length text
    → items_of text ≡ take k text ∷ items_of (drop k text)
unfolding items_of
items_more text k h e f =
    let n = prefix_len (λ b. not (is_gap b)) text in
    let short : prefix_len (λ b. not (is_gap b)) text < length text = omega arith in
    let long : 0 < length (take k text) = grind (arith, common_steps) in
    let cut : parts_kept (slice_split is_gap text) ≡ parts_kept (take k text ∷ slice_split is_gap (drop (k + 1) text)) =
    rw e (ap parts_kept (split_cut is_gap text short)) in
    let stop : parts_kept (slice_split is_gap (drop k text)) ≡ parts_kept (slice_split is_gap (drop (k + 1) text)) =
    rw e (ap parts_kept (split_stop is_gap text short)) in
    cut ∙ keep_first (take k text) (slice_split is_gap (drop (k + 1) text)) long ∙ ap (◌∷◌ (take k text)) (sym stop)

take_whole : (text : List ℕ) (k : ℕ) → k ≡ length text → take k text ≡ text
take_whole text k e = grind (arith, common_steps)

next_by : (text : List ℕ) (k : ℕ) → 0 < k → k ≡ prefix_len (λ b. not (is_gap b)) text
    → (k ≡ length text) ⊎ (k < length text) → items_of text ≡ take k text ∷ items_of (drop k text)
next_by text k h e (inl f) =
    rw (take_whole text k f, items_none (drop k text) (ap length (drop_all k text (omega arith))))
    (items_last text k h e f)
next_by text k h e (inr f) = items_more text k h e f

-- the first item of a list that begins with no gap
pub items_next : (text : List ℕ) (k : ℕ) → 0 < k → k ≡ prefix_len (λ b. not (is_gap b)) text → k ≤ length text
    → items_of text ≡ take k text ∷ items_of (drop k text)
items_next text k h e w = next_by text k h e (grind arith)
