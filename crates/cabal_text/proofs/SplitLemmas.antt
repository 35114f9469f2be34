-- A list cut at the first element that passes.
use Rattle.std.proofs.Common.{◌≡◌, refl, ap, ◌∙◌, ℕ, ◌+◌, ◌-◌, ◌<◌, ◌≤◌, Bool, true, false, not, List, [], ◌∷◌, length}
use Rattle.std.proofs.Common.{take, drop, cond, ◌==◌, arith}
use Rattle.std.specs.List.{prefix_len, slice_split, onto_first}
use Rattle.std.specs.Str.Lines.{lines, lines_of_parts, strip_carriage_return}
use Rattle.std.proofs.lemmas.Grind.{common_steps}
use Rattle.std.proofs.lemmas.List.Splits.{slice_split-cons_yes, slice_split-cons_no}
use Rattle.std.proofs.lemmas.List.{take_rest, drop_all}

split_whole_step : (p : ℕ → Bool) (b : ℕ) (bs : List ℕ) (r : Bool) → p b ≡ r
    → (prefix_len (λ x. not (p x)) bs ≡ length bs → slice_split p bs ≡ bs ∷ [])
    → cond (not r) (1 + prefix_len (λ x. not (p x)) bs) 0 ≡ length (b ∷ bs) → slice_split p (b ∷ bs) ≡ (b ∷ bs) ∷ []
split_whole_step p b bs true e h l = grind arith
split_whole_step p b bs false e h l =
    let k : prefix_len (λ x. not (p x)) bs ≡ length bs = omega arith in
    slice_split-cons_no p b bs e ∙ ap (onto_first b) (h k)

pub split_whole : (p : ℕ → Bool) (text : List ℕ) → prefix_len (λ x. not (p x)) text ≡ length text
    → slice_split p text ≡ text ∷ []
split_whole p [] l = refl
split_whole p (b ∷ bs) l = split_whole_step p b bs (p b) refl (split_whole p bs) l

-- the first part and the rest
abbrev pub Cuts : (ℕ → Bool) → ℕ → List ℕ → Type 0
Cuts p n text = n < length text → slice_split p text ≡ take n text ∷ slice_split p (drop (n + 1) text)

take_one_more : (n b : ℕ) (bs : List ℕ) → take (1 + n) (b ∷ bs) ≡ b ∷ take n bs
take_one_more n b bs = grind (arith, common_steps)

drop_one_more : (n b : ℕ) (bs : List ℕ) → drop (1 + n + 1) (b ∷ bs) ≡ drop (n + 1) bs
drop_one_more n b bs = grind (arith, common_steps)

split_cut_step : (p : ℕ → Bool) (b : ℕ) (bs : List ℕ) (r : Bool) → p b ≡ r → Cuts p (prefix_len (λ x. not (p x)) bs) bs
    → Cuts p (cond (not r) (1 + prefix_len (λ x. not (p x)) bs) 0) (b ∷ bs)
split_cut_step p b bs true e h l = slice_split-cons_yes p b bs e
split_cut_step p b bs false e h l =
    let n = prefix_len (λ x. not (p x)) bs in
    let k : prefix_len (λ x. not (p x)) bs < length bs = omega arith in
    rw (take_one_more, drop_one_more) (slice_split-cons_no p b bs e ∙ ap (onto_first b) (h k))

pub split_cut : (p : ℕ → Bool) (text : List ℕ) → Cuts p (prefix_len (λ x. not (p x)) text) text
split_cut p [] l = absurd (omega arith)
split_cut p (b ∷ bs) l = split_cut_step p b bs (p b) refl (split_cut p bs) l

onto_step : (x : List ℕ) (b : ℕ) (parts : List (List ℕ))
    → lines_of_parts (x ∷ onto_first b parts) ≡ strip_carriage_return x ∷ lines_of_parts (onto_first b parts)
onto_step x b [] = refl
onto_step x b (y ∷ parts) = refl

parts_step_at : (x : List ℕ) (p : ℕ → Bool) (b : ℕ) (bs : List ℕ) (r : Bool) →
    lines_of_parts (x ∷ cond r ([] ∷ slice_split p bs) (onto_first b (slice_split p bs)))
    ≡ strip_carriage_return x ∷ lines_of_parts (cond r ([] ∷ slice_split p bs) (onto_first b (slice_split p bs)))
parts_step_at x p b bs true = refl
parts_step_at x p b bs false = onto_step x b (slice_split p bs)

parts_step : (x : List ℕ) (p : ℕ → Bool) (rest : List ℕ)
    → lines_of_parts (x ∷ slice_split p rest) ≡ strip_carriage_return x ∷ lines_of_parts (slice_split p rest)
parts_step x p [] = refl
parts_step x p (b ∷ bs) = parts_step_at x p b bs (p b)

single : (b : ℕ) (bs : List ℕ) → lines_of_parts ((b ∷ bs) ∷ []) ≡ (b ∷ bs) ∷ []
single b bs = grind (arith, common_steps)

-- a text without a line feed is one line
pub one_line : (text : List ℕ) → 0 < length text → prefix_len (λ b. not (b == 10)) text ≡ length text
    → lines text ≡ text ∷ []
one_line [] h l = absurd (omega arith)
one_line (b ∷ bs) h l = ap lines_of_parts (split_whole (λ x. x == 10) (b ∷ bs) l) ∙ single b bs

-- the first line of a text with a line feed
pub more_lines : (text : List ℕ) → prefix_len (λ b. not (b == 10)) text < length text
    → lines text ≡ strip_carriage_return (take (prefix_len (λ b. not (b == 10)) text) text) ∷ lines
    (drop (prefix_len (λ b. not (b == 10)) text + 1) text)
more_lines text l =
    ap lines_of_parts (split_cut (λ x. x == 10) text l)
    ∙ parts_step (take (prefix_len (λ b. not (b == 10)) text) text) (λ x. x == 10)
    (drop (prefix_len (λ b. not (b == 10)) text + 1) text)

-- at the cut stands an empty part
abbrev pub Stops : (ℕ → Bool) → ℕ → List ℕ → Type 0
Stops p n text = n < length text → slice_split p (drop n text) ≡ [] ∷ slice_split p (drop (n + 1) text)

drop_one : (n b : ℕ) (bs : List ℕ) → drop (1 + n) (b ∷ bs) ≡ drop n bs
drop_one n b bs = grind (arith, common_steps)

split_stop_step : (p : ℕ → Bool) (b : ℕ) (bs : List ℕ) (r : Bool) → p b ≡ r
    → Stops p (prefix_len (λ x. not (p x)) bs) bs
    → Stops p (cond (not r) (1 + prefix_len (λ x. not (p x)) bs) 0) (b ∷ bs)
split_stop_step p b bs true e h l = slice_split-cons_yes p b bs e
split_stop_step p b bs false e h l =
    let n = prefix_len (λ x. not (p x)) bs in
    let k : prefix_len (λ x. not (p x)) bs < length bs = omega arith in
    rw (drop_one, drop_one_more) (h k)

pub split_stop : (p : ℕ → Bool) (text : List ℕ) → Stops p (prefix_len (λ x. not (p x)) text) text
split_stop p [] l = absurd (omega arith)
split_stop p (b ∷ bs) l = split_stop_step p b bs (p b) refl (split_stop p bs) l

-- the last line of a text
pub last_line : (text : List ℕ) (k : ℕ) → 0 < length text → k ≡ prefix_len (λ b. not (b == 10)) text → k ≡ length text
    → lines text ≡ text ∷ lines (take (length text - k) (drop k text))
last_line text k h e f =
    let none : take (length text - k) (drop k text) ≡ [] = take_rest text k ∙ drop_all k text (omega arith) in
    rw none (one_line text h (cc))

-- a line that others follow
pub next_line : (text line : List ℕ) (k : ℕ) → k ≡ prefix_len (λ b. not (b == 10)) text → k ≤ length text
    → (k ≡ length text → ⊥)
    → line ≡ strip_carriage_return (take k text) → lines text ≡ line ∷ lines
    (take (length text - (k + 1)) (drop (k + 1) text))
next_line text line k e w n l =
    let short : prefix_len (λ b. not (b == 10)) text < length text = omega arith in
    let m = more_lines text short in
    rw (take_rest text (k + 1), l, e) m
