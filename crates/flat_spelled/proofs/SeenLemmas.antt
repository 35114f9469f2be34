-- What is seen of marks, form by form.
use Rattle.std.proofs.Common.{◌≡◌, ℕ, suc, zero, List, [], ◌∷◌, ◌++◌, map, refl, ap, ◌∙◌}
use Rattle.std.specs.Prelude.{replicate}
use Rattle.std.specs.List.{flat_map}
use Rattle.hs_tokens.specs.declared.terminal.Terminal.{Terminal}
use Rattle.hs_tokens.specs.declared.terminal.Terminal.TheVariants as t
use Rattle.flat_text.specs.Marks.{Mark, Marks, seen, space, bracketed, listed, led, spaced}

abbrev pub Ts : Type 0
Ts = List Terminal

pub seen_both : (xs ys : Marks) → seen (xs ++ ys) ≡ seen xs ++ seen ys
seen_both [] ys = refl
seen_both (Mark.blank b ∷ xs) ys = seen_both xs ys
seen_both (Mark.word x ∷ xs) ys = ap (λ r. x ∷ r) (seen_both xs ys)

pub seen_brackets : (ms : Marks) → seen (bracketed ms) ≡ t.LeftParen ∷ (seen ms ++ t.RightParen ∷ [])
seen_brackets ms = ap (λ r. t.LeftParen ∷ r) (seen_both ms (Mark.word t.RightParen ∷ []))

pub seen_listed : (ms : Marks) → seen (listed ms) ≡ t.LeftBracket ∷ (seen ms ++ t.RightBracket ∷ [])
seen_listed ms = ap (λ r. t.LeftBracket ∷ r) (seen_both ms (Mark.word t.RightBracket ∷ []))

pub seen_spaced : (parts : List Marks) → seen (spaced parts) ≡ flat_map (λ (part : Ts). part) (map seen parts)
seen_spaced [] = refl
seen_spaced (part ∷ parts) = seen_both part (spaced parts) ∙ ap (λ r. seen part ++ r) (seen_spaced parts)

-- parts behind a terminal and a space each
pub seen_more : (x : Terminal) (parts : List Marks)
    → seen (led (Mark.word x ∷ space ∷ []) (Mark.word x ∷ space ∷ []) parts) ≡ flat_map (λ (part : Ts). x ∷ part)
    (map seen parts)
seen_more x [] = refl
seen_more x (part ∷ parts) =
    ap (λ r. x ∷ r) (seen_both part (led (Mark.word x ∷ space ∷ []) (Mark.word x ∷ space ∷ []) parts)
    ∙ ap (λ r. seen part ++ r) (seen_more x parts))

-- parts between such
pub seen_parts : (x : Terminal) (part : Marks) (parts : List Marks)
    → seen (led [] (Mark.word x ∷ space ∷ []) (part ∷ parts)) ≡ seen part
    ++ flat_map (λ (it : Ts). x ∷ it) (map seen parts)
seen_parts x part parts =
    seen_both part (led (Mark.word x ∷ space ∷ []) (Mark.word x ∷ space ∷ []) parts)
    ∙ ap (λ r. seen part ++ r) (seen_more x parts)

pub seen_commas : (count : ℕ) → seen (replicate count (Mark.word t.Comma)) ≡ replicate count t.Comma
seen_commas zero = refl
seen_commas (suc count) = ap (λ r. t.Comma ∷ r) (seen_commas count)
