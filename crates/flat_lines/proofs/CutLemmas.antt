-- Texts of which no line begins with `}`, by their bytes and by their marks.
use Rattle.std.proofs.Common.{◌≡◌, ℕ, Bool, true, false, List, [], ◌∷◌, ◌++◌, map, refl, ap, ◌∙◌}
use Rattle.std.specs.Prelude.{not, ◌&&◌, ◌||◌, ◌==◌}
use Rattle.std.proofs.lemmas.Bool.{and_from, and_parts, not-true}
use Rattle.hs_forms.specs.Limits.{all_of}
use Rattle.flat_text.specs.Marks.{Blank, Mark, Marks, seen, shape_of}
use Rattle.flat_lines.specs.Lines.{put_before, put_by, cut_at, is_brace, has_no_line_end, starts_well, keeps_line}
use Rattle.flat_lines.specs.Lines.{bytes_of}

-- no line begins with `}`
abbrev quiet : Bool → List ℕ → Bool
quiet begins [] = true
quiet begins (b ∷ bs) = not (begins && b == 125) && quiet (b == 10) bs

-- whether a line begins behind the text
abbrev at_line : Bool → List ℕ → Bool
at_line begins [] = begins
at_line begins (b ∷ bs) = at_line (b == 10) bs

pub record Quiet (begins : Bool) (xs : List ℕ) (after : Bool) : Type 0 where
  pub is_quiet : quiet begins xs ≡ true
  pub ends : at_line begins xs ≡ after

abbrev put_all : List ℕ → List (List ℕ) → List (List ℕ)
put_all [] parts = parts
put_all (b ∷ bs) parts = put_before b (put_all bs parts)

put_first : (xs part : List ℕ) (parts : List (List ℕ)) → put_all xs (part ∷ parts) ≡ (xs ++ part) ∷ parts
put_first [] part parts = refl
put_first (b ∷ xs) part parts = ap (put_before b) (put_first xs part parts)

cut_byte : (v : Bool) (b : ℕ) (bs : List ℕ) → not v ≡ true
    → put_by ((false || v) && b == 10) b (cut_at (b == 10) ((false || v) && not (b == 10)) bs)
    ≡ put_before b (cut_at (b == 10) false bs)
cut_byte true b bs e = cc
cut_byte false b bs e = refl

cut_quiet : (begins : Bool) (xs ys : List ℕ) → quiet begins xs ≡ true
    → cut_at begins false (xs ++ ys) ≡ put_all xs (cut_at (at_line begins xs) false ys)
cut_quiet begins [] ys e = refl
cut_quiet begins (b ∷ xs) ys e =
    let both = and_parts (not (begins && b == 125)) (quiet (b == 10) xs) e in
    cut_byte (begins && b == 125) b (xs ++ ys) both.0 ∙ ap (put_before b) (cut_quiet (b == 10) xs ys both.1)

-- a text of which the last line alone begins with `}`
pub cut_once : (front rest : List ℕ) → Quiet true front true
    → cut_at true false (front ++ 125 ∷ 10 ∷ rest) ≡ (front ++ 125 ∷ 10 ∷ []) ∷ cut_at true false rest
cut_once front rest it =
    cut_quiet true front (125 ∷ 10 ∷ rest) it.is_quiet
    ∙ ap (λ v. put_all front (cut_at v false (125 ∷ 10 ∷ rest))) it.ends
    ∙ put_first front (125 ∷ 10 ∷ []) (cut_at true false rest)

pub quiet_append : (a b c : Bool) (xs ys : List ℕ) → Quiet a xs b → Quiet b ys c → Quiet a (xs ++ ys) c
quiet_append a b c [] ys it next = record {
  is_quiet = ap (λ v. quiet v ys) it.ends ∙ next.is_quiet;
  ends = ap (λ v. at_line v ys) it.ends ∙ next.ends;
}
quiet_append a b c (x ∷ xs) ys it next =
    let both = and_parts (not (a && x == 125)) (quiet (x == 10) xs) it.is_quiet in
    let rest = quiet_append (x == 10) b c xs ys (record { is_quiet = both.1; ends = it.ends }) next in
    record {
      is_quiet = and_from (not (a && x == 125)) (quiet (x == 10) (xs ++ ys)) both.0 rest.is_quiet;
      ends = rest.ends;
    }

-- ---- terminals

within : (xs : List ℕ) → has_no_line_end xs ≡ true → Quiet false xs false
within [] e = record { is_quiet = refl; ends = refl }
within (b ∷ xs) e =
    let both = and_parts (not (b == 10)) (has_no_line_end xs) e in
    let no = not-true (b == 10) both.0 in
    let rest = within xs both.1 in
    record {
      is_quiet = ap (λ v. quiet v xs) no ∙ rest.is_quiet;
      ends = ap (λ v. at_line v xs) no ∙ rest.ends;
    }

no_closing : (begins brace v : Bool) → not (begins && brace) ≡ true → brace || not v ≡ true
    → not (begins && v) ≡ true
no_closing false brace v e h = refl
no_closing true true v e h = cc
no_closing true false v e h = h

word_quiet : (begins brace : Bool) (xs : List ℕ) → not (begins && brace) ≡ true
    → has_no_line_end xs && starts_well brace xs ≡ true → Quiet begins xs false
word_quiet begins brace [] e h = cc
word_quiet begins brace (b ∷ xs) e h =
    let both = and_parts (has_no_line_end (b ∷ xs)) (starts_well brace (b ∷ xs)) h in
    let ends = and_parts (not (b == 10)) (has_no_line_end xs) both.0 in
    let no = not-true (b == 10) ends.0 in
    let rest = within xs ends.1 in
    record {
      is_quiet = and_from (not (begins && b == 125)) (quiet (b == 10) xs) (no_closing begins brace (b == 125) e both.1)
          (ap (λ v. quiet v xs) no ∙ rest.is_quiet);
      ends = ap (λ v. at_line v xs) no ∙ rest.ends;
    }

gap_quiet : (begins after : Bool) (xs : List ℕ) → Quiet false xs after → Quiet begins (32 ∷ xs) after
gap_quiet true after xs it = record { is_quiet = it.is_quiet; ends = it.ends }
gap_quiet false after xs it = record { is_quiet = it.is_quiet; ends = it.ends }

line_quiet : (begins after : Bool) (xs : List ℕ) → Quiet true xs after → Quiet begins (10 ∷ xs) after
line_quiet true after xs it = record { is_quiet = it.is_quiet; ends = it.ends }
line_quiet false after xs it = record { is_quiet = it.is_quiet; ends = it.ends }

-- ---- marks

-- no line begins with the mark `}`
abbrev pub fits : Bool → Marks → Bool
fits begins [] = true
fits begins (Mark.blank Blank.gap ∷ ms) = fits false ms
fits begins (Mark.blank Blank.line ∷ ms) = fits true ms
fits begins (Mark.word x ∷ ms) = not (begins && is_brace x) && fits false ms

abbrev pub lies : Bool → Marks → Bool
lies begins [] = begins
lies begins (Mark.blank Blank.gap ∷ ms) = lies false ms
lies begins (Mark.blank Blank.line ∷ ms) = lies true ms
lies begins (Mark.word x ∷ ms) = lies false ms

pub record Fits (begins : Bool) (ms : Marks) (after : Bool) : Type 0 where
  pub fit : fits begins ms ≡ true
  pub ends : lies begins ms ≡ after

pub fits_append : (a b c : Bool) (xs ys : Marks) → Fits a xs b → Fits b ys c → Fits a (xs ++ ys) c
fits_append a b c [] ys it next = record {
  fit = ap (λ v. fits v ys) it.ends ∙ next.fit;
  ends = ap (λ v. lies v ys) it.ends ∙ next.ends;
}
fits_append a b c (Mark.blank Blank.gap ∷ xs) ys it next =
    let rest = fits_append false b c xs ys (record { fit = it.fit; ends = it.ends }) next in
    record { fit = rest.fit; ends = rest.ends }
fits_append a b c (Mark.blank Blank.line ∷ xs) ys it next =
    let rest = fits_append true b c xs ys (record { fit = it.fit; ends = it.ends }) next in
    record { fit = rest.fit; ends = rest.ends }
fits_append a b c (Mark.word x ∷ xs) ys it next =
    let both = and_parts (not (a && is_brace x)) (fits false xs) it.fit in
    let rest = fits_append false b c xs ys (record { fit = both.1; ends = it.ends }) next in
    record {
      fit = and_from (not (a && is_brace x)) (fits false (xs ++ ys)) both.0 rest.fit;
      ends = rest.ends;
    }

-- what is said of marks holds of their bytes
pub marks_quiet : (begins : Bool) (ms : Marks) → fits begins ms ≡ true → all_of (map keeps_line (seen ms)) ≡ true
    → Quiet begins (bytes_of ms) (lies begins ms)
marks_quiet begins [] e h = record { is_quiet = refl; ends = refl }
marks_quiet begins (Mark.blank Blank.gap ∷ ms) e h =
    gap_quiet begins (lies false ms) (bytes_of ms) (marks_quiet false ms e h)
marks_quiet begins (Mark.blank Blank.line ∷ ms) e h =
    line_quiet begins (lies true ms) (bytes_of ms) (marks_quiet true ms e h)
marks_quiet begins (Mark.word x ∷ ms) e h =
    let both = and_parts (not (begins && is_brace x)) (fits false ms) e in
    let keeps = and_parts (keeps_line x) (all_of (map keeps_line (seen ms))) h in
    quiet_append begins false (lies false ms) (shape_of x).text (bytes_of ms)
    (word_quiet begins (is_brace x) (shape_of x).text both.0 keeps.0) (marks_quiet false ms both.1 keeps.1)

-- ---- marks of one line

abbrev pub is_one_line : Marks → Bool
is_one_line [] = true
is_one_line (Mark.blank Blank.gap ∷ ms) = is_one_line ms
is_one_line (Mark.blank Blank.line ∷ ms) = false
is_one_line (Mark.word x ∷ ms) = is_one_line ms

-- the first mark is no `}`
abbrev pub begins_well : Marks → Bool
begins_well [] = false
begins_well (Mark.blank b ∷ ms) = false
begins_well (Mark.word x ∷ ms) = not (is_brace x)

pub inner_fits : (ms : Marks) → is_one_line ms ≡ true → Fits false ms false
inner_fits [] e = record { fit = refl; ends = refl }
inner_fits (Mark.blank Blank.gap ∷ ms) e = let it = inner_fits ms e in record { fit = it.fit; ends = it.ends }
inner_fits (Mark.blank Blank.line ∷ ms) e = cc
inner_fits (Mark.word x ∷ ms) e = let it = inner_fits ms e in record { fit = it.fit; ends = it.ends }

pub first_fits : (ms : Marks) → is_one_line ms ≡ true → begins_well ms ≡ true → Fits true ms false
first_fits [] e h = cc
first_fits (Mark.blank b ∷ ms) e h = cc
first_fits (Mark.word x ∷ ms) e h =
    let it = inner_fits ms e in
    record { fit = and_from (not (is_brace x)) (fits false ms) h it.fit; ends = it.ends }
