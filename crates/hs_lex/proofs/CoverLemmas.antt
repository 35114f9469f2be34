-- The pieces so far, and that one list of pieces covers a text.
use Rattle.std.proofs.Common.{◌≡◌, ℕ, ◌+◌, ◌<◌, Bool, true, List, [], ◌∷◌, ◌++◌, length, take, drop, refl, sym, ap, ◌∙◌}
use Rattle.std.proofs.Common.{subst, append_assoc, arith, Err, length-append}
use Rattle.std.specs.Prelude.{◌&&◌}
use Rattle.std.proofs.lemmas.List.{append-nil, take-append-drop}
use Rattle.std.proofs.lemmas.List.Sums.{fold-append}
use Rattle.hs_tokens.specs.declared.token.Token.{Token}
use Rattle.hs_lex.specs.declared.kind.Kind.{Kind}
use Rattle.hs_lex.specs.declared.kind.Kind.TheVariants as k
use Rattle.hs_lex.specs.declared.reader.LexError.{LexError}
use Rattle.hs_lex.specs.declared.reader.LexError.TheVariants as e
use Rattle.hs_lex.specs.Lexicon.{kind_of}
use Rattle.hs_lex.specs.Longest.{Longest}
use Rattle.hs_lex.specs.Cover.{Piece, Cuts, is_sound, are_sound, next_column, column_behind, first_behind, token_of}
use Rattle.hs_lex.specs.Cover.{tokens_of, Covered, Stops, Lexes, IsRefusedAs}

-- The pieces before what is left, and the tokens that they gave.
pub record SoFar (bytes left : List ℕ) (tokens : List Token) (offset column : ℕ) (first : Bool) : Type 0 where
  pub pieces : List Piece
  pub before : List ℕ
  pub split : before ++ left ≡ bytes
  pub place : offset ≡ length before
  pub level : column ≡ column_behind 1 before
  pub cuts : (qs : List Piece) (rest : List ℕ) → Cuts qs left rest → Cuts (pieces ++ qs) bytes rest
  pub sound : (qs : List Piece) → are_sound qs ≡ true → are_sound (pieces ++ qs) ≡ true
  pub told : (qs : List Piece) → tokens_of [] true (pieces ++ qs) bytes ≡ tokens ++ tokens_of before first qs left

pub so_far_none : (bytes : List ℕ) → SoFar bytes bytes [] 0 1 true
so_far_none bytes = record {
  pieces = [];
  before = [];
  split = refl;
  place = refl;
  level = refl;
  cuts = λ qs rest h. h;
  sound = λ qs h. h;
  told = λ qs. refl;
}

one_sound : (kind : Kind) (n : ℕ) (qs : List Piece) → is_sound kind ≡ true → are_sound qs ≡ true
    → are_sound (record { kind = kind; len = n } ∷ qs) ≡ true
one_sound kind n qs ok h = ap (λ v. v && are_sound qs) ok ∙ h

pub so_far_more : (bytes left left' text : List ℕ) (tokens tokens' : List Token) (offset offset' column column' : ℕ)
    (first first' : Bool) (kind : Kind) (n : ℕ) →
    SoFar bytes left tokens offset column first → 0 < n → Longest kind_of left kind n → is_sound kind ≡ true →
    text ≡ take n left → left' ≡ drop n left → tokens' ≡ tokens ++ token_of kind text offset column first
    → offset' ≡ offset + length text →
    column' ≡ column_behind column text → first' ≡ first_behind first kind text
    → SoFar bytes left' tokens' offset' column' first'
so_far_more bytes left left' text tokens tokens' offset offset' column column' first first' kind n s some longest ok t d
    more off col fir =
    let p : Piece = record { kind = kind; len = n } in
    record {
      pieces = s.pieces ++ p ∷ [];
      before = s.before ++ text;
      split = ap (λ l. (s.before ++ text) ++ l) d ∙ append_assoc s.before text (drop n left)
          ∙ ap (λ l. s.before ++ (l ++ drop n left)) t
          ∙ ap (λ l. s.before ++ l) (take-append-drop n left) ∙ s.split;
      place = off ∙ ap (λ m. m + length text) s.place ∙ sym (length-append s.before text);
      level = col ∙ ap (λ m. column_behind m text) s.level ∙ sym (fold-append next_column 1 s.before text);
      cuts = λ qs rest h.
          subst (λ l. Cuts l bytes rest) (sym (append_assoc s.pieces (p ∷ []) qs))
          (s.cuts (p ∷ qs) rest (record { some = some; longest = longest }, subst (λ l. Cuts qs l rest) d h));
      sound = λ qs h. ap are_sound (append_assoc s.pieces (p ∷ []) qs) ∙ s.sound (p ∷ qs) (one_sound kind n qs ok h);
      told = λ qs.
          ap (λ l. tokens_of [] true l bytes) (append_assoc s.pieces (p ∷ []) qs) ∙ s.told (p ∷ qs)
          ∙ ap (λ l. tokens ++ (token_of kind l (length s.before) (column_behind 1 s.before) first
          ++ tokens_of (s.before ++ l) (first_behind first kind l) qs (drop n left))) (sym t)
          ∙ ap (λ m. tokens ++ (token_of kind text m (column_behind 1 s.before) first
          ++ tokens_of (s.before ++ text) (first_behind first kind text) qs (drop n left))) (sym s.place)
          ∙ ap (λ m. tokens ++ (token_of kind text offset m first
          ++ tokens_of (s.before ++ text) (first_behind first kind text) qs (drop n left))) (sym s.level)
          ∙ ap (λ m. tokens ++ (token_of kind text offset column first
          ++ tokens_of (s.before ++ text) m qs (drop n left))) (sym fir)
          ∙ ap (λ l. tokens ++ (token_of kind text offset column first ++ tokens_of (s.before ++ text) first' qs l))
          (sym d)
          ∙ sym (append_assoc tokens (token_of kind text offset column first)
          (tokens_of (s.before ++ text) first' qs left'))
          ∙ ap (λ l. l ++ tokens_of (s.before ++ text) first' qs left') (sym more);
    }

pub so_far_all : (bytes left : List ℕ) (tokens : List Token) (offset column : ℕ) (first : Bool)
    → SoFar bytes left tokens offset column first → length left ≡ 0 → Covered bytes tokens
so_far_all bytes [] tokens offset column first s e = record {
  pieces = s.pieces;
  cuts = subst (λ l. Cuts l bytes []) (append-nil s.pieces) (s.cuts [] [] refl);
  sound = ap are_sound (sym (append-nil s.pieces)) ∙ s.sound [] refl;
  told = sym (ap (λ l. tokens_of [] true l bytes) (sym (append-nil s.pieces)) ∙ s.told [] ∙ append-nil tokens);
}
so_far_all bytes (x ∷ left) tokens offset column first s e = absurd (omega arith)

pub so_far_stops : (bytes left : List ℕ) (tokens : List Token) (offset column : ℕ) (first : Bool) (kind : Kind) (n : ℕ)
    → SoFar bytes left tokens offset column first →
    0 < n → Longest kind_of left kind n → Stops kind bytes offset
so_far_stops bytes left tokens offset column first kind n s some longest = record {
  pieces = s.pieces;
  rest = left;
  len = n;
  cuts = subst (λ l. Cuts l bytes left) (append-nil s.pieces) (s.cuts [] left refl);
  sound = ap are_sound (sym (append-nil s.pieces)) ∙ s.sound [] refl;
  stands = record { some = some; longest = longest };
  place = omega (arith, s.place, length-append s.before left, ap length s.split);
}

pub refused : (bytes left : List ℕ) (tokens : List Token) (offset column : ℕ) (first : Bool) (kind : Kind) (n : ℕ)
    (error : LexError) →
    SoFar bytes left tokens offset column first → 0 < n → Longest kind_of left kind n → IsRefusedAs kind offset error
    → Lexes bytes (Err error)
refused bytes left tokens offset column first kind n (e.Lexical at) s some longest r =
    subst (λ m. Stops k.Broken bytes m) (sym r.1) (so_far_stops bytes left tokens offset column first k.Broken n s some
    (subst (λ x. Longest kind_of left x n) r.0 longest))
refused bytes left tokens offset column first kind n (e.LeftOut at) s some longest r =
    subst (λ m. Stops k.LeftOut bytes m) (sym r.1)
    (so_far_stops bytes left tokens offset column first k.LeftOut n s some
    (subst (λ x. Longest kind_of left x n) r.0 longest))
refused bytes left tokens offset column first kind n e.NoMemory s some longest r = tt
