-- A text of pieces is cut into them, and its tokens are their lexemes.
use Rattle.std.proofs.Common.{◌≡◌, ℕ, Bool, true, false, ◌&&◌, List, [], ◌∷◌, ◌++◌, length, take, drop, map, refl}
use Rattle.std.proofs.Common.{sym, ap, ◌∙◌, subst}
use Rattle.std.proofs.lemmas.List.{take_at, drop_at, map-append}
use Rattle.hs_tokens.specs.declared.token.Token.{Token}
use Rattle.hs_lex.specs.declared.class.Start.{Start}
use Rattle.hs_lex.specs.declared.kind.Kind.{Kind}
use Rattle.hs_lex.specs.declared.kind.Kind.TheVariants as k
use Rattle.hs_lex.specs.Classes.{begins, start_of}
use Rattle.hs_lex.specs.Cover.{Cuts, Covered, is_sound, are_sound, tokens_of, token_of, column_behind, first_behind}
use Rattle.hs_lex.specs.Cover as v
use Rattle.flat_lex.specs.Pieces.{Piece, text_of, lexemes_by, lexemes_of, goes_on, joins, joins_first, IsSpaced}
use Rattle.flat_lex.specs.Pieces.{IsPiece, ArePieces, lexeme_of, IsRead, PiecesAreRead}
use Rattle.flat_lex.proofs.StartLemmas.{joined_byte}

-- what the lexer sees of a piece
abbrev cut : Piece → v.Piece
cut p = record { kind = p.kind; len = length p.text }

-- nothing goes on behind a piece
apart : (start : Start) (ps : List Piece) → ArePieces ps → joins_first start ps ≡ false
    → begins (goes_on start) (text_of ps) ≡ false
apart start [] are e = refl
apart start (p ∷ ps) are e =
    ap (λ text. begins (goes_on start) (text ++ text_of ps)) are.0.spelled
    ∙ joined_byte start are.0.first (ap (joins start) are.0.starts ∙ e)

cut_up : (ps : List Piece) → ArePieces ps → IsSpaced ps → Cuts (map cut ps) (text_of ps) []
cut_up [] are spaced = refl
cut_up (p ∷ ps) are spaced = (
  are.0.stands (text_of ps) (apart p.start ps are.1 spaced.0),
  subst (λ rest. Cuts (map cut ps) rest []) (sym (drop_at p.text (text_of ps) (length p.text) refl))
      (cut_up ps are.1 spaced.1),
)

sound : (ps : List Piece) → ArePieces ps → are_sound (map cut ps) ≡ true
sound [] are = refl
sound (p ∷ ps) are = ap (λ b. b && are_sound (map cut ps)) are.0.sound ∙ sound ps are.1

one_lexeme : (kind : Kind) (w : List ℕ) (offset column : ℕ) (first : Bool)
    → map lexeme_of (token_of kind w offset column first) ≡ lexemes_by kind w
one_lexeme (k.Token kind) w offset column first = refl
one_lexeme k.White w offset column first = refl
one_lexeme k.Comment w offset column first = refl
one_lexeme k.LeftOut w offset column first = refl
one_lexeme k.Broken w offset column first = refl

lexemes : (before : List ℕ) (first : Bool) (ps : List Piece)
    → map lexeme_of (tokens_of before first (map cut ps) (text_of ps)) ≡ lexemes_of ps
lexemes before first [] = refl
lexemes before first (p ∷ ps) =
    let w = take (length p.text) (p.text ++ text_of ps) in
    map-append lexeme_of (token_of p.kind w (length before) (column_behind 1 before) first)
    (tokens_of (before ++ w) (first_behind first p.kind w) (map cut ps)
    (drop (length p.text) (p.text ++ text_of ps)))
    ∙ ap (λ front. front ++ map lexeme_of (tokens_of (before ++ w) (first_behind first p.kind w) (map cut ps)
    (drop (length p.text) (p.text ++ text_of ps))))
    (one_lexeme p.kind w (length before) (column_behind 1 before) first
    ∙ ap (lexemes_by p.kind) (take_at p.text (text_of ps) (length p.text) refl))
    ∙ ap (λ rest. lexemes_by p.kind p.text ++ rest)
    (ap (λ rest. map lexeme_of (tokens_of (before ++ w) (first_behind first p.kind w) (map cut ps) rest))
    (drop_at p.text (text_of ps) (length p.text) refl)
    ∙ lexemes (before ++ w) (first_behind first p.kind w) ps)

pub lexed : PiecesAreRead
lexed ps are spaced = record {
  tokens = tokens_of [] true (map cut ps) (text_of ps);
  covered = record { pieces = map cut ps; cuts = cut_up ps are spaced; sound = sound ps are; told = refl };
  lexemes_are = lexemes [] true ps;
}
