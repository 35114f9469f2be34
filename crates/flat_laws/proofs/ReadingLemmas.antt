-- A text of lawful marks is read as its terminals.
use Rattle.std.proofs.Common.{◌≡◌, Bool, true, false, List, [], ◌∷◌, map, refl, ap, ◌∙◌}
use Rattle.hs_tokens.specs.declared.token.Token.{Token}
use Rattle.hs_tokens.specs.declared.terminal.Terminal.{Terminal}
use Rattle.hs_tokens.specs.Terminals.{terminal_by, terminal_of}
use Rattle.hs_lex.specs.Classes.{start_of}
use Rattle.flat_lex.specs.Pieces.{IsPiece, ArePieces, Lexeme, lexeme_of, lexemes_of}
use Rattle.flat_lex.proofs.LexemeLemmas.{lexed}
use Rattle.flat_lex.proofs.PieceLemmas.{white_piece}
use Rattle.flat_text.specs.Marks.{Mark, Marks, Blank, seen, piece_of, pieces_of}
use Rattle.flat_laws.specs.Reading.{IsLawful, is_fixed, AreLawful, MarksAreRead}
use Rattle.flat_laws.proofs.LawfulLemmas.{fixed_lawful}

abbrev terminal_of_lexeme : Lexeme → Terminal
terminal_of_lexeme it = terminal_by it.kind it.text

white_blank : (b : Blank) → IsPiece (piece_of (Mark.blank b))
unfolding start_of
white_blank Blank.gap = white_piece 32 refl
white_blank Blank.line = white_piece 10 refl

each_lawful : (fixed : Bool) (x : Terminal) → is_fixed x ≡ fixed → (is_fixed x ≡ false → IsLawful x) → IsLawful x
each_lawful true x is h = fixed_lawful x is
each_lawful false x is h = h is

-- lawful marks are pieces
are_pieces : (ms : Marks) → AreLawful (seen ms) → ArePieces (pieces_of ms)
are_pieces [] lawful = tt
are_pieces (Mark.blank b ∷ ms) lawful = (white_blank b, are_pieces ms lawful)
are_pieces (Mark.word x ∷ ms) lawful = ((each_lawful (is_fixed x) x refl lawful.0).piece, are_pieces ms lawful.1)

-- their lexemes are their terminals
told : (ms : Marks) → AreLawful (seen ms) → map terminal_of_lexeme (lexemes_of (pieces_of ms)) ≡ seen ms
told [] lawful = refl
told (Mark.blank b ∷ ms) lawful = told ms lawful
told (Mark.word x ∷ ms) lawful = λ i. (each_lawful (is_fixed x) x refl lawful.0).terminal i ∷ told ms lawful.1 i

-- a token's terminal is that of its lexeme
twice : (tokens : List Token) → map terminal_of tokens ≡ map terminal_of_lexeme (map lexeme_of tokens)
twice [] = refl
twice (token ∷ tokens) = ap (λ r. terminal_of token ∷ r) (twice tokens)

pub marks_read : MarksAreRead
marks_read ms lawful spaced =
    let r = lexed (pieces_of ms) (are_pieces ms lawful) spaced in
    record {
      tokens = r.tokens;
      covered = r.covered;
      terminals_are = twice r.tokens ∙ ap (map terminal_of_lexeme) r.lexemes_are ∙ told ms lawful;
    }
