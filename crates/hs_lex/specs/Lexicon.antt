-- The spellings of the pieces of a source: what bytes are, before the bytes that follow them (Haskell 2010 Report,
-- chapter 2).
use Rattle.std.specs.Prelude.{ℕ, zero, suc, Bool, true, false, not, ◌&&◌, ◌==◌, List, [], ◌∷◌, ◌++◌, length, drop}
use Rattle.std.specs.Prelude.{Option, Some, None, option_map, if◌then◌else◌}
use Rattle.std.specs.List.{prefix_len}
use Rattle.std.specs.Str.{is_utf8}
use Rattle.hs_tokens.specs.declared.token.TokenKind.TheVariants as t
use Rattle.hs_lex.specs.declared.class.Class.TheVariants as c
use Rattle.hs_lex.specs.declared.class.Start.{Start}
use Rattle.hs_lex.specs.declared.class.Start.TheVariants as s
use Rattle.hs_lex.specs.declared.kind.Kind.{Kind}
use Rattle.hs_lex.specs.declared.kind.Kind.TheVariants as k
use Rattle.hs_lex.specs.Classes.{from_to, is_in, all, begins, is_empty, start_of}
use Rattle.hs_lex.specs.Words.{word_kind, operator, symbol_kind, is_plain_word, is_plain_symbol}
use Rattle.hs_lex.specs.Numbers.{only, numeral, number_kind}
use Rattle.hs_lex.specs.Literals.{more_by, string_len, char_len}

-- a comment or literal is UTF-8
abbrev pub checked : List ℕ → Kind → Kind
checked w kind = if is_utf8 w then kind else k.Broken

-- The last part of a qualified name: a whole run of its characters, and nothing reserved.
abbrev pub last_part : Start → List ℕ → List ℕ → List ℕ → Option Kind
last_part s.Small w bs rest = only ((all (is_in c.Name) bs && not (begins (is_in c.Name) rest)) && is_plain_word w)
    (k.Token t.Var)
last_part s.Symbol w bs rest = only ((all (is_in c.Symbol) bs && not (begins (is_in c.Symbol) rest))
    && is_plain_symbol w) (operator w)
last_part _ w bs rest = None

-- Behind the first letter of a name that begins with a capital: the rest of a constructor's or a module's name, and
-- behind a dot
-- (`dotted`) one more such part or the last one.
abbrev pub capital : Bool → List ℕ → List ℕ → Option Kind
capital false [] rest = Some (k.Token t.Con)
capital true [] rest = None
capital false (b ∷ bs) rest = if is_in c.Name b then capital false bs rest else
    (if b == 46 then capital true bs rest else None)
capital true (b ∷ bs) rest = if from_to 65 90 b then capital false bs rest else last_part (start_of b) (b ∷ bs) bs rest

-- two dashes or more that no symbol character follows
abbrev pub is_dashed : ℕ → List ℕ → Bool
is_dashed b text = (b == 45 && begins (is_in c.Dash) text) && not
    (begins (is_in c.Symbol) (drop (prefix_len (is_in c.Dash) text) text))

-- a comment to the end of the line, or a symbol
abbrev pub symbolic : ℕ → List ℕ → List ℕ → Option Kind
symbolic b bs rest =
    if is_dashed b (bs ++ rest) then only (length bs == prefix_len (is_in c.Line) (bs ++ rest))
    (checked (b ∷ bs) k.Comment)
    else only (all (is_in c.Symbol) bs) (symbol_kind (b ∷ bs))

-- The length of a nested comment behind its `{-`, where so many comments are open: up to and with the `-}` that closes
-- the first.
abbrev pub nested_len : ℕ → List ℕ → Option ℕ
nested_len zero bs = Some 0
nested_len (suc d) [] = None
nested_len (suc d) (b ∷ []) = None
nested_len (suc d) (b ∷ c ∷ bs) =
    if b == 123 && c == 45 then more_by 2 (nested_len (suc (suc d)) bs)
    else (if b == 45 && c == 125 then more_by 2 (nested_len d bs) else more_by 1 (nested_len (suc d) (c ∷ bs)))

-- the length of a nested comment behind its `{`
abbrev pub comment_len : List ℕ → Option ℕ
comment_len bs = more_by 1 (nested_len 1 (drop 1 bs))

-- a comment that ends, or one that goes on to the end of the file
abbrev pub commented : Option ℕ → ℕ → List ℕ → List ℕ → Option Kind
commented None b bs rest = only (is_empty rest) k.Broken
commented (Some n) b bs rest = only (length bs == n) (checked (b ∷ bs) k.Comment)

-- a `{`, or a nested comment
abbrev pub braced : ℕ → List ℕ → List ℕ → Option Kind
braced b bs rest =
    if begins (is_in c.Dash) (bs ++ rest) then commented (comment_len (bs ++ rest)) b bs rest else only (is_empty bs)
    (k.Token t.Special)

-- a literal that ends, or its quote alone
abbrev pub quoted : Option ℕ → Kind → ℕ → List ℕ → Option Kind
quoted None kind b bs = only (is_empty bs) k.Broken
quoted (Some n) kind b bs = only (length bs == n) (checked (b ∷ bs) kind)

-- a first byte and the bytes behind it
abbrev pub kind_by : Start → ℕ → List ℕ → List ℕ → Option Kind
kind_by s.Small b bs rest = only (all (is_in c.Name) bs) (word_kind (b ∷ bs))
kind_by s.Large b bs rest = capital false bs rest
kind_by s.Digit b bs rest = option_map (number_kind (b ∷ bs)) (numeral b bs)
kind_by s.White b bs rest = only (is_empty bs) k.White
kind_by s.Brace b bs rest = braced b bs rest
kind_by s.Special b bs rest = only (is_empty bs) (k.Token t.Special)
kind_by s.Symbol b bs rest = symbolic b bs rest
kind_by s.Quote b bs rest = quoted (char_len (bs ++ rest)) (k.Token t.Char) b bs
kind_by s.DoubleQuote b bs rest = quoted (string_len 0 (bs ++ rest)) (k.Token t.Text) b bs
kind_by s.Other b bs rest = only (is_empty bs) k.Broken

-- the kind of piece that the bytes are before the rest of the source, if they are one
abbrev pub kind_of : List ℕ → List ℕ → Option Kind
kind_of [] rest = None
kind_of (b ∷ bs) rest = kind_by (start_of b) b bs rest
