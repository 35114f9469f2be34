-- The words that Haskell reserves (Haskell 2010 Report, section 2.4).
use Rattle.std.specs.Prelude.{ℕ, Bool, true, false, List, [], ◌∷◌, Option, codes}
use Rattle.std.specs.Str.{bytes_eq}
use Rattle.std.specs.Map.{lookup}
use Rattle.std.specs.Option.{option_or}
use Rattle.hs_tokens.specs.declared.word.Word.{Word}
use Rattle.hs_tokens.specs.declared.word.Word.TheVariants as w

-- the reserved words of declarations, those of expressions, and those of what this project leaves out, with their
-- letters
abbrev pub declaration_words : List (List ℕ × Word)
declaration_words =
    (codes "data", w.Data) ∷ (codes "import", w.Import) ∷ (codes "infix", w.Infix) ∷ (codes "infixl", w.Infixl)
    ∷ (codes "infixr", w.Infixr) ∷ (codes "module", w.Module) ∷ (codes "newtype", w.Newtype) ∷ (codes "type", w.Type)
    ∷ []

abbrev pub expression_words : List (List ℕ × Word)
expression_words =
    (codes "case", w.Case) ∷ (codes "else", w.Else) ∷ (codes "if", w.If) ∷ (codes "in", w.In) ∷ (codes "let", w.Let)
    ∷ (codes "of", w.Of) ∷ (codes "then", w.Then) ∷ (codes "where", w.Where) ∷ []

abbrev pub left_out_words : List (List ℕ × Word)
left_out_words =
    (codes "class", w.Class) ∷ (codes "default", w.Default) ∷ (codes "deriving", w.Deriving) ∷ (codes "do", w.Do)
    ∷ (codes "foreign", w.Foreign) ∷ (codes "instance", w.Instance) ∷ []

unfoldable pub declaration_word : List ℕ → Option Word
declaration_word text = lookup (bytes_eq text) declaration_words

unfoldable pub expression_word : List ℕ → Option Word
expression_word text = lookup (bytes_eq text) expression_words

unfoldable pub left_out_word : List ℕ → Option Word
left_out_word text = lookup (bytes_eq text) left_out_words

-- the reserved word that a text is
abbrev pub word_of : List ℕ → Option Word
word_of text = option_or (option_or (declaration_word text) (expression_word text)) (left_out_word text)

-- the words that begin what this project leaves out
abbrev pub is_left_out : Word → Bool
is_left_out w.Class = true
is_left_out w.Default = true
is_left_out w.Deriving = true
is_left_out w.Do = true
is_left_out w.Foreign = true
is_left_out w.Instance = true
is_left_out _ = false
