-- The lines of a file and the blocks that their indents make.
use Rattle.std.specs.Prelude.{ℕ, ◌+◌, Bool, List, [], ◌∷◌, length, drop, codes, nat_lt, ◌==◌, ◌||◌, if◌then◌else◌}
use Rattle.std.specs.List.{prefix_len, take_while, starts_with}
use Rattle.std.specs.Str.Lines.{lines}
use Rattle.cabal_text.specs.Characters.{is_space}
use Rattle.cabal_text.specs.declared.lines.Line.{Line}

-- how many spaces a text begins with
unfoldable pub indent_of : List ℕ → ℕ
indent_of text = prefix_len is_space text

-- the text behind them
abbrev pub unindented : List ℕ → List ℕ
unindented text = drop (indent_of text) text

-- the line is blank or a comment
unfoldable pub is_dropped : List ℕ → Bool
is_dropped text = (length (unindented text) == 0) || starts_with ◌==◌ (unindented text) (codes "--")

-- the line of this number
abbrev pub line_at : ℕ → List ℕ → Line
line_at number text = record { number = number; indent = indent_of text; text = unindented text }

-- the lines that aren't dropped, where the first has this number
abbrev pub kept_from : ℕ → List (List ℕ) → List Line
kept_from n [] = []
kept_from n (text ∷ texts) = if is_dropped text then kept_from (n + 1) texts else line_at n text ∷ kept_from
    (n + 1) texts

-- the lines of a file that aren't dropped
abbrev pub kept_lines : List ℕ → List Line
kept_lines bytes = kept_from 1 (lines bytes)

-- a line and the deeper ones after it
pub record Block : Type 0 where
  pub line : Line
  pub deeper : List Line

-- the lines at the front that are deeper than the indent
abbrev pub deeper_than : ℕ → List Line → List Line
deeper_than indent ls = take_while (λ l. nat_lt indent l.indent) ls

-- each line of the indent, with the deeper ones after it
abbrev pub blocks : ℕ → List Line → List Block
blocks indent [] = []
blocks indent (l ∷ ls) = if l.indent == indent then record {
  line = l;
  deeper = deeper_than indent ls;
} ∷ blocks indent ls else blocks indent ls
