-- What the readers of qualified names find.
use Rattle.std.specs.Prelude.{◌≡◌, ℕ, ◌+◌, ◌<◌, ◌≤◌, false, List, ◌∷◌, length, drop, Option, Some, None}
use Rattle.hs_tokens.specs.declared.token.TokenKind.TheVariants as t
use Rattle.hs_lex.specs.declared.class.Class.TheVariants as c
use Rattle.hs_lex.specs.declared.class.Start.{Start}
use Rattle.hs_lex.specs.declared.kind.Kind.{Kind}
use Rattle.hs_lex.specs.declared.kind.Kind.TheVariants as k
use Rattle.hs_lex.specs.declared.kind.Part.{Part}
use Rattle.hs_lex.specs.declared.kind.Part.TheVariants as p
use Rattle.hs_lex.specs.Classes.{is_in, begins, start_of}
use Rattle.hs_lex.specs.Lexicon.{capital, last_part}
use Rattle.hs_lex.specs.Longest.{Spelling, Longest, Never}

-- a last part of a qualified name behind its first byte
abbrev pub last_by : Start → ℕ → Spelling Kind
last_by start b ys rest = last_part start (b ∷ ys) ys rest

-- the last part behind its first byte is the longest, or there is none
abbrev pub IsLast : ℕ → List ℕ → Option (Kind × ℕ) → Type 0
IsLast b bs None = Never (last_by (start_of b) b) bs
IsLast b bs (Some found) = Longest (last_by (start_of b) b) bs found.0 found.1

-- the bytes of one more part: what stands behind them goes on with the name
pub record IsMore (bs : List ℕ) (n : ℕ) : Type 0 where
  pub within : n ≤ length bs
  pub some : 0 < n
  pub whole : begins (is_in c.Name) (drop n bs) ≡ false
  pub joins : (kind : Kind) (m : ℕ) → Longest (capital false) (drop n bs) kind m
      → Longest (capital false) bs kind (n + m)

abbrev pub IsPart : List ℕ → Part → Type 0
IsPart bs p.End = Longest (capital false) bs (k.Token t.Con) 0
IsPart bs (p.More n) = IsMore bs n
IsPart bs (p.Last kind n) = Longest (capital false) bs kind n
