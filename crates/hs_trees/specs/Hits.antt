-- Where a pattern before `<-` can end (Haskell 2010 Report, section 3.13: a guard is a pattern, `<-` and an expression,
-- or an expression).
use Rattle.std.specs.Prelude.{◌≡◌, ℕ, zero, suc, Bool, true, false, List, [], ◌∷◌, ◌++◌}
use Rattle.hs_tokens.specs.declared.terminal.Terminal.{Terminal}
use Rattle.hs_tokens.specs.declared.terminal.Terminal.TheVariants as t

-- Whether `<-` is the first token that stands in no pattern, or that is a comma or closing bracket outside of all
-- brackets, so many being
-- open: `x : xs <- ys` makes a hit, and `x, y <- ys` makes none.
abbrev pub hits : List Terminal → ℕ → Bool
hits [] d = false
hits (t.Var name ∷ ts) d = hits ts d
hits (t.Con name ∷ ts) d = hits ts d
hits (t.VarSym name ∷ ts) d = hits ts d
hits (t.ConSym name ∷ ts) d = hits ts d
hits (t.Integer text ∷ ts) d = hits ts d
hits (t.Char text ∷ ts) d = hits ts d
hits (t.Text text ∷ ts) d = hits ts d
hits (t.Underscore ∷ ts) d = hits ts d
hits (t.Colon ∷ ts) d = hits ts d
hits (t.Backquote ∷ ts) d = hits ts d
hits (t.At ∷ ts) d = hits ts d
hits (t.Tilde ∷ ts) d = hits ts d
hits (t.LeftParen ∷ ts) d = hits ts (suc d)
hits (t.LeftBracket ∷ ts) d = hits ts (suc d)
hits (t.RightParen ∷ ts) zero = false
hits (t.RightParen ∷ ts) (suc d) = hits ts d
hits (t.RightBracket ∷ ts) zero = false
hits (t.RightBracket ∷ ts) (suc d) = hits ts d
hits (t.Comma ∷ ts) zero = false
hits (t.Comma ∷ ts) (suc d) = hits ts (suc d)
hits (t.LeftArrow ∷ ts) d = true
hits (_ ∷ ts) d = false

-- tokens that change nothing
abbrev pub Passes : List Terminal → Type 0
Passes ts = (r : List Terminal) (d : ℕ) → hits (ts ++ r) d ≡ hits r d

-- the tokens that may stand behind a guard
abbrev pub follows_guard : Terminal → Bool
follows_guard t.Comma = true
follows_guard t.Equals = true
follows_guard t.Arrow = true
follows_guard _ = false
