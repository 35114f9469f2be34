-- Where the operator of an infix constructor stands (Haskell 2010 Report, section 4.2.1).
use Rattle.std.specs.Prelude.{◌≡◌, ℕ, zero, suc, Bool, true, false, ◌&&◌, List, [], ◌∷◌, ◌++◌, codes}
use Rattle.std.specs.Str.{bytes_eq}
use Rattle.hs_tokens.specs.declared.terminal.Terminal.{Terminal}
use Rattle.hs_tokens.specs.declared.terminal.Terminal.TheVariants as t

-- Whether the first token outside of all brackets that stands neither in fields nor before them is the operator of a
-- constructor, so many brackets being open: `C a :+: b` is crossed, and `C a | b :+: c` is not.
abbrev pub crosses : List Terminal → ℕ → Bool
crosses [] d = false
crosses (t.Con name ∷ ts) d = crosses ts d
crosses (t.Var name ∷ ts) d = crosses ts d
crosses (t.VarSym name ∷ ts) d = bytes_eq name (codes "!") && crosses ts d
crosses (t.LeftParen ∷ ts) d = crosses ts (suc d)
crosses (t.LeftBracket ∷ ts) d = crosses ts (suc d)
crosses (t.RightParen ∷ ts) zero = false
crosses (t.RightParen ∷ ts) (suc d) = crosses ts d
crosses (t.RightBracket ∷ ts) zero = false
crosses (t.RightBracket ∷ ts) (suc d) = crosses ts d
crosses (t.Comma ∷ ts) zero = false
crosses (t.Comma ∷ ts) (suc d) = crosses ts (suc d)
crosses (t.Arrow ∷ ts) zero = false
crosses (t.Arrow ∷ ts) (suc d) = crosses ts (suc d)
crosses (t.ConSym name ∷ ts) zero = true
crosses (t.ConSym name ∷ ts) (suc d) = false
crosses (t.Backquote ∷ ts) zero = true
crosses (t.Backquote ∷ ts) (suc d) = false
crosses (_ ∷ ts) d = false

-- tokens that change nothing
abbrev pub Passes : List Terminal → Type 0
Passes ts = (r : List Terminal) (d : ℕ) → crosses (ts ++ r) d ≡ crosses r d
