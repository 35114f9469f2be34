-- What stands behind a `(` of an expression: a name, an operator of a section, or what is inside (Haskell 2010 Report,
-- sections 3.2, 3.5 and 3.9).
use Rattle.std.specs.Prelude.{◌≡◌, ℕ, Bool, true, false, ◌||◌, ◌∷◌, Option}
use Rattle.hs_forms.specs.Reading.{begins}
use Rattle.hs_forms.specs.Limits.{Within}
use Rattle.hs_tokens.specs.Terminals.{minus, is_minus, is_right_paren, is_backquote}
use Rattle.hs_tokens.specs.declared.terminal.Terminal.{Terminal}
use Rattle.hs_tokens.specs.declared.terminal.Terminal.TheVariants as t
use Rattle.hs_trees.specs.Types.{starts_tuple_name}
use Rattle.hs_trees.specs.Patterns.{Ts}
use Rattle.hs_trees.specs.declared.patterns.GConTree.TheVariants as g
use Rattle.hs_modules.specs.declared.names.QVarTree.TheVariants as q
use Rattle.hs_modules.specs.declared.expressions.AExpTree.{AExpTree}
use Rattle.hs_modules.specs.declared.expressions.AExpTree.TheVariants as a

abbrev pub is_left_bracket : Terminal → Bool
is_left_bracket t.LeftBracket = true
is_left_bracket _ = false

-- an opening bracket
abbrev pub is_opening : Terminal → Bool
is_opening t.LeftParen = true
is_opening t.LeftBracket = true
is_opening _ = false

-- an operator without backquotes
abbrev pub is_symbol : Terminal → Bool
is_symbol (t.VarSym name) = true
is_symbol (t.QVarSym name) = true
is_symbol (t.ConSym name) = true
is_symbol t.Colon = true
is_symbol _ = false

-- what a symbol in brackets is
abbrev pub named_symbol : Terminal → AExpTree
named_symbol (t.VarSym name) = a.Var (q.Sym name)
named_symbol (t.QVarSym name) = a.Var (q.QualifiedSym name)
named_symbol (t.ConSym name) = a.Con (g.Sym name)
named_symbol _ = a.Con g.Colon

-- the tokens that begin a name or an operator behind a `(`
abbrev pub is_special : Terminal → Bool
is_special k = starts_tuple_name k || (is_symbol k || is_backquote k)

-- An expression or a left section may stand here: no name or operator does, or a sign does and depth is left for it.
pub data OpensInside (limit : Option ℕ) (ts : Ts) : Type 0 where
  plain : begins is_special ts ≡ false → Within limit 1 → OpensInside limit ts
  signed : (next : Ts) → ts ≡ t.VarSym minus ∷ next → begins is_right_paren next ≡ false → Within limit 2 →
      OpensInside limit ts

-- A right section may stand here.
pub data OpensSection (ts : Ts) : Type 0 where
  quoted : begins is_backquote ts ≡ true → OpensSection ts
  symbol : (k : Terminal) (next : Ts) → ts ≡ k ∷ next → is_symbol k ≡ true → is_minus k ≡ false →
      begins is_right_paren next ≡ false → OpensSection ts
