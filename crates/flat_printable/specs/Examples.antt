-- Small names and trees, and what the conditions say of them.
use Rattle.std.specs.Prelude.{◌≡◌, ℕ, true, false, List, [], ◌∷◌, replicate, codes}
use Rattle.hs_tokens.specs.declared.terminal.Terminal.TheVariants as t
use Rattle.hs_core.specs.declared.tree.Pat.TheVariants.{PVar}
use Rattle.hs_core.specs.declared.tree.Exp.TheVariants.{Local, Int, Chr, Tuple, Lambda, RightSection}
use Rattle.hs_core.specs.FreeNames.{mentioned}
use Rattle.flat_spelled.specs.Printable.{is_printable_exp}
use Rattle.flat_printable.specs.Names.{is_lawful_name}
use Rattle.flat_printable.specs.Literals.{has_literals_exp}

-- `x`, `if`, `X` as a variable; `+`, `--`; `U0.M.x`, `U0.M.case`; `:+`
abbrev pub NamesTell : Type 0
NamesTell = (is_lawful_name (t.Var (codes "x")) ≡ true) × (is_lawful_name (t.Var (codes "if")) ≡ false)
    × (is_lawful_name (t.Var (codes "X")) ≡ false) × (is_lawful_name (t.VarSym (codes "+")) ≡ true)
    × (is_lawful_name (t.VarSym (codes "--")) ≡ false) × (is_lawful_name (t.QVar (codes "U0.M.x")) ≡ true)
    × (is_lawful_name (t.QVar (codes "U0.M.case")) ≡ false) × (is_lawful_name (t.ConSym (codes ":+")) ≡ true)

-- 2^63 is no literal, and the last character is one
abbrev pub LiteralsTell : Type 0
LiteralsTell = (has_literals_exp (Int 9223372036854775808) ≡ false) × (has_literals_exp (Chr 1114111) ≡ true)
    × (has_literals_exp (Chr 1114112) ≡ false)

-- a tuple of 15 and one of 16; `(- x)` with a local minus; a lambda without patterns
abbrev pub FormsTell : Type 0
FormsTell = (is_printable_exp (Tuple (replicate 15 (Int 1))) ≡ true)
    × (is_printable_exp (Tuple (replicate 16 (Int 1))) ≡ false)
    × (is_printable_exp (RightSection (Local (codes "-")) (Int 1)) ≡ false)
    × (is_printable_exp (Lambda [] (Int 1)) ≡ false)

-- `\x -> x` mentions no local of elsewhere, and `\x -> y` does
abbrev pub LocalsTell : Type 0
LocalsTell = (mentioned (Lambda (PVar (codes "x") ∷ []) (Local (codes "x"))) ≡ [])
    × (mentioned (Lambda (PVar (codes "x") ∷ []) (Local (codes "y"))) ≡ codes "y" ∷ [])
