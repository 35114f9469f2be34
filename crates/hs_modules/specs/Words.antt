-- The tokens of names and operators (Haskell 2010 Report, section 3.2), and which of them are not qualified.
use Rattle.std.specs.Prelude.{ℕ, Bool, true, false, not, ◌||◌, nat_eq, List, [], ◌∷◌}
use Rattle.std.specs.Str.{bytes_eq}
use Rattle.hs_tokens.specs.Terminals.{minus}
use Rattle.hs_trees.specs.Patterns.{Ts, qconop_tokens}
use Rattle.hs_tokens.specs.declared.terminal.Terminal.{Terminal}
use Rattle.hs_tokens.specs.declared.terminal.Terminal.TheVariants as t
use Rattle.hs_modules.specs.declared.names.QVarTree.{QVarTree}
use Rattle.hs_modules.specs.declared.names.QVarTree.TheVariants as q
use Rattle.hs_modules.specs.declared.names.ConTree.{ConTree}
use Rattle.hs_modules.specs.declared.names.ConTree.TheVariants as c
use Rattle.hs_modules.specs.declared.names.VarOpTree.{VarOpTree}
use Rattle.hs_modules.specs.declared.names.VarOpTree.TheVariants as v
use Rattle.hs_modules.specs.declared.names.ConOpTree.{ConOpTree}
use Rattle.hs_modules.specs.declared.names.ConOpTree.TheVariants as k
use Rattle.hs_modules.specs.declared.names.OpTree.{OpTree}
use Rattle.hs_modules.specs.declared.names.OpTree.TheVariants as o
use Rattle.hs_modules.specs.declared.names.QOpTree.{QOpTree}
use Rattle.hs_modules.specs.declared.names.QOpTree.TheVariants as p

-- in round brackets
abbrev pub bracketed : Terminal → Ts
bracketed name = t.LeftParen ∷ name ∷ t.RightParen ∷ []

-- between backquotes
abbrev pub quoted : Terminal → Ts
quoted name = t.Backquote ∷ name ∷ t.Backquote ∷ []

abbrev pub qvar_tokens : QVarTree → Ts
qvar_tokens (q.Id name) = t.Var name ∷ []
qvar_tokens (q.Sym name) = bracketed (t.VarSym name)
qvar_tokens (q.QualifiedId name) = t.QVar name ∷ []
qvar_tokens (q.QualifiedSym name) = bracketed (t.QVarSym name)

abbrev pub con_tokens : ConTree → Ts
con_tokens (c.Id name) = t.Con name ∷ []
con_tokens (c.Sym name) = bracketed (t.ConSym name)

abbrev pub varop_tokens : VarOpTree → Ts
varop_tokens (v.Sym name) = t.VarSym name ∷ []
varop_tokens (v.Quoted name) = quoted (t.Var name)

abbrev pub conop_tokens : ConOpTree → Ts
conop_tokens (k.Sym name) = t.ConSym name ∷ []
conop_tokens (k.Quoted name) = quoted (t.Con name)

abbrev pub op_tokens : OpTree → Ts
op_tokens (o.Var op) = varop_tokens op
op_tokens (o.Con op) = conop_tokens op

abbrev pub qop_tokens : QOpTree → Ts
qop_tokens (p.Sym name) = t.VarSym name ∷ []
qop_tokens (p.Quoted name) = quoted (t.Var name)
qop_tokens (p.QualifiedSym name) = t.QVarSym name ∷ []
qop_tokens (p.QualifiedQuoted name) = quoted (t.QVar name)
qop_tokens (p.Con op) = qconop_tokens op

-- A constructor's name is not qualified if no dot stands in it; a constructor's symbol is not if it begins with a
-- colon.
abbrev pub has_dot : List ℕ → Bool
has_dot [] = false
has_dot (b ∷ bs) = nat_eq b 46 || has_dot bs

abbrev pub begins_with_colon : List ℕ → Bool
begins_with_colon [] = false
begins_with_colon (b ∷ bs) = nat_eq b 58

abbrev pub is_con : ConTree → Bool
is_con (c.Id name) = not (has_dot name)
is_con (c.Sym name) = begins_with_colon name

abbrev pub is_conop : ConOpTree → Bool
is_conop (k.Sym name) = begins_with_colon name
is_conop (k.Quoted name) = not (has_dot name)

abbrev pub is_operator : OpTree → Bool
is_operator (o.Var op) = true
is_operator (o.Con op) = is_conop op

-- a bare `-`, which makes no section
abbrev pub is_bare_minus : QOpTree → Bool
is_bare_minus (p.Sym name) = bytes_eq name minus
is_bare_minus _ = false
