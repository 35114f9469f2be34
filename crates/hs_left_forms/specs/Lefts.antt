-- The left sides of declarations (Haskell 2010 Report, sections 4.4.3.1 and 4.4.3.2): that of a function, or a pattern.
-- A variable alone is a pattern.
use Rattle.std.specs.Prelude.{ℕ, ◌+◌, Bool, true, false, ◌||◌, List, [], ◌∷◌, ◌++◌, ◌⊎◌, min}
use Rattle.hs_forms.specs.Reading.{Form}
use Rattle.hs_forms.specs.Answers.{Sort}
use Rattle.hs_forms.specs.Forms.{side}
use Rattle.hs_forms.specs.declared.fault.Fault.{Fault}
use Rattle.hs_forms.specs.declared.fault.Fault.TheVariants.{At, NoMemory}
use Rattle.hs_tokens.specs.Terminals.{is_at, is_var_sym, starts_qconop}
use Rattle.hs_tokens.specs.declared.terminal.Terminal.{Terminal}
use Rattle.hs_tokens.specs.declared.terminal.Terminal.TheVariants as t
use Rattle.hs_trees.specs.Patterns.{spelling_lpat, spelling_pat, is_lpat, is_pat, depth_of_lpat, depth_of_pat}
use Rattle.hs_trees.specs.Patterns.{starts_apat, APats}
use Rattle.hs_trees.specs.declared.patterns.VarTree.{VarTree}
use Rattle.hs_trees.specs.declared.patterns.LPatTree.{LPatTree}
use Rattle.hs_trees.specs.declared.patterns.PatTree.{PatTree}
use Rattle.hs_modules.specs.Words.{varop_tokens}
use Rattle.hs_modules.specs.Tokens.{spelling_fun_lhs}
use Rattle.hs_modules.specs.Formed.{is_fun_lhs}
use Rattle.hs_modules.specs.PartExtents.{extent_of_fun_lhs}
use Rattle.hs_modules.specs.declared.names.VarOpTree.{VarOpTree}
use Rattle.hs_modules.specs.declared.expressions.FunLhsTree.{FunLhsTree}
use Rattle.hs_headers.specs.Lists.{flat}
use Rattle.hs_expression_forms.specs.Trees.{Trees, row}
use Rattle.hs_expression_forms.specs.Expressions.{apats, pats}
use Rattle.hs_declaration_forms.specs.Typings.{vars}
use Rattle.hs_left_forms.specs.declared.left_side.LeftSide.{LeftSide}
use Rattle.hs_left_forms.specs.declared.left_side.LeftSide.TheVariants as v_left

-- the tokens by which an `lpat` may go on
abbrev pub lpat_goes : Terminal → Bool
lpat_goes k = starts_apat k || is_at k

-- the tokens by which a left side may go on: those that begin an argument, `@`, and operators
abbrev pub left_goes : Terminal → Bool
left_goes k = lpat_goes k || (starts_qconop k || is_var_sym k)

-- the tokens that begin an operator that is a variable
abbrev pub starts_varop : Terminal → Bool
starts_varop (t.VarSym name) = true
starts_varop t.Backquote = true
starts_varop _ = false

-- `varop`: `+`, `` `f` ``, not qualified
abbrev pub varop_form : Form Terminal VarOpTree
varop_form = record { tokens = varop_tokens; Good = λ x. Unit {0}; extends = λ x k. false }

-- operators with their depth, which is none
abbrev pub varop_sort : Sort Terminal VarOpTree
varop_sort = flat varop_form

-- operators as a kind of trees
abbrev pub varops : Trees Terminal VarOpTree
varops = record { tokens = varop_tokens; formed = λ x. true; deep = λ x. 0; extends = λ x k. false }

-- `lpat`: an operand
abbrev pub lpats : Trees Terminal LPatTree
lpats = record { tokens = spelling_lpat; formed = is_lpat; deep = depth_of_lpat; extends = λ x k. lpat_goes k }

-- the trees of either of two kinds
abbrev pub together : {K A B : Type 0} → Trees K A → Trees K B → Trees K (A ⊎ B)
together a b = record {
  tokens = side a.tokens b.tokens;
  formed = side a.formed b.formed;
  deep = side a.deep b.deep;
  extends = side a.extends b.extends;
}

-- trees that are, or begin, a left side: they may go on with whatever one goes on with
abbrev pub on_the_left : {T : Type 0} → Trees Terminal T → Trees Terminal T
on_the_left a = record { tokens = a.tokens; formed = a.formed; deep = a.deep; extends = λ x k. left_goes k }

-- `var apat {apat}`
abbrev pub PrefixParts : Type 0
PrefixParts = VarTree × APats

-- a name and its arguments
abbrev pub prefix_rows : Trees Terminal PrefixParts
prefix_rows = row vars apats

-- the same as left sides
abbrev pub prefixes : Trees Terminal PrefixParts
prefixes = on_the_left prefix_rows

-- `lpat varop lpat`
abbrev pub InfixParts : Type 0
InfixParts = LPatTree × (VarOpTree × LPatTree)

-- an operator and the operand behind it
abbrev pub behinds : Trees Terminal (VarOpTree × LPatTree)
behinds = row varops lpats

-- an operand, an operator and an operand
abbrev pub infix_rows : Trees Terminal InfixParts
infix_rows = row lpats behinds

-- the same as left sides
abbrev pub infixes : Trees Terminal InfixParts
infixes = on_the_left infix_rows

-- the left sides of functions
abbrev pub functions : Trees Terminal FunLhsTree
functions = record {
  tokens = spelling_fun_lhs;
  formed = is_fun_lhs;
  deep = λ x. (extent_of_fun_lhs x).depth;
  extends = λ x k. left_goes k;
}

-- the same in round brackets
abbrev pub bracketed : Trees Terminal FunLhsTree
bracketed = record {
  tokens = λ x. t.LeftParen ∷ (spelling_fun_lhs x ++ t.RightParen ∷ []);
  formed = is_fun_lhs;
  deep = λ x. (extent_of_fun_lhs x).depth + 1;
  extends = λ x k. false;
}

-- `"(" funlhs ")" apat {apat}`
abbrev pub WrappedParts : Type 0
WrappedParts = FunLhsTree × APats

-- brackets and the arguments behind them
abbrev pub wrapped_rows : Trees Terminal WrappedParts
wrapped_rows = row bracketed apats

-- the same as left sides
abbrev pub wrapped : Trees Terminal WrappedParts
wrapped = on_the_left wrapped_rows

-- left sides of functions without brackets about them
abbrev pub bare : Trees Terminal (PrefixParts ⊎ InfixParts)
bare = together prefixes infixes

-- patterns as left sides
abbrev pub patterns : Trees Terminal PatTree
patterns = on_the_left pats

-- the tokens of a left side
abbrev pub left_tokens : LeftSide → List Terminal
left_tokens (v_left.Function x) = spelling_fun_lhs x
left_tokens (v_left.Pattern x) = spelling_pat x

-- whether a left side is well formed
abbrev pub is_left_side : LeftSide → Bool
is_left_side (v_left.Function x) = is_fun_lhs x
is_left_side (v_left.Pattern x) = is_pat x

-- the depth of a left side: brackets count
abbrev pub depth_of_left_side : LeftSide → ℕ
depth_of_left_side (v_left.Function x) = (extent_of_fun_lhs x).depth
depth_of_left_side (v_left.Pattern x) = depth_of_pat x

-- left sides
abbrev pub left_sides : Trees Terminal LeftSide
left_sides = record {
  tokens = left_tokens;
  formed = is_left_side;
  deep = depth_of_left_side;
  extends = λ x k. left_goes k;
}

-- of two failures from one place the later, where the first left so many tokens
abbrev pub later : ℕ → Fault → Fault
later left (At right) = At (min left right)
later left NoMemory = NoMemory
