-- The kinds of trees of expressions and of what stands in their blocks, as they are read (Haskell 2010 Report,
-- chapter 3).
use Rattle.std.specs.Prelude.{ℕ, max, Bool, true, false, ◌&&◌, ◌||◌, nat_le, List, [], ◌∷◌, ◌++◌, length}
use Rattle.std.specs.Prelude.{flat_map, map, Option, Some, None}
use Rattle.hs_forms.specs.Limits.{deepest, all_of}
use Rattle.hs_tokens.specs.Terminals.{is_arrow, is_comma, is_minus}
use Rattle.hs_tokens.specs.declared.terminal.Terminal.{Terminal}
use Rattle.hs_tokens.specs.declared.terminal.Terminal.TheVariants as t
use Rattle.hs_tokens.specs.declared.word.Word.TheVariants as w
use Rattle.hs_trees.specs.Types.{spelling_type, is_type, depth_of_type, starts_atype}
use Rattle.hs_trees.specs.Patterns.{APats, spelling_apats, are_apats, depth_of_apats, starts_apat, spelling_pat}
use Rattle.hs_trees.specs.Patterns.{is_pat, depth_of_pat}
use Rattle.hs_tokens.specs.Terminals.{is_at, starts_qconop}
use Rattle.hs_trees.specs.declared.types.TypeTree.{TypeTree}
use Rattle.hs_trees.specs.declared.patterns.PatTree.{PatTree}
use Rattle.hs_modules.specs.Words.{qop_tokens}
use Rattle.hs_modules.specs.Tokens.{spelling_aexp, spelling_exp, spelling_infix, spelling_operand}
use Rattle.hs_modules.specs.Tokens.{spelling_alt_block}
use Rattle.hs_modules.specs.Tokens.{spelling_decl_block}
use Rattle.hs_modules.specs.Formed.{Facts, facts_of_aexp, facts_of_exp, facts_of_infix, facts_of_operand}
use Rattle.hs_modules.specs.Formed.{facts_of_alt_block, facts_of_decl_block}
use Rattle.hs_modules.specs.ExpressionExtents.{extent_of_aexp, extent_of_exp, extent_of_infix, extent_of_operand}
use Rattle.hs_modules.specs.ExpressionExtents.{extent_of_alt_block}
use Rattle.hs_modules.specs.ExpressionExtents.{extent_of_decl_block}
use Rattle.hs_modules.specs.declared.names.QOpTree.{QOpTree}
use Rattle.hs_modules.specs.declared.expressions.AExpTree.{AExpTree}
use Rattle.hs_modules.specs.declared.expressions.ExpTree.{ExpTree}
use Rattle.hs_modules.specs.declared.expressions.InfixTree.{InfixTree}
use Rattle.hs_modules.specs.declared.expressions.OperandTree.{OperandTree}
use Rattle.hs_modules.specs.declared.expressions.AltBlock.{AltBlock}
use Rattle.hs_modules.specs.declared.expressions.DeclBlock.{DeclBlock}
use Rattle.hs_expression_forms.specs.Trees.{Trees, behind_token, ended, row}

-- tests of terminals
abbrev pub is_double_colon : Terminal → Bool
is_double_colon t.DoubleColon = true
is_double_colon _ = false

-- the tokens that begin an `aexp`
abbrev pub starts_aexp : Terminal → Bool
starts_aexp (t.Var name) = true
starts_aexp (t.QVar name) = true
starts_aexp (t.Con name) = true
starts_aexp (t.Integer text) = true
starts_aexp (t.Char text) = true
starts_aexp (t.Text text) = true
starts_aexp t.LeftParen = true
starts_aexp t.LeftBracket = true
starts_aexp _ = false

-- the tokens that begin an operand of a chain
abbrev pub starts_operand : Terminal → Bool
starts_operand t.Backslash = true
starts_operand (t.Word w.Let) = true
starts_operand (t.Word w.If) = true
starts_operand (t.Word w.Case) = true
starts_operand k = starts_aexp k

-- the tokens that begin an expression
abbrev pub starts_exp : Terminal → Bool
starts_exp k = starts_operand k || is_minus k

-- the tokens that begin an operator
abbrev pub starts_qop : Terminal → Bool
starts_qop (t.VarSym name) = true
starts_qop (t.QVarSym name) = true
starts_qop (t.ConSym name) = true
starts_qop t.Colon = true
starts_qop t.Backquote = true
starts_qop _ = false

-- The tokens by which an expression goes on: arguments; operators, `::` and `->`, where they may follow. What ends in a
-- type goes on with `->`: `a :: T` with `-> U`.
abbrev pub goes_on : Bool → Bool → Bool → Terminal → Bool
goes_on operators annotation arrows k =
    starts_aexp k || ((operators && starts_qop k) || ((annotation && is_double_colon k) || (arrows && is_arrow k)))

-- a last operand that is a lambda, `let` or `if` goes on with whatever its body goes on with
abbrev pub operand_goes_on : Facts → Terminal → Bool
operand_goes_on f = goes_on f.is_open f.is_open f.ends_in_type

abbrev pub infix_goes_on : Facts → Terminal → Bool
infix_goes_on f = goes_on true f.is_open f.ends_in_type

abbrev pub exp_goes_on : Facts → Terminal → Bool
exp_goes_on f = goes_on true true f.ends_in_type

abbrev pub is_aexp : AExpTree → Bool
is_aexp x = (facts_of_aexp x).good

abbrev pub depth_of_aexp : AExpTree → ℕ
depth_of_aexp x = (extent_of_aexp x).depth

abbrev pub aexps : Trees Terminal AExpTree
aexps = record { tokens = spelling_aexp; formed = is_aexp; deep = depth_of_aexp; extends = λ x k. false }

abbrev pub is_operand : OperandTree → Bool
is_operand x = (facts_of_operand x).good

abbrev pub depth_of_operand : OperandTree → ℕ
depth_of_operand x = (extent_of_operand x).depth

abbrev pub operands : Trees Terminal OperandTree
operands = record {
  tokens = spelling_operand;
  formed = is_operand;
  deep = depth_of_operand;
  extends = λ x. operand_goes_on (facts_of_operand x);
}

abbrev pub is_infix : InfixTree → Bool
is_infix x = (facts_of_infix x).good

abbrev pub depth_of_infix : InfixTree → ℕ
depth_of_infix x = (extent_of_infix x).depth

abbrev pub infixes : Trees Terminal InfixTree
infixes = record {
  tokens = spelling_infix;
  formed = is_infix;
  deep = depth_of_infix;
  extends = λ x. infix_goes_on (facts_of_infix x);
}

abbrev pub is_exp : ExpTree → Bool
is_exp x = (facts_of_exp x).good

abbrev pub depth_of_exp : ExpTree → ℕ
depth_of_exp x = (extent_of_exp x).depth

abbrev pub exps : Trees Terminal ExpTree
exps = record {
  tokens = spelling_exp;
  formed = is_exp;
  deep = depth_of_exp;
  extends = λ x. exp_goes_on (facts_of_exp x);
}

abbrev pub types : Trees Terminal TypeTree
types = record {
  tokens = spelling_type;
  formed = is_type;
  deep = depth_of_type;
  extends = λ x k. starts_atype k || is_arrow k;
}

abbrev pub apats : Trees Terminal APats
apats = record {
  tokens = spelling_apats;
  formed = are_apats;
  deep = depth_of_apats;
  extends = λ p k. starts_apat k || is_at k;
}

abbrev pub pats : Trees Terminal PatTree
pats = record {
  tokens = spelling_pat;
  formed = is_pat;
  deep = depth_of_pat;
  extends = λ x k. (starts_apat k || is_at k) || starts_qconop k;
}

-- so many, if there is such a bound
abbrev pub few : Option ℕ → ℕ → Bool
few None n = true
few (Some most) n = nat_le n most

abbrev pub last_part : {T : Type 0} → T → List T → T
last_part first [] = first
last_part first (x ∷ xs) = last_part x xs

-- A first tree and others, each behind the same tokens: arguments, parts between commas, items of a block.
abbrev pub listed : {K T : Type 0} → Trees K T → List K → (K → Bool) → Option ℕ → Trees K (T × List T)
listed a sep starter most = record {
  tokens = λ p. a.tokens p.0 ++ flat_map (λ x. sep ++ a.tokens x) p.1;
  formed = λ p. few most (length p.1) && (a.formed p.0 && all_of (map a.formed p.1));
  deep = λ p. max (a.deep p.0) (deepest (map a.deep p.1));
  extends = λ p k. starter k || a.extends (last_part p.0 p.1) k;
}

-- a function and its arguments
abbrev pub applies : Trees Terminal (AExpTree × List AExpTree)
applies = listed aexps [] starts_aexp None

-- expressions between commas
abbrev pub exp_parts : Option ℕ → Trees Terminal (ExpTree × List ExpTree)
exp_parts = listed exps (t.Comma ∷ []) is_comma

abbrev pub alt_blocks : Trees Terminal AltBlock
alt_blocks = record {
  tokens = spelling_alt_block;
  formed = λ x. (facts_of_alt_block x).good;
  deep = λ x. (extent_of_alt_block x).depth;
  extends = λ x k. false;
}

abbrev pub decl_blocks : Trees Terminal DeclBlock
decl_blocks = record {
  tokens = spelling_decl_block;
  formed = λ x. (facts_of_decl_block x).good;
  deep = λ x. (extent_of_decl_block x).depth;
  extends = λ x k. false;
}

-- `"\" apat {apat} "->" exp`
abbrev pub lambdas : Trees Terminal (APats × ExpTree)
lambdas = behind_token t.Backslash (row (ended apats t.Arrow) exps)

-- `"let" block(decl) "in" exp`
abbrev pub lets : Trees Terminal (DeclBlock × ExpTree)
lets = behind_token (t.Word w.Let) (row (ended decl_blocks (t.Word w.In)) exps)

-- `"if" exp "then" exp "else" exp`
abbrev pub ifs : Trees Terminal (ExpTree × (ExpTree × ExpTree))
ifs = behind_token (t.Word w.If) (row (ended exps (t.Word w.Then)) (row (ended exps (t.Word w.Else)) exps))

-- `"case" exp "of" block(alt)`
abbrev pub cases : Trees Terminal (ExpTree × AltBlock)
cases = behind_token (t.Word w.Case) (row (ended exps (t.Word w.Of)) alt_blocks)

-- operators
abbrev pub qops : Trees Terminal QOpTree
qops = record { tokens = qop_tokens; formed = λ op. true; deep = λ op. 0; extends = λ op k. false }
