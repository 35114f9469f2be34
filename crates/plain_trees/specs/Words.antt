-- The atoms of an expression of the plain form: a name or a number applied to such, each in any number of brackets.
use Rattle.std.specs.Prelude.{List, [], ◌∷◌, ◌++◌, Option, Some, None, if◌then◌else◌}
use Rattle.std.specs.List.{fold}
use Rattle.bp_base.specs.Texts.{Text}
use Rattle.bp_base.specs.Lists.{is_among}
use Rattle.hs_trees.specs.declared.patterns.LiteralTree.{LiteralTree}
use Rattle.hs_trees.specs.declared.patterns.LiteralTree.TheVariants as l
use Rattle.hs_modules.specs.declared.names.QVarTree.{QVarTree}
use Rattle.hs_modules.specs.declared.names.QVarTree.TheVariants as q
use Rattle.hs_modules.specs.declared.expressions.AExpTree.{AExpTree, AExpTree-F}
use Rattle.hs_modules.specs.declared.expressions.ExpTree.{ExpTree, ExpTree-F}
use Rattle.hs_modules.specs.declared.expressions.OperandTree.{OperandTree, OperandTree-F}
use Rattle.hs_modules.specs.declared.expressions.InfixTree.{InfixTree}
use Rattle.hs_modules.specs.declared.expressions.SignedOperand.{SignedOperand}
use Rattle.hs_modules.specs.Folds.{Algebra, AExpTreeLayer, ExpTreeLayer, OperandTreeLayer, InfixTreeLayer}
use Rattle.hs_modules.specs.Folds.{SignedOperandLayer, folded_aexp, folded_exp, folded_operand, folded_infix}
use Rattle.hs_modules.specs.Folds.{folded_signed}
use Rattle.hs_plain.specs.declared.plain.Atom.{Atom}
use Rattle.hs_plain.specs.declared.plain.Atom.TheVariants.{Number, Argument, Declared}
use Rattle.literal_values.specs.Values.{integer_value}
use Rattle.plain_trees.specs.Types.{is_nothing}

-- the atoms of an expression, unless it is not of the plain form
abbrev pub Words : Type 0
Words = Option (List Atom)

-- one more argument, if it is one atom
abbrev pub with_argument : Words → Words → Words
with_argument None w = None
with_argument (Some atoms) None = None
with_argument (Some atoms) (Some []) = None
with_argument (Some atoms) (Some (a ∷ [])) = Some (atoms ++ a ∷ [])
with_argument (Some atoms) (Some (a ∷ b ∷ more)) = None

-- an expression applied to others
abbrev pub applied : Words → List Words → Words
applied first rest = fold with_argument first rest

-- the first, where nothing stands behind it
abbrev pub alone : Words → List Words → Words
alone w ws = if is_nothing ws then w else None

-- what a name is: an argument hides a declared name
abbrev pub name_atom : List Text → Text → Atom
name_atom args name = if is_among name args then Argument name else Declared name

abbrev pub var_words : List Text → QVarTree → Words
var_words args (q.Id name) = Some (name_atom args name ∷ [])
var_words args (q.Sym name) = None
var_words args (q.QualifiedId name) = None
var_words args (q.QualifiedSym name) = None

abbrev pub literal_words : LiteralTree → Words
literal_words (l.Integer text) = Some (Number (integer_value text) ∷ [])
literal_words (l.Char text) = None
literal_words (l.Text text) = None

abbrev pub aexp_words : List Text → AExpTreeLayer Words Words → Words
aexp_words args (AExpTree-F.Var name) = var_words args name
aexp_words args (AExpTree-F.Con con) = None
aexp_words args (AExpTree-F.Literal literal) = literal_words literal
aexp_words args (AExpTree-F.Parts first rest) = alone first rest
aexp_words args (AExpTree-F.List first rest) = None
aexp_words args (AExpTree-F.LeftSection chain op) = None
aexp_words args (AExpTree-F.RightSection op chain) = None

abbrev pub exp_words : ExpTreeLayer Words Words → Words
exp_words (ExpTree-F.Infix chain) = chain
exp_words (ExpTree-F.Annotated chain ty) = None

abbrev pub operand_words : OperandTreeLayer Words Words → Words
operand_words (OperandTree-F.Lambda part) = None
operand_words (OperandTree-F.Let part) = None
operand_words (OperandTree-F.If part) = None
operand_words (OperandTree-F.Case part) = None
operand_words (OperandTree-F.Apply first rest) = applied first rest

abbrev pub infix_words : InfixTreeLayer Words Words → Words
infix_words chain = alone chain.first chain.rest

abbrev pub signed_words : SignedOperandLayer Words Words → Words
signed_words part = if part.negated then None else part.operand

abbrev pub word_algebra : List Text → Algebra Words Words
word_algebra args = record {
  of_aexp = aexp_words args;
  of_alt_body = λ p. None;
  of_alt_slot = λ p. None;
  of_decl_slot = λ p. None;
  of_decl = λ p. None;
  of_exp = exp_words;
  of_guard = λ p. None;
  of_locals = λ p. None;
  of_operand = operand_words;
  of_rhs_body = λ p. None;
  of_alt_block = λ p. None;
  of_alt = λ p. None;
  of_case = λ p. None;
  of_decl_block = λ p. None;
  of_gd = λ p. None;
  of_gda = λ p. None;
  of_if = λ p. None;
  of_infix = infix_words;
  of_lambda = λ p. None;
  of_let = λ p. None;
  of_link = λ p. None;
  of_rhs = λ p. None;
  of_signed = signed_words;
}

-- the atoms of an expression, where these names are arguments
unfoldable pub words_of_exp : List Text → ExpTree → Words
words_of_exp args = folded_exp (word_algebra args)

unfoldable pub words_of_aexp : List Text → AExpTree → Words
words_of_aexp args = folded_aexp (word_algebra args)

unfoldable pub words_of_operand : List Text → OperandTree → Words
words_of_operand args = folded_operand (word_algebra args)

unfoldable pub words_of_infix : List Text → InfixTree → Words
words_of_infix args = folded_infix (word_algebra args)

unfoldable pub words_of_signed : List Text → SignedOperand → Words
words_of_signed args = folded_signed (word_algebra args)
