-- What the atoms of expressions are made of.
use Rattle.std.proofs.Common.{◌≡◌, List, None, sym, ap, ◌∙◌}
use Rattle.std.specs.Prelude.{map, if◌then◌else◌}
use Rattle.bp_base.specs.Texts.{Text}
use Rattle.hs_trees.specs.declared.patterns.LiteralTree.{LiteralTree}
use Rattle.hs_trees.specs.declared.patterns.GConTree.{GConTree}
use Rattle.hs_trees.specs.declared.types.TypeTree.{TypeTree}
use Rattle.hs_modules.specs.declared.names.QVarTree.{QVarTree}
use Rattle.hs_modules.specs.declared.names.QOpTree.{QOpTree}
use Rattle.hs_modules.specs.declared.expressions.AExpTree.{AExpTree, AExpTree-F}
use Rattle.hs_modules.specs.declared.expressions.AExpTree.TheVariants as va
use Rattle.hs_modules.specs.declared.expressions.ExpTree.{ExpTree, ExpTree-F}
use Rattle.hs_modules.specs.declared.expressions.ExpTree.TheVariants as ve
use Rattle.hs_modules.specs.declared.expressions.OperandTree.{OperandTree-F}
use Rattle.hs_modules.specs.declared.expressions.OperandTree.TheVariants as vo
use Rattle.hs_modules.specs.declared.expressions.InfixTree.{InfixTree, out-InfixTree, roll-out-InfixTree}
use Rattle.hs_modules.specs.declared.expressions.SignedOperand.{SignedOperand, out-SignedOperand}
use Rattle.hs_modules.specs.declared.expressions.SignedOperand.{roll-out-SignedOperand}
use Rattle.hs_modules.specs.declared.expressions.LambdaTree.{LambdaTree}
use Rattle.hs_modules.specs.declared.expressions.LetTree.{LetTree}
use Rattle.hs_modules.specs.declared.expressions.IfTree.{IfTree}
use Rattle.hs_modules.specs.declared.expressions.CaseTree.{CaseTree}
use Rattle.hs_modules.specs.Folds.{folded_aexp, folded_exp, folded_operand, folded_infix, folded_signed, folded_link}
use Rattle.hs_modules.proofs.FoldingLemmas.{aexp_folded, exp_folded, operand_folded, infix_folded, signed_folded}
use Rattle.plain_trees.specs.Types.{is_nothing}
use Rattle.plain_trees.specs.Words.{applied, var_words, literal_words, word_algebra, words_of_aexp}
use Rattle.plain_trees.specs.Words.{words_of_exp, words_of_operand, words_of_infix, words_of_signed}
use Rattle.plain_trees.proofs.TypeLemmas.{is_nothing_map}

pub aexp-Var : (args : List Text) (name : QVarTree) → words_of_aexp args (va.Var name) ≡ var_words args name
unfolding words_of_aexp words_of_exp
aexp-Var args name = ap (folded_aexp (word_algebra args)) (sym (va.rolls-Var name))
    ∙ aexp_folded (word_algebra args) (AExpTree-F.Var name)

pub aexp-Con : (args : List Text) (con : GConTree) → words_of_aexp args (va.Con con) ≡ None
unfolding words_of_aexp words_of_exp
aexp-Con args con = ap (folded_aexp (word_algebra args)) (sym (va.rolls-Con con))
    ∙ aexp_folded (word_algebra args) (AExpTree-F.Con con)

pub aexp-Literal : (args : List Text) (literal : LiteralTree) → words_of_aexp args (va.Literal literal) ≡ literal_words literal
unfolding words_of_aexp words_of_exp
aexp-Literal args literal = ap (folded_aexp (word_algebra args)) (sym (va.rolls-Literal literal))
    ∙ aexp_folded (word_algebra args) (AExpTree-F.Literal literal)

pub aexp-Parts : (args : List Text) (first : ExpTree) (rest : List ExpTree) → words_of_aexp args (va.Parts first rest) ≡ (if is_nothing rest then words_of_exp args first else None)
unfolding words_of_aexp words_of_exp
aexp-Parts args first rest = ap (folded_aexp (word_algebra args)) (sym (va.rolls-Parts first rest))
    ∙ aexp_folded (word_algebra args) (AExpTree-F.Parts first rest)
    ∙ ap (λ b. if b then words_of_exp args first else None) (is_nothing_map (words_of_exp args) rest)

pub aexp-List : (args : List Text) (first : ExpTree) (rest : List ExpTree) → words_of_aexp args (va.List first rest) ≡ None
unfolding words_of_aexp words_of_exp
aexp-List args first rest = ap (folded_aexp (word_algebra args)) (sym (va.rolls-List first rest))
    ∙ aexp_folded (word_algebra args) (AExpTree-F.List first rest)

pub aexp-LeftSection : (args : List Text) (chain : InfixTree) (op : QOpTree) → words_of_aexp args (va.LeftSection chain op) ≡ None
unfolding words_of_aexp words_of_exp
aexp-LeftSection args chain op = ap (folded_aexp (word_algebra args)) (sym (va.rolls-LeftSection chain op))
    ∙ aexp_folded (word_algebra args) (AExpTree-F.LeftSection chain op)

pub aexp-RightSection : (args : List Text) (op : QOpTree) (chain : InfixTree) → words_of_aexp args (va.RightSection op chain) ≡ None
unfolding words_of_aexp words_of_exp
aexp-RightSection args op chain = ap (folded_aexp (word_algebra args)) (sym (va.rolls-RightSection op chain))
    ∙ aexp_folded (word_algebra args) (AExpTree-F.RightSection op chain)

pub exp-Infix : (args : List Text) (chain : InfixTree) → words_of_exp args (ve.Infix chain) ≡ words_of_infix args chain
unfolding words_of_exp words_of_infix
exp-Infix args chain = ap (folded_exp (word_algebra args)) (sym (ve.rolls-Infix chain))
    ∙ exp_folded (word_algebra args) (ExpTree-F.Infix chain)

pub exp-Annotated : (args : List Text) (chain : InfixTree) (ty : TypeTree) → words_of_exp args (ve.Annotated chain ty) ≡ None
unfolding words_of_exp words_of_infix
exp-Annotated args chain ty = ap (folded_exp (word_algebra args)) (sym (ve.rolls-Annotated chain ty))
    ∙ exp_folded (word_algebra args) (ExpTree-F.Annotated chain ty)

pub operand-Lambda : (args : List Text) (part : LambdaTree) → words_of_operand args (vo.Lambda part) ≡ None
unfolding words_of_operand words_of_aexp
operand-Lambda args part = ap (folded_operand (word_algebra args)) (sym (vo.rolls-Lambda part))
    ∙ operand_folded (word_algebra args) (OperandTree-F.Lambda part)

pub operand-Let : (args : List Text) (part : LetTree) → words_of_operand args (vo.Let part) ≡ None
unfolding words_of_operand words_of_aexp
operand-Let args part = ap (folded_operand (word_algebra args)) (sym (vo.rolls-Let part))
    ∙ operand_folded (word_algebra args) (OperandTree-F.Let part)

pub operand-If : (args : List Text) (part : IfTree) → words_of_operand args (vo.If part) ≡ None
unfolding words_of_operand words_of_aexp
operand-If args part = ap (folded_operand (word_algebra args)) (sym (vo.rolls-If part))
    ∙ operand_folded (word_algebra args) (OperandTree-F.If part)

pub operand-Case : (args : List Text) (part : CaseTree) → words_of_operand args (vo.Case part) ≡ None
unfolding words_of_operand words_of_aexp
operand-Case args part = ap (folded_operand (word_algebra args)) (sym (vo.rolls-Case part))
    ∙ operand_folded (word_algebra args) (OperandTree-F.Case part)

pub operand-Apply : (args : List Text) (first : AExpTree) (rest : List AExpTree) → words_of_operand args (vo.Apply first rest) ≡ applied (words_of_aexp args first) (map (words_of_aexp args) rest)
unfolding words_of_operand words_of_aexp
operand-Apply args first rest = ap (folded_operand (word_algebra args)) (sym (vo.rolls-Apply first rest))
    ∙ operand_folded (word_algebra args) (OperandTree-F.Apply first rest)

pub infix_is : (args : List Text) (t : InfixTree) → words_of_infix args t
    ≡ (if is_nothing (out-InfixTree t).rest then words_of_signed args (out-InfixTree t).first else None)
unfolding words_of_infix words_of_signed
infix_is args t = ap (folded_infix (word_algebra args)) (sym (roll-out-InfixTree t))
    ∙ infix_folded (word_algebra args) (out-InfixTree t)
    ∙ ap (λ b. if b then words_of_signed args (out-InfixTree t).first else None)
    (is_nothing_map (folded_link (word_algebra args)) (out-InfixTree t).rest)

pub signed_is : (args : List Text) (t : SignedOperand) → words_of_signed args t
    ≡ (if (out-SignedOperand t).negated then None else words_of_operand args (out-SignedOperand t).operand)
unfolding words_of_signed words_of_operand
signed_is args t = ap (folded_signed (word_algebra args)) (sym (roll-out-SignedOperand t))
    ∙ signed_folded (word_algebra args) (out-SignedOperand t)

pub ruleset word_equations = (
  aexp-Var,
  aexp-Con,
  aexp-Literal,
  aexp-Parts,
  aexp-List,
  aexp-LeftSection,
  aexp-RightSection,
  exp-Infix,
  exp-Annotated,
  operand-Lambda,
  operand-Let,
  operand-If,
  operand-Case,
  operand-Apply,
  infix_is,
  signed_is,
)
