-- The terminals of `let` and `case`, and the facts of atoms and of each form of expression, one layer at a time.
use Rattle.std.proofs.Common.{◌≡◌, true, List, ◌∷◌, ◌++◌, length, map, ap, ◌∙◌}
use Rattle.std.specs.Prelude.{not, ◌&&◌, nat_lt}
use Rattle.std.proofs.lemmas.Bool.{and_from}
use Rattle.hs_forms.specs.Limits.{all_of}
use Rattle.hs_tokens.specs.declared.terminal.Terminal.TheVariants as t
use Rattle.hs_tokens.specs.declared.word.Word.TheVariants as w
use Rattle.hs_trees.specs.Patterns.{is_gcon, is_apat}
use Rattle.hs_trees.specs.declared.patterns.LiteralTree.{LiteralTree}
use Rattle.hs_trees.specs.declared.patterns.GConTree.{GConTree}
use Rattle.hs_trees.specs.declared.patterns.APatTree.{APatTree}
use Rattle.hs_modules.specs.declared.names.QVarTree.{QVarTree}
use Rattle.hs_modules.specs.declared.names.QOpTree.{QOpTree}
use Rattle.hs_modules.specs.declared.expressions.AExpTree.{AExpTree-F, roll-AExpTree}
use Rattle.hs_modules.specs.declared.expressions.AltBlock.{AltBlock}
use Rattle.hs_modules.specs.declared.expressions.CaseTree.{roll-CaseTree}
use Rattle.hs_modules.specs.declared.expressions.DeclBlock.{DeclBlock}
use Rattle.hs_modules.specs.declared.expressions.ExpTree.{ExpTree}
use Rattle.hs_modules.specs.declared.expressions.IfTree.{roll-IfTree}
use Rattle.hs_modules.specs.declared.expressions.InfixTree.{InfixTree}
use Rattle.hs_modules.specs.declared.expressions.LambdaTree.{roll-LambdaTree}
use Rattle.hs_modules.specs.declared.expressions.LetTree.{roll-LetTree}
use Rattle.hs_modules.specs.declared.expressions.OperandTree.{OperandTree, OperandTree-F, roll-OperandTree}
use Rattle.hs_modules.specs.Words.{is_bare_minus}
use Rattle.hs_modules.specs.Tokens.{token_algebra, spelling_alt_block, spelling_decl_block, spelling_exp}
use Rattle.hs_modules.specs.Tokens.{spelling_operand}
use Rattle.hs_modules.specs.Formed.{fact_algebra, all_good, good_of, facts_of_aexp, facts_of_alt_block}
use Rattle.hs_modules.specs.Formed.{facts_of_decl_block, facts_of_exp, facts_of_infix, facts_of_operand}
use Rattle.hs_modules.proofs.FoldingLemmas.{aexp_folded, case_folded, if_folded, lambda_folded, let_folded}
use Rattle.hs_modules.proofs.FoldingLemmas.{operand_folded}

-- ---- the forms of expressions as operands

abbrev pub lambda_of : APatTree → List APatTree → ExpTree → OperandTree
lambda_of a rest x =
    roll-OperandTree (OperandTree-F.Lambda (roll-LambdaTree (record { first = a; rest = rest; body = x })))

abbrev pub if_of : ExpTree → ExpTree → ExpTree → OperandTree
if_of a b c =
    roll-OperandTree (OperandTree-F.If (roll-IfTree (record { test = a; then_part = b; else_part = c })))

abbrev pub let_of : DeclBlock → ExpTree → OperandTree
let_of ds x = roll-OperandTree (OperandTree-F.Let (roll-LetTree (record { decls = ds; body = x })))

abbrev pub case_of : ExpTree → AltBlock → OperandTree
case_of x as' = roll-OperandTree (OperandTree-F.Case (roll-CaseTree (record { scrutinee = x; alts = as' })))

pub let_tokens : (ds : DeclBlock) (x : ExpTree)
    → spelling_operand (let_of ds x) ≡ t.Word w.Let ∷ (spelling_decl_block ds ++ t.Word w.In ∷ spelling_exp x)
unfolding token_algebra
let_tokens ds x =
    operand_folded token_algebra (OperandTree-F.Let (roll-LetTree (record { decls = ds; body = x })))
    ∙ let_folded token_algebra (record { decls = ds; body = x })

pub case_tokens : (x : ExpTree) (as' : AltBlock)
    → spelling_operand (case_of x as') ≡ t.Word w.Case ∷ (spelling_exp x ++ t.Word w.Of ∷ spelling_alt_block as')
unfolding token_algebra
case_tokens x as' =
    operand_folded token_algebra (OperandTree-F.Case (roll-CaseTree (record { scrutinee = x; alts = as' })))
    ∙ case_folded token_algebra (record { scrutinee = x; alts = as' })

-- ---- facts of atoms

pub var_good : (name : QVarTree) → (facts_of_aexp (roll-AExpTree (AExpTree-F.Var name))).good ≡ true
unfolding fact_algebra
var_good name = ap good_of (aexp_folded fact_algebra (AExpTree-F.Var name))

pub con_good : (con : GConTree) → is_gcon con ≡ true → (facts_of_aexp (roll-AExpTree (AExpTree-F.Con con))).good ≡ true
unfolding fact_algebra
con_good con e = ap good_of (aexp_folded fact_algebra (AExpTree-F.Con con)) ∙ e

pub literal_good : (it : LiteralTree) → (facts_of_aexp (roll-AExpTree (AExpTree-F.Literal it))).good ≡ true
unfolding fact_algebra
literal_good it = ap good_of (aexp_folded fact_algebra (AExpTree-F.Literal it))

pub parts_good : (x : ExpTree) (xs : List ExpTree) → nat_lt (length (map facts_of_exp xs)) 15 ≡ true
    → (facts_of_exp x).good ≡ true → all_good (map facts_of_exp xs) ≡ true
    → (facts_of_aexp (roll-AExpTree (AExpTree-F.Parts x xs))).good ≡ true
unfolding fact_algebra
parts_good x xs few e h =
    ap good_of (aexp_folded fact_algebra (AExpTree-F.Parts x xs))
    ∙ and_from (nat_lt (length (map facts_of_exp xs)) 15) ((facts_of_exp x).good && all_good (map facts_of_exp xs)) few
    (and_from (facts_of_exp x).good (all_good (map facts_of_exp xs)) e h)

pub list_good : (x : ExpTree) (xs : List ExpTree) → (facts_of_exp x).good ≡ true
    → all_good (map facts_of_exp xs) ≡ true → (facts_of_aexp (roll-AExpTree (AExpTree-F.List x xs))).good ≡ true
unfolding fact_algebra
list_good x xs e h =
    ap good_of (aexp_folded fact_algebra (AExpTree-F.List x xs))
    ∙ and_from (facts_of_exp x).good (all_good (map facts_of_exp xs)) e h

pub section_good : (o : QOpTree) (c : InfixTree) → not (is_bare_minus o) ≡ true → (facts_of_infix c).good ≡ true
    → (facts_of_aexp (roll-AExpTree (AExpTree-F.RightSection o c))).good ≡ true
unfolding fact_algebra
section_good o c e h =
    ap good_of (aexp_folded fact_algebra (AExpTree-F.RightSection o c))
    ∙ and_from (not (is_bare_minus o)) (facts_of_infix c).good e h

-- ---- facts of operands

pub lambda_good : (a : APatTree) (rest : List APatTree) (x : ExpTree) → is_apat a && all_of (map is_apat rest) ≡ true
    → (facts_of_exp x).good ≡ true → (facts_of_operand (lambda_of a rest x)).good ≡ true
unfolding fact_algebra
lambda_good a rest x e h =
    ap good_of (operand_folded fact_algebra
    (OperandTree-F.Lambda (roll-LambdaTree (record { first = a; rest = rest; body = x })))
    ∙ lambda_folded fact_algebra (record { first = a; rest = rest; body = x }))
    ∙ and_from (is_apat a && all_of (map is_apat rest)) (facts_of_exp x).good e h

pub if_good : (a b c : ExpTree) → (facts_of_exp a).good ≡ true → (facts_of_exp b).good ≡ true
    → (facts_of_exp c).good ≡ true → (facts_of_operand (if_of a b c)).good ≡ true
unfolding fact_algebra
if_good a b c e h g =
    ap good_of (operand_folded fact_algebra
    (OperandTree-F.If (roll-IfTree (record { test = a; then_part = b; else_part = c })))
    ∙ if_folded fact_algebra (record { test = a; then_part = b; else_part = c }))
    ∙ and_from ((facts_of_exp a).good && (facts_of_exp b).good) (facts_of_exp c).good
    (and_from (facts_of_exp a).good (facts_of_exp b).good e h) g

pub let_good : (ds : DeclBlock) (x : ExpTree) → (facts_of_decl_block ds).good ≡ true → (facts_of_exp x).good ≡ true
    → (facts_of_operand (let_of ds x)).good ≡ true
unfolding fact_algebra
let_good ds x e h =
    ap good_of (operand_folded fact_algebra (OperandTree-F.Let (roll-LetTree (record { decls = ds; body = x })))
    ∙ let_folded fact_algebra (record { decls = ds; body = x }))
    ∙ and_from (facts_of_decl_block ds).good (facts_of_exp x).good e h

pub case_good : (x : ExpTree) (as' : AltBlock) → (facts_of_exp x).good ≡ true → (facts_of_alt_block as').good ≡ true
    → (facts_of_operand (case_of x as')).good ≡ true
unfolding fact_algebra
case_good x as' e h =
    ap good_of (operand_folded fact_algebra
    (OperandTree-F.Case (roll-CaseTree (record { scrutinee = x; alts = as' })))
    ∙ case_folded fact_algebra (record { scrutinee = x; alts = as' }))
    ∙ and_from (facts_of_exp x).good (facts_of_alt_block as').good e h
