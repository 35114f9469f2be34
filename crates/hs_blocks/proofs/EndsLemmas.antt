-- Which chains and operands end in a type.
use Rattle.std.proofs.Common.{◌≡◌, ◌+◌, ◌<◌, ℕ, true, false, List, [], ◌∷◌, ◌++◌, length, take, get_or, refl}
use Rattle.std.proofs.Common.{sym, ap, ◌∙◌}
use Rattle.std.specs.Prelude.{map}
use Rattle.std.proofs.lemmas.List.{take_more}
use Rattle.hs_modules.specs.Formed.{Facts, fact_algebra, last_of, facts_of_exp, facts_of_infix}
use Rattle.hs_modules.specs.Formed.{facts_of_link, facts_of_operand, facts_of_signed}
use Rattle.hs_modules.specs.declared.expressions.AExpTree.{AExpTree}
use Rattle.hs_modules.specs.declared.expressions.CaseTree.{CaseTree, out-CaseTree, roll-out-CaseTree}
use Rattle.hs_modules.specs.declared.expressions.ExpTree.{ExpTree-F}
use Rattle.hs_modules.specs.declared.expressions.ExpTree.TheVariants as x
use Rattle.hs_modules.specs.declared.expressions.IfTree.{IfTree, out-IfTree, roll-out-IfTree}
use Rattle.hs_modules.specs.declared.expressions.InfixTree.{InfixTree, out-InfixTree}
use Rattle.hs_modules.specs.declared.expressions.LambdaTree.{LambdaTree, out-LambdaTree, roll-out-LambdaTree}
use Rattle.hs_modules.specs.declared.expressions.LetTree.{LetTree, out-LetTree, roll-out-LetTree}
use Rattle.hs_modules.specs.declared.expressions.OpOperand.{OpOperand, out-OpOperand}
use Rattle.hs_modules.specs.declared.expressions.OperandTree.TheVariants as d
use Rattle.hs_modules.specs.declared.expressions.SignedOperand.{SignedOperand}
use Rattle.hs_trees.specs.declared.types.TypeTree.{TypeTree}
use Rattle.hs_modules.proofs.FoldingLemmas.{exp_folded}
use Rattle.hs_expression_forms.proofs.LinkLayerLemmas.{operand_of, infix_facts, link_facts, signed_facts}
use Rattle.hs_expression_forms.proofs.OperandLayerLemmas.{lambda_facts, let_facts, if_facts, case_facts, apply_facts}

-- a lambda ends in a type where its body does
pub lambda_type : (l : LambdaTree) →
    (facts_of_exp (out-LambdaTree l).body).ends_in_type ≡ (facts_of_operand (d.Lambda l)).ends_in_type
lambda_type l =
    let o = out-LambdaTree l in
    sym (ap (λ y. (facts_of_operand (d.Lambda y)).ends_in_type) (sym (roll-out-LambdaTree l))
    ∙ ap (λ (f : Facts). f.ends_in_type) (lambda_facts ((o.first, o.rest), o.body)))

-- `let` ends in a type where its body does
pub let_type : (l : LetTree) →
    (facts_of_exp (out-LetTree l).body).ends_in_type ≡ (facts_of_operand (d.Let l)).ends_in_type
let_type l =
    let o = out-LetTree l in
    sym (ap (λ y. (facts_of_operand (d.Let y)).ends_in_type) (sym (roll-out-LetTree l))
    ∙ ap (λ (f : Facts). f.ends_in_type) (let_facts (o.decls, o.body)))

-- `if` ends in a type where its last part does
pub if_type : (l : IfTree) →
    (facts_of_exp (out-IfTree l).else_part).ends_in_type ≡ (facts_of_operand (d.If l)).ends_in_type
if_type l =
    let o = out-IfTree l in
    sym (ap (λ y. (facts_of_operand (d.If y)).ends_in_type) (sym (roll-out-IfTree l))
    ∙ ap (λ (f : Facts). f.ends_in_type) (if_facts (o.test, (o.then_part, o.else_part))))

-- `case` ends in its block
pub case_type : (l : CaseTree) → false ≡ (facts_of_operand (d.Case l)).ends_in_type
case_type l =
    let o = out-CaseTree l in
    sym (ap (λ y. (facts_of_operand (d.Case y)).ends_in_type) (sym (roll-out-CaseTree l))
    ∙ ap (λ (f : Facts). f.ends_in_type) (case_facts (o.scrutinee, o.alts)))

-- an application ends in no type
pub apply_type : (f : AExpTree) (xs : List AExpTree) → false ≡ (facts_of_operand (d.Apply f xs)).ends_in_type
apply_type f xs = sym (ap (λ (g : Facts). g.ends_in_type) (apply_facts (f, xs)))

-- an expression without a type behind it ends as its chain does
pub infix_type : (c : InfixTree) → (facts_of_infix c).ends_in_type ≡ (facts_of_exp (x.Infix c)).ends_in_type
unfolding fact_algebra
infix_type c =
    sym (ap (λ y. (facts_of_exp y).ends_in_type) (sym (x.rolls-Infix c))
    ∙ ap (λ (f : Facts). f.ends_in_type) (exp_folded fact_algebra (ExpTree-F.Infix c)))

-- an annotated expression ends in its type
pub annotated_type : (c : InfixTree) (ty : TypeTree) → true ≡ (facts_of_exp (x.Annotated c ty)).ends_in_type
unfolding fact_algebra
annotated_type c ty =
    sym (ap (λ y. (facts_of_exp y).ends_in_type) (sym (x.rolls-Annotated c ty))
    ∙ ap (λ (f : Facts). f.ends_in_type) (exp_folded fact_algebra (ExpTree-F.Annotated c ty)))

-- an operator and its operand end as the operand does
pub link_type : (x : OpOperand) →
    (facts_of_operand (operand_of (out-OpOperand x).operand)).ends_in_type ≡ (facts_of_link x).ends_in_type
link_type x = sym (ap (λ (f : Facts). f.ends_in_type) (link_facts x))

-- an operand with its sign ends as it does without
pub first_type : (s : SignedOperand) →
    (facts_of_operand (operand_of s)).ends_in_type ≡ (facts_of_signed s).ends_in_type
first_type s = sym (ap (λ (f : Facts). f.ends_in_type) (signed_facts s))

-- a chain ends as its last operand does
pub chain_type : (c : InfixTree) →
    (last_of (facts_of_signed (out-InfixTree c).first) (map facts_of_link (out-InfixTree c).rest)).ends_in_type
    ≡ (facts_of_infix c).ends_in_type
chain_type c = sym (ap (λ (f : Facts). f.ends_in_type) (infix_facts c))

-- the last of facts and one more
last_more : (f : Facts) (xs : List OpOperand) (x : OpOperand) →
    last_of f (map facts_of_link (xs ++ x ∷ [])) ≡ facts_of_link x
last_more f [] x = refl
last_more f (y ∷ xs) x = last_more (facts_of_link y) xs x

-- a loop over links, one link more
pub type_more : (f : Facts) (xs : List OpOperand) (i : ℕ) (x : OpOperand) → i < length xs → x ≡ get_or xs i x →
    (facts_of_link x).ends_in_type ≡ (last_of f (map facts_of_link (take (i + 1) xs))).ends_in_type
type_more f xs i x within is =
    sym (ap (λ ys. (last_of f (map facts_of_link ys)).ends_in_type) (take_more xs i x within)
    ∙ ap (λ (g : Facts). g.ends_in_type) (last_more f (take i xs) (get_or xs i x))
    ∙ ap (λ y. (facts_of_link y).ends_in_type) (sym is))
