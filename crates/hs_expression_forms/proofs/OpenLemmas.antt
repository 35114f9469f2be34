-- Which operands and chains are open, and one more operand of a chain, as programs build them.
use Rattle.std.proofs.Common.{◌≡◌, ℕ, ◌+◌, Bool, true, false, List, [], ◌∷◌, ◌++◌, refl, sym, ap, ◌∙◌, subst}
use Rattle.std.specs.Prelude.{max, map, Option}
use Rattle.hs_trees.specs.Patterns.{Ts}
use Rattle.hs_modules.specs.Words.{qop_tokens}
use Rattle.hs_modules.specs.ExpressionExtents.{sign}
use Rattle.hs_modules.specs.Formed.{Facts, last_of, facts_of_operand, facts_of_infix, facts_of_signed}
use Rattle.hs_modules.specs.Formed.{facts_of_link}
use Rattle.hs_modules.specs.declared.names.QOpTree.{QOpTree}
use Rattle.hs_modules.specs.declared.expressions.OperandTree.{OperandTree}
use Rattle.hs_modules.specs.declared.expressions.OperandTree.TheVariants as d
use Rattle.hs_modules.specs.declared.expressions.AExpTree.{AExpTree}
use Rattle.hs_modules.specs.declared.expressions.LambdaTree.{LambdaTree, out-LambdaTree, roll-out-LambdaTree}
use Rattle.hs_modules.specs.declared.expressions.LetTree.{LetTree, out-LetTree, roll-out-LetTree}
use Rattle.hs_modules.specs.declared.expressions.IfTree.{IfTree, out-IfTree, roll-out-IfTree}
use Rattle.hs_modules.specs.declared.expressions.CaseTree.{CaseTree, out-CaseTree, roll-out-CaseTree}
use Rattle.hs_modules.specs.declared.expressions.InfixTree.{out-InfixTree, out-roll-InfixTree}
use Rattle.hs_modules.specs.declared.expressions.OpOperand.{OpOperand, out-OpOperand, out-roll-OpOperand}
use Rattle.hs_modules.specs.declared.expressions.SignedOperand.{SignedOperand, out-roll-SignedOperand}
use Rattle.hs_expression_forms.proofs.OperandLayerLemmas.{lambda_facts, let_facts, if_facts, case_facts, apply_facts}
use Rattle.hs_expression_forms.proofs.LinkLayerLemmas.{negated_of, operand_of, infix_facts, link_facts}
use Rattle.hs_expression_forms.proofs.LinkLayerLemmas.{signed_facts}
use Rattle.hs_expression_forms.proofs.LinkLemmas.{LinkState, make_infix, make_signed, make_link}
use Rattle.hs_expression_forms.proofs.LinkReturnLemmas.{SignedTook}
use Rattle.hs_expression_forms.proofs.LinkFirstLemmas.{link_step}

pub lambda_open : (x : LambdaTree) → (facts_of_operand (d.Lambda x)).is_open ≡ true
lambda_open x =
    let o = out-LambdaTree x in
    ap (λ y. (facts_of_operand (d.Lambda y)).is_open) (sym (roll-out-LambdaTree x))
    ∙ ap (λ (f : Facts). f.is_open) (lambda_facts ((o.first, o.rest), o.body))

pub let_open : (x : LetTree) → (facts_of_operand (d.Let x)).is_open ≡ true
let_open x =
    let o = out-LetTree x in
    ap (λ y. (facts_of_operand (d.Let y)).is_open) (sym (roll-out-LetTree x))
    ∙ ap (λ (f : Facts). f.is_open) (let_facts (o.decls, o.body))

pub if_open : (x : IfTree) → (facts_of_operand (d.If x)).is_open ≡ true
if_open x =
    let o = out-IfTree x in
    ap (λ y. (facts_of_operand (d.If y)).is_open) (sym (roll-out-IfTree x))
    ∙ ap (λ (f : Facts). f.is_open) (if_facts (o.test, (o.then_part, o.else_part)))

pub case_shut : (x : CaseTree) → (facts_of_operand (d.Case x)).is_open ≡ false
case_shut x =
    let o = out-CaseTree x in
    ap (λ y. (facts_of_operand (d.Case y)).is_open) (sym (roll-out-CaseTree x))
    ∙ ap (λ (f : Facts). f.is_open) (case_facts (o.scrutinee, o.alts))

pub apply_shut : (f : AExpTree) (xs : List AExpTree) → (facts_of_operand (d.Apply f xs)).is_open ≡ false
apply_shut f xs = ap (λ (g : Facts). g.is_open) (apply_facts (f, xs))

-- the last operand of a chain
abbrev pub signed_open : SignedOperand → Bool
signed_open s = (facts_of_operand (operand_of s)).is_open

abbrev pub last_open : SignedOperand → List OpOperand → Bool
last_open s [] = signed_open s
last_open s (x ∷ xs) = last_open (out-OpOperand x).operand xs

last_is : (s : SignedOperand) (f : Facts) → f ≡ facts_of_operand (operand_of s) → (xs : List OpOperand) →
    (last_of f (map facts_of_link xs)).is_open ≡ last_open s xs
last_is s f is [] = ap (λ (g : Facts). g.is_open) is
last_is s f is (x ∷ xs) = last_is (out-OpOperand x).operand (facts_of_link x) (link_facts x) xs

pub chain_open : (s : SignedOperand) (xs : List OpOperand) →
    (facts_of_infix (make_infix s xs)).is_open ≡ last_open s xs
chain_open s xs =
    let o = out-InfixTree (make_infix s xs) in
    ap (λ (f : Facts). f.is_open) (infix_facts (make_infix s xs))
    ∙ last_is o.first (facts_of_signed o.first) (signed_facts o.first) o.rest
    ∙ ap (λ l. last_open l.first l.rest) (out-roll-InfixTree (record { first = s; rest = xs }))

last_open_more : (s : SignedOperand) (xs : List OpOperand) (x : OpOperand) →
    last_open s (xs ++ x ∷ []) ≡ signed_open (out-OpOperand x).operand
last_open_more s [] x = refl
last_open_more s (y ∷ xs) x = last_open_more (out-OpOperand y).operand xs x

pub first_open : (s : SignedOperand) → (facts_of_infix (make_infix s [])).is_open ≡ signed_open s
first_open s = chain_open s []

pub more_open : (s : SignedOperand) (xs : List OpOperand) (op : QOpTree) (x : SignedOperand) →
    (facts_of_infix (make_infix s (xs ++ make_link op x ∷ []))).is_open ≡ signed_open x
more_open s xs op x =
    chain_open s (xs ++ make_link op x ∷ []) ∙ last_open_more s xs (make_link op x)
    ∙ ap (λ o. signed_open o.operand) (out-roll-OpOperand (record { op = op; operand = x }))

-- one more operand
pub links_step : (limit : Option ℕ) (ts : Ts) (s : SignedOperand) (xs : List OpOperand) (here : Ts) (deep ops : ℕ) →
    LinkState limit ts (make_infix s xs) here deep ops → (facts_of_infix (make_infix s xs)).is_open ≡ false →
    (op : QOpTree) (rest : Ts) → here ≡ qop_tokens op ++ rest → (x : SignedOperand) (rest' : Ts) (m : ℕ) →
    SignedTook limit deep (ops + 1) rest x rest' m →
    LinkState limit ts (make_infix s (xs ++ make_link op x ∷ [])) rest' (max deep m) ((ops + 1) + sign (negated_of x))
links_step limit ts s xs here deep ops st shut op rest at x rest' m k =
    subst (λ o. LinkState limit ts (make_infix o.first (o.rest ++ make_link op x ∷ [])) rest' (max deep m)
    ((ops + 1) + sign (negated_of x))) (out-roll-InfixTree (record { first = s; rest = xs }))
    (link_step limit ts (make_infix s xs) here deep ops st shut op rest at x rest' m k)

pub made_negated : (b : Bool) (e : OperandTree) → negated_of (make_signed b e) ≡ b
made_negated b e = ap (λ o. o.negated) (out-roll-SignedOperand (record { negated = b; operand = e }))

pub made_operand : (b : Bool) (e : OperandTree) → operand_of (make_signed b e) ≡ e
made_operand b e = ap (λ o. o.operand) (out-roll-SignedOperand (record { negated = b; operand = e }))
