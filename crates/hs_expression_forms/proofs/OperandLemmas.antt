-- Operands of a chain, each known by its first token.
use Rattle.std.proofs.Common.{◌≡◌, ℕ, zero, suc, Bool, true, false, [], ◌∷◌, ◌++◌, refl, sym, ap, ◌∙◌, subst}
use Rattle.std.proofs.Common.{true≢false, arith}
use Rattle.std.specs.Prelude.{nat_eq, ◌||◌}
use Rattle.std.proofs.lemmas.Bool.Decides.{nat_tests}
use Rattle.hs_forms.specs.Reading.{begins}
use Rattle.hs_forms.proofs.FormLemmas.{begins_append}
use Rattle.hs_forms.proofs.LimitLemmas.{or_left}
use Rattle.hs_tokens.specs.declared.terminal.Terminal.{Terminal}
use Rattle.hs_tokens.specs.declared.terminal.Terminal.TheVariants as t
use Rattle.hs_tokens.specs.declared.word.Word.TheVariants as w
use Rattle.hs_trees.specs.Patterns.{Ts}
use Rattle.hs_modules.specs.Tokens.{spelling_operand, spelling_aexp}
use Rattle.hs_modules.specs.Formed.{good_of}
use Rattle.hs_modules.specs.declared.expressions.OperandTree.{OperandTree, OperandTree-F, out-OperandTree}
use Rattle.hs_modules.specs.declared.expressions.OperandTree.{roll-OperandTree, roll-out-OperandTree}
use Rattle.hs_modules.specs.declared.expressions.OperandTree.TheVariants as d
use Rattle.hs_modules.specs.declared.expressions.LambdaTree.{out-LambdaTree, roll-out-LambdaTree}
use Rattle.hs_modules.specs.declared.expressions.LetTree.{out-LetTree, roll-out-LetTree}
use Rattle.hs_modules.specs.declared.expressions.IfTree.{out-IfTree, roll-out-IfTree}
use Rattle.hs_modules.specs.declared.expressions.CaseTree.{out-CaseTree, roll-out-CaseTree}
use Rattle.hs_modules.proofs.FoldingLemmas.{OperandTrees}
use Rattle.hs_expression_forms.specs.Trees.{Makes}
use Rattle.hs_expression_forms.specs.Expressions.{starts_aexp, starts_operand, operand_goes_on}
use Rattle.hs_expression_forms.specs.Expressions.{operands, lambdas, lets, ifs, cases, applies}
use Rattle.hs_expression_forms.proofs.OperandLayerLemmas.{Lambda, make_lambda, lambda_spelled, lambda_facts}
use Rattle.hs_expression_forms.proofs.OperandLayerLemmas.{lambda_deep, Let, make_let, let_spelled, let_facts, let_deep}
use Rattle.hs_expression_forms.proofs.OperandLayerLemmas.{If, make_if, if_spelled, if_facts, if_formed, if_deep, Case}
use Rattle.hs_expression_forms.proofs.OperandLayerLemmas.{make_case, case_spelled, case_facts, case_deep, Apply}
use Rattle.hs_expression_forms.proofs.OperandLayerLemmas.{make_apply, apply_spelled, apply_facts, apply_deep}
use Rattle.hs_expression_forms.proofs.AExpLayerLemmas.{aexp_starts}

-- which operand a token begins
abbrev pub operand_class : Terminal → ℕ
operand_class t.Backslash = 1
operand_class (t.Word w.Let) = 2
operand_class (t.Word w.If) = 3
operand_class (t.Word w.Case) = 4
operand_class (t.Var name) = 5
operand_class (t.QVar name) = 5
operand_class (t.Con name) = 5
operand_class (t.Integer text) = 5
operand_class (t.Char text) = 5
operand_class (t.Text text) = 5
operand_class t.LeftParen = 5
operand_class t.LeftBracket = 5
operand_class _ = 0

abbrev pub operand_test : ℕ → Ts → Bool
operand_test n = begins (λ k. nat_eq (operand_class k) n)

abbrev OperandOf : OperandTree → ℕ → Type 0
OperandOf x (suc zero) = (p : Lambda) × (x ≡ make_lambda p)
OperandOf x (suc (suc zero)) = (p : Let) × (x ≡ make_let p)
OperandOf x (suc (suc (suc zero))) = (p : If) × (x ≡ make_if p)
OperandOf x (suc (suc (suc (suc zero)))) = (p : Case) × (x ≡ make_case p)
OperandOf x (suc (suc (suc (suc (suc zero))))) = (p : Apply) × (x ≡ make_apply p)
OperandOf x _ = ⊥

record OperandView (x : OperandTree) : Type 0 where
  pub class : ℕ
  pub of : OperandOf x class
  pub first : (k : Terminal) × (ts : Ts) × (spelling_operand x ≡ k ∷ ts) × (operand_class k ≡ class)

aexp_class : (k : Terminal) → starts_aexp k ≡ true → operand_class k ≡ 5
aexp_class (t.Var n) h = refl
aexp_class (t.QVar n) h = refl
aexp_class (t.Con n) h = refl
aexp_class (t.Integer n) h = refl
aexp_class (t.Char n) h = refl
aexp_class (t.Text n) h = refl
aexp_class t.LeftParen h = refl
aexp_class t.LeftBracket h = refl
aexp_class _ h = absurd (true≢false (sym h))

aexp_first : (ts : Ts) → begins starts_aexp ts ≡ true → (k : Terminal) × (more : Ts) × (ts ≡ k ∷ more)
    × (operand_class k ≡ 5)
aexp_first [] h = absurd (true≢false (sym h))
aexp_first (k ∷ ts) h = (k, ts, refl, aexp_class k h)

operand_layer : (l : OperandTrees) → OperandView (roll-OperandTree l)
operand_layer (OperandTree-F.Lambda part) =
    let o = out-LambdaTree part in
    let p : Lambda = ((o.first, o.rest), o.body) in
    let is : roll-OperandTree (OperandTree-F.Lambda part) ≡ make_lambda p =
    d.rolls-Lambda part ∙ ap d.Lambda (sym (roll-out-LambdaTree part)) in
    record { class = 1; of = (p, is); first = (_, _, ap spelling_operand is ∙ lambda_spelled p, refl) }
operand_layer (OperandTree-F.Let part) =
    let o = out-LetTree part in
    let p : Let = (o.decls, o.body) in
    let is : roll-OperandTree (OperandTree-F.Let part) ≡ make_let p =
    d.rolls-Let part ∙ ap d.Let (sym (roll-out-LetTree part)) in
    record { class = 2; of = (p, is); first = (_, _, ap spelling_operand is ∙ let_spelled p, refl) }
operand_layer (OperandTree-F.If part) =
    let o = out-IfTree part in
    let p : If = (o.test, (o.then_part, o.else_part)) in
    let is : roll-OperandTree (OperandTree-F.If part) ≡ make_if p =
    d.rolls-If part ∙ ap d.If (sym (roll-out-IfTree part)) in
    record { class = 3; of = (p, is); first = (_, _, ap spelling_operand is ∙ if_spelled p, refl) }
operand_layer (OperandTree-F.Case part) =
    let o = out-CaseTree part in
    let p : Case = (o.scrutinee, o.alts) in
    let is : roll-OperandTree (OperandTree-F.Case part) ≡ make_case p =
    d.rolls-Case part ∙ ap d.Case (sym (roll-out-CaseTree part)) in
    record { class = 4; of = (p, is); first = (_, _, ap spelling_operand is ∙ case_spelled p, refl) }
operand_layer (OperandTree-F.Apply f xs) =
    let p : Apply = (f, xs) in
    let is : roll-OperandTree (OperandTree-F.Apply f xs) ≡ make_apply p = d.rolls-Apply f xs in
    let spelled : spelling_operand (roll-OperandTree (OperandTree-F.Apply f xs)) ≡ applies.tokens p =
    ap spelling_operand is ∙ apply_spelled p in
    let first = aexp_first (applies.tokens p) (begins_append starts_aexp (spelling_aexp f) _ (aexp_starts f)) in
    record { class = 5; of = (p, is); first = (first.0, first.1, spelled ∙ first.2, first.3) }

operand_view : (x : OperandTree) → OperandView x
operand_view x = subst OperandView (roll-out-OperandTree x) (operand_layer (out-OperandTree x))

operand_only : (n : ℕ) (x : OperandTree) (after : Ts) → operand_test n (spelling_operand x ++ after) ≡ true →
    OperandOf x n
operand_only n x after e =
    let v = operand_view x in
    let at : nat_eq (operand_class v.first.0) n ≡ true =
    ap (λ ts. operand_test n (ts ++ after)) (sym v.first.2) ∙ e in
    let same : operand_class v.first.0 ≡ n = grind (arith, nat_tests) in
    subst (OperandOf x) (sym v.first.3 ∙ same) v.of

-- the first token of an operand
class_starts : (k : Terminal) (n : ℕ) → operand_class k ≡ n → (n ≡ 0 → ⊥) → starts_operand k ≡ true
class_starts t.Backslash n e some = refl
class_starts (t.Word w.Let) n e some = refl
class_starts (t.Word w.If) n e some = refl
class_starts (t.Word w.Case) n e some = refl
class_starts (t.Word _) n e some = absurd (some (sym e))
class_starts (t.Var name) n e some = refl
class_starts (t.QVar name) n e some = refl
class_starts (t.Con name) n e some = refl
class_starts (t.Integer text) n e some = refl
class_starts (t.Char text) n e some = refl
class_starts (t.Text text) n e some = refl
class_starts t.LeftParen n e some = refl
class_starts t.LeftBracket n e some = refl
class_starts _ n e some = absurd (some (sym e))

pub operand_starts : (x : OperandTree) → begins starts_operand (spelling_operand x) ≡ true
operand_starts x =
    let v = operand_view x in
    ap (begins starts_operand) v.first.2
    ∙ class_starts v.first.0 v.class v.first.3 (λ e. none v.class e v.of)
  where
    none : (n : ℕ) → n ≡ 0 → OperandOf x n → ⊥
    none n e o = subst (OperandOf x) e o

pub lambda_makes : Makes operands lambdas make_lambda 1 (operand_test 1)
lambda_makes = record {
  spelled = lambda_spelled;
  formed = λ p. ap good_of (lambda_facts p);
  deep = lambda_deep;
  extends = λ p k e. ap (λ f. operand_goes_on f k) (sym (lambda_facts p)) ∙ e;
  starts = λ p after good. refl;
  only = λ x after good e. operand_only 1 x after e;
}

pub let_makes : Makes operands lets make_let 1 (operand_test 2)
let_makes = record {
  spelled = let_spelled;
  formed = λ p. ap good_of (let_facts p);
  deep = let_deep;
  extends = λ p k e. ap (λ f. operand_goes_on f k) (sym (let_facts p)) ∙ e;
  starts = λ p after good. refl;
  only = λ x after good e. operand_only 2 x after e;
}

pub if_makes : Makes operands ifs make_if 1 (operand_test 3)
if_makes = record {
  spelled = if_spelled;
  formed = if_formed;
  deep = if_deep;
  extends = λ p k e. ap (λ f. operand_goes_on f k) (sym (if_facts p)) ∙ e;
  starts = λ p after good. refl;
  only = λ x after good e. operand_only 3 x after e;
}

pub case_makes : Makes operands cases make_case 1 (operand_test 4)
case_makes = record {
  spelled = case_spelled;
  formed = λ p. ap good_of (case_facts p);
  deep = case_deep;
  extends = λ p k e. refl;
  starts = λ p after good. refl;
  only = λ x after good e. operand_only 4 x after e;
}

pub apply_test : (ts : Ts) → begins starts_aexp ts ≡ true → operand_test 5 ts ≡ true
apply_test ts h = let f = aexp_first ts h in
    ap (operand_test 5) f.2 ∙ ap (λ n. nat_eq n 5) f.3

or_none : (a : Bool) → a ≡ false → a || false ≡ false
or_none a e = ap (λ b. b || false) e

pub apply_makes : Makes operands applies make_apply 0 (operand_test 5)
apply_makes = record {
  spelled = apply_spelled;
  formed = λ p. ap good_of (apply_facts p);
  deep = λ p. (let e = apply_deep p in omega (arith, e));
  extends = λ p k e. or_none (starts_aexp k) (or_left (starts_aexp k) _ e);
  starts = λ p after good. apply_test (applies.tokens p ++ after)
      (begins_append starts_aexp (applies.tokens p) after (begins_append starts_aexp (spelling_aexp p.0) _
      (aexp_starts p.0)));
  only = λ x after good e. operand_only 5 x after e;
}
