-- Operands and `aexp`s are found again if the expressions and blocks in them are.
use Rattle.std.proofs.Common.{◌≡◌, ℕ, zero, suc, ◌+◌, ◌<◌, ◌≤◌, false, [], ◌∷◌, ◌++◌, length, refl, sym}
use Rattle.std.proofs.Common.{ap, ◌∙◌, subst, true≢false, arith, length-append, inl, inr}
use Rattle.std.specs.Prelude.{flat_map, nat_lt, replicate, None}
use Rattle.std.proofs.lemmas.Bool.Decides.{nat_tests}
use Rattle.hs_forms.proofs.CommaLemmas.{commas_ok}
use Rattle.hs_forms.proofs.LimitLemmas.{and_right}
use Rattle.hs_tokens.specs.Terminals.{is_comma, is_right_paren}
use Rattle.hs_tokens.specs.declared.terminal.Terminal.TheVariants as t
use Rattle.hs_tokens.specs.declared.word.Word.TheVariants as w
use Rattle.hs_trees.specs.Patterns.{Ts, spelling_apats, named_con}
use Rattle.hs_trees.specs.declared.patterns.GConTree.{GConTree}
use Rattle.hs_trees.specs.declared.patterns.GConTree.TheVariants as g
use Rattle.hs_modules.specs.Words.{qop_tokens}
use Rattle.hs_modules.specs.Tokens.{spelling_aexp, spelling_exp, spelling_infix, spelling_operand, spelling_alt_block}
use Rattle.hs_modules.specs.Tokens.{spelling_decl_block}
use Rattle.hs_modules.specs.declared.names.QOpTree.{QOpTree}
use Rattle.hs_modules.specs.declared.names.QVarTree.{QVarTree}
use Rattle.hs_modules.specs.declared.names.QVarTree.TheVariants as q
use Rattle.hs_modules.specs.declared.expressions.AExpTree.{AExpTree, AExpTree-F, out-AExpTree, roll-AExpTree}
use Rattle.hs_modules.specs.declared.expressions.AExpTree.{roll-out-AExpTree}
use Rattle.hs_modules.specs.declared.expressions.AExpTree.TheVariants as a
use Rattle.hs_modules.specs.declared.expressions.OperandTree.{OperandTree, OperandTree-F, out-OperandTree}
use Rattle.hs_modules.specs.declared.expressions.OperandTree.{roll-OperandTree, roll-out-OperandTree}
use Rattle.hs_modules.specs.declared.expressions.OperandTree.TheVariants as d
use Rattle.hs_modules.specs.declared.expressions.LambdaTree.{out-LambdaTree, roll-out-LambdaTree}
use Rattle.hs_modules.specs.declared.expressions.LetTree.{out-LetTree, roll-out-LetTree}
use Rattle.hs_modules.specs.declared.expressions.IfTree.{out-IfTree, roll-out-IfTree}
use Rattle.hs_modules.specs.declared.expressions.CaseTree.{out-CaseTree, roll-out-CaseTree}
use Rattle.hs_modules.proofs.FoldingLemmas.{AExpTrees, OperandTrees}
use Rattle.hs_expression_forms.specs.declared.front.Front.TheVariants as fr
use Rattle.hs_expression_forms.specs.Trees.{Took, ended, row}
use Rattle.hs_expression_forms.specs.Expressions.{aexps, operands, exps, infixes, apats, applies, exp_parts}
use Rattle.hs_expression_forms.specs.Expressions.{decl_blocks, alt_blocks, starts_aexp, starts_exp, last_part}
use Rattle.hs_expression_forms.specs.Fronts.{Bunch, Inside, bunch_of, bunches, insides, section_ops, right_sections}
use Rattle.hs_expression_forms.proofs.OperandLayerLemmas.{Lambda, make_lambda, Let, make_let, If, make_if, Case}
use Rattle.hs_expression_forms.proofs.OperandLayerLemmas.{make_case, Apply, make_apply}
use Rattle.hs_expression_forms.proofs.OperandLemmas.{operand_test, lambda_makes, let_makes, if_makes, case_makes}
use Rattle.hs_expression_forms.proofs.OperandLemmas.{apply_makes}
use Rattle.hs_expression_forms.proofs.AExpLayerLemmas.{Parts, con_is}
use Rattle.hs_expression_forms.proofs.AExpLemmas.{aexp_test, make_inside, make_right, inside_makes, right_makes}
use Rattle.hs_expression_forms.proofs.AExpLemmas.{list_makes, inside_embeds}
use Rattle.hs_expression_forms.proofs.BunchLemmas.{exp_lists}
use Rattle.hs_expression_forms.proofs.QOpLemmas.{qop_unique, qop_long}
use Rattle.hs_expression_forms.proofs.RowLemmas.{exp_follows, else_follows, section_follows, block_follows}
use Rattle.hs_expression_forms.proofs.RowLemmas.{is_left_brace}
use Rattle.hs_expression_forms.proofs.RowLemmas.{exp_ends, infix_ends}
use Rattle.hs_operand_forms.proofs.ListLemmas.{aexp_lists}
use Rattle.hs_operand_forms.proofs.WordLemmas.{var_took, qvar_took, con_took, literal_took, nil_took, symbol_took}
use Rattle.hs_operand_forms.proofs.BracketLemmas.{tuple_took}
use Rattle.hs_one_tree.specs.Found.{Found, Upto}
use Rattle.hs_one_tree.proofs.WholeLemmas.{each_upto}
use Rattle.hs_one_tree.proofs.FoundLemmas.{found, same_found, ended_found, list_found, between_found, row_found}
use Rattle.hs_one_tree.proofs.FoundLemmas.{plain_found, token_found, embedded_found, read_found}
use Rattle.hs_one_tree.proofs.PatternFoundLemmas.{apats_found}

bunch_ends : (b : Bunch) → bunches.extends b t.RightParen ≡ false
bunch_ends (fr.Exp e, []) = exp_ends t.RightParen refl e
bunch_ends (fr.Section x op, []) = refl
bunch_ends (h, x ∷ xs) = exp_ends t.RightParen refl (last_part x xs)

parts_end : (p : Parts) → (exp_parts None).extends p t.RightBracket ≡ false
parts_end p = exp_ends t.RightBracket refl (last_part p.0 p.1)

-- what is read behind its own tokens
name_found : (x : AExpTree) (ts : Ts) → ((rest : Ts) → Took aexps None (ts ++ rest) x rest 0) → Found aexps x
name_found x ts took good rest quiet = found aexps (ts ++ rest) x rest 0 (took rest)

var_found : (x : QVarTree) → Found aexps (a.Var x)
var_found (q.Id n) = name_found _ (t.Var n ∷ []) (λ rest. var_took None (t.Var n ∷ rest) n rest refl)
var_found (q.QualifiedId n) = name_found _ (t.QVar n ∷ []) (λ rest. qvar_took None (t.QVar n ∷ rest) n rest refl)
var_found (q.Sym n) =
    name_found _ (t.LeftParen ∷ t.VarSym n ∷ t.RightParen ∷ [])
    (λ rest. symbol_took None (t.LeftParen ∷ t.VarSym n ∷ t.RightParen ∷ rest) (t.VarSym n) rest refl refl)
var_found (q.QualifiedSym n) =
    name_found _ (t.LeftParen ∷ t.QVarSym n ∷ t.RightParen ∷ [])
    (λ rest. symbol_took None (t.LeftParen ∷ t.QVarSym n ∷ t.RightParen ∷ rest) (t.QVarSym n) rest refl refl)

tuple_at : (n : ℕ) → n < 15 → Found aexps (a.Con (named_con n))
tuple_at n most good rest quiet =
    found aexps (t.LeftParen ∷ (replicate n t.Comma ++ (t.RightParen ∷ rest))) (a.Con (named_con n)) rest 0
    (tuple_took None (replicate n t.Comma ++ (t.RightParen ∷ rest)) n rest 0
    (commas_ok t.Comma t.RightParen is_comma is_right_paren refl refl refl 15
    (replicate n t.Comma ++ (t.RightParen ∷ rest)) n rest refl most))

con_found : (x : GConTree) → Found aexps (a.Con x)
con_found g.Unit = tuple_at 0 (omega arith)
con_found g.List =
    name_found _ (t.LeftBracket ∷ t.RightBracket ∷ [])
    (λ rest. nil_took None (t.LeftBracket ∷ t.RightBracket ∷ rest) rest refl)
con_found (g.Con n) = name_found _ (t.Con n ∷ []) (λ rest. con_took None (t.Con n ∷ rest) n rest refl)
con_found (g.Sym n) =
    name_found _ (t.LeftParen ∷ t.ConSym n ∷ t.RightParen ∷ [])
    (λ rest. symbol_took None (t.LeftParen ∷ t.ConSym n ∷ t.RightParen ∷ rest) (t.ConSym n) rest refl refl)
con_found g.Colon =
    name_found _ (t.LeftParen ∷ t.Colon ∷ t.RightParen ∷ [])
    (λ rest. symbol_took None (t.LeftParen ∷ t.Colon ∷ t.RightParen ∷ rest) t.Colon rest refl refl)
con_found (g.Tuple zero) = λ good. absurd (true≢false (sym good ∙ con_is (g.Tuple 0)))
con_found (g.Tuple (suc n)) =
    λ good.
    let most = and_right (nat_lt 0 (suc n)) _ (sym (con_is (g.Tuple (suc n))) ∙ good) in
    tuple_at (suc n) (grind (arith, nat_tests)) good

op_found : (op : QOpTree) → Found section_ops op
op_found op good rest quiet =
    read_found section_ops op rest (record {
      good = (good, tt);
      only = λ s other after same it still e. qop_unique op other s after e;
    }) (qop_long op)

module _ (n : ℕ) (exps_below : Upto exps n) (infixes_below : Upto infixes n) (bunches_below : Upto bunches n) where
  inside_found : (i : Inside) → length (spelling_aexp (make_inside i)) ≤ suc n → Found aexps (make_inside i)
  inside_found i short =
      let spelled = inside_makes.spelled i in
      let long = length-append (bunches.tokens (bunch_of i)) (t.RightParen ∷ []) in
      token_found aexps t.LeftParen insides make_inside 1 (aexp_test 12) inside_makes (omega arith) i
      (embedded_found insides (ended bunches t.RightParen) bunch_of inside_embeds i (λ rest q. q)
      (ended_found bunches t.RightParen bunch_ends (bunch_of i)
      (bunches_below (bunch_of i) (omega (arith, ap length spelled)))))

  right_found : (p : _) → length (spelling_aexp (make_right p)) ≤ suc n → Found aexps (make_right p)
  right_found p short =
      let spelled = right_makes.spelled p in
      let long = length-append (qop_tokens p.0) (spelling_infix p.1 ++ t.RightParen ∷ []) in
      let more = length-append (spelling_infix p.1) (t.RightParen ∷ []) in
      token_found aexps t.LeftParen right_sections make_right 1 (aexp_test 13) right_makes (omega arith) p
      (row_found section_ops (ended infixes t.RightParen) starts_exp section_follows p.0 p.1 (op_found p.0)
      (ended_found infixes t.RightParen (infix_ends t.RightParen refl) p.1
      (infixes_below p.1 (omega (arith, ap length spelled)))))

  parts_found : (p : Parts) → length (spelling_aexp (a.List p.0 p.1)) ≤ suc n → Found aexps (a.List p.0 p.1)
  parts_found p short =
      let spelled = list_makes.spelled p in
      let long = length-append (spelling_exp p.0 ++ flat_map (λ x. t.Comma ∷ spelling_exp x) p.1)
      (t.RightBracket ∷ []) in
      let more = length-append (spelling_exp p.0) (flat_map (λ x. t.Comma ∷ spelling_exp x) p.1) in
      let len : length (spelling_exp p.0) + length (flat_map (λ x. t.Comma ∷ spelling_exp x) p.1) ≤ n =
      omega (arith, ap length spelled) in
      token_found aexps t.LeftBracket (ended (exp_parts None) t.RightBracket) (λ p. a.List p.0 p.1) 1 (aexp_test 6)
      list_makes (omega arith) p
      (ended_found (exp_parts None) t.RightBracket parts_end p
      (between_found exps t.Comma is_comma exp_lists None p.0 p.1 (exps_below p.0 (omega arith))
      (each_upto (λ x. t.Comma ∷ spelling_exp x) (Found exps) n (λ x short. exps_below x (omega (arith, short))) p.1
      (omega arith))))

  aexp_of : (l : AExpTrees) → length (spelling_aexp (roll-AExpTree l)) ≤ suc n → Found aexps (roll-AExpTree l)
  aexp_of (AExpTree-F.Var x) short = same_found aexps _ _ (a.rolls-Var x) (var_found x)
  aexp_of (AExpTree-F.Con x) short = same_found aexps _ _ (a.rolls-Con x) (con_found x)
  aexp_of (AExpTree-F.Literal x) short =
      same_found aexps _ _ (a.rolls-Literal x) (λ good rest quiet. found aexps _ (a.Literal x) rest 0
      (literal_took None _ x rest refl))
  aexp_of (AExpTree-F.Parts x xs) short =
      let is = a.rolls-Parts x xs in
      same_found aexps _ _ is (inside_found (inl (x, xs)) (subst (λ y. length (spelling_aexp y) ≤ suc n) is short))
  aexp_of (AExpTree-F.List x xs) short =
      let is = a.rolls-List x xs in
      same_found aexps _ _ is (parts_found (x, xs) (subst (λ y. length (spelling_aexp y) ≤ suc n) is short))
  aexp_of (AExpTree-F.LeftSection x op) short =
      let is = a.rolls-LeftSection x op in
      same_found aexps _ _ is (inside_found (inr (x, op)) (subst (λ y. length (spelling_aexp y) ≤ suc n) is short))
  aexp_of (AExpTree-F.RightSection op x) short =
      let is = a.rolls-RightSection op x in
      same_found aexps _ _ is (right_found (op, x) (subst (λ y. length (spelling_aexp y) ≤ suc n) is short))

  aexps_found : Upto aexps (suc n)
  aexps_found x =
      subst (λ y. length (spelling_aexp y) ≤ suc n → Found aexps y) (roll-out-AExpTree x) (aexp_of (out-AExpTree x))

  module _ (decls_below : Upto decl_blocks n) (alts_below : Upto alt_blocks n) where
    lambda_found : (p : Lambda) → length (spelling_operand (make_lambda p)) ≤ suc n → Found operands (make_lambda p)
    lambda_found p short =
        let spelled = lambda_makes.spelled p in
        let long = length-append (spelling_apats p.0 ++ t.Arrow ∷ []) (spelling_exp p.1) in
        token_found operands t.Backslash (row (ended apats t.Arrow) exps) make_lambda 1 (operand_test 1) lambda_makes
        (omega arith) p
        (row_found (ended apats t.Arrow) exps starts_exp (exp_follows apats t.Arrow) p.0 p.1
        (ended_found apats t.Arrow (λ x. refl) p.0 (apats_found p.0))
        (exps_below p.1 (omega (arith, ap length spelled))))

    let_found : (p : Let) → length (spelling_operand (make_let p)) ≤ suc n → Found operands (make_let p)
    let_found p short =
        let spelled = let_makes.spelled p in
        let long = length-append (spelling_decl_block p.0 ++ t.Word w.In ∷ []) (spelling_exp p.1) in
        let more = length-append (spelling_decl_block p.0) (t.Word w.In ∷ []) in
        token_found operands (t.Word w.Let) (row (ended decl_blocks (t.Word w.In)) exps) make_let 1 (operand_test 2)
        let_makes (omega arith) p
        (row_found (ended decl_blocks (t.Word w.In)) exps starts_exp (exp_follows decl_blocks (t.Word w.In)) p.0 p.1
        (ended_found decl_blocks (t.Word w.In) (λ x. refl) p.0 (decls_below p.0 (omega (arith, ap length spelled))))
        (exps_below p.1 (omega (arith, ap length spelled))))

    if_found : (p : If) → length (spelling_operand (make_if p)) ≤ suc n → Found operands (make_if p)
    if_found p short =
        let spelled = if_makes.spelled p in
        let then_at = t.Word w.Then in
        let else_at = t.Word w.Else in
        let one = length-append (spelling_exp p.0 ++ then_at ∷ [])
        ((spelling_exp p.1.0 ++ else_at ∷ []) ++ spelling_exp p.1.1) in
        let two = length-append (spelling_exp p.0) (then_at ∷ []) in
        let three = length-append (spelling_exp p.1.0 ++ else_at ∷ []) (spelling_exp p.1.1) in
        let four = length-append (spelling_exp p.1.0) (else_at ∷ []) in
        token_found operands (t.Word w.If) (row (ended exps then_at) (row (ended exps else_at) exps)) make_if 1
        (operand_test 3) if_makes (omega arith) p
        (row_found (ended exps then_at) (row (ended exps else_at) exps) starts_exp (else_follows exps then_at else_at)
        p.0 p.1
        (ended_found exps then_at (exp_ends then_at refl) p.0 (exps_below p.0 (omega (arith, ap length spelled))))
        (row_found (ended exps else_at) exps starts_exp (exp_follows exps else_at) p.1.0 p.1.1
        (ended_found exps else_at (exp_ends else_at refl) p.1.0 (exps_below p.1.0 (omega (arith, ap length spelled))))
        (exps_below p.1.1 (omega (arith, ap length spelled)))))

    case_found : (p : Case) → length (spelling_operand (make_case p)) ≤ suc n → Found operands (make_case p)
    case_found p short =
        let spelled = case_makes.spelled p in
        let of = t.Word w.Of in
        let one = length-append (spelling_exp p.0 ++ of ∷ []) (spelling_alt_block p.1) in
        let two = length-append (spelling_exp p.0) (of ∷ []) in
        token_found operands (t.Word w.Case) (row (ended exps of) alt_blocks) make_case 1 (operand_test 4) case_makes
        (omega arith) p
        (row_found (ended exps of) alt_blocks is_left_brace (block_follows exps of) p.0 p.1
        (ended_found exps of (exp_ends of refl) p.0 (exps_below p.0 (omega (arith, ap length spelled))))
        (alts_below p.1 (omega (arith, ap length spelled))))

    apply_found : (p : Apply) → length (spelling_operand (make_apply p)) ≤ suc n → Found operands (make_apply p)
    apply_found p short =
        let spelled = apply_makes.spelled p in
        let long = length-append (spelling_aexp p.0) (flat_map spelling_aexp p.1) in
        let len : length (spelling_aexp p.0) + length (flat_map spelling_aexp p.1) ≤ suc n =
        omega (arith, ap length spelled) in
        plain_found operands applies make_apply (operand_test 5) apply_makes p
        (list_found aexps starts_aexp aexp_lists None p.0 p.1 (aexps_found p.0 (omega arith))
        (each_upto spelling_aexp (Found aexps) (suc n) aexps_found p.1 (omega arith)))

    by : (x y : OperandTree) → x ≡ y → (length (spelling_operand y) ≤ suc n → Found operands y) →
        length (spelling_operand x) ≤ suc n → Found operands x
    by x y is f short = same_found operands x y is (f (subst (λ z. length (spelling_operand z) ≤ suc n) is short))

    operand_of : (l : OperandTrees) → length (spelling_operand (roll-OperandTree l)) ≤ suc n →
        Found operands (roll-OperandTree l)
    operand_of (OperandTree-F.Lambda part) =
        let o = out-LambdaTree part in
        let p : Lambda = ((o.first, o.rest), o.body) in
        by _ (make_lambda p) (d.rolls-Lambda part ∙ ap d.Lambda (sym (roll-out-LambdaTree part))) (lambda_found p)
    operand_of (OperandTree-F.Let part) =
        let o = out-LetTree part in
        let p : Let = (o.decls, o.body) in
        by _ (make_let p) (d.rolls-Let part ∙ ap d.Let (sym (roll-out-LetTree part))) (let_found p)
    operand_of (OperandTree-F.If part) =
        let o = out-IfTree part in
        let p : If = (o.test, (o.then_part, o.else_part)) in
        by _ (make_if p) (d.rolls-If part ∙ ap d.If (sym (roll-out-IfTree part))) (if_found p)
    operand_of (OperandTree-F.Case part) =
        let o = out-CaseTree part in
        let p : Case = (o.scrutinee, o.alts) in
        by _ (make_case p) (d.rolls-Case part ∙ ap d.Case (sym (roll-out-CaseTree part))) (case_found p)
    operand_of (OperandTree-F.Apply f xs) = by _ (make_apply (f, xs)) (d.rolls-Apply f xs) (apply_found (f, xs))

    -- each operand with one token more
    pub operands_found : Upto operands (suc n)
    operands_found x =
        subst (λ y. length (spelling_operand y) ≤ suc n → Found operands y) (roll-out-OperandTree x)
        (operand_of (out-OperandTree x))
