-- What stands behind an opening bracket of an expression, by the production that the tokens belong to.
use Rattle.std.proofs.Common.{◌≡◌, ℕ, ◌+◌, ◌≤◌, Bool, true, false, [], ◌∷◌, ◌++◌, length, refl, sym, ap, ◌∙◌}
use Rattle.std.proofs.Common.{subst, true≢false, arith, length-append, append_assoc, inl, inr}
use Rattle.std.specs.Prelude.{flat_map, nat_eq, ◌||◌, Option}
use Rattle.std.proofs.lemmas.Bool.Decides.{nat_tests}
use Rattle.hs_forms.specs.Reading.{begins, SameStart, Refuses}
use Rattle.hs_forms.specs.Limits.{Within, lowered}
use Rattle.hs_forms.specs.Answers.{Rejects}
use Rattle.hs_forms.specs.declared.fault.Fault.{Fault}
use Rattle.hs_forms.proofs.FormLemmas.{begins_same, same_start_append, refuses_behind}
use Rattle.hs_forms.proofs.StateLemmas.{fails_after}
use Rattle.hs_tokens.specs.Terminals.{minus, is_minus, is_right_paren, is_right_bracket, is_backquote}
use Rattle.hs_tokens.specs.declared.terminal.Terminal.{Terminal}
use Rattle.hs_tokens.specs.declared.terminal.Terminal.TheVariants as t
use Rattle.hs_trees.specs.Types.{starts_tuple_name}
use Rattle.hs_trees.specs.Patterns.{Ts}
use Rattle.hs_modules.specs.Words.{qop_tokens}
use Rattle.hs_modules.specs.Tokens.{spelling_aexp, spelling_exp, spelling_infix, spelling_operand, sign_tokens}
use Rattle.hs_modules.specs.Tokens.{spelling_link}
use Rattle.hs_modules.specs.declared.expressions.AExpTree.{AExpTree}
use Rattle.hs_modules.specs.declared.expressions.ExpTree.{ExpTree}
use Rattle.hs_modules.specs.declared.expressions.InfixTree.{InfixTree, out-InfixTree}
use Rattle.hs_modules.specs.declared.expressions.OperandTree.{OperandTree}
use Rattle.hs_expression_forms.specs.Trees.{Trees, within, Took, Failed, behind_token, Makes}
use Rattle.hs_expression_forms.specs.Expressions.{aexps, depth_of_exp, depth_of_infix}
use Rattle.hs_expression_forms.specs.Fronts.{Inside, insides}
use Rattle.hs_expression_forms.specs.Links.{first_pieces, sign_of, pieces_of_link}
use Rattle.hs_expression_forms.proofs.TreesLemmas.{behind_took, made_took, made_refuses}
use Rattle.hs_expression_forms.proofs.LinkLayerLemmas.{negated_of, operand_of, infix_spelled, signed_spelled}
use Rattle.hs_expression_forms.proofs.LinkLayerLemmas.{infix_deep}
use Rattle.hs_expression_forms.proofs.LinkReturnLemmas.{operand_not_minus}
use Rattle.hs_expression_forms.proofs.FrontLemmas.{ExpCase, is_plain, is_typed, exp_case, plain_spelled, plain_deep}
use Rattle.hs_expression_forms.proofs.FrontLemmas.{typed_deep}
use Rattle.hs_expression_forms.proofs.AExpLemmas.{aexp_class, aexp_test, paren_class, minus_class}
use Rattle.hs_operand_forms.specs.Brackets.{is_symbol, is_special}

same_class : (n : ℕ) → nat_eq n n ≡ true
same_class n = grind (arith, nat_tests)

-- tokens that go on from the ones that were read begin as the given ones
pub same_front : (f : Terminal → Bool) (ts before bad s : Ts) (b : Bool) → ts ≡ before ++ bad → SameStart bad s →
    begins f ts ≡ b → begins f (before ++ s) ≡ b
same_front f ts before bad s b split same h =
    begins_same f (before ++ bad) (before ++ s) (same_start_append before bad s same) ∙ ap (begins f) (sym split) ∙ h

module _ {P : Type 0} (k : Terminal) (part : Trees Terminal P) (make : P → AExpTree) (used class : ℕ)
    (w : Makes aexps (behind_token k part) make used (aexp_test class)) (le : used ≤ 1) (limit : Option ℕ) where
  pub opened_took : Within limit used → (ts : Ts) (p : P) (rest : Ts) (m : ℕ) →
      Took part (lowered limit used) ts p rest m → Took aexps limit (k ∷ ts) (make p) rest (m + used)
  opened_took room ts p rest m acc =
      made_took aexps (behind_token k part) make used (aexp_test class) w limit room (k ∷ ts) p rest m
      (behind_took part (lowered limit used) k (k ∷ ts) ts p rest m refl acc) (omega (arith, acc.room, le))

  pub opened_failed : Within limit used → (ts : Ts) →
      ((before bad s : Ts) → ts ≡ before ++ bad → SameStart bad s →
      Refuses (within part (lowered limit used)) before bad → aexp_class (k ∷ (before ++ s)) ≡ class) →
      (e : Fault) → Failed part (lowered limit used) ts e → Failed aexps limit (k ∷ ts) e
  opened_failed room ts stays e r =
      fails_after (within aexps limit) (within part (lowered limit used)) (k ∷ []) (k ∷ ts) ts e refl
      (λ before bad split q. made_refuses aexps (behind_token k part) make used (aexp_test class) w limit room
      (k ∷ before) bad (λ s same. ap (λ n. nat_eq n class) (stays before bad s split same q) ∙ same_class class)
      (refuses_behind k (within part (lowered limit used)) before bad q)) r

  -- only trees that are too deep go on here
  pub opened_over : (front bad more : Ts) (x : AExpTree) → (within aexps limit).Good x →
      front ++ more ≡ spelling_aexp x → ((s : Ts) → SameStart bad s → aexp_class (front ++ s) ≡ class) →
      ((p : P) (s after : Ts) → SameStart bad s → front ++ s ≡ spelling_aexp (make p) ++ after →
      Within limit (part.deep p + used) → ⊥) → (ts : Ts) → ts ≡ front ++ bad →
      Rejects (within aexps limit) ts (length bad)
  opened_over front bad more x good spelled stays over ts at = record {
    before = front;
    bad = bad;
    split = at;
    left_is = refl;
    refuses = record {
      begun = (more, x, good, spelled);
      never = λ s other after same g quiet e.
          let q = w.only other after g.0 (ap (aexp_test class) (sym e)
          ∙ ap (λ n. nat_eq n class) (stays s same) ∙ same_class class) in
          over q.0 s after same (e ∙ ap (λ y. spelling_aexp y ++ after) q.1)
          (subst (Within limit) (ap aexps.deep q.1 ∙ w.deep q.0) g.1);
    };
  }

-- the production behind a `(`
pub plain_class : (s : Ts) → begins is_special s ≡ false → paren_class s ≡ 12
plain_class [] h = refl
plain_class (t.RightParen ∷ s) h = absurd (true≢false h)
plain_class (t.Comma ∷ s) h = absurd (true≢false h)
plain_class (t.VarSym n ∷ s) h = absurd (true≢false h)
plain_class (t.QVarSym n ∷ s) h = absurd (true≢false h)
plain_class (t.ConSym n ∷ s) h = absurd (true≢false h)
plain_class (t.Colon ∷ s) h = absurd (true≢false h)
plain_class (t.Backquote ∷ s) h = absurd (true≢false h)
plain_class (_ ∷ s) h = refl

pub minus_paren : (s : Ts) → begins is_right_paren s ≡ false → paren_class (t.VarSym minus ∷ s) ≡ 12
minus_paren [] h = refl
minus_paren (t.RightParen ∷ s) h = absurd (true≢false h)
minus_paren (_ ∷ s) h = refl

pub symbol_paren : (k : Terminal) (s : Ts) → is_symbol k ≡ true → is_minus k ≡ false →
    begins is_right_paren s ≡ false → paren_class (k ∷ s) ≡ 13
symbol_paren (t.VarSym n) [] h m e = ap minus_class m
symbol_paren (t.VarSym n) (t.RightParen ∷ s) h m e = absurd (true≢false e)
symbol_paren (t.VarSym n) (_ ∷ s) h m e = ap minus_class m
symbol_paren (t.QVarSym n) [] h m e = refl
symbol_paren (t.QVarSym n) (t.RightParen ∷ s) h m e = absurd (true≢false e)
symbol_paren (t.QVarSym n) (_ ∷ s) h m e = refl
symbol_paren (t.ConSym n) [] h m e = refl
symbol_paren (t.ConSym n) (t.RightParen ∷ s) h m e = absurd (true≢false e)
symbol_paren (t.ConSym n) (_ ∷ s) h m e = refl
symbol_paren t.Colon [] h m e = refl
symbol_paren t.Colon (t.RightParen ∷ s) h m e = absurd (true≢false e)
symbol_paren t.Colon (_ ∷ s) h m e = refl
symbol_paren _ s h m e = absurd (true≢false (sym h))

pub quote_paren : (s : Ts) → begins is_backquote s ≡ true → paren_class s ≡ 13
quote_paren [] h = absurd (true≢false (sym h))
quote_paren (t.Backquote ∷ s) h = refl
quote_paren (_ ∷ s) h = absurd (true≢false (sym h))

pub name_paren : (s : Ts) → begins starts_tuple_name s ≡ true → paren_class s ≡ 7
name_paren [] h = absurd (true≢false (sym h))
name_paren (t.RightParen ∷ s) h = refl
name_paren (t.Comma ∷ s) h = refl
name_paren (_ ∷ s) h = absurd (true≢false (sym h))

pub list_bracket : (s : Ts) → begins is_right_bracket s ≡ false → aexp_class (t.LeftBracket ∷ s) ≡ 6
list_bracket [] h = refl
list_bracket (t.RightBracket ∷ s) h = absurd (true≢false h)
list_bracket (_ ∷ s) h = refl

pub not_special : (ts : Ts) → begins starts_tuple_name ts ≡ false → begins is_symbol ts ≡ false →
    begins is_backquote ts ≡ false → begins is_special ts ≡ false
not_special [] a b c = refl
not_special (k ∷ ts) a b c = ap (λ x. x || (is_symbol k || is_backquote k)) a ∙ ap (λ x. x || is_backquote k) b ∙ c

-- what begins with a sign has depth
sign_deep : (b : Bool) (x : OperandTree) (tail : Ts) → begins is_minus (sign_tokens b ++ (spelling_operand x ++
    tail)) ≡ true →
    (n : ℕ) → length (sign_of b x) ≤ n → 1 ≤ n
sign_deep true x tail h n le = omega (arith, le)
sign_deep false x tail h n le = absurd (operand_not_minus x tail (spelling_operand x ++ tail) refl h)

infix_minus : (x : InfixTree) (more : Ts) → begins is_minus (spelling_infix x ++ more) ≡ true → 1 ≤ depth_of_infix x
infix_minus x more h =
    let o = out-InfixTree x in
    let b = negated_of o.first in
    let y = operand_of o.first in
    let behind = flat_map spelling_link o.rest in
    let ls = first_pieces o.first o.rest in
    let at : spelling_infix x ++ more ≡ sign_tokens b ++ (spelling_operand y ++ (behind ++ more)) =
    ap (λ l. l ++ more) (infix_spelled x ∙ ap (λ l. l ++ behind) (signed_spelled o.first))
    ∙ append_assoc (sign_tokens b ++ spelling_operand y) behind more
    ∙ append_assoc (sign_tokens b) (spelling_operand y) (behind ++ more) in
    sign_deep b y (behind ++ more) (sym (ap (begins is_minus) at) ∙ h) (depth_of_infix x)
    (omega (arith, infix_deep x, length-append (sign_of b y) (flat_map pieces_of_link o.rest)))

exp_minus : (e : ExpTree) (more : Ts) → begins is_minus (spelling_exp e ++ more) ≡ true → 1 ≤ depth_of_exp e
exp_minus e more h = by (exp_case e)
  where
    by : ExpCase e → 1 ≤ depth_of_exp e
    by (is_plain x is) =
        let deep = infix_minus x more (sym (ap (λ y. begins is_minus (spelling_exp y ++ more)) is
        ∙ ap (λ l. begins is_minus (l ++ more)) (plain_spelled x)) ∙ h) in
        omega (arith, deep, ap depth_of_exp is, plain_deep x)
    by (is_typed x ty is) = omega (arith, ap depth_of_exp is, typed_deep x ty)

pub inside_minus : (i : Inside) (after : Ts) → begins is_minus (insides.tokens i ++ after) ≡ true → 1 ≤ insides.deep i
inside_minus (inl p) after h =
    let deep = exp_minus p.0 (flat_map (λ x. t.Comma ∷ spelling_exp x) p.1 ++ (t.RightParen ∷ after)) (sym (ap
    (begins is_minus)
    (append_assoc (spelling_exp p.0 ++ flat_map (λ x. t.Comma ∷ spelling_exp x) p.1) (t.RightParen ∷ []) after
    ∙ append_assoc (spelling_exp p.0) (flat_map (λ x. t.Comma ∷ spelling_exp x) p.1) (t.RightParen ∷ after))) ∙ h) in
    omega (arith, deep)
inside_minus (inr p) after h =
    let deep = infix_minus p.0 (qop_tokens p.1 ++ (t.RightParen ∷ after)) (sym (ap (begins is_minus)
    (append_assoc ((spelling_infix p.0 ++ qop_tokens p.1) ++ []) (t.RightParen ∷ []) after
    ∙ append_assoc (spelling_infix p.0 ++ qop_tokens p.1) [] (t.RightParen ∷ after)
    ∙ append_assoc (spelling_infix p.0) (qop_tokens p.1) (t.RightParen ∷ after))) ∙ h) in
    omega (arith, deep)
