-- The productions of an `aexp`, told apart by their first tokens.
use Rattle.std.proofs.Common.{◌≡◌, ℕ, zero, suc, ◌+◌, Bool, true, false, List, [], ◌∷◌, ◌++◌, length, refl}
use Rattle.std.proofs.Common.{sym, ap, ◌∙◌, subst, true≢false, arith, append_assoc, inl, inr}
use Rattle.std.specs.Prelude.{map, flat_map, not, nat_eq, nat_lt, replicate, ◌&&◌, ◌||◌, Some, None}
use Rattle.std.specs.Str.{bytes_eq}
use Rattle.std.proofs.lemmas.Bool.{not-true}
use Rattle.std.proofs.lemmas.Bool.Decides.{nat_tests}
use Rattle.std.proofs.lemmas.List.{append-nil}
use Rattle.hs_forms.specs.Reading.{begins}
use Rattle.hs_forms.specs.Limits.{all_of}
use Rattle.hs_forms.proofs.LimitLemmas.{and_left, and_right}
use Rattle.hs_tokens.specs.Terminals.{minus, is_minus}
use Rattle.hs_tokens.specs.declared.terminal.Terminal.TheVariants as t
use Rattle.hs_trees.specs.Patterns.{Ts, literal_token, gcon_tokens, named_con, is_gcon}
use Rattle.hs_trees.specs.declared.patterns.LiteralTree.{LiteralTree}
use Rattle.hs_trees.specs.declared.patterns.LiteralTree.TheVariants as l
use Rattle.hs_trees.specs.declared.patterns.GConTree.TheVariants as g
use Rattle.hs_trees.specs.declared.patterns.QConOpTree.TheVariants as o
use Rattle.hs_trees.proofs.PatternAtomLemmas.{named_tokens}
use Rattle.hs_modules.specs.Words.{qop_tokens, is_bare_minus, bracketed}
use Rattle.hs_modules.specs.Tokens.{spelling_aexp, spelling_exp, spelling_infix, sign_tokens}
use Rattle.hs_modules.specs.Tokens.{spelling_signed}
use Rattle.hs_modules.specs.declared.names.QVarTree.TheVariants as q
use Rattle.hs_modules.specs.declared.names.QOpTree.{QOpTree}
use Rattle.hs_modules.specs.declared.names.QOpTree.TheVariants as qo
use Rattle.hs_modules.specs.declared.expressions.AExpTree.{AExpTree, AExpTree-F, out-AExpTree, roll-AExpTree}
use Rattle.hs_modules.specs.declared.expressions.AExpTree.{roll-out-AExpTree}
use Rattle.hs_modules.specs.declared.expressions.AExpTree.TheVariants as a
use Rattle.hs_modules.specs.declared.expressions.ExpTree.{ExpTree}
use Rattle.hs_modules.specs.declared.expressions.InfixTree.{InfixTree, out-InfixTree}
use Rattle.hs_modules.proofs.FoldingLemmas.{AExpTrees}
use Rattle.hs_expression_forms.specs.declared.front.Front.TheVariants as fr
use Rattle.hs_expression_forms.specs.Trees.{Makes, Embeds, behind_token, ended}
use Rattle.hs_expression_forms.specs.Expressions.{aexps, is_aexp, is_exp, exp_parts, starts_operand, starts_exp, few}
use Rattle.hs_expression_forms.specs.Fronts.{Inside, Bunch, bunch_of, bunches, insides, right_sections, fixed}
use Rattle.hs_expression_forms.specs.Fronts.{tuple_names}
use Rattle.hs_expression_forms.proofs.AExpLayerLemmas.{Parts, var_spelled, var_is, var_deep, con_spelled}
use Rattle.hs_expression_forms.proofs.AExpLayerLemmas.{con_is, con_deep}
use Rattle.hs_expression_forms.proofs.AExpLayerLemmas.{literal_spelled, literal_is, literal_deep}
use Rattle.hs_expression_forms.proofs.AExpLayerLemmas.{parts_spelled, parts_is}
use Rattle.hs_expression_forms.proofs.AExpLayerLemmas.{parts_deep, list_spelled, list_is, list_deep}
use Rattle.hs_expression_forms.proofs.AExpLayerLemmas.{left_spelled, left_is}
use Rattle.hs_expression_forms.proofs.AExpLayerLemmas.{left_deep, right_spelled, right_is, right_deep}
use Rattle.hs_expression_forms.proofs.OperandLemmas.{operand_starts}
use Rattle.hs_expression_forms.proofs.LinkLayerLemmas.{signed_spelled, infix_spelled, negated_of, operand_of}
use Rattle.hs_expression_forms.proofs.FrontLemmas.{ExpCase, is_plain, is_typed, exp_case, plain_spelled, typed_spelled}

-- which production the tokens behind a `(` belong to
abbrev pub minus_class : Bool → ℕ
minus_class true = 12
minus_class false = 13

abbrev pub paren_class : Ts → ℕ
paren_class (t.RightParen ∷ ts) = 7
paren_class (t.Comma ∷ ts) = 7
paren_class (t.VarSym n ∷ t.RightParen ∷ ts) = 8
paren_class (t.QVarSym n ∷ t.RightParen ∷ ts) = 9
paren_class (t.ConSym n ∷ t.RightParen ∷ ts) = 10
paren_class (t.Colon ∷ t.RightParen ∷ ts) = 11
paren_class (t.VarSym n ∷ ts) = minus_class (bytes_eq n minus)
paren_class (t.QVarSym n ∷ ts) = 13
paren_class (t.ConSym n ∷ ts) = 13
paren_class (t.Colon ∷ ts) = 13
paren_class (t.Backquote ∷ ts) = 13
paren_class ts = 12

-- which production tokens belong to
abbrev pub aexp_class : Ts → ℕ
aexp_class (t.Var n ∷ ts) = 1
aexp_class (t.QVar n ∷ ts) = 2
aexp_class (t.Con n ∷ ts) = 3
aexp_class (t.Integer n ∷ ts) = 4
aexp_class (t.Char n ∷ ts) = 4
aexp_class (t.Text n ∷ ts) = 4
aexp_class (t.LeftBracket ∷ t.RightBracket ∷ ts) = 5
aexp_class (t.LeftBracket ∷ ts) = 6
aexp_class (t.LeftParen ∷ ts) = paren_class ts
aexp_class _ = 0

abbrev pub aexp_test : ℕ → Ts → Bool
aexp_test n ts = nat_eq (aexp_class ts) n

-- tokens that begin an expression, as far as the second one
abbrev pub opens_exp : Ts → Bool
opens_exp (t.VarSym n ∷ k ∷ ts) = bytes_eq n minus && starts_operand k
opens_exp (k ∷ ts) = starts_operand k
opens_exp [] = false

pub opens_append : (ts more : Ts) → opens_exp ts ≡ true → opens_exp (ts ++ more) ≡ true
opens_append [] more h = absurd (true≢false (sym h))
opens_append (t.VarSym n ∷ []) more h = absurd (true≢false (sym h))
opens_append (t.VarSym n ∷ k ∷ ts) more h = h
opens_append (k ∷ ts) more h = h

pub opens_class : (ts : Ts) → opens_exp ts ≡ true → paren_class ts ≡ 12
opens_class [] h = refl
opens_class (t.RightParen ∷ ts) h = absurd (true≢false (sym h))
opens_class (t.Comma ∷ ts) h = absurd (true≢false (sym h))
opens_class (t.VarSym n ∷ []) h = absurd (true≢false (sym h))
opens_class (t.VarSym n ∷ t.RightParen ∷ ts) h = absurd (true≢false (sym (and_right (bytes_eq n minus) _ h)))
opens_class (t.VarSym n ∷ k ∷ ts) h = ap minus_class (and_left (bytes_eq n minus) _ h)
opens_class (t.QVarSym n ∷ ts) h = absurd (true≢false (sym h))
opens_class (t.ConSym n ∷ ts) h = absurd (true≢false (sym h))
opens_class (t.Colon ∷ ts) h = absurd (true≢false (sym h))
opens_class (t.Backquote ∷ ts) h = absurd (true≢false (sym h))
opens_class (_ ∷ ts) h = refl

-- behind an operator an expression begins
abbrev not_right_paren : Ts → Bool
not_right_paren (t.RightParen ∷ ts) = false
not_right_paren _ = true

opens_not : (ts : Ts) → opens_exp ts ≡ true → not_right_paren ts ≡ true
opens_not [] h = refl
opens_not (t.RightParen ∷ ts) h = absurd (true≢false (sym h))
opens_not (_ ∷ ts) h = refl

pub right_class : (op : QOpTree) (ts : Ts) → not_right_paren ts ≡ true → not (is_bare_minus op) ≡ true →
    paren_class (qop_tokens op ++ ts) ≡ 13
right_class (qo.Sym n) [] h b = ap minus_class (not-true (bytes_eq n minus) b)
right_class (qo.Sym n) (t.RightParen ∷ ts) h b = absurd (true≢false (sym h))
right_class (qo.Sym n) (_ ∷ ts) h b = ap minus_class (not-true (bytes_eq n minus) b)
right_class (qo.Quoted n) ts h b = refl
right_class (qo.QualifiedSym n) [] h b = refl
right_class (qo.QualifiedSym n) (t.RightParen ∷ ts) h b = absurd (true≢false (sym h))
right_class (qo.QualifiedSym n) (_ ∷ ts) h b = refl
right_class (qo.QualifiedQuoted n) ts h b = refl
right_class (qo.Con (o.Sym n)) [] h b = refl
right_class (qo.Con (o.Sym n)) (t.RightParen ∷ ts) h b = absurd (true≢false (sym h))
right_class (qo.Con (o.Sym n)) (_ ∷ ts) h b = refl
right_class (qo.Con o.Colon) [] h b = refl
right_class (qo.Con o.Colon) (t.RightParen ∷ ts) h b = absurd (true≢false (sym h))
right_class (qo.Con o.Colon) (_ ∷ ts) h b = refl
right_class (qo.Con (o.Quoted n)) ts h b = refl

-- how expressions begin
operand_opens : (ts : Ts) → begins starts_operand ts ≡ true → opens_exp ts ≡ true
operand_opens [] h = h
operand_opens (t.VarSym n ∷ ts) h = absurd (true≢false (sym h))
operand_opens (_ ∷ ts) h = h

minus_opens : (ts : Ts) → begins starts_operand ts ≡ true → opens_exp (t.VarSym minus ∷ ts) ≡ true
minus_opens [] h = absurd (true≢false (sym h))
minus_opens (k ∷ ts) h = h

signed_opens : (b : Bool) (ts : Ts) → begins starts_operand ts ≡ true → opens_exp (sign_tokens b ++ ts) ≡ true
signed_opens true ts h = minus_opens ts h
signed_opens false ts h = operand_opens ts h

pub infix_opens : (x : InfixTree) → opens_exp (spelling_infix x) ≡ true
infix_opens x =
    let s = (out-InfixTree x).first in
    ap opens_exp (infix_spelled x)
    ∙ opens_append (spelling_signed s) _
    (ap opens_exp (signed_spelled s) ∙ signed_opens (negated_of s) _ (operand_starts (operand_of s)))

pub exp_opens : (e : ExpTree) → opens_exp (spelling_exp e) ≡ true
exp_opens e = by (exp_case e)
  where
    by : ExpCase e → opens_exp (spelling_exp e) ≡ true
    by (is_plain x is) = ap (λ y. opens_exp (spelling_exp y)) is ∙ ap opens_exp (plain_spelled x) ∙ infix_opens x
    by (is_typed x ty is) = ap (λ y. opens_exp (spelling_exp y)) is ∙ ap opens_exp (typed_spelled x ty)
        ∙ opens_append (spelling_infix x) _ (infix_opens x)

pub opens_starts : (ts : Ts) → opens_exp ts ≡ true → begins starts_exp ts ≡ true
opens_starts [] h = h
opens_starts (t.VarSym n ∷ []) h = absurd (true≢false (sym h))
opens_starts (t.VarSym n ∷ k ∷ ts) h = and_left (bytes_eq n minus) _ h
opens_starts (k ∷ ts) h = ap (λ b. b || is_minus k) h

-- what is in brackets
abbrev pub make_inside : Inside → AExpTree
make_inside (inl p) = a.Parts p.0 p.1
make_inside (inr p) = a.LeftSection p.0 p.1

abbrev pub make_right : QOpTree × InfixTree → AExpTree
make_right p = a.RightSection p.0 p.1

few_is : (n : ℕ) → nat_lt n 15 ≡ few (Some 14) n
few_is n = both (nat_lt n 15) (few (Some 14) n) (λ h. grind (arith, nat_tests)) (λ h. grind (arith, nat_tests))
  where
    both : (b c : Bool) → (b ≡ true → c ≡ true) → (c ≡ true → b ≡ true) → b ≡ c
    both true true f g = refl
    both true false f g = sym (f refl)
    both false true f g = g refl
    both false false f g = refl

and_true : (b : Bool) → b && true ≡ b
and_true true = refl
and_true false = refl

inside_spelled : (i : Inside) → spelling_aexp (make_inside i) ≡ t.LeftParen ∷ insides.tokens i
inside_spelled (inl p) = parts_spelled p
inside_spelled (inr p) =
    left_spelled p.0 p.1
    ∙ ap (λ ts. t.LeftParen ∷ ts) (sym (append_assoc (spelling_infix p.0) (qop_tokens p.1) (t.RightParen ∷ []))
    ∙ ap (λ ts. ts ++ t.RightParen ∷ []) (sym (append-nil (spelling_infix p.0 ++ qop_tokens p.1))))

inside_is : (i : Inside) → is_aexp (make_inside i) ≡ insides.formed i
inside_is (inl p) =
    parts_is p ∙ ap (λ b. b && (is_exp p.0 && all_of (map is_exp p.1))) (few_is (length p.1)
    ∙ sym (and_true (few (Some 14) (length p.1))))
inside_is (inr p) = left_is p.0 p.1 ∙ sym (and_true _)

inside_deep : (i : Inside) → aexps.deep (make_inside i) ≡ insides.deep i + 1
inside_deep (inl p) = parts_deep p
inside_deep (inr p) = let e = left_deep p.0 p.1 in omega (arith, e)

inside_opens : (i : Inside) → opens_exp (insides.tokens i) ≡ true
inside_opens (inl p) =
    opens_append (bunches.tokens (bunch_of (inl p))) (t.RightParen ∷ [])
    (opens_append (spelling_exp p.0) (flat_map (λ x. t.Comma ∷ spelling_exp x) p.1) (exp_opens p.0))
inside_opens (inr p) =
    opens_append (bunches.tokens (bunch_of (inr p))) (t.RightParen ∷ [])
    (opens_append (spelling_infix p.0 ++ qop_tokens p.1) []
    (opens_append (spelling_infix p.0) (qop_tokens p.1) (infix_opens p.0)))

inside_class : (i : Inside) (after : Ts) → paren_class (insides.tokens i ++ after) ≡ 12
inside_class i after = opens_class (insides.tokens i ++ after) (opens_append (insides.tokens i) after (inside_opens i))

right_opens : (p : QOpTree × InfixTree) → not (is_bare_minus p.0) ≡ true → (after : Ts) →
    paren_class (right_sections.tokens p ++ after) ≡ 13
right_opens p h after =
    ap paren_class (append_assoc (qop_tokens p.0) (spelling_infix p.1 ++ t.RightParen ∷ []) after)
    ∙ right_class p.0 ((spelling_infix p.1 ++ t.RightParen ∷ []) ++ after)
    (opens_not ((spelling_infix p.1 ++ t.RightParen ∷ []) ++ after)
    (opens_append (spelling_infix p.1 ++ t.RightParen ∷ []) after
    (opens_append (spelling_infix p.1) (t.RightParen ∷ []) (infix_opens p.1)))) h

named_class : (n : ℕ) (after : Ts) → paren_class ((replicate n t.Comma ++ t.RightParen ∷ []) ++ after) ≡ 7
named_class zero after = refl
named_class (suc n) after = refl

list_class : (p : Parts) (after : Ts) →
    aexp_class (t.LeftBracket ∷ (((exp_parts None).tokens p ++ t.RightBracket ∷ []) ++ after)) ≡ 6
list_class p after =
    let ts = (exp_parts None).tokens p in
    six ((ts ++ t.RightBracket ∷ []) ++ after)
    (opens_append (ts ++ t.RightBracket ∷ []) after (opens_append ts (t.RightBracket ∷ [])
    (opens_append (spelling_exp p.0) (flat_map (λ x. t.Comma ∷ spelling_exp x) p.1) (exp_opens p.0))))
  where
    six : (ts : Ts) → opens_exp ts ≡ true → aexp_class (t.LeftBracket ∷ ts) ≡ 6
    six [] h = refl
    six (t.RightBracket ∷ ts) h = absurd (true≢false (sym h))
    six (_ ∷ ts) h = refl

AExpOf : AExpTree → ℕ → Type 0
AExpOf x (suc zero) = (n : List ℕ) × (x ≡ a.Var (q.Id n))
AExpOf x (suc (suc zero)) = (n : List ℕ) × (x ≡ a.Var (q.QualifiedId n))
AExpOf x (suc (suc (suc zero))) = (n : List ℕ) × (x ≡ a.Con (g.Con n))
AExpOf x (suc (suc (suc (suc zero)))) = (l : LiteralTree) × (x ≡ a.Literal l)
AExpOf x (suc (suc (suc (suc (suc zero))))) = (u : Unit {0}) × (x ≡ a.Con g.List)
AExpOf x (suc (suc (suc (suc (suc (suc zero)))))) = (p : Parts) × (x ≡ a.List p.0 p.1)
AExpOf x (suc (suc (suc (suc (suc (suc (suc zero))))))) = (n : ℕ) × (x ≡ a.Con (named_con n))
AExpOf x (suc (suc (suc (suc (suc (suc (suc (suc zero)))))))) = (n : List ℕ) × (x ≡ a.Var (q.Sym n))
AExpOf x (suc (suc (suc (suc (suc (suc (suc (suc (suc zero))))))))) = (n : List ℕ) × (x ≡ a.Var (q.QualifiedSym n))
AExpOf x (suc (suc (suc (suc (suc (suc (suc (suc (suc (suc zero)))))))))) = (n : List ℕ) × (x ≡ a.Con (g.Sym n))
AExpOf x (suc (suc (suc (suc (suc (suc (suc (suc (suc (suc (suc zero))))))))))) = (u : Unit {0}) × (x ≡ a.Con g.Colon)
AExpOf x (suc (suc (suc (suc (suc (suc (suc (suc (suc (suc (suc (suc zero)))))))))))) = (i : Inside)
    × (x ≡ make_inside i)
AExpOf x (suc (suc (suc (suc (suc (suc (suc (suc (suc (suc (suc (suc (suc zero))))))))))))) = (p : QOpTree
    × InfixTree) × (x ≡ make_right p)
AExpOf x _ = ⊥

record AExpView (x : AExpTree) : Type 0 where
  pub class : ℕ
  pub of : AExpOf x class
  pub first : (after : Ts) → aexp_class (spelling_aexp x ++ after) ≡ class

literal_class : (x : LiteralTree) (after : Ts) → aexp_class (literal_token x ∷ after) ≡ 4
literal_class (l.Integer n) after = refl
literal_class (l.Char n) after = refl
literal_class (l.Text n) after = refl

view_by : (x y : AExpTree) (n : ℕ) (ts : Ts) → x ≡ y → AExpOf y n → spelling_aexp y ≡ ts →
    ((after : Ts) → aexp_class (ts ++ after) ≡ n) → AExpView x
view_by x y n ts is of spelled class = record {
  class = n;
  of = subst (λ z. AExpOf z n) (sym is) of;
  first = λ after. ap (λ z. aexp_class (spelling_aexp z ++ after)) is ∙ ap (λ l. aexp_class (l ++ after)) spelled
      ∙ class after;
}

aexp_layer : (x : AExpTrees) → is_aexp (roll-AExpTree x) ≡ true → AExpView (roll-AExpTree x)
unfolding AExpOf
aexp_layer (AExpTree-F.Var (q.Id n)) good =
    view_by _ _ 1 _ (a.rolls-Var (q.Id n)) (n, refl) (var_spelled (q.Id n)) (λ after. refl)
aexp_layer (AExpTree-F.Var (q.Sym n)) good =
    view_by _ _ 8 _ (a.rolls-Var (q.Sym n)) (n, refl) (var_spelled (q.Sym n)) (λ after. refl)
aexp_layer (AExpTree-F.Var (q.QualifiedId n)) good =
    view_by _ _ 2 _ (a.rolls-Var (q.QualifiedId n)) (n, refl) (var_spelled (q.QualifiedId n)) (λ after. refl)
aexp_layer (AExpTree-F.Var (q.QualifiedSym n)) good =
    view_by _ _ 9 _ (a.rolls-Var (q.QualifiedSym n)) (n, refl) (var_spelled (q.QualifiedSym n)) (λ after. refl)
aexp_layer (AExpTree-F.Con g.Unit) good =
    view_by _ _ 7 _ (a.rolls-Con g.Unit) (0, refl) (con_spelled g.Unit) (λ after. refl)
aexp_layer (AExpTree-F.Con g.List) good =
    view_by _ _ 5 _ (a.rolls-Con g.List) (tt, refl) (con_spelled g.List) (λ after. refl)
aexp_layer (AExpTree-F.Con (g.Tuple zero)) good =
    absurd (true≢false (sym good ∙ ap is_aexp (a.rolls-Con (g.Tuple 0)) ∙ con_is (g.Tuple 0)))
aexp_layer (AExpTree-F.Con (g.Tuple (suc n))) good =
    view_by _ _ 7 _ (a.rolls-Con (g.Tuple (suc n))) (suc n, refl) (con_spelled (g.Tuple (suc n))) (λ after. refl)
aexp_layer (AExpTree-F.Con (g.Con n)) good =
    view_by _ _ 3 _ (a.rolls-Con (g.Con n)) (n, refl) (con_spelled (g.Con n)) (λ after. refl)
aexp_layer (AExpTree-F.Con (g.Sym n)) good =
    view_by _ _ 10 _ (a.rolls-Con (g.Sym n)) (n, refl) (con_spelled (g.Sym n)) (λ after. refl)
aexp_layer (AExpTree-F.Con g.Colon) good =
    view_by _ _ 11 _ (a.rolls-Con g.Colon) (tt, refl) (con_spelled g.Colon) (λ after. refl)
aexp_layer (AExpTree-F.Literal x) good =
    view_by _ _ 4 _ (a.rolls-Literal x) (x, refl) (literal_spelled x) (literal_class x)
aexp_layer (AExpTree-F.Parts x xs) good =
    view_by _ _ 12 _ (a.rolls-Parts x xs) (inl (x, xs), refl) (inside_spelled (inl (x, xs)))
    (inside_class (inl (x, xs)))
aexp_layer (AExpTree-F.List x xs) good =
    view_by _ _ 6 _ (a.rolls-List x xs) ((x, xs), refl) (list_spelled (x, xs)) (list_class (x, xs))
aexp_layer (AExpTree-F.LeftSection x op) good =
    view_by _ _ 12 _ (a.rolls-LeftSection x op) (inr (x, op), refl) (inside_spelled (inr (x, op)))
    (inside_class (inr (x, op)))
aexp_layer (AExpTree-F.RightSection op x) good =
    view_by _ _ 13 _ (a.rolls-RightSection op x) ((op, x), refl) (right_spelled op x)
    (right_opens (op, x) (and_left (not (is_bare_minus op)) _
    (sym (right_is op x) ∙ ap is_aexp (sym (a.rolls-RightSection op x)) ∙ good)))

aexp_only : (n : ℕ) (x : AExpTree) (after : Ts) → is_aexp x ≡ true → aexp_test n (spelling_aexp x ++ after) ≡ true →
    AExpOf x n
aexp_only n x after good e =
    let view = subst (λ y. is_aexp y ≡ true → AExpView y) (roll-out-AExpTree x) (aexp_layer (out-AExpTree x)) good in
    let at = view.first after in
    let same : aexp_class (spelling_aexp x ++ after) ≡ n = grind (arith, nat_tests) in
    subst (AExpOf x) (sym at ∙ same) view.of

names_makes : {N : Type 0} (n : ℕ) (tokens : N → Ts) (make : N → AExpTree) →
    ((x : N) → spelling_aexp (make x) ≡ tokens x) → ((x : N) → is_aexp (make x) ≡ true) →
    ((x : N) → aexps.deep (make x) ≡ 0) → ((x : N) (after : Ts) → aexp_class (tokens x ++ after) ≡ n) →
    ((x : AExpTree) → AExpOf x n → (p : N) × (x ≡ make p)) → Makes aexps (fixed tokens) make 0 (aexp_test n)
names_makes n tokens make spelled is deep class back = record {
  spelled = spelled;
  formed = is;
  deep = λ x. (let e = deep x in omega (arith, e));
  extends = λ x k e. refl;
  starts = λ x after good. (let e = class x after in ap (λ m. nat_eq m n) e ∙ same n);
  only = λ x after good e. back x (aexp_only n x after good e);
}
  where
    same : (n : ℕ) → nat_eq n n ≡ true
    same n = grind (arith, nat_tests)

pub id_makes : Makes aexps (fixed (λ (n : List ℕ). t.Var n ∷ [])) (λ n. a.Var (q.Id n)) 0 (aexp_test 1)
unfolding AExpOf
id_makes = names_makes 1 (λ (n : List ℕ). t.Var n ∷ []) (λ n. a.Var (q.Id n)) (λ n. var_spelled (q.Id n))
    (λ n. var_is (q.Id n)) (λ n. var_deep (q.Id n)) (λ n after. refl) (λ x h. h)

pub qualified_id_makes : Makes aexps (fixed (λ (n : List ℕ). t.QVar n ∷ [])) (λ n. a.Var (q.QualifiedId n)) 0
    (aexp_test 2)
unfolding AExpOf
qualified_id_makes = names_makes 2 (λ (n : List ℕ). t.QVar n ∷ []) (λ n. a.Var (q.QualifiedId n)) (λ n. var_spelled
    (q.QualifiedId n)) (λ n. var_is (q.QualifiedId n)) (λ n. var_deep (q.QualifiedId n)) (λ n after. refl) (λ x h. h)

pub con_makes : Makes aexps (fixed (λ (n : List ℕ). t.Con n ∷ [])) (λ n. a.Con (g.Con n)) 0 (aexp_test 3)
unfolding AExpOf
con_makes = names_makes 3 (λ (n : List ℕ). t.Con n ∷ []) (λ n. a.Con (g.Con n)) (λ n. con_spelled (g.Con n))
    (λ n. con_is (g.Con n)) (λ n. con_deep (g.Con n)) (λ n after. refl) (λ x h. h)

pub literal_makes : Makes aexps (fixed (λ (x : LiteralTree). literal_token x ∷ [])) (a.Literal) 0 (aexp_test 4)
unfolding AExpOf
literal_makes = names_makes 4 (λ (x : LiteralTree). literal_token x ∷ []) (a.Literal) (literal_spelled) (literal_is)
    (literal_deep) (literal_class) (λ x h. h)

pub nil_makes : Makes aexps (fixed (λ (u : Unit {0}). t.LeftBracket ∷ t.RightBracket ∷ [])) (λ u. a.Con g.List) 0
    (aexp_test 5)
unfolding AExpOf
nil_makes = names_makes 5 (λ (u : Unit {0}). t.LeftBracket ∷ t.RightBracket ∷ []) (λ u. a.Con g.List)
    (λ u. con_spelled g.List) (λ u. con_is g.List) (λ u. con_deep g.List) (λ u after. refl) (λ x h. h)

pub sym_makes : Makes aexps (fixed (λ (n : List ℕ). bracketed (t.VarSym n))) (λ n. a.Var (q.Sym n)) 0 (aexp_test 8)
unfolding AExpOf
sym_makes = names_makes 8 (λ (n : List ℕ). bracketed (t.VarSym n)) (λ n. a.Var (q.Sym n)) (λ n. var_spelled
    (q.Sym n)) (λ n. var_is (q.Sym n)) (λ n. var_deep (q.Sym n)) (λ n after. refl) (λ x h. h)

pub qualified_sym_makes : Makes aexps (fixed (λ (n : List ℕ). bracketed (t.QVarSym n))) (λ n. a.Var
    (q.QualifiedSym n)) 0 (aexp_test 9)
unfolding AExpOf
qualified_sym_makes = names_makes 9 (λ (n : List ℕ). bracketed (t.QVarSym n)) (λ n. a.Var (q.QualifiedSym n))
    (λ n. var_spelled (q.QualifiedSym n)) (λ n. var_is (q.QualifiedSym n)) (λ n. var_deep (q.QualifiedSym n))
    (λ n after. refl) (λ x h. h)

pub con_sym_makes : Makes aexps (fixed (λ (n : List ℕ). bracketed (t.ConSym n))) (λ n. a.Con (g.Sym n)) 0 (aexp_test 10)
unfolding AExpOf
con_sym_makes = names_makes 10 (λ (n : List ℕ). bracketed (t.ConSym n)) (λ n. a.Con (g.Sym n)) (λ n. con_spelled
    (g.Sym n)) (λ n. con_is (g.Sym n)) (λ n. con_deep (g.Sym n)) (λ n after. refl) (λ x h. h)

pub colon_makes : Makes aexps (fixed (λ (u : Unit {0}). bracketed t.Colon)) (λ u. a.Con g.Colon) 0 (aexp_test 11)
unfolding AExpOf
colon_makes = names_makes 11 (λ (u : Unit {0}). bracketed t.Colon) (λ u. a.Con g.Colon) (λ u. con_spelled g.Colon)
    (λ u. con_is g.Colon) (λ u. con_deep g.Colon) (λ u after. refl) (λ x h. h)

same_class : (n : ℕ) → nat_eq n n ≡ true
same_class n = grind (arith, nat_tests)

pub tuple_makes : Makes aexps (behind_token t.LeftParen tuple_names) (λ n. a.Con (named_con n)) 0 (aexp_test 7)
unfolding AExpOf
tuple_makes = record {
  spelled = λ n. con_spelled (named_con n) ∙ named_tokens n;
  formed = λ n. con_is (named_con n) ∙ is n;
  deep = λ n. (let e = con_deep (named_con n) in omega (arith, e));
  extends = λ n k e. refl;
  starts = λ n after good. ap (λ m. nat_eq m 7) (named_class n after);
  only = λ x after good e. aexp_only 7 x after good e;
}
  where
    is : (n : ℕ) → is_gcon (named_con n) ≡ nat_lt n 15
    is zero = refl
    is (suc n) = let e : nat_lt 0 (suc n) ≡ true = grind (arith, nat_tests) in ap (λ b. b && nat_lt (suc n) 15) e

pub inside_makes : Makes aexps (behind_token t.LeftParen insides) make_inside 1 (aexp_test 12)
unfolding AExpOf
inside_makes = record {
  spelled = inside_spelled;
  formed = inside_is;
  deep = inside_deep;
  extends = λ i k e. refl;
  starts = λ i after good. ap (λ m. nat_eq m 12) (inside_class i after);
  only = λ x after good e. aexp_only 12 x after good e;
}

pub right_makes : Makes aexps (behind_token t.LeftParen right_sections) make_right 1 (aexp_test 13)
unfolding AExpOf
right_makes = record {
  spelled = λ p. right_spelled p.0 p.1;
  formed = λ p. right_is p.0 p.1;
  deep = λ p. (let e = right_deep p.0 p.1 in omega (arith, e));
  extends = λ p k e. refl;
  starts = λ p after good. ap (λ m. nat_eq m 13) (right_opens p (and_left (not (is_bare_minus p.0)) _ good) after);
  only = λ x after good e. aexp_only 13 x after good e;
}

pub list_makes : Makes aexps (behind_token t.LeftBracket (ended (exp_parts None) t.RightBracket))
    (λ p. a.List p.0 p.1) 1
    (aexp_test 6)
unfolding AExpOf
list_makes = record {
  spelled = list_spelled;
  formed = list_is;
  deep = list_deep;
  extends = λ p k e. refl;
  starts = λ p after good. ap (λ m. nat_eq m 6) (list_class p after);
  only = λ x after good e. aexp_only 6 x after good e;
}

pub inside_embeds : Embeds insides (ended bunches t.RightParen) bunch_of
inside_embeds = record {
  tokens = λ i. refl;
  formed = λ i. refl;
  deep = λ i. refl;
  extends = λ i k e. refl;
  one = one;
}
  where
    back : Bunch → Inside
    back (fr.Exp e, xs) = inl (e, xs)
    back (fr.Section x op, xs) = inr (x, op)

    same : (i : Inside) → back (bunch_of i) ≡ i
    same (inl p) = refl
    same (inr p) = refl

    one : (i j : Inside) → bunch_of i ≡ bunch_of j → i ≡ j
    one i j e = sym (same i) ∙ ap back e ∙ same j

pub inside_back : (b : Bunch) → bunches.formed b ≡ true → (i : Inside) × (b ≡ bunch_of i)
inside_back (fr.Exp e, xs) good = (inl (e, xs), refl)
inside_back (fr.Section x op, []) good = (inr (x, op), refl)
inside_back (fr.Section y op, x ∷ xs) good =
    absurd (true≢false (sym (and_right (few (Some 14) (length (x ∷ xs))) _
    (and_left (few (Some 14) (length (x ∷ xs)) && false) _ good))))
