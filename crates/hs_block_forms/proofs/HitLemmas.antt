-- No expression hits `<-` outside of all brackets, whatever stands behind it that makes no hit (Haskell 2010 Report,
-- section 3.13): so a guard that is an expression begins no pattern before `<-`.
use Rattle.std.proofs.Common.{◌≡◌, ℕ, zero, suc, Bool, true, false, List, [], ◌∷◌, ◌++◌, refl, sym, ap, ◌∙◌, subst}
use Rattle.std.proofs.Common.{append_assoc}
use Rattle.std.specs.Prelude.{flat_map, map, replicate}
use Rattle.hs_tokens.specs.declared.terminal.Terminal.TheVariants as t
use Rattle.hs_trees.specs.Hits.{hits}
use Rattle.hs_trees.specs.Types.{spelling_type}
use Rattle.hs_trees.specs.Patterns.{Ts, between_commas, gcon_tokens, literal_token, spelling_pat}
use Rattle.hs_trees.specs.declared.patterns.GConTree.{GConTree}
use Rattle.hs_trees.specs.declared.patterns.GConTree.TheVariants as g
use Rattle.hs_trees.specs.declared.patterns.LiteralTree.{LiteralTree}
use Rattle.hs_trees.specs.declared.patterns.LiteralTree.TheVariants as l
use Rattle.hs_trees.specs.declared.patterns.QConOpTree.TheVariants as o
use Rattle.hs_trees.specs.declared.patterns.PatTree.{PatTree}
use Rattle.hs_trees.proofs.PatternHitLemmas.{Each, each_of, no_bind}
use Rattle.hs_modules.specs.Words.{qop_tokens, qvar_tokens}
use Rattle.hs_modules.specs.Tokens.{token_algebra, aexp_tokens, exp_tokens, operand_tokens, sign_tokens}
use Rattle.hs_modules.specs.Folds.{folded_aexp, folded_alt_body, folded_alt_slot, folded_decl_slot, folded_decl}
use Rattle.hs_modules.specs.Folds.{folded_exp, folded_guard, folded_locals}
use Rattle.hs_modules.specs.Folds.{folded_operand, folded_rhs_body, folded_alt_block, folded_alt, folded_case}
use Rattle.hs_modules.specs.Folds.{folded_decl_block, folded_gd, folded_gda}
use Rattle.hs_modules.specs.Folds.{folded_if, folded_infix, folded_lambda, folded_let, folded_link, folded_rhs}
use Rattle.hs_modules.specs.Folds.{folded_signed}
use Rattle.hs_modules.specs.Tokens.{spelling_aexp, spelling_exp, spelling_infix, spelling_link, spelling_operand}
use Rattle.hs_modules.specs.Tokens.{spelling_signed, spelling_lambda, spelling_let, spelling_if, spelling_case}
use Rattle.hs_modules.specs.declared.names.QOpTree.{QOpTree}
use Rattle.hs_modules.specs.declared.names.QOpTree.TheVariants as q
use Rattle.hs_modules.specs.declared.names.QVarTree.{QVarTree}
use Rattle.hs_modules.specs.declared.names.QVarTree.TheVariants as v
use Rattle.hs_modules.specs.declared.expressions.AExpTree.{AExpTree, AExpTree-F, map-AExpTree}
use Rattle.hs_modules.specs.declared.expressions.AltBody.{AltBody}
use Rattle.hs_modules.specs.declared.expressions.AltSlot.{AltSlot}
use Rattle.hs_modules.specs.declared.expressions.DeclSlot.{DeclSlot}
use Rattle.hs_modules.specs.declared.expressions.DeclTree.{DeclTree}
use Rattle.hs_modules.specs.declared.expressions.ExpTree.{ExpTree, ExpTree-F, map-ExpTree}
use Rattle.hs_modules.specs.declared.expressions.GuardTree.{GuardTree}
use Rattle.hs_modules.specs.declared.expressions.Locals.{Locals}
use Rattle.hs_modules.specs.declared.expressions.OperandTree.{OperandTree, OperandTree-F, map-OperandTree}
use Rattle.hs_modules.specs.declared.expressions.RhsBody.{RhsBody}
use Rattle.hs_modules.specs.declared.expressions.AltBlock.{AltBlock}
use Rattle.hs_modules.specs.declared.expressions.AltTree.{AltTree}
use Rattle.hs_modules.specs.declared.expressions.CaseTree.{CaseTree}
use Rattle.hs_modules.specs.declared.expressions.DeclBlock.{DeclBlock}
use Rattle.hs_modules.specs.declared.expressions.GdTree.{GdTree}
use Rattle.hs_modules.specs.declared.expressions.GdaTree.{GdaTree}
use Rattle.hs_modules.specs.declared.expressions.IfTree.{IfTree}
use Rattle.hs_modules.specs.declared.expressions.InfixTree.{InfixTree, ind-InfixTree}
use Rattle.hs_modules.specs.declared.expressions.LambdaTree.{LambdaTree}
use Rattle.hs_modules.specs.declared.expressions.LetTree.{LetTree}
use Rattle.hs_modules.specs.declared.expressions.OpOperand.{OpOperand}
use Rattle.hs_modules.specs.declared.expressions.RhsTree.{RhsTree}
use Rattle.hs_modules.specs.declared.expressions.SignedOperand.{SignedOperand}
use Rattle.hs_modules.proofs.FoldingLemmas.{aexp_folded, exp_folded, operand_folded, infix_folded, link_folded}
use Rattle.hs_modules.proofs.FoldingLemmas.{signed_folded, lambda_folded, let_folded, if_folded, case_folded}

-- Tokens that make no hit where what stands behind them makes none.
abbrev pub Misses : Ts → Type 0
Misses ts = (r : Ts) (d : ℕ) → hits r d ≡ false → hits (ts ++ r) d ≡ false

abbrev MissesIn : Ts → Type 0
MissesIn ts = (r : Ts) (d : ℕ) → hits r (suc d) ≡ false → hits (ts ++ r) (suc d) ≡ false

pub misses_append : (xs ys : Ts) → Misses xs → Misses ys → Misses (xs ++ ys)
misses_append xs ys p q r d h = ap (λ l. hits l d) (append_assoc xs ys r) ∙ p (ys ++ r) d (q r d h)

misses_in_append : (xs ys : Ts) → MissesIn xs → MissesIn ys → MissesIn (xs ++ ys)
misses_in_append xs ys p q r d h = ap (λ l. hits l (suc d)) (append_assoc xs ys r) ∙ p (ys ++ r) d (q r d h)

misses_all : (xss : List Ts) → Each Misses xss → Misses (flat_map (λ x. x) xss)
misses_all [] e = λ r d h. h
misses_all (x ∷ xss) e = misses_append x (flat_map (λ x. x) xss) e.0 (misses_all xss e.1)

misses_commas : (xss : List Ts) → Each Misses xss → MissesIn (flat_map (λ x. t.Comma ∷ x) xss)
misses_commas [] e = λ r d h. h
misses_commas (x ∷ xss) e =
    misses_in_append (t.Comma ∷ x) (flat_map (λ x. t.Comma ∷ x) xss) (λ r d h. e.0 r (suc d) h) (misses_commas xss e.1)

misses_between : (x : Ts) (xss : List Ts) → Misses x → Each Misses xss → MissesIn (between_commas x xss)
misses_between x xss p e =
    misses_in_append x (flat_map (λ x. t.Comma ∷ x) xss) (λ r d h. p r (suc d) h) (misses_commas xss e)

round_misses : (xs : Ts) → MissesIn xs → Misses (t.LeftParen ∷ (xs ++ t.RightParen ∷ []))
round_misses xs p r d h = ap (λ l. hits l (suc d)) (append_assoc xs (t.RightParen ∷ []) r) ∙ p (t.RightParen ∷ r) d h

square_misses : (xs : Ts) → MissesIn xs → Misses (t.LeftBracket ∷ (xs ++ t.RightBracket ∷ []))
square_misses xs p r d h =
    ap (λ l. hits l (suc d)) (append_assoc xs (t.RightBracket ∷ []) r) ∙ p (t.RightBracket ∷ r) d h

commas_miss : (n : ℕ) → MissesIn (replicate n t.Comma)
commas_miss zero r d h = h
commas_miss (suc n) r d h = commas_miss n r d h

gcon_misses : (x : GConTree) → Misses (gcon_tokens x)
gcon_misses g.Unit = λ r d h. h
gcon_misses g.List = λ r d h. h
gcon_misses (g.Tuple n) = round_misses (replicate n t.Comma) (commas_miss n)
gcon_misses (g.Con n) = λ r d h. h
gcon_misses (g.Sym n) = λ r d h. h
gcon_misses g.Colon = λ r d h. h

literal_misses : (x : LiteralTree) → Misses (literal_token x ∷ [])
literal_misses (l.Integer n) = λ r d h. h
literal_misses (l.Char n) = λ r d h. h
literal_misses (l.Text n) = λ r d h. h

qvar_misses : (x : QVarTree) → Misses (qvar_tokens x)
qvar_misses (v.Id n) = λ r d h. h
qvar_misses (v.Sym n) = λ r d h. h
qvar_misses (v.QualifiedId n) = λ r d h. refl
qvar_misses (v.QualifiedSym n) = λ r d h. refl

qop_misses : (x : QOpTree) → Misses (qop_tokens x)
qop_misses (q.Sym n) = λ r d h. h
qop_misses (q.Quoted n) = λ r d h. h
qop_misses (q.QualifiedSym n) = λ r d h. refl
qop_misses (q.QualifiedQuoted n) = λ r d h. refl
qop_misses (q.Con (o.Sym n)) = λ r d h. h
qop_misses (q.Con o.Colon) = λ r d h. h
qop_misses (q.Con (o.Quoted n)) = λ r d h. h

sign_misses : (b : Bool) → Misses (sign_tokens b)
sign_misses true = λ r d h. h
sign_misses false = λ r d h. h

left_misses : (x : Ts) (op : QOpTree) → Misses x → Misses (t.LeftParen ∷ (x ++ (qop_tokens op ++ t.RightParen ∷ [])))
left_misses x op p r d h =
    ap (λ l. hits l (suc d)) (append_assoc x (qop_tokens op ++ t.RightParen ∷ []) r
    ∙ ap (λ l. x ++ l) (append_assoc (qop_tokens op) (t.RightParen ∷ []) r))
    ∙ p (qop_tokens op ++ t.RightParen ∷ r) (suc d) (qop_misses op (t.RightParen ∷ r) (suc d) h)

right_misses : (op : QOpTree) (x : Ts) → Misses x → Misses (t.LeftParen ∷ (qop_tokens op ++ (x ++ t.RightParen ∷ [])))
right_misses op x p r d h =
    ap (λ l. hits l (suc d)) (append_assoc (qop_tokens op) (x ++ t.RightParen ∷ []) r
    ∙ ap (λ l. qop_tokens op ++ l) (append_assoc x (t.RightParen ∷ []) r))
    ∙ qop_misses op (x ++ t.RightParen ∷ r) (suc d) (p (t.RightParen ∷ r) (suc d) h)

typed_misses : (x ty : Ts) → Misses x → Misses (x ++ t.DoubleColon ∷ ty)
typed_misses x ty p r d h = ap (λ l. hits l d) (append_assoc x (t.DoubleColon ∷ ty) r) ∙ p (t.DoubleColon ∷ (ty ++
    r)) d refl

-- the trees whose tokens miss, and all others
abbrev PAExpTree : AExpTree → Type 0
PAExpTree x = Misses (spelling_aexp x)

abbrev SAExpTree : Type 0
SAExpTree = (x : AExpTree) × PAExpTree x

abbrev PAltBody : AltBody → Type 0
PAltBody x = Unit {0}

abbrev SAltBody : Type 0
SAltBody = (x : AltBody) × PAltBody x

abbrev PAltSlot : AltSlot → Type 0
PAltSlot x = Unit {0}

abbrev SAltSlot : Type 0
SAltSlot = (x : AltSlot) × PAltSlot x

abbrev PDeclSlot : DeclSlot → Type 0
PDeclSlot x = Unit {0}

abbrev SDeclSlot : Type 0
SDeclSlot = (x : DeclSlot) × PDeclSlot x

abbrev PDeclTree : DeclTree → Type 0
PDeclTree x = Unit {0}

abbrev SDeclTree : Type 0
SDeclTree = (x : DeclTree) × PDeclTree x

abbrev PExpTree : ExpTree → Type 0
PExpTree x = Misses (spelling_exp x)

abbrev SExpTree : Type 0
SExpTree = (x : ExpTree) × PExpTree x

abbrev PGuardTree : GuardTree → Type 0
PGuardTree x = Unit {0}

abbrev SGuardTree : Type 0
SGuardTree = (x : GuardTree) × PGuardTree x

abbrev PLocals : Locals → Type 0
PLocals x = Unit {0}

abbrev SLocals : Type 0
SLocals = (x : Locals) × PLocals x

abbrev POperandTree : OperandTree → Type 0
POperandTree x = Misses (spelling_operand x)

abbrev SOperandTree : Type 0
SOperandTree = (x : OperandTree) × POperandTree x

abbrev PRhsBody : RhsBody → Type 0
PRhsBody x = Unit {0}

abbrev SRhsBody : Type 0
SRhsBody = (x : RhsBody) × PRhsBody x

abbrev PAltBlock : AltBlock → Type 0
PAltBlock x = Unit {0}

abbrev SAltBlock : Type 0
SAltBlock = (x : AltBlock) × PAltBlock x

abbrev PAltTree : AltTree → Type 0
PAltTree x = Unit {0}

abbrev SAltTree : Type 0
SAltTree = (x : AltTree) × PAltTree x

abbrev PCaseTree : CaseTree → Type 0
PCaseTree x = Misses (spelling_case x)

abbrev SCaseTree : Type 0
SCaseTree = (x : CaseTree) × PCaseTree x

abbrev PDeclBlock : DeclBlock → Type 0
PDeclBlock x = Unit {0}

abbrev SDeclBlock : Type 0
SDeclBlock = (x : DeclBlock) × PDeclBlock x

abbrev PGdTree : GdTree → Type 0
PGdTree x = Unit {0}

abbrev SGdTree : Type 0
SGdTree = (x : GdTree) × PGdTree x

abbrev PGdaTree : GdaTree → Type 0
PGdaTree x = Unit {0}

abbrev SGdaTree : Type 0
SGdaTree = (x : GdaTree) × PGdaTree x

abbrev PIfTree : IfTree → Type 0
PIfTree x = Misses (spelling_if x)

abbrev SIfTree : Type 0
SIfTree = (x : IfTree) × PIfTree x

abbrev PInfixTree : InfixTree → Type 0
PInfixTree x = Misses (spelling_infix x)

abbrev SInfixTree : Type 0
SInfixTree = (x : InfixTree) × PInfixTree x

abbrev PLambdaTree : LambdaTree → Type 0
PLambdaTree x = Misses (spelling_lambda x)

abbrev SLambdaTree : Type 0
SLambdaTree = (x : LambdaTree) × PLambdaTree x

abbrev PLetTree : LetTree → Type 0
PLetTree x = Misses (spelling_let x)

abbrev SLetTree : Type 0
SLetTree = (x : LetTree) × PLetTree x

abbrev POpOperand : OpOperand → Type 0
POpOperand x = Misses (spelling_link x)

abbrev SOpOperand : Type 0
SOpOperand = (x : OpOperand) × POpOperand x

abbrev PRhsTree : RhsTree → Type 0
PRhsTree x = Unit {0}

abbrev SRhsTree : Type 0
SRhsTree = (x : RhsTree) × PRhsTree x

abbrev PSignedOperand : SignedOperand → Type 0
PSignedOperand x = Misses (spelling_signed x)

abbrev SSignedOperand : Type 0
SSignedOperand = (x : SignedOperand) × PSignedOperand x

aexp_step : (y : AExpTree-F SAExpTree SAltBody SAltSlot SDeclSlot SDeclTree SExpTree SGuardTree SLocals SOperandTree
    SRhsBody SAltBlock SAltTree SCaseTree SDeclBlock SGdTree SGdaTree SIfTree SInfixTree SLambdaTree SLetTree
    SOpOperand SRhsTree SSignedOperand) → Misses (aexp_tokens (map-AExpTree _ _ _ _ _ _ _ _ _ _ _ _ _ _ _ _ _ _ _ _ _
    _ _ _ _ _ _ _ _ _ _ _ _ _ _ _ _ _ _ _ _ _ _ _ _ _ (folded_aexp token_algebra) (folded_alt_body token_algebra)
    (folded_alt_slot token_algebra) (folded_decl_slot token_algebra) (folded_decl token_algebra) (folded_exp
    token_algebra) (folded_guard token_algebra) (folded_locals token_algebra) (folded_operand token_algebra)
    (folded_rhs_body token_algebra) (folded_alt_block token_algebra) (folded_alt token_algebra) (folded_case
    token_algebra) (folded_decl_block token_algebra) (folded_gd token_algebra) (folded_gda token_algebra) (folded_if
    token_algebra) (folded_infix token_algebra) (folded_lambda token_algebra) (folded_let token_algebra) (folded_link
    token_algebra) (folded_rhs token_algebra) (folded_signed token_algebra) (map-AExpTree SAExpTree SAltBody SAltSlot
    SDeclSlot SDeclTree SExpTree SGuardTree SLocals SOperandTree SRhsBody SAltBlock SAltTree SCaseTree SDeclBlock
    SGdTree SGdaTree SIfTree SInfixTree SLambdaTree SLetTree SOpOperand SRhsTree SSignedOperand _ _ _ _ _ _ _ _ _ _ _
    _ _ _ _ _ _ _ _ _ _ _ _ (λ e. e.0) (λ e. e.0) (λ e. e.0) (λ e. e.0) (λ e. e.0) (λ e. e.0) (λ e. e.0) (λ e. e.0)
    (λ e. e.0) (λ e. e.0) (λ e. e.0) (λ e. e.0) (λ e. e.0) (λ e. e.0) (λ e. e.0) (λ e. e.0) (λ e. e.0) (λ e. e.0) (λ
    e. e.0) (λ e. e.0) (λ e. e.0) (λ e. e.0) (λ e. e.0) y)))
aexp_step (AExpTree-F.Var n) = qvar_misses n
aexp_step (AExpTree-F.Con c) = gcon_misses c
aexp_step (AExpTree-F.Literal x) = literal_misses x
aexp_step (AExpTree-F.Parts x xs) = round_misses (between_commas (spelling_exp x.0) (map spelling_exp (map (λ e. e.0)
    xs))) (misses_between (spelling_exp x.0) (map spelling_exp (map (λ e. e.0) xs)) x.1 (each_of spelling_exp Misses
    xs))
aexp_step (AExpTree-F.List x xs) = square_misses (between_commas (spelling_exp x.0) (map spelling_exp (map (λ e. e.0)
    xs))) (misses_between (spelling_exp x.0) (map spelling_exp (map (λ e. e.0) xs)) x.1 (each_of spelling_exp Misses
    xs))
aexp_step (AExpTree-F.LeftSection x op) = left_misses (spelling_infix x.0) op x.1
aexp_step (AExpTree-F.RightSection op x) = right_misses op (spelling_infix x.0) x.1

exp_step : (y : ExpTree-F SAExpTree SAltBody SAltSlot SDeclSlot SDeclTree SExpTree SGuardTree SLocals SOperandTree
    SRhsBody SAltBlock SAltTree SCaseTree SDeclBlock SGdTree SGdaTree SIfTree SInfixTree SLambdaTree SLetTree
    SOpOperand SRhsTree SSignedOperand) → Misses (exp_tokens (map-ExpTree _ _ _ _ _ _ _ _ _ _ _ _ _ _ _ _ _ _ _ _ _ _
    _ _ _ _ _ _ _ _ _ _ _ _ _ _ _ _ _ _ _ _ _ _ _ _ (folded_aexp token_algebra) (folded_alt_body token_algebra)
    (folded_alt_slot token_algebra) (folded_decl_slot token_algebra) (folded_decl token_algebra) (folded_exp
    token_algebra) (folded_guard token_algebra) (folded_locals token_algebra) (folded_operand token_algebra)
    (folded_rhs_body token_algebra) (folded_alt_block token_algebra) (folded_alt token_algebra) (folded_case
    token_algebra) (folded_decl_block token_algebra) (folded_gd token_algebra) (folded_gda token_algebra) (folded_if
    token_algebra) (folded_infix token_algebra) (folded_lambda token_algebra) (folded_let token_algebra) (folded_link
    token_algebra) (folded_rhs token_algebra) (folded_signed token_algebra) (map-ExpTree SAExpTree SAltBody SAltSlot
    SDeclSlot SDeclTree SExpTree SGuardTree SLocals SOperandTree SRhsBody SAltBlock SAltTree SCaseTree SDeclBlock
    SGdTree SGdaTree SIfTree SInfixTree SLambdaTree SLetTree SOpOperand SRhsTree SSignedOperand _ _ _ _ _ _ _ _ _ _ _
    _ _ _ _ _ _ _ _ _ _ _ _ (λ e. e.0) (λ e. e.0) (λ e. e.0) (λ e. e.0) (λ e. e.0) (λ e. e.0) (λ e. e.0) (λ e. e.0)
    (λ e. e.0) (λ e. e.0) (λ e. e.0) (λ e. e.0) (λ e. e.0) (λ e. e.0) (λ e. e.0) (λ e. e.0) (λ e. e.0) (λ e. e.0) (λ
    e. e.0) (λ e. e.0) (λ e. e.0) (λ e. e.0) (λ e. e.0) y)))
exp_step (ExpTree-F.Infix x) = x.1
exp_step (ExpTree-F.Annotated x ty) = typed_misses (spelling_infix x.0) (spelling_type ty) x.1

operand_step : (y : OperandTree-F SAExpTree SAltBody SAltSlot SDeclSlot SDeclTree SExpTree SGuardTree SLocals
    SOperandTree SRhsBody SAltBlock SAltTree SCaseTree SDeclBlock SGdTree SGdaTree SIfTree SInfixTree SLambdaTree
    SLetTree SOpOperand SRhsTree SSignedOperand) → Misses (operand_tokens (map-OperandTree _ _ _ _ _ _ _ _ _ _ _ _ _
    _ _ _ _ _ _ _ _ _ _ _ _ _ _ _ _ _ _ _ _ _ _ _ _ _ _ _ _ _ _ _ _ _ (folded_aexp token_algebra) (folded_alt_body
    token_algebra) (folded_alt_slot token_algebra) (folded_decl_slot token_algebra) (folded_decl token_algebra)
    (folded_exp token_algebra) (folded_guard token_algebra) (folded_locals token_algebra) (folded_operand
    token_algebra) (folded_rhs_body token_algebra) (folded_alt_block token_algebra) (folded_alt token_algebra)
    (folded_case token_algebra) (folded_decl_block token_algebra) (folded_gd token_algebra) (folded_gda
    token_algebra) (folded_if token_algebra) (folded_infix token_algebra) (folded_lambda token_algebra) (folded_let
    token_algebra) (folded_link token_algebra) (folded_rhs token_algebra) (folded_signed token_algebra)
    (map-OperandTree SAExpTree SAltBody SAltSlot SDeclSlot SDeclTree SExpTree SGuardTree SLocals SOperandTree
    SRhsBody SAltBlock SAltTree SCaseTree SDeclBlock SGdTree SGdaTree SIfTree SInfixTree SLambdaTree SLetTree
    SOpOperand SRhsTree SSignedOperand _ _ _ _ _ _ _ _ _ _ _ _ _ _ _ _ _ _ _ _ _ _ _ (λ e. e.0) (λ e. e.0) (λ e. e.0)
    (λ e. e.0) (λ e. e.0) (λ e. e.0) (λ e. e.0) (λ e. e.0) (λ e. e.0) (λ e. e.0) (λ e. e.0) (λ e. e.0) (λ e. e.0) (λ
    e. e.0) (λ e. e.0) (λ e. e.0) (λ e. e.0) (λ e. e.0) (λ e. e.0) (λ e. e.0) (λ e. e.0) (λ e. e.0) (λ e. e.0) y)))
operand_step (OperandTree-F.Lambda x) = x.1
operand_step (OperandTree-F.Let x) = x.1
operand_step (OperandTree-F.If x) = x.1
operand_step (OperandTree-F.Case x) = x.1
operand_step (OperandTree-F.Apply x xs) = misses_append (spelling_aexp x.0) _ x.1 (misses_all (map spelling_aexp (map
    (λ e. e.0) xs)) (each_of spelling_aexp Misses xs))

pub infix_misses : (x : InfixTree) → Misses (spelling_infix x)
unfolding token_algebra
infix_misses = ind-InfixTree PAExpTree PAltBody PAltSlot PDeclSlot PDeclTree PExpTree PGuardTree PLocals POperandTree
    PRhsBody PAltBlock PAltTree PCaseTree PDeclBlock PGdTree PGdaTree PIfTree PInfixTree PLambdaTree PLetTree
    POpOperand PRhsTree PSignedOperand
    (λ x y is. subst Misses (sym (aexp_folded token_algebra x)) (subst (λ l. Misses (aexp_tokens (map-AExpTree _ _ _
    _ _ _ _ _ _ _ _ _ _ _ _ _ _ _ _ _ _ _ _ _ _ _ _ _ _ _ _ _ _ _ _ _ _ _ _ _ _ _ _ _ _ _ (folded_aexp
    token_algebra) (folded_alt_body token_algebra) (folded_alt_slot token_algebra) (folded_decl_slot
    token_algebra) (folded_decl token_algebra) (folded_exp token_algebra) (folded_guard token_algebra)
    (folded_locals token_algebra) (folded_operand token_algebra) (folded_rhs_body token_algebra)
    (folded_alt_block token_algebra) (folded_alt token_algebra) (folded_case token_algebra) (folded_decl_block
    token_algebra) (folded_gd token_algebra) (folded_gda token_algebra) (folded_if token_algebra) (folded_infix
    token_algebra) (folded_lambda token_algebra) (folded_let token_algebra) (folded_link token_algebra)
    (folded_rhs token_algebra) (folded_signed token_algebra) l))) is (aexp_step y)))
    (λ x y is. tt)
    (λ x y is. tt)
    (λ x y is. tt)
    (λ x y is. tt)
    (λ x y is. subst Misses (sym (exp_folded token_algebra x)) (subst (λ l. Misses (exp_tokens (map-ExpTree _ _ _ _ _
    _ _ _ _ _ _ _ _ _ _ _ _ _ _ _ _ _ _ _ _ _ _ _ _ _ _ _ _ _ _ _ _ _ _ _ _ _ _ _ _ _ (folded_aexp token_algebra)
    (folded_alt_body token_algebra) (folded_alt_slot token_algebra) (folded_decl_slot token_algebra) (folded_decl
    token_algebra) (folded_exp token_algebra) (folded_guard token_algebra) (folded_locals token_algebra)
    (folded_operand token_algebra) (folded_rhs_body token_algebra) (folded_alt_block token_algebra) (folded_alt
    token_algebra) (folded_case token_algebra) (folded_decl_block token_algebra) (folded_gd token_algebra)
    (folded_gda token_algebra) (folded_if token_algebra) (folded_infix token_algebra) (folded_lambda
    token_algebra) (folded_let token_algebra) (folded_link token_algebra) (folded_rhs token_algebra)
    (folded_signed token_algebra) l))) is (exp_step y)))
    (λ x y is. tt)
    (λ x y is. tt)
    (λ x y is. subst Misses (sym (operand_folded token_algebra x)) (subst (λ l. Misses (operand_tokens
    (map-OperandTree _ _ _ _ _ _ _ _ _ _ _ _ _ _ _ _ _ _ _ _ _ _ _ _ _ _ _ _ _ _ _ _ _ _ _ _ _ _ _ _ _ _ _ _ _ _
    (folded_aexp token_algebra) (folded_alt_body token_algebra) (folded_alt_slot token_algebra) (folded_decl_slot
    token_algebra) (folded_decl token_algebra) (folded_exp token_algebra) (folded_guard token_algebra)
    (folded_locals token_algebra) (folded_operand token_algebra) (folded_rhs_body token_algebra)
    (folded_alt_block token_algebra) (folded_alt token_algebra) (folded_case token_algebra) (folded_decl_block
    token_algebra) (folded_gd token_algebra) (folded_gda token_algebra) (folded_if token_algebra) (folded_infix
    token_algebra) (folded_lambda token_algebra) (folded_let token_algebra) (folded_link token_algebra)
    (folded_rhs token_algebra) (folded_signed token_algebra) l))) is (operand_step y)))
    (λ x y is. tt)
    (λ x y is. tt)
    (λ x y is. tt)
    (λ x y is. subst Misses (sym (case_folded token_algebra x)) (λ r d h. refl))
    (λ x y is. tt)
    (λ x y is. tt)
    (λ x y is. tt)
    (λ x y is. subst Misses (sym (if_folded token_algebra x)) (λ r d h. refl))
    (λ x y is. subst Misses (sym (infix_folded token_algebra x)) (subst (λ l. Misses (spelling_signed l.first ++
    flat_map (λ part. part) (map spelling_link l.rest))) is (misses_append (spelling_signed y.first.0) _
    y.first.1 (misses_all _ (each_of spelling_link Misses y.rest)))))
    (λ x y is. subst Misses (sym (lambda_folded token_algebra x)) (λ r d h. refl))
    (λ x y is. subst Misses (sym (let_folded token_algebra x)) (λ r d h. refl))
    (λ x y is. subst Misses (sym (link_folded token_algebra x)) (subst (λ l. Misses (qop_tokens l.op ++
    spelling_signed l.operand)) is (misses_append (qop_tokens y.op) (spelling_signed y.operand.0) (qop_misses
    y.op) y.operand.1)))
    (λ x y is. tt)
    (λ x y is. subst Misses (sym (signed_folded token_algebra x)) (subst (λ l. Misses (sign_tokens l.negated ++
    spelling_operand l.operand)) is (misses_append (sign_tokens y.negated) (spelling_operand y.operand.0)
    (sign_misses y.negated) y.operand.1)))

-- An expression before tokens that make no hit begins no pattern before `<-`.
pub apart : (e : InfixTree) (s : Ts) (p : PatTree) (more : Ts) → hits s zero ≡ false →
    spelling_infix e ++ s ≡ spelling_pat p ++ t.LeftArrow ∷ more → ⊥
apart e s p more miss same = no_bind (spelling_infix e ++ s) p more (infix_misses e s zero miss) same
