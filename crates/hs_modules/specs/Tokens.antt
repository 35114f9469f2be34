-- The tokens of a tree of expressions and declarations, from those of its parts (Haskell 2010 Report, chapters 3 and
-- 4). A block's braces and semicolons are those that
-- layout made or the source has.
use Rattle.std.specs.Prelude.{ℕ, Bool, true, false, Option, Some, None, List, [], ◌∷◌, ◌++◌, codes, flat_map}
use Rattle.hs_tokens.specs.Terminals.{minus}
use Rattle.hs_trees.specs.Types.{spelling_type}
use Rattle.hs_trees.specs.Patterns.{Ts, literal_token, var_tokens, gcon_tokens, between_commas, spelling_apat}
use Rattle.hs_trees.specs.Patterns.{spelling_lpat, spelling_pat}
use Rattle.hs_tokens.specs.declared.terminal.Terminal.{Terminal}
use Rattle.hs_tokens.specs.declared.terminal.Terminal.TheVariants as t
use Rattle.hs_tokens.specs.declared.word.Word.TheVariants as w
use Rattle.hs_modules.specs.declared.declarations.Fixity.{Fixity}
use Rattle.hs_modules.specs.declared.declarations.Fixity.TheVariants as f
use Rattle.hs_modules.specs.Words.{qvar_tokens, varop_tokens, op_tokens, qop_tokens}
use Rattle.hs_modules.specs.declared.expressions.AExpTree.{AExpTree, AExpTree-F}
use Rattle.hs_modules.specs.declared.expressions.AltBody.{AltBody, AltBody-F}
use Rattle.hs_modules.specs.declared.expressions.AltSlot.{AltSlot, AltSlot-F}
use Rattle.hs_modules.specs.declared.expressions.DeclSlot.{DeclSlot, DeclSlot-F}
use Rattle.hs_modules.specs.declared.expressions.DeclTree.{DeclTree, DeclTree-F}
use Rattle.hs_modules.specs.declared.expressions.ExpTree.{ExpTree, ExpTree-F}
use Rattle.hs_modules.specs.declared.expressions.GuardTree.{GuardTree, GuardTree-F}
use Rattle.hs_modules.specs.declared.expressions.Locals.{Locals, Locals-F}
use Rattle.hs_modules.specs.declared.expressions.OperandTree.{OperandTree, OperandTree-F}
use Rattle.hs_modules.specs.declared.expressions.RhsBody.{RhsBody, RhsBody-F}
use Rattle.hs_modules.specs.declared.expressions.AltBlock.{AltBlock}
use Rattle.hs_modules.specs.declared.expressions.AltTree.{AltTree}
use Rattle.hs_modules.specs.declared.expressions.CaseTree.{CaseTree}
use Rattle.hs_modules.specs.declared.expressions.DeclBlock.{DeclBlock}
use Rattle.hs_modules.specs.declared.expressions.GdTree.{GdTree}
use Rattle.hs_modules.specs.declared.expressions.GdaTree.{GdaTree}
use Rattle.hs_modules.specs.declared.expressions.IfTree.{IfTree}
use Rattle.hs_modules.specs.declared.expressions.InfixTree.{InfixTree}
use Rattle.hs_modules.specs.declared.expressions.LambdaTree.{LambdaTree}
use Rattle.hs_modules.specs.declared.expressions.LetTree.{LetTree}
use Rattle.hs_modules.specs.declared.expressions.OpOperand.{OpOperand}
use Rattle.hs_modules.specs.declared.expressions.RhsTree.{RhsTree}
use Rattle.hs_modules.specs.declared.expressions.SignedOperand.{SignedOperand}
use Rattle.hs_modules.specs.Folds.{Algebra, AExpTreeLayer, AltBodyLayer, AltSlotLayer, DeclSlotLayer, DeclTreeLayer}
use Rattle.hs_modules.specs.Folds.{ExpTreeLayer, GuardTreeLayer, LocalsLayer, OperandTreeLayer, RhsBodyLayer}
use Rattle.hs_modules.specs.Folds.{folded_aexp, folded_alt_body, folded_alt_slot, folded_decl_slot, folded_decl}
use Rattle.hs_modules.specs.Folds.{folded_exp, folded_guard, folded_locals, folded_operand, folded_rhs_body}
use Rattle.hs_modules.specs.Folds.{folded_alt_block, folded_alt, folded_case, folded_decl_block, folded_gd, folded_gda}
use Rattle.hs_modules.specs.Folds.{folded_if, folded_infix, folded_lambda, folded_let, folded_link, folded_rhs}
use Rattle.hs_modules.specs.Folds.{folded_signed}
use Rattle.hs_modules.specs.declared.expressions.FunLhsTree.{FunLhsTree, FunLhsTree-F, fold-FunLhsTree}

abbrev pub joined : List Ts → Ts
joined parts = flat_map (λ part. part) parts

-- `{`, what stands between semicolons, `}`
abbrev pub block_tokens : Ts → List Ts → Ts
block_tokens first rest = t.LeftBrace ∷ ((first ++ flat_map (λ part. t.Semicolon ∷ part) rest) ++ t.RightBrace ∷ [])

abbrev pub fun_lhs_tokens : FunLhsTree-F Ts → Ts
fun_lhs_tokens (FunLhsTree-F.Prefix var first rest) =
    var_tokens var ++ (spelling_apat first ++ flat_map spelling_apat rest)
fun_lhs_tokens (FunLhsTree-F.Infix left op right) = spelling_lpat left ++ (varop_tokens op ++ spelling_lpat right)
fun_lhs_tokens (FunLhsTree-F.Parens inner first rest) =
    t.LeftParen ∷ (inner ++ t.RightParen ∷ (spelling_apat first ++ flat_map spelling_apat rest))

abbrev pub spelling_fun_lhs : FunLhsTree → Ts
spelling_fun_lhs = fold-FunLhsTree Ts fun_lhs_tokens

abbrev pub aexp_tokens : AExpTreeLayer Ts Ts → Ts
aexp_tokens (AExpTree-F.Var name) = qvar_tokens name
aexp_tokens (AExpTree-F.Con con) = gcon_tokens con
aexp_tokens (AExpTree-F.Literal literal) = literal_token literal ∷ []
aexp_tokens (AExpTree-F.Parts first rest) = t.LeftParen ∷ (between_commas first rest ++ t.RightParen ∷ [])
aexp_tokens (AExpTree-F.List first rest) = t.LeftBracket ∷ (between_commas first rest ++ t.RightBracket ∷ [])
aexp_tokens (AExpTree-F.LeftSection chain op) = t.LeftParen ∷ (chain ++ (qop_tokens op ++ t.RightParen ∷ []))
aexp_tokens (AExpTree-F.RightSection op chain) = t.LeftParen ∷ (qop_tokens op ++ (chain ++ t.RightParen ∷ []))

abbrev pub alt_body_tokens : AltBodyLayer Ts Ts → Ts
alt_body_tokens (AltBody-F.Arrow exp) = t.Arrow ∷ exp
alt_body_tokens (AltBody-F.GuardedArrows first rest) = first ++ joined rest

abbrev pub alt_slot_tokens : AltSlotLayer Ts Ts → Ts
alt_slot_tokens AltSlot-F.NoAlt = []
alt_slot_tokens (AltSlot-F.Alt alt) = alt

abbrev pub decl_slot_tokens : DeclSlotLayer Ts Ts → Ts
decl_slot_tokens DeclSlot-F.NoDecl = []
decl_slot_tokens (DeclSlot-F.Decl decl) = decl

abbrev pub fixity_word : Fixity → Terminal
fixity_word f.Left = t.Word w.Infixl
fixity_word f.Right = t.Word w.Infixr
fixity_word f.Neither = t.Word w.Infix

abbrev pub level_tokens : Option (List ℕ) → Ts
level_tokens None = []
level_tokens (Some digit) = t.Integer digit ∷ []

abbrev pub decl_tokens : DeclTreeLayer Ts Ts → Ts
decl_tokens (DeclTree-F.Signature first rest ty) =
    (var_tokens first ++ flat_map (λ var. t.Comma ∷ var_tokens var) rest) ++ t.DoubleColon ∷ spelling_type ty
decl_tokens (DeclTree-F.Fixity word level first rest) =
    fixity_word word ∷ (level_tokens level ++ (op_tokens first ++ flat_map (λ op. t.Comma ∷ op_tokens op) rest))
decl_tokens (DeclTree-F.Function left right) = spelling_fun_lhs left ++ right
decl_tokens (DeclTree-F.Pattern left right) = spelling_pat left ++ right

abbrev pub exp_tokens : ExpTreeLayer Ts Ts → Ts
exp_tokens (ExpTree-F.Infix chain) = chain
exp_tokens (ExpTree-F.Annotated chain ty) = chain ++ t.DoubleColon ∷ spelling_type ty

abbrev pub guard_tokens : GuardTreeLayer Ts Ts → Ts
guard_tokens (GuardTree-F.Bind pat chain) = spelling_pat pat ++ t.LeftArrow ∷ chain
guard_tokens (GuardTree-F.Test chain) = chain

abbrev pub locals_tokens : LocalsLayer Ts Ts → Ts
locals_tokens Locals-F.Absent = []
locals_tokens (Locals-F.Where block) = t.Word w.Where ∷ block

abbrev pub operand_tokens : OperandTreeLayer Ts Ts → Ts
operand_tokens (OperandTree-F.Lambda part) = part
operand_tokens (OperandTree-F.Let part) = part
operand_tokens (OperandTree-F.If part) = part
operand_tokens (OperandTree-F.Case part) = part
operand_tokens (OperandTree-F.Apply first rest) = first ++ joined rest

abbrev pub rhs_body_tokens : RhsBodyLayer Ts Ts → Ts
rhs_body_tokens (RhsBody-F.Equals exp) = t.Equals ∷ exp
rhs_body_tokens (RhsBody-F.GuardedEquals first rest) = first ++ joined rest

abbrev pub sign_tokens : Bool → Ts
sign_tokens true = t.VarSym minus ∷ []
sign_tokens false = []

unfoldable pub token_algebra : Algebra Ts Ts
token_algebra = record {
  of_aexp = aexp_tokens;
  of_alt_body = alt_body_tokens;
  of_alt_slot = alt_slot_tokens;
  of_decl_slot = decl_slot_tokens;
  of_decl = decl_tokens;
  of_exp = exp_tokens;
  of_guard = guard_tokens;
  of_locals = locals_tokens;
  of_operand = operand_tokens;
  of_rhs_body = rhs_body_tokens;
  of_alt_block = λ b. block_tokens b.first b.rest;
  of_alt = λ a. spelling_pat a.pat ++ (a.body ++ a.locals);
  of_case = λ c. t.Word w.Case ∷ (c.scrutinee ++ t.Word w.Of ∷ c.alts);
  of_decl_block = λ b. block_tokens b.first b.rest;
  of_gd = λ g. t.Bar ∷ (between_commas g.first g.rest ++ t.Equals ∷ g.exp);
  of_gda = λ g. t.Bar ∷ (between_commas g.first g.rest ++ t.Arrow ∷ g.exp);
  of_if = λ i. t.Word w.If ∷ (i.test ++ t.Word w.Then ∷ (i.then_part ++ t.Word w.Else ∷ i.else_part));
  of_infix = λ x. x.first ++ joined x.rest;
  of_lambda = λ l. t.Backslash ∷ ((spelling_apat l.first ++ flat_map spelling_apat l.rest) ++ t.Arrow ∷ l.body);
  of_let = λ l. t.Word w.Let ∷ (l.decls ++ t.Word w.In ∷ l.body);
  of_link = λ o. qop_tokens o.op ++ o.operand;
  of_rhs = λ r. r.body ++ r.locals;
  of_signed = λ s. sign_tokens s.negated ++ s.operand;
}

abbrev pub spelling_aexp : AExpTree → Ts
spelling_aexp = folded_aexp token_algebra

abbrev pub spelling_alt_body : AltBody → Ts
spelling_alt_body = folded_alt_body token_algebra

abbrev pub spelling_alt_slot : AltSlot → Ts
spelling_alt_slot = folded_alt_slot token_algebra

abbrev pub spelling_decl_slot : DeclSlot → Ts
spelling_decl_slot = folded_decl_slot token_algebra

abbrev pub spelling_decl : DeclTree → Ts
spelling_decl = folded_decl token_algebra

abbrev pub spelling_exp : ExpTree → Ts
spelling_exp = folded_exp token_algebra

abbrev pub spelling_guard : GuardTree → Ts
spelling_guard = folded_guard token_algebra

abbrev pub spelling_locals : Locals → Ts
spelling_locals = folded_locals token_algebra

abbrev pub spelling_operand : OperandTree → Ts
spelling_operand = folded_operand token_algebra

abbrev pub spelling_rhs_body : RhsBody → Ts
spelling_rhs_body = folded_rhs_body token_algebra

abbrev pub spelling_alt_block : AltBlock → Ts
spelling_alt_block = folded_alt_block token_algebra

abbrev pub spelling_alt : AltTree → Ts
spelling_alt = folded_alt token_algebra

abbrev pub spelling_case : CaseTree → Ts
spelling_case = folded_case token_algebra

abbrev pub spelling_decl_block : DeclBlock → Ts
spelling_decl_block = folded_decl_block token_algebra

abbrev pub spelling_gd : GdTree → Ts
spelling_gd = folded_gd token_algebra

abbrev pub spelling_gda : GdaTree → Ts
spelling_gda = folded_gda token_algebra

abbrev pub spelling_if : IfTree → Ts
spelling_if = folded_if token_algebra

abbrev pub spelling_infix : InfixTree → Ts
spelling_infix = folded_infix token_algebra

abbrev pub spelling_lambda : LambdaTree → Ts
spelling_lambda = folded_lambda token_algebra

abbrev pub spelling_let : LetTree → Ts
spelling_let = folded_let token_algebra

abbrev pub spelling_link : OpOperand → Ts
spelling_link = folded_link token_algebra

abbrev pub spelling_rhs : RhsTree → Ts
spelling_rhs = folded_rhs token_algebra

abbrev pub spelling_signed : SignedOperand → Ts
spelling_signed = folded_signed token_algebra
