-- How large and how deep trees of expressions and declarations are. Names, literals and operators are no nodes and have
-- no depth; a `gcon` is a node. Brackets, tuples,
-- lists, sections, lambda, `let`, `if`, `case`, a `where` block and an annotation make their parts deeper by 1, and a
-- chain by the number of its operators and signs.
use Rattle.std.specs.Prelude.{ℕ, ◌+◌, Bool, true, false, map, sum}
use Rattle.hs_modules.specs.Extents.{Extent, nothing, leaf, beside, all_beside, node, deeper}
use Rattle.hs_modules.specs.PartExtents.{extent_of_type, extent_of_apat, extent_of_pat, extent_of_fun_lhs}
use Rattle.hs_modules.specs.declared.expressions.AExpTree.{AExpTree, AExpTree-F}
use Rattle.hs_modules.specs.declared.expressions.AltBody.{AltBody, AltBody-F}
use Rattle.hs_modules.specs.declared.expressions.AltSlot.{AltSlot, AltSlot-F}
use Rattle.hs_modules.specs.declared.expressions.DeclSlot.{DeclSlot, DeclSlot-F}
use Rattle.hs_modules.specs.declared.expressions.DeclTree.{DeclTree, DeclTree-F}
use Rattle.hs_modules.specs.declared.expressions.ExpTree.{ExpTree, ExpTree-F}
use Rattle.hs_modules.specs.declared.expressions.GuardTree.{GuardTree, GuardTree-F}
use Rattle.hs_modules.specs.declared.expressions.Locals.{Locals, Locals-F}
use Rattle.hs_modules.specs.declared.expressions.OperandTree.{OperandTree, OperandTree-F}
use Rattle.hs_modules.specs.declared.expressions.RhsBody.{RhsBody, RhsBody-F}
use Rattle.hs_modules.specs.declared.expressions.AltBlock.{AltBlock}
use Rattle.hs_modules.specs.declared.expressions.AltTree.{AltTree}
use Rattle.hs_modules.specs.declared.expressions.CaseTree.{CaseTree}
use Rattle.hs_modules.specs.declared.expressions.DeclBlock.{DeclBlock}
use Rattle.hs_modules.specs.declared.expressions.GdTree.{GdTree}
use Rattle.hs_modules.specs.declared.expressions.GdaTree.{GdaTree}
use Rattle.hs_modules.specs.declared.expressions.IfTree.{IfTree}
use Rattle.hs_modules.specs.declared.expressions.InfixTree.{InfixTree, out-InfixTree}
use Rattle.hs_modules.specs.declared.expressions.LambdaTree.{LambdaTree}
use Rattle.hs_modules.specs.declared.expressions.LetTree.{LetTree}
use Rattle.hs_modules.specs.declared.expressions.OpOperand.{OpOperand}
use Rattle.hs_modules.specs.declared.expressions.RhsTree.{RhsTree}
use Rattle.hs_modules.specs.declared.expressions.SignedOperand.{SignedOperand}
use Rattle.hs_modules.specs.Folds.{Algebra, AExpTreeLayer, AltBodyLayer, AltSlotLayer, DeclSlotLayer, DeclTreeLayer}
use Rattle.hs_modules.specs.Folds.{ExpTreeLayer, GuardTreeLayer, LocalsLayer, OperandTreeLayer, RhsBodyLayer}
use Rattle.hs_modules.specs.Folds.{folded_aexp, folded_alt_body, folded_alt_slot, folded_decl_slot, folded_decl}
use Rattle.hs_modules.specs.Folds.{folded_exp, folded_guard, folded_locals, folded_operand, folded_rhs_body}
use Rattle.hs_modules.specs.Folds.{folded_alt_block, folded_alt, folded_case, folded_decl_block, folded_gd, folded_gda}
use Rattle.hs_modules.specs.Folds.{folded_if, folded_infix, folded_lambda, folded_let, folded_link, folded_rhs}
use Rattle.hs_modules.specs.Folds.{folded_signed}

-- A sign is one of the operators of its chain.
abbrev pub sign : Bool → ℕ
sign true = 1
sign false = 0

abbrev pub aexp_extent : AExpTreeLayer Extent (ℕ × Extent) → Extent
aexp_extent (AExpTree-F.Var name) = leaf
aexp_extent (AExpTree-F.Con con) = node leaf
aexp_extent (AExpTree-F.Literal literal) = leaf
aexp_extent (AExpTree-F.Parts first rest) = deeper 1 (node (beside first (all_beside rest)))
aexp_extent (AExpTree-F.List first rest) = deeper 1 (node (beside first (all_beside rest)))
aexp_extent (AExpTree-F.LeftSection chain op) = deeper 1 (node chain)
aexp_extent (AExpTree-F.RightSection op chain) = deeper 1 (node chain)

abbrev pub alt_body_extent : AltBodyLayer Extent (ℕ × Extent) → Extent
alt_body_extent (AltBody-F.Arrow exp) = exp
alt_body_extent (AltBody-F.GuardedArrows first rest) = beside first (all_beside rest)

abbrev pub alt_slot_extent : AltSlotLayer Extent (ℕ × Extent) → Extent
alt_slot_extent AltSlot-F.NoAlt = nothing
alt_slot_extent (AltSlot-F.Alt alt) = alt

abbrev pub decl_slot_extent : DeclSlotLayer Extent (ℕ × Extent) → Extent
decl_slot_extent DeclSlot-F.NoDecl = nothing
decl_slot_extent (DeclSlot-F.Decl decl) = decl

abbrev pub decl_extent : DeclTreeLayer Extent (ℕ × Extent) → Extent
decl_extent (DeclTree-F.Signature first rest ty) = node (extent_of_type ty)
decl_extent (DeclTree-F.Fixity word level first rest) = leaf
decl_extent (DeclTree-F.Function left right) = node (beside (extent_of_fun_lhs left) right)
decl_extent (DeclTree-F.Pattern left right) = node (beside (extent_of_pat left) right)

abbrev pub exp_extent : ExpTreeLayer Extent (ℕ × Extent) → Extent
exp_extent (ExpTree-F.Infix chain) = node chain
exp_extent (ExpTree-F.Annotated chain ty) = deeper 1 (node (beside chain (extent_of_type ty)))

abbrev pub guard_extent : GuardTreeLayer Extent (ℕ × Extent) → Extent
guard_extent (GuardTree-F.Bind pat chain) = node (beside (extent_of_pat pat) chain)
guard_extent (GuardTree-F.Test chain) = node chain

abbrev pub locals_extent : LocalsLayer Extent (ℕ × Extent) → Extent
locals_extent Locals-F.Absent = nothing
locals_extent (Locals-F.Where block) = deeper 1 block

abbrev pub operand_extent : OperandTreeLayer Extent (ℕ × Extent) → Extent
operand_extent (OperandTree-F.Lambda part) = node part
operand_extent (OperandTree-F.Let part) = node part
operand_extent (OperandTree-F.If part) = node part
operand_extent (OperandTree-F.Case part) = node part
operand_extent (OperandTree-F.Apply first rest) = node (beside first (all_beside rest))

abbrev pub rhs_body_extent : RhsBodyLayer Extent (ℕ × Extent) → Extent
rhs_body_extent (RhsBody-F.Equals exp) = exp
rhs_body_extent (RhsBody-F.GuardedEquals first rest) = beside first (all_beside rest)

-- Of a link of a chain: how many operators its operator and sign are, and the extent of its operand.
unfoldable pub extent_algebra : Algebra Extent (ℕ × Extent)
extent_algebra = record {
  of_aexp = aexp_extent;
  of_alt_body = alt_body_extent;
  of_alt_slot = alt_slot_extent;
  of_decl_slot = decl_slot_extent;
  of_decl = decl_extent;
  of_exp = exp_extent;
  of_guard = guard_extent;
  of_locals = locals_extent;
  of_operand = operand_extent;
  of_rhs_body = rhs_body_extent;
  of_alt_block = λ b. beside b.first (all_beside b.rest);
  of_alt = λ a. node (beside (beside (extent_of_pat a.pat) a.body) a.locals);
  of_case = λ c. deeper 1 (node (beside c.scrutinee c.alts));
  of_decl_block = λ b. beside b.first (all_beside b.rest);
  of_gd = λ g. node (beside (beside g.first (all_beside g.rest)) g.exp);
  of_gda = λ g. node (beside (beside g.first (all_beside g.rest)) g.exp);
  of_if = λ i. deeper 1 (node (beside (beside i.test i.then_part) i.else_part));
  of_infix = λ x. deeper (x.first.0 + sum (map (λ o. o.0) x.rest))
      (node (beside x.first.1 (all_beside (map (λ o. o.1) x.rest))));
  of_lambda = λ l. deeper 1 (node (beside (beside (extent_of_apat l.first) (all_beside (map extent_of_apat l.rest)))
      l.body));
  of_let = λ l. deeper 1 (node (beside l.decls l.body));
  of_link = λ o. (1 + o.operand.0, o.operand.1);
  of_rhs = λ r. node (beside r.body r.locals);
  of_signed = λ s. (sign s.negated, s.operand);
}

abbrev pub extent_of_aexp : AExpTree → Extent
extent_of_aexp = folded_aexp extent_algebra

abbrev pub extent_of_alt_body : AltBody → Extent
extent_of_alt_body = folded_alt_body extent_algebra

abbrev pub extent_of_alt_slot : AltSlot → Extent
extent_of_alt_slot = folded_alt_slot extent_algebra

abbrev pub extent_of_decl_slot : DeclSlot → Extent
extent_of_decl_slot = folded_decl_slot extent_algebra

abbrev pub extent_of_decl : DeclTree → Extent
extent_of_decl = folded_decl extent_algebra

abbrev pub extent_of_exp : ExpTree → Extent
extent_of_exp = folded_exp extent_algebra

abbrev pub extent_of_guard : GuardTree → Extent
extent_of_guard = folded_guard extent_algebra

abbrev pub extent_of_locals : Locals → Extent
extent_of_locals = folded_locals extent_algebra

abbrev pub extent_of_operand : OperandTree → Extent
extent_of_operand = folded_operand extent_algebra

abbrev pub extent_of_rhs_body : RhsBody → Extent
extent_of_rhs_body = folded_rhs_body extent_algebra

abbrev pub extent_of_alt_block : AltBlock → Extent
extent_of_alt_block = folded_alt_block extent_algebra

abbrev pub extent_of_alt : AltTree → Extent
extent_of_alt = folded_alt extent_algebra

abbrev pub extent_of_case : CaseTree → Extent
extent_of_case = folded_case extent_algebra

abbrev pub extent_of_decl_block : DeclBlock → Extent
extent_of_decl_block = folded_decl_block extent_algebra

abbrev pub extent_of_gd : GdTree → Extent
extent_of_gd = folded_gd extent_algebra

abbrev pub extent_of_gda : GdaTree → Extent
extent_of_gda = folded_gda extent_algebra

abbrev pub extent_of_if : IfTree → Extent
extent_of_if = folded_if extent_algebra

abbrev pub extent_of_infix : InfixTree → Extent
extent_of_infix = folded_infix extent_algebra

abbrev pub extent_of_lambda : LambdaTree → Extent
extent_of_lambda = folded_lambda extent_algebra

abbrev pub extent_of_let : LetTree → Extent
extent_of_let = folded_let extent_algebra

abbrev pub extent_of_link : OpOperand → Extent
extent_of_link x = (folded_link extent_algebra x).1

abbrev pub operators_of_link : OpOperand → ℕ
operators_of_link x = (folded_link extent_algebra x).0

abbrev pub extent_of_rhs : RhsTree → Extent
extent_of_rhs = folded_rhs extent_algebra

abbrev pub extent_of_signed : SignedOperand → Extent
extent_of_signed x = (folded_signed extent_algebra x).1

abbrev pub operators_of_signed : SignedOperand → ℕ
operators_of_signed x = (folded_signed extent_algebra x).0

-- the operators and signs of a chain
abbrev pub operators_of_infix : InfixTree → ℕ
operators_of_infix x = operators_of_signed (out-InfixTree x).first + sum (map operators_of_link (out-InfixTree x).rest)

abbrev pub size_of_decl : DeclTree → ℕ
size_of_decl decl = (extent_of_decl decl).size

abbrev pub depth_of_decl : DeclTree → ℕ
depth_of_decl decl = (extent_of_decl decl).depth
