-- Folds over the trees of expressions and declarations, which lead back to one another: one value for each tree, made
-- from those of its parts.
use Rattle.hs_modules.specs.declared.expressions.AExpTree.{AExpTree, AExpTree-F, fold-AExpTree}
use Rattle.hs_modules.specs.declared.expressions.AltBody.{AltBody, AltBody-F, fold-AltBody}
use Rattle.hs_modules.specs.declared.expressions.AltSlot.{AltSlot, AltSlot-F, fold-AltSlot}
use Rattle.hs_modules.specs.declared.expressions.DeclSlot.{DeclSlot, DeclSlot-F, fold-DeclSlot}
use Rattle.hs_modules.specs.declared.expressions.DeclTree.{DeclTree, DeclTree-F, fold-DeclTree}
use Rattle.hs_modules.specs.declared.expressions.ExpTree.{ExpTree, ExpTree-F, fold-ExpTree}
use Rattle.hs_modules.specs.declared.expressions.GuardTree.{GuardTree, GuardTree-F, fold-GuardTree}
use Rattle.hs_modules.specs.declared.expressions.Locals.{Locals, Locals-F, fold-Locals}
use Rattle.hs_modules.specs.declared.expressions.OperandTree.{OperandTree, OperandTree-F, fold-OperandTree}
use Rattle.hs_modules.specs.declared.expressions.RhsBody.{RhsBody, RhsBody-F, fold-RhsBody}
use Rattle.hs_modules.specs.declared.expressions.AltBlock.{AltBlock, AltBlock-F, fold-AltBlock}
use Rattle.hs_modules.specs.declared.expressions.AltTree.{AltTree, AltTree-F, fold-AltTree}
use Rattle.hs_modules.specs.declared.expressions.CaseTree.{CaseTree, CaseTree-F, fold-CaseTree}
use Rattle.hs_modules.specs.declared.expressions.DeclBlock.{DeclBlock, DeclBlock-F, fold-DeclBlock}
use Rattle.hs_modules.specs.declared.expressions.GdTree.{GdTree, GdTree-F, fold-GdTree}
use Rattle.hs_modules.specs.declared.expressions.GdaTree.{GdaTree, GdaTree-F, fold-GdaTree}
use Rattle.hs_modules.specs.declared.expressions.IfTree.{IfTree, IfTree-F, fold-IfTree}
use Rattle.hs_modules.specs.declared.expressions.InfixTree.{InfixTree, InfixTree-F, fold-InfixTree}
use Rattle.hs_modules.specs.declared.expressions.LambdaTree.{LambdaTree, LambdaTree-F, fold-LambdaTree}
use Rattle.hs_modules.specs.declared.expressions.LetTree.{LetTree, LetTree-F, fold-LetTree}
use Rattle.hs_modules.specs.declared.expressions.OpOperand.{OpOperand, OpOperand-F, fold-OpOperand}
use Rattle.hs_modules.specs.declared.expressions.RhsTree.{RhsTree, RhsTree-F, fold-RhsTree}
use Rattle.hs_modules.specs.declared.expressions.SignedOperand.{SignedOperand, SignedOperand-F, fold-SignedOperand}

abbrev pub AExpTreeLayer : Type 0 → Type 0 → Type 0
AExpTreeLayer A L = AExpTree-F A A A A A A A A A A A A A A A A A A A A L A L

abbrev pub AltBodyLayer : Type 0 → Type 0 → Type 0
AltBodyLayer A L = AltBody-F A A A A A A A A A A A A A A A A A A A A L A L

abbrev pub AltSlotLayer : Type 0 → Type 0 → Type 0
AltSlotLayer A L = AltSlot-F A A A A A A A A A A A A A A A A A A A A L A L

abbrev pub DeclSlotLayer : Type 0 → Type 0 → Type 0
DeclSlotLayer A L = DeclSlot-F A A A A A A A A A A A A A A A A A A A A L A L

abbrev pub DeclTreeLayer : Type 0 → Type 0 → Type 0
DeclTreeLayer A L = DeclTree-F A A A A A A A A A A A A A A A A A A A A L A L

abbrev pub ExpTreeLayer : Type 0 → Type 0 → Type 0
ExpTreeLayer A L = ExpTree-F A A A A A A A A A A A A A A A A A A A A L A L

abbrev pub GuardTreeLayer : Type 0 → Type 0 → Type 0
GuardTreeLayer A L = GuardTree-F A A A A A A A A A A A A A A A A A A A A L A L

abbrev pub LocalsLayer : Type 0 → Type 0 → Type 0
LocalsLayer A L = Locals-F A A A A A A A A A A A A A A A A A A A A L A L

abbrev pub OperandTreeLayer : Type 0 → Type 0 → Type 0
OperandTreeLayer A L = OperandTree-F A A A A A A A A A A A A A A A A A A A A L A L

abbrev pub RhsBodyLayer : Type 0 → Type 0 → Type 0
RhsBodyLayer A L = RhsBody-F A A A A A A A A A A A A A A A A A A A A L A L

abbrev pub AltBlockLayer : Type 0 → Type 0 → Type 0
AltBlockLayer A L = AltBlock-F A A A A A A A A A A A A A A A A A A A A L A L

abbrev pub AltTreeLayer : Type 0 → Type 0 → Type 0
AltTreeLayer A L = AltTree-F A A A A A A A A A A A A A A A A A A A A L A L

abbrev pub CaseTreeLayer : Type 0 → Type 0 → Type 0
CaseTreeLayer A L = CaseTree-F A A A A A A A A A A A A A A A A A A A A L A L

abbrev pub DeclBlockLayer : Type 0 → Type 0 → Type 0
DeclBlockLayer A L = DeclBlock-F A A A A A A A A A A A A A A A A A A A A L A L

abbrev pub GdTreeLayer : Type 0 → Type 0 → Type 0
GdTreeLayer A L = GdTree-F A A A A A A A A A A A A A A A A A A A A L A L

abbrev pub GdaTreeLayer : Type 0 → Type 0 → Type 0
GdaTreeLayer A L = GdaTree-F A A A A A A A A A A A A A A A A A A A A L A L

abbrev pub IfTreeLayer : Type 0 → Type 0 → Type 0
IfTreeLayer A L = IfTree-F A A A A A A A A A A A A A A A A A A A A L A L

abbrev pub InfixTreeLayer : Type 0 → Type 0 → Type 0
InfixTreeLayer A L = InfixTree-F A A A A A A A A A A A A A A A A A A A A L A L

abbrev pub LambdaTreeLayer : Type 0 → Type 0 → Type 0
LambdaTreeLayer A L = LambdaTree-F A A A A A A A A A A A A A A A A A A A A L A L

abbrev pub LetTreeLayer : Type 0 → Type 0 → Type 0
LetTreeLayer A L = LetTree-F A A A A A A A A A A A A A A A A A A A A L A L

abbrev pub OpOperandLayer : Type 0 → Type 0 → Type 0
OpOperandLayer A L = OpOperand-F A A A A A A A A A A A A A A A A A A A A L A L

abbrev pub RhsTreeLayer : Type 0 → Type 0 → Type 0
RhsTreeLayer A L = RhsTree-F A A A A A A A A A A A A A A A A A A A A L A L

abbrev pub SignedOperandLayer : Type 0 → Type 0 → Type 0
SignedOperandLayer A L = SignedOperand-F A A A A A A A A A A A A A A A A A A A A L A L

-- What each production makes of the values of its parts; links of a chain, which are an operand with its sign or with
-- its operator, have values of their own.
pub record Algebra (A L : Type 0) : Type 0 where
  pub of_aexp : AExpTreeLayer A L → A
  pub of_alt_body : AltBodyLayer A L → A
  pub of_alt_slot : AltSlotLayer A L → A
  pub of_decl_slot : DeclSlotLayer A L → A
  pub of_decl : DeclTreeLayer A L → A
  pub of_exp : ExpTreeLayer A L → A
  pub of_guard : GuardTreeLayer A L → A
  pub of_locals : LocalsLayer A L → A
  pub of_operand : OperandTreeLayer A L → A
  pub of_rhs_body : RhsBodyLayer A L → A
  pub of_alt_block : AltBlockLayer A L → A
  pub of_alt : AltTreeLayer A L → A
  pub of_case : CaseTreeLayer A L → A
  pub of_decl_block : DeclBlockLayer A L → A
  pub of_gd : GdTreeLayer A L → A
  pub of_gda : GdaTreeLayer A L → A
  pub of_if : IfTreeLayer A L → A
  pub of_infix : InfixTreeLayer A L → A
  pub of_lambda : LambdaTreeLayer A L → A
  pub of_let : LetTreeLayer A L → A
  pub of_link : OpOperandLayer A L → L
  pub of_rhs : RhsTreeLayer A L → A
  pub of_signed : SignedOperandLayer A L → L

unfoldable pub folded_aexp : {A L : Type 0} → Algebra A L → AExpTree → A
folded_aexp {A} {L} a = fold-AExpTree A A A A A A A A A A A A A A A A A A A A L A L a.of_aexp a.of_alt_body
    a.of_alt_slot a.of_decl_slot a.of_decl a.of_exp a.of_guard a.of_locals a.of_operand a.of_rhs_body a.of_alt_block
    a.of_alt a.of_case a.of_decl_block a.of_gd a.of_gda a.of_if a.of_infix a.of_lambda a.of_let a.of_link a.of_rhs
    a.of_signed

unfoldable pub folded_alt_body : {A L : Type 0} → Algebra A L → AltBody → A
folded_alt_body {A} {L} a = fold-AltBody A A A A A A A A A A A A A A A A A A A A L A L a.of_aexp a.of_alt_body
    a.of_alt_slot a.of_decl_slot a.of_decl a.of_exp a.of_guard a.of_locals a.of_operand a.of_rhs_body a.of_alt_block
    a.of_alt a.of_case a.of_decl_block a.of_gd a.of_gda a.of_if a.of_infix a.of_lambda a.of_let a.of_link a.of_rhs
    a.of_signed

unfoldable pub folded_alt_slot : {A L : Type 0} → Algebra A L → AltSlot → A
folded_alt_slot {A} {L} a = fold-AltSlot A A A A A A A A A A A A A A A A A A A A L A L a.of_aexp a.of_alt_body
    a.of_alt_slot a.of_decl_slot a.of_decl a.of_exp a.of_guard a.of_locals a.of_operand a.of_rhs_body a.of_alt_block
    a.of_alt a.of_case a.of_decl_block a.of_gd a.of_gda a.of_if a.of_infix a.of_lambda a.of_let a.of_link a.of_rhs
    a.of_signed

unfoldable pub folded_decl_slot : {A L : Type 0} → Algebra A L → DeclSlot → A
folded_decl_slot {A} {L} a = fold-DeclSlot A A A A A A A A A A A A A A A A A A A A L A L a.of_aexp a.of_alt_body
    a.of_alt_slot a.of_decl_slot a.of_decl a.of_exp a.of_guard a.of_locals a.of_operand a.of_rhs_body a.of_alt_block
    a.of_alt a.of_case a.of_decl_block a.of_gd a.of_gda a.of_if a.of_infix a.of_lambda a.of_let a.of_link a.of_rhs
    a.of_signed

unfoldable pub folded_decl : {A L : Type 0} → Algebra A L → DeclTree → A
folded_decl {A} {L} a = fold-DeclTree A A A A A A A A A A A A A A A A A A A A L A L a.of_aexp a.of_alt_body
    a.of_alt_slot a.of_decl_slot a.of_decl a.of_exp a.of_guard a.of_locals a.of_operand a.of_rhs_body a.of_alt_block
    a.of_alt a.of_case a.of_decl_block a.of_gd a.of_gda a.of_if a.of_infix a.of_lambda a.of_let a.of_link a.of_rhs
    a.of_signed

unfoldable pub folded_exp : {A L : Type 0} → Algebra A L → ExpTree → A
folded_exp {A} {L} a = fold-ExpTree A A A A A A A A A A A A A A A A A A A A L A L a.of_aexp a.of_alt_body a.of_alt_slot
    a.of_decl_slot a.of_decl a.of_exp a.of_guard a.of_locals a.of_operand a.of_rhs_body a.of_alt_block a.of_alt
    a.of_case a.of_decl_block a.of_gd a.of_gda a.of_if a.of_infix a.of_lambda a.of_let a.of_link a.of_rhs a.of_signed

unfoldable pub folded_guard : {A L : Type 0} → Algebra A L → GuardTree → A
folded_guard {A} {L} a = fold-GuardTree A A A A A A A A A A A A A A A A A A A A L A L a.of_aexp a.of_alt_body
    a.of_alt_slot a.of_decl_slot a.of_decl a.of_exp a.of_guard a.of_locals a.of_operand a.of_rhs_body a.of_alt_block
    a.of_alt a.of_case a.of_decl_block a.of_gd a.of_gda a.of_if a.of_infix a.of_lambda a.of_let a.of_link a.of_rhs
    a.of_signed

unfoldable pub folded_locals : {A L : Type 0} → Algebra A L → Locals → A
folded_locals {A} {L} a = fold-Locals A A A A A A A A A A A A A A A A A A A A L A L a.of_aexp a.of_alt_body
    a.of_alt_slot a.of_decl_slot a.of_decl a.of_exp a.of_guard a.of_locals a.of_operand a.of_rhs_body a.of_alt_block
    a.of_alt a.of_case a.of_decl_block a.of_gd a.of_gda a.of_if a.of_infix a.of_lambda a.of_let a.of_link a.of_rhs
    a.of_signed

unfoldable pub folded_operand : {A L : Type 0} → Algebra A L → OperandTree → A
folded_operand {A} {L} a = fold-OperandTree A A A A A A A A A A A A A A A A A A A A L A L a.of_aexp a.of_alt_body
    a.of_alt_slot a.of_decl_slot a.of_decl a.of_exp a.of_guard a.of_locals a.of_operand a.of_rhs_body a.of_alt_block
    a.of_alt a.of_case a.of_decl_block a.of_gd a.of_gda a.of_if a.of_infix a.of_lambda a.of_let a.of_link a.of_rhs
    a.of_signed

unfoldable pub folded_rhs_body : {A L : Type 0} → Algebra A L → RhsBody → A
folded_rhs_body {A} {L} a = fold-RhsBody A A A A A A A A A A A A A A A A A A A A L A L a.of_aexp a.of_alt_body
    a.of_alt_slot a.of_decl_slot a.of_decl a.of_exp a.of_guard a.of_locals a.of_operand a.of_rhs_body a.of_alt_block
    a.of_alt a.of_case a.of_decl_block a.of_gd a.of_gda a.of_if a.of_infix a.of_lambda a.of_let a.of_link a.of_rhs
    a.of_signed

unfoldable pub folded_alt_block : {A L : Type 0} → Algebra A L → AltBlock → A
folded_alt_block {A} {L} a = fold-AltBlock A A A A A A A A A A A A A A A A A A A A L A L a.of_aexp a.of_alt_body
    a.of_alt_slot a.of_decl_slot a.of_decl a.of_exp a.of_guard a.of_locals a.of_operand a.of_rhs_body a.of_alt_block
    a.of_alt a.of_case a.of_decl_block a.of_gd a.of_gda a.of_if a.of_infix a.of_lambda a.of_let a.of_link a.of_rhs
    a.of_signed

unfoldable pub folded_alt : {A L : Type 0} → Algebra A L → AltTree → A
folded_alt {A} {L} a = fold-AltTree A A A A A A A A A A A A A A A A A A A A L A L a.of_aexp a.of_alt_body a.of_alt_slot
    a.of_decl_slot a.of_decl a.of_exp a.of_guard a.of_locals a.of_operand a.of_rhs_body a.of_alt_block a.of_alt
    a.of_case a.of_decl_block a.of_gd a.of_gda a.of_if a.of_infix a.of_lambda a.of_let a.of_link a.of_rhs a.of_signed

unfoldable pub folded_case : {A L : Type 0} → Algebra A L → CaseTree → A
folded_case {A} {L} a = fold-CaseTree A A A A A A A A A A A A A A A A A A A A L A L a.of_aexp a.of_alt_body
    a.of_alt_slot a.of_decl_slot a.of_decl a.of_exp a.of_guard a.of_locals a.of_operand a.of_rhs_body a.of_alt_block
    a.of_alt a.of_case a.of_decl_block a.of_gd a.of_gda a.of_if a.of_infix a.of_lambda a.of_let a.of_link a.of_rhs
    a.of_signed

unfoldable pub folded_decl_block : {A L : Type 0} → Algebra A L → DeclBlock → A
folded_decl_block {A} {L} a = fold-DeclBlock A A A A A A A A A A A A A A A A A A A A L A L a.of_aexp a.of_alt_body
    a.of_alt_slot a.of_decl_slot a.of_decl a.of_exp a.of_guard a.of_locals a.of_operand a.of_rhs_body a.of_alt_block
    a.of_alt a.of_case a.of_decl_block a.of_gd a.of_gda a.of_if a.of_infix a.of_lambda a.of_let a.of_link a.of_rhs
    a.of_signed

unfoldable pub folded_gd : {A L : Type 0} → Algebra A L → GdTree → A
folded_gd {A} {L} a = fold-GdTree A A A A A A A A A A A A A A A A A A A A L A L a.of_aexp a.of_alt_body a.of_alt_slot
    a.of_decl_slot a.of_decl a.of_exp a.of_guard a.of_locals a.of_operand a.of_rhs_body a.of_alt_block a.of_alt
    a.of_case a.of_decl_block a.of_gd a.of_gda a.of_if a.of_infix a.of_lambda a.of_let a.of_link a.of_rhs a.of_signed

unfoldable pub folded_gda : {A L : Type 0} → Algebra A L → GdaTree → A
folded_gda {A} {L} a = fold-GdaTree A A A A A A A A A A A A A A A A A A A A L A L a.of_aexp a.of_alt_body a.of_alt_slot
    a.of_decl_slot a.of_decl a.of_exp a.of_guard a.of_locals a.of_operand a.of_rhs_body a.of_alt_block a.of_alt
    a.of_case a.of_decl_block a.of_gd a.of_gda a.of_if a.of_infix a.of_lambda a.of_let a.of_link a.of_rhs a.of_signed

unfoldable pub folded_if : {A L : Type 0} → Algebra A L → IfTree → A
folded_if {A} {L} a = fold-IfTree A A A A A A A A A A A A A A A A A A A A L A L a.of_aexp a.of_alt_body a.of_alt_slot
    a.of_decl_slot a.of_decl a.of_exp a.of_guard a.of_locals a.of_operand a.of_rhs_body a.of_alt_block a.of_alt
    a.of_case a.of_decl_block a.of_gd a.of_gda a.of_if a.of_infix a.of_lambda a.of_let a.of_link a.of_rhs a.of_signed

unfoldable pub folded_infix : {A L : Type 0} → Algebra A L → InfixTree → A
folded_infix {A} {L} a = fold-InfixTree A A A A A A A A A A A A A A A A A A A A L A L a.of_aexp a.of_alt_body
    a.of_alt_slot a.of_decl_slot a.of_decl a.of_exp a.of_guard a.of_locals a.of_operand a.of_rhs_body a.of_alt_block
    a.of_alt a.of_case a.of_decl_block a.of_gd a.of_gda a.of_if a.of_infix a.of_lambda a.of_let a.of_link a.of_rhs
    a.of_signed

unfoldable pub folded_lambda : {A L : Type 0} → Algebra A L → LambdaTree → A
folded_lambda {A} {L} a = fold-LambdaTree A A A A A A A A A A A A A A A A A A A A L A L a.of_aexp a.of_alt_body
    a.of_alt_slot a.of_decl_slot a.of_decl a.of_exp a.of_guard a.of_locals a.of_operand a.of_rhs_body a.of_alt_block
    a.of_alt a.of_case a.of_decl_block a.of_gd a.of_gda a.of_if a.of_infix a.of_lambda a.of_let a.of_link a.of_rhs
    a.of_signed

unfoldable pub folded_let : {A L : Type 0} → Algebra A L → LetTree → A
folded_let {A} {L} a = fold-LetTree A A A A A A A A A A A A A A A A A A A A L A L a.of_aexp a.of_alt_body a.of_alt_slot
    a.of_decl_slot a.of_decl a.of_exp a.of_guard a.of_locals a.of_operand a.of_rhs_body a.of_alt_block a.of_alt
    a.of_case a.of_decl_block a.of_gd a.of_gda a.of_if a.of_infix a.of_lambda a.of_let a.of_link a.of_rhs a.of_signed

unfoldable pub folded_link : {A L : Type 0} → Algebra A L → OpOperand → L
folded_link {A} {L} a = fold-OpOperand A A A A A A A A A A A A A A A A A A A A L A L a.of_aexp a.of_alt_body
    a.of_alt_slot a.of_decl_slot a.of_decl a.of_exp a.of_guard a.of_locals a.of_operand a.of_rhs_body a.of_alt_block
    a.of_alt a.of_case a.of_decl_block a.of_gd a.of_gda a.of_if a.of_infix a.of_lambda a.of_let a.of_link a.of_rhs
    a.of_signed

unfoldable pub folded_rhs : {A L : Type 0} → Algebra A L → RhsTree → A
folded_rhs {A} {L} a = fold-RhsTree A A A A A A A A A A A A A A A A A A A A L A L a.of_aexp a.of_alt_body a.of_alt_slot
    a.of_decl_slot a.of_decl a.of_exp a.of_guard a.of_locals a.of_operand a.of_rhs_body a.of_alt_block a.of_alt
    a.of_case a.of_decl_block a.of_gd a.of_gda a.of_if a.of_infix a.of_lambda a.of_let a.of_link a.of_rhs a.of_signed

unfoldable pub folded_signed : {A L : Type 0} → Algebra A L → SignedOperand → L
folded_signed {A} {L} a = fold-SignedOperand A A A A A A A A A A A A A A A A A A A A L A L a.of_aexp a.of_alt_body
    a.of_alt_slot a.of_decl_slot a.of_decl a.of_exp a.of_guard a.of_locals a.of_operand a.of_rhs_body a.of_alt_block
    a.of_alt a.of_case a.of_decl_block a.of_gd a.of_gda a.of_if a.of_infix a.of_lambda a.of_let a.of_link a.of_rhs
    a.of_signed
