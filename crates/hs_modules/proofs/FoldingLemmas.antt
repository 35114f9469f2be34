-- Folds over the trees of expressions and declarations, one layer at a time.
use Rattle.std.proofs.Common.{◌≡◌}
use Rattle.hs_modules.specs.Folds.{Algebra, folded_aexp, folded_alt_body, folded_alt_slot, folded_decl_slot}
use Rattle.hs_modules.specs.Folds.{folded_decl, folded_exp, folded_guard, folded_locals, folded_operand}
use Rattle.hs_modules.specs.Folds.{folded_rhs_body, folded_alt_block, folded_alt, folded_case, folded_decl_block}
use Rattle.hs_modules.specs.Folds.{folded_gd, folded_gda, folded_if, folded_infix, folded_lambda, folded_let}
use Rattle.hs_modules.specs.Folds.{folded_link, folded_rhs, folded_signed}
use Rattle.hs_modules.specs.declared.expressions.AExpTree.{AExpTree, AExpTree-F, roll-AExpTree, fold-roll-AExpTree}
use Rattle.hs_modules.specs.declared.expressions.AExpTree.{map-AExpTree}
use Rattle.hs_modules.specs.declared.expressions.AltBody.{AltBody, AltBody-F, roll-AltBody, fold-roll-AltBody}
use Rattle.hs_modules.specs.declared.expressions.AltBody.{map-AltBody}
use Rattle.hs_modules.specs.declared.expressions.AltSlot.{AltSlot, AltSlot-F, roll-AltSlot, fold-roll-AltSlot}
use Rattle.hs_modules.specs.declared.expressions.AltSlot.{map-AltSlot}
use Rattle.hs_modules.specs.declared.expressions.DeclSlot.{DeclSlot, DeclSlot-F, roll-DeclSlot, fold-roll-DeclSlot}
use Rattle.hs_modules.specs.declared.expressions.DeclSlot.{map-DeclSlot}
use Rattle.hs_modules.specs.declared.expressions.DeclTree.{DeclTree, DeclTree-F, roll-DeclTree, fold-roll-DeclTree}
use Rattle.hs_modules.specs.declared.expressions.DeclTree.{map-DeclTree}
use Rattle.hs_modules.specs.declared.expressions.ExpTree.{ExpTree, ExpTree-F, roll-ExpTree, fold-roll-ExpTree}
use Rattle.hs_modules.specs.declared.expressions.ExpTree.{map-ExpTree}
use Rattle.hs_modules.specs.declared.expressions.GuardTree.{GuardTree, GuardTree-F, roll-GuardTree, fold-roll-GuardTree}
use Rattle.hs_modules.specs.declared.expressions.GuardTree.{map-GuardTree}
use Rattle.hs_modules.specs.declared.expressions.Locals.{Locals, Locals-F, roll-Locals, fold-roll-Locals, map-Locals}
use Rattle.hs_modules.specs.declared.expressions.OperandTree.{OperandTree, OperandTree-F, roll-OperandTree}
use Rattle.hs_modules.specs.declared.expressions.OperandTree.{fold-roll-OperandTree, map-OperandTree}
use Rattle.hs_modules.specs.declared.expressions.RhsBody.{RhsBody, RhsBody-F, roll-RhsBody, fold-roll-RhsBody}
use Rattle.hs_modules.specs.declared.expressions.RhsBody.{map-RhsBody}
use Rattle.hs_modules.specs.declared.expressions.AltBlock.{AltBlock, AltBlock-F, roll-AltBlock, fold-roll-AltBlock}
use Rattle.hs_modules.specs.declared.expressions.AltBlock.{map-AltBlock}
use Rattle.hs_modules.specs.declared.expressions.AltTree.{AltTree, AltTree-F, roll-AltTree, fold-roll-AltTree}
use Rattle.hs_modules.specs.declared.expressions.AltTree.{map-AltTree}
use Rattle.hs_modules.specs.declared.expressions.CaseTree.{CaseTree, CaseTree-F, roll-CaseTree, fold-roll-CaseTree}
use Rattle.hs_modules.specs.declared.expressions.CaseTree.{map-CaseTree}
use Rattle.hs_modules.specs.declared.expressions.DeclBlock.{DeclBlock, DeclBlock-F, roll-DeclBlock, fold-roll-DeclBlock}
use Rattle.hs_modules.specs.declared.expressions.DeclBlock.{map-DeclBlock}
use Rattle.hs_modules.specs.declared.expressions.GdTree.{GdTree, GdTree-F, roll-GdTree, fold-roll-GdTree, map-GdTree}
use Rattle.hs_modules.specs.declared.expressions.GdaTree.{GdaTree, GdaTree-F, roll-GdaTree, fold-roll-GdaTree}
use Rattle.hs_modules.specs.declared.expressions.GdaTree.{map-GdaTree}
use Rattle.hs_modules.specs.declared.expressions.IfTree.{IfTree, IfTree-F, roll-IfTree, fold-roll-IfTree, map-IfTree}
use Rattle.hs_modules.specs.declared.expressions.InfixTree.{InfixTree, InfixTree-F, roll-InfixTree, fold-roll-InfixTree}
use Rattle.hs_modules.specs.declared.expressions.InfixTree.{map-InfixTree}
use Rattle.hs_modules.specs.declared.expressions.LambdaTree.{LambdaTree, LambdaTree-F, roll-LambdaTree}
use Rattle.hs_modules.specs.declared.expressions.LambdaTree.{fold-roll-LambdaTree, map-LambdaTree}
use Rattle.hs_modules.specs.declared.expressions.LetTree.{LetTree, LetTree-F, roll-LetTree, fold-roll-LetTree}
use Rattle.hs_modules.specs.declared.expressions.LetTree.{map-LetTree}
use Rattle.hs_modules.specs.declared.expressions.OpOperand.{OpOperand, OpOperand-F, roll-OpOperand, fold-roll-OpOperand}
use Rattle.hs_modules.specs.declared.expressions.OpOperand.{map-OpOperand}
use Rattle.hs_modules.specs.declared.expressions.RhsTree.{RhsTree, RhsTree-F, roll-RhsTree, fold-roll-RhsTree}
use Rattle.hs_modules.specs.declared.expressions.RhsTree.{map-RhsTree}
use Rattle.hs_modules.specs.declared.expressions.SignedOperand.{SignedOperand, SignedOperand-F, roll-SignedOperand}
use Rattle.hs_modules.specs.declared.expressions.SignedOperand.{fold-roll-SignedOperand, map-SignedOperand}

abbrev pub AExpTrees : Type 0
AExpTrees = AExpTree-F AExpTree AltBody AltSlot DeclSlot DeclTree ExpTree GuardTree Locals OperandTree RhsBody AltBlock
    AltTree CaseTree DeclBlock GdTree GdaTree IfTree InfixTree LambdaTree LetTree OpOperand RhsTree SignedOperand

abbrev pub AltBodys : Type 0
AltBodys = AltBody-F AExpTree AltBody AltSlot DeclSlot DeclTree ExpTree GuardTree Locals OperandTree RhsBody AltBlock
    AltTree CaseTree DeclBlock GdTree GdaTree IfTree InfixTree LambdaTree LetTree OpOperand RhsTree SignedOperand

abbrev pub AltSlots : Type 0
AltSlots = AltSlot-F AExpTree AltBody AltSlot DeclSlot DeclTree ExpTree GuardTree Locals OperandTree RhsBody AltBlock
    AltTree CaseTree DeclBlock GdTree GdaTree IfTree InfixTree LambdaTree LetTree OpOperand RhsTree SignedOperand

abbrev pub DeclSlots : Type 0
DeclSlots = DeclSlot-F AExpTree AltBody AltSlot DeclSlot DeclTree ExpTree GuardTree Locals OperandTree RhsBody AltBlock
    AltTree CaseTree DeclBlock GdTree GdaTree IfTree InfixTree LambdaTree LetTree OpOperand RhsTree SignedOperand

abbrev pub DeclTrees : Type 0
DeclTrees = DeclTree-F AExpTree AltBody AltSlot DeclSlot DeclTree ExpTree GuardTree Locals OperandTree RhsBody AltBlock
    AltTree CaseTree DeclBlock GdTree GdaTree IfTree InfixTree LambdaTree LetTree OpOperand RhsTree SignedOperand

abbrev pub ExpTrees : Type 0
ExpTrees = ExpTree-F AExpTree AltBody AltSlot DeclSlot DeclTree ExpTree GuardTree Locals OperandTree RhsBody AltBlock
    AltTree CaseTree DeclBlock GdTree GdaTree IfTree InfixTree LambdaTree LetTree OpOperand RhsTree SignedOperand

abbrev pub GuardTrees : Type 0
GuardTrees = GuardTree-F AExpTree AltBody AltSlot DeclSlot DeclTree ExpTree GuardTree Locals OperandTree RhsBody
    AltBlock AltTree CaseTree DeclBlock GdTree GdaTree IfTree InfixTree LambdaTree LetTree OpOperand RhsTree
    SignedOperand

abbrev pub Localss : Type 0
Localss = Locals-F AExpTree AltBody AltSlot DeclSlot DeclTree ExpTree GuardTree Locals OperandTree RhsBody AltBlock
    AltTree CaseTree DeclBlock GdTree GdaTree IfTree InfixTree LambdaTree LetTree OpOperand RhsTree SignedOperand

abbrev pub OperandTrees : Type 0
OperandTrees = OperandTree-F AExpTree AltBody AltSlot DeclSlot DeclTree ExpTree GuardTree Locals OperandTree RhsBody
    AltBlock AltTree CaseTree DeclBlock GdTree GdaTree IfTree InfixTree LambdaTree LetTree OpOperand RhsTree
    SignedOperand

abbrev pub RhsBodys : Type 0
RhsBodys = RhsBody-F AExpTree AltBody AltSlot DeclSlot DeclTree ExpTree GuardTree Locals OperandTree RhsBody AltBlock
    AltTree CaseTree DeclBlock GdTree GdaTree IfTree InfixTree LambdaTree LetTree OpOperand RhsTree SignedOperand

abbrev pub AltBlocks : Type 0
AltBlocks = AltBlock-F AExpTree AltBody AltSlot DeclSlot DeclTree ExpTree GuardTree Locals OperandTree RhsBody AltBlock
    AltTree CaseTree DeclBlock GdTree GdaTree IfTree InfixTree LambdaTree LetTree OpOperand RhsTree SignedOperand

abbrev pub AltTrees : Type 0
AltTrees = AltTree-F AExpTree AltBody AltSlot DeclSlot DeclTree ExpTree GuardTree Locals OperandTree RhsBody AltBlock
    AltTree CaseTree DeclBlock GdTree GdaTree IfTree InfixTree LambdaTree LetTree OpOperand RhsTree SignedOperand

abbrev pub CaseTrees : Type 0
CaseTrees = CaseTree-F AExpTree AltBody AltSlot DeclSlot DeclTree ExpTree GuardTree Locals OperandTree RhsBody AltBlock
    AltTree CaseTree DeclBlock GdTree GdaTree IfTree InfixTree LambdaTree LetTree OpOperand RhsTree SignedOperand

abbrev pub DeclBlocks : Type 0
DeclBlocks = DeclBlock-F AExpTree AltBody AltSlot DeclSlot DeclTree ExpTree GuardTree Locals OperandTree RhsBody
    AltBlock AltTree CaseTree DeclBlock GdTree GdaTree IfTree InfixTree LambdaTree LetTree OpOperand RhsTree
    SignedOperand

abbrev pub GdTrees : Type 0
GdTrees = GdTree-F AExpTree AltBody AltSlot DeclSlot DeclTree ExpTree GuardTree Locals OperandTree RhsBody AltBlock
    AltTree CaseTree DeclBlock GdTree GdaTree IfTree InfixTree LambdaTree LetTree OpOperand RhsTree SignedOperand

abbrev pub GdaTrees : Type 0
GdaTrees = GdaTree-F AExpTree AltBody AltSlot DeclSlot DeclTree ExpTree GuardTree Locals OperandTree RhsBody AltBlock
    AltTree CaseTree DeclBlock GdTree GdaTree IfTree InfixTree LambdaTree LetTree OpOperand RhsTree SignedOperand

abbrev pub IfTrees : Type 0
IfTrees = IfTree-F AExpTree AltBody AltSlot DeclSlot DeclTree ExpTree GuardTree Locals OperandTree RhsBody AltBlock
    AltTree CaseTree DeclBlock GdTree GdaTree IfTree InfixTree LambdaTree LetTree OpOperand RhsTree SignedOperand

abbrev pub InfixTrees : Type 0
InfixTrees = InfixTree-F AExpTree AltBody AltSlot DeclSlot DeclTree ExpTree GuardTree Locals OperandTree RhsBody
    AltBlock AltTree CaseTree DeclBlock GdTree GdaTree IfTree InfixTree LambdaTree LetTree OpOperand RhsTree
    SignedOperand

abbrev pub LambdaTrees : Type 0
LambdaTrees = LambdaTree-F AExpTree AltBody AltSlot DeclSlot DeclTree ExpTree GuardTree Locals OperandTree RhsBody
    AltBlock AltTree CaseTree DeclBlock GdTree GdaTree IfTree InfixTree LambdaTree LetTree OpOperand RhsTree
    SignedOperand

abbrev pub LetTrees : Type 0
LetTrees = LetTree-F AExpTree AltBody AltSlot DeclSlot DeclTree ExpTree GuardTree Locals OperandTree RhsBody AltBlock
    AltTree CaseTree DeclBlock GdTree GdaTree IfTree InfixTree LambdaTree LetTree OpOperand RhsTree SignedOperand

abbrev pub OpOperands : Type 0
OpOperands = OpOperand-F AExpTree AltBody AltSlot DeclSlot DeclTree ExpTree GuardTree Locals OperandTree RhsBody
    AltBlock AltTree CaseTree DeclBlock GdTree GdaTree IfTree InfixTree LambdaTree LetTree OpOperand RhsTree
    SignedOperand

abbrev pub RhsTrees : Type 0
RhsTrees = RhsTree-F AExpTree AltBody AltSlot DeclSlot DeclTree ExpTree GuardTree Locals OperandTree RhsBody AltBlock
    AltTree CaseTree DeclBlock GdTree GdaTree IfTree InfixTree LambdaTree LetTree OpOperand RhsTree SignedOperand

abbrev pub SignedOperands : Type 0
SignedOperands = SignedOperand-F AExpTree AltBody AltSlot DeclSlot DeclTree ExpTree GuardTree Locals OperandTree RhsBody
    AltBlock AltTree CaseTree DeclBlock GdTree GdaTree IfTree InfixTree LambdaTree LetTree OpOperand RhsTree
    SignedOperand

pub aexp_folded : {A L : Type 0} (a : Algebra A L) (l : AExpTrees)
    → folded_aexp a (roll-AExpTree l) ≡ a.of_aexp (map-AExpTree _ _ _ _ _ _ _ _ _ _ _ _ _ _ _ _ _ _ _ _ _ _ _ _ _ _ _ _
    _ _ _ _ _ _ _ _ _ _ _ _ _ _ _ _ _ _ (folded_aexp a) (folded_alt_body a) (folded_alt_slot a) (folded_decl_slot a)
    (folded_decl a) (folded_exp a) (folded_guard a) (folded_locals a) (folded_operand a) (folded_rhs_body a)
    (folded_alt_block a) (folded_alt a) (folded_case a) (folded_decl_block a) (folded_gd a) (folded_gda a) (folded_if a)
    (folded_infix a) (folded_lambda a) (folded_let a) (folded_link a) (folded_rhs a) (folded_signed a) l)
unfolding folded_aexp folded_alt_body folded_alt_slot folded_decl_slot folded_decl folded_exp folded_guard folded_locals
    folded_operand folded_rhs_body folded_alt_block folded_alt folded_case folded_decl_block folded_gd folded_gda
    folded_if folded_infix folded_lambda folded_let folded_link folded_rhs folded_signed
aexp_folded {A} {L} a l = fold-roll-AExpTree A A A A A A A A A A A A A A A A A A A A L A L a.of_aexp a.of_alt_body
    a.of_alt_slot a.of_decl_slot a.of_decl a.of_exp a.of_guard a.of_locals a.of_operand a.of_rhs_body a.of_alt_block
    a.of_alt a.of_case a.of_decl_block a.of_gd a.of_gda a.of_if a.of_infix a.of_lambda a.of_let a.of_link a.of_rhs
    a.of_signed l

pub alt_body_folded : {A L : Type 0} (a : Algebra A L) (l : AltBodys)
    → folded_alt_body a (roll-AltBody l) ≡ a.of_alt_body
    (map-AltBody _ _ _ _ _ _ _ _ _ _ _ _ _ _ _ _ _ _ _ _ _ _ _ _ _ _ _ _ _ _ _ _ _ _ _ _ _ _ _ _ _ _ _ _ _ _
    (folded_aexp a) (folded_alt_body a) (folded_alt_slot a) (folded_decl_slot a) (folded_decl a) (folded_exp a)
    (folded_guard a) (folded_locals a) (folded_operand a) (folded_rhs_body a) (folded_alt_block a) (folded_alt a)
    (folded_case a) (folded_decl_block a) (folded_gd a) (folded_gda a) (folded_if a) (folded_infix a) (folded_lambda a)
    (folded_let a) (folded_link a) (folded_rhs a) (folded_signed a) l)
unfolding folded_aexp folded_alt_body folded_alt_slot folded_decl_slot folded_decl folded_exp folded_guard folded_locals
    folded_operand folded_rhs_body folded_alt_block folded_alt folded_case folded_decl_block folded_gd folded_gda
    folded_if folded_infix folded_lambda folded_let folded_link folded_rhs folded_signed
alt_body_folded {A} {L} a l = fold-roll-AltBody A A A A A A A A A A A A A A A A A A A A L A L a.of_aexp a.of_alt_body
    a.of_alt_slot a.of_decl_slot a.of_decl a.of_exp a.of_guard a.of_locals a.of_operand a.of_rhs_body a.of_alt_block
    a.of_alt a.of_case a.of_decl_block a.of_gd a.of_gda a.of_if a.of_infix a.of_lambda a.of_let a.of_link a.of_rhs
    a.of_signed l

pub alt_slot_folded : {A L : Type 0} (a : Algebra A L) (l : AltSlots)
    → folded_alt_slot a (roll-AltSlot l) ≡ a.of_alt_slot
    (map-AltSlot _ _ _ _ _ _ _ _ _ _ _ _ _ _ _ _ _ _ _ _ _ _ _ _ _ _ _ _ _ _ _ _ _ _ _ _ _ _ _ _ _ _ _ _ _ _
    (folded_aexp a) (folded_alt_body a) (folded_alt_slot a) (folded_decl_slot a) (folded_decl a) (folded_exp a)
    (folded_guard a) (folded_locals a) (folded_operand a) (folded_rhs_body a) (folded_alt_block a) (folded_alt a)
    (folded_case a) (folded_decl_block a) (folded_gd a) (folded_gda a) (folded_if a) (folded_infix a) (folded_lambda a)
    (folded_let a) (folded_link a) (folded_rhs a) (folded_signed a) l)
unfolding folded_aexp folded_alt_body folded_alt_slot folded_decl_slot folded_decl folded_exp folded_guard folded_locals
    folded_operand folded_rhs_body folded_alt_block folded_alt folded_case folded_decl_block folded_gd folded_gda
    folded_if folded_infix folded_lambda folded_let folded_link folded_rhs folded_signed
alt_slot_folded {A} {L} a l = fold-roll-AltSlot A A A A A A A A A A A A A A A A A A A A L A L a.of_aexp a.of_alt_body
    a.of_alt_slot a.of_decl_slot a.of_decl a.of_exp a.of_guard a.of_locals a.of_operand a.of_rhs_body a.of_alt_block
    a.of_alt a.of_case a.of_decl_block a.of_gd a.of_gda a.of_if a.of_infix a.of_lambda a.of_let a.of_link a.of_rhs
    a.of_signed l

pub decl_slot_folded : {A L : Type 0} (a : Algebra A L) (l : DeclSlots)
    → folded_decl_slot a (roll-DeclSlot l) ≡ a.of_decl_slot
    (map-DeclSlot _ _ _ _ _ _ _ _ _ _ _ _ _ _ _ _ _ _ _ _ _ _ _ _ _ _ _ _ _ _ _ _ _ _ _ _ _ _ _ _ _ _ _ _ _ _
    (folded_aexp a) (folded_alt_body a) (folded_alt_slot a) (folded_decl_slot a) (folded_decl a) (folded_exp a)
    (folded_guard a) (folded_locals a) (folded_operand a) (folded_rhs_body a) (folded_alt_block a) (folded_alt a)
    (folded_case a) (folded_decl_block a) (folded_gd a) (folded_gda a) (folded_if a) (folded_infix a) (folded_lambda a)
    (folded_let a) (folded_link a) (folded_rhs a) (folded_signed a) l)
unfolding folded_aexp folded_alt_body folded_alt_slot folded_decl_slot folded_decl folded_exp folded_guard folded_locals
    folded_operand folded_rhs_body folded_alt_block folded_alt folded_case folded_decl_block folded_gd folded_gda
    folded_if folded_infix folded_lambda folded_let folded_link folded_rhs folded_signed
decl_slot_folded {A} {L} a l = fold-roll-DeclSlot A A A A A A A A A A A A A A A A A A A A L A L a.of_aexp a.of_alt_body
    a.of_alt_slot a.of_decl_slot a.of_decl a.of_exp a.of_guard a.of_locals a.of_operand a.of_rhs_body a.of_alt_block
    a.of_alt a.of_case a.of_decl_block a.of_gd a.of_gda a.of_if a.of_infix a.of_lambda a.of_let a.of_link a.of_rhs
    a.of_signed l

pub decl_folded : {A L : Type 0} (a : Algebra A L) (l : DeclTrees)
    → folded_decl a (roll-DeclTree l) ≡ a.of_decl (map-DeclTree _ _ _ _ _ _ _ _ _ _ _ _ _ _ _ _ _ _ _ _ _ _ _ _ _ _ _ _
    _ _ _ _ _ _ _ _ _ _ _ _ _ _ _ _ _ _ (folded_aexp a) (folded_alt_body a) (folded_alt_slot a) (folded_decl_slot a)
    (folded_decl a) (folded_exp a) (folded_guard a) (folded_locals a) (folded_operand a) (folded_rhs_body a)
    (folded_alt_block a) (folded_alt a) (folded_case a) (folded_decl_block a) (folded_gd a) (folded_gda a) (folded_if a)
    (folded_infix a) (folded_lambda a) (folded_let a) (folded_link a) (folded_rhs a) (folded_signed a) l)
unfolding folded_aexp folded_alt_body folded_alt_slot folded_decl_slot folded_decl folded_exp folded_guard folded_locals
    folded_operand folded_rhs_body folded_alt_block folded_alt folded_case folded_decl_block folded_gd folded_gda
    folded_if folded_infix folded_lambda folded_let folded_link folded_rhs folded_signed
decl_folded {A} {L} a l = fold-roll-DeclTree A A A A A A A A A A A A A A A A A A A A L A L a.of_aexp a.of_alt_body
    a.of_alt_slot a.of_decl_slot a.of_decl a.of_exp a.of_guard a.of_locals a.of_operand a.of_rhs_body a.of_alt_block
    a.of_alt a.of_case a.of_decl_block a.of_gd a.of_gda a.of_if a.of_infix a.of_lambda a.of_let a.of_link a.of_rhs
    a.of_signed l

pub exp_folded : {A L : Type 0} (a : Algebra A L) (l : ExpTrees)
    → folded_exp a (roll-ExpTree l) ≡ a.of_exp (map-ExpTree _ _ _ _ _ _ _ _ _ _ _ _ _ _ _ _ _ _ _ _ _ _ _ _ _ _ _ _ _ _
    _ _ _ _ _ _ _ _ _ _ _ _ _ _ _ _ (folded_aexp a) (folded_alt_body a) (folded_alt_slot a) (folded_decl_slot a)
    (folded_decl a) (folded_exp a) (folded_guard a) (folded_locals a) (folded_operand a) (folded_rhs_body a)
    (folded_alt_block a) (folded_alt a) (folded_case a) (folded_decl_block a) (folded_gd a) (folded_gda a) (folded_if a)
    (folded_infix a) (folded_lambda a) (folded_let a) (folded_link a) (folded_rhs a) (folded_signed a) l)
unfolding folded_aexp folded_alt_body folded_alt_slot folded_decl_slot folded_decl folded_exp folded_guard folded_locals
    folded_operand folded_rhs_body folded_alt_block folded_alt folded_case folded_decl_block folded_gd folded_gda
    folded_if folded_infix folded_lambda folded_let folded_link folded_rhs folded_signed
exp_folded {A} {L} a l = fold-roll-ExpTree A A A A A A A A A A A A A A A A A A A A L A L a.of_aexp a.of_alt_body
    a.of_alt_slot a.of_decl_slot a.of_decl a.of_exp a.of_guard a.of_locals a.of_operand a.of_rhs_body a.of_alt_block
    a.of_alt a.of_case a.of_decl_block a.of_gd a.of_gda a.of_if a.of_infix a.of_lambda a.of_let a.of_link a.of_rhs
    a.of_signed l

pub guard_folded : {A L : Type 0} (a : Algebra A L) (l : GuardTrees)
    → folded_guard a (roll-GuardTree l) ≡ a.of_guard
    (map-GuardTree _ _ _ _ _ _ _ _ _ _ _ _ _ _ _ _ _ _ _ _ _ _ _ _ _ _ _ _ _ _ _ _ _ _ _ _ _ _ _ _ _ _ _ _ _ _
    (folded_aexp a) (folded_alt_body a) (folded_alt_slot a) (folded_decl_slot a) (folded_decl a) (folded_exp a)
    (folded_guard a) (folded_locals a) (folded_operand a) (folded_rhs_body a) (folded_alt_block a) (folded_alt a)
    (folded_case a) (folded_decl_block a) (folded_gd a) (folded_gda a) (folded_if a) (folded_infix a) (folded_lambda a)
    (folded_let a) (folded_link a) (folded_rhs a) (folded_signed a) l)
unfolding folded_aexp folded_alt_body folded_alt_slot folded_decl_slot folded_decl folded_exp folded_guard folded_locals
    folded_operand folded_rhs_body folded_alt_block folded_alt folded_case folded_decl_block folded_gd folded_gda
    folded_if folded_infix folded_lambda folded_let folded_link folded_rhs folded_signed
guard_folded {A} {L} a l = fold-roll-GuardTree A A A A A A A A A A A A A A A A A A A A L A L a.of_aexp a.of_alt_body
    a.of_alt_slot a.of_decl_slot a.of_decl a.of_exp a.of_guard a.of_locals a.of_operand a.of_rhs_body a.of_alt_block
    a.of_alt a.of_case a.of_decl_block a.of_gd a.of_gda a.of_if a.of_infix a.of_lambda a.of_let a.of_link a.of_rhs
    a.of_signed l

pub locals_folded : {A L : Type 0} (a : Algebra A L) (l : Localss)
    → folded_locals a (roll-Locals l) ≡ a.of_locals
    (map-Locals _ _ _ _ _ _ _ _ _ _ _ _ _ _ _ _ _ _ _ _ _ _ _ _ _ _ _ _ _ _ _ _ _ _ _ _ _ _ _ _ _ _ _ _ _ _
    (folded_aexp a) (folded_alt_body a) (folded_alt_slot a) (folded_decl_slot a) (folded_decl a) (folded_exp a)
    (folded_guard a) (folded_locals a) (folded_operand a) (folded_rhs_body a) (folded_alt_block a) (folded_alt a)
    (folded_case a) (folded_decl_block a) (folded_gd a) (folded_gda a) (folded_if a) (folded_infix a) (folded_lambda a)
    (folded_let a) (folded_link a) (folded_rhs a) (folded_signed a) l)
unfolding folded_aexp folded_alt_body folded_alt_slot folded_decl_slot folded_decl folded_exp folded_guard folded_locals
    folded_operand folded_rhs_body folded_alt_block folded_alt folded_case folded_decl_block folded_gd folded_gda
    folded_if folded_infix folded_lambda folded_let folded_link folded_rhs folded_signed
locals_folded {A} {L} a l = fold-roll-Locals A A A A A A A A A A A A A A A A A A A A L A L a.of_aexp a.of_alt_body
    a.of_alt_slot a.of_decl_slot a.of_decl a.of_exp a.of_guard a.of_locals a.of_operand a.of_rhs_body a.of_alt_block
    a.of_alt a.of_case a.of_decl_block a.of_gd a.of_gda a.of_if a.of_infix a.of_lambda a.of_let a.of_link a.of_rhs
    a.of_signed l

pub operand_folded : {A L : Type 0} (a : Algebra A L) (l : OperandTrees)
    → folded_operand a (roll-OperandTree l) ≡ a.of_operand
    (map-OperandTree _ _ _ _ _ _ _ _ _ _ _ _ _ _ _ _ _ _ _ _ _ _ _ _ _ _ _ _ _ _ _ _ _ _ _ _ _ _ _ _ _ _ _ _ _ _
    (folded_aexp a) (folded_alt_body a) (folded_alt_slot a) (folded_decl_slot a) (folded_decl a) (folded_exp a)
    (folded_guard a) (folded_locals a) (folded_operand a) (folded_rhs_body a) (folded_alt_block a) (folded_alt a)
    (folded_case a) (folded_decl_block a) (folded_gd a) (folded_gda a) (folded_if a) (folded_infix a) (folded_lambda a)
    (folded_let a) (folded_link a) (folded_rhs a) (folded_signed a) l)
unfolding folded_aexp folded_alt_body folded_alt_slot folded_decl_slot folded_decl folded_exp folded_guard folded_locals
    folded_operand folded_rhs_body folded_alt_block folded_alt folded_case folded_decl_block folded_gd folded_gda
    folded_if folded_infix folded_lambda folded_let folded_link folded_rhs folded_signed
operand_folded {A} {L} a l = fold-roll-OperandTree A A A A A A A A A A A A A A A A A A A A L A L a.of_aexp a.of_alt_body
    a.of_alt_slot a.of_decl_slot a.of_decl a.of_exp a.of_guard a.of_locals a.of_operand a.of_rhs_body a.of_alt_block
    a.of_alt a.of_case a.of_decl_block a.of_gd a.of_gda a.of_if a.of_infix a.of_lambda a.of_let a.of_link a.of_rhs
    a.of_signed l

pub rhs_body_folded : {A L : Type 0} (a : Algebra A L) (l : RhsBodys)
    → folded_rhs_body a (roll-RhsBody l) ≡ a.of_rhs_body
    (map-RhsBody _ _ _ _ _ _ _ _ _ _ _ _ _ _ _ _ _ _ _ _ _ _ _ _ _ _ _ _ _ _ _ _ _ _ _ _ _ _ _ _ _ _ _ _ _ _
    (folded_aexp a) (folded_alt_body a) (folded_alt_slot a) (folded_decl_slot a) (folded_decl a) (folded_exp a)
    (folded_guard a) (folded_locals a) (folded_operand a) (folded_rhs_body a) (folded_alt_block a) (folded_alt a)
    (folded_case a) (folded_decl_block a) (folded_gd a) (folded_gda a) (folded_if a) (folded_infix a) (folded_lambda a)
    (folded_let a) (folded_link a) (folded_rhs a) (folded_signed a) l)
unfolding folded_aexp folded_alt_body folded_alt_slot folded_decl_slot folded_decl folded_exp folded_guard folded_locals
    folded_operand folded_rhs_body folded_alt_block folded_alt folded_case folded_decl_block folded_gd folded_gda
    folded_if folded_infix folded_lambda folded_let folded_link folded_rhs folded_signed
rhs_body_folded {A} {L} a l = fold-roll-RhsBody A A A A A A A A A A A A A A A A A A A A L A L a.of_aexp a.of_alt_body
    a.of_alt_slot a.of_decl_slot a.of_decl a.of_exp a.of_guard a.of_locals a.of_operand a.of_rhs_body a.of_alt_block
    a.of_alt a.of_case a.of_decl_block a.of_gd a.of_gda a.of_if a.of_infix a.of_lambda a.of_let a.of_link a.of_rhs
    a.of_signed l

pub alt_block_folded : {A L : Type 0} (a : Algebra A L) (l : AltBlocks)
    → folded_alt_block a (roll-AltBlock l) ≡ a.of_alt_block
    (map-AltBlock _ _ _ _ _ _ _ _ _ _ _ _ _ _ _ _ _ _ _ _ _ _ _ _ _ _ _ _ _ _ _ _ _ _ _ _ _ _ _ _ _ _ _ _ _ _
    (folded_aexp a) (folded_alt_body a) (folded_alt_slot a) (folded_decl_slot a) (folded_decl a) (folded_exp a)
    (folded_guard a) (folded_locals a) (folded_operand a) (folded_rhs_body a) (folded_alt_block a) (folded_alt a)
    (folded_case a) (folded_decl_block a) (folded_gd a) (folded_gda a) (folded_if a) (folded_infix a) (folded_lambda a)
    (folded_let a) (folded_link a) (folded_rhs a) (folded_signed a) l)
unfolding folded_aexp folded_alt_body folded_alt_slot folded_decl_slot folded_decl folded_exp folded_guard folded_locals
    folded_operand folded_rhs_body folded_alt_block folded_alt folded_case folded_decl_block folded_gd folded_gda
    folded_if folded_infix folded_lambda folded_let folded_link folded_rhs folded_signed
alt_block_folded {A} {L} a l = fold-roll-AltBlock A A A A A A A A A A A A A A A A A A A A L A L a.of_aexp a.of_alt_body
    a.of_alt_slot a.of_decl_slot a.of_decl a.of_exp a.of_guard a.of_locals a.of_operand a.of_rhs_body a.of_alt_block
    a.of_alt a.of_case a.of_decl_block a.of_gd a.of_gda a.of_if a.of_infix a.of_lambda a.of_let a.of_link a.of_rhs
    a.of_signed l

pub alt_folded : {A L : Type 0} (a : Algebra A L) (l : AltTrees)
    → folded_alt a (roll-AltTree l) ≡ a.of_alt (map-AltTree _ _ _ _ _ _ _ _ _ _ _ _ _ _ _ _ _ _ _ _ _ _ _ _ _ _ _ _ _ _
    _ _ _ _ _ _ _ _ _ _ _ _ _ _ _ _ (folded_aexp a) (folded_alt_body a) (folded_alt_slot a) (folded_decl_slot a)
    (folded_decl a) (folded_exp a) (folded_guard a) (folded_locals a) (folded_operand a) (folded_rhs_body a)
    (folded_alt_block a) (folded_alt a) (folded_case a) (folded_decl_block a) (folded_gd a) (folded_gda a) (folded_if a)
    (folded_infix a) (folded_lambda a) (folded_let a) (folded_link a) (folded_rhs a) (folded_signed a) l)
unfolding folded_aexp folded_alt_body folded_alt_slot folded_decl_slot folded_decl folded_exp folded_guard folded_locals
    folded_operand folded_rhs_body folded_alt_block folded_alt folded_case folded_decl_block folded_gd folded_gda
    folded_if folded_infix folded_lambda folded_let folded_link folded_rhs folded_signed
alt_folded {A} {L} a l = fold-roll-AltTree A A A A A A A A A A A A A A A A A A A A L A L a.of_aexp a.of_alt_body
    a.of_alt_slot a.of_decl_slot a.of_decl a.of_exp a.of_guard a.of_locals a.of_operand a.of_rhs_body a.of_alt_block
    a.of_alt a.of_case a.of_decl_block a.of_gd a.of_gda a.of_if a.of_infix a.of_lambda a.of_let a.of_link a.of_rhs
    a.of_signed l

pub case_folded : {A L : Type 0} (a : Algebra A L) (l : CaseTrees)
    → folded_case a (roll-CaseTree l) ≡ a.of_case (map-CaseTree _ _ _ _ _ _ _ _ _ _ _ _ _ _ _ _ _ _ _ _ _ _ _ _ _ _ _ _
    _ _ _ _ _ _ _ _ _ _ _ _ _ _ _ _ _ _ (folded_aexp a) (folded_alt_body a) (folded_alt_slot a) (folded_decl_slot a)
    (folded_decl a) (folded_exp a) (folded_guard a) (folded_locals a) (folded_operand a) (folded_rhs_body a)
    (folded_alt_block a) (folded_alt a) (folded_case a) (folded_decl_block a) (folded_gd a) (folded_gda a) (folded_if a)
    (folded_infix a) (folded_lambda a) (folded_let a) (folded_link a) (folded_rhs a) (folded_signed a) l)
unfolding folded_aexp folded_alt_body folded_alt_slot folded_decl_slot folded_decl folded_exp folded_guard folded_locals
    folded_operand folded_rhs_body folded_alt_block folded_alt folded_case folded_decl_block folded_gd folded_gda
    folded_if folded_infix folded_lambda folded_let folded_link folded_rhs folded_signed
case_folded {A} {L} a l = fold-roll-CaseTree A A A A A A A A A A A A A A A A A A A A L A L a.of_aexp a.of_alt_body
    a.of_alt_slot a.of_decl_slot a.of_decl a.of_exp a.of_guard a.of_locals a.of_operand a.of_rhs_body a.of_alt_block
    a.of_alt a.of_case a.of_decl_block a.of_gd a.of_gda a.of_if a.of_infix a.of_lambda a.of_let a.of_link a.of_rhs
    a.of_signed l

pub decl_block_folded : {A L : Type 0} (a : Algebra A L) (l : DeclBlocks)
    → folded_decl_block a (roll-DeclBlock l) ≡ a.of_decl_block
    (map-DeclBlock _ _ _ _ _ _ _ _ _ _ _ _ _ _ _ _ _ _ _ _ _ _ _ _ _ _ _ _ _ _ _ _ _ _ _ _ _ _ _ _ _ _ _ _ _ _
    (folded_aexp a) (folded_alt_body a) (folded_alt_slot a) (folded_decl_slot a) (folded_decl a) (folded_exp a)
    (folded_guard a) (folded_locals a) (folded_operand a) (folded_rhs_body a) (folded_alt_block a) (folded_alt a)
    (folded_case a) (folded_decl_block a) (folded_gd a) (folded_gda a) (folded_if a) (folded_infix a) (folded_lambda a)
    (folded_let a) (folded_link a) (folded_rhs a) (folded_signed a) l)
unfolding folded_aexp folded_alt_body folded_alt_slot folded_decl_slot folded_decl folded_exp folded_guard folded_locals
    folded_operand folded_rhs_body folded_alt_block folded_alt folded_case folded_decl_block folded_gd folded_gda
    folded_if folded_infix folded_lambda folded_let folded_link folded_rhs folded_signed
decl_block_folded {A} {L} a l = fold-roll-DeclBlock A A A A A A A A A A A A A A A A A A A A L A L a.of_aexp
    a.of_alt_body a.of_alt_slot a.of_decl_slot a.of_decl a.of_exp a.of_guard a.of_locals a.of_operand a.of_rhs_body
    a.of_alt_block a.of_alt a.of_case a.of_decl_block a.of_gd a.of_gda a.of_if a.of_infix a.of_lambda a.of_let a.of_link
    a.of_rhs a.of_signed l

pub gd_folded : {A L : Type 0} (a : Algebra A L) (l : GdTrees)
    → folded_gd a (roll-GdTree l) ≡ a.of_gd (map-GdTree _ _ _ _ _ _ _ _ _ _ _ _ _ _ _ _ _ _ _ _ _ _ _ _ _ _ _ _ _ _ _ _
    _ _ _ _ _ _ _ _ _ _ _ _ _ _ (folded_aexp a) (folded_alt_body a) (folded_alt_slot a) (folded_decl_slot a)
    (folded_decl a) (folded_exp a) (folded_guard a) (folded_locals a) (folded_operand a) (folded_rhs_body a)
    (folded_alt_block a) (folded_alt a) (folded_case a) (folded_decl_block a) (folded_gd a) (folded_gda a) (folded_if a)
    (folded_infix a) (folded_lambda a) (folded_let a) (folded_link a) (folded_rhs a) (folded_signed a) l)
unfolding folded_aexp folded_alt_body folded_alt_slot folded_decl_slot folded_decl folded_exp folded_guard folded_locals
    folded_operand folded_rhs_body folded_alt_block folded_alt folded_case folded_decl_block folded_gd folded_gda
    folded_if folded_infix folded_lambda folded_let folded_link folded_rhs folded_signed
gd_folded {A} {L} a l = fold-roll-GdTree A A A A A A A A A A A A A A A A A A A A L A L a.of_aexp a.of_alt_body
    a.of_alt_slot a.of_decl_slot a.of_decl a.of_exp a.of_guard a.of_locals a.of_operand a.of_rhs_body a.of_alt_block
    a.of_alt a.of_case a.of_decl_block a.of_gd a.of_gda a.of_if a.of_infix a.of_lambda a.of_let a.of_link a.of_rhs
    a.of_signed l

pub gda_folded : {A L : Type 0} (a : Algebra A L) (l : GdaTrees)
    → folded_gda a (roll-GdaTree l) ≡ a.of_gda (map-GdaTree _ _ _ _ _ _ _ _ _ _ _ _ _ _ _ _ _ _ _ _ _ _ _ _ _ _ _ _ _ _
    _ _ _ _ _ _ _ _ _ _ _ _ _ _ _ _ (folded_aexp a) (folded_alt_body a) (folded_alt_slot a) (folded_decl_slot a)
    (folded_decl a) (folded_exp a) (folded_guard a) (folded_locals a) (folded_operand a) (folded_rhs_body a)
    (folded_alt_block a) (folded_alt a) (folded_case a) (folded_decl_block a) (folded_gd a) (folded_gda a) (folded_if a)
    (folded_infix a) (folded_lambda a) (folded_let a) (folded_link a) (folded_rhs a) (folded_signed a) l)
unfolding folded_aexp folded_alt_body folded_alt_slot folded_decl_slot folded_decl folded_exp folded_guard folded_locals
    folded_operand folded_rhs_body folded_alt_block folded_alt folded_case folded_decl_block folded_gd folded_gda
    folded_if folded_infix folded_lambda folded_let folded_link folded_rhs folded_signed
gda_folded {A} {L} a l = fold-roll-GdaTree A A A A A A A A A A A A A A A A A A A A L A L a.of_aexp a.of_alt_body
    a.of_alt_slot a.of_decl_slot a.of_decl a.of_exp a.of_guard a.of_locals a.of_operand a.of_rhs_body a.of_alt_block
    a.of_alt a.of_case a.of_decl_block a.of_gd a.of_gda a.of_if a.of_infix a.of_lambda a.of_let a.of_link a.of_rhs
    a.of_signed l

pub if_folded : {A L : Type 0} (a : Algebra A L) (l : IfTrees)
    → folded_if a (roll-IfTree l) ≡ a.of_if (map-IfTree _ _ _ _ _ _ _ _ _ _ _ _ _ _ _ _ _ _ _ _ _ _ _ _ _ _ _ _ _ _ _ _
    _ _ _ _ _ _ _ _ _ _ _ _ _ _ (folded_aexp a) (folded_alt_body a) (folded_alt_slot a) (folded_decl_slot a)
    (folded_decl a) (folded_exp a) (folded_guard a) (folded_locals a) (folded_operand a) (folded_rhs_body a)
    (folded_alt_block a) (folded_alt a) (folded_case a) (folded_decl_block a) (folded_gd a) (folded_gda a) (folded_if a)
    (folded_infix a) (folded_lambda a) (folded_let a) (folded_link a) (folded_rhs a) (folded_signed a) l)
unfolding folded_aexp folded_alt_body folded_alt_slot folded_decl_slot folded_decl folded_exp folded_guard folded_locals
    folded_operand folded_rhs_body folded_alt_block folded_alt folded_case folded_decl_block folded_gd folded_gda
    folded_if folded_infix folded_lambda folded_let folded_link folded_rhs folded_signed
if_folded {A} {L} a l = fold-roll-IfTree A A A A A A A A A A A A A A A A A A A A L A L a.of_aexp a.of_alt_body
    a.of_alt_slot a.of_decl_slot a.of_decl a.of_exp a.of_guard a.of_locals a.of_operand a.of_rhs_body a.of_alt_block
    a.of_alt a.of_case a.of_decl_block a.of_gd a.of_gda a.of_if a.of_infix a.of_lambda a.of_let a.of_link a.of_rhs
    a.of_signed l

pub infix_folded : {A L : Type 0} (a : Algebra A L) (l : InfixTrees)
    → folded_infix a (roll-InfixTree l) ≡ a.of_infix
    (map-InfixTree _ _ _ _ _ _ _ _ _ _ _ _ _ _ _ _ _ _ _ _ _ _ _ _ _ _ _ _ _ _ _ _ _ _ _ _ _ _ _ _ _ _ _ _ _ _
    (folded_aexp a) (folded_alt_body a) (folded_alt_slot a) (folded_decl_slot a) (folded_decl a) (folded_exp a)
    (folded_guard a) (folded_locals a) (folded_operand a) (folded_rhs_body a) (folded_alt_block a) (folded_alt a)
    (folded_case a) (folded_decl_block a) (folded_gd a) (folded_gda a) (folded_if a) (folded_infix a) (folded_lambda a)
    (folded_let a) (folded_link a) (folded_rhs a) (folded_signed a) l)
unfolding folded_aexp folded_alt_body folded_alt_slot folded_decl_slot folded_decl folded_exp folded_guard folded_locals
    folded_operand folded_rhs_body folded_alt_block folded_alt folded_case folded_decl_block folded_gd folded_gda
    folded_if folded_infix folded_lambda folded_let folded_link folded_rhs folded_signed
infix_folded {A} {L} a l = fold-roll-InfixTree A A A A A A A A A A A A A A A A A A A A L A L a.of_aexp a.of_alt_body
    a.of_alt_slot a.of_decl_slot a.of_decl a.of_exp a.of_guard a.of_locals a.of_operand a.of_rhs_body a.of_alt_block
    a.of_alt a.of_case a.of_decl_block a.of_gd a.of_gda a.of_if a.of_infix a.of_lambda a.of_let a.of_link a.of_rhs
    a.of_signed l

pub lambda_folded : {A L : Type 0} (a : Algebra A L) (l : LambdaTrees)
    → folded_lambda a (roll-LambdaTree l) ≡ a.of_lambda
    (map-LambdaTree _ _ _ _ _ _ _ _ _ _ _ _ _ _ _ _ _ _ _ _ _ _ _ _ _ _ _ _ _ _ _ _ _ _ _ _ _ _ _ _ _ _ _ _ _ _
    (folded_aexp a) (folded_alt_body a) (folded_alt_slot a) (folded_decl_slot a) (folded_decl a) (folded_exp a)
    (folded_guard a) (folded_locals a) (folded_operand a) (folded_rhs_body a) (folded_alt_block a) (folded_alt a)
    (folded_case a) (folded_decl_block a) (folded_gd a) (folded_gda a) (folded_if a) (folded_infix a) (folded_lambda a)
    (folded_let a) (folded_link a) (folded_rhs a) (folded_signed a) l)
unfolding folded_aexp folded_alt_body folded_alt_slot folded_decl_slot folded_decl folded_exp folded_guard folded_locals
    folded_operand folded_rhs_body folded_alt_block folded_alt folded_case folded_decl_block folded_gd folded_gda
    folded_if folded_infix folded_lambda folded_let folded_link folded_rhs folded_signed
lambda_folded {A} {L} a l = fold-roll-LambdaTree A A A A A A A A A A A A A A A A A A A A L A L a.of_aexp a.of_alt_body
    a.of_alt_slot a.of_decl_slot a.of_decl a.of_exp a.of_guard a.of_locals a.of_operand a.of_rhs_body a.of_alt_block
    a.of_alt a.of_case a.of_decl_block a.of_gd a.of_gda a.of_if a.of_infix a.of_lambda a.of_let a.of_link a.of_rhs
    a.of_signed l

pub let_folded : {A L : Type 0} (a : Algebra A L) (l : LetTrees)
    → folded_let a (roll-LetTree l) ≡ a.of_let (map-LetTree _ _ _ _ _ _ _ _ _ _ _ _ _ _ _ _ _ _ _ _ _ _ _ _ _ _ _ _ _ _
    _ _ _ _ _ _ _ _ _ _ _ _ _ _ _ _ (folded_aexp a) (folded_alt_body a) (folded_alt_slot a) (folded_decl_slot a)
    (folded_decl a) (folded_exp a) (folded_guard a) (folded_locals a) (folded_operand a) (folded_rhs_body a)
    (folded_alt_block a) (folded_alt a) (folded_case a) (folded_decl_block a) (folded_gd a) (folded_gda a) (folded_if a)
    (folded_infix a) (folded_lambda a) (folded_let a) (folded_link a) (folded_rhs a) (folded_signed a) l)
unfolding folded_aexp folded_alt_body folded_alt_slot folded_decl_slot folded_decl folded_exp folded_guard folded_locals
    folded_operand folded_rhs_body folded_alt_block folded_alt folded_case folded_decl_block folded_gd folded_gda
    folded_if folded_infix folded_lambda folded_let folded_link folded_rhs folded_signed
let_folded {A} {L} a l = fold-roll-LetTree A A A A A A A A A A A A A A A A A A A A L A L a.of_aexp a.of_alt_body
    a.of_alt_slot a.of_decl_slot a.of_decl a.of_exp a.of_guard a.of_locals a.of_operand a.of_rhs_body a.of_alt_block
    a.of_alt a.of_case a.of_decl_block a.of_gd a.of_gda a.of_if a.of_infix a.of_lambda a.of_let a.of_link a.of_rhs
    a.of_signed l

pub link_folded : {A L : Type 0} (a : Algebra A L) (l : OpOperands)
    → folded_link a (roll-OpOperand l) ≡ a.of_link
    (map-OpOperand _ _ _ _ _ _ _ _ _ _ _ _ _ _ _ _ _ _ _ _ _ _ _ _ _ _ _ _ _ _ _ _ _ _ _ _ _ _ _ _ _ _ _ _ _ _
    (folded_aexp a) (folded_alt_body a) (folded_alt_slot a) (folded_decl_slot a) (folded_decl a) (folded_exp a)
    (folded_guard a) (folded_locals a) (folded_operand a) (folded_rhs_body a) (folded_alt_block a) (folded_alt a)
    (folded_case a) (folded_decl_block a) (folded_gd a) (folded_gda a) (folded_if a) (folded_infix a) (folded_lambda a)
    (folded_let a) (folded_link a) (folded_rhs a) (folded_signed a) l)
unfolding folded_aexp folded_alt_body folded_alt_slot folded_decl_slot folded_decl folded_exp folded_guard folded_locals
    folded_operand folded_rhs_body folded_alt_block folded_alt folded_case folded_decl_block folded_gd folded_gda
    folded_if folded_infix folded_lambda folded_let folded_link folded_rhs folded_signed
link_folded {A} {L} a l = fold-roll-OpOperand A A A A A A A A A A A A A A A A A A A A L A L a.of_aexp a.of_alt_body
    a.of_alt_slot a.of_decl_slot a.of_decl a.of_exp a.of_guard a.of_locals a.of_operand a.of_rhs_body a.of_alt_block
    a.of_alt a.of_case a.of_decl_block a.of_gd a.of_gda a.of_if a.of_infix a.of_lambda a.of_let a.of_link a.of_rhs
    a.of_signed l

pub rhs_folded : {A L : Type 0} (a : Algebra A L) (l : RhsTrees)
    → folded_rhs a (roll-RhsTree l) ≡ a.of_rhs (map-RhsTree _ _ _ _ _ _ _ _ _ _ _ _ _ _ _ _ _ _ _ _ _ _ _ _ _ _ _ _ _ _
    _ _ _ _ _ _ _ _ _ _ _ _ _ _ _ _ (folded_aexp a) (folded_alt_body a) (folded_alt_slot a) (folded_decl_slot a)
    (folded_decl a) (folded_exp a) (folded_guard a) (folded_locals a) (folded_operand a) (folded_rhs_body a)
    (folded_alt_block a) (folded_alt a) (folded_case a) (folded_decl_block a) (folded_gd a) (folded_gda a) (folded_if a)
    (folded_infix a) (folded_lambda a) (folded_let a) (folded_link a) (folded_rhs a) (folded_signed a) l)
unfolding folded_aexp folded_alt_body folded_alt_slot folded_decl_slot folded_decl folded_exp folded_guard folded_locals
    folded_operand folded_rhs_body folded_alt_block folded_alt folded_case folded_decl_block folded_gd folded_gda
    folded_if folded_infix folded_lambda folded_let folded_link folded_rhs folded_signed
rhs_folded {A} {L} a l = fold-roll-RhsTree A A A A A A A A A A A A A A A A A A A A L A L a.of_aexp a.of_alt_body
    a.of_alt_slot a.of_decl_slot a.of_decl a.of_exp a.of_guard a.of_locals a.of_operand a.of_rhs_body a.of_alt_block
    a.of_alt a.of_case a.of_decl_block a.of_gd a.of_gda a.of_if a.of_infix a.of_lambda a.of_let a.of_link a.of_rhs
    a.of_signed l

pub signed_folded : {A L : Type 0} (a : Algebra A L) (l : SignedOperands)
    → folded_signed a (roll-SignedOperand l) ≡ a.of_signed
    (map-SignedOperand _ _ _ _ _ _ _ _ _ _ _ _ _ _ _ _ _ _ _ _ _ _ _ _ _ _ _ _ _ _ _ _ _ _ _ _ _ _ _ _ _ _ _ _ _ _
    (folded_aexp a) (folded_alt_body a) (folded_alt_slot a) (folded_decl_slot a) (folded_decl a) (folded_exp a)
    (folded_guard a) (folded_locals a) (folded_operand a) (folded_rhs_body a) (folded_alt_block a) (folded_alt a)
    (folded_case a) (folded_decl_block a) (folded_gd a) (folded_gda a) (folded_if a) (folded_infix a) (folded_lambda a)
    (folded_let a) (folded_link a) (folded_rhs a) (folded_signed a) l)
unfolding folded_aexp folded_alt_body folded_alt_slot folded_decl_slot folded_decl folded_exp folded_guard folded_locals
    folded_operand folded_rhs_body folded_alt_block folded_alt folded_case folded_decl_block folded_gd folded_gda
    folded_if folded_infix folded_lambda folded_let folded_link folded_rhs folded_signed
signed_folded {A} {L} a l = fold-roll-SignedOperand A A A A A A A A A A A A A A A A A A A A L A L a.of_aexp
    a.of_alt_body a.of_alt_slot a.of_decl_slot a.of_decl a.of_exp a.of_guard a.of_locals a.of_operand a.of_rhs_body
    a.of_alt_block a.of_alt a.of_case a.of_decl_block a.of_gd a.of_gda a.of_if a.of_infix a.of_lambda a.of_let a.of_link
    a.of_rhs a.of_signed l
