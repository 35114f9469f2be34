-- Which trees of expressions and declarations a source can have. A lambda, `let` or `if` takes all that can stand
-- behind it, so it is the last operand of its chain, and no
-- section or annotation is put behind such a chain (Haskell 2010 Report, section 3).
use Rattle.std.specs.Prelude.{ℕ, Bool, true, false, not, ◌&&◌, nat_lt, nat_le, nat_eq, Option, Some, None, List, []}
use Rattle.std.specs.Prelude.{◌∷◌, length, map}
use Rattle.hs_forms.specs.Limits.{all_of}
use Rattle.hs_trees.specs.Types.{is_type}
use Rattle.hs_trees.specs.Patterns.{is_gcon, is_apat, is_lpat, is_pat}
use Rattle.hs_modules.specs.Words.{is_operator, is_bare_minus}
use Rattle.hs_modules.specs.declared.expressions.AExpTree.{AExpTree, AExpTree-F}
use Rattle.hs_modules.specs.declared.expressions.AltBody.{AltBody, AltBody-F}
use Rattle.hs_modules.specs.declared.expressions.AltSlot.{AltSlot, AltSlot-F}
use Rattle.hs_modules.specs.declared.expressions.DeclSlot.{DeclSlot, DeclSlot-F}
use Rattle.hs_modules.specs.declared.expressions.DeclTree.{DeclTree, DeclTree-F}
use Rattle.hs_modules.specs.declared.expressions.ExpTree.{ExpTree, ExpTree-F}
use Rattle.hs_modules.specs.declared.expressions.GuardTree.{GuardTree, GuardTree-F}
use Rattle.hs_modules.specs.declared.expressions.Locals.{Locals, Locals-F}
use Rattle.hs_modules.specs.declared.expressions.OperandTree.{OperandTree, OperandTree-F}
use Rattle.hs_modules.specs.declared.expressions.RhsBody.{RhsBody, RhsBody-F}
use Rattle.hs_modules.specs.declared.expressions.AltBlock.{AltBlock}
use Rattle.hs_modules.specs.declared.expressions.AltTree.{AltTree}
use Rattle.hs_modules.specs.declared.expressions.CaseTree.{CaseTree}
use Rattle.hs_modules.specs.declared.expressions.DeclBlock.{DeclBlock}
use Rattle.hs_modules.specs.declared.expressions.GdTree.{GdTree}
use Rattle.hs_modules.specs.declared.expressions.GdaTree.{GdaTree}
use Rattle.hs_modules.specs.declared.expressions.IfTree.{IfTree}
use Rattle.hs_modules.specs.declared.expressions.InfixTree.{InfixTree}
use Rattle.hs_modules.specs.declared.expressions.LambdaTree.{LambdaTree}
use Rattle.hs_modules.specs.declared.expressions.LetTree.{LetTree}
use Rattle.hs_modules.specs.declared.expressions.OpOperand.{OpOperand}
use Rattle.hs_modules.specs.declared.expressions.RhsTree.{RhsTree}
use Rattle.hs_modules.specs.declared.expressions.SignedOperand.{SignedOperand}
use Rattle.hs_modules.specs.Folds.{Algebra, AExpTreeLayer, AltBodyLayer, AltSlotLayer, DeclSlotLayer, DeclTreeLayer}
use Rattle.hs_modules.specs.Folds.{ExpTreeLayer, GuardTreeLayer, LocalsLayer, OperandTreeLayer, RhsBodyLayer}
use Rattle.hs_modules.specs.Folds.{folded_aexp, folded_alt_body, folded_alt_slot, folded_decl_slot, folded_decl}
use Rattle.hs_modules.specs.Folds.{folded_exp, folded_guard, folded_locals, folded_operand, folded_rhs_body}
use Rattle.hs_modules.specs.Folds.{folded_alt_block, folded_alt, folded_case, folded_decl_block, folded_gd, folded_gda}
use Rattle.hs_modules.specs.Folds.{folded_if, folded_infix, folded_lambda, folded_let, folded_link, folded_rhs}
use Rattle.hs_modules.specs.Folds.{folded_signed}
use Rattle.hs_modules.specs.declared.expressions.FunLhsTree.{FunLhsTree, FunLhsTree-F, fold-FunLhsTree}

-- Whether a tree is well formed, whether its last operand is a lambda, `let` or `if`, and whether such an operand ends
-- in an annotation.
pub record Facts : Type 0 where
  pub good : Bool
  pub is_open : Bool
  pub ends_in_type : Bool

abbrev pub closed : Bool → Facts
closed good = record { good = good; is_open = false; ends_in_type = false }

abbrev pub good_of : Facts → Bool
good_of f = f.good

abbrev pub all_good : List Facts → Bool
all_good fs = all_of (map good_of fs)

-- no link of a chain but the last is open
abbrev pub closed_front : Facts → List Facts → Bool
closed_front first [] = true
closed_front first (next ∷ rest) = not first.is_open && closed_front next rest

abbrev pub last_of : Facts → List Facts → Facts
last_of first [] = first
last_of first (next ∷ rest) = last_of next rest

abbrev pub fun_lhs_formed : FunLhsTree-F Bool → Bool
fun_lhs_formed (FunLhsTree-F.Prefix var first rest) = is_apat first && all_of (map is_apat rest)
fun_lhs_formed (FunLhsTree-F.Infix left op right) = is_lpat left && is_lpat right
fun_lhs_formed (FunLhsTree-F.Parens inner first rest) = inner && (is_apat first && all_of (map is_apat rest))

abbrev pub is_fun_lhs : FunLhsTree → Bool
is_fun_lhs = fold-FunLhsTree Bool fun_lhs_formed

-- a tuple has 2 to 15 parts, a list any number
abbrev pub aexp_facts : AExpTreeLayer Facts Facts → Facts
aexp_facts (AExpTree-F.Var name) = closed true
aexp_facts (AExpTree-F.Con con) = closed (is_gcon con)
aexp_facts (AExpTree-F.Literal literal) = closed true
aexp_facts (AExpTree-F.Parts first rest) = closed (nat_lt (length rest) 15 && (first.good && all_good rest))
aexp_facts (AExpTree-F.List first rest) = closed (first.good && all_good rest)
aexp_facts (AExpTree-F.LeftSection chain op) = closed (chain.good && not chain.is_open)
aexp_facts (AExpTree-F.RightSection op chain) = closed (not (is_bare_minus op) && chain.good)

abbrev pub alt_body_facts : AltBodyLayer Facts Facts → Facts
alt_body_facts (AltBody-F.Arrow exp) = closed exp.good
alt_body_facts (AltBody-F.GuardedArrows first rest) = closed (first.good && all_good rest)

abbrev pub alt_slot_facts : AltSlotLayer Facts Facts → Facts
alt_slot_facts AltSlot-F.NoAlt = closed true
alt_slot_facts (AltSlot-F.Alt alt) = alt

abbrev pub decl_slot_facts : DeclSlotLayer Facts Facts → Facts
decl_slot_facts DeclSlot-F.NoDecl = closed true
decl_slot_facts (DeclSlot-F.Decl decl) = decl

-- the level of a fixity declaration is one decimal digit
abbrev pub is_level : Option (List ℕ) → Bool
is_level None = true
is_level (Some []) = false
is_level (Some (b ∷ bs)) = nat_eq (length bs) 0 && (nat_le 48 b && nat_le b 57)

abbrev pub decl_facts : DeclTreeLayer Facts Facts → Facts
decl_facts (DeclTree-F.Signature first rest ty) = closed (is_type ty)
decl_facts (DeclTree-F.Fixity word level first rest) =
    closed (is_level level && (is_operator first && all_of (map is_operator rest)))
decl_facts (DeclTree-F.Function left right) = closed (is_fun_lhs left && right.good)
decl_facts (DeclTree-F.Pattern left right) = closed (is_pat left && right.good)

abbrev pub exp_facts : ExpTreeLayer Facts Facts → Facts
exp_facts (ExpTree-F.Infix chain) = chain
exp_facts (ExpTree-F.Annotated chain ty) = record {
  good = (chain.good && not chain.is_open) && is_type ty;
  is_open = false;
  ends_in_type = true;
}

abbrev pub guard_facts : GuardTreeLayer Facts Facts → Facts
guard_facts (GuardTree-F.Bind pat chain) = record {
  good = is_pat pat && chain.good;
  is_open = chain.is_open;
  ends_in_type = chain.ends_in_type;
}
guard_facts (GuardTree-F.Test chain) = chain

abbrev pub locals_facts : LocalsLayer Facts Facts → Facts
locals_facts Locals-F.Absent = closed true
locals_facts (Locals-F.Where block) = block

abbrev pub operand_facts : OperandTreeLayer Facts Facts → Facts
operand_facts (OperandTree-F.Lambda part) = part
operand_facts (OperandTree-F.Let part) = part
operand_facts (OperandTree-F.If part) = part
operand_facts (OperandTree-F.Case part) = part
operand_facts (OperandTree-F.Apply first rest) = closed (first.good && all_good rest)

abbrev pub rhs_body_facts : RhsBodyLayer Facts Facts → Facts
rhs_body_facts (RhsBody-F.Equals exp) = closed exp.good
rhs_body_facts (RhsBody-F.GuardedEquals first rest) = closed (first.good && all_good rest)

-- an operand that takes all behind it, where this body ends
abbrev pub opened : Bool → Facts → Facts
opened good body = record { good = good && body.good; is_open = true; ends_in_type = body.ends_in_type }

-- The type at the end of a guard would take the arrow of its alternative.
unfoldable pub fact_algebra : Algebra Facts Facts
fact_algebra = record {
  of_aexp = aexp_facts;
  of_alt_body = alt_body_facts;
  of_alt_slot = alt_slot_facts;
  of_decl_slot = decl_slot_facts;
  of_decl = decl_facts;
  of_exp = exp_facts;
  of_guard = guard_facts;
  of_locals = locals_facts;
  of_operand = operand_facts;
  of_rhs_body = rhs_body_facts;
  of_alt_block = λ b. closed (b.first.good && all_good b.rest);
  of_alt = λ a. closed (is_pat a.pat && (a.body.good && a.locals.good));
  of_case = λ c. closed (c.scrutinee.good && c.alts.good);
  of_decl_block = λ b. closed (b.first.good && all_good b.rest);
  of_gd = λ g. closed ((g.first.good && all_good g.rest) && g.exp.good);
  of_gda = λ g. closed (((g.first.good && all_good g.rest) && not (last_of g.first g.rest).ends_in_type) && g.exp.good);
  of_if = λ i. opened (i.test.good && i.then_part.good) i.else_part;
  of_infix = λ x. record {
    good = (x.first.good && all_good x.rest) && closed_front x.first x.rest;
    is_open = (last_of x.first x.rest).is_open;
    ends_in_type = (last_of x.first x.rest).ends_in_type;
  };
  of_lambda = λ l. opened (is_apat l.first && all_of (map is_apat l.rest)) l.body;
  of_let = λ l. opened l.decls.good l.body;
  of_link = λ o. o.operand;
  of_rhs = λ r. closed (r.body.good && r.locals.good);
  of_signed = λ s. s.operand;
}

abbrev pub facts_of_aexp : AExpTree → Facts
facts_of_aexp = folded_aexp fact_algebra

abbrev pub facts_of_alt_body : AltBody → Facts
facts_of_alt_body = folded_alt_body fact_algebra

abbrev pub facts_of_alt_slot : AltSlot → Facts
facts_of_alt_slot = folded_alt_slot fact_algebra

abbrev pub facts_of_decl_slot : DeclSlot → Facts
facts_of_decl_slot = folded_decl_slot fact_algebra

abbrev pub facts_of_decl : DeclTree → Facts
facts_of_decl = folded_decl fact_algebra

abbrev pub facts_of_exp : ExpTree → Facts
facts_of_exp = folded_exp fact_algebra

abbrev pub facts_of_guard : GuardTree → Facts
facts_of_guard = folded_guard fact_algebra

abbrev pub facts_of_locals : Locals → Facts
facts_of_locals = folded_locals fact_algebra

abbrev pub facts_of_operand : OperandTree → Facts
facts_of_operand = folded_operand fact_algebra

abbrev pub facts_of_rhs_body : RhsBody → Facts
facts_of_rhs_body = folded_rhs_body fact_algebra

abbrev pub facts_of_alt_block : AltBlock → Facts
facts_of_alt_block = folded_alt_block fact_algebra

abbrev pub facts_of_alt : AltTree → Facts
facts_of_alt = folded_alt fact_algebra

abbrev pub facts_of_case : CaseTree → Facts
facts_of_case = folded_case fact_algebra

abbrev pub facts_of_decl_block : DeclBlock → Facts
facts_of_decl_block = folded_decl_block fact_algebra

abbrev pub facts_of_gd : GdTree → Facts
facts_of_gd = folded_gd fact_algebra

abbrev pub facts_of_gda : GdaTree → Facts
facts_of_gda = folded_gda fact_algebra

abbrev pub facts_of_if : IfTree → Facts
facts_of_if = folded_if fact_algebra

abbrev pub facts_of_infix : InfixTree → Facts
facts_of_infix = folded_infix fact_algebra

abbrev pub facts_of_lambda : LambdaTree → Facts
facts_of_lambda = folded_lambda fact_algebra

abbrev pub facts_of_let : LetTree → Facts
facts_of_let = folded_let fact_algebra

abbrev pub facts_of_link : OpOperand → Facts
facts_of_link = folded_link fact_algebra

abbrev pub facts_of_rhs : RhsTree → Facts
facts_of_rhs = folded_rhs fact_algebra

abbrev pub facts_of_signed : SignedOperand → Facts
facts_of_signed = folded_signed fact_algebra
