-- What the definitions say of small sources is what they compute.
use Rattle.std.proofs.Common.{refl, ap, inl}
use Rattle.std.specs.Prelude.{ℕ, List, codes}
use Rattle.std.specs.Str.{bytes_eq}
use Rattle.bp_base.specs.declared.ident.Ident.{Ident}
use Rattle.bp_base.specs.declared.ident.Ident.TheVariants.{Hole, Module'}
use Rattle.hs_trees.specs.declared.patterns.APatTree.{roll-APatTree}
use Rattle.hs_trees.specs.declared.patterns.LPatTree.{roll-LPatTree}
use Rattle.hs_trees.specs.declared.patterns.PatTree.{roll-PatTree}
use Rattle.hs_trees.specs.declared.patterns.APatTree.TheBlock.{hidden-the_row-OpLPat-4}
use Rattle.hs_modules.specs.declared.expressions.FunLhsTree.{roll-FunLhsTree}
use Rattle.hs_modules.specs.declared.expressions.ExpTree.{roll-ExpTree}
use Rattle.hs_modules.specs.declared.expressions.InfixTree.{roll-InfixTree}
use Rattle.hs_modules.specs.declared.expressions.OperandTree.{roll-OperandTree}
use Rattle.hs_modules.specs.declared.expressions.AExpTree.{roll-AExpTree}
use Rattle.hs_modules.specs.declared.expressions.DeclTree.{roll-DeclTree}
use Rattle.hs_modules.specs.declared.expressions.DeclSlot.{roll-DeclSlot}
use Rattle.hs_modules.specs.declared.expressions.RhsBody.{roll-RhsBody}
use Rattle.hs_modules.specs.declared.expressions.Locals.{roll-Locals}
use Rattle.hs_modules.specs.declared.expressions.AExpTree.TheBlock.{hidden-the_row-ExpTree-0}
use Rattle.hs_modules.specs.declared.expressions.AExpTree.TheBlock.{hidden-the_row-InfixTree-2}
use Rattle.hs_modules.specs.declared.expressions.AExpTree.TheBlock.{hidden-the_row-DeclSlot-5}
use Rattle.hs_modules.specs.declared.expressions.AExpTree.TheBlock.{hidden-the_row-DeclSlot-6}
use Rattle.hs_modules.specs.declared.expressions.AExpTree.TheBlock.{hidden-the_row-AExpTree-9}
use Rattle.hs_modules.specs.declared.expressions.AExpTree.TheBlock.{hidden-the_row-OpOperand-11}
use denote.Hole.Carrier.{hidden, roll}
use Rattle.hs_scopes.specs.Examples.{MinusGroupsLeft, SignBindsAsPlus, EqualityDoesNotGroup, SectionsResolve}
use Rattle.hs_scopes.specs.Examples.{RightGroups, LocalsHide, LocalFixities, NamesMean}

pub minus_groups_left : MinusGroupsLeft
unfolding roll roll-ExpTree roll-InfixTree roll-OperandTree roll-AExpTree hidden-the_row-OpOperand-11 hidden-the_row-AExpTree-9 hidden-the_row-InfixTree-2 hidden-the_row-ExpTree-0 hidden
minus_groups_left = refl

pub sign_binds_as_plus : SignBindsAsPlus
unfolding roll roll-ExpTree roll-InfixTree roll-OperandTree roll-AExpTree hidden-the_row-OpOperand-11 hidden-the_row-AExpTree-9 hidden-the_row-InfixTree-2 hidden-the_row-ExpTree-0 hidden
sign_binds_as_plus = refl

pub equality_does_not_group : EqualityDoesNotGroup
unfolding roll roll-ExpTree roll-InfixTree roll-OperandTree roll-AExpTree hidden-the_row-OpOperand-11 hidden-the_row-AExpTree-9 hidden-the_row-InfixTree-2 hidden-the_row-ExpTree-0 hidden
equality_does_not_group = refl

pub sections_resolve : SectionsResolve
unfolding roll roll-ExpTree roll-InfixTree roll-OperandTree roll-AExpTree hidden-the_row-OpOperand-11 hidden-the_row-AExpTree-9 hidden-the_row-InfixTree-2 hidden-the_row-ExpTree-0 hidden
sections_resolve = (refl, refl)

pub right_groups : RightGroups
unfolding roll roll-ExpTree roll-InfixTree roll-OperandTree roll-AExpTree hidden-the_row-OpOperand-11 hidden-the_row-AExpTree-9 hidden-the_row-InfixTree-2 hidden-the_row-ExpTree-0 hidden
right_groups = (refl, refl)

pub locals_hide : LocalsHide
unfolding roll roll-ExpTree roll-InfixTree roll-OperandTree roll-AExpTree hidden-the_row-OpOperand-11 hidden-the_row-AExpTree-9 hidden-the_row-InfixTree-2 hidden-the_row-ExpTree-0 hidden roll-APatTree
locals_hide = refl

pub local_fixities : LocalFixities
unfolding roll roll-ExpTree roll-InfixTree roll-OperandTree roll-AExpTree hidden-the_row-OpOperand-11 hidden-the_row-AExpTree-9 hidden-the_row-InfixTree-2 hidden-the_row-ExpTree-0 hidden roll-APatTree roll-LPatTree roll-PatTree roll-FunLhsTree roll-DeclTree roll-DeclSlot roll-RhsBody roll-Locals hidden-the_row-OpLPat-4 hidden-the_row-DeclSlot-5 hidden-the_row-DeclSlot-6
local_fixities = refl

-- the module of an identity
home : Ident → List ℕ
home (Hole h) = h
home (Module' s u m) = m

pub names_mean : NamesMean
unfolding home
names_mean = (
  (refl, (refl, tt)),
  (inl (λ p. let q = ap (λ n. bytes_eq (home n.at) (codes "A")) p in cc), refl),
  refl,
  (refl, tt),
)
