-- The declarations of blocks, and the blocks of `let` and `where` (Haskell 2010 Report, sections 3.12 and 4.4).
use Rattle.std.specs.Prelude.{Bool, not, ◌&&◌, List, None}
use Rattle.hs_tokens.specs.declared.terminal.Terminal.{Terminal}
use Rattle.hs_tokens.specs.declared.terminal.Terminal.TheVariants as t
use Rattle.hs_modules.specs.Tokens.{spelling_decl, spelling_decl_slot}
use Rattle.hs_modules.specs.Formed.{facts_of_decl, facts_of_decl_slot}
use Rattle.hs_modules.specs.ExpressionExtents.{extent_of_decl, extent_of_decl_slot}
use Rattle.hs_modules.specs.ModuleForms.{binds_nothing}
use Rattle.hs_modules.specs.declared.declarations.TopDeclTree.TheVariants as top
use Rattle.hs_modules.specs.declared.expressions.DeclTree.{DeclTree}
use Rattle.hs_modules.specs.declared.expressions.DeclTree.TheVariants as d
use Rattle.hs_modules.specs.declared.expressions.DeclSlot.{DeclSlot}
use Rattle.hs_modules.specs.declared.expressions.RhsTree.{RhsTree}
use Rattle.hs_expression_forms.specs.Trees.{Trees, behind_token, row}
use Rattle.hs_block_forms.specs.Combined.{headed}
use Rattle.hs_block_forms.specs.Blocks.{ends_item, is_semicolon, rhss}
use Rattle.hs_left_forms.specs.Lefts.{left_sides}
use Rattle.hs_left_forms.specs.declared.left_side.LeftSide.{LeftSide}
use Rattle.hs_left_forms.specs.declared.left_side.LeftSide.TheVariants as left

-- the declarations of blocks, up to what ends them
abbrev pub decls : Trees Terminal DeclTree
decls = record {
  tokens = spelling_decl;
  formed = λ x. (facts_of_decl x).good;
  deep = λ x. (extent_of_decl x).depth;
  extends = λ x k. not (ends_item k);
}

-- the places of their blocks
abbrev pub decl_slots : Trees Terminal DeclSlot
decl_slots = record {
  tokens = spelling_decl_slot;
  formed = λ x. (facts_of_decl_slot x).good;
  deep = λ x. (extent_of_decl_slot x).depth;
  extends = λ x k. not (ends_item k);
}

-- what stands between the braces of a block, with its opening brace
abbrev pub decl_items : Trees Terminal (DeclSlot × List DeclSlot)
decl_items = headed (behind_token t.LeftBrace decl_slots) (behind_token t.Semicolon decl_slots) is_semicolon None

-- those that bind something
abbrev pub bindings : Trees Terminal DeclTree
bindings = record {
  tokens = spelling_decl;
  formed = λ x. (facts_of_decl x).good && not (binds_nothing (top.Decl x));
  deep = λ x. (extent_of_decl x).depth;
  extends = λ x k. not (ends_item k);
}

-- a left side and a right side
abbrev pub binding_parts : Trees Terminal (LeftSide × RhsTree)
binding_parts = row left_sides rhss

abbrev pub binding_of : LeftSide × RhsTree → DeclTree
binding_of (left.Function x, right) = d.Function x right
binding_of (left.Pattern x, right) = d.Pattern x right
