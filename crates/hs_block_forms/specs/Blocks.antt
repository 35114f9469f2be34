-- The kinds of trees of guards, right sides, alternatives and blocks, as they are read (Haskell 2010 Report, sections
-- 3.13 and 4.4.3). Each is read up to a token that may stand behind it.
use Rattle.std.specs.Prelude.{Bool, true, false, not, ◌&&◌, ◌||◌, List, [], ◌∷◌, Some, None, map, ◌+◌}
use Rattle.hs_tokens.specs.Terminals.{is_arrow, is_comma}
use Rattle.hs_tokens.specs.declared.terminal.Terminal.{Terminal}
use Rattle.hs_tokens.specs.declared.terminal.Terminal.TheVariants as t
use Rattle.hs_tokens.specs.declared.word.Word.TheVariants as w
use Rattle.hs_trees.specs.Hits.{follows_guard}
use Rattle.hs_trees.specs.declared.patterns.PatTree.{PatTree}
use Rattle.hs_modules.specs.Tokens.{spelling_alt, spelling_alt_body, spelling_alt_slot, spelling_decl_block}
use Rattle.hs_modules.specs.Tokens.{spelling_gd}
use Rattle.hs_modules.specs.Tokens.{spelling_gda, spelling_guard, spelling_infix, spelling_rhs, spelling_rhs_body}
use Rattle.hs_modules.specs.Formed.{Facts, last_of, facts_of_alt, facts_of_alt_body, facts_of_alt_slot}
use Rattle.hs_modules.specs.Formed.{facts_of_decl_block, facts_of_gd, facts_of_gda, facts_of_guard, facts_of_infix}
use Rattle.hs_modules.specs.Formed.{facts_of_rhs, facts_of_rhs_body}
use Rattle.hs_modules.specs.ExpressionExtents.{extent_of_alt, extent_of_alt_body, extent_of_alt_slot}
use Rattle.hs_modules.specs.ExpressionExtents.{extent_of_decl_block, extent_of_gd, extent_of_gda, extent_of_guard}
use Rattle.hs_modules.specs.ExpressionExtents.{extent_of_rhs, extent_of_rhs_body}
use Rattle.hs_modules.specs.declared.expressions.AltBody.{AltBody}
use Rattle.hs_modules.specs.declared.expressions.AltSlot.{AltSlot}
use Rattle.hs_modules.specs.declared.expressions.AltTree.{AltTree}
use Rattle.hs_modules.specs.declared.expressions.DeclBlock.{DeclBlock}
use Rattle.hs_modules.specs.declared.expressions.ExpTree.{ExpTree}
use Rattle.hs_modules.specs.declared.expressions.GdTree.{GdTree}
use Rattle.hs_modules.specs.declared.expressions.GdaTree.{GdaTree}
use Rattle.hs_modules.specs.declared.expressions.GuardTree.{GuardTree}
use Rattle.hs_modules.specs.declared.expressions.InfixTree.{InfixTree}
use Rattle.hs_modules.specs.declared.expressions.RhsBody.{RhsBody}
use Rattle.hs_modules.specs.declared.expressions.RhsTree.{RhsTree}
use Rattle.hs_expression_forms.specs.Trees.{Trees, behind_token, ended, row}
use Rattle.hs_expression_forms.specs.Expressions.{exps, is_infix, depth_of_infix, listed, pats}
use Rattle.hs_block_forms.specs.Combined.{narrowed, ended_if, headed}

abbrev pub is_bar : Terminal → Bool
is_bar t.Bar = true
is_bar _ = false

abbrev pub is_equals : Terminal → Bool
is_equals t.Equals = true
is_equals _ = false

abbrev pub is_left_arrow : Terminal → Bool
is_left_arrow t.LeftArrow = true
is_left_arrow _ = false

abbrev pub is_left_brace : Terminal → Bool
is_left_brace t.LeftBrace = true
is_left_brace _ = false

abbrev pub is_right_brace : Terminal → Bool
is_right_brace t.RightBrace = true
is_right_brace _ = false

abbrev pub is_where : Terminal → Bool
is_where (t.Word w.Where) = true
is_where _ = false

abbrev pub is_semicolon : Terminal → Bool
is_semicolon t.Semicolon = true
is_semicolon _ = false

-- the tokens behind an item of a block
abbrev pub ends_item : Terminal → Bool
ends_item t.Semicolon = true
ends_item t.RightBrace = true
ends_item _ = false

-- the tokens behind what stands before `where`
abbrev pub ends_body : Terminal → Bool
ends_body k = ends_item k || is_where k

-- the tokens behind a guarded expression
abbrev pub ends_guarded : Terminal → Bool
ends_guarded k = ends_body k || is_bar k

-- a guard goes on with whatever doesn't follow guards, and with `->` if it ends in a type
abbrev pub guard_goes_on : Facts → Terminal → Bool
guard_goes_on f k = not (follows_guard k) || (f.ends_in_type && is_arrow k)

-- `infix` as a guard
abbrev pub tests : Trees Terminal InfixTree
tests = record {
  tokens = spelling_infix;
  formed = is_infix;
  deep = depth_of_infix;
  extends = λ x. guard_goes_on (facts_of_infix x);
}

-- `pat "<-" infix`
abbrev pub binds : Trees Terminal (PatTree × InfixTree)
binds = row (ended pats t.LeftArrow) tests

abbrev pub guards : Trees Terminal GuardTree
guards = record {
  tokens = spelling_guard;
  formed = λ x. (facts_of_guard x).good;
  deep = λ x. (extent_of_guard x).depth;
  extends = λ x. guard_goes_on (facts_of_guard x);
}

-- guards between commas
abbrev pub GuardList : Type 0
GuardList = GuardTree × List GuardTree

abbrev pub guard_lists : Trees Terminal GuardList
guard_lists = listed guards (t.Comma ∷ []) is_comma None

-- The type at the end of a guard would take the arrow of its alternative.
abbrev pub guards_fit : GuardList → Bool
guards_fit p = not (last_of (facts_of_guard p.0) (map facts_of_guard p.1)).ends_in_type

-- `"|" guard {"," guard} "=" exp`
abbrev pub gds : Trees Terminal GdTree
gds = record {
  tokens = spelling_gd;
  formed = λ x. (facts_of_gd x).good;
  deep = λ x. (extent_of_gd x).depth;
  extends = λ x k. not (ends_guarded k);
}

abbrev pub gd_parts : Trees Terminal (GuardList × ExpTree)
gd_parts = behind_token t.Bar (row (ended guard_lists t.Equals) (narrowed exps ends_guarded))

-- `"|" guard {"," guard} "->" exp`
abbrev pub gdas : Trees Terminal GdaTree
gdas = record {
  tokens = spelling_gda;
  formed = λ x. (facts_of_gda x).good;
  deep = λ x. (extent_of_gda x).depth;
  extends = λ x k. not (ends_guarded k);
}

abbrev pub gda_parts : Trees Terminal (GuardList × ExpTree)
gda_parts = behind_token t.Bar (row (ended_if guard_lists guards_fit t.Arrow) (narrowed exps ends_guarded))

-- `"=" exp | gd {gd}`
abbrev pub rhs_bodies : Trees Terminal RhsBody
rhs_bodies = record {
  tokens = spelling_rhs_body;
  formed = λ x. (facts_of_rhs_body x).good;
  deep = λ x. (extent_of_rhs_body x).depth;
  extends = λ x k. not (ends_body k);
}

abbrev pub gd_lists : Trees Terminal (GdTree × List GdTree)
gd_lists = listed gds [] is_bar None

-- `"->" exp | gda {gda}`
abbrev pub alt_bodies : Trees Terminal AltBody
alt_bodies = record {
  tokens = spelling_alt_body;
  formed = λ x. (facts_of_alt_body x).good;
  deep = λ x. (extent_of_alt_body x).depth;
  extends = λ x k. not (ends_body k);
}

abbrev pub gda_lists : Trees Terminal (GdaTree × List GdaTree)
gda_lists = listed gdas [] is_bar None

-- `"where" block(decl)`
abbrev pub wheres : Trees Terminal DeclBlock
wheres = record {
  tokens = λ x. t.Word w.Where ∷ spelling_decl_block x;
  formed = λ x. (facts_of_decl_block x).good;
  deep = λ x. (extent_of_decl_block x).depth + 1;
  extends = λ x k. false;
}

-- a body and at most one `where` behind it
abbrev pub rhs_parts : Trees Terminal (RhsBody × List DeclBlock)
rhs_parts = headed rhs_bodies wheres is_where (Some 1)

abbrev pub alt_parts : Trees Terminal (AltBody × List DeclBlock)
alt_parts = headed alt_bodies wheres is_where (Some 1)

-- `("=" exp | gd {gd}) ["where" block(decl)]`
abbrev pub rhss : Trees Terminal RhsTree
rhss = record {
  tokens = spelling_rhs;
  formed = λ x. (facts_of_rhs x).good;
  deep = λ x. (extent_of_rhs x).depth;
  extends = λ x k. not (ends_item k);
}

-- `pat ("->" exp | gda {gda}) ["where" block(decl)]`
abbrev pub alts : Trees Terminal AltTree
alts = record {
  tokens = spelling_alt;
  formed = λ x. (facts_of_alt x).good;
  deep = λ x. (extent_of_alt x).depth;
  extends = λ x k. not (ends_item k);
}

abbrev pub pat_alts : Trees Terminal (PatTree × (AltBody × List DeclBlock))
pat_alts = row pats (narrowed alt_parts ends_item)

abbrev pub alt_slots : Trees Terminal AltSlot
alt_slots = record {
  tokens = spelling_alt_slot;
  formed = λ x. (facts_of_alt_slot x).good;
  deep = λ x. (extent_of_alt_slot x).depth;
  extends = λ x k. not (ends_item k);
}

-- what stands between the braces of a block, with its opening brace
abbrev pub alt_items : Trees Terminal (AltSlot × List AltSlot)
alt_items = headed (behind_token t.LeftBrace alt_slots) (behind_token t.Semicolon alt_slots) is_semicolon None
