-- Declarations that bind nothing (Haskell 2010 Report, sections 4.4.1 and 4.4.2): the types of variables, and how tightly
-- operators bind.
use Rattle.std.specs.Prelude.{◌≡◌, ℕ, Bool, true, false, not, ◌&&◌, Option, Some, None, List, [], ◌∷◌}
use Rattle.hs_forms.specs.Reading.{Form}
use Rattle.hs_forms.specs.Answers.{Sort}
use Rattle.hs_tokens.specs.Terminals.{is_comma}
use Rattle.hs_tokens.specs.declared.terminal.Terminal.{Terminal}
use Rattle.hs_tokens.specs.declared.terminal.Terminal.TheVariants as t
use Rattle.hs_tokens.specs.declared.word.Word.TheVariants as w
use Rattle.hs_trees.specs.Patterns.{var_tokens}
use Rattle.hs_trees.specs.declared.patterns.VarTree.{VarTree}
use Rattle.hs_trees.specs.declared.types.TypeTree.{TypeTree}
use Rattle.hs_modules.specs.Words.{op_tokens, has_dot, begins_with_colon, is_operator}
use Rattle.hs_modules.specs.Tokens.{fixity_word, level_tokens, spelling_decl}
use Rattle.hs_modules.specs.Formed.{is_level, facts_of_decl}
use Rattle.hs_modules.specs.ModuleForms.{binds_nothing}
use Rattle.hs_modules.specs.ExpressionExtents.{extent_of_decl}
use Rattle.hs_modules.specs.declared.names.OpTree.{OpTree}
use Rattle.hs_modules.specs.declared.declarations.Fixity.{Fixity}
use Rattle.hs_modules.specs.declared.declarations.TopDeclTree.TheVariants as top
use Rattle.hs_modules.specs.declared.expressions.DeclTree.{DeclTree}
use Rattle.hs_headers.specs.Lists.{flat}
use Rattle.hs_expression_forms.specs.Trees.{Trees, row, ended}
use Rattle.hs_expression_forms.specs.Expressions.{listed, types}
use Rattle.hs_block_forms.specs.Combined.{narrowed}
use Rattle.hs_block_forms.specs.Blocks.{ends_item}

-- the tokens that begin an operator, and the names that stand between backquotes
abbrev pub starts_op : Terminal → Bool
starts_op (t.VarSym name) = true
starts_op (t.ConSym name) = begins_with_colon name
starts_op t.Backquote = true
starts_op _ = false

abbrev pub is_quotable : Terminal → Bool
is_quotable (t.Var name) = true
is_quotable (t.Con name) = not (has_dot name)
is_quotable _ = false

-- the words of fixity declarations, and the digit behind them
abbrev pub starts_fixity : Terminal → Bool
starts_fixity (t.Word w.Infixl) = true
starts_fixity (t.Word w.Infixr) = true
starts_fixity (t.Word w.Infix) = true
starts_fixity _ = false

abbrev pub is_digit : Terminal → Bool
is_digit (t.Integer text) = is_level (Some text)
is_digit _ = false

-- `op`: `+`, `` `f` ``, `:+`, not qualified
abbrev pub op_form : Form Terminal OpTree
op_form = record { tokens = op_tokens; Good = λ x. is_operator x ≡ true; extends = λ x k. false }

abbrev pub op_sort : Sort Terminal OpTree
op_sort = flat op_form

abbrev pub ops : Trees Terminal OpTree
ops = record { tokens = op_tokens; formed = is_operator; deep = λ x. 0; extends = λ x k. false }

-- operators between commas
abbrev pub op_lists : Trees Terminal (OpTree × List OpTree)
op_lists = listed ops (t.Comma ∷ []) is_comma None

abbrev pub vars : Trees Terminal VarTree
vars = record { tokens = var_tokens; formed = λ x. true; deep = λ x. 0; extends = λ x k. false }

-- variables between commas
abbrev pub var_lists : Trees Terminal (VarTree × List VarTree)
var_lists = listed vars (t.Comma ∷ []) is_comma None

-- what stands before the operators of a fixity declaration: `infixl 6`
abbrev pub FixityHead : Type 0
FixityHead = Fixity × Option (List ℕ)

-- without a level it goes on with one
abbrev pub level_goes : Option (List ℕ) → Terminal → Bool
level_goes None k = is_digit k
level_goes (Some level) k = false

abbrev pub fixity_head_form : Form Terminal FixityHead
fixity_head_form = record {
  tokens = λ h. fixity_word h.0 ∷ level_tokens h.1;
  Good = λ h. is_level h.1 ≡ true;
  extends = λ h k. level_goes h.1 k;
}

abbrev pub fixity_head_sort : Sort Terminal FixityHead
fixity_head_sort = flat fixity_head_form

abbrev pub fixity_heads : Trees Terminal FixityHead
fixity_heads = record {
  tokens = fixity_head_form.tokens;
  formed = λ h. is_level h.1;
  deep = λ h. 0;
  extends = fixity_head_form.extends;
}

-- `("infixl" | "infixr" | "infix") [digit] op {"," op}`
abbrev pub fixities : Trees Terminal (FixityHead × (OpTree × List OpTree))
fixities = row fixity_heads (narrowed op_lists ends_item)

-- `var {"," var} "::" type`
abbrev pub typings : Trees Terminal ((VarTree × List VarTree) × TypeTree)
typings = row (ended var_lists t.DoubleColon) (narrowed types ends_item)

-- the declarations that bind nothing, up to what ends them
abbrev pub plain_decls : Trees Terminal DeclTree
plain_decls = record {
  tokens = spelling_decl;
  formed = λ x. (facts_of_decl x).good && binds_nothing (top.Decl x);
  deep = λ x. (extent_of_decl x).depth;
  extends = λ x k. not (ends_item k);
}

-- the tokens that stand at a place of a block that is not empty
abbrev pub fills_place : Terminal → Bool
fills_place k = not (ends_item k)
