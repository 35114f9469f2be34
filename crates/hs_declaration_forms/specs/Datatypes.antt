-- Data types with constructors (Haskell 2010 Report, sections 4.2.1 and 4.2.3), and what declares types.
use Rattle.std.specs.Prelude.{◌≡◌, ℕ, Bool, true, false, not, ◌&&◌, ◌||◌, Option, None, List, [], ◌∷◌, ◌++◌, codes, map}
use Rattle.std.specs.Str.{bytes_eq}
use Rattle.hs_forms.specs.Reading.{Form}
use Rattle.hs_forms.specs.Answers.{Sort}
use Rattle.hs_tokens.specs.declared.terminal.Terminal.{Terminal}
use Rattle.hs_tokens.specs.declared.terminal.Terminal.TheVariants as t
use Rattle.hs_tokens.specs.declared.word.Word.TheVariants as w
use Rattle.hs_trees.specs.Types.{starts_atype, spelling_atype, spelling_btype, depth_of_atype, depth_of_btype}
use Rattle.hs_trees.specs.Types.{is_atype, is_btype}
use Rattle.hs_trees.specs.declared.types.ATypeTree.{ATypeTree}
use Rattle.hs_trees.specs.declared.types.BTypeTree.{BTypeTree}
use Rattle.hs_modules.specs.Words.{con_tokens, conop_tokens, is_con, is_conop, has_dot, begins_with_colon}
use Rattle.hs_modules.specs.Modules.{extent_of_constr, extent_of_top_decl}
use Rattle.hs_modules.specs.ModuleTokens.{field_tokens, side_tokens, constr_tokens, top_decl_tokens, bang}
use Rattle.hs_modules.specs.ModuleForms.{is_field, is_side, is_constr, is_top_decl}
use Rattle.hs_modules.specs.declared.names.ConTree.{ConTree}
use Rattle.hs_modules.specs.declared.names.ConOpTree.{ConOpTree}
use Rattle.hs_modules.specs.declared.declarations.Field.{Field}
use Rattle.hs_modules.specs.declared.declarations.ConstrSide.{ConstrSide}
use Rattle.hs_modules.specs.declared.declarations.ConstrSide.TheVariants as v_side
use Rattle.hs_modules.specs.declared.declarations.ConstrTree.{ConstrTree}
use Rattle.hs_modules.specs.declared.declarations.TopDeclTree.{TopDeclTree}
use Rattle.hs_modules.specs.declared.declarations.TopDeclTree.TheVariants as v_top
use Rattle.hs_tokens.specs.Terminals.{is_arrow}
use Rattle.hs_trees.specs.Types.{spelling_type, is_type, depth_of_type}
use Rattle.hs_modules.specs.ModuleTokens.{head_tokens}
use Rattle.hs_modules.specs.ModuleForms.{is_unqualified}
use Rattle.hs_declarations.specs.declared.synonyms.Synonym.{Synonym}
use Rattle.hs_headers.specs.Lists.{flat}
use Rattle.hs_headers.specs.Names.{is_own_con}
use Rattle.hs_expression_forms.specs.Trees.{Trees, row, behind_token}
use Rattle.hs_expression_forms.specs.Expressions.{listed}
use Rattle.hs_block_forms.specs.Combined.{narrowed, headed}
use Rattle.hs_block_forms.specs.Blocks.{ends_item, is_bar}

-- the symbol `!`
abbrev pub is_bang : Terminal → Bool
is_bang (t.VarSym name) = bytes_eq name (codes "!")
is_bang _ = false

abbrev pub is_newtype_word : Terminal → Bool
is_newtype_word (t.Word w.Newtype) = true
is_newtype_word _ = false

-- the tokens that begin a field, and the operator of a constructor, qualified or not
abbrev pub starts_field : Terminal → Bool
starts_field k = starts_atype k || is_bang k

abbrev pub starts_conop : Terminal → Bool
starts_conop (t.ConSym name) = true
starts_conop t.Backquote = true
starts_conop _ = false

-- the tokens by which a constructor goes on
abbrev pub constr_goes : Terminal → Bool
constr_goes k = starts_field k || starts_conop k

-- the tokens that begin a constructor's name in front, and an operator of this module
abbrev pub starts_con : Terminal → Bool
starts_con t.LeftParen = true
starts_con k = is_own_con k

abbrev pub starts_own_conop : Terminal → Bool
starts_own_conop (t.ConSym name) = begins_with_colon name
starts_own_conop t.Backquote = true
starts_own_conop _ = false

-- `con`: `C`, `(:+)`
abbrev pub con_form : Form Terminal ConTree
con_form = record { tokens = con_tokens; Good = λ x. is_con x ≡ true; extends = λ x k. false }

abbrev pub con_sort : Sort Terminal ConTree
con_sort = flat con_form

abbrev pub cons : Trees Terminal ConTree
cons = record { tokens = con_tokens; formed = is_con; deep = λ x. 0; extends = λ x k. false }

-- `conop`: `:+`, `` `C` ``
abbrev pub conop_form : Form Terminal ConOpTree
conop_form = record { tokens = conop_tokens; Good = λ x. is_conop x ≡ true; extends = λ x k. false }

abbrev pub conop_sort : Sort Terminal ConOpTree
conop_sort = flat conop_form

abbrev pub conops : Trees Terminal ConOpTree
conops = record { tokens = conop_tokens; formed = is_conop; deep = λ x. 0; extends = λ x k. false }

abbrev pub atypes : Trees Terminal ATypeTree
atypes = record { tokens = spelling_atype; formed = is_atype; deep = depth_of_atype; extends = λ x k. false }

abbrev pub btypes : Trees Terminal BTypeTree
btypes = record {
  tokens = spelling_btype;
  formed = is_btype;
  deep = depth_of_btype;
  extends = λ x k. starts_atype k;
}

-- `"!" atype`
abbrev pub stricts : Trees Terminal ATypeTree
stricts = behind_token (t.VarSym (codes "!")) atypes

-- `["!"] atype`
abbrev pub fields : Trees Terminal Field
fields = record {
  tokens = field_tokens;
  formed = is_field;
  deep = λ f. depth_of_atype f.atype;
  extends = λ f k. false;
}

-- `btype | "!" atype`
abbrev pub side_depth : ConstrSide → ℕ
side_depth (v_side.Lazy btype) = depth_of_btype btype
side_depth (v_side.Strict atype) = depth_of_atype atype

abbrev pub side_goes : ConstrSide → Terminal → Bool
side_goes (v_side.Lazy btype) k = starts_atype k
side_goes (v_side.Strict atype) k = false

abbrev pub sides : Trees Terminal ConstrSide
sides = record { tokens = side_tokens; formed = is_side; deep = side_depth; extends = side_goes }

-- `con {["!"] atype}`, before what goes on no constructor
abbrev pub PrefixParts : Type 0
PrefixParts = ConTree × List Field

abbrev pub applied : Trees Terminal PrefixParts
applied = headed cons fields starts_field None

abbrev pub prefixes : Trees Terminal PrefixParts
prefixes = record {
  tokens = applied.tokens;
  formed = applied.formed;
  deep = applied.deep;
  extends = λ p k. constr_goes k;
}

-- `(btype | "!" atype) conop (btype | "!" atype)`
abbrev pub InfixParts : Type 0
InfixParts = ConstrSide × (ConOpTree × ConstrSide)

abbrev pub infixes : Trees Terminal InfixParts
infixes = row sides (row conops sides)

abbrev pub constrs : Trees Terminal ConstrTree
constrs = record {
  tokens = constr_tokens;
  formed = is_constr;
  deep = λ x. (extent_of_constr x).depth;
  extends = λ x k. constr_goes k;
}

-- constructors between bars
abbrev pub constr_lists : Trees Terminal (ConstrTree × List ConstrTree)
constr_lists = listed constrs (t.Bar ∷ []) is_bar None

-- `con atype`
abbrev pub newtype_bodies : Trees Terminal (ConTree × ATypeTree)
newtype_bodies = row cons (narrowed atypes ends_item)

-- the declarations by `data` and by `newtype`
abbrev pub is_data : TopDeclTree → Bool
is_data (v_top.EmptyData name params) = true
is_data (v_top.Data name params first rest) = true
is_data _ = false

abbrev pub is_newtype : TopDeclTree → Bool
is_newtype (v_top.Newtype name params con atype) = true
is_newtype _ = false

-- those of such declarations that are well formed, up to what ends them
abbrev pub declared : (TopDeclTree → Bool) → Trees Terminal TopDeclTree
declared such = record {
  tokens = top_decl_tokens;
  formed = λ x. is_top_decl x && such x;
  deep = λ x. (extent_of_top_decl x).depth;
  extends = λ x k. not (ends_item k);
}

-- `"data" tycon {tyvar} ["=" constr {"|" constr}]`
abbrev pub datas : Trees Terminal TopDeclTree
datas = declared is_data

-- `"newtype" tycon {tyvar} "=" con atype`
abbrev pub newtypes : Trees Terminal TopDeclTree
newtypes = declared is_newtype

-- what declares a type
abbrev pub declares_type : TopDeclTree → Bool
declares_type (v_top.Decl decl) = false
declares_type _ = true

abbrev pub type_decls : Trees Terminal TopDeclTree
type_decls = declared declares_type

abbrev pub synonym_trees : Trees Terminal Synonym
synonym_trees = record {
  tokens = λ x. t.Word w.Type ∷ (head_tokens x.name x.params ++ t.Equals ∷ spelling_type x.ty);
  formed = λ x. is_unqualified x.name && is_type x.ty;
  deep = λ x. depth_of_type x.ty;
  extends = λ x k. starts_atype k || is_arrow k;
}

-- the words that begin it
abbrev pub starts_type_decl : Terminal → Bool
starts_type_decl (t.Word w.Data) = true
starts_type_decl (t.Word w.Newtype) = true
starts_type_decl (t.Word w.Type) = true
starts_type_decl _ = false
