-- The forms of names, and of the names behind a type (Haskell 2010 Report, sections 3.2 and 5.2). Names have no depth.
use Rattle.std.specs.Prelude.{◌≡◌, Bool, true, false, not, ◌||◌, codes}
use Rattle.std.specs.Str.{bytes_eq}
use Rattle.hs_forms.specs.Reading.{Form}
use Rattle.hs_forms.specs.Answers.{Sort}
use Rattle.hs_tokens.specs.declared.terminal.Terminal.{Terminal}
use Rattle.hs_tokens.specs.declared.terminal.Terminal.TheVariants as t
use Rattle.hs_tokens.specs.declared.word.Word.TheVariants as w
use Rattle.hs_trees.specs.Patterns.{var_tokens}
use Rattle.hs_trees.specs.declared.patterns.VarTree.{VarTree}
use Rattle.hs_modules.specs.Words.{qvar_tokens, has_dot, begins_with_colon}
use Rattle.hs_modules.specs.ModuleTokens.{cname_tokens, subs_tokens}
use Rattle.hs_modules.specs.ModuleForms.{is_cname, is_subs}
use Rattle.hs_modules.specs.declared.names.QVarTree.{QVarTree}
use Rattle.hs_modules.specs.declared.module.CNameTree.{CNameTree}
use Rattle.hs_modules.specs.declared.module.SubsTree.{SubsTree}
use Rattle.hs_headers.specs.Lists.{flat}

-- tests of terminals
abbrev pub is_left_paren : Terminal → Bool
is_left_paren t.LeftParen = true
is_left_paren _ = false

abbrev pub is_dots : Terminal → Bool
is_dots t.DotDot = true
is_dots _ = false

abbrev pub is_var : Terminal → Bool
is_var (t.Var name) = true
is_var _ = false

abbrev pub is_qvar : Terminal → Bool
is_qvar (t.QVar name) = true
is_qvar _ = false

abbrev pub is_qvar_sym : Terminal → Bool
is_qvar_sym (t.QVarSym name) = true
is_qvar_sym _ = false

-- names of this module: no dot stands in a constructor, and a constructor's symbol begins with a colon
abbrev pub is_own_con : Terminal → Bool
is_own_con (t.Con name) = not (has_dot name)
is_own_con _ = false

abbrev pub is_own_con_sym : Terminal → Bool
is_own_con_sym (t.ConSym name) = begins_with_colon name
is_own_con_sym _ = false

abbrev pub is_module_word : Terminal → Bool
is_module_word (t.Word w.Module) = true
is_module_word _ = false

abbrev pub is_import_word : Terminal → Bool
is_import_word (t.Word w.Import) = true
is_import_word _ = false

abbrev pub is_where_word : Terminal → Bool
is_where_word (t.Word w.Where) = true
is_where_word _ = false

-- names with a meaning in imports
abbrev pub is_qualified_word : Terminal → Bool
is_qualified_word (t.Var name) = bytes_eq name (codes "qualified")
is_qualified_word _ = false

abbrev pub is_as_word : Terminal → Bool
is_as_word (t.Var name) = bytes_eq name (codes "as")
is_as_word _ = false

abbrev pub is_hiding_word : Terminal → Bool
is_hiding_word (t.Var name) = bytes_eq name (codes "hiding")
is_hiding_word _ = false

-- the name with which a signature begins
abbrev pub is_signature_word : Terminal → Bool
is_signature_word (t.Var name) = bytes_eq name (codes "signature")
is_signature_word _ = false

-- the tokens that begin names
abbrev pub starts_var : Terminal → Bool
starts_var (t.Var name) = true
starts_var t.LeftParen = true
starts_var _ = false

abbrev pub starts_qvar : Terminal → Bool
starts_qvar (t.QVar name) = true
starts_qvar k = starts_var k

abbrev pub starts_cname : Terminal → Bool
starts_cname (t.Con name) = not (has_dot name)
starts_cname k = starts_var k

-- symbols in brackets
abbrev pub is_symbol : Terminal → Bool
is_symbol (t.QVarSym name) = true
is_symbol (t.VarSym name) = true
is_symbol _ = false

abbrev pub is_cname_symbol : Terminal → Bool
is_cname_symbol (t.VarSym name) = true
is_cname_symbol (t.ConSym name) = begins_with_colon name
is_cname_symbol _ = false

-- the tokens that begin an export, and an item of an import
abbrev pub starts_export : Terminal → Bool
starts_export (t.Con name) = true
starts_export (t.Word w.Module) = true
starts_export k = starts_qvar k

abbrev pub starts_item : Terminal → Bool
starts_item (t.Con name) = not (has_dot name)
starts_item k = starts_var k

-- the tokens that begin the list of an import, and those by which an import may go on
abbrev pub starts_list : Terminal → Bool
starts_list k = is_left_paren k || is_hiding_word k

abbrev pub goes_on : Terminal → Bool
goes_on k = starts_list k || is_as_word k

-- the tokens that may begin a part of a list: a name, or a bracket
abbrev pub starts_name : Terminal → Bool
starts_name (t.Con name) = true
starts_name k = starts_var k

-- `var`: `x`, `(+)`
abbrev pub var_form : Form Terminal VarTree
var_form = record { tokens = var_tokens; Good = λ x. Unit {0}; extends = λ x k. false }

-- `qvar`: also `M.x`, `(M.+)`
abbrev pub qvar_form : Form Terminal QVarTree
qvar_form = record { tokens = qvar_tokens; Good = λ x. Unit {0}; extends = λ x k. false }

-- `cname`: a variable, or a constructor that is not qualified
abbrev pub cname_form : Form Terminal CNameTree
cname_form = record { tokens = cname_tokens; Good = λ x. is_cname x ≡ true; extends = λ x k. false }

-- `subs`: `(..)`, `(x, C)`
abbrev pub subs_form : Form Terminal SubsTree
subs_form = record { tokens = subs_tokens; Good = λ x. is_subs x ≡ true; extends = λ x k. false }

abbrev pub var_sort : Sort Terminal VarTree
var_sort = flat var_form

abbrev pub qvar_sort : Sort Terminal QVarTree
qvar_sort = flat qvar_form

abbrev pub cname_sort : Sort Terminal CNameTree
cname_sort = flat cname_form

abbrev pub subs_sort : Sort Terminal SubsTree
subs_sort = flat subs_form
