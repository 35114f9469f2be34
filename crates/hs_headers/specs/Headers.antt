-- The forms of exports, imports and heads (Haskell 2010 Report, sections 5.1 to 5.3). They have no depth.
use Rattle.std.specs.Prelude.{◌≡◌, ℕ, Bool, true, false, Option, Some, None, List, [], ◌∷◌, ◌++◌, codes, map}
use Rattle.hs_forms.specs.Reading.{Form}
use Rattle.hs_forms.specs.Answers.{Sort}
use Rattle.hs_forms.specs.Limits.{all_of}
use Rattle.hs_tokens.specs.declared.terminal.Terminal.{Terminal}
use Rattle.hs_tokens.specs.declared.terminal.Terminal.TheVariants as t
use Rattle.hs_modules.specs.ModuleTokens.{export_tokens, exports_tokens, item_tokens, import_list_tokens, import_tokens}
use Rattle.hs_modules.specs.ModuleForms.{is_export, is_item, is_import_list}
use Rattle.hs_modules.specs.declared.module.ExportTree.{ExportTree}
use Rattle.hs_modules.specs.declared.module.ExportsTree.{ExportsTree}
use Rattle.hs_modules.specs.declared.module.ItemTree.{ItemTree}
use Rattle.hs_modules.specs.declared.module.ImportList.{ImportList}
use Rattle.hs_modules.specs.declared.module.ImportList.TheVariants as l
use Rattle.hs_modules.specs.declared.module.ImpDeclTree.{ImpDeclTree}
use Rattle.hs_headers.specs.Lists.{Ts, flat}
use Rattle.hs_headers.specs.Names.{is_left_paren, goes_on}
use Rattle.hs_headers.specs.declared.imports.Imported.{Imported}

-- `export`: a type goes on with its names
abbrev pub export_form : Form Terminal ExportTree
export_form = record {
  tokens = export_tokens;
  Good = λ x. is_export x ≡ true;
  extends = λ x k. is_left_paren k;
}

-- `exports`
abbrev pub exports_form : Form Terminal ExportsTree
exports_form = record {
  tokens = exports_tokens;
  Good = λ x. all_of (map is_export x.exports) ≡ true;
  extends = λ x k. false;
}

-- `item`
abbrev pub item_form : Form Terminal ItemTree
item_form = record { tokens = item_tokens; Good = λ x. is_item x ≡ true; extends = λ x k. is_left_paren k }

-- a list of an import, with or without `hiding`
abbrev pub has_list : ImportList → Bool
has_list l.Everything = false
has_list _ = true

abbrev pub list_form : Form Terminal ImportList
list_form = record {
  tokens = import_list_tokens;
  Good = λ x. (is_import_list x ≡ true) × (has_list x ≡ true);
  extends = λ x k. false;
}

-- the part of an import that begins with the module's name: `M`, `M as N (x)`
abbrev pub alias_tokens : Option (List ℕ) → Ts
alias_tokens None = []
alias_tokens (Some name) = t.Var (codes "as") ∷ t.Con name ∷ []

abbrev pub imported_form : Form Terminal Imported
imported_form = record {
  tokens = λ x. t.Con x.modid ∷ (alias_tokens x.alias ++ import_list_tokens x.list);
  Good = λ x. is_import_list x.list ≡ true;
  extends = λ x k. goes_on k;
}

-- `impdecl`
abbrev pub import_form : Form Terminal ImpDeclTree
import_form = record {
  tokens = import_tokens;
  Good = λ x. is_import_list x.list ≡ true;
  extends = λ x k. goes_on k;
}

abbrev pub export_sort : Sort Terminal ExportTree
export_sort = flat export_form

abbrev pub exports_sort : Sort Terminal ExportsTree
exports_sort = flat exports_form

abbrev pub item_sort : Sort Terminal ItemTree
item_sort = flat item_form

abbrev pub list_sort : Sort Terminal ImportList
list_sort = flat list_form

abbrev pub imported_sort : Sort Terminal Imported
imported_sort = flat imported_form

abbrev pub import_sort : Sort Terminal ImpDeclTree
import_sort = flat import_form
