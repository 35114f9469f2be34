-- Variables and operators between commas, as chains.
use Rattle.std.proofs.Common.{◌≡◌, ℕ, true, false, List, [], ◌∷◌, refl}
use Rattle.std.specs.Prelude.{Option, None}
use Rattle.hs_forms.specs.Productions.{Chain}
use Rattle.hs_tokens.specs.Terminals.{is_comma}
use Rattle.hs_tokens.specs.declared.terminal.Terminal.{Terminal}
use Rattle.hs_tokens.specs.declared.terminal.Terminal.TheVariants as t
use Rattle.hs_trees.specs.declared.patterns.VarTree.{VarTree}
use Rattle.hs_modules.specs.declared.names.OpTree.{OpTree}
use Rattle.hs_headers.specs.Names.{var_form}
use Rattle.hs_expression_forms.proofs.ListedLemmas.{Lists, list_chain}
use Rattle.hs_declaration_forms.specs.Typings.{ops, op_form, vars}
use Rattle.hs_declaration_forms.proofs.FlatLemmas.{Flat}

pub vars_are : Lists vars (t.Comma ∷ []) is_comma
vars_are = record { starts = λ x. refl; apart = λ x k e. refl }

abbrev pub var_chain : Option ℕ → Chain Terminal (VarTree × List VarTree) VarTree VarTree
var_chain limit = list_chain vars (t.Comma ∷ []) is_comma vars_are None limit

pub ops_are : Lists ops (t.Comma ∷ []) is_comma
ops_are = record { starts = λ x. refl; apart = λ x k e. refl }

abbrev pub op_chain : Option ℕ → Chain Terminal (OpTree × List OpTree) OpTree OpTree
op_chain limit = list_chain ops (t.Comma ∷ []) is_comma ops_are None limit

pub var_flat : Flat var_form vars
var_flat = record {
  tokens = λ x. refl;
  formed = λ x g. refl;
  good = λ x e. tt;
  deep = λ x. refl;
  extends = λ x k e. refl;
}

pub op_flat : Flat op_form ops
op_flat = record {
  tokens = λ x. refl;
  formed = λ x g. g;
  good = λ x e. e;
  deep = λ x. refl;
  extends = λ x k e. refl;
}
