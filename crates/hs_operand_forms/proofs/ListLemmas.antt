-- Lists of expressions as chains.
use Rattle.std.proofs.Common.{ℕ, [], ◌∷◌, List, refl}
use Rattle.std.specs.Prelude.{Option, None}
use Rattle.hs_forms.specs.Productions.{Chain}
use Rattle.hs_tokens.specs.Terminals.{is_comma}
use Rattle.hs_tokens.specs.declared.terminal.Terminal.{Terminal}
use Rattle.hs_tokens.specs.declared.terminal.Terminal.TheVariants as t
use Rattle.hs_modules.specs.declared.expressions.AExpTree.{AExpTree}
use Rattle.hs_modules.specs.declared.expressions.ExpTree.{ExpTree}
use Rattle.hs_expression_forms.specs.Expressions.{aexps, exps, starts_aexp}
use Rattle.hs_expression_forms.proofs.AExpLayerLemmas.{aexp_starts}
use Rattle.hs_expression_forms.proofs.BunchLemmas.{exp_lists}
use Rattle.hs_expression_forms.proofs.ListedLemmas.{Lists, list_chain}

pub aexp_lists : Lists aexps [] starts_aexp
aexp_lists = record { starts = aexp_starts; apart = λ x k e. refl }

abbrev pub parts_chain : Option ℕ → Chain Terminal (ExpTree × List ExpTree) ExpTree ExpTree
parts_chain limit = list_chain exps (t.Comma ∷ []) is_comma exp_lists None limit

abbrev pub arguments_chain : Option ℕ → Chain Terminal (AExpTree × List AExpTree) AExpTree AExpTree
arguments_chain limit = list_chain aexps [] starts_aexp aexp_lists None limit
