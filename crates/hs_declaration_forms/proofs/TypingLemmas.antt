-- The returns of the reader of variables and their type, over plain variables.
use Rattle.std.proofs.Common.{◌≡◌, ℕ, Bool, true, false, List, [], ◌∷◌, ◌++◌, length, refl, sym, ap, ◌∙◌, subst, arith}
use Rattle.std.proofs.Common.{true≢false}
use Rattle.std.specs.Prelude.{not, max, ◌||◌, Option, Some, None}
use Rattle.hs_forms.specs.Reading.{begins}
use Rattle.hs_forms.specs.Limits.{Within}
use Rattle.hs_forms.specs.Answers.{Rejects}
use Rattle.hs_forms.specs.declared.fault.Fault.{Fault}
use Rattle.hs_forms.specs.declared.fault.Fault.TheVariants.{At}
use Rattle.hs_tokens.specs.Terminals.{is_arrow}
use Rattle.hs_tokens.specs.declared.terminal.Terminal.{Terminal}
use Rattle.hs_tokens.specs.declared.terminal.Terminal.TheVariants as t
use Rattle.hs_trees.specs.Types.{starts_atype, type_form, is_type, depth_of_type}
use Rattle.hs_trees.specs.Patterns.{Ts}
use Rattle.hs_trees.specs.declared.patterns.VarTree.{VarTree}
use Rattle.hs_trees.specs.declared.types.TypeTree.{TypeTree}
use Rattle.hs_trees.specs.declared.types.ATypeTree.TheVariants as a
use Rattle.hs_trees.proofs.TypeCaseLemmas.{con_read}
use Rattle.hs_trees.proofs.TypeChainLemmas.{make_type, make_btype, type_first, btype_first}
use Rattle.hs_trees.proofs.TypeLayerLemmas.{type_starts}
use Rattle.hs_declarations.specs.Declarations.{is_double_colon}
use Rattle.hs_expression_forms.specs.Trees.{Took, Failed, ended, Follows, within}
use Rattle.hs_expression_forms.specs.Expressions.{types}
use Rattle.hs_expression_forms.proofs.TreesLemmas.{ended_took, ended_failed, ended_missed, row_took, row_first}
use Rattle.hs_expression_forms.proofs.TreesLemmas.{row_second}
use Rattle.hs_block_forms.specs.Combined.{narrowed}
use Rattle.hs_block_forms.specs.Blocks.{ends_item}
use Rattle.hs_block_forms.proofs.CombinedLemmas.{narrowed_took, narrowed_failed}
use Rattle.hs_declaration_forms.specs.Typings.{typings, var_lists}
use Rattle.hs_declaration_forms.proofs.FlatLemmas.{none_deep}
use Rattle.hs_declaration_forms.proofs.DeclLayerLemmas.{VarParts}

-- a least type
abbrev pub least_type : TypeTree
least_type = make_type (make_btype (a.Con []) []) []

pub least_type_good : (limit : Option ℕ) → (type_form limit).Good least_type
least_type_good limit =
    type_first limit (make_btype (a.Con []) []) (btype_first limit (a.Con []) (con_read limit [] []).good)

pub least_type_deep : depth_of_type least_type ≡ 0
least_type_deep =
    let d : Within (Some 0) (depth_of_type least_type) = (least_type_good (Some 0)).1 in omega (arith, d)

pub types_quiet : (x : TypeTree) (k : Terminal) → ends_item k ≡ true → types.extends x k ≡ false
types_quiet x t.Semicolon h = refl
types_quiet x t.RightBrace h = refl
types_quiet x _ h = absurd (true≢false (sym h))

colon_ends : (p : VarParts) → var_lists.extends p t.DoubleColon ≡ false
colon_ends p = refl

follows : Follows (ended var_lists t.DoubleColon) (narrowed types ends_item) starts_atype
follows = record {
  starts = type_starts;
  apart = λ x k h. refl;
  least = least_type;
  least_formed = (least_type_good None).0;
  least_deep = least_type_deep;
}

module _ (limit : Option ℕ) (ts : Ts) where
  vars_first : (e : Fault) → Failed (ended var_lists t.DoubleColon) limit ts e → Failed typings limit ts e
  vars_first e r =
      row_first (ended var_lists t.DoubleColon) (narrowed types ends_item) starts_atype follows limit ts e r

  pub vars_failed : (e : Fault) → Failed var_lists limit ts e → Failed typings limit ts e
  vars_failed e r = vars_first e (ended_failed var_lists limit t.DoubleColon colon_ends ts e r)

  module _ (p : VarParts) (here : Ts) (m : ℕ) (acc : Took var_lists limit ts p here m) where
    pub typing_missed : begins is_double_colon here ≡ false → Rejects (within typings limit) ts (length here)
    typing_missed missed =
        vars_first (At (length here))
        (ended_missed var_lists limit t.DoubleColon colon_ends is_double_colon refl ts p here m acc missed)

    module _ (next : Ts) (at : here ≡ t.DoubleColon ∷ next) where
      pub typing_failed : (e : Fault) → Failed types limit next e → Failed typings limit ts e
      typing_failed e r =
          row_second (ended var_lists t.DoubleColon) (narrowed types ends_item) starts_atype follows limit ts p next m
          e (ended_took var_lists limit t.DoubleColon colon_ends ts p here next m acc at)
          (narrowed_failed types ends_item types_quiet limit next e r)

      pub typing_took : (y : TypeTree) (rest : Ts) (n : ℕ) → Took types limit next y rest n →
          Took typings limit ts (p, y) rest n
      typing_took y rest n q =
          let same : max m n ≡ n = omega (arith, acc.measured_is, none_deep p.1) in
          subst (Took typings limit ts (p, y) rest) same
          (row_took (ended var_lists t.DoubleColon) (narrowed types ends_item) starts_atype follows limit ts p next m
          y rest n (ended_took var_lists limit t.DoubleColon colon_ends ts p here next m acc at)
          (narrowed_took types ends_item types_quiet limit next y rest n q))
