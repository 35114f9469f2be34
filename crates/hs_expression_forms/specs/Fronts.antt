-- What stands first between round brackets: an expression, or the chain and the operator of a left section (Haskell
-- 2010 Report, section 3.5).
use Rattle.std.specs.Prelude.{ℕ, max, Bool, true, false, not, ◌&&◌, ◌||◌, List, [], ◌∷◌, ◌++◌, length, flat_map, map}
use Rattle.std.specs.Prelude.{Some, ◌⊎◌, replicate, nat_lt}
use Rattle.std.proofs.Common.{inl, inr}
use Rattle.hs_forms.specs.Limits.{deepest, all_of}
use Rattle.hs_tokens.specs.Terminals.{is_comma}
use Rattle.hs_tokens.specs.declared.terminal.Terminal.{Terminal}
use Rattle.hs_tokens.specs.declared.terminal.Terminal.TheVariants as t
use Rattle.hs_trees.specs.Patterns.{Ts}
use Rattle.hs_modules.specs.Words.{qop_tokens, is_bare_minus}
use Rattle.hs_modules.specs.Tokens.{spelling_exp, spelling_infix}
use Rattle.hs_modules.specs.Formed.{facts_of_exp, facts_of_infix}
use Rattle.hs_modules.specs.declared.names.QOpTree.{QOpTree}
use Rattle.hs_modules.specs.declared.expressions.ExpTree.{ExpTree}
use Rattle.hs_modules.specs.declared.expressions.InfixTree.{InfixTree}
use Rattle.hs_expression_forms.specs.declared.front.Front.{Front}
use Rattle.hs_expression_forms.specs.declared.front.Front.TheVariants as fr
use Rattle.hs_expression_forms.specs.Trees.{Trees, ended, row}
use Rattle.hs_expression_forms.specs.Expressions.{is_exp, depth_of_exp, is_infix, depth_of_infix, exp_goes_on}
use Rattle.hs_expression_forms.specs.Expressions.{few, exps}
use Rattle.hs_expression_forms.specs.Expressions.{infixes}
use Rattle.hs_expression_forms.specs.Expressions.{starts_operand, starts_qop, last_part}

abbrev pub front_tokens : Front → Ts
front_tokens (fr.Exp e) = spelling_exp e
front_tokens (fr.Section x op) = spelling_infix x ++ qop_tokens op

abbrev pub front_formed : Bool → Front → Bool
front_formed lone (fr.Exp e) = is_exp e
front_formed lone (fr.Section x op) = lone && (is_infix x && not (facts_of_infix x).is_open)

abbrev pub front_deep : Front → ℕ
front_deep (fr.Exp e) = depth_of_exp e
front_deep (fr.Section x op) = depth_of_infix x

abbrev pub front_goes_on : Front → Terminal → Bool
front_goes_on (fr.Exp e) k = exp_goes_on (facts_of_exp e) k
front_goes_on (fr.Section x op) k = starts_operand k || starts_qop k

-- Expressions, and the fronts of left sections where such may stand.
abbrev pub fronts : Bool → Trees Terminal Front
fronts lone = record { tokens = front_tokens; formed = front_formed lone; deep = front_deep; extends = front_goes_on }

-- A front and the expressions behind it: no comma stands behind a section.
abbrev pub Bunch : Type 0
Bunch = Front × List ExpTree

abbrev pub is_section : Front → Bool
is_section (fr.Exp e) = false
is_section (fr.Section x op) = true

abbrev pub is_empty : {A : Type 0} → List A → Bool
is_empty [] = true
is_empty (x ∷ xs) = false

abbrev pub bunch_goes_on : Bunch → Terminal → Bool
bunch_goes_on (h, []) k = front_goes_on h k
bunch_goes_on (h, x ∷ xs) k = exps.extends (last_part x xs) k

-- What stands between round brackets: up to 15 expressions, or a left section.
abbrev pub bunches : Trees Terminal Bunch
bunches = record {
  tokens = λ p. front_tokens p.0 ++ flat_map (λ x. t.Comma ∷ spelling_exp x) p.1;
  formed = λ p. (few (Some 14) (length p.1) && (not (is_section p.0) || is_empty p.1))
      && (front_formed true p.0 && all_of (map is_exp p.1));
  deep = λ p. max (front_deep p.0) (deepest (map depth_of_exp p.1));
  extends = λ p k. is_comma k || bunch_goes_on p k;
}

-- what a bunch is: expressions, or a left section
abbrev pub Inside : Type 0
Inside = (ExpTree × List ExpTree) ⊎ (InfixTree × QOpTree)

abbrev pub bunch_of : Inside → Bunch
bunch_of (inl p) = (fr.Exp p.0, p.1)
bunch_of (inr p) = (fr.Section p.0 p.1, [])

-- what stands between round brackets, with the closing one
abbrev pub insides : Trees Terminal Inside
insides = record {
  tokens = λ i. bunches.tokens (bunch_of i) ++ t.RightParen ∷ [];
  formed = λ i. bunches.formed (bunch_of i);
  deep = λ i. bunches.deep (bunch_of i);
  extends = λ i k. false;
}

-- the operators of right sections
abbrev pub section_ops : Trees Terminal QOpTree
section_ops = record {
  tokens = qop_tokens;
  formed = λ op. not (is_bare_minus op);
  deep = λ op. 0;
  extends = λ op k. false;
}

-- `qop infix ")"`
abbrev pub right_sections : Trees Terminal (QOpTree × InfixTree)
right_sections = row section_ops (ended infixes t.RightParen)

-- trees that are their tokens
abbrev pub fixed : {N : Type 0} → (N → Ts) → Trees Terminal N
fixed tokens = record { tokens = tokens; formed = λ n. true; deep = λ n. 0; extends = λ n k. false }

-- the name of the unit or of a tuple behind its `(`
abbrev pub tuple_names : Trees Terminal ℕ
tuple_names = record {
  tokens = λ n. replicate n t.Comma ++ t.RightParen ∷ [];
  formed = λ n. nat_lt n 15;
  deep = λ n. 0;
  extends = λ n k. false;
}
