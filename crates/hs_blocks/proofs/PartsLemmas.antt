-- What stands behind a body, and what a block begins with.
use Rattle.std.proofs.Common.{◌≡◌, ◌≤◌, ℕ, true, false, List, [], length, refl, sym, ap, ◌∙◌, subst, true≢false}
use Rattle.std.specs.Prelude.{Option, Some}
use Rattle.hs_forms.specs.Reading.{begins}
use Rattle.hs_forms.specs.Limits.{Within}
use Rattle.hs_forms.specs.Answers.{Rejects}
use Rattle.hs_forms.proofs.FormLemmas.{begins_same}
use Rattle.hs_forms.proofs.LimitLemmas.{and_left, within_zero}
use Rattle.hs_tokens.specs.declared.terminal.Terminal.TheVariants as t
use Rattle.hs_trees.specs.Patterns.{Ts}
use Rattle.hs_modules.specs.declared.expressions.AltBody.{AltBody}
use Rattle.hs_modules.specs.declared.expressions.AltSlot.TheVariants as sl
use Rattle.hs_modules.specs.declared.expressions.DeclBlock.{DeclBlock}
use Rattle.hs_modules.specs.declared.expressions.RhsBody.{RhsBody}
use Rattle.hs_expression_forms.specs.Trees.{within, behind_token}
use Rattle.hs_expression_forms.specs.Expressions.{few}
use Rattle.hs_expression_forms.proofs.ListedLemmas.{few_within}
use Rattle.hs_block_forms.specs.Blocks.{alt_parts, alt_slots, is_left_brace, rhs_parts}
use Rattle.hs_block_forms.proofs.ItemLayerLemmas.{alt_places}

-- at most one `where` stands behind the body of a right side
pub rhs_short : (p : RhsBody × List DeclBlock) → rhs_parts.formed p ≡ true → length p.1 ≤ 1
rhs_short p good = few_within (Some 1) (length p.1) (and_left (few (Some 1) (length p.1)) _ good)

-- at most one `where` stands behind the body of an alternative
pub alt_short : (p : AltBody × List DeclBlock) → alt_parts.formed p ≡ true → length p.1 ≤ 1
alt_short p good = few_within (Some 1) (length p.1) (and_left (few (Some 1) (length p.1)) _ good)

-- no block begins here
pub no_brace : (limit : Option ℕ) (ts : Ts) → begins is_left_brace ts ≡ false →
    Rejects (within (behind_token t.LeftBrace alt_slots) limit) ts (length ts)
no_brace limit ts off = record {
  before = [];
  bad = ts;
  split = refl;
  left_is = refl;
  refuses = record {
    begun = (
      _,
      sl.NoAlt,
      (alt_places.none_formed, subst (Within limit) (sym alt_places.none_deep) (within_zero limit)),
      refl,
    );
    never = λ s other after same good quiet e.
        true≢false (sym (ap (begins is_left_brace) e) ∙ begins_same is_left_brace ts s same ∙ off);
  };
}
