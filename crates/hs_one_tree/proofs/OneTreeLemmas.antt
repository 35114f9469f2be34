-- At most one expression, and one declaration of a block, has given tokens.
use Rattle.std.proofs.Common.{◌≡◌, ℕ, zero, suc, List, [], ◌++◌, length, refl, sym, ap, ◌∙◌, arith}
use Rattle.std.proofs.Common.{le_refl}
use Rattle.std.specs.Prelude.{None}
use Rattle.hs_forms.specs.Whole.{Spells}
use Rattle.hs_forms.proofs.WholeChainLemmas.{begins_length}
use Rattle.hs_trees.specs.Patterns.{Ts}
use Rattle.hs_modules.specs.Tokens.{spelling_operand, spelling_exp, spelling_decl}
use Rattle.hs_modules.specs.declared.expressions.ExpTree.{ExpTree}
use Rattle.hs_modules.specs.declared.expressions.DeclTree.{DeclTree}
use Rattle.hs_expression_forms.specs.Trees.{Trees, within}
use Rattle.hs_expression_forms.specs.Expressions.{operands, exps, decl_blocks, alt_blocks, starts_operand}
use Rattle.hs_expression_forms.proofs.OperandLemmas.{operand_starts}
use Rattle.hs_block_forms.proofs.ItemLayerLemmas.{block_embeds}
use Rattle.hs_binding_forms.specs.Bindings.{decls}
use Rattle.hs_one_tree.specs.Found.{Found, Upto}
use Rattle.hs_one_tree.proofs.LinkFoundLemmas.{infixes_found, exps_found, bunches_found}
use Rattle.hs_one_tree.proofs.OperandFoundLemmas.{operands_found}
use Rattle.hs_one_tree.proofs.BlockFoundLemmas.{rhss_found, alt_blocks_found}
use Rattle.hs_one_tree.proofs.DeclFoundLemmas.{decls_found, decl_blocks_found, block_some}

-- operands and blocks of at most so many tokens
record Nested (n : ℕ) : Type 0 where
  pub operands : Upto operands n
  pub decl_blocks : Upto decl_blocks n
  pub alt_blocks : Upto alt_blocks n

nested : (n : ℕ) → Nested n
nested zero = record {
  operands = λ x short. absurd (let some = begins_length starts_operand (spelling_operand x) (operand_starts x) in
      omega (arith, short));
  decl_blocks = λ x short. absurd (let some = block_some x in omega (arith, short));
  alt_blocks = λ x short. absurd (let spelled = ap length (block_embeds.tokens x) in omega (arith, short));
}
nested (suc n) =
    let below = nested n in
    let e = exps_found n below.operands in
    let i = infixes_found n below.operands in
    record {
      operands = operands_found n e i (bunches_found n below.operands) below.decl_blocks below.alt_blocks;
      decl_blocks = decl_blocks_found n (rhss_found n e i below.decl_blocks);
      alt_blocks = alt_blocks_found n e i below.decl_blocks;
    }

-- each expression is found
pub exp_found : (x : ExpTree) → Found exps x
exp_found x = exps_found (length (spelling_exp x)) (nested (length (spelling_exp x))).operands x (le_refl _)

-- each declaration of a block is found
pub decl_found : (x : DeclTree) → Found decls x
decl_found x =
    let n = length (spelling_decl x) in
    let below = nested n in
    decls_found n (rhss_found n (exps_found n below.operands) (infixes_found n below.operands) below.decl_blocks) x
    (le_refl _)

-- of trees that are found, at most one has given tokens
pub one_found : {K T : Type 0} (a : Trees K T) → ((x : T) → Found a x) → (ts : List K) (x y : T) →
    Spells (within a None) x ts → Spells (within a None) y ts → y ≡ x
one_found a all ts x y one two =
    ((all x one.1.0 [] refl).reads.only [] y [] refl two.1 refl (ap (λ l. l ++ []) (sym one.0 ∙ two.0))).0

-- at most one expression has given tokens
pub one_exp : (ts : Ts) (x y : ExpTree) → Spells (within exps None) x ts → Spells (within exps None) y ts → y ≡ x
one_exp = one_found exps exp_found

-- at most one declaration of a block has given tokens
pub one_decl : (ts : Ts) (x y : DeclTree) → Spells (within decls None) x ts → Spells (within decls None) y ts → y ≡ x
one_decl = one_found decls decl_found
