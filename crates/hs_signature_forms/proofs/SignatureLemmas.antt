-- Blocks of signatures, and signatures.
use Rattle.std.proofs.Common.{◌≡◌, ℕ, Bool, true, false, List, [], ◌∷◌, ◌++◌, length, refl, sym, ap, ◌∙◌, arith, subst}
use Rattle.std.proofs.Common.{true≢false}
use Rattle.std.specs.Prelude.{max, codes, Option, ◌&&◌}
use Rattle.hs_forms.specs.Reading.{begins, SameStart}
use Rattle.hs_forms.specs.Answers.{Accepts, Rejects, Fails}
use Rattle.hs_forms.specs.declared.fault.Fault.{Fault}
use Rattle.hs_forms.proofs.FormLemmas.{begins_same}
use Rattle.hs_tokens.specs.declared.terminal.Terminal.{Terminal}
use Rattle.hs_tokens.specs.declared.terminal.Terminal.TheVariants as t
use Rattle.hs_tokens.specs.declared.word.Word.TheVariants as w
use Rattle.hs_trees.specs.Patterns.{Ts}
use Rattle.hs_modules.specs.Modules.{depth_of_module}
use Rattle.hs_modules.specs.ModuleTokens.{module_tokens}
use Rattle.hs_modules.specs.ModuleForms.{is_signature, sig_form}
use Rattle.hs_modules.specs.declared.declarations.SigBlock.{SigBlock}
use Rattle.hs_modules.specs.declared.declarations.SigSlot.TheVariants as v
use Rattle.hs_modules.specs.declared.module.Module.{Module}
use Rattle.hs_modules.specs.declared.module.Module.TheVariants as m
use Rattle.hs_headers.specs.Heads.{signature_head_form}
use Rattle.hs_headers.proofs.TurnLemmas.{stuck}
use Rattle.hs_forms.proofs.LimitLemmas.{within_zero}
use Rattle.hs_signature_forms.specs.declared.parts.SigPart.TheVariants as p
use Rattle.hs_expression_forms.specs.Trees.{Trees, Took, Failed, Follows, row, within, behind_token}
use Rattle.hs_expression_forms.proofs.TreesLemmas.{row_took, row_first, row_second, Stays}
use Rattle.hs_block_forms.specs.Blocks.{is_left_brace}
use Rattle.hs_declaration_forms.proofs.FlatLemmas.{Flat, flat_took, flat_failed}
use Rattle.hs_declaration_forms.proofs.MergeLemmas.{Joins, joined_took, joined_failed}
use Rattle.hs_signature_forms.specs.Signatures.{sig_blocks, PartList, block_of, parts}
use Rattle.hs_signature_forms.proofs.PartChainLemmas.{shut_lists}
use Rattle.hs_signature_forms.proofs.FlattenLemmas.{block_joins}

abbrev any : Ts → Bool
any ts = true

any_stays : (ts : Ts) → Stays any ts
any_stays ts before bad s split same = refl

-- a block of places, of what was read as parts
module _ (limit : Option ℕ) (ts : Ts) where
  pub block_took : (l : PartList) (rest : Ts) (d : ℕ) → Took shut_lists limit ts l rest d →
      Took sig_blocks limit ts (block_of l) rest d
  block_took l rest d acc = joined_took sig_blocks shut_lists block_of any block_joins limit ts l rest d acc

  pub block_failed : (e : Fault) → Failed shut_lists limit ts e → Failed sig_blocks limit ts e
  block_failed e r = joined_failed sig_blocks shut_lists block_of any block_joins limit ts e (any_stays ts) r

-- a least block
abbrev least_block : SigBlock
least_block = record { first = v.Empty; rest = [] }

-- heads and signatures
heads : Trees Terminal (List ℕ)
heads = record {
  tokens = signature_head_form.tokens;
  formed = λ name. true;
  deep = λ name. 0;
  extends = λ name k. false;
}

head_flat : Flat signature_head_form heads
unfolding heads
head_flat = record {
  tokens = λ x. refl;
  formed = λ x g. refl;
  good = λ x e. tt;
  deep = λ x. refl;
  extends = λ x k e. refl;
}

block_follows : Follows heads sig_blocks is_left_brace
unfolding heads
block_follows = record {
  starts = λ b. refl;
  apart = λ x k h. refl;
  least = least_block;
  least_formed = refl;
  least_deep = refl;
}

sigs : Trees Terminal Module
sigs = record {
  tokens = module_tokens;
  formed = is_signature;
  deep = depth_of_module;
  extends = λ x k. false;
}

abbrev make : List ℕ × SigBlock → Module
make x = m.Signature x.0 x.1

sig_joins : Joins sigs (row heads sig_blocks) make any
unfolding heads sigs
sig_joins = record {
  tokens = λ x. refl;
  formed = λ x g. g;
  deep = λ x. omega arith;
  extends = λ x k e. refl;
  starts = λ x after g. refl;
  only = only;
}
  where
    only : (x : Module) (after : Ts) → is_signature x ≡ true → begins (λ k. false) after ≡ false → true ≡ true →
        (y : List ℕ × SigBlock) × (x ≡ make y) × ((row heads sig_blocks).formed y ≡ true)
    only (m.Headless b) after g q e = absurd (true≢false (sym g))
    only (m.Named n b) after g q e = absurd (true≢false (sym g))
    only (m.Exporting n x b) after g q e = absurd (true≢false (sym g))
    only (m.Signature n b) after g q e = ((n, b), refl, g)

module _ (limit : Option ℕ) (ts : Ts) where
  pub sig_head_failed : (e : Fault) → Fails signature_head_form ts e → Fails (sig_form limit) ts e
  unfolding sigs
  sig_head_failed e r =
      joined_failed sigs (row heads sig_blocks) make any sig_joins limit ts e (any_stays ts)
      (row_first heads sig_blocks is_left_brace block_follows limit ts e
      (flat_failed signature_head_form heads head_flat limit ts e r))

  module _ (name : List ℕ) (here : Ts) (d : ℕ) (acc : Accepts signature_head_form (λ x. 0) ts name here d) where
    pub sig_block_failed : (e : Fault) → Failed sig_blocks limit here e → Fails (sig_form limit) ts e
    unfolding sigs
    sig_block_failed e r =
        joined_failed sigs (row heads sig_blocks) make any sig_joins limit ts e (any_stays ts)
        (row_second heads sig_blocks is_left_brace block_follows limit ts name here d e
        (flat_took signature_head_form heads head_flat limit ts name here d acc) r)

    pub sig_took : (b : SigBlock) (rest : Ts) (n : ℕ) → Took sig_blocks limit here b rest n →
        Accepts (sig_form limit) depth_of_module ts (m.Signature name b) rest n
    unfolding sigs
    sig_took b rest n q =
        let same : max d n ≡ n = omega (arith, acc.measured_is) in
        subst (Accepts (sig_form limit) depth_of_module ts (m.Signature name b) rest) same
        (joined_took sigs (row heads sig_blocks) make any sig_joins limit ts (name, b) rest (max d n)
        (row_took heads sig_blocks is_left_brace block_follows limit ts name here d b rest n
        (flat_took signature_head_form heads head_flat limit ts name here d acc) q))

-- no block stands here
pub no_block : (limit : Option ℕ) (ts : Ts) → begins is_left_brace ts ≡ false →
    Rejects (within (behind_token t.LeftBrace parts) limit) ts (length ts)
no_block limit ts off =
    stuck (within (behind_token t.LeftBrace parts) limit) is_left_brace ts [] ts (t.LeftBrace ∷ []) p.Empty
    (refl, within_zero limit) refl (λ x s after good quiet e. ap (begins is_left_brace) e) refl off
