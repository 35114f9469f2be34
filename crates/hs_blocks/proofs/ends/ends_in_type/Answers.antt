use Rattle.std.proofs.Common.{◌∙◌, ap, sym}
use Rattle.hs_modules.specs.Formed.{Facts, facts_of_guard}
use Rattle.hs_block_forms.proofs.BlockLayerLemmas.{bind_facts, test_facts}
use Rattle.hs_blocks.proofs.ends.ends_in_type.Goals as goal

pub returns-in-Bind : goal.returns-in-Bind
returns-in-Bind c =
    c.chain_ends_in_type.ensures
    ∙ sym (ap (λ g. (facts_of_guard g).ends_in_type) c.in-Bind.is
    ∙ ap (λ (f : Facts). f.ends_in_type) (bind_facts _ _))

pub returns-in-Test : goal.returns-in-Test
returns-in-Test c =
    c.chain_ends_in_type-in-Test.ensures
    ∙ sym (ap (λ g. (facts_of_guard g).ends_in_type) c.in-Test.is
    ∙ ap (λ (f : Facts). f.ends_in_type) (test_facts _))
