use Rattle.std.proofs.Common.{map, sym, ◌∙◌, rules}
use Rattle.mixin_link.specs.Opening.{first_refusal, open_in}
use Rattle.mixin_link.proofs.LinkLemmas.{open-given, lawful-given, answered}
use Rattle.mixin_link.proofs.link.link_names.Goals as goal

pub linked-requires-clause-open : goal.linked-requires-clause-open
linked-requires-clause-open c = open-given c.args.summaries.now c.in_ok-entries.entries c.in_ok-opened.opened
    c.args.component.now.signatures c.in_ok-required.required c.requires (c.in_ok-opened.ensures.1
    ∙ (λ k. map (open_in (c.as_slice.ensures k)) (c.as_slice-2.ensures k)))
    c.in_ok-required.ensures

pub linked-requires-clause-lawful : goal.linked-requires-clause-lawful
linked-requires-clause-lawful c = lawful-given c.args.summaries.now c.in_ok-entries.entries c.in_ok-opened.opened
    c.in_ok-required.required c.requires (c.in_ok-opened.ensures.1
    ∙ (λ k. map (open_in (c.as_slice.ensures k)) (c.as_slice-2.ensures k)))

pub returns : goal.returns
returns c = answered c.args.component.now c.args.summaries.now c.in_ok-entries.entries c.in_ok-opened.opened
    c.in_ok-required.required c.linked.result c.in_ok-entries.ensures
    (sym (λ k. first_refusal (c.as_slice.ensures k) (c.as_slice-2.ensures k)) ∙ c.in_ok-opened.ensures.0)
    (c.in_ok-opened.ensures.1 ∙ (λ k. map (open_in (c.as_slice.ensures k)) (c.as_slice-2.ensures k)))
    c.in_ok-required.ensures (search rules) c.linked.ensures
