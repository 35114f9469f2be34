use Rattle.std.proofs.Common.{◌≡◌, ◌&&◌, ap, ◌∙◌, arith}
use Rattle.std.specs.List.{flat_map}
use Rattle.std.proofs.lemmas.Grind.{common_steps}
use Rattle.mixin_link.specs.Summaries.{summaries_held, summary_equations}
use Rattle.mixin_link.proofs.LawfulLemmas.{lawful-tested}
use Rattle.mixin_link.proofs.lawful.are_lawful.Goals.{then-held, else-held}
use Rattle.mixin_link.proofs.lawful.are_lawful.Goals as goal

pub returns : goal.returns
returns c =
    let both : c.if-held.lawful ≡ c.in_ok-held.held && c.in_ok-alike.alike = elim c.if-held.branch [
      | then-held w ↦ grind (arith, common_steps)
      | else-held w ↦ grind (arith, common_steps)
    ] in
    lawful-tested c.args.summaries.now c.in_ok-equations.equations c.in_ok-held.held c.in_ok-alike.alike
    c.if-held.lawful (c.in_ok-held.ensures ∙ ap summaries_held c.as_slice.ensures)
    (c.in_ok-equations.ensures ∙ ap (flat_map summary_equations) c.as_slice-2.ensures) c.in_ok-alike.ensures both
