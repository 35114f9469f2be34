use Rattle.std.proofs.Common.{◌&&◌, ap, ◌∙◌}
use Rattle.std.specs.HashSet.{contains}
use Rattle.std.specs.Str.{bytes_eq}
use Rattle.bp_base.specs.Lists.{is_among}
use Rattle.cabal_lawful.specs.Tested.{are_apart, are_lawful_entries}
use Rattle.cabal_lawful.proofs.TestedLemmas.{lawful-tested}
use Rattle.cabal_lawful.proofs.lawful.is_lawful.Goals as goal

pub returns : goal.returns
returns c =
    let own = c.in_ok-own_apart.ensures ∙ ap are_apart c.in_ok-own.ensures in
    let entries = c.in_ok-entries.ensures ∙ ap (are_lawful_entries (contains bytes_eq c.in_ok-deps.deps))
    c.as_slice-2.ensures in
    lawful-tested c.args.component.now (contains bytes_eq c.in_ok-deps.deps) c.all_of-lawful.result
    (λ q. c.in_ok-deps.ensures q ∙ ap (is_among q) c.as_slice.ensures)
    (c.all_of-lawful.ensures ∙ (λ w. own w && (c.in_ok-deps_apart.ensures w && (entries w && c.has_form.ensures w))))
