use Rattle.std.proofs.Common.{ap, ◌∙◌}
use Rattle.std.specs.Prelude.{unwrap_or}
use Rattle.bp_base.specs.declared.ident.Ident.TheVariants.{Hole}
use Rattle.unit_identity.specs.Fill.{at_hole, found}
use Rattle.mixin_link.specs.Tables.{ident_in}
use Rattle.mixin_link.proofs.WrittenLemmas.{same-linking}
use Rattle.mixin_link.proofs.written.linking_under.Goals as goal

pub returns : goal.returns
returns c = c.in_ok-linking.ensures ∙ same-linking (ident_in c.in_ok-table.table) (λ n. at_hole n c.args.fills.now)
    c.args.required.now c.args.includes.now
    (λ n. ap (λ o. unwrap_or o (Hole n)) (c.in_ok-table.ensures n ∙ ap (found n) c.as_slice.ensures))
