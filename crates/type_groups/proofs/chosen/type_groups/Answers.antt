use Rattle.std.proofs.Common.{◌∙◌, ap, sym, subst}
use Rattle.hs_core.specs.Groups.{InRange}
use Rattle.hs_core.specs.WellTyped.{type_uses}
use Rattle.kind_check.specs.Scopes.{decls_of}
use Rattle.type_groups.proofs.UseLemmas.{uses_in_range}
use Rattle.type_groups.proofs.chosen.type_groups.Goals as goal

pub groups-requires : goal.groups-requires
groups-requires c =
    subst InRange (sym (c.in_ok-uses.ensures ∙ ap (λ ds. type_uses (decls_of ds)) c.as_slice.ensures))
    (uses_in_range (decls_of c.args.decls.now))
