use Rattle.std.proofs.Common.{◌∙◌}
use Rattle.hs_core.specs.Types.{kind_term}
use Rattle.kind_module.proofs.WrittenLemmas.{star_answer, no_star}
use Rattle.kind_module.proofs.written.is_star_kinded.Goals as goal

pub returns-in-Ok : goal.returns-in-Ok
returns-in-Ok c =
    star_answer c.as_slice-2.result.now c.args.env.now.names c.as_slice.result.now c.args.ty.now
    (kind_term c.in-Ok.kind) c.is_star.result c.as_slice-2.ensures (c.as_slice.ensures ∙ c.in_ok-names.ensures)
    c.in-Ok.ensures.ok c.is_star.ensures

pub returns-in-Err-NoKind : goal.returns-in-Err-NoKind
returns-in-Err-NoKind c =
    no_star c.as_slice-2.result.now c.args.env.now.names c.as_slice.result.now c.args.ty.now c.as_slice-2.ensures
    (c.as_slice.ensures ∙ c.in_ok-names.ensures) (c.in-Err-NoKind.ensures.none c.in-Err-NoKind.field-0-is)
