use Rattle.kind_check.proofs.WrittenLemmas.{kind_of_alone, no_kind_alone, full_alone, not_full_alone}
use Rattle.std.proofs.Common.{◌∙◌}
use Rattle.kind_check.proofs.written.kind_of_type.Goals as goal

pub returns-in-Ok-true-clause-ok : goal.returns-in-Ok-true-clause-ok
returns-in-Ok-true-clause-ok c = (
  kind_of_alone c.as_slice-known.result.now c.args.env.now.names c.as_slice.result.now c.args.ty.now _
      c.as_slice-known.ensures (c.as_slice.ensures ∙ c.in_ok-names.ensures) c.in-Ok.ensures.ok,
  (full_alone c.as_slice-known.result.now c.args.env.now.names c.args.ty.now _ c.as_slice-known.ensures
      c.in-Ok-true.ensures.ok).0 c.in-Ok-true.field-0-test,
)

pub returns-in-Ok-false-clause-err : goal.returns-in-Ok-false-clause-err
returns-in-Ok-false-clause-err c = (
  (
    _,
    kind_of_alone c.as_slice-known.result.now c.args.env.now.names c.as_slice.result.now c.args.ty.now _
        c.as_slice-known.ensures (c.as_slice.ensures ∙ c.in_ok-names.ensures) c.in-Ok.ensures.ok,
  ),
  not_full_alone c.as_slice-known.result.now c.args.env.now.names c.args.ty.now _ c.as_slice-known.ensures
      c.in-Ok-false.ensures.ok c.in-Ok-false.field-0-test,
)

pub returns-in-Err-NoKind-clause-err : goal.returns-in-Err-NoKind-clause-err
returns-in-Err-NoKind-clause-err c =
    no_kind_alone c.as_slice-known.result.now c.args.env.now.names c.as_slice.result.now c.args.ty.now
    c.as_slice-known.ensures (c.as_slice.ensures ∙ c.in_ok-names.ensures)
    (c.in-Err-NoKind.ensures.none c.in-Err-NoKind.field-0-is)
