use Rattle.std.proofs.Common.{sym, ◌∙◌}
use Rattle.plain_check.proofs.TypeLemmas.{typed_fits, fits_typed}
use Rattle.plain_check.proofs.typing.is_typed.Goals as goal

pub returns : goal.returns
returns c =
    λ bindings h.
    let e = c.fits.ensures bindings h in
    (λ t. fits_typed bindings c.args.binding.now (sym e ∙ t), λ t. e ∙ typed_fits bindings c.args.binding.now t)
