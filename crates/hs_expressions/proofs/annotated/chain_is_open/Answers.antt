-- The last operand of a chain tells.
use Rattle.std.proofs.Common.{◌-◌, ◌∙◌, ap, length, sym}
use Rattle.std.specs.List.{slice_get}
use Rattle.hs_expressions.proofs.LinksLemmas.{open_at, open_alone}
use Rattle.hs_expressions.proofs.annotated.chain_is_open.Goals as goal

pub returns-in-Some : goal.returns-in-Some
returns-in-Some c =
    c.ends_open.ensures
    ∙ open_at c.args.chain.now c.in-Some.link.now
    (ap (λ l. slice_get l (length l - 1)) (sym c.as_slice.ensures) ∙ sym c.in-Some.ensures.value)

pub returns-in-None : goal.returns-in-None
returns-in-None c =
    c.ends_open-in-None.ensures
    ∙ open_alone c.args.chain.now
    (ap (λ l. slice_get l (length l - 1)) (sym c.as_slice.ensures) ∙ sym c.in-None.ensures.value)
