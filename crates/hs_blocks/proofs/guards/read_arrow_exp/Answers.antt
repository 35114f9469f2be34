use Rattle.std.proofs.Common.{◌∙◌, ap, sym, true≢false}
use Rattle.hs_forms.specs.Reading.{begins}
use Rattle.hs_tokens.specs.Terminals.{is_arrow}
use Rattle.hs_block_forms.proofs.BodyLemmas.{gda_missed}
use Rattle.hs_blocks.proofs.guards.read_arrow_exp.Goals as goal

pub returns-in_default : goal.returns-in_default
returns-in_default g c = λ ts next at took.
    gda_missed c.args.limit ts next at _ _ _ took
    (λ more led fits. true≢false (sym (ap (begins is_arrow) led) ∙ c.in_default.ensures fits))

pub returns : goal.returns
returns g c = λ ts next at took.
    c.arrowed_if_read.ensures c.args.limit ts next _ at took c.in-Some.ensures.0 c.in-Some.ensures.1
    c.read_exp-exp.ensures
