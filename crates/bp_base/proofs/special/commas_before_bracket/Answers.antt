use Rattle.std.proofs.Common.{sym, ap, ◌∙◌, [], ◌∷◌}
use Rattle.std.specs.Str.{bytes_eq}
use Rattle.bp_base.proofs.TextLemmas.{other_texts}
use Rattle.bp_base.proofs.CommaLemmas.{commas_end}
use Rattle.bp_base.proofs.special.commas_before_bracket.Goals as goal

pub returns-else-eq : goal.returns-else-eq
returns-else-eq c = λ n e. commas_end c.commas.commas n c.commas.rest.now c.in_default.ensures
    (other_texts c.commas.rest.now (41 ∷ []) (sym (c.if-eq.ensures
    ∙ ap (bytes_eq c.commas.rest.now) c.as_slice.ensures))) (sym c.commas.invariant ∙ e)
