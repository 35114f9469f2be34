use Rattle.std.proofs.Common.{refl, sym, ap, subst, ◌∙◌, true≢false}
use Rattle.std.specs.Prelude.{IfSome, IfNone, None, ◌≡◌}
use Rattle.std.proofs.lemmas.List.{drop_more}
use Rattle.kind_check.specs.Answers.{sense_synonym, HasParams}
use Rattle.kind_check.proofs.WrittenLemmas.{synonyms_here, synonyms_past}
use Rattle.kind_check.proofs.written.params_of.Goals as goal

pub returns-then-same_orig_name-clause-some : goal.returns-then-same_orig_name-clause-some
returns-then-same_orig_name-clause-some c =
    let i = c.index-known-index.is in
    subst (λ x. IfSome c.params_of_sense.result (λ p. HasParams x p))
    (sym (c.loop-index.invariant ∙ synonyms_here c.args.name.now _ _ _
    (drop_more c.args.known.now c.loop-index.index c.index-known-index.result c.loop-index-test.true)
    (sym (ap (λ x. x.name) i) ∙ c.if-same_orig_name.ensures.0 refl)
    ∙ ap (λ x. sense_synonym x.sense) (sym i))) c.params_of_sense.ensures.some

pub returns-then-same_orig_name-clause-none : goal.returns-then-same_orig_name-clause-none
returns-then-same_orig_name-clause-none c =
    let i = c.index-known-index.is in
    subst (λ x. IfNone c.params_of_sense.result (x ≡ None))
    (sym (c.loop-index.invariant ∙ synonyms_here c.args.name.now _ _ _
    (drop_more c.args.known.now c.loop-index.index c.index-known-index.result c.loop-index-test.true)
    (sym (ap (λ x. x.name) i) ∙ c.if-same_orig_name.ensures.0 refl)
    ∙ ap (λ x. sense_synonym x.sense) (sym i))) c.params_of_sense.ensures.none

pub loop-index-preserved : goal.loop-index-preserved
loop-index-preserved c =
    c.loop-index.invariant ∙ synonyms_past c.args.name.now _ _ _
    (drop_more c.args.known.now c.loop-index.index c.index-known-index.result c.loop-index-test.true)
    (λ e. true≢false (sym (c.if-same_orig_name.ensures.1 (ap (λ x. x.name) c.index-known-index.is ∙ e))))
