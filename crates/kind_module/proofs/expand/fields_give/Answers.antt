use Rattle.std.proofs.Common.{Some}
use Rattle.std.proofs.lemmas.Result.{err_from_is_err_and}
use Rattle.kind_check.specs.Answers.{known_synonyms}
use Rattle.kind_env.specs.Listings.{known_kind}
use Rattle.kind_module.specs.Expanded.{field_gives, fields_give}
use Rattle.kind_module.proofs.LoopLemmas.{refused_here, one_more, at_the_end}
use Rattle.kind_module.proofs.expand.fields_give.Goals as goal

pub returns-in_err-field_gives : goal.returns-in_err-field_gives
unfolding fields_give
returns-in_err-field_gives c =
    let p = err_from_is_err_and c.from_residual.result c.from_residual.ensures.1 in
    rw (p.1, p.2) (refused_here
    (λ done x. field_gives (Some 1000) (known_kind c.args.env.now.names) (known_synonyms c.args.env.now.names)
    c.args.name.now x) c.args.fields.now c.loop-index.all c.loop-index.index c.index-fields-index.result
    c.in_err-field_gives.field-0.0 c.loop-index.invariant c.loop-index-test.true c.index-fields-index.is
    c.in_err-field_gives.ensures)

pub loop-index-preserved : goal.loop-index-preserved
loop-index-preserved c =
    one_more
    (λ done x. field_gives (Some 1000) (known_kind c.args.env.now.names) (known_synonyms c.args.env.now.names)
    c.args.name.now x) c.args.fields.now c.loop-index.all c.loop-index.index c.index-fields-index.result
    c.in_ok-field_gives.field-0 c.push.new.self c.loop-index.invariant c.loop-index-test.true c.index-fields-index.is
    c.in_ok-field_gives.ensures c.in_ok-push.ensures.ok

pub returns : goal.returns
unfolding fields_give
returns c =
    at_the_end
    (λ done x. field_gives (Some 1000) (known_kind c.args.env.now.names) (known_synonyms c.args.env.now.names)
    c.args.name.now x) c.args.fields.now c.loop-index.all c.loop-index.index c.loop-index.invariant
    c.loop-index-test.false
