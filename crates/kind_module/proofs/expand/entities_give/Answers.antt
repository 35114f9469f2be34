use Rattle.std.proofs.Common.{Some}
use Rattle.std.proofs.lemmas.Result.{err_from_is_err_and}
use Rattle.kind_check.specs.Answers.{known_synonyms}
use Rattle.kind_env.specs.Listings.{known_kind}
use Rattle.kind_module.specs.Expanded.{entity_gives, entities_give}
use Rattle.kind_module.proofs.LoopLemmas.{refused_here, one_more, at_the_end}
use Rattle.kind_module.proofs.expand.entities_give.Goals as goal

pub returns-in_err-entity_gives : goal.returns-in_err-entity_gives
unfolding entities_give
returns-in_err-entity_gives c =
    let p = err_from_is_err_and c.from_residual.result c.from_residual.ensures.1 in
    rw (p.1, p.2) (refused_here
    (λ done x. entity_gives (Some 1000) (known_kind c.args.env.now.names) (known_synonyms c.args.env.now.names) x)
    c.args.entities.now c.loop-index.all c.loop-index.index c.index-entities-index.result
    c.in_err-entity_gives.field-0.0 c.loop-index.invariant c.loop-index-test.true c.index-entities-index.is
    c.in_err-entity_gives.ensures)

pub loop-index-preserved : goal.loop-index-preserved
loop-index-preserved c =
    one_more
    (λ done x. entity_gives (Some 1000) (known_kind c.args.env.now.names) (known_synonyms c.args.env.now.names) x)
    c.args.entities.now c.loop-index.all c.loop-index.index c.index-entities-index.result
    c.in_ok-entity_gives.field-0 c.push.new.self c.loop-index.invariant c.loop-index-test.true c.index-entities-index.is
    c.in_ok-entity_gives.ensures c.in_ok-push.ensures.ok

pub returns : goal.returns
unfolding entities_give
returns c =
    at_the_end
    (λ done x. entity_gives (Some 1000) (known_kind c.args.env.now.names) (known_synonyms c.args.env.now.names) x)
    c.args.entities.now c.loop-index.all c.loop-index.index c.loop-index.invariant
    c.loop-index-test.false
