use Rattle.std.proofs.Common.{◌∙◌, rules, ◌≡◌, ◌<◌, length, get_or}
use Rattle.haskell_layout.proofs.StepLemmas.{step_taken}
use Rattle.haskell_layout.proofs.pass.layout.Goals as goal

pub loop-index-preserved : goal.loop-index-preserved
loop-index-preserved c =
    let within : c.loop-index.index < length c.args.tokens.now = search rules in
    let is : c.token-item.result ≡ get_or c.args.tokens.now c.loop-index.index c.token-item.result = search rules in
    step_taken c.args.length c.args.tokens.now c.loop-index.index c.token-item.result c.loop-index.progress
    c.step.new.self within is c.in_ok-step.ensures
    ∙ c.loop-index.invariant
