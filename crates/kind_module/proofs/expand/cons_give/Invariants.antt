use Rattle.std.proofs.Common.{Some, drop}
use Rattle.bp_checks.specs.Check.{Through}
use Rattle.kind_check.specs.Answers.{known_synonyms}
use Rattle.kind_env.specs.Listings.{known_kind}
use Rattle.kind_module.specs.Expanded.{con_gives}
use Rattle.kind_module.proofs.expand.cons_give.Given as goal

abbrev pub invariant-loop-index : goal.invariant-loop-index
invariant-loop-index l = Through
    (λ done x. con_gives (Some 1000) (known_kind l.env.names) (known_synonyms l.env.names) l.name x) l.cons l.all
    (drop l.index l.cons)
