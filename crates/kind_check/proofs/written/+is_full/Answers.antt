use Rattle.kind_check.specs.Answers.{known_synonyms}
use Rattle.kind_check.proofs.WrittenLemmas.{full_then, full_else}
use Rattle.kind_check.proofs.written.+is_full.Goals as goal

pub returns-then-front-clause-ok : goal.returns-then-front-clause-ok
returns-then-front-clause-ok t c =
    full_then (known_synonyms c.args.known.now) c.args.ty.now _ _ _ _ c.args.given _ c.in_ok-front-in-WApp.front
    c.in_ok-back-in-WApp.back c.in-WApp.is c.get.ensures c.get-in-WApp.ensures c.in_ok-fresh-in-WApp.ensures.next
    c.in_ok-front-in-WApp.ensures.ok c.in_ok-back-in-WApp.ensures.ok c.if-front.true

pub returns-else-front-clause-ok : goal.returns-else-front-clause-ok
returns-else-front-clause-ok t c =
    full_else (known_synonyms c.args.known.now) c.args.ty.now _ _ _ _ c.args.given _ c.in_ok-front-in-WApp.front
    c.in_ok-back-in-WApp.back c.in-WApp.is c.get.ensures c.get-in-WApp.ensures c.in_ok-fresh-in-WApp.ensures.next
    c.in_ok-front-in-WApp.ensures.ok c.in_ok-back-in-WApp.ensures.ok c.if-front.false
