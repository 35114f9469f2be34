use Rattle.std.proofs.Common.{◌≡◌, drop}
use Rattle.kind_check.specs.Answers.{known_synonyms}
use Rattle.type_expand.proofs.replace.sense_of.Given as goal

abbrev pub invariant-loop-index : goal.invariant-loop-index
invariant-loop-index l = known_synonyms l.known l.name ≡ known_synonyms (drop l.index l.known) l.name
