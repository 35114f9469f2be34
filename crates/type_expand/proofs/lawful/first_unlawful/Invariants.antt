use Rattle.std.proofs.Common.{take}
use Rattle.kind_check.specs.Answers.{known_synonyms}
use Rattle.type_expand.specs.Lawful.{AllLawful}
use Rattle.type_expand.proofs.lawful.first_unlawful.Given as goal

abbrev pub invariant-loop-index : goal.invariant-loop-index
invariant-loop-index l = AllLawful (known_synonyms l.known) (take l.index l.known)
