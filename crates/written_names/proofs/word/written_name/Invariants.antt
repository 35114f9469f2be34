use Rattle.std.proofs.Common.{◌≡◌, drop}
use Rattle.hs_scopes.specs.Words.{word_from, word_of}
use Rattle.written_names.proofs.word.written_name.Given as goal

abbrev pub invariant-loop-i : goal.invariant-loop-i
invariant-loop-i l = word_from l.qualifier.items l.part.items (drop l.i l.text) ≡ word_of l.text
