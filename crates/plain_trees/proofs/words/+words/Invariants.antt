use Rattle.std.proofs.Common.{◌≡◌, List, take}
use Rattle.std.specs.Prelude.{map}
use Rattle.bp_base.specs.Texts.{Text}
use Rattle.plain_trees.specs.Plain.{HasNames}
use Rattle.plain_trees.specs.Words.{applied, words_of_aexp}
use Rattle.plain_trees.proofs.words.+words.Given as goal

abbrev pub invariant-applied_words-loop-each : goal.invariant-applied_words-loop-each
invariant-applied_words-loop-each l = (names : List Text) → HasNames l.args names
    → l.words ≡ applied l.fn.first (map (words_of_aexp names) (take l.each-index l.rest))
