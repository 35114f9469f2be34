use Rattle.std.proofs.Common.{◌≡◌, map, IfOk, sym, ap, ◌∙◌, subst}
use Rattle.plain_trees.specs.Words.{Words, applied, words_of_aexp, words_of_operand}
use Rattle.plain_trees.proofs.WordLemmas.{operand-Apply}
use Rattle.plain_trees.proofs.words.+words.Goals as goal

pub operand_words-returns-in_ok-words-in-Apply : goal.operand_words-returns-in_ok-words-in-Apply
operand_words-returns-in_ok-words-in-Apply t c =
    λ names holds.
    let w = c.in_ok-words-in-Apply.ensures names holds in
    let e : words_of_operand names c.args.tree.now
    ≡ applied c.in_ok-words-in-Apply.words (map (words_of_aexp names) c.as_slice.result.now) =
    ap (words_of_operand names) c.in-Apply.is ∙ operand-Apply names c.in-Apply.first c.in-Apply.rest
    ∙ cc (w, c.as_slice.ensures) in
    subst (λ (x : Words). IfOk c.applied_words.result (λ words. words ≡ x)) (sym e)
    (c.applied_words.ensures names holds)
