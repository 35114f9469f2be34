use Rattle.cabal_text.proofs.WordyLemmas.{item_next, item_shorter}
use Rattle.cabal_text.proofs.tokens.next_item.Goals as goal

pub returns-clause-item : goal.returns-clause-item
returns-clause-item c =
    item_next c.args.brackets c.args.tokens.now c.split_at.result.0.now c.split_at.result.1.now
    c.without_comma.result.now c.item_len.result c.requires
    c.item_len.ensures.value c.split_at.ensures.front c.split_at.ensures.back c.without_comma.ensures.same

pub returns-clause-shorter : goal.returns-clause-shorter
returns-clause-shorter c =
    item_shorter c.args.brackets c.args.tokens.now c.split_at.result.1.now c.without_comma.result.now c.item_len.result
    c.requires c.item_len.ensures.value
    c.split_at.ensures.back c.without_comma.ensures.same
