use Rattle.std.proofs.Common.{rules, codes, ◌==◌}
use Rattle.std.specs.Cmp.Lexicographic.{pointwise}
use Rattle.std.proofs.lemmas.Iterator.Search.{any_from_yields_List}
use Rattle.std.proofs.lemmas.Iterator.Splits.{YieldsList-from_slice_split}
use borrow.Author.Tests.{tests}
use Rattle.cabal_stanzas.specs.Folder.{climbs}
use Rattle.cabal_stanzas.proofs.folder.climbs.Goals as goal

pub returns : goal.returns
unfolding climbs
returns c =
    any_from_yields_List (λ part. pointwise ◌==◌ part (codes "..")) _ _ c.any.result c.any.ensures.ran
    (YieldsList-from_slice_split _ (λ b. b == 47) c.args.item.now c.split.ensures.rest c.split.ensures.done
    c.split.ensures.closure (λ x r q k. search (rules, tests)))
    (λ x b q k. search (rules, tests))
