use Rattle.std.proofs.Common.{List, ℕ, ◌∙◌, subst}
use Rattle.std.proofs.lemmas.List.Filters.{dedup_is}
use Rattle.std.specs.List.Sorted.{IsPermutation}
use Rattle.std.proofs.Math.Dec.{eqb}
use Rattle.hs_core.proofs.GroupingLemmas.{rises}
use Rattle.hs_core.proofs.group.rising.Goals as goal

pub returns : goal.returns
returns c = rises c.args.numbers.now c.sort.new.self.items c.from_vec.result
    (subst (λ (xs : List ℕ). IsPermutation xs c.sort.new.self.items) c.in_ok-sorted.ensures.items
    c.in_ok-sort.ensures.permutation)
    c.in_ok-sort.ensures.sorted
    (c.from_vec.ensures ∙ dedup_is eqb c.sort.new.self.items c.dedup.new.self.items c.dedup.ensures.filtered)
