use Rattle.std.proofs.Common.{◌≡◌, inl, inr, ◌∷◌, [], List, ℕ, ◌<◌, get_or, take, subst, arith}
use Rattle.std.proofs.lemmas.List.{take_more, take_all}
use Rattle.bp_base.specs.Lists.{Among}
use Rattle.bp_base.proofs.SetLemmas.{among-either}
use Rattle.hs_core.specs.Walking.{AreBelow}
use Rattle.hs_core.proofs.ReachingLemmas.{among-one}
use Rattle.hs_core.proofs.GroupingLemmas.{among-at, false-not, true-is}
use Rattle.hs_core.proofs.group.are_below.Goals as goal

pub returns-then-index-count : goal.returns-then-index-count
returns-then-index-count c = (
  λ t. absurd (false-not t),
  λ b. let l : get_or c.args.indices.now c.loop-index.index-index 0 < c.args.count =
      b (get_or c.args.indices.now c.loop-index.index-index 0)
      (among-at c.args.indices.now c.loop-index.index-index c.loop-index-test.true) in
      absurd (omega (arith, l, c.if-index-count.true)),
)

pub loop-index-preserved : goal.loop-index-preserved
loop-index-preserved c = λ v a.
    elim (among-either v (take c.loop-index.index-index c.args.indices.now)
    (get_or c.args.indices.now c.loop-index.index-index 0 ∷ [])
    (subst (λ (ys : List ℕ). Among v ys) (take_more c.args.indices.now c.loop-index.index-index 0
    c.loop-index-test.true) a)) [
      | inl h ↦ c.loop-index.invariant v h
      | inr h ↦ (let e : get_or c.args.indices.now c.loop-index.index-index 0 ≡ v =
          among-one v (get_or c.args.indices.now c.loop-index.index-index 0) h in
          subst (λ (x : ℕ). x < c.args.count) e c.if-index-count.false)
    ]

pub returns : goal.returns
returns c = (
  λ t. subst (λ (ys : List ℕ). AreBelow c.args.count ys)
      (take_all c.loop-index.index-index c.args.indices.now c.loop-index-test.false) c.loop-index.invariant,
  λ b. true-is,
)
