use Rattle.std.proofs.Common.{inl, inr, List, ℕ, Bool, length, sym, subst}
use Rattle.std.specs.Prelude.{IsTrue}
use Rattle.std.proofs.lemmas.Bool.{cases_eq}
use Rattle.bp_base.specs.Lists.{Among}
use Rattle.hs_core.specs.Groups.{uses_at}
use Rattle.hs_core.proofs.ReachingLemmas.{uses-below}
use Rattle.hs_core.proofs.GroupingLemmas.{used-at, false-not, true-is, still-below, last-below}
use Rattle.hs_core.proofs.group.all_in_range.Goals as goal

pub returns-then-not-are_below : goal.returns-then-not-are_below
returns-then-not-are_below c =
    let e = used-at c.args.uses.now c.loop-user.user c.index-uses-user.result c.as_slice.result.now
    c.loop-user-test.true c.index-uses-user.is c.as_slice.ensures in (
      λ t. absurd (false-not t),
      λ r. let t = c.are_below.ensures.1 (λ v a. r c.loop-user.user v (subst (λ (us : List ℕ). Among v us) e a)) in
          absurd (false-not (subst (λ (b : Bool). IsTrue b) c.if-not-are_below.true t)),
    )

pub loop-user-preserved : goal.loop-user-preserved
loop-user-preserved c = λ v w l a.
    let e = used-at c.args.uses.now c.loop-user.user c.index-uses-user.result c.as_slice.result.now
    c.loop-user-test.true c.index-uses-user.is c.as_slice.ensures in
    elim (cases_eq v c.loop-user.user) [
      | inl q ↦ c.are_below.ensures.0 (subst (λ (b : Bool). IsTrue b) (sym c.if-not-are_below.false) true-is) w
          (subst (λ (us : List ℕ). Among w us) (sym e) (subst (λ (x : ℕ). Among w (uses_at c.args.uses.now x)) q a))
      | inr n ↦ c.loop-user.invariant v w (still-below v c.loop-user.user n l) a
    ]

pub returns : goal.returns
returns c = (
  λ t v w a. c.loop-user.invariant v w (last-below v (length c.args.uses.now) c.loop-user.user
      (uses-below c.args.uses.now v w a) c.loop-user-test.false) a,
  λ r. true-is,
)
