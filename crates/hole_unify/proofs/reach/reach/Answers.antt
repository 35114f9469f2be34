use Rattle.std.proofs.Common.{◌≡◌, ◌<◌, ◌≤◌, length, map, false, ap, ◌∙◌, sym, subst, rules, arith}
use Rattle.std.proofs.lemmas.Grind.{common_steps}
use Rattle.std.proofs.lemmas.List.{length-map, length-replicate}
use Rattle.hole_unify.specs.Reach.{AreBelow, free}
use Rattle.hole_unify.proofs.SearchingLemmas.{rows-below, class-below, search-started, search-stepped, search-end}
use Rattle.hole_unify.proofs.SearchingLemmas.{free-none}
use Rattle.hole_unify.proofs.reach.reach.Goals as goal

pub visit_all-requires-clause-below : goal.visit_all-requires-clause-below
visit_all-requires-clause-below c = λ n a.
    let m = length-map c.args.ends.now (λ v. v.items) in
    let lt = rows-below (map (λ v. v.items) c.args.ends.now) c.args.start c.ends_at.result.now
    (length c.args.ends.now) c.requires.below (omega (arith, m, c.requires.start)) c.ends_at.ensures n a in
    let same : length c.args.marks.now ≡ length c.args.ends.now = ap length c.requires.marks
    ∙ length-replicate (length c.args.ends.now) false in
    omega (arith, lt, same)

pub classes-init : goal.classes-init
classes-init c =
    let m = length-map c.args.ends.now (λ v. v.items) in
    let same : length c.args.marks.now ≡ length c.args.ends.now = ap length c.requires.marks
    ∙ length-replicate (length c.args.ends.now) false in
    let under : AreBelow (length (map (λ v. v.items) c.args.ends.now)) (map (λ v. v.items) c.args.ends.now) =
    subst (λ k. AreBelow k (map (λ v. v.items) c.args.ends.now)) (sym m) c.requires.below in
    let f = c.in_ok-visit_all.ensures.free in
    let g : free c.args.marks.now ≡ length c.args.ends.now = ap free c.requires.marks
    ∙ free-none (length c.args.ends.now) in
    let d = ap length c.new-done.ensures.items in (
      search-started (map (λ v. v.items) c.args.ends.now) c.args.start c.ends_at.result.now c.new-done.result.items
          c.visit_all.new.done.items under (omega (arith, m, c.requires.start)) c.ends_at.ensures
          c.new-done.ensures.items c.in_ok-visit_all.ensures.done,
      c.in_ok-visit_all.ensures.marked,
      c.in_ok-visit_all.ensures.length ∙ same,
      omega (arith, f, g, d),
    )

pub ends_at-requires-in-classes : goal.ends_at-requires-in-classes
ends_at-requires-in-classes c =
    let m = length-map c.args.ends.now (λ v. v.items) in
    let lt : c.classes.next < length c.classes.done.items =
    first_of (search rules, omega (arith, c.classes-test.true, c.len.ensures), grind (arith, common_steps)) in
    let b = class-below (map (λ v. v.items) c.args.ends.now) c.args.start c.classes.done.items
    c.as_slice-reached.result.now c.classes.next c.classes.invariant.0 lt c.as_slice-reached.ensures.value in
    omega (arith, b, m)

pub visit_all-requires-in-classes-clause-below : goal.visit_all-requires-in-classes-clause-below
visit_all-requires-in-classes-clause-below c = λ n a.
    let lt : c.classes.next < length c.classes.done.items =
    first_of (search rules, omega (arith, c.classes-test.true, c.len.ensures), grind (arith, common_steps)) in
    let b = class-below (map (λ v. v.items) c.args.ends.now) c.args.start c.classes.done.items
    c.as_slice-reached.result.now c.classes.next c.classes.invariant.0 lt c.as_slice-reached.ensures.value in
    let r = rows-below (map (λ v. v.items) c.args.ends.now) _ c.ends_at-in-classes.result.now
    (length c.args.ends.now) c.requires.below b c.ends_at-in-classes.ensures n a in
    let same = c.classes.invariant.2 in
    omega (arith, r, same)

pub classes-preserved : goal.classes-preserved
classes-preserved c =
    let m = length-map c.args.ends.now (λ v. v.items) in
    let under : AreBelow (length (map (λ v. v.items) c.args.ends.now)) (map (λ v. v.items) c.args.ends.now) =
    subst (λ k. AreBelow k (map (λ v. v.items) c.args.ends.now)) (sym m) c.requires.below in
    let lt : c.classes.next < length c.classes.done.items =
    first_of (search rules, omega (arith, c.classes-test.true, c.len.ensures), grind (arith, common_steps)) in (
      search-stepped (map (λ v. v.items) c.args.ends.now) c.args.start c.classes.done.items
          c.as_slice-reached.result.now c.visit_all-in-classes.new.done.items c.classes.next
          c.ends_at-in-classes.result.now under c.classes.invariant.0 lt c.as_slice-reached.ensures.value
          c.ends_at-in-classes.ensures c.in_ok-visit_all-2.ensures.done,
      c.in_ok-visit_all-2.ensures.marked,
      c.in_ok-visit_all-2.ensures.length ∙ c.classes.invariant.2,
      c.in_ok-visit_all-2.ensures.free ∙ c.classes.invariant.3,
    )

pub returns : goal.returns
returns c =
    let le : length c.classes.done.items ≤ c.classes.next =
    first_of (search rules, omega (arith, c.classes-test.false, c.len.ensures), grind (arith, common_steps)) in
    search-end (map (λ v. v.items) c.args.ends.now) c.args.start c.classes.done.items c.classes.next
    c.classes.invariant.0 le
