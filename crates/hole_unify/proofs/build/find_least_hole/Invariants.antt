use Rattle.std.proofs.Common.{◌≡◌, ℕ, ◌<◌, map, drop, length}
use Rattle.std.specs.Prelude.{Option, Some}
use Rattle.bp_base.specs.Texts.{Text}
use Rattle.hole_unify.specs.Table.{nodes_of}
use Rattle.hole_unify.specs.Reach.{least_from}
use Rattle.hole_unify.specs.Build.{number_built, class_hole, least_hole, hole_of}
use Rattle.hole_unify.proofs.build.find_least_hole.Given as goal

abbrev pub invariant-loop-number : goal.invariant-loop-number
invariant-loop-number l = record {
  least : (name : Option Text) × (number_built l.table l.best ≡ hole_of name)
      × (least_from name (map (class_hole l.class) (drop l.number (nodes_of l.table l.classes))) ≡ least_hole l.class
      (nodes_of l.table l.classes));
  below : (k : ℕ) → l.best ≡ Some k → k < length l.table;
}
