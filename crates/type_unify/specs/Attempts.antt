-- What an attempt to unify two types does to the table and the entries.
use Rattle.std.specs.Prelude.{ℕ, List}
use Rattle.type_unify.specs.Types.{Plain}
use Rattle.type_unify.specs.declared.cell.Cell.{Cell}
use Rattle.type_unify.specs.Cells.{bounds, IsTable}
use Rattle.type_unify.specs.Unified.{IsUnified}

pub record Attempted (old new : List Cell) (before after : List (ℕ × ℕ)) (s t : Plain) : Type 0 where
  pub stands : IsTable new after
  pub unified : IsUnified (bounds old before) (bounds new after) s t
