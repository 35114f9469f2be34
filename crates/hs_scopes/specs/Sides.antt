-- Which of two operators takes the operand between them (Haskell 2010 Report, section 10.6).
use Rattle.std.specs.Prelude.{Option, Some, None, nat_lt, if◌then◌else◌}
use Rattle.bp_base.specs.declared.entity.Assoc.{Assoc}
use Rattle.bp_base.specs.declared.entity.Assoc.TheVariants as a
use Rattle.bp_base.specs.declared.entity.Fixity.{Fixity}

pub data Side : Type 0 where
  Left : Side
  Right : Side
  Neither : Side

abbrev pub side_at_level : Assoc → Assoc → Side
side_at_level a.Left a.Left = Side.Left
side_at_level a.Right a.Right = Side.Right
side_at_level _ _ = Side.Neither

-- the one that binds tighter, or the one to which both group
abbrev pub side_of : Fixity → Fixity → Side
side_of left right = if nat_lt right.level left.level then Side.Left else
    (if nat_lt left.level right.level then Side.Right else side_at_level left.assoc right.assoc)

abbrev pub side_in : Option Fixity → Fixity → Side
side_in None right = Side.Right
side_in (Some left) right = side_of left right

-- `-` before an operand
abbrev pub minus : Fixity
minus = record { assoc = a.Left; level = 6 }
