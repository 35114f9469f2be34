-- Limits of what a project may have: each is a number, or there is none.
use Rattle.std.specs.Prelude.{◌≡◌, ◌≤◌, ◌<◌, ℕ, Option, Some, None}
use Rattle.bp_checks.specs.Check.{Check, given}
use Rattle.bp_checks.specs.Refused.{Refused}

pub record Limits : Type 0 where
  -- bytes of one file
  pub file_bytes : Option ℕ
  -- bytes of all files that are read
  pub source_bytes : Option ℕ
  -- components of a project
  pub components : Option ℕ
  -- modules and signatures of a component
  pub own_modules : Option ℕ
  -- depth of the tree of a source
  pub nesting : Option ℕ

-- the limits of the program
abbrev pub limited : Limits
limited = record {
  file_bytes = Some 1048576;
  source_bytes = Some 33554432;
  components = Some 512;
  own_modules = Some 512;
  nesting = Some 200;
}

-- no limits
abbrev pub unlimited : Limits
unlimited = record { file_bytes = None; source_bytes = None; components = None; own_modules = None; nesting = None }

-- a number is within a limit, or this is refused
abbrev pub at_most : Option ℕ → ℕ → Refused → Check (Unit {0}) Refused
at_most None n q = given tt
at_most (Some most) n q = record { passes = λ _. n ≤ most; fails = λ r. (most < n) × (r ≡ q) }
