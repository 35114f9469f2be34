-- When two fills by number are one.
use Rattle.std.specs.Prelude.{nat_eq, Bool, ◌++◌}
use Rattle.std.specs.Ordering.{on, eq_of_both}
use Rattle.std.specs.Str.{bytes_eq}
use Rattle.std.specs.Hash as fed
use Rattle.ident_table.specs.declared.node.NumberFill.{NumberFill}

-- the test whether two fills are one
abbrev pub fill_eq : NumberFill → NumberFill → Bool
fill_eq = eq_of_both (on (λ f. f.hole) bytes_eq) (on (λ f. f.ident) nat_eq)

-- what a fill feeds to a hash
abbrev pub fill_input : NumberFill → fed.HashWrites
fill_input f = fed.slice fed.u8 f.hole ++ fed.usize f.ident
