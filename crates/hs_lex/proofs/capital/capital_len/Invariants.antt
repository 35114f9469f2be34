use Rattle.std.proofs.Common.{◌≡◌, ◌+◌, false, length}
use Rattle.hs_lex.specs.Classes.{is_in, begins}
use Rattle.hs_lex.specs.declared.class.Class.TheVariants.{Name}
use Rattle.hs_lex.proofs.CapitalLemmas.{Ahead}
use Rattle.hs_lex.proofs.capital.capital_len.Given as goal

abbrev pub invariant-parts : goal.invariant-parts
invariant-parts l = record {
  room : l.len + length l.left ≡ length l.fn.rest;
  whole : begins (is_in Name) l.left ≡ false;
  ahead : Ahead l.fn.rest l.left l.len;
}

abbrev pub decreases-parts : goal.decreases-parts
decreases-parts l = length l.left
