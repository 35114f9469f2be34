-- Fills and equations by numbers of a table.
use Rattle.std.specs.Prelude.{◌≡◌, ◌⊎◌, ℕ, List, [], ◌∷◌, slice_get, Option, Some, None, if◌then◌else◌}
use Rattle.std.specs.Str.{bytes_eq}
use Rattle.bp_base.specs.declared.ident.Ident.{Ident}
use Rattle.bp_base.specs.Lists.{Among}
use Rattle.bp_base.specs.Texts.{Text}
use Rattle.ident_table.specs.declared.node.NumberFill.{NumberFill}
use Rattle.ident_table.specs.Parts.{terms_of}
use Rattle.ident_table.specs.Numbers.{IsIdentTable, Grows}
use Rattle.hole_unify.specs.declared.equation.Equation.{Equation}
use Rattle.hole_unify.specs.declared.pair.NumberPair.{NumberPair}

-- the number that fills have for a hole
abbrev pub number_at : Text → List NumberFill → Option ℕ
number_at n [] = None
number_at n (f ∷ fs) = if bytes_eq f.hole n then Some f.ident else number_at n fs

-- the pair has the numbers of the equation's sides, and only their terms are new
pub record IsNumbered (old : List Ident) (e : Equation) (new : List Ident) (p : NumberPair) : Type 0 where
  pub left : slice_get new p.one ≡ Some e.left
  pub right : slice_get new p.other ≡ Some e.right
  pub grows : Grows old new
  pub parts : (t : Ident) → Among t new → Among t old ⊎ (Among t (terms_of e.left) ⊎ Among t (terms_of e.right))
  pub table : IsIdentTable new
