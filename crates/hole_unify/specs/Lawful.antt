-- The test of the condition on units.
use Rattle.std.specs.Prelude.{Bool, true, false, ◌&&◌, ◌||◌, not, List, [], ◌∷◌, ◌++◌}
use Rattle.std.specs.Str.{bytes_eq}
use Rattle.std.specs.Ordering.{nat_cmp, is_lt}
use Rattle.std.specs.Cmp.Lexicographic.{slice_cmp}
use Rattle.bp_base.specs.declared.ident.Unit.{Unit as OfUnit, out-Unit}
use Rattle.bp_base.specs.declared.ident.Fill.{Fill}
use Rattle.bp_base.specs.Texts.{Text}
use Rattle.hole_unify.specs.Causes.{units_of}

abbrev pub units_in_fills : List Fill → List OfUnit
units_in_fills [] = []
units_in_fills (f ∷ fs) = units_of f.ident ++ units_in_fills fs

abbrev pub same_holes : List Fill → List Fill → Bool
same_holes [] [] = true
same_holes [] (y ∷ ys) = false
same_holes (x ∷ xs) [] = false
same_holes (x ∷ xs) (y ∷ ys) = bytes_eq x.hole y.hole && same_holes xs ys

abbrev pub rise_after : Text → List Fill → Bool
rise_after h [] = true
rise_after h (x ∷ xs) = is_lt (slice_cmp nat_cmp h x.hole) && rise_after x.hole xs

abbrev pub rises : List Fill → Bool
rises [] = true
rises (x ∷ xs) = rise_after x.hole xs

-- units of one component have the same holes
abbrev pub agree : OfUnit → OfUnit → Bool
agree u v = not (bytes_eq (out-Unit u).component (out-Unit v).component) || same_holes (out-Unit u).fills
    (out-Unit v).fills

abbrev pub agrees_with : OfUnit → List OfUnit → Bool
agrees_with u [] = true
agrees_with u (x ∷ xs) = agree u x && agrees_with u xs

abbrev pub all_agree : List OfUnit → List OfUnit → Bool
all_agree units [] = true
all_agree units (x ∷ xs) = (rises (out-Unit x).fills && agrees_with x units) && all_agree units xs
