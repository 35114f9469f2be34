-- Which of three operators in a row comes first.
use Rattle.std.proofs.Common.{◌≡◌, ◌<◌, refl, inl, inr, arith}
use Rattle.std.specs.Prelude.{◌⊎◌, Option, Some, None}
use Rattle.std.proofs.lemmas.Bool.Decides.{nat_tests}
use Rattle.bp_base.specs.declared.entity.Assoc.{Assoc}
use Rattle.bp_base.specs.declared.entity.Assoc.TheVariants as a
use Rattle.hs_scopes.specs.Sides.{Side}
use Rattle.bp_base.specs.declared.entity.Fixity.{Fixity}
use Rattle.hs_scopes.specs.Sides.{side_of, side_in, side_at_level}

at_level_left : (x y : Assoc) → side_at_level x y ≡ Side.Left → (x ≡ a.Left) × (y ≡ a.Left)
at_level_left a.Left a.Left e = (refl, refl)
at_level_left a.Left a.Right e = cc
at_level_left a.Left a.Neither e = cc
at_level_left a.Right a.Left e = cc
at_level_left a.Right a.Right e = cc
at_level_left a.Right a.Neither e = cc
at_level_left a.Neither y e = cc

at_level_right : (x y : Assoc) → side_at_level x y ≡ Side.Right → (x ≡ a.Right) × (y ≡ a.Right)
at_level_right a.Right a.Right e = (refl, refl)
at_level_right a.Left a.Left e = cc
at_level_right a.Left a.Right e = cc
at_level_right a.Left a.Neither e = cc
at_level_right a.Right a.Left e = cc
at_level_right a.Right a.Neither e = cc
at_level_right a.Neither y e = cc

left_level : (x y : Fixity) → side_of x y ≡ Side.Left → (y.level < x.level) ⊎
    ((x.level ≡ y.level) × (side_at_level x.assoc y.assoc ≡ Side.Left))
left_level x y e = grind (arith, nat_tests)

right_level : (x y : Fixity) → side_of x y ≡ Side.Right → (x.level < y.level) ⊎
    ((x.level ≡ y.level) × (side_at_level x.assoc y.assoc ≡ Side.Right))
right_level x y e = grind (arith, nat_tests)

left_by : (x y : Fixity) → y.level < x.level → side_of x y ≡ Side.Left
left_by x y h = grind (arith, nat_tests)

right_by : (x y : Fixity) → x.level < y.level → side_of x y ≡ Side.Right
right_by x y h = grind (arith, nat_tests)

-- what may stand left of y, which may stand behind x, may stand behind x
pub behind : (x y z : Fixity) → side_of x y ≡ Side.Right → side_of z y ≡ Side.Left → side_of x z ≡ Side.Right
behind x y z p q = elim (right_level x y p) [
  | inl lt ↦ elim (left_level z y q) [ inl l ↦ right_by x z (omega arith) | inr l ↦ right_by x z (omega arith) ]
  | inr eq ↦ elim (left_level z y q) [
    | inl l ↦ right_by x z (omega arith)
    | inr l ↦ absurd (let r = (at_level_right x.assoc y.assoc eq.1).1 in let k =
        (at_level_left z.assoc y.assoc l.1).1 in cc)
  ]
]

-- what ends at z behind x ends also behind y, which stands behind x
pub ends : (x y z : Fixity) → side_of x y ≡ Side.Right → side_of x z ≡ Side.Left → side_of y z ≡ Side.Left
ends x y z p q = elim (right_level x y p) [
  | inl lt ↦ elim (left_level x z q) [ inl l ↦ left_by y z (omega arith) | inr l ↦ left_by y z (omega arith) ]
  | inr eq ↦ elim (left_level x z q) [
    | inl l ↦ left_by y z (omega arith)
    | inr l ↦ absurd (let r = (at_level_right x.assoc y.assoc eq.1).0 in let k =
        (at_level_left x.assoc z.assoc l.1).0 in cc)
  ]
]

pub behind_in : (outer : Option Fixity) (y z : Fixity) → side_in outer y ≡ Side.Right → side_of z y ≡ Side.Left
    → side_in outer z ≡ Side.Right
behind_in None y z p q = refl
behind_in (Some x) y z p q = behind x y z p q

pub ends_in : (outer : Option Fixity) (y z : Fixity) → side_in outer y ≡ Side.Right → side_in outer z ≡ Side.Left
    → side_of y z ≡ Side.Left
ends_in None y z p q = cc
ends_in (Some x) y z p q = ends x y z p q
