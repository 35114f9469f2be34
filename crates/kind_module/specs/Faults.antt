-- Why the types of a module are refused, and checks of lists.
use Rattle.std.specs.Prelude.{◌≡◌, ⊤, List, Result, Ok, Err}
use Rattle.bp_base.specs.Lists.{Among}
use Rattle.bp_base.specs.Texts.{Text}
use Rattle.bp_checks.specs.Check.{Check}
use Rattle.declared_kinds.specs.Cycles.{IsFirstBad}
use Rattle.kind_module.specs.declared.error.KindsError.{KindsError}
use Rattle.kind_module.specs.declared.error.KindsError.TheVariants.{Kind, SynonymUse, TypeDepth, NoMemory}

-- a declaration that is ill-kinded, one with a synonym that is cyclic or isn't fully applied, or a type that is too deep
pub data KindFault : Type 0 where
  IllKinded : Text → KindFault
  Misused : Text → KindFault
  TooDeep : KindFault

-- what is said of a refusal: of want of memory nothing is
abbrev pub OnKinds : KindsError → (KindFault → Type 0) → Type 0
OnKinds (Kind x) P = P (IllKinded x)
OnKinds (SynonymUse x) P = P (Misused x)
OnKinds TypeDepth P = P TooDeep
OnKinds NoMemory P = ⊤

-- what a function answers by a check
abbrev pub Finds : {B : Type 0} → Check B KindFault → Result B KindsError → Type 0
Finds check (Ok b) = check.passes b
Finds check (Err e) = OnKinds e check.fails

-- the fact holds of each item, or the first for which it fails is refused
abbrev pub all_are : {A : Type 0} → (A → Type 0) → (A → KindFault) → List A → Check (Unit {0}) KindFault
all_are {A} Good fault xs = record {
  passes = λ _. (x : A) → Among x xs → Good x;
  fails = λ r. (x : A) × IsFirstBad Good xs x × (r ≡ fault x);
}
