-- What it means to unify identities, apart from how it is done.
use Rattle.std.specs.Prelude.{◌≡◌, ◌≢◌, List, [], ◌∷◌, map, Some}
use Rattle.bp_base.specs.declared.ident.Ident.TheVariants.{Hole}
use Rattle.bp_base.specs.declared.ident.Fill.{Fill}
use Rattle.bp_base.specs.Texts.{Text, Before, Rise}
use Rattle.unit_identity.specs.Fill.{filled, at_hole, found}
use Rattle.hole_unify.specs.declared.equation.Equation.{Equation}

-- the fills make the two sides of each equation one identity
abbrev pub IsUnifier : List Equation → List Fill → Type 0
IsUnifier [] f = Unit {0}
IsUnifier (e ∷ es) f = (filled e.left f ≡ filled e.right f) × IsUnifier es f

abbrev pub HasUnifier : List Equation → Type 0
HasUnifier es = (f : List Fill) × IsUnifier es f

-- A most general unifier, where holes that become one bear the least of their names: every unifier is the answer
-- followed by
-- itself. Fills that leave a hole as it is are left out.
pub record IsAnswer (es : List Equation) (f : List Fill) : Type 0 where
  pub unifies : IsUnifier es f
  pub general : (g : List Fill) → IsUnifier es g → (n : Text) → filled (at_hole n f) g ≡ at_hole n g
  pub rise : Rise (map (λ x. x.hole) f)
  pub moves : (n : Text) → found n f ≢ Some (Hole n)
  pub least : (n m : Text) → at_hole n f ≡ Hole m → Before n m → ⊥
