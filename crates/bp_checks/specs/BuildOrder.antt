-- The order in which components are built: each after those that it depends on.
use Rattle.std.specs.Prelude.{◌≡◌, ◌↔◌, Bool, false, map, Option, Some, None, List, [], ◌∷◌}
use Rattle.bp_base.specs.Lists.{Among, AreDistinct}
use Rattle.bp_base.specs.Texts.{Text}
use Rattle.bp_checks.specs.Check.{Check}
use Rattle.bp_checks.specs.Walk.{WalkStop, Reached, walk}

-- a component that is asked for, and the one that asks, which the target hasn't
pub record Asked : Type 0 where
  pub by : Option Text
  pub name : Text

abbrev pub asked_by : Option Text → Text → Asked
asked_by by name = record { by = by; name = name }

-- a component asks for those that it depends on
abbrev pub Asks : (Text → List Text) → Text → List Asked → Type 0
Asks deps a below = below ≡ map (asked_by (Some a)) (deps a)

-- it isn't there
abbrev pub IsAbsent : (Text → Bool) → List Text → Asked → Asked → Type 0
IsAbsent there path e r = (there e.name ≡ false) × (r ≡ e)

-- the components that a target needs, in their order; or a cycle, or who asks for a component that isn't there
abbrev pub build_order : (Text → List Text) → (Text → Bool) → Text → Check (List Text) (WalkStop Text Asked)
build_order deps there target = walk (λ e. e.name) (Asks deps) (IsAbsent there) (asked_by None target ∷ [])

-- each once, and exactly what the target leads to
pub record IsWhatIsReached (deps : Text → List Text) (target : Text) (order : List Text) : Type 0 where
  pub once : AreDistinct order
  pub reached : (n : Text) → Among n order ↔ Reached (λ e. e.name) (Asks deps) (asked_by None target ∷ []) n
