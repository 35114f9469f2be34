-- The order in which components are built: each after those that it depends on.
use Rattle.std.specs.Prelude.{Bool, Option, None, Some, List, [], ◌∷◌, map, codes, not, if◌then◌else◌}
use Rattle.std.specs.List.{filter}
use Rattle.std.specs.Str.{bytes_eq}
use Rattle.bp_base.specs.Lists.{Among, AreDistinct, is_among}
use Rattle.bp_base.specs.Texts.{Text}
use Rattle.bp_base.specs.declared.code.Code.TheVariants.{NoComponent, DependencyCycle}
use Rattle.bp_base.specs.declared.defect.Item.TheVariants.{Nothing, Named}
use Rattle.bp_checks.specs.Check.{Check, refusing}
use Rattle.bp_checks.specs.Walk.{WalkStop, Reached}
use Rattle.bp_checks.specs.Walk.WalkStop.{Cycle, Blocked}
use Rattle.bp_checks.specs.BuildOrder.{Asked, Asks, asked_by, build_order as walk_of}
use Rattle.bp_checks.specs.Refused.{Refused, Wrong, defect_at}
use Rattle.cabal_component.specs.declared.component.Component.{Component}

-- `base` is built in
abbrev pub is_base : Text → Bool
is_base name = bytes_eq name (codes "base")

-- the names of components, in their order
abbrev pub names_of : List Component → List Text
names_of cs = map (λ c. c.name) cs

-- some component has the name
abbrev pub is_listed : List Component → Text → Bool
is_listed cs name = is_among name (names_of cs)

-- the dependencies that are components of a project
abbrev pub project_deps : List Text → List Text
project_deps deps = filter (λ dep. not (is_base dep)) deps

-- what the first component of a name depends on
abbrev pub deps_in : List Component → Text → List Text
deps_in [] name = []
deps_in (c ∷ cs) name = if bytes_eq c.name name then project_deps c.deps else deps_in cs name

abbrev pub asker : Option Text → Text
asker None = []
asker (Some name) = name

-- A cycle is told of the component that is met again; what isn't there, of the component that asks for it, or of none,
-- where it is the target.
abbrev pub order_refused : WalkStop Text Asked → Refused
order_refused (Cycle name) = Wrong (defect_at DependencyCycle name [] Nothing)
order_refused (Blocked asked) = Wrong (defect_at NoComponent (asker asked.by) [] (Named asked.name))

-- the target with all that it depends on, each component after its dependencies; or the first refusal along the walk
unfoldable pub build_order : List Component → Text → Check (List Text) Refused
build_order cs target = refusing order_refused (walk_of (deps_in cs) (is_listed cs) target)

-- each once, and exactly what the target leads to
pub record IsOrder (cs : List Component) (target : Text) (order : List Text) : Type 0 where
  pub once : AreDistinct order
  pub reached : (name : Text) → Among name order
      → Reached (λ e. e.name) (Asks (deps_in cs)) (asked_by None target ∷ []) name
  pub all : (name : Text) → Reached (λ e. e.name) (Asks (deps_in cs)) (asked_by None target ∷ []) name
      → Among name order
