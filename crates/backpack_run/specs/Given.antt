-- What a project gives for a target: the text of its flat program, or what refuses it first. Each file is read where what
-- comes before it passes.
use Rattle.std.specs.Prelude.{◌≡◌, ◌+◌, ℕ, Option, Some, None, List, [], ◌∷◌, ◌++◌, if◌then◌else◌}
use Rattle.std.specs.Str.{bytes_eq}
use Rattle.bp_base.specs.Texts.{Text}
use Rattle.bp_base.specs.declared.code.Code.TheVariants.{NoComponent}
use Rattle.bp_base.specs.declared.defect.Item.TheVariants.{Named}
use Rattle.bp_checks.specs.Check.{Check, ◌>>=◌, given, each}
use Rattle.bp_checks.specs.Refused.{Refused, Wrong, defect_at}
use Rattle.bp_edges.specs.declared.files.File.{File}
use Rattle.cabal_component.specs.declared.component.Component.{Component}
use Rattle.project_sources.specs.declared.project.Package.{Package}
use Rattle.project_sources.specs.declared.project.Project.{Project}
use Rattle.project_sources.specs.declared.sources.Source.{Source}
use Rattle.project_sources.specs.declared.sources.Input.{Input}
use Rattle.project_sources.specs.Limits.{Limits}
use Rattle.project_sources.specs.Project.{project_at}
use Rattle.project_sources.specs.Sources.{gathered, source_total}
use Rattle.project_order.specs.Order.{build_order}
use Rattle.hs_plain.specs.declared.plain.PlainModule.{PlainModule}
use Rattle.plain_check.specs.Given.{source_read, typed, text_of}
use Rattle.plain_check.specs.Asked.{asks_nothing}
use Rattle.backpack_run.specs.declared.plan.Plan.{Plan}
use Rattle.backpack_run.specs.declared.build.Built.{Built}

-- the first component of a name
abbrev pub component_in : List Component → Text → Option Component
component_in [] name = None
component_in (c ∷ cs) name = if bytes_eq c.name name then Some c else component_in cs name

-- a component of this name, or else none is there
unfoldable pub listed : List Component → Text → Check Component Refused
listed cs name = record {
  passes = λ c. component_in cs name ≡ Some c;
  fails = λ r. (component_in cs name ≡ None) × (r ≡ Wrong (defect_at NoComponent [] [] (Named name)));
}

-- the content of the package file at a path; nothing where none is read there
abbrev pub content_in : List Package → Text → Text
content_in [] path = []
content_in (p ∷ ps) path = if bytes_eq p.path path then p.content else content_in ps path

-- a component that the target reaches asks for nothing that isn't built yet
unfoldable pub reached_one : Project → Text → Check Component Refused
reached_one p name =
    listed p.components name >>= λ c.
    asks_nothing c (content_in p.packages c.file) >>= λ _. given c

-- the components of a build order
unfoldable pub reached : Project → List Text → Check (List Component) Refused
reached p order = each order (λ done name. reached_one p name)

abbrev pub plan_of : Project → List Component → Plan
plan_of p cs = record { bytes = p.bytes; components = cs }

-- the components that a target needs, dependencies first
unfoldable pub planned : Limits → List File → Text → Check Plan Refused
planned l files target =
    project_at l files >>= λ p. build_order p.components target >>= λ order.
    reached p order >>= λ cs. given (plan_of p cs)

-- the module of a component that has one
abbrev pub first_name : List Text → Text
first_name [] = []
first_name (n ∷ ns) = n

abbrev pub own_module : Component → Text
own_module c = first_name (c.exposed ++ c.other)

abbrev pub first_bytes : List Source → Text
first_bytes [] = []
first_bytes (s ∷ ss) = s.bytes

abbrev pub built_of : Input → PlainModule → Built
built_of i m = record { name = i.component.name; bytes = source_total i.sources; plain = m }

-- a component's module, read where so many bytes were read before it
unfoldable pub read_one : Limits → List File → ℕ → Component → Check Built Refused
read_one l files seen c =
    gathered l files seen c >>= λ i.
    source_read l.nesting i.component.name (own_module i.component) (first_bytes i.sources) >>= λ m. given (built_of i m)

-- and checked
unfoldable pub checked_one : Limits → List File → ℕ → Component → Check Built Refused
checked_one l files seen c = read_one l files seen c >>= λ b. typed b.name b.plain >>= λ _. given b

-- the bytes of the sources of components
abbrev pub built_total : List Built → ℕ
built_total [] = 0
built_total (b ∷ bs) = b.bytes + built_total bs

-- components in order, each with those before it
unfoldable pub all_checked : Limits → List File → ℕ → List Component → Check (List Built) Refused
all_checked l files seen cs = each cs (λ done c. checked_one l files (seen + built_total done) c)

abbrev pub built_in : List Built → Text → Option Built
built_in [] name = None
built_in (b ∷ bs) name = if bytes_eq b.name name then Some b else built_in bs name

abbrev pub text_if : Text → Option Built → Check Text Refused
text_if target None = record { passes = λ t. ⊥; fails = λ r. r ≡ Wrong (defect_at NoComponent [] [] (Named target)) }
text_if target (Some b) = text_of b.plain

-- the flat text of the target
unfoldable pub closed : List Built → Text → Check Text Refused
closed bs target = text_if target (built_in bs target)

-- the text of the target's flat program
unfoldable pub built : Limits → List File → Text → Check Text Refused
built l files target =
    planned l files target >>= λ plan. all_checked l files plan.bytes plan.components >>= λ bs. closed bs target
