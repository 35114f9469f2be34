-- Names by number: a name has the number of its first place. No public clause speaks of these.
use Rattle.std.specs.Prelude.{◌≡◌, ℕ, suc, true, List, [], ◌∷◌, ◌++◌, Option, None, Some, map, unwrap_or}
use Rattle.std.specs.Prelude.{if◌then◌else◌, slice_index_or}
use Rattle.std.specs.List.{flat_map}
use Rattle.std.specs.HashMap.{HashMap, get}
use Rattle.std.specs.Str.{bytes_eq}
use Rattle.bp_base.specs.Texts.{Text}
use Rattle.bp_base.specs.declared.defect.Refusal.{Refusal}
use Rattle.bp_base.specs.declared.defect.Refusal.TheVariants.{NoMemory}
use Rattle.bp_checks.specs.Refused.{OnRefusal}
use Rattle.bp_checks.specs.Walk.{WalkStop}
use Rattle.bp_checks.specs.Walk.WalkStop.{Cycle, Blocked}
use Rattle.bp_checks.specs.BuildOrder.{Asked}
use Rattle.graph_walk.specs.declared.walk.Node.{Node}
use Rattle.graph_walk.specs.declared.walk.Use.{Use}
use Rattle.graph_walk.specs.declared.walk.WalkError.{WalkError}
use Rattle.graph_walk.specs.declared.walk.WalkError.TheVariants as e
use Rattle.cabal_component.specs.declared.component.Component.{Component}
use Rattle.project_order.specs.Order.{is_base, names_of, order_refused}

-- the first place of a name; their count, where it is none of them
abbrev pub number_in : List Text → Text → ℕ
number_in [] name = 0
number_in (n ∷ ns) name = if bytes_eq n name then 0 else suc (number_in ns name)

-- the number that a table has for a name; the count where it has none
abbrev pub number_at : {S : Type 0} → HashMap Text ℕ S → ℕ → Text → ℕ
number_at table count name = unwrap_or (get bytes_eq table name) count

-- the name of a number
abbrev pub name_at : List Text → ℕ → Text
name_at names number = slice_index_or names number []

-- components first, then what they depend on, then the target
abbrev pub all_names : List Component → Text → List Text
all_names cs target = (names_of cs ++ flat_map (λ c. c.deps) cs) ++ target ∷ []

-- a dependency as a use
abbrev pub use_of : (Text → ℕ) → Text → List ℕ
use_of number dep = if is_base dep then [] else number dep ∷ []

abbrev pub uses_of : (Text → ℕ) → List Text → List ℕ
uses_of number deps = flat_map (use_of number) deps

-- a component as a node
abbrev pub node_of : (Text → ℕ) → Component → Node
node_of number c = record { uses = uses_of number c.deps; there = true }

abbrev pub nodes_of : (Text → ℕ) → List Component → List Node
nodes_of number cs = map (node_of number) cs

abbrev pub named_by : (ℕ → Text) → Option ℕ → Option Text
named_by name None = None
named_by name (Some number) = Some (name number)

-- a use by names
abbrev pub asked_of : (ℕ → Text) → Use → Asked
asked_of name u = record { by = named_by name u.by; name = name u.to }

abbrev pub stop_of : (ℕ → Text) → WalkStop ℕ Use → WalkStop Text Asked
stop_of name (Cycle at) = Cycle (name at)
stop_of name (Blocked u) = Blocked (asked_of name u)

-- what is refused is what a walk stopped at
abbrev pub RefusesAt : (ℕ → Text) → WalkError → Refusal → Type 0
RefusesAt name (e.Cycle at) refusal = OnRefusal refusal (λ r. r ≡ order_refused (stop_of name (Cycle at)))
RefusesAt name (e.Absent wanted) refusal = OnRefusal refusal (λ r. r ≡ order_refused (stop_of name (Blocked wanted)))
RefusesAt name e.NoMemory refusal = refusal ≡ NoMemory
