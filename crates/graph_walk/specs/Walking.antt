-- What is pending in a walk, and how far it has come. No public clause speaks of these.
use Rattle.std.specs.Prelude.{◌≡◌, ◌⊎◌, ◌<◌, ℕ, true, false, List, [], ◌∷◌, ◌++◌, Option, None, Some, map, length}
use Rattle.std.specs.Prelude.{slice_index_or, slice_set, ⊤}
use Rattle.bp_base.specs.Lists.{Among, AreDistinct}
use Rattle.bp_checks.specs.Walk.{Visits, Stuck, WalkStop}
use Rattle.graph_walk.specs.declared.walk.Node.{Node}
use Rattle.graph_walk.specs.declared.walk.Use.{Use}
use Rattle.graph_walk.specs.declared.walk.Walked.{Walked}
use Rattle.graph_walk.specs.declared.walk.Step.{Step}
use Rattle.graph_walk.specs.declared.walk.Step.TheVariants.{Enter, Leave}
use Rattle.graph_walk.specs.declared.walk.Mark.{Mark}
use Rattle.graph_walk.specs.declared.walk.Mark.TheVariants.{New, Begun, Done}
use Rattle.graph_walk.specs.declared.walk.WalkError.{WalkError}
use Rattle.graph_walk.specs.declared.walk.WalkError.TheVariants.{Cycle, Absent, NoMemory}
use Rattle.graph_walk.specs.Graph.{uses_at, is_there, wanted, Asks, IsAbsent}

-- these are still to be begun
abbrev pub enters : List Use → List Step
enters [] = []
enters (e ∷ es) = Enter e ∷ enters es

-- the numbers that are begun and not done, of what is pending, uppermost first
abbrev pub path_of : List Step → List ℕ
path_of [] = []
path_of (Enter e ∷ steps) = path_of steps
path_of (Leave v ∷ steps) = v ∷ path_of steps

-- going through uses, with a path begun
abbrev pub Goes : List Node → List ℕ → List ℕ → List Use → List ℕ → Type 0
Goes nodes = Visits (λ e. e.to) (Asks nodes) (IsAbsent nodes)

abbrev pub Fails : List Node → List ℕ → List ℕ → List Use → WalkStop ℕ Use → Type 0
Fails nodes = Stuck (λ e. e.to) (Asks nodes) (IsAbsent nodes)

-- what is pending, uppermost first, leaves these done
abbrev pub Leads : List Node → List Step → List ℕ → List ℕ → Type 0
Leads nodes [] done new = done ≡ new
Leads nodes (Enter e ∷ steps) done new = (mid : List ℕ) × Goes nodes (path_of steps) done (e ∷ []) mid
    × Leads nodes steps mid new
Leads nodes (Leave v ∷ steps) done new = Leads nodes steps (done ++ v ∷ []) new

-- what is pending stops
abbrev pub Stops : List Node → List Step → List ℕ → WalkStop ℕ Use → Type 0
Stops nodes [] done s = ⊥
Stops nodes (Enter e ∷ steps) done s = Fails nodes (path_of steps) done (e ∷ []) s
    ⊎ ((mid : List ℕ) × Goes nodes (path_of steps) done (e ∷ []) mid × Stops nodes steps mid s)
Stops nodes (Leave v ∷ steps) done s = Stops nodes steps (done ++ v ∷ []) s

abbrev pub mark_at : List Mark → ℕ → Mark
mark_at marks v = slice_index_or marks v New

-- what is marked as begun, and as done
pub record IsMarked (marks : List Mark) (path done : List ℕ) : Type 0 where
  pub is_done : (v : ℕ) → mark_at marks v ≡ Done → Among v done
  pub is_begun : (v : ℕ) → mark_at marks v ≡ Begun → Among v path
  pub done_too : (v : ℕ) → Among v done → mark_at marks v ≡ Done
  pub begun_too : (v : ℕ) → Among v path → mark_at marks v ≡ Begun
  pub once : AreDistinct path

-- one step, with what was pending below it; all that is pending stands uppermost first
pub data IsStep (nodes : List Node) : Step → List Step → Walked → List Step → Walked → Type 0 where
  again : (e : Use) (below more : List Step) (walked : Walked) → is_there nodes e.to ≡ true
      → mark_at walked.marks e.to ≡ Done → more ≡ below → IsStep nodes (Enter e) below walked more walked
  begins : (e : Use) (below more : List Step) (walked new : Walked) → is_there nodes e.to ≡ true
      → mark_at walked.marks e.to ≡ New
      → more ≡ enters (map (wanted (Some e.to)) (uses_at nodes e.to)) ++ Leave e.to ∷ below
      → new.marks ≡ slice_set walked.marks e.to Begun → new.done ≡ walked.done
      → IsStep nodes (Enter e) below walked more new
  leaves : (v : ℕ) (below more : List Step) (walked new : Walked) → more ≡ below
      → new.marks ≡ slice_set walked.marks v Done → new.done ≡ walked.done ++ v ∷ []
      → IsStep nodes (Leave v) below walked more new

-- a step that is refused
pub data StopsAt (nodes : List Node) : Step → Walked → WalkError → Type 0 where
  absent : (e : Use) (walked : Walked) → is_there nodes e.to ≡ false → StopsAt nodes (Enter e) walked (Absent e)
  begun : (e : Use) (walked : Walked) → is_there nodes e.to ≡ true → mark_at walked.marks e.to ≡ Begun
      → StopsAt nodes (Enter e) walked (Cycle e.to)
  lacking : (step : Step) (walked : Walked) → StopsAt nodes step walked NoMemory

-- a node that is left is one
abbrev pub IsStepBelow : ℕ → Step → Type 0
IsStepBelow n (Enter e) = ⊤
IsStepBelow n (Leave v) = v < n

-- a walk on its way, with what is pending, uppermost first
pub record IsOnWay (nodes : List Node) (starts : List ℕ) (steps : List Step) (walked : Walked) : Type 0 where
  pub size : length walked.marks ≡ length nodes
  pub below : (step : Step) → Among step steps → IsStepBelow (length nodes) step
  pub marked : IsMarked walked.marks (path_of steps) walked.done
  pub leads : (new : List ℕ) → Leads nodes steps walked.done new → Goes nodes [] [] (map (wanted None) starts) new
  pub stops : (s : WalkStop ℕ Use) → Stops nodes steps walked.done s → Fails nodes [] [] (map (wanted None) starts) s
