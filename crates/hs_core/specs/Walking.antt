-- What is pending in a depth-first walk, and how far it has come. No public clause speaks of these.
use Rattle.std.specs.Prelude.{◌≡◌, ◌⊎◌, ◌<◌, ◌≤◌, ℕ, Bool, true, false, List, [], ◌∷◌, ◌++◌, length, reverse}
use Rattle.std.specs.Prelude.{slice_index_or, slice_set, drop}
use Rattle.std.specs.List.Sorted.{IsStrictlyIncreasing}
use Rattle.bp_base.specs.Lists.{Among}
use Rattle.hs_core.specs.declared.group.UseList.{UseList}
use Rattle.hs_core.specs.declared.group.Walked.{Walked}
use Rattle.hs_core.specs.declared.group.Step.{Step}
use Rattle.hs_core.specs.declared.group.Step.TheVariants.{Enter, Leave}
use Rattle.hs_core.specs.declared.group.IndexGroup.{IndexGroup}
use Rattle.hs_core.specs.Groups.{uses_at, DepthFirst, Together, Grouped}

-- these are still to be begun
abbrev pub enters : List ℕ → List Step
enters [] = []
enters (v ∷ vs) = Enter v ∷ enters vs

-- the numbers that are begun and not done, of what is pending, uppermost first
abbrev pub path_of : List Step → List ℕ
path_of [] = []
path_of (Enter v ∷ steps) = path_of steps
path_of (Leave v ∷ steps) = v ∷ path_of steps

-- what is pending, uppermost first, leaves these done
abbrev pub Leads : List UseList → List Step → List ℕ → List ℕ → Type 0
Leads g [] done new = done ≡ new
Leads g (Enter v ∷ steps) done new = (mid : List ℕ) × DepthFirst g (path_of steps) done (v ∷ []) mid
    × Leads g steps mid new
Leads g (Leave v ∷ steps) done new = Leads g steps (done ++ v ∷ []) new

-- what is marked as begun
pub record IsMarked (begun : List Bool) (path done : List ℕ) : Type 0 where
  pub sound : (v : ℕ) → slice_index_or begun v false ≡ true → Among v done ⊎ Among v path
  pub done_too : (v : ℕ) → Among v done → slice_index_or begun v false ≡ true
  pub path_too : (v : ℕ) → Among v path → slice_index_or begun v false ≡ true

-- the marks fit the numbers that are done, and no number is begun and not done
pub record IsAtRest (g : List UseList) (walked : Walked) : Type 0 where
  pub size : length walked.begun ≡ length g
  pub marked : IsMarked walked.begun [] walked.done

abbrev pub AreBelow : ℕ → List ℕ → Type 0
AreBelow n vs = (v : ℕ) → Among v vs → v < n

-- one step, with what was pending below it; all that is pending stands uppermost first
pub data IsStep (g : List UseList) : Step → List Step → Walked → List Step → Walked → Type 0 where
  again : (v : ℕ) (below more : List Step) (walked : Walked) → slice_index_or walked.begun v false ≡ true → more ≡ below
      → IsStep g (Enter v) below walked more walked
  begins : (v : ℕ) (below more : List Step) (walked new : Walked) → slice_index_or walked.begun v false ≡ false
      → more ≡ enters (uses_at g v) ++ Leave v ∷ below → new.begun ≡ slice_set walked.begun v true
      → new.done ≡ walked.done
      → IsStep g (Enter v) below walked more new
  leaves : (v : ℕ) (below more : List Step) (walked new : Walked) → more ≡ below → new.begun ≡ walked.begun
      → new.done ≡ walked.done ++ v ∷ []
      → IsStep g (Leave v) below walked more new

-- a walk on its way from `start`, with what is pending, uppermost first
pub record IsOnWay (g : List UseList) (starts start : List ℕ) (steps : List Step) (walked : Walked) : Type 0 where
  pub size : length walked.begun ≡ length g
  pub below : (v : ℕ) → Among (Enter v) steps → v < length g
  pub marked : IsMarked walked.begun (path_of steps) walked.done
  pub leads : (new : List ℕ) → Leads g steps walked.done new → DepthFirst g [] start starts new

-- a whole walk
pub record IsWalk (g : List UseList) (starts : List ℕ) (old new : Walked) : Type 0 where
  pub rest : IsAtRest g new
  pub longer : length old.done ≤ length new.done
  pub ends : DepthFirst g [] old.done starts new.done

-- the second graph has the uses of the first turned round, of the numbers below a count
pub record IsTurnedBelow (g h : List UseList) (n : ℕ) : Type 0 where
  pub size : length h ≡ length g
  pub back : (v w : ℕ) → Among w (uses_at h v) → Among v (uses_at g w)
  pub forth : (v w : ℕ) → w < n → Among v (uses_at g w) → Among w (uses_at h v)

-- the second graph has the uses of the first turned round
pub record IsTurned (g h : List UseList) : Type 0 where
  pub size : length h ≡ length g
  pub back : (v w : ℕ) → Among w (uses_at h v) → Among v (uses_at g w)
  pub forth : (v w : ℕ) → Among v (uses_at g w) → Among w (uses_at h v)

-- these have one more user, and nothing else changes
pub record IsUsedBy (old new : List UseList) (used : List ℕ) (user : ℕ) : Type 0 where
  pub size : length new ≡ length old
  pub kept : (v w : ℕ) → Among w (uses_at old v) → Among w (uses_at new v)
  pub added : (v : ℕ) → Among v used → Among user (uses_at new v)
  pub only : (v w : ℕ) → Among w (uses_at new v) → Among w (uses_at old v) ⊎ ((user ≡ w) × Among v used)

-- the same numbers, rising
pub record IsRising (numbers : List ℕ) (group : IndexGroup) : Type 0 where
  pub rising : IsStrictlyIncreasing group.members
  pub each : (w : ℕ) → Among w numbers → Among w group.members
  pub only : (w : ℕ) → Among w group.members → Among w numbers

-- one more group: what a walk from one number adds
pub record IsGathered (h : List UseList) (v : ℕ) (old new : Walked) (groups more : List IndexGroup) : Type 0 where
  pub walk : IsWalk h (v ∷ []) old new
  pub group : IndexGroup
  pub is : more ≡ groups ++ group ∷ []
  pub rising : IsRising (drop (length old.done) new.done) group

-- The groups of the numbers that were gone through, from the last one on; `left` are still to be gone through, and `h`
-- is the graph
-- turned round.
pub record IsGathering (g h : List UseList) (order left : List ℕ) (walked : Walked)
    (groups : List IndexGroup) : Type 0 where
  pub past : List ℕ
  pub is : order ≡ left ++ past
  pub rest : IsAtRest h walked
  pub shut : (u t : ℕ) → Among u walked.done → Among t (uses_at h u) → Among t walked.done
  pub each : (v w : ℕ) → Among v past → Together g v w → Among w walked.done
  pub only : (w : ℕ) → Among w walked.done → (v : ℕ) × Among v past × Together g v w
  pub grouped : Grouped g past (reverse groups)
