-- Dependency groups: the strongly connected components of who uses whom, in depth-first post-order (Haskell 2010
-- Report,
-- sections 4.5.1 and 4.6).
use Rattle.std.specs.Prelude.{◌≡◌, ◌⊎◌, ◌<◌, ℕ, zero, suc, List, [], ◌∷◌, ◌++◌, length, slice_index_or}
use Rattle.std.specs.List.Sorted.{IsStrictlyIncreasing}
use Rattle.bp_base.specs.Lists.{Among}
use Rattle.bp_base.specs.Lists.{IsNew}
use Rattle.hs_core.specs.declared.group.UseList.{UseList}
use Rattle.hs_core.specs.declared.group.IndexGroup.{IndexGroup}

-- what a number uses, in order; a number past the end uses nothing
abbrev pub uses_at : List UseList → ℕ → List ℕ
uses_at g v = (slice_index_or g v (record { uses = [] })).uses

-- each number that is used is the number of a use list
abbrev pub InRange : List UseList → Type 0
InRange g = (v w : ℕ) → Among w (uses_at g v) → w < length g

-- uses lead from the first number to the second
pub data Reaches (g : List UseList) : ℕ → ℕ → Type 0 where
  here : (v : ℕ) → Reaches g v v
  along : (v w z : ℕ) → Among w (uses_at g v) → Reaches g w z → Reaches g v z

-- the two reach each other: they are of one group
abbrev pub Together : List UseList → ℕ → ℕ → Type 0
Together g v w = Reaches g v w × Reaches g w v

-- the numbers below a count, rising
abbrev pub indices : ℕ → List ℕ
indices zero = []
indices (suc n) = indices n ++ n ∷ []

-- A depth-first walk. With the numbers of `path` begun and those of `done` done, going through a list leaves these
-- done, in this
-- order. A number that is begun is not begun again; it is done once all that it uses, in order, has been gone through.
pub data DepthFirst (g : List UseList) : List ℕ → List ℕ → List ℕ → List ℕ → Type 0 where
  ended : (path done : List ℕ) → DepthFirst g path done [] done
  met : (path done : List ℕ) (v : ℕ) (todo new : List ℕ) → Among v done ⊎ Among v path → DepthFirst g path done todo new
      → DepthFirst g path done (v ∷ todo) new
  visited : (path done : List ℕ) (v : ℕ) (todo new mid : List ℕ) → IsNew path done v
      → DepthFirst g (v ∷ path) done (uses_at g v) mid → DepthFirst g path (mid ++ v ∷ []) todo new
      → DepthFirst g path done (v ∷ todo) new

-- the numbers of one group with this one, rising
pub record IsGroupOf (g : List UseList) (v : ℕ) (group : IndexGroup) : Type 0 where
  pub rising : IsStrictlyIncreasing group.members
  pub each : (w : ℕ) → Together g v w → Among w group.members
  pub only : (w : ℕ) → Among w group.members → Together g v w

-- of numbers in an order, the group of each that is the last of its group there
pub data Grouped (g : List UseList) : List ℕ → List IndexGroup → Type 0 where
  none : Grouped g [] []
  inner : (v w : ℕ) (vs : List ℕ) (groups : List IndexGroup) → Among w vs → Together g v w → Grouped g vs groups
      → Grouped g (v ∷ vs) groups
  last : (v : ℕ) (vs : List ℕ) (group : IndexGroup) (groups : List IndexGroup)
      → ((w : ℕ) → Among w vs → Together g v w → ⊥)
      → IsGroupOf g v group → Grouped g vs groups → Grouped g (v ∷ vs) (group ∷ groups)

-- The groups, in the order in which a walk from 0 on is done with the last number of each. So a group stands behind
-- those that it
-- uses, and where uses leave it open, the order is that of first need.
pub record AreGroups (g : List UseList) (groups : List IndexGroup) : Type 0 where
  pub order : List ℕ
  pub walk : DepthFirst g [] [] (indices (length g)) order
  pub grouped : Grouped g order groups

-- there is one list of groups
abbrev pub GroupsAreOne : Type 0
GroupsAreOne = (g : List UseList) (one other : List IndexGroup) → AreGroups g one → AreGroups g other → one ≡ other
