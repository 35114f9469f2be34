-- The steps of unification over a table of nodes.
use Rattle.std.specs.Prelude.{◌≡◌, ◌↔◌, ℕ, ◌+◌, ◌<◌, ◌^◌, Bool, true, List, [], ◌∷◌, length}
use Rattle.type_terms.specs.Terms.{var, con, app, Every}
use Rattle.type_unify.specs.Types.{Head, Plain, rigid, Assignment, Equals, named}
use Rattle.type_unify.specs.declared.cell.Cell.{Cell}
use Rattle.type_unify.specs.declared.cell.Cell.TheVariants.{Flex, Rigid, Con, App}
use Rattle.type_unify.specs.Cells.{at, trees, seen, hops}

-- the number where a walk over bound unknowns ends
pub record Walked (cs : List Cell) (es : List (ℕ × ℕ)) (start end : ℕ) : Type 0 where
  pub within : end < length cs
  pub same : seen cs es end ≡ seen cs es start
  pub free : hops cs es (at (trees cs) end) ≡ 0

-- one step of such a walk
pub record Nearer (cs : List Cell) (es : List (ℕ × ℕ)) (here next : ℕ) : Type 0 where
  pub within : next < length cs
  pub same : seen cs es next ≡ seen cs es here
  pub fewer : hops cs es (at (trees cs) next) < hops cs es (at (trees cs) here)

-- the type that is seen is that of this node
abbrev pub Shown : List Cell → List (ℕ × ℕ) → Plain → Cell → Type 0
Shown cs es t (Flex i) = t ≡ var i
Shown cs es t (Rigid i) = t ≡ con (rigid i)
Shown cs es t (Con n k) = t ≡ con (named n k)
Shown cs es t (App f a) = (t ≡ app (seen cs es f) (seen cs es a)) × (f < length cs) × (a < length cs)

-- two nodes other than unknowns that are one leaf
abbrev pub SameLeaf : Cell → Cell → Type 0
SameLeaf (Rigid i) (Rigid j) = i ≡ j
SameLeaf (Con n k) (Con m l) = n ≡ m
SameLeaf _ _ = ⊥

-- two nodes other than unknowns whose types nothing makes equal
abbrev pub Apart : Cell → Cell → Type 0
Apart (Rigid i) (Rigid j) = i ≡ j → ⊥
Apart (Con n k) (Con m l) = n ≡ m → ⊥
Apart (App f a) (App g b) = ⊥
Apart _ _ = Unit {0}

-- the assignment makes the types of each pair equal
abbrev pub AllEqual : Assignment → (ℕ → Plain) → List (ℕ × ℕ) → Type 0
AllEqual s f [] = Unit {0}
AllEqual s f (p ∷ ps) = Equals s (f p.0) (f p.1) × AllEqual s f ps

-- every unknown and every name of the pairs passes its test
abbrev pub EveryPair : (ℕ → Bool) → (Head → Bool) → (ℕ → Plain) → List (ℕ × ℕ) → Type 0
EveryPair p q f [] = Unit {0}
EveryPair p q f (e ∷ es) = Every p q (f e.0) × Every p q (f e.1) × EveryPair p q f es

-- the pairs are numbers of the table
abbrev pub AllWithin : ℕ → List (ℕ × ℕ) → Type 0
AllWithin m [] = Unit {0}
AllWithin m (p ∷ ps) = (p.0 < m) × (p.1 < m) × AllWithin m ps

-- how many nodes a type has
abbrev pub size : Plain → ℕ
size (var i) = 1
size (con h) = 1
size (app f a) = size f + size a + 1

abbrev pub weight : (ℕ → Plain) → List (ℕ × ℕ) → ℕ
weight f [] = 0
weight f (p ∷ ps) = size (f p.0) + size (f p.1) + weight f ps

-- an unknown that is free and is to stand for the type of a number that isn't itself
pub record Free (cs : List Cell) (es : List (ℕ × ℕ)) (x n : ℕ) : Type 0 where
  pub in_range : x < 2 ^ 64
  pub within : n < length cs
  pub free : hops cs es (var x) ≡ 0
  pub ends : hops cs es (at (trees cs) n) ≡ 0
  pub other : seen cs es n ≡ var x → ⊥

-- equations on pairs of numbers that have the same solutions
pub record Follows (f : ℕ → Plain) (m : ℕ) (old new : List (ℕ × ℕ)) : Type 0 where
  pub same : (s : Assignment) → AllEqual s f old ↔ AllEqual s f new
  pub closed : (p : ℕ → Bool) (q : Head → Bool) → EveryPair p q f old → EveryPair p q f new
  pub within : AllWithin m old → AllWithin m new

-- equations that ask for one more binding
pub record Asks (cs : List Cell) (es : List (ℕ × ℕ)) (old new : List (ℕ × ℕ)) (x n : ℕ) : Type 0 where
  pub free : Free cs es x n
  pub same : (s : Assignment) → AllEqual s (seen cs es) old ↔ Equals s (var x) (seen cs es n)
      × AllEqual s (seen cs es) new
  pub closed : (p : ℕ → Bool) (q : Head → Bool) → EveryPair p q (seen cs es) old
      → (p x ≡ true) × Every p q (seen cs es n) × EveryPair p q (seen cs es) new
  pub within : AllWithin (length cs) old → AllWithin (length cs) new
