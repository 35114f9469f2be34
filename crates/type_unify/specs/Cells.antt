-- A table of nodes in which the parts of an application stand by their numbers, and the types and bindings that it
-- holds.
use Rattle.std.specs.Prelude.{◌≡◌, ℕ, suc, ◌<◌, Bool, false, nat_eq, if◌then◌else◌, List, [], ◌∷◌, ◌++◌, length, Some}
use Rattle.std.specs.Prelude.{None}
use Rattle.std.proofs.Common.{get_or}
use Rattle.std.specs.Map.{lookup}
use Rattle.type_terms.specs.Terms.{var, con, app}
use Rattle.type_unify.specs.Types.{Plain, rigid, Bound, resolved, IsTriangular, named}
use Rattle.type_unify.specs.declared.cell.Cell.{Cell}
use Rattle.type_unify.specs.declared.cell.Cell.TheVariants.{Flex, Rigid, Con, App}

-- the type of this number
abbrev pub at : List Plain → ℕ → Plain
at ts i = get_or ts i (con (rigid 0))

-- the node is no unknown
abbrev pub NotFlex : Cell → Type 0
NotFlex (Flex i) = ⊥
NotFlex (Rigid i) = Unit {0}
NotFlex (Con n k) = Unit {0}
NotFlex (App f a) = Unit {0}

-- the type of a node, from those of the numbers
abbrev pub made : List Plain → Cell → Plain
made ts (Flex i) = var i
made ts (Rigid i) = con (rigid i)
made ts (Con n k) = con (named n k)
made ts (App f a) = app (at ts f) (at ts a)

abbrev pub built : List Plain → List Cell → List Plain
built ts [] = ts
built ts (c ∷ cs) = built (ts ++ made ts c ∷ []) cs

-- the types of all numbers
unfoldable pub trees : List Cell → List Plain
trees cs = built [] cs

-- the bindings that the entries make, each an unknown with the number of its type: a binding's type has the older ones
-- applied
abbrev pub bounds_after : List Plain → List Bound → List (ℕ × ℕ) → List Bound
bounds_after ts bs [] = bs
bounds_after ts bs (e ∷ es) = bounds_after ts (bs ++ record { id = e.0; term = resolved bs (at ts e.1) } ∷ []) es

unfoldable pub bounds : List Cell → List (ℕ × ℕ) → List Bound
bounds cs es = bounds_after (trees cs) [] es

-- the type of a number with all bindings applied
unfoldable pub seen : List Cell → List (ℕ × ℕ) → ℕ → Plain
seen cs es i = resolved (bounds cs es) (at (trees cs) i)

abbrev pub is_flex : ℕ → Plain → Bool
is_flex x (var i) = nat_eq x i
is_flex x (con h) = false
is_flex x (app f a) = false

-- how many bindings lead from a type that is an unknown to what it stands for
abbrev pub hops_in : List Bound → Plain → ℕ
hops_in [] t = 0
hops_in (b ∷ bs) t = if is_flex b.id t then suc (hops_in bs b.term) else hops_in bs t

unfoldable pub hops : List Cell → List (ℕ × ℕ) → Plain → ℕ
hops cs es t = hops_in (bounds cs es) t

-- the number's type is that of this node, whose parts are numbers of the table
abbrev pub Wire : List Plain → ℕ → Plain → Cell → Type 0
Wire ts m t (Flex i) = t ≡ var i
Wire ts m t (Rigid i) = t ≡ con (rigid i)
Wire ts m t (Con n k) = t ≡ con (named n k)
Wire ts m t (App f a) = (t ≡ app (at ts f) (at ts a)) × (f < m) × (a < m)

-- the entries' types are numbers below m
abbrev pub Inside : ℕ → List (ℕ × ℕ) → Type 0
Inside m [] = Unit {0}
Inside m (e ∷ es) = (e.1 < m) × Inside m es

-- an entry's unknown stands for the entry's type, which is nearer to what both stand for
pub record IsBoundAt (cs : List Cell) (es : List (ℕ × ℕ)) (x n : ℕ) : Type 0 where
  pub within : n < length cs
  pub same : resolved (bounds cs es) (var x) ≡ seen cs es n
  pub nearer : hops cs es (at (trees cs) n) < hops cs es (var x)

pub record IsTable (cs : List Cell) (es : List (ℕ × ℕ)) : Type 0 where
  pub wired : (i : ℕ) (c : Cell) → i < length cs → c ≡ get_or cs i c → Wire (trees cs) (length cs) (at (trees cs) i) c
  pub triangular : IsTriangular (bounds cs es)
  pub holds : (x n : ℕ) → lookup (nat_eq x) es ≡ Some n → IsBoundAt cs es x n
  pub free : (x : ℕ) → lookup (nat_eq x) es ≡ None → hops cs es (var x) ≡ 0
  pub inside : Inside (length cs) es
