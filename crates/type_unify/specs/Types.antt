-- Types with unknowns, what makes two of them equal, and bindings of unknowns with their solutions.
use Rattle.std.specs.Prelude.{◌≡◌, ℕ, Bool, true, false, List, [], ◌∷◌}
use Rattle.bp_base.specs.declared.ty.OrigName.{OrigName}
use Rattle.bp_base.specs.declared.ty.Kind.{Kind}
use Rattle.bp_base.specs.declared.ty.Kind.TheVariants.{Star}
use Rattle.type_terms.specs.Terms.{Term, var, app, applied, with_constructors, occurs_in, replaced, Every}

-- a constructor of types: a rigid variable, or an original name with its kind
pub data Head : Type 0 where
  rigid : (id : ℕ) → Head
  named : (name : OrigName) (kind : Kind) → Head

-- a type whose variables are unknowns
abbrev pub Plain : Type 0
Plain = Term ℕ Head

-- a constructor without the kind that it carries
abbrev pub bare_head : Head → Head
bare_head (rigid i) = rigid i
bare_head (named n k) = named n Star

-- a type without the kinds that its names carry
abbrev pub bare : Plain → Plain
bare t = with_constructors bare_head t

-- two types are equal where they are one term over original names and variables
abbrev pub Same : Plain → Plain → Type 0
Same t u = bare t ≡ bare u

-- what each unknown stands for
abbrev pub Assignment : Type 0
Assignment = ℕ → Plain

-- the assignment makes the two types equal
abbrev pub Equals : Assignment → Plain → Plain → Type 0
Equals s t u = Same (applied s t) (applied s u)

-- an unknown and the type that it is bound to
pub record Bound : Type 0 where
  pub id : ℕ
  pub term : Plain

-- the unknowns that are bound, the oldest first
abbrev pub ids : List Bound → List ℕ
ids [] = []
ids (b ∷ bs) = b.id ∷ ids bs

-- the assignment meets every binding
abbrev pub Solves : Assignment → List Bound → Type 0
Solves s [] = Unit {0}
Solves s (b ∷ bs) = Equals s (var b.id) b.term × Solves s bs

-- a type with the bindings applied, one after another
abbrev pub resolved : List Bound → Plain → Plain
resolved [] t = t
resolved (b ∷ bs) t = resolved bs (replaced b.id b.term t)

-- no binding has the unknown, on either side
abbrev pub Absent : ℕ → List Bound → Type 0
Absent x [] = Unit {0}
Absent x (b ∷ bs) = (occurs_in x (app (var b.id) b.term) ≡ false) × Absent x bs

-- no unknown occurs in its own type, nor in a later binding
abbrev pub IsTriangular : List Bound → Type 0
IsTriangular [] = Unit {0}
IsTriangular (b ∷ bs) = (occurs_in b.id b.term ≡ false) × Absent b.id bs × IsTriangular bs

-- none of the bound unknowns occurs in the type
abbrev pub Clear : List Bound → Plain → Type 0
Clear [] t = Unit {0}
Clear (b ∷ bs) t = (occurs_in b.id t ≡ false) × Clear bs t

-- every unknown of the bindings passes one test, and every constructor another
abbrev pub EveryBound : (ℕ → Bool) → (Head → Bool) → List Bound → Type 0
EveryBound p q [] = Unit {0}
EveryBound p q (b ∷ bs) = (p b.id ≡ true) × Every p q b.term × EveryBound p q bs
