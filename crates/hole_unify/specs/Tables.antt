-- What a table of terms keeps.
use Rattle.std.specs.Prelude.{◌≡◌, ℕ, ◌<◌, List, length}
use Rattle.bp_base.specs.declared.ident.Ident.{Ident}
use Rattle.bp_base.specs.Lists.{Among}
use Rattle.hole_unify.specs.declared.equation.Equation.{Equation}
use Rattle.hole_unify.specs.Table.{Node}
use Rattle.hole_unify.specs.Classes.{Same}
use Rattle.hole_unify.specs.Table.{terms_in}

-- the term has this class
abbrev pub In : List Node → Ident → ℕ → Type 0
In nodes t k = (x : Node) × Among x nodes × (x.ident ≡ t) × (x.class ≡ k)

-- the two terms have one class
abbrev pub One : List Node → Ident → Ident → Type 0
One nodes a b = (k : ℕ) × In nodes a k × In nodes b k

-- the table of the terms of these equations: equal terms have one class, whose number is below the number of nodes, and
-- terms of
-- one class are the same by the equations
pub record IsTable (es : List Equation) (nodes : List Node) : Type 0 where
  pub listed : (t : Ident) → Among t (terms_in es) → (k : ℕ) × In nodes t k
  pub only : (x : Node) → Among x nodes → Among x.ident (terms_in es)
  pub one : (t : Ident) (k l : ℕ) → In nodes t k → In nodes t l → k ≡ l
  pub below : (x : Node) → Among x nodes → x.class < length nodes
  pub sound : (x y : Node) → Among x nodes → Among y nodes → x.class ≡ y.class → Same es x.ident y.ident

-- each equation's sides are of one class
pub record IsJoined (es : List Equation) (nodes : List Node) : Type 0 where
  pub table : IsTable es nodes
  pub stated : (e : Equation) → Among e es → One nodes e.left e.right
