-- What two types ask for.
use Rattle.std.specs.Prelude.{◌≡◌, ◌⊎◌, ℕ, ◌<◌, List, length}
use Rattle.type_terms.specs.Terms.{var, app}
use Rattle.type_unify.specs.Types.{Same, Assignment, Equals}
use Rattle.type_unify.specs.declared.cell.Cell.{Cell}
use Rattle.type_unify.specs.declared.cell.Cell.TheVariants.{App}
use Rattle.type_unify.specs.Cells.{seen}
use Rattle.type_unify.specs.Steps.{SameLeaf, Apart, Free}
use Rattle.type_unify.specs.declared.compare.Difference.{Difference}
use Rattle.type_unify.specs.declared.compare.Difference.TheVariants.{Same as Equal, Parts, Bind, Clash}

-- of two nodes that are no unknowns
abbrev pub Differs : Cell → Cell → Difference → Type 0
Differs c d Equal = SameLeaf c d
Differs c d (Parts f a) = (c ≡ App f.0 a.0) × (d ≡ App f.1 a.1)
Differs c d (Bind x n) = ⊥
Differs c d Clash = Apart c d

-- both are applications, of these parts
pub record PartsOf (cs : List Cell) (es : List (ℕ × ℕ)) (a b : ℕ) (fun arg : ℕ × ℕ) : Type 0 where
  pub left : seen cs es a ≡ app (seen cs es fun.0) (seen cs es arg.0)
  pub right : seen cs es b ≡ app (seen cs es fun.1) (seen cs es arg.1)
  pub left_fun : fun.0 < length cs
  pub right_fun : fun.1 < length cs
  pub left_arg : arg.0 < length cs
  pub right_arg : arg.1 < length cs

-- one is a free unknown, and the other is the type of this number
pub record BindOf (cs : List Cell) (es : List (ℕ × ℕ)) (a b x n : ℕ) : Type 0 where
  pub free : Free cs es x n
  pub ends : (seen cs es a ≡ var x) × (seen cs es b ≡ seen cs es n) ⊎ (seen cs es b ≡ var x)
      × (seen cs es a ≡ seen cs es n)

abbrev pub Tells : List Cell → List (ℕ × ℕ) → ℕ → ℕ → Difference → Type 0
Tells cs es a b Equal = Same (seen cs es a) (seen cs es b)
Tells cs es a b (Parts f g) = PartsOf cs es a b f g
Tells cs es a b (Bind x n) = BindOf cs es a b x n
Tells cs es a b Clash = (s : Assignment) → Equals s (seen cs es a) (seen cs es b) → ⊥
