-- Stacks of numbers whose types are still to be looked at.
use Rattle.std.specs.Prelude.{◌≡◌, ℕ, ◌+◌, ◌*◌, ◌<◌, Bool, true, false, ◌||◌, List, [], ◌∷◌, ◌++◌}
use Rattle.type_terms.specs.Terms.{occurs_in}
use Rattle.type_unify.specs.Types.{Plain}
use Rattle.type_unify.specs.Written.{nodes_of}
use Rattle.type_unify.specs.Steps.{size}
use Rattle.type_unify.specs.declared.term.Node.{Node}
use Rattle.type_unify.specs.declared.term.Node.TheVariants.{App}
use Rattle.type_unify.specs.declared.spell.Task.{Task}
use Rattle.type_unify.specs.declared.spell.Task.TheVariants.{Visit, Join}

-- whether the unknown occurs in one of the types
abbrev pub occurs_among : ℕ → (ℕ → Plain) → List ℕ → Bool
occurs_among x f [] = false
occurs_among x f (i ∷ is) = occurs_in x (f i) || occurs_among x f is

-- how many nodes the types have
abbrev pub sizes : (ℕ → Plain) → List ℕ → ℕ
sizes f [] = 0
sizes f (i ∷ is) = size (f i) + sizes f is

abbrev pub Below : ℕ → List ℕ → Type 0
Below m [] = Unit {0}
Below m (i ∷ is) = (i < m) × Below m is

-- the nodes that a stack of tasks has yet to write, the last task first
abbrev pub written : (ℕ → Plain) → List Task → List Node
written f [] = []
written f (Visit i ∷ ts) = written f ts ++ nodes_of (f i)
written f (Join ∷ ts) = written f ts ++ App ∷ []

-- the parts of a type that isn't the unknown go onto the stack
pub record Unseen (f : ℕ → Plain) (m x i : ℕ) (old new : List ℕ) : Type 0 where
  pub same : occurs_among x f new ≡ (occurs_in x (f i) || occurs_among x f old)
  pub fewer : sizes f new < size (f i) + sizes f old
  pub within : Below m old → Below m new

abbrev pub Looks : (ℕ → Plain) → ℕ → ℕ → ℕ → List ℕ → List ℕ → Bool → Type 0
Looks f m x i old new true = occurs_in x (f i) ≡ true
Looks f m x i old new false = Unseen f m x i old new

-- the types of a stack of numbers, the last one first
abbrev pub types_of : (ℕ → Plain) → List ℕ → List Plain
types_of f [] = []
types_of f (i ∷ is) = types_of f is ++ f i ∷ []

-- all numbers of the tasks are below m
abbrev pub TasksBelow : ℕ → List Task → Type 0
TasksBelow m [] = Unit {0}
TasksBelow m (Visit i ∷ ts) = (i < m) × TasksBelow m ts
TasksBelow m (Join ∷ ts) = TasksBelow m ts

-- what is left to do
abbrev pub load : (ℕ → Plain) → List Task → ℕ
load f [] = 0
load f (Visit i ∷ ts) = 2 * size (f i) + load f ts
load f (Join ∷ ts) = 1 + load f ts
