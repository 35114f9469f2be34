-- How a type is written as a list of nodes, the parts of an application before it.
use Rattle.std.specs.Prelude.{◌≡◌, List, [], ◌∷◌, ◌++◌}
use Rattle.type_terms.specs.Terms.{var, con, app}
use Rattle.type_unify.specs.Types.{Plain, rigid, named}
use Rattle.type_unify.specs.declared.term.Node.{Node}
use Rattle.type_unify.specs.declared.term.Node.TheVariants.{Flex, Rigid, Con, App, Swapped}

-- the two types on top become one: the function below its argument
abbrev pub joined : List Plain → List Plain
joined [] = []
joined (a ∷ []) = a ∷ []
joined (a ∷ f ∷ ts) = app f a ∷ ts

-- or above it
abbrev pub joined_back : List Plain → List Plain
joined_back [] = []
joined_back (f ∷ []) = f ∷ []
joined_back (f ∷ a ∷ ts) = app f a ∷ ts

-- the types after one more node
abbrev pub read_node : Node → List Plain → List Plain
read_node (Flex i) ts = var i ∷ ts
read_node (Rigid i) ts = con (rigid i) ∷ ts
read_node (Con n k) ts = con (named n k) ∷ ts
read_node App ts = joined ts
read_node Swapped ts = joined_back ts

-- the types after all nodes, the last one first
abbrev pub read : List Plain → List Node → List Plain
read ts [] = ts
read ts (n ∷ ns) = read (read_node n ts) ns

abbrev pub top : List Plain → Plain
top [] = con (rigid 0)
top (t ∷ ts) = t

-- the type that the nodes spell
abbrev pub spelled : List Node → Plain
spelled ns = top (read [] ns)

-- the nodes spell this one type, whatever stands before them
abbrev pub AreNodesOf : List Node → Plain → Type 0
AreNodesOf ns t = (ts : List Plain) → read ts ns ≡ t ∷ ts

-- the nodes of a type, functions first
abbrev pub nodes_of : Plain → List Node
nodes_of (var i) = Flex i ∷ []
nodes_of (con (rigid i)) = Rigid i ∷ []
nodes_of (con (named n k)) = Con n k ∷ []
nodes_of (app f a) = nodes_of f ++ nodes_of a ++ App ∷ []
