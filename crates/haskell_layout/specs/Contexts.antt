-- What the contexts of a stack, from the outermost on, stand for.
use Rattle.std.specs.Prelude.{◌≡◌, List, [], ◌∷◌}
use Rattle.haskell_layout.specs.declared.stack.Item.{Item}
use Rattle.haskell_layout.specs.declared.stack.Context.{Context}
use Rattle.haskell_layout.specs.Stack.{reach_of}

-- what is open with the contexts, inside of what was open before
abbrev pub opened : List Item → List Context → List Item
opened outer [] = outer
opened outer (context ∷ inner) = opened (context.item ∷ outer) inner

-- each context has what is found from it
abbrev pub Kept : List Item → List Context → Type 0
Kept outer [] = Unit {0}
Kept outer (context ∷ inner) = (context.reach ≡ reach_of (context.item ∷ outer)) × Kept (context.item ∷ outer) inner
