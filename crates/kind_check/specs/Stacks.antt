-- The kinds that nodes of types of unification spell, on a stack.
use Rattle.std.specs.Prelude.{List, [], ◌∷◌, map, reverse}
use Rattle.bp_base.specs.declared.ty.Kind.{Kind}
use Rattle.hs_core.specs.Types.{KindTerm, star, arrow, kind_term}
use Rattle.type_unify.specs.declared.term.Node.{Node}
use Rattle.type_unify.specs.declared.term.Node.TheVariants.{Flex, Rigid, Con, App, Swapped}

-- the kinds of a stack, the last one first
abbrev pub stacked : List Kind → List KindTerm
stacked ks = map kind_term (reverse ks)

-- the two kinds on top become one: that of the parameter below that of the result
abbrev pub joined_kinds : List KindTerm → List KindTerm
joined_kinds [] = []
joined_kinds (to ∷ []) = to ∷ []
joined_kinds (to ∷ from ∷ ks) = arrow from to ∷ ks

-- or above it
abbrev pub joined_back : List KindTerm → List KindTerm
joined_back [] = []
joined_back (from ∷ []) = from ∷ []
joined_back (from ∷ to ∷ ks) = arrow from to ∷ ks

-- the kinds after one more node
abbrev pub kinds_after : Node → List KindTerm → List KindTerm
kinds_after (Flex i) ks = star ∷ ks
kinds_after (Rigid i) ks = star ∷ ks
kinds_after (Con n k) ks = star ∷ ks
kinds_after App ks = joined_kinds ks
kinds_after Swapped ks = joined_back ks

-- the kinds after all nodes
abbrev pub kinds_read : List KindTerm → List Node → List KindTerm
kinds_read ks [] = ks
kinds_read ks (n ∷ ns) = kinds_read (kinds_after n ks) ns
