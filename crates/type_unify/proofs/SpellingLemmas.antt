-- Laws of types written as nodes.
use Rattle.std.proofs.Common.{◌≡◌, List, [], ◌∷◌, ◌++◌, sym, ap, subst, ◌∙◌}
use Rattle.type_terms.specs.Terms.{app}
use Rattle.type_unify.specs.Types.{Plain}
use Rattle.type_unify.specs.Written.{read, spelled, AreNodesOf, top, nodes_of}
use Rattle.type_unify.specs.Codes.{read-append, AreNodesOf-nodes_of}
use Rattle.type_unify.specs.declared.term.Node.{Node}
use Rattle.type_unify.specs.declared.term.Node.TheVariants.{App, Swapped}

pub spelled_is : (ns : List Node) (t : Plain) → AreNodesOf ns t → spelled ns ≡ t
spelled_is ns t h = ap top (h [])

pub AreNodesOf-own : (ns : List Node) (t : Plain) → AreNodesOf ns t → AreNodesOf ns (spelled ns)
AreNodesOf-own ns t h = subst (AreNodesOf ns) (sym (spelled_is ns t h)) h

two : (f a rest : List Node) (t u : Plain) → AreNodesOf f t → AreNodesOf a u → (ts : List Plain)
    → read ts (f ++ a ++ rest) ≡ read (u ∷ t ∷ ts) rest
two f a rest t u p q ts =
    read-append ts (f ++ a) rest ∙ ap (λ r. read r rest) (read-append ts f a ∙ ap (λ r. read r a) (p ts) ∙ q (t ∷ ts))

pub AreNodesOf-app : (f a all : List Node) (t u : Plain) → all ≡ f ++ a ++ App ∷ [] → AreNodesOf f t → AreNodesOf a u
    → AreNodesOf all (app t u)
AreNodesOf-app f a all t u e p q = subst (λ ns. AreNodesOf ns (app t u)) (sym e) (λ ts. two f a (App ∷ []) t u p q ts)

pub AreNodesOf-swapped : (f a all : List Node) (t u : Plain) → all ≡ a ++ f ++ Swapped ∷ [] → AreNodesOf f t
    → AreNodesOf a u → AreNodesOf all (app t u)
AreNodesOf-swapped f a all t u e p q = subst (λ ns. AreNodesOf ns (app t u)) (sym e)
    (λ ts. two a f (Swapped ∷ []) u t q p ts)

-- what was written for a type spells it
pub AreNodesOf-made : (ns : List Node) (t : Plain) → ns ≡ nodes_of t → AreNodesOf ns t
AreNodesOf-made ns t e = subst (λ m. AreNodesOf m t) (sym e) (AreNodesOf-nodes_of t)

pub spelled-made : (ns : List Node) (t : Plain) → ns ≡ nodes_of t → spelled ns ≡ t
spelled-made ns t e = spelled_is ns t (AreNodesOf-made ns t e)
