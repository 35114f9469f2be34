-- Codes of types and bindings, by which a proof tells them apart.
use Rattle.std.specs.Prelude.{◌≡◌, ℕ, List, [], ◌∷◌, ◌++◌, refl}
use Rattle.std.specs.Coded.{Coded, code_by, coded×, coded_ℕ, coded_list}
use mathlib.Core.Path.{ap, ◌∙◌}
use Rattle.type_terms.specs.Terms.{var, con, app}
use Rattle.type_unify.specs.Types.{Plain, rigid, Bound, named}
use Rattle.type_unify.specs.declared.term.Node.{Node}
use Rattle.type_unify.specs.contracts.term.Node as node
use Rattle.type_unify.specs.Written.{read, read_node, joined, spelled, AreNodesOf, top, nodes_of}

pub read-append : (ts : List Plain) (ms ns : List Node) → read ts (ms ++ ns) ≡ read (read ts ms) ns
read-append ts [] ns = refl
read-append ts (m ∷ ms) ns = read-append (read_node m ts) ms ns

pub AreNodesOf-nodes_of : (t : Plain) → AreNodesOf (nodes_of t) t
AreNodesOf-nodes_of (var i) ts = refl
AreNodesOf-nodes_of (con (rigid i)) ts = refl
AreNodesOf-nodes_of (con (named n k)) ts = refl
AreNodesOf-nodes_of (app f a) ts =
    read-append ts (nodes_of f ++ nodes_of a) _ ∙ ap (λ r. joined r) (read-append ts (nodes_of f) (nodes_of a)
    ∙ ap (λ r. read r (nodes_of a)) (AreNodesOf-nodes_of f ts) ∙ AreNodesOf-nodes_of a (f ∷ ts))

abbrev pub coded_plain : Coded Plain
coded_plain = code_by (List Node) (coded_list node.the_row.coded) nodes_of spelled
    (λ t. ap top (AreNodesOf-nodes_of t []))

abbrev pub coded_bounds : Coded (List Bound)
coded_bounds =
    coded_list (code_by (ℕ × Plain) (coded× coded_ℕ coded_plain) (λ b. (b.id, b.term))
    (λ p. record { id = p.0; term = p.1 }) (λ _. refl))
