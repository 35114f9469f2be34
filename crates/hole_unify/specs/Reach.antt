-- Which classes a class reaches through fills.
use Rattle.std.specs.Prelude.{◌≡◌, ℕ, zero, suc, ◌<◌, ◌+◌, Bool, true, false, ◌&&◌, ◌||◌, not, List, [], ◌∷◌, ◌++◌}
use Rattle.std.specs.Prelude.{length, get_or, Option, Some, None, if◌then◌else◌, nat_eq, map}
use Rattle.std.specs.Ordering.{nat_cmp}
use Rattle.std.specs.Cmp.Lexicographic.{slice_cmp}
use Rattle.std.specs.declared.cmp.Ordering.{Ordering}
use Rattle.std.specs.declared.cmp.Ordering.TheVariants.{Less, Equal, Greater}
use Rattle.bp_base.specs.Lists.{Among}
use Rattle.bp_base.specs.Texts.{Text}
use Rattle.bp_base.specs.declared.ident.Ident.{Ident}
use Rattle.bp_base.specs.declared.ident.Ident.TheVariants.{Hole, Module'}
use Rattle.bp_base.specs.declared.ident.Unit.{out-Unit}
use Rattle.bp_base.specs.declared.ident.Fill.{Fill}
use Rattle.bp_base.specs.declared.ident.Ident.TheBlock.{end_of-Unit, more_of-Unit}
use Rattle.unit_identity.specs.Fill.{found}
use Rattle.ident_table.specs.declared.node.NumberFill.{NumberFill}
use Rattle.ident_table.specs.declared.node.IdentNode.{IdentNode}
use Rattle.ident_table.specs.declared.node.IdentNode.TheVariants as node
use Rattle.hole_unify.specs.Table.{Node}
use Rattle.hole_unify.specs.declared.edge.Edge.{Edge}
use Rattle.hole_unify.specs.Numbers.{number_at}
use Rattle.hole_unify.specs.Table.{class_at}

abbrev pub class_edge : ℕ → Option ℕ → List Edge
class_edge from None = []
class_edge from (Some to) = record { from = from; to = to } ∷ []

abbrev pub fill_edge : List Node → ℕ → Option Ident → List Edge
fill_edge nodes from None = []
fill_edge nodes from (Some i) = class_edge from (class_at i nodes)

abbrev pub fills_edges : List Node → ℕ → List Fill → List Fill → List Edge
fills_edges nodes from all [] = []
fills_edges nodes from all (f ∷ rest) = fill_edge nodes from (found f.hole all) ++ fills_edges nodes from all rest

abbrev pub term_edges : List Node → ℕ → Ident → List Edge
term_edges nodes from (Hole n) = []
term_edges nodes from (Module' s (more_of-Unit u end_of-Unit) m) =
    fills_edges nodes from (out-Unit u).fills (out-Unit u).fills

-- from the class of each module to those of its fills
abbrev pub edges_of : List Node → List Node → List Edge
edges_of nodes [] = []
edges_of nodes (x ∷ rest) = term_edges nodes x.class x.ident ++ edges_of nodes rest

-- the same edges by the numbers of a table
abbrev pub number_edge : List ℕ → ℕ → Option ℕ → List Edge
number_edge classes from None = []
number_edge classes from (Some n) = record { from = from; to = get_or classes n 0 } ∷ []

abbrev pub number_edges : List ℕ → ℕ → List NumberFill → List NumberFill → List Edge
number_edges classes from all [] = []
number_edges classes from all (f ∷ rest) = number_edge classes from (number_at f.hole all)
    ++ number_edges classes from all rest

abbrev pub node_edges : List ℕ → ℕ → IdentNode → List Edge
node_edges classes from (node.Hole n) = []
node_edges classes from (node.Module c fs m) = number_edges classes from fs fs

abbrev pub holds : ℕ → List ℕ → Bool
holds k [] = false
holds k (n ∷ ns) = nat_eq n k || holds k ns

-- the ends of the edges from a class
abbrev pub ends_of : ℕ → List Edge → List ℕ
ends_of k [] = []
ends_of k (e ∷ es) = if nat_eq e.from k then e.to ∷ ends_of k es else ends_of k es

-- those from each class below a number
abbrev pub ends_upto : ℕ → List Edge → List (List ℕ)
ends_upto zero es = []
ends_upto (suc n) es = ends_upto n es ++ ends_of n es ∷ []

-- how many classes are not marked
abbrev pub free : List Bool → ℕ
free [] = 0
free (true ∷ marks) = free marks
free (false ∷ marks) = free marks + 1

-- the ends of the edges from each class are below a number
abbrev pub AreBelow : ℕ → List (List ℕ) → Type 0
AreBelow n lists = (ks : List ℕ) → Among ks lists → (k : ℕ) → Among k ks → k < n

-- the marks say which classes are among those
abbrev pub Agree : List Bool → List ℕ → Type 0
Agree marks done = (k : ℕ) → k < length marks → get_or marks k false ≡ holds k done

abbrev pub visited : List ℕ → ℕ → List ℕ
visited done k = if holds k done then done else done ++ k ∷ []

abbrev pub all_visited : List ℕ → List ℕ → List ℕ
all_visited done [] = done
all_visited done (k ∷ ks) = all_visited (visited done k) ks

-- the first class that one step more reaches
abbrev pub next_reached : ℕ → List ℕ → List Edge → Option ℕ
next_reached k done [] = None
next_reached k done (e ∷ es) = if (nat_eq e.from k || holds e.from done) && not
    (holds e.to done) then Some e.to else next_reached k done es

abbrev pub with_one : List ℕ → Option ℕ → List ℕ
with_one done None = done
with_one done (Some n) = done ++ n ∷ []

-- as many steps as there are edges
abbrev pub reached : ℕ → List Edge → List ℕ → List Edge → List ℕ
reached k all done [] = done
reached k all done (e ∷ turns) = reached k all (with_one done (next_reached k done all)) turns

abbrev pub on_cycle : ℕ → List Edge → Bool
on_cycle k all = holds k (reached k all [] all)

-- each edge leads to a lower rank
abbrev pub Fall : List ℕ → List Edge → Type 0
Fall ranks edges = (e : Edge) → Among e edges → get_or ranks e.to 0 < get_or ranks e.from 0

-- whether the start is among those that are reached
abbrev pub IsReached : List (List ℕ) → ℕ → List ℕ → Type 0
IsReached lists start done = (edges : List Edge) → lists ≡ ends_upto (length lists) edges
    → holds start done ≡ on_cycle start edges

-- the lesser of two names, where there are two
abbrev pub before : Ordering → Text → Text → Text
before Less new old = new
before Equal new old = old
before Greater new old = old

abbrev pub lesser : Option Text → Option Text → Option Text
lesser best None = best
lesser None (Some new) = Some new
lesser (Some old) (Some new) = Some (before (slice_cmp nat_cmp new old) new old)

-- the least of the names
abbrev pub least_from : Option Text → List (Option Text) → Option Text
least_from best [] = best
least_from best (o ∷ os) = least_from (lesser best o) os

-- the hole of the node, where its class reaches itself
abbrev pub term_cycle : List Edge → ℕ → Ident → Option Text
term_cycle all k (Hole n) = if on_cycle k all then Some n else None
term_cycle all k (Module' s r m) = None

abbrev pub hole_cycle : List Edge → Node → Option Text
hole_cycle all x = term_cycle all x.class x.ident

abbrev pub least_cycle : List Edge → List Node → Option Text
least_cycle all nodes = least_from None (map (hole_cycle all) nodes)
