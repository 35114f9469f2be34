-- What closed classes come to.
use Rattle.std.proofs.Common.{◌≡◌, ℕ, ◌<◌, ◌≤◌, Bool, true, false, cond, List, ◌++◌, length, take, drop, append-nil}
use Rattle.std.proofs.Common.{map, refl, ap, sym, ◌∙◌, subst, arith}
use Rattle.std.specs.Prelude.{Option, Some, None}
use Rattle.std.proofs.lemmas.List.{take_all, drop_all}
use Rattle.std.proofs.lemmas.Option.{slice_get_within, same_Some}
use Rattle.bp_base.proofs.SetLemmas.{among-map, among-image}
use Rattle.bp_base.specs.declared.ident.Ident.{Ident}
use Rattle.bp_base.specs.declared.ident.Ident.TheVariants.{Hole, Module'}
use Rattle.bp_base.specs.Lists.{Among}
use Rattle.bp_base.specs.Texts.{Text}
use Rattle.ident_table.specs.Numbers.{ident_of}
use Rattle.hole_unify.specs.declared.equation.Equation.{Equation}
use Rattle.hole_unify.specs.declared.equation.Head.{Head}
use Rattle.hole_unify.specs.declared.edge.Edge.{Edge}
use Rattle.hole_unify.specs.Classes.{HasHeads, IsLeastCycle}
use Rattle.hole_unify.specs.Table.{Node, nodes_of}
use Rattle.hole_unify.specs.Tables.{In}
use Rattle.hole_unify.specs.Close.{IsSettled}
use Rattle.hole_unify.specs.Reach.{edges_of, on_cycle, term_cycle, hole_cycle, least_cycle}
use Rattle.hole_unify.specs.Solve.{IsFree}
use Rattle.hole_unify.proofs.TableLemmas.{class_at-found}
use Rattle.hole_unify.proofs.GapLemmas.{settled-heads}
use Rattle.hole_unify.proofs.NumberingLemmas.{Among-place, nodes_of-length, place-node, place-ident_of}
use Rattle.hole_unify.proofs.ReachingLemmas.{edge-says, cycle-listed, listed-cycle, least-of}

-- ---- holes on cycles

pub term-cycle : (all : List Edge) (k : ℕ) (i : Ident) (n : Text) → term_cycle all k i ≡ Some n
    → (i ≡ Hole n) × (on_cycle k all ≡ true)
term-cycle all k (Module' s r m) n e = cc
term-cycle all k (Hole m) n e = by (on_cycle k all) refl
  where
    by : (b : Bool) → on_cycle k all ≡ b → (Hole m ≡ Hole n) × (on_cycle k all ≡ true)
    by true d = (ap Hole (same_Some m n (ap (λ b. cond b (Some m) None) (sym d) ∙ e)), d)
    by false d = let f : None ≡ Some n = ap (λ b. cond b (Some m) None) (sym d) ∙ e in cc

pub cycle-among : (all : List Edge) (nodes : List Node) (n : Text) (k : ℕ) → In nodes (Hole n) k → on_cycle k all ≡ true
    → Among (Some n) (map (hole_cycle all) nodes)
cycle-among all nodes n k (x, h, i, c) e =
    let is : hole_cycle all x ≡ Some n = ap (term_cycle all x.class) i
    ∙ ap (λ b. cond b (Some n) None) (ap (λ z. on_cycle z all) c ∙ e) in
    subst (λ o. Among o (map (hole_cycle all) nodes)) is (among-map (hole_cycle all) x nodes h)

cycle-met : (es : List Equation) (nodes : List Node) (hole : Text) → IsSettled es nodes
    → least_cycle (edges_of nodes nodes) nodes ≡ Some hole
    → ((one other : Head) → HasHeads es one other → ⊥) × IsLeastCycle es hole
cycle-met es nodes hole s e =
    let l = least-of (map (hole_cycle (edges_of nodes nodes)) nodes) hole e in
    let x = among-image (hole_cycle (edges_of nodes nodes)) (Some hole) nodes l.0 in
    let c = term-cycle (edges_of nodes nodes) x.0.class x.0.ident hole x.2 in (
      settled-heads es nodes s,
      record {
        cycle = listed-cycle es nodes s hole x.0.class (x.0, x.1, c.0, refl) c.1;
        least = λ n r b. let k = cycle-listed es nodes s n r in
            l.1 n (cycle-among (edges_of nodes nodes) nodes n k.0 k.1 k.2) b;
      },
    )

-- ---- over the numbers of a table

-- classes that were written through a slice of a vector
pub written : (len : ℕ) (now old : List ℕ) → length now ≡ length old → len ≡ length old
    → take len (now ++ drop (length now) old) ≡ now
written len now old same is =
    let le : length old ≤ length now = omega (arith, same) in
    let short : length now ≤ len = omega (arith, same, is) in
    ap (λ l. take len (now ++ l)) (drop_all (length now) old le) ∙ ap (take len) (append-nil now)
    ∙ take_all len now short

class-node : (table : List Ident) (classes : List ℕ) (k : ℕ) → length classes ≡ length table → Among k classes
    → (x : Node) × Among x (nodes_of table classes) × (x.class ≡ k)
class-node table classes k e h =
    let i = Among-place k classes h in
    let lt : i.0 < length table = let w = slice_get_within classes i.0 k i.1 in omega (arith, w, e) in
    let x = place-node table classes i.0 (ident_of table i.0) k (place-ident_of table i.0 lt) i.1 in (x.0, x.1, x.3)

-- what the search for a cycle asks of classes and edges
pub classes-below : (es : List Equation) (table : List Ident) (classes : List ℕ) → length classes ≡ length table
    → IsSettled es (nodes_of table classes) → (k : ℕ) → Among k classes → k < length classes
classes-below es table classes e s k h =
    let x = class-node table classes k e h in
    let lt = s.joined.table.below x.0 x.1 in
    let is = x.2 in
    let long = nodes_of-length table classes (omega (arith, e)) in omega (arith, lt, is, long)

pub edges-below : (es : List Equation) (table : List Ident) (classes : List ℕ) → length classes ≡ length table
    → IsSettled es (nodes_of table classes)
    → (e : Edge) → Among e (edges_of (nodes_of table classes) (nodes_of table classes))
    → (e.from < length classes) × (e.to < length classes)
edges-below es table classes e s edge h =
    let x = edge-says (nodes_of table classes) edge h in
    let from = x.from in
    let to = class_at-found x.ident (nodes_of table classes) edge.to x.to in
    let long = nodes_of-length table classes (omega (arith, e)) in
    let a = s.joined.table.below from.0 from.1 in
    let b = s.joined.table.below to.0 to.1 in
    let c = from.3 in
    let d = to.3 in (omega (arith, a, c, long), omega (arith, b, d, long))

-- ---- the end, over copies of the classes and of the edges

-- closed classes, and copies of them that were read
pub record IsClosed (es : List Equation) (table : List Ident) (classes read : List ℕ) : Type 0 where
  pub long : length classes ≡ length table
  pub settled : IsSettled es (nodes_of table classes)
  pub same : read ≡ classes

pub read-length : (es : List Equation) (table : List Ident) (classes read : List ℕ) → IsClosed es table classes read
    → length read ≡ length table
read-length es table classes read c = ap length c.same ∙ c.long

pub read-below : (es : List Equation) (table : List Ident) (classes read : List ℕ) → IsClosed es table classes read
    → (k : ℕ) → Among k read → k < length read
read-below es table classes read c = subst (λ l. (k : ℕ) → Among k l
    → k < length l) (sym c.same) (classes-below es table classes c.long c.settled)

pub read-ends : (es : List Equation) (table : List Ident) (classes first read : List ℕ) (edges third : List Edge)
    → IsClosed es table classes read → first ≡ classes → edges ≡ edges_of (nodes_of table first) (nodes_of table first)
    → third ≡ edges
    → (e : Edge) → Among e third → (e.from < length read) × (e.to < length read)
read-ends es table classes first read edges third c is made copy e h =
    let all : third ≡ edges_of (nodes_of table classes) (nodes_of table classes) = copy ∙ made
    ∙ ap (λ l. edges_of (nodes_of table l) (nodes_of table l)) is in
    subst (λ l. (e.from < length l) × (e.to < length l)) (sym c.same)
    (edges-below es table classes c.long c.settled e (subst (λ l. Among e l) all h))

pub read-cycle : (es : List Equation) (table : List Ident) (classes first read : List ℕ) (edges third : List Edge)
    (o : Option Text) → IsClosed es table classes read → first ≡ classes
    → edges ≡ edges_of (nodes_of table first) (nodes_of table first) → third ≡ edges
    → o ≡ least_cycle third (nodes_of table read) → o ≡ least_cycle
    (edges_of (nodes_of table classes) (nodes_of table classes)) (nodes_of table classes)
read-cycle es table classes first read edges third o c is made copy found =
    found ∙ (λ w. least_cycle ((copy ∙ made ∙ ap (λ l. edges_of (nodes_of table l) (nodes_of table l)) is) w)
    (nodes_of table (c.same w)))

pub found-cycle : (es : List Equation) (table : List Ident) (classes read : List ℕ) (o : Option Text) (hole : Text)
    → IsClosed es table classes read → o ≡ least_cycle (edges_of (nodes_of table classes) (nodes_of table classes))
    (nodes_of table classes) → o ≡ Some hole
    → ((one other : Head) → HasHeads es one other → ⊥) × IsLeastCycle es hole
found-cycle es table classes read o hole c found is =
    cycle-met es (nodes_of table classes) hole c.settled (sym found ∙ is)

pub found-none : (es : List Equation) (table : List Ident) (classes read : List ℕ) (o : Option Text)
    → IsClosed es table classes read → o ≡ least_cycle (edges_of (nodes_of table classes) (nodes_of table classes))
    (nodes_of table classes) → o ≡ None → IsFree es table read
found-none es table classes read o c found is = subst (IsFree es table) (sym c.same)
    (record { length = c.long; settled = c.settled; acyclic = sym found ∙ is })
