-- From closed classes to unifiers and to obstacles.
use Rattle.std.proofs.Common.{◌≡◌, ℕ, ◌+◌, ◌-◌, ◌/◌, ◌<◌, ◌≤◌, List, [], ◌∷◌, ◌++◌, length, get_or, take, drop, map}
use Rattle.std.proofs.Common.{inl, inr, refl, ap, sym, ◌∙◌, subst, arith}
use Rattle.std.specs.Prelude.{Option, None, replicate}
use Rattle.std.proofs.lemmas.List.{take-append-drop, take_more, take_all, length-replicate}
use Rattle.bp_base.proofs.SetLemmas.{among-left, among-right, among-either}
use Rattle.bp_base.specs.declared.ident.Ident.{Ident}
use Rattle.bp_base.specs.declared.ident.Unit.{Unit as OfUnit}
use Rattle.bp_base.specs.Lists.{Among}
use Rattle.bp_base.specs.Texts.{Text}
use Rattle.ident_table.specs.declared.node.NumberFill.{NumberFill}
use Rattle.ident_table.specs.Numbers.{Grows, fills_of}
use Rattle.hole_unify.specs.declared.equation.Equation.{Equation}
use Rattle.hole_unify.specs.declared.solve.Obstacle.{Obstacle}
use Rattle.hole_unify.specs.declared.solve.Obstacle.TheVariants.{Clash, Cycle}
use Rattle.hole_unify.specs.declared.solve.Range.{Range}
use Rattle.hole_unify.specs.Unifiers.{HasUnifier, IsAnswer}
use Rattle.hole_unify.specs.Causes.{FailsAt, IsCause, IsLawful, units_of, units_in}
use Rattle.hole_unify.specs.Table.{Node, nodes_of}
use Rattle.hole_unify.specs.Tables.{IsTable}
use Rattle.hole_unify.specs.Close.{IsSettled}
use Rattle.hole_unify.specs.Reach.{edges_of, hole_cycle, least_cycle}
use Rattle.hole_unify.specs.Build.{built_of, first_ready, answer}
use Rattle.hole_unify.specs.IsFaithful.{IsFaithful}
use Rattle.hole_unify.specs.Solve.{IsFree, IsObstacle, IsFirst, IsRange, labelled}
use Rattle.hole_unify.proofs.ReachingLemmas.{path-cycle, least-of-none}
use Rattle.hole_unify.proofs.SettlingLemmas.{cycle-among}
use Rattle.hole_unify.proofs.PlaceLemmas.{nodes-later}
use Rattle.hole_unify.proofs.BuildingLemmas.{build-ends, no-entries, unbuilt}
use Rattle.hole_unify.proofs.GroundedLemmas.{IsAcyclic, all-done}
use Rattle.hole_unify.specs.Occurrence.{AreOfEquations}
use Rattle.hole_unify.proofs.AnswerLemmas.{is-answer, answer-occurs}
use Rattle.hole_unify.proofs.UnifyingLemmas.{clash_has_no_unifier, cycle_has_no_unifier}

acyclic : (nodes : List Node) → least_cycle (edges_of nodes nodes) nodes ≡ None → IsAcyclic nodes
acyclic nodes e = record {
  holes = λ n k p path. least-of-none (map (hole_cycle (edges_of nodes nodes)) nodes) e n
      (cycle-among (edges_of nodes nodes) nodes n k p (path-cycle k (edges_of nodes nodes) path));
}

-- ---- unifiers

pub answer-met : (es : List Equation) (nodes : List Node) (built : List (Option Ident)) → IsLawful es
    → IsSettled es nodes → least_cycle (edges_of nodes nodes) nodes ≡ None → IsFaithful es nodes built
    → first_ready nodes built nodes ≡ None → IsAnswer es (answer built nodes [])
answer-met es nodes built lawful s e st stuck = is-answer es lawful nodes s built st
    (all-done es lawful nodes s (acyclic nodes e) built stuck)

pub has-unifier : (es : List Equation) (nodes : List Node) → IsLawful es → IsSettled es nodes
    → least_cycle (edges_of nodes nodes) nodes ≡ None → HasUnifier es
has-unifier es nodes lawful s e =
    let b = build-ends es nodes s.joined.table (unbuilt nodes none) none (length-replicate (length nodes) None)
    (let x : unbuilt nodes none ≡ unbuilt nodes none = refl in
    omega (arith, x)) (no-entries es nodes (length nodes)) in
    (answer b.0 nodes [], (answer-met es nodes b.0 lawful s e b.1 b.2).unifies)
  where
    none : List (Option Ident)
    none = replicate (length nodes) None

pub no-unifier : (es : List Equation) (o : Obstacle) → IsObstacle es o → HasUnifier es → ⊥
no-unifier es (Clash one other) h u = clash_has_no_unifier es one other h u
no-unifier es (Cycle hole) h u = cycle_has_no_unifier es hole h.1.cycle u

-- ---- the first equations

units-front : (a b : List Equation) (u : OfUnit) → Among u (units_in a) → Among u (units_in (a ++ b))
units-front [] b u h = absurd h
units-front (e ∷ a) b u h = elim (among-either u (units_of e.left) _ h) [
  | inl x ↦ among-left u (units_of e.left) _ x
  | inr r ↦ among-right u (units_of e.left) _ (elim (among-either u (units_of e.right) _ r) [
    | inl y ↦ among-left u (units_of e.right) _ y
    | inr z ↦ among-right u (units_of e.right) _ (units-front a b u z)
  ])
]

lawful-front : (a b : List Equation) → IsLawful (a ++ b) → IsLawful a
lawful-front a b l = record {
  same_holes = λ u v h g e. l.same_holes u v (units-front a b u h) (units-front a b v g) e;
  rising = λ u h. l.rising u (units-front a b u h);
}

pub lawful-take : (es : List Equation) (k : ℕ) → IsLawful es → IsLawful (take k es)
lawful-take es k l = lawful-front (take k es) (drop k es) (subst IsLawful (sym (take-append-drop k es)) l)

pub nothing-unified : HasUnifier []
nothing-unified = ([], tt)

pub some-equation : (es : List Equation) (o : Obstacle) → IsObstacle es o → 0 < length es
some-equation [] o h = absurd (no-unifier [] o h nothing-unified)
some-equation (e ∷ es) o h = omega arith

fails-at : (es : List Equation) (at : ℕ) (o : Obstacle) (e : Equation) (label : Text) → IsFirst es at o
    → e ≡ get_or es at e → label ≡ e.label → FailsAt es (take (at + 1) es) label
fails-at es at o e label f is named = record {
  split = (
    take at es,
    e,
    drop (at + 1) es,
    take_more es at e f.within
        ∙ ap (λ z. take at es ++ z ∷ []) (sym is),
    sym (take-append-drop (at + 1) es),
    sym named,
    f.unified,
  );
  fails = no-unifier (take (at + 1) es) o f.fails;
}

pub cause : (es : List Equation) (at : ℕ) (o : Obstacle) (e : Equation) (label : Text) → IsFirst es at o
    → e ≡ get_or es at e → label ≡ e.label → IsCause es (labelled label o)
cause es at (Clash one other) e label f is named =
    (take (at + 1) es, fails-at es at (Clash one other) e label f is named, f.fails)
cause es at (Cycle hole) e label f is named = (
  take (at + 1) es,
  fails-at es at (Cycle hole) e label f is named,
  f.fails.0,
  f.fails.1,
)

-- ---- halving

pub range-start : (es : List Equation) (o : Obstacle) (n : ℕ) → n ≡ length es → IsObstacle es o
    → IsRange es (record { low = 0; high = n; obstacle = o })
range-start es o n is h = record {
  below = let p = some-equation es o h in omega (arith, p, is);
  within = omega (arith, is);
  unified = nothing-unified;
  fails = let le : length es ≤ n = omega (arith, is) in subst (λ l. IsObstacle l o) (sym (take_all n es le)) h;
}

pub range-low : (es : List Equation) (r : Range) (n : ℕ) (table : List Ident) (classes : List ℕ) → IsLawful es
    → IsRange es r → r.low < n → n < r.high → IsFree (take n es) table classes
    → IsRange es (record { low = n; high = r.high; obstacle = r.obstacle })
range-low es r n table classes lawful ok lt gt f =
    record {
      below = gt;
      within = ok.within;
      unified =
          has-unifier (take n es) (nodes_of table classes) (lawful-take es n lawful) f.settled f.acyclic;
      fails = ok.fails;
    }

pub half-low : (es : List Equation) (r : Range) (table : List Ident) (classes : List ℕ) → IsLawful es → IsRange es r
    → r.low + 1 < r.high → IsFree (take (r.low + (r.high - r.low) / 2) es) table classes
    → IsRange es (record { low = r.low + (r.high - r.low) / 2; high = r.high; obstacle = r.obstacle })
half-low es r table classes lawful ok wide f = range-low es r (r.low + (r.high - r.low) / 2) table classes lawful ok
    (above r.low r.high wide) (under r.low r.high wide) f
  where
    above : (l h : ℕ) → l + 1 < h → l < l + (h - l) / 2
    above l h w = omega (arith, w)

    under : (l h : ℕ) → l + 1 < h → l + (h - l) / 2 < h
    under l h w = omega (arith, w)

-- ---- the answer

-- what was built from a table of classes is an answer, made of the holes and heads of the equations
pub answer-found : (es : List Equation) (table new : List Ident) (classes : List ℕ) (built : List (Option ℕ))
    (fills : List NumberFill)
    → IsLawful es → IsFree es table classes → Grows table new
    → ((gs : List Equation) → IsTable gs (nodes_of table classes)
    → IsFaithful gs (nodes_of table classes) (built_of new built))
    → first_ready (nodes_of table classes) (built_of new built) (nodes_of table classes) ≡ None
    → fills_of new fills ≡ answer (built_of new built) (nodes_of new classes) []
    → IsAnswer es (fills_of new fills) × AreOfEquations es (fills_of new fills)
answer-found es table new classes built fills lawful f grows st stuck made =
    let nodes = nodes_of table classes in
    let same : nodes_of new classes ≡ nodes =
    nodes-later table new classes grows (let e = f.length in omega (arith, e)) in
    let is = made ∙ ap (λ l. answer (built_of new built) l []) same in
    let stands = st es f.settled.joined.table in
    let done = all-done es lawful nodes f.settled (acyclic nodes f.acyclic) (built_of new built) stuck in (
      subst (IsAnswer es) (sym is) (answer-met es nodes (built_of new built) lawful f.settled f.acyclic stands stuck),
      subst (AreOfEquations es) (sym is) (answer-occurs es lawful nodes f.settled (built_of new built) stands done),
    )
