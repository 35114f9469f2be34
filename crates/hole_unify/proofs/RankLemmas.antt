-- Where each edge leads to a lower rank, no class reaches itself.
use Rattle.std.proofs.Common.{◌≡◌, ℕ, zero, suc, ◌+◌, ◌<◌, Bool, true, false, cond, List, [], ◌∷◌, length, map, get_or}
use Rattle.std.proofs.Common.{take, inl, inr, refl, ap, sym, ◌∙◌, subst, arith}
use Rattle.std.specs.Prelude.{Some, None}
use Rattle.bp_base.specs.Lists.{Among}
use Rattle.bp_base.specs.declared.ident.Ident.{Ident}
use Rattle.bp_base.specs.declared.ident.Ident.TheVariants.{Hole, Module'}
use Rattle.hole_unify.specs.declared.edge.Edge.{Edge}
use Rattle.hole_unify.specs.Table.{Node}
use Rattle.hole_unify.specs.Reach.{Fall, on_cycle, term_cycle, hole_cycle, lesser, least_from, least_cycle}
use Rattle.hole_unify.proofs.ReachingLemmas.{Path, First, Then, cycle-path}

module _ (ranks : List ℕ) (edges : List Edge) (fall : Fall ranks edges) where
  path-falls : (k n : ℕ) → Path edges k n → get_or ranks n 0 < get_or ranks k 0
  path-falls k n (First e a) = fall e a
  path-falls k n (Then y e p a) = let lt = path-falls y e.from p in let next = fall e a in omega (arith, lt, next)

  no-cycle : (k : ℕ) → on_cycle k edges ≡ false
  no-cycle k = by (on_cycle k edges) refl
    where
      by : (b : Bool) → on_cycle k edges ≡ b → on_cycle k edges ≡ false
      by true e = absurd (let lt = path-falls k k (cycle-path k edges e) in omega (arith, lt))
      by false e = e

  no-term : (k : ℕ) (t : Ident) → term_cycle edges k t ≡ None
  no-term k (Hole n) = ap (λ b. cond b (Some n) None) (no-cycle k)
  no-term k (Module' s r m) = refl

  no-least : (nodes : List Node) → least_from None (map (hole_cycle edges) nodes) ≡ None
  no-least [] = refl
  no-least (x ∷ nodes) = ap (λ o. least_from (lesser None o) (map (hole_cycle edges) nodes)) (no-term x.class x.ident)
      ∙ no-least nodes

  pub no-least-cycle : (nodes : List Node) → None ≡ least_cycle edges nodes
  no-least-cycle nodes = sym (no-least nodes)

-- ---- the loop over the edges

pub edge-ends : (edges : List Edge) (n i : ℕ) (d : Edge) → ((e : Edge) → Among e edges → (e.from < n) × (e.to < n))
    → i < length edges → ((get_or edges i d).from < n) × ((get_or edges i d).to < n)
edge-ends [] n i d below lt = absurd (omega (arith, lt))
edge-ends (x ∷ edges) n zero d below lt = below x (inl refl)
edge-ends (x ∷ edges) n (suc i) d below lt = edge-ends edges n i d (λ e a. below e (inr a)) (omega (arith, lt))

-- one edge more
fall-next : (ranks : List ℕ) (edges : List Edge) (i : ℕ) (d : Edge) → i < length edges
    → get_or ranks (get_or edges i d).to 0 < get_or ranks (get_or edges i d).from 0 → Fall ranks (take i edges)
    → Fall ranks (take (suc i) edges)
fall-next ranks [] i d lt less fall e a = absurd (omega (arith, lt))
fall-next ranks (x ∷ edges) zero d lt less fall e (inl is) =
    subst (λ z. get_or ranks z.to 0 < get_or ranks z.from 0) is less
fall-next ranks (x ∷ edges) zero d lt less fall e (inr a) = absurd a
fall-next ranks (x ∷ edges) (suc i) d lt less fall e (inl is) = fall e (inl is)
fall-next ranks (x ∷ edges) (suc i) d lt less fall e (inr a) =
    fall-next ranks edges i d (omega (arith, lt)) less (λ g h. fall g (inr h)) e a

pub fall-more : (ranks : List ℕ) (edges : List Edge) (i : ℕ) (d : Edge) → i < length edges
    → get_or ranks (get_or edges i d).to 0 < get_or ranks (get_or edges i d).from 0 → Fall ranks (take i edges)
    → Fall ranks (take (i + 1) edges)
fall-more ranks edges i d lt less fall = subst (λ n. Fall ranks (take n edges)) (let one : suc i ≡ i + 1 =
    omega arith in one) (fall-next ranks edges i d lt less fall)
