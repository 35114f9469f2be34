-- From a table to bindings.
use Rattle.std.proofs.Common.{◌≡◌, ℕ, zero, suc, Option, append-nil, append_assoc, List, [], ◌∷◌, ◌++◌, ◌<◌, ◌+◌}
use Rattle.std.proofs.Common.{length, take, length-append, refl, sym, ap, ap₂, subst, ◌∙◌, arith}
use Rattle.std.proofs.Math.Seq.{take-append_seam}
use Rattle.std.specs.Prelude.{slice_get}
use Rattle.std.specs.Option.{option_map}
use Rattle.type_unify.specs.Types.{Plain, Bound, ids, resolved}
use Rattle.type_unify.specs.Unified.{IsUnified, NotSolvable}
use Rattle.type_unify.specs.declared.cell.Cell.{Cell}
use Rattle.type_unify.specs.Cells.{at, trees, bounds, bounds_after, seen, IsTable}
use Rattle.type_unify.specs.Outcomes.{Grows, Solved}
use Rattle.type_unify.specs.Taken.{IsLonger, TakenIn}
use Rattle.type_unify.specs.Attempts.{Attempted}
use Rattle.type_unify.proofs.SolvingLemmas.{solution, Solves-solution}
use Rattle.type_unify.proofs.TableLemmas.{IsTable-new, seen_is}

pub bounds-new : bounds [] [] ≡ []
unfolding bounds
bounds-new = refl

-- a type that was brought in, with all bindings applied
pub seen-taken : (old new : List Cell) (es : List (ℕ × ℕ)) (t : Plain) (n : ℕ) → IsTable old es → TakenIn old new t n
    → seen new es n ≡ resolved (bounds old es) t
seen-taken old new es t n h k = seen_is new es n ∙ ap₂ resolved (k.extends.same es h) k.is

-- both types stand in the table
pub record Both (first cs : List Cell) (es : List (ℕ × ℕ)) (t u : Plain) (a b : ℕ) : Type 0 where
  pub stands : IsTable cs es
  pub left : at (trees cs) a ≡ t
  pub right : at (trees cs) b ≡ u
  pub left_in : a < length cs
  pub right_in : b < length cs
  pub same : bounds cs es ≡ bounds first es

pub Both-taken : (first mid cs : List Cell) (es : List (ℕ × ℕ)) (t u : Plain) (a b : ℕ) → IsTable first es
    → TakenIn first mid t a → TakenIn mid cs u b → Both first cs es t u a b
Both-taken first mid cs es t u a b h p q =
    let m = p.extends.stands es h in
    record {
      stands = q.extends.stands es m;
      left = q.extends.keeps a p.within ∙ p.is;
      right = q.is;
      left_in = omega (arith, p.within, q.extends.longer);
      right_in = q.within;
      same = q.extends.same es m ∙ p.extends.same es h;
    }

pub IsUnified-solved : (cs : List Cell) (es new : List (ℕ × ℕ)) (a b : ℕ) → Solved cs es new a b
    → IsUnified (bounds cs es) (bounds cs new) (at (trees cs) a) (at (trees cs) b)
IsUnified-solved cs es new a b h = record {
  solutions = λ s. ((λ m. (h.keeps s m, h.equal s m)), (λ p. h.all s p.0 p.1));
  solvable = (solution (bounds cs new), Solves-solution (bounds cs new) h.stands.triangular);
  triangular = h.stands.triangular;
  tail = h.tail;
  closed = h.closed;
}

pub Attempted-solved : (first cs : List Cell) (es new : List (ℕ × ℕ)) (t u : Plain) (a b : ℕ) → Both first cs es t u a b
    → Solved cs es new a b → Attempted first cs es new t u
Attempted-solved first cs es new t u a b k h = record {
  stands = h.stands;
  unified =
      let x = IsUnified-solved cs es new a b h in
      let y = subst (λ v. IsUnified (bounds cs es) (bounds cs new) v (at (trees cs) b)) k.left x in
      let z = subst (λ v. IsUnified (bounds cs es) (bounds cs new) t v) k.right y in
      subst (λ v. IsUnified v (bounds cs new) t u) k.same z;
}

pub TakenIn-is : (old new : List Cell) (t u : Plain) (n : ℕ) → TakenIn old new t n → t ≡ u → TakenIn old new u n
TakenIn-is old new t u n h e = subst (λ v. TakenIn old new v n) e h

pub IsTable-empty : (cs : List Cell) (es : List (ℕ × ℕ)) → cs ≡ [] → es ≡ [] → IsTable cs es
IsTable-empty cs es e f = subst (λ v. IsTable v es) (sym e) (subst (λ w. IsTable [] w) (sym f) IsTable-new)

pub bounds-empty : (cs : List Cell) (es : List (ℕ × ℕ)) → cs ≡ [] → es ≡ [] → bounds cs es ≡ []
bounds-empty cs es e f = ap₂ bounds e f ∙ bounds-new

length-bounds_after : (ts : List Plain) (bs : List Bound) (es : List (ℕ × ℕ))
    → length (bounds_after ts bs es) ≡ length bs + length es
length-bounds_after ts bs [] = omega arith
length-bounds_after ts bs (e ∷ es) = omega (
  arith,
  length-bounds_after ts (bs ++ (record { id = e.0; term = resolved bs (at ts e.1) }) ∷ []) es,
  length-append bs ((record { id = e.0; term = resolved bs (at ts e.1) }) ∷ []),
)

pub length-bounds : (cs : List Cell) (es : List (ℕ × ℕ)) → length (bounds cs es) ≡ length es
unfolding bounds
length-bounds cs es = omega (arith, length-bounds_after (trees cs) [] es)

-- ---- the unknowns that are bound

firsts : List (ℕ × ℕ) → List ℕ
firsts [] = []
firsts (e ∷ es) = e.0 ∷ firsts es

ids-push : (bs : List Bound) (b : Bound) → ids (bs ++ b ∷ []) ≡ ids bs ++ b.id ∷ []
ids-push [] b = refl
ids-push (c ∷ bs) b = ap (λ r. c.id ∷ r) (ids-push bs b)

ids-bounds_after : (ts : List Plain) (bs : List Bound) (es : List (ℕ × ℕ))
    → ids (bounds_after ts bs es) ≡ ids bs ++ firsts es
unfolding firsts
ids-bounds_after ts bs [] = sym (append-nil (ids bs))
ids-bounds_after ts bs (e ∷ es) =
    let b : Bound = record { id = e.0; term = resolved bs (at ts e.1) } in
    ids-bounds_after ts (bs ++ b ∷ []) es ∙ ap (λ r. r ++ firsts es) (ids-push bs b)
    ∙ append_assoc (ids bs) (e.0 ∷ []) (firsts es)

slice_get-firsts : (es : List (ℕ × ℕ)) (i : ℕ) → slice_get (firsts es) i ≡ option_map (λ e. e.0) (slice_get es i)
unfolding firsts
slice_get-firsts [] i = refl
slice_get-firsts (e ∷ es) zero = refl
slice_get-firsts (e ∷ es) (suc i) = slice_get-firsts es i

ids-bounds : (cs : List Cell) (es : List (ℕ × ℕ)) → ids (bounds cs es) ≡ firsts es
unfolding bounds
ids-bounds cs es = ids-bounds_after (trees cs) [] es

pub id_is : (cs : List Cell) (es : List (ℕ × ℕ)) (i : ℕ) (r : Option (ℕ × ℕ)) (bs : List Bound) → r ≡ slice_get es i
    → bounds cs es ≡ bs → option_map (λ e. e.0) r ≡ slice_get (ids bs) i
id_is cs es i r bs e v =
    ap (option_map (λ e. e.0)) e ∙ sym (slice_get-firsts es i)
    ∙ ap (λ l. slice_get l i) (sym (ids-bounds cs es) ∙ ap ids v)
