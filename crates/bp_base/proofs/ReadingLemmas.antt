-- A loop that reads a list, item by item.
use Rattle.std.proofs.Common.{◌≡◌, List, [], ◌∷◌, ◌++◌, refl, sym, ap, ◌∙◌, subst, append_assoc, append-nil}
use Rattle.bp_base.specs.Lists.{IsOnly, SoFar}

-- one more item is read
pub SoFar-step : {X S : Type 0} (Yields : S → List X → Type 0) (start rest next : S) (done : List X) (x : X)
    → ((more : List X) → Yields next more → Yields rest (x ∷ more))
    → ((more : List X) → Yields rest more → (m : List X) × (more ≡ x ∷ m) × Yields next m)
    → SoFar Yields start rest done → SoFar Yields start next (done ++ x ∷ [])
SoFar-step {X} Yields start rest next done x into from so = record {
  sound = λ more h. subst (λ (l : List X). Yields start l) (sym (append_assoc done (x ∷ []) more))
      (so.sound (x ∷ more) (into more h));
  complete = λ all h.
      let k = so.complete all h in
      let s = from k.0 k.2 in
      (s.0, k.1 ∙ (ap (λ (l : List X). done ++ l) s.1 ∙ sym (append_assoc done (x ∷ []) s.0)), s.2);
}

-- nothing is left
pub SoFar-end : {X S : Type 0} (Yields : S → List X → Type 0) (start rest : S) (done : List X)
    → Yields rest [] → ((more : List X) → Yields rest more → more ≡ []) → SoFar Yields start rest done
    → IsOnly (Yields start) done
SoFar-end {X} Yields start rest done here only so = record {
  holds = subst (λ (l : List X). Yields start l) (append-nil done) (so.sound [] here);
  only = λ all h. let k = so.complete all h in k.1 ∙ (ap (λ (l : List X). done ++ l) (only k.0 k.2) ∙ append-nil done);
}

-- the rest can't be read
pub SoFar-none : {X S : Type 0} (Yields : S → List X → Type 0) (start rest : S) (done : List X)
    → ((more : List X) → Yields rest more → ⊥) → SoFar Yields start rest done → (all : List X) → Yields start all → ⊥
SoFar-none Yields start rest done none so all h = let k = so.complete all h in none k.0 k.2
