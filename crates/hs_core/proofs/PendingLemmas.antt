-- What is pending in a walk says what the walk is done with in the end.
use Rattle.std.proofs.Common.{◌≡◌, inl, inr, ℕ, zero, suc, ◌+◌, ◌<◌, ◌≤◌, Bool, true, false, List, [], ◌∷◌, ◌++◌}
use Rattle.std.proofs.Common.{length, get_or, set, refl, sym, ap, ◌∙◌, subst, arith, get_or-set_other, get_or-set_same}
use Rattle.std.proofs.Common.{length-set, length-append}
use Rattle.std.proofs.lemmas.Bool.{cases_eq}
use Rattle.std.specs.Prelude.{reverse}
use Rattle.std.proofs.lemmas.List.{reverse-append}
use Rattle.bp_base.specs.Lists.{Among}
use Rattle.bp_base.specs.Lists.{IsNew}
use Rattle.hs_core.specs.declared.group.UseList.{UseList}
use Rattle.hs_core.specs.declared.group.Walked.{Walked}
use Rattle.hs_core.specs.declared.group.Step.{Step}
use Rattle.hs_core.specs.declared.group.Step.TheVariants.{Enter, Leave}
use Rattle.hs_core.specs.Groups.{uses_at, InRange, DepthFirst}
use Rattle.hs_core.specs.Groups.DepthFirst.{ended, met, visited}
use Rattle.hs_core.specs.Walking.{enters, path_of, Leads, IsMarked, IsAtRest, AreBelow, IsStep, IsOnWay, IsWalk}
use Rattle.hs_core.specs.Walking.IsStep.{again, begins, leaves}
use Rattle.bp_base.proofs.SetLemmas.{among-left, among-right, among-either}
use Rattle.hs_core.proofs.ReachingLemmas.{among-one}

pub true-not-false : (b : Bool) → b ≡ true → b ≡ false → ⊥
true-not-false b p q = cc

path-enters : (vs : List ℕ) (steps : List Step) → path_of (enters vs ++ steps) ≡ path_of steps
path-enters [] steps = refl
path-enters (v ∷ vs) steps = path-enters vs steps

length-enters : (vs : List ℕ) → length (enters vs) ≡ length vs
length-enters [] = refl
length-enters (v ∷ vs) = ap suc (length-enters vs)

among-enters : (v : ℕ) (vs : List ℕ) → Among (Enter v) (enters vs) → Among v vs
among-enters v [] a = absurd a
among-enters v (w ∷ vs) (inl e) = inl (cc)
among-enters v (w ∷ vs) (inr a) = inr (among-enters v vs a)

leave-not-enter : (v w : ℕ) → Leave v ≡ Enter w → ⊥
leave-not-enter v w e = cc

module _ (g : List UseList) where
  nothing-ends : (path done mid : List ℕ) (vs new : List ℕ) → DepthFirst g path done [] mid
      → DepthFirst g path mid vs new → DepthFirst g path done vs new
  nothing-ends path done mid vs new (ended _ _) w = w

  one-ends : (path done : List ℕ) (v : ℕ) (mid vs new : List ℕ) → DepthFirst g path done (v ∷ []) mid
      → DepthFirst g path mid vs new → DepthFirst g path done (v ∷ vs) new
  one-ends path done v mid vs new (met _ _ _ _ _ k e) w =
      met path done v vs new k (nothing-ends path done mid vs new e w)
  one-ends path done v mid vs new (visited _ _ _ _ _ below k b e) w =
      visited path done v vs new below k b (nothing-ends path (below ++ v ∷ []) mid vs new e w)

  -- numbers to be begun, one after another, are a list that a walk goes through
  pub enters-lead : (vs : List ℕ) (steps : List Step) (done new : List ℕ) → Leads g (enters vs ++ steps) done new
      → (mid : List ℕ) × DepthFirst g (path_of steps) done vs mid × Leads g steps mid new
  enters-lead [] steps done new l = (done, ended (path_of steps) done, l)
  enters-lead (v ∷ vs) steps done new l =
      let r = enters-lead vs steps l.0 new l.2 in (
        r.0,
        one-ends (path_of steps) done v l.0 vs r.0
            (subst (λ (p : List ℕ). DepthFirst g p done (v ∷ []) l.0) (path-enters vs steps) l.1) r.1,
        r.2,
      )

  -- ---- marks

  IsMarked-new : (begun path done : _) (v : ℕ) → v < length begun → IsMarked begun path done
      → IsMarked (set begun v true) (v ∷ path) done
  IsMarked-new begun path done v l m = record {
    sound = λ u e. elim (cases_eq u v) [
      | inl q ↦ inr (inl (sym q))
      | inr n ↦ (let o : get_or (set begun v true) u false ≡ get_or begun u false =
          get_or-set_other begun v u true false n in
          elim (m.sound u (sym o ∙ e)) [ inl d ↦ inl d | inr p ↦ inr (inr p) ])
    ];
    done_too = λ u a. kept u (m.done_too u a);
    path_too = λ u a. elim a [
      | inl e ↦ subst (λ (x : ℕ). get_or (set begun v true) x false ≡ true) e
          (get_or-set_same begun v true false l)
      | inr b ↦ kept u (m.path_too u b)
    ];
  }
    where
      kept : (u : ℕ) → get_or begun u false ≡ true → get_or (set begun v true) u false ≡ true
      kept u e = elim (cases_eq u v) [
        | inl q ↦ subst (λ (x : ℕ). get_or (set begun v true) x false ≡ true) (sym q)
            (get_or-set_same begun v true false l)
        | inr n ↦ get_or-set_other begun v u true false n ∙ e
      ]

  IsMarked-done : (begun path done : _) (v : ℕ) → IsMarked begun (v ∷ path) done → IsMarked begun path (done ++ v ∷ [])
  IsMarked-done begun path done v m = record {
    sound = λ u e. elim (m.sound u e) [
      | inl d ↦ inl (among-left u done (v ∷ []) d)
      | inr p ↦ elim p [ inl q ↦ inl (among-right u done (v ∷ []) (inl q)) | inr b ↦ inr b ]
    ];
    done_too = λ u a. elim (among-either u done (v ∷ []) a) [
      | inl d ↦ m.done_too u d
      | inr b ↦
          m.path_too u (inl (among-one u v b))
    ];
    path_too = λ u a. m.path_too u (inr a);
  }

  -- ---- steps

  pub stepped : (starts start : List ℕ) (step : Step) (steps more : List Step) (walked new : Walked) → InRange g
      → IsOnWay g starts start (step ∷ steps) walked → IsStep g step steps walked more new
      → IsOnWay g starts start more new
  stepped starts start step steps more walked new r w (again v _ _ _ b is) =
      subst (λ (x : List Step). IsOnWay g starts start x walked) (sym is) (record {
        size = w.size;
        below = λ u a. w.below u (inr a);
        marked = w.marked;
        leads = λ n l. w.leads n (
          walked.done,
          met (path_of steps) walked.done v [] walked.done (w.marked.sound v b)
              (ended (path_of steps) walked.done),
          l,
        );
      })
  stepped starts start step steps more walked new r w (begins v _ _ _ _ b is eb ed) =
      subst (λ (x : List Step). IsOnWay g starts start x new) (sym is) (record {
        size = ap length eb ∙ length-set walked.begun v true ∙ w.size;
        below = λ u a. elim (among-either (Enter u) (enters (uses_at g v)) (Leave v ∷ steps) a) [
          | inl h ↦ r v u (among-enters u (uses_at g v) h)
          | inr h ↦ elim h [ inl e ↦ absurd (leave-not-enter v u e) | inr h ↦ w.below u (inr h) ]
        ];
        marked = subst (λ (x : List Bool). IsMarked x (path_of (enters (uses_at g v) ++ Leave v ∷ steps)) new.done) (sym eb)
            (subst (λ (x : List ℕ). IsMarked (set walked.begun v true)
            (path_of (enters (uses_at g v) ++ Leave v ∷ steps)) x) (sym ed)
            (subst (λ (x : List ℕ). IsMarked (set walked.begun v true) x walked.done)
            (sym (path-enters (uses_at g v) (Leave v ∷ steps)))
            (IsMarked-new walked.begun (path_of steps) walked.done v
            (subst (λ (n : ℕ). v < n) (sym w.size) (w.below v (inl refl))) w.marked)));
        leads = λ n l. let s = enters-lead (uses_at g v) (Leave v ∷ steps) new.done n l in
            w.leads n (
              s.0 ++ v ∷ [],
              visited (path_of steps) walked.done v [] (s.0 ++ v ∷ []) s.0 fresh
                  (subst (λ (d : List ℕ). DepthFirst g (v ∷ path_of steps) d (uses_at g v) s.0) ed s.1)
                  (ended (path_of steps) (s.0 ++ v ∷ [])),
              s.2,
            );
      })
    where
      fresh : IsNew (path_of steps) walked.done v
      fresh = (
        (λ a. true-not-false (get_or walked.begun v false) (w.marked.done_too v a) b),
        (λ a. true-not-false (get_or walked.begun v false) (w.marked.path_too v a) b),
      )
  stepped starts start step steps more walked new r w (leaves v _ _ _ _ is eb ed) =
      subst (λ (x : List Step). IsOnWay g starts start x new) (sym is) (record {
        size = ap length eb ∙ w.size;
        below = λ u a. w.below u (inr a);
        marked = subst (λ (x : List Bool). IsMarked x (path_of steps) new.done) (sym eb)
            (subst (λ (x : List ℕ). IsMarked walked.begun (path_of steps) x) (sym ed)
            (IsMarked-done walked.begun (path_of steps) walked.done v w.marked));
        leads = λ n l. w.leads n (subst (λ (d : List ℕ). Leads g steps d n) ed l);
      })

  pub begun-way : (starts : List ℕ) (steps : List Step) (walked : Walked) → AreBelow (length g) starts
      → IsAtRest g walked → steps ≡ enters starts ++ []
      → IsOnWay g starts walked.done steps walked
  begun-way starts steps walked b r is = subst (λ (x : List Step). IsOnWay g starts walked.done x walked) (sym is)
      (record {
        size = r.size;
        below = λ u a. elim (among-either (Enter u) (enters starts) [] a) [
          | inl h ↦ b u (among-enters u starts h)
          | inr h ↦
              absurd h
        ];
        marked = subst (λ (x : List ℕ). IsMarked walked.begun x walked.done) (sym (path-enters starts [])) r.marked;
        leads = λ n l. let s = enters-lead starts [] walked.done n l in
            subst (λ (x : List ℕ). DepthFirst g [] walked.done starts x) s.2 s.1;
      })

  ends-longer : (path done todo new : List ℕ) → DepthFirst g path done todo new → length done ≤ length new
  ends-longer path done todo new (ended _ _) = omega arith
  ends-longer path done todo new (met _ _ v rest _ k w) = ends-longer path done rest new w
  ends-longer path done todo new (visited _ _ v rest _ mid k b w) =
      let p = ends-longer (v ∷ path) done (uses_at g v) mid b in
      let q = ends-longer path (mid ++ v ∷ []) rest new w in
      let n : length (mid ++ v ∷ []) ≡ length mid + 1 = length-append mid (v ∷ []) in
      omega (arith, p, q, n)

  pub ended-way : (starts : List ℕ) (old new : Walked) → IsOnWay g starts old.done [] new → IsWalk g starts old new
  ended-way starts old new w = record {
    rest = record { size = w.size; marked = w.marked };
    longer = ends-longer [] old.done starts new.done (w.leads new.done refl);
    ends = w.leads new.done refl;
  }

-- ---- what is uppermost

pub popped-all : (old new : List Step) (step : Step) → old ≡ new ++ step ∷ [] → reverse old ≡ step ∷ reverse new
popped-all old new step is = ap reverse is ∙ reverse-append new (step ∷ [])

-- ---- the steps that a walk may still take

-- for each number that is not begun: it is left, and all that it uses is entered
pub weight : List Bool → List UseList → ℕ
weight [] us = zero
weight (b ∷ bs) [] = zero
weight (true ∷ bs) (u ∷ us) = weight bs us
weight (false ∷ bs) (u ∷ us) = suc (length u.uses) + weight bs us

weight-set : (bs : List Bool) (us : List UseList) (v : ℕ) → v < length bs → length bs ≡ length us
    → get_or bs v false ≡ false
    → weight bs us ≡ weight (set bs v true) us + suc (length (uses_at us v))
unfolding weight
weight-set [] us v l e f = absurd (omega arith)
weight-set (b ∷ bs) [] v l e f = absurd (omega arith)
weight-set (true ∷ bs) (u ∷ us) zero l e f = absurd (true-not-false true refl f)
weight-set (false ∷ bs) (u ∷ us) zero l e f = omega arith
weight-set (true ∷ bs) (u ∷ us) (suc v) l e f = weight-set bs us v (omega arith) (omega arith) f
weight-set (false ∷ bs) (u ∷ us) (suc v) l e f = let h = weight-set bs us v (omega arith) (omega arith) f in
    omega (arith, h)

pub steps-left : List UseList → List Step → Walked → ℕ
steps-left g steps walked = weight walked.begun g + length steps

pub steps-fewer : (g : List UseList) (starts start : List ℕ) (step : Step) (steps more : List Step)
    (walked new : Walked)
    → IsOnWay g starts start (step ∷ steps) walked → IsStep g step steps walked more new
    → steps-left g more new < steps-left g (step ∷ steps) walked
unfolding steps-left
steps-fewer g starts start step steps more walked new w (again v _ _ _ b is) = let e = ap length is in omega (arith, e)
steps-fewer g starts start step steps more walked new w (begins v _ _ _ _ b is eb ed) =
    let n : length more ≡ length (uses_at g v) + suc (length steps) = ap length is
    ∙ length-append (enters (uses_at g v)) (Leave v ∷ steps)
    ∙ ap (λ (x : ℕ). x + suc (length steps)) (length-enters (uses_at g v)) in
    let h : weight walked.begun g ≡ weight (set walked.begun v true) g + suc (length (uses_at g v)) =
    weight-set walked.begun g v (subst (λ (x : ℕ). v < x) (sym w.size) (w.below v (inl refl))) w.size b in
    let k : weight new.begun g ≡ weight (set walked.begun v true) g = ap (λ (x : List Bool). weight x g) eb in
    omega (arith, n, h, k)
steps-fewer g starts start step steps more walked new w (leaves v _ _ _ _ is eb ed) =
    let e = ap length is in
    let k : weight new.begun g ≡ weight walked.begun g = ap (λ (x : List Bool). weight x g) eb in
    omega (arith, e, k)
