-- What is pending in a walk says what the walk is done with in the end, or why it stops.
use Rattle.std.proofs.Common.{◌≡◌, ◌≢◌, ◌⊎◌, inl, inr, ℕ, zero, suc, ◌+◌, ◌<◌, ◌≤◌, Bool, true, false, true≢false}
use Rattle.std.proofs.Common.{List, [], ◌∷◌, ◌++◌, Option, None, Some, length, get_or, set, map, refl, sym, ap, ◌∙◌}
use Rattle.std.proofs.Common.{Err, subst, arith, get_or-set_other, get_or-set_same, length-set, length-append}
use Rattle.std.proofs.lemmas.Bool.{cases_eq}
use Rattle.std.specs.Prelude.{reverse, replicate}
use Rattle.std.proofs.lemmas.List.{reverse-append}
use Rattle.bp_base.specs.Lists.{Among, AreDistinct, IsNew}
use Rattle.bp_base.proofs.SetLemmas.{among-left, among-right, among-either}
use Rattle.bp_checks.specs.Walk.{WalkStop, IsClear}
use Rattle.bp_checks.specs.Walk.Visits.{finished, met, visited}
use Rattle.bp_checks.specs.Walk.Stuck.{blocked, on_cycle, below_it, past_met, past_it}
use Rattle.bp_checks.specs.Walk.WalkStop.{Cycle as Circle, Blocked}
use Rattle.graph_walk.specs.declared.walk.Node.{Node}
use Rattle.graph_walk.specs.declared.walk.Use.{Use}
use Rattle.graph_walk.specs.declared.walk.Walked.{Walked}
use Rattle.graph_walk.specs.declared.walk.Step.{Step}
use Rattle.graph_walk.specs.declared.walk.Step.TheVariants.{Enter, Leave}
use Rattle.graph_walk.specs.declared.walk.Mark.{Mark}
use Rattle.graph_walk.specs.declared.walk.Mark.TheVariants.{New, Begun, Done}
use Rattle.graph_walk.specs.declared.walk.WalkError.{WalkError}
use Rattle.graph_walk.specs.Graph.{uses_at, is_there, wanted, Asks, IsAbsent, walk_from}
use Rattle.graph_walk.specs.Graph.{ChecksWalk}
use Rattle.graph_walk.specs.Walking.{enters, path_of, Goes, Fails, Leads, Stops, mark_at, IsMarked, IsStep, StopsAt}
use Rattle.graph_walk.specs.Walking.{IsStepBelow, IsOnWay}
use Rattle.graph_walk.specs.Walking.IsStep.{again, begins, leaves}
use Rattle.graph_walk.specs.Walking.StopsAt.{absent, begun, lacking}

path-enters : (es : List Use) (steps : List Step) → path_of (enters es ++ steps) ≡ path_of steps
path-enters [] steps = refl
path-enters (e ∷ es) steps = path-enters es steps

length-enters : (es : List Use) → length (enters es) ≡ length es
length-enters [] = refl
length-enters (e ∷ es) = ap suc (length-enters es)

length-map : (by : Option ℕ) (vs : List ℕ) → length (map (wanted by) vs) ≡ length vs
length-map by [] = refl
length-map by (v ∷ vs) = ap suc (length-map by vs)

new-not-done : New ≡ Done → ⊥
new-not-done e = cc

new-not-begun : New ≡ Begun → ⊥
new-not-begun e = cc

begun-not-done : Begun ≡ Done → ⊥
begun-not-done e = cc

-- a step that enters leaves nothing
enters-below : (n : ℕ) (es : List Use) (step : Step) → Among step (enters es) → IsStepBelow n step
enters-below n [] step a = absurd a
enters-below n (e ∷ es) step (inl is) = subst (IsStepBelow n) is tt
enters-below n (e ∷ es) step (inr a) = enters-below n es step a

-- a node that is there is one
pub there-below : (nodes : List Node) (v : ℕ) → is_there nodes v ≡ true → v < length nodes
there-below [] v there = absurd (true≢false (sym there))
there-below (x ∷ nodes) zero there = omega arith
there-below (x ∷ nodes) (suc v) there = let l = there-below nodes v there in omega (arith, l)

module _ (nodes : List Node) where
  clear : (path : List ℕ) (e : Use) → is_there nodes e.to ≡ true → IsClear (IsAbsent nodes) path e
  clear path e there r (gone, is) = true≢false (sym there ∙ gone)

  nothing-goes : (path done mid : List ℕ) (es : List Use) (new : List ℕ) → Goes nodes path done [] mid
      → Goes nodes path mid es new → Goes nodes path done es new
  nothing-goes path done mid es new (finished _ _) w = w

  one-goes : (path done : List ℕ) (e : Use) (mid : List ℕ) (es : List Use) (new : List ℕ)
      → Goes nodes path done (e ∷ []) mid → Goes nodes path mid es new → Goes nodes path done (e ∷ es) new
  one-goes path done e mid es new (met _ _ _ _ _ c k v) w =
      met path done e es new c k (nothing-goes path done mid es new v w)
  one-goes path done e mid es new (visited _ _ _ _ _ below m c k n v u) w =
      visited path done e es new below m c k n v (nothing-goes path (m ++ e.to ∷ []) mid es new u w)

  nothing-fails : (path done : List ℕ) (s : WalkStop ℕ Use) → Fails nodes path done [] s → ⊥
  nothing-fails path done s f = elim f [ ]

  -- what stops a use stops it with more behind it
  one-fails : (path done : List ℕ) (e : Use) (es : List Use) (s : WalkStop ℕ Use) → Fails nodes path done (e ∷ []) s
      → Fails nodes path done (e ∷ es) s
  one-fails path done e es _ (blocked _ _ _ _ r b) = blocked path done e es r b
  one-fails path done e es _ (on_cycle _ _ _ _ c n p) = on_cycle path done e es c n p
  one-fails path done e es s (below_it _ _ _ _ below _ c k n f) = below_it path done e es below s c k n f
  one-fails path done e es s (past_met _ _ _ _ _ c k f) = absurd (nothing-fails path done s f)
  one-fails path done e es s (past_it _ _ _ _ below mid _ c k n v f) =
      absurd (nothing-fails path (mid ++ e.to ∷ []) s f)

  nothing-past : (path done mid : List ℕ) (es : List Use) (s : WalkStop ℕ Use) → Goes nodes path done [] mid
      → Fails nodes path mid es s → Fails nodes path done es s
  nothing-past path done mid es s (finished _ _) f = f

  -- what stops behind a use that was gone through
  past-one : (path done : List ℕ) (e : Use) (mid : List ℕ) (es : List Use) (s : WalkStop ℕ Use)
      → Goes nodes path done (e ∷ []) mid → Fails nodes path mid es s → Fails nodes path done (e ∷ es) s
  past-one path done e mid es s (met _ _ _ _ _ c k v) f =
      past_met path done e es s c k (nothing-past path done mid es s v f)
  past-one path done e mid es s (visited _ _ _ _ _ below m c k n v u) f =
      past_it path done e es below m s c k n v (nothing-past path (m ++ e.to ∷ []) mid es s u f)

  -- uses to be begun, one after another, are a list that a walk goes through
  enters-lead : (es : List Use) (steps : List Step) (done new : List ℕ) → Leads nodes (enters es ++ steps) done new
      → (mid : List ℕ) × Goes nodes (path_of steps) done es mid × Leads nodes steps mid new
  enters-lead [] steps done new l = (done, finished (path_of steps) done, l)
  enters-lead (e ∷ es) steps done new l =
      let r = enters-lead es steps l.0 new l.2 in (
        r.0,
        one-goes (path_of steps) done e l.0 es r.0
            (subst (λ (p : List ℕ). Goes nodes p done (e ∷ []) l.0) (path-enters es steps) l.1) r.1,
        r.2,
      )

  enters-stop : (es : List Use) (steps : List Step) (done : List ℕ) (s : WalkStop ℕ Use)
      → Stops nodes (enters es ++ steps) done s → Fails nodes (path_of steps) done es s
      ⊎ ((mid : List ℕ) × Goes nodes (path_of steps) done es mid × Stops nodes steps mid s)
  enters-stop [] steps done s k = inr (done, finished (path_of steps) done, k)
  enters-stop (e ∷ es) steps done s (inl f) = inl (one-fails (path_of steps) done e es s
      (subst (λ (p : List ℕ). Fails nodes p done (e ∷ []) s) (path-enters es steps) f))
  enters-stop (e ∷ es) steps done s (inr (mid, v, k)) =
      let w = subst (λ (p : List ℕ). Goes nodes p done (e ∷ []) mid) (path-enters es steps) v in
      elim (enters-stop es steps mid s k) [
        | inl f ↦ inl (past-one (path_of steps) done e mid es s w f)
        | inr r ↦ inr (r.0, one-goes (path_of steps) done e mid es r.0 w r.1, r.2)
      ]

  -- ---- marks

  other : (marks : List Mark) (v u : ℕ) (m : Mark) → u ≢ v → mark_at (set marks v m) u ≡ mark_at marks u
  other marks v u m n = get_or-set_other marks v u m New n

  same : (marks : List Mark) (v : ℕ) (m : Mark) → v < length marks → mark_at (set marks v m) v ≡ m
  same marks v m l = get_or-set_same marks v m New l

  -- a node that is new is neither done nor begun
  fresh : (marks : List Mark) (path done : List ℕ) (v : ℕ) → mark_at marks v ≡ New → IsMarked marks path done
      → IsNew path done v
  fresh marks path done v is m = (
    (λ a. new-not-done (sym is ∙ m.done_too v a)),
    (λ a. new-not-begun (sym is ∙ m.begun_too v a)),
  )

  IsMarked-begun : (marks : List Mark) (path done : List ℕ) (v : ℕ) → v < length marks → mark_at marks v ≡ New
      → IsMarked marks path done → IsMarked (set marks v Begun) (v ∷ path) done
  IsMarked-begun marks path done v l is m = record {
    is_done = λ u e. elim (cases_eq u v) [
      | inl q ↦ absurd (begun-not-done (sym (same marks v Begun l)
          ∙ (subst (λ (x : ℕ). mark_at (set marks v Begun) x ≡ Done) q e)))
      | inr n ↦ m.is_done u (sym (other marks v u Begun n) ∙ e)
    ];
    is_begun = λ u e. elim (cases_eq u v) [
      | inl q ↦ inl (sym q)
      | inr n ↦ inr (m.is_begun u (sym (other marks v u Begun n) ∙ e))
    ];
    done_too = λ u a. elim (cases_eq u v) [
      | inl q ↦ absurd ((fresh marks path done v is m).0 (subst (λ (x : ℕ). Among x done) q a))
      | inr n ↦ other marks v u Begun n ∙ m.done_too u a
    ];
    begun_too = λ u a. elim (cases_eq u v) [
      | inl q ↦ subst (λ (x : ℕ). mark_at (set marks v Begun) x ≡ Begun) (sym q) (same marks v Begun l)
      | inr n ↦ other marks v u Begun n ∙ m.begun_too u (elim a [ inl e ↦ absurd (n (sym e)) | inr b ↦ b ])
    ];
    once = ((fresh marks path done v is m).1, m.once);
  }

  IsMarked-done : (marks : List Mark) (path done : List ℕ) (v : ℕ) → v < length marks → IsMarked marks (v ∷ path) done
      → IsMarked (set marks v Done) path (done ++ v ∷ [])
  IsMarked-done marks path done v l m = record {
    is_done = λ u e. elim (cases_eq u v) [
      | inl q ↦ among-right u done (v ∷ []) (inl (sym q))
      | inr n ↦ among-left u done (v ∷ []) (m.is_done u (sym (other marks v u Done n) ∙ e))
    ];
    is_begun = λ u e. elim (cases_eq u v) [
      | inl q ↦ absurd (begun-not-done (sym (sym (same marks v Done l)
          ∙ (subst (λ (x : ℕ). mark_at (set marks v Done) x ≡ Begun) q e))))
      | inr n ↦ elim (m.is_begun u (sym (other marks v u Done n) ∙ e)) [
        | inl q ↦ absurd (n (sym q))
        | inr b ↦ b
      ]
    ];
    done_too = λ u a. elim (cases_eq u v) [
      | inl q ↦ subst (λ (x : ℕ). mark_at (set marks v Done) x ≡ Done) (sym q) (same marks v Done l)
      | inr n ↦ other marks v u Done n ∙ m.done_too u (elim (among-either u done (v ∷ []) a) [
        | inl d ↦ d
        | inr b ↦ elim b [ inl q ↦ absurd (n (sym q)) | inr z ↦ absurd z ]
      ])
    ];
    begun_too = λ u a. elim (cases_eq u v) [
      | inl q ↦ absurd (m.once.0 (subst (λ (x : ℕ). Among x path) q a))
      | inr n ↦ other marks v u Done n ∙ m.begun_too u (inr a)
    ];
    once = m.once.1;
  }

  -- ---- steps

  module _ (starts : List ℕ) where
    pub stepped : (step : Step) (steps more : List Step) (walked new : Walked)
        → IsOnWay nodes starts (step ∷ steps) walked → IsStep nodes step steps walked more new
        → IsOnWay nodes starts more new
    stepped step steps more walked new w (again e _ _ _ there is eq) =
        subst (λ (x : List Step). IsOnWay nodes starts x walked) (sym eq) (record {
          size = w.size;
          below = λ u a. w.below u (inr a);
          marked = w.marked;
          leads = λ n l. w.leads n (walked.done, gone, l);
          stops = λ s k. w.stops s (inr (walked.done, gone, k));
        })
      where
        gone : Goes nodes (path_of steps) walked.done (e ∷ []) walked.done
        gone = met (path_of steps) walked.done e [] walked.done (clear (path_of steps) e there)
            (w.marked.is_done e.to is) (finished (path_of steps) walked.done)
    stepped step steps more walked new w (begins e _ _ _ _ there is eq eb ed) =
        subst (λ (x : List Step). IsOnWay nodes starts x new) (sym eq) (record {
          size = ap length eb ∙ length-set walked.marks e.to Begun ∙ w.size;
          below = λ u a. elim (among-either u (enters uses) (Leave e.to ∷ steps) a) [
            | inl h ↦ enters-below (length nodes) uses u h
            | inr h ↦ elim h [
              | inl q ↦ subst (IsStepBelow (length nodes)) q (there-below nodes e.to there)
              | inr h ↦ w.below u (inr h)
            ]
          ];
          marked = subst (λ (x : List Mark). IsMarked x (path_of (enters uses ++ Leave e.to ∷ steps)) new.done) (sym eb)
              (subst (λ (x : List ℕ). IsMarked (set walked.marks e.to Begun)
              (path_of (enters uses ++ Leave e.to ∷ steps)) x) (sym ed)
              (subst (λ (x : List ℕ). IsMarked (set walked.marks e.to Begun) x walked.done)
              (sym (path-enters uses (Leave e.to ∷ steps)))
              (IsMarked-begun walked.marks (path_of steps) walked.done e.to
              (subst (λ (n : ℕ). e.to < n) (sym w.size) (there-below nodes e.to there)) is w.marked)));
          leads = λ n l. let s = enters-lead uses (Leave e.to ∷ steps) new.done n l in
              w.leads n (s.0 ++ e.to ∷ [], through s.0 (at_done (λ d. Goes nodes (e.to ∷ path_of steps) d uses s.0) s.1), s.2);
          stops = λ t k. w.stops t (elim (enters-stop uses (Leave e.to ∷ steps) new.done t k) [
            | inl f ↦ inl (below_it (path_of steps) walked.done e [] uses t (clear (path_of steps) e there) new_here refl
                (at_done (λ d. Fails nodes (e.to ∷ path_of steps) d uses t) f))
            | inr s ↦ inr (
              s.0 ++ e.to ∷ [],
              through s.0
                  (at_done (λ d. Goes nodes (e.to ∷ path_of steps) d uses s.0) s.1),
              s.2,
            )
          ]);
        })
      where
        uses : List Use
        uses = map (wanted (Some e.to)) (uses_at nodes e.to)

        new_here : IsNew (path_of steps) walked.done e.to
        new_here = fresh walked.marks (path_of steps) walked.done e.to is w.marked

        at_done : (P : List ℕ → Type 0) → P new.done → P walked.done
        at_done P h = subst P ed h

        through : (mid : List ℕ) → Goes nodes (e.to ∷ path_of steps) walked.done uses mid
            → Goes nodes (path_of steps) walked.done (e ∷ []) (mid ++ e.to ∷ [])
        through mid v = visited (path_of steps) walked.done e [] (mid ++ e.to ∷ []) uses mid
            (clear (path_of steps) e there) new_here refl v (finished (path_of steps) (mid ++ e.to ∷ []))
    stepped step steps more walked new w (leaves v _ _ _ _ eq eb ed) =
        subst (λ (x : List Step). IsOnWay nodes starts x new) (sym eq) (record {
          size = ap length eb ∙ length-set walked.marks v Done ∙ w.size;
          below = λ u a. w.below u (inr a);
          marked = subst (λ (x : List Mark). IsMarked x (path_of steps) new.done) (sym eb)
              (subst (λ (x : List ℕ). IsMarked (set walked.marks v Done) (path_of steps) x) (sym ed)
              (IsMarked-done walked.marks (path_of steps) walked.done v
              (subst (λ (n : ℕ). v < n) (sym w.size) (w.below (Leave v) (inl refl))) w.marked));
          leads = λ n l. w.leads n (subst (λ (d : List ℕ). Leads nodes steps d n) ed l);
          stops = λ s k. w.stops s (subst (λ (d : List ℕ). Stops nodes steps d s) ed k);
        })

    -- a step that is refused refuses the walk
    pub refused : (step : Step) (steps : List Step) (walked : Walked) (e : WalkError)
        → IsOnWay nodes starts (step ∷ steps) walked → StopsAt nodes step walked e
        → ChecksWalk (walk_from nodes starts) (Err e)
    refused step steps walked e w (absent u _ gone) =
        w.stops (Blocked u) (inl (blocked (path_of steps) walked.done u [] u (gone, refl)))
    refused step steps walked e w (begun u _ there is) =
        w.stops (Circle u.to) (inl (on_cycle (path_of steps) walked.done u [] (clear (path_of steps) u there)
        (λ a. begun-not-done (sym is ∙ w.marked.done_too u.to a)) (w.marked.is_begun u.to is)))
    refused step steps walked e w (lacking _ _) = tt

    pub begun-way : (steps : List Step) (walked : Walked) → walked.marks ≡ replicate (length nodes) New → walked.done ≡ []
        → steps ≡ enters (map (wanted None) starts) ++ [] → IsOnWay nodes starts steps walked
    begun-way steps walked em ed eq = subst (λ (x : List Step). IsOnWay nodes starts x walked) (sym eq)
        (record {
          size = ap length em ∙ length-new (length nodes);
          below = λ u a. elim (among-either u (enters all) [] a) [
            | inl h ↦ enters-below (length nodes) all u h
            | inr h ↦ absurd h
          ];
          marked = subst (λ (x : List ℕ). IsMarked walked.marks x walked.done) (sym (path-enters all []))
              (subst (λ (x : List Mark). IsMarked x [] walked.done) (sym em)
              (subst (λ (x : List ℕ). IsMarked (replicate (length nodes) New) [] x) (sym ed) nothing-marked));
          leads = λ n l. let s = enters-lead all [] walked.done n l in
              subst (λ (x : List ℕ). Goes nodes [] [] all x) s.2
              (subst (λ (d : List ℕ). Goes nodes [] d all s.0) ed s.1);
          stops = λ t k. elim (enters-stop all [] walked.done t k) [
            | inl f ↦ subst (λ (d : List ℕ). Fails nodes [] d all t) ed f
            | inr s ↦ absurd s.2
          ];
        })
      where
        all : List Use
        all = map (wanted None) starts

        length-new : (n : ℕ) → length (replicate n New) ≡ n
        length-new zero = refl
        length-new (suc n) = ap suc (length-new n)

        at-new : (n u : ℕ) → mark_at (replicate n New) u ≡ New
        at-new zero u = refl
        at-new (suc n) zero = refl
        at-new (suc n) (suc u) = at-new n u

        nothing-marked : IsMarked (replicate (length nodes) New) [] []
        nothing-marked = record {
          is_done = λ u e. absurd (new-not-done (sym (at-new (length nodes) u) ∙ e));
          is_begun = λ u e. absurd (new-not-begun (sym (at-new (length nodes) u) ∙ e));
          done_too = λ u a. absurd a;
          begun_too = λ u a. absurd a;
          once = tt;
        }

-- ---- what is uppermost

pub popped-all : (old new : List Step) (step : Step) → old ≡ new ++ step ∷ [] → reverse old ≡ step ∷ reverse new
popped-all old new step is = ap reverse is ∙ reverse-append new (step ∷ [])

-- ---- the steps that a walk may still take

-- for each node that is new: it is left, and all that it uses is entered
pub weight : List Mark → List Node → ℕ
weight [] us = zero
weight (m ∷ ms) [] = zero
weight (New ∷ ms) (u ∷ us) = suc (length u.uses) + weight ms us
weight (Begun ∷ ms) (u ∷ us) = weight ms us
weight (Done ∷ ms) (u ∷ us) = weight ms us

weight-begun : (ms : List Mark) (us : List Node) (v : ℕ) → v < length ms → length ms ≡ length us
    → mark_at ms v ≡ New → weight ms us ≡ weight (set ms v Begun) us + suc (length (uses_at us v))
unfolding weight
weight-begun [] us v l e f = absurd (omega arith)
weight-begun (m ∷ ms) [] v l e f = absurd (omega arith)
weight-begun (New ∷ ms) (u ∷ us) zero l e f = omega arith
weight-begun (Begun ∷ ms) (u ∷ us) zero l e f = absurd (new-not-begun (sym f))
weight-begun (Done ∷ ms) (u ∷ us) zero l e f = absurd (new-not-done (sym f))
weight-begun (New ∷ ms) (u ∷ us) (suc v) l e f = let h = weight-begun ms us v (omega arith) (omega arith) f in
    omega (arith, h)
weight-begun (Begun ∷ ms) (u ∷ us) (suc v) l e f = weight-begun ms us v (omega arith) (omega arith) f
weight-begun (Done ∷ ms) (u ∷ us) (suc v) l e f = weight-begun ms us v (omega arith) (omega arith) f

weight-done : (ms : List Mark) (us : List Node) (v : ℕ) → mark_at ms v ≡ Begun
    → weight (set ms v Done) us ≡ weight ms us
unfolding weight
weight-done [] us v f = refl
weight-done (m ∷ ms) [] zero f = refl
weight-done (m ∷ ms) [] (suc v) f = refl
weight-done (New ∷ ms) (u ∷ us) zero f = absurd (new-not-begun f)
weight-done (Begun ∷ ms) (u ∷ us) zero f = refl
weight-done (Done ∷ ms) (u ∷ us) zero f = refl
weight-done (New ∷ ms) (u ∷ us) (suc v) f = ap (λ n. suc (length u.uses) + n) (weight-done ms us v f)
weight-done (Begun ∷ ms) (u ∷ us) (suc v) f = weight-done ms us v f
weight-done (Done ∷ ms) (u ∷ us) (suc v) f = weight-done ms us v f

pub steps-left : List Node → List Step → Walked → ℕ
steps-left nodes steps walked = weight walked.marks nodes + length steps

pub steps-fewer : (nodes : List Node) (starts : List ℕ) (step : Step) (steps more : List Step) (walked new : Walked)
    → IsOnWay nodes starts (step ∷ steps) walked → IsStep nodes step steps walked more new
    → steps-left nodes more new < steps-left nodes (step ∷ steps) walked
unfolding steps-left
steps-fewer nodes starts step steps more walked new w (again e _ _ _ there is eq) = let l = ap length eq in
    omega (arith, l)
steps-fewer nodes starts step steps more walked new w (begins e _ _ _ _ there is eq eb ed) =
    let uses = map (wanted (Some e.to)) (uses_at nodes e.to) in
    let n : length more ≡ length (uses_at nodes e.to) + suc (length steps) = ap length eq
    ∙ length-append (enters uses) (Leave e.to ∷ steps) ∙ ap (λ (x : ℕ). x + suc (length steps))
    (length-enters uses ∙ length-map (Some e.to) (uses_at nodes e.to)) in
    let h : weight walked.marks nodes ≡ weight (set walked.marks e.to Begun) nodes + suc (length (uses_at nodes e.to)) =
    weight-begun walked.marks nodes e.to (subst (λ (x : ℕ). e.to < x) (sym w.size) (there-below nodes e.to there))
    w.size is in
    let k : weight new.marks nodes ≡ weight (set walked.marks e.to Begun) nodes = ap (λ (x : List Mark). weight x nodes) eb in
    omega (arith, n, h, k)
steps-fewer nodes starts step steps more walked new w (leaves v _ _ _ _ eq eb ed) =
    let l = ap length eq in
    let k : weight new.marks nodes ≡ weight walked.marks nodes = ap (λ (x : List Mark). weight x nodes) eb
    ∙ weight-done walked.marks nodes v (w.marked.begun_too v (inl refl)) in
    omega (arith, l, k)
