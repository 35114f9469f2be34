-- Inference of patterns in a row, one after another.
use Rattle.std.proofs.Common.{◌≡◌, sym, subst, ℕ, zero, suc, ◌+◌, ◌<◌, ◌≤◌, List, [], ◌∷◌, ◌++◌, drop, get_or, arith}
use Rattle.std.proofs.lemmas.List.{append-nil, drop_more, drop_all}
use Rattle.std.specs.Prelude.{length}
use Rattle.hs_core.specs.declared.tree.Pat.{Pat}
use Rattle.hs_core.specs.Types.{KindTerm, star}
use Rattle.hs_core.specs.Globals.{Globals}
use Rattle.type_equations.specs.States.{State, IsReady}
use Rattle.type_equations.specs.declared.equations.Binder.{Binder}
use Rattle.type_equations.specs.Demands.{Imposes}
use Rattle.type_equations.specs.Syntax.{AreStars}
use Rattle.type_equations.proofs.DemandLemmas.{slice_get-front}
use Rattle.infer_patterns.specs.Names.{Knows}
use Rattle.infer_patterns.specs.Patterns.{bind_each, PatternInferred, PatternRefused, PatternsInferred}
use Rattle.infer_patterns.specs.Patterns.{PatternsRefused}
use Rattle.infer_patterns.specs.declared.names.Declared.{Declared}
use Rattle.infer_patterns.proofs.PatternLemmas.{Remains, all_remain, next_remains, next_none, none_imposes}

-- the patterns from a number on are left
abbrev pub RowLeft : List Declared → List Pat → List ℕ → ℕ → List Binder → List Binder → State → State → Type 0
RowLeft names ps vs i before after old now = (G : Globals) → Knows G names → IsReady G old → AreStars old.kinds vs
    → Remains G ps vs (drop i ps) (drop i vs) before after old now

pub stars-grown : (ks js : List KindTerm) (vs : List ℕ) → AreStars ks vs → AreStars (ks ++ js) vs
stars-grown ks js [] h = tt
stars-grown ks js (v ∷ vs) h = (slice_get-front ks js v star h.0, stars-grown ks js vs h.1)

stars-drop : (ks : List KindTerm) (i : ℕ) (vs : List ℕ) → AreStars ks vs → AreStars ks (drop i vs)
stars-drop ks zero vs h = h
stars-drop ks (suc i) [] h = tt
stars-drop ks (suc i) (v ∷ vs) h = stars-drop ks i vs h.1

pub row_start : (names : List Declared) (ps : List Pat) (vs : List ℕ) (before : List Binder) (old : State)
    → RowLeft names ps vs 0 before before old old
row_start names ps vs before old G K r s = all_remain G ps vs before old r

-- the row, with its next pattern in front
next_left : (names : List Declared) (ps : List Pat) (vs : List ℕ) (i : ℕ) (d : Pat) (e : ℕ)
    (before middle : List Binder) (old now : State) → i < length ps → length ps ≡ length vs
    → RowLeft names ps vs i before middle old now
    → (G : Globals) → Knows G names → IsReady G old → AreStars old.kinds vs
    → Remains G ps vs (get_or ps i d ∷ drop (i + 1) ps) (get_or vs i e ∷ drop (i + 1) vs) before middle old now
next_left names ps vs i d e before middle old now l n h G K r s =
    subst (λ z. Remains G ps vs (get_or ps i d ∷ drop (i + 1) ps) z before middle old now)
    (drop_more vs i e (omega (arith, l, n)))
    (subst (λ z. Remains G ps vs z (drop i vs) before middle old now) (drop_more ps i d l) (h G K r s))

next_stars : (ps : List Pat) (vs : List ℕ) (i e : ℕ) (old now : State) (more : List KindTerm) → i < length vs
    → now.kinds ≡ old.kinds ++ more → AreStars old.kinds vs
    → AreStars now.kinds (get_or vs i e ∷ drop (i + 1) vs)
next_stars ps vs i e old now more l g s = subst (λ z. AreStars now.kinds z) (drop_more vs i e l)
    (subst (λ z. AreStars z (drop i vs)) (sym g) (stars-grown old.kinds more (drop i vs) (stars-drop old.kinds i vs s)))

pub row_next : (names : List Declared) (ps : List Pat) (vs : List ℕ) (i : ℕ) (d : Pat) (e : ℕ)
    (before middle after : List Binder) (old now new : State) → i < length ps → length ps ≡ length vs
    → RowLeft names ps vs i before middle old now
    → PatternInferred names middle after now new (get_or ps i d) (get_or vs i e)
    → RowLeft names ps vs (i + 1) before after old new
row_next names ps vs i d e before middle after old now new l n h p G K r s =
    let left = next_left names ps vs i d e before middle old now l n h G K r s in
    let ss = next_stars ps vs i e old now left.more (omega (arith, l, n)) left.grows s in
    next_remains G ps vs (get_or ps i d) (drop (i + 1) ps) (get_or vs i e) (drop (i + 1) vs) before middle after old now
    new ss left (p G K left.ready ss.0)

pub row_end : (names : List Declared) (ps : List Pat) (vs : List ℕ) (i : ℕ) (before after : List Binder)
    (old new : State) → length ps ≤ i → length ps ≡ length vs → RowLeft names ps vs i before after old new
    → PatternsInferred names before after old new ps vs
row_end names ps vs i before after old new l n h G K r s =
    let left = subst (λ z. Remains G ps vs [] z before after old new) (drop_all i vs (omega (arith, l, n)))
    (subst (λ z. Remains G ps vs z (drop i vs) before after old new) (drop_all i ps l) (h G K r s)) in
    record {
      binders = left.binders;
      pushed = left.pushed;
      imposes = subst (λ z. Imposes G (bind_each G ps vs) (bind_each G ps vs) z old new) (append-nil left.binders)
          (left.finish [] new (none_imposes G new left.ready));
    }

pub row_none : (names : List Declared) (ps : List Pat) (vs : List ℕ) (i : ℕ) (d : Pat) (e : ℕ)
    (before middle : List Binder) (old now : State) → i < length ps → length ps ≡ length vs
    → RowLeft names ps vs i before middle old now
    → PatternRefused names now (get_or ps i d) (get_or vs i e)
    → PatternsRefused names old ps vs
row_none names ps vs i d e before middle old now l n h p G K r s =
    let left = next_left names ps vs i d e before middle old now l n h G K r s in
    let ss = next_stars ps vs i e old now left.more (omega (arith, l, n)) left.grows s in
    next_none G ps vs (get_or ps i d) (drop (i + 1) ps) (get_or vs i e) (drop (i + 1) vs) before middle old now left
    (p G K left.ready ss.0)
