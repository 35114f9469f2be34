-- The depth-first post-order of what a list of steps leads to: of components by dependencies, of modules by imports, of
-- units by fills
-- and includes.
use Rattle.std.specs.Prelude.{List, [], ◌∷◌, ◌++◌}
use Rattle.bp_base.specs.Lists.{Among, IsNew}
use Rattle.bp_checks.specs.Check.{Check}

-- nothing blocks the step from what is begun last
abbrev pub IsClear : {E A R : Type 0} → (List A → E → R → Type 0) → List A → E → Type 0
IsClear {R = R} blocks path e = (r : R) → blocks path e r → ⊥

-- A step leads `to` an item, and `next` gives the steps of an item. With the items of `path` begun, the last one first,
-- and those of
-- `done` done, going through a list of steps leaves these done.
pub data Visits {E A R : Type 0} (to : E → A) (next : A → List E → Type 0) (blocks : List A → E → R → Type 0) : List A
    → List A → List E → List A → Type 0 where
  finished : (path done : List A) → Visits to next blocks path done [] done
  met : (path done : List A) (e : E) (todo : List E) (new : List A) → IsClear blocks path e → Among (to e) done
      → Visits to next blocks path done todo new → Visits to next blocks path done (e ∷ todo) new
  visited : (path done : List A) (e : E) (todo : List E) (new : List A) (below : List E) (mid : List A)
      → IsClear blocks path e → IsNew path done (to e) → next (to e) below
      → Visits to next blocks (to e ∷ path) done below mid → Visits to next blocks path (mid ++ to e ∷ []) todo new
      → Visits to next blocks path done (e ∷ todo) new

-- why a walk stops: an item that is begun is met again, or a step is blocked
pub data WalkStop (A R : Type 0) : Type 0 where
  Cycle : A → WalkStop A R
  Blocked : R → WalkStop A R

-- Where a walk stops. What blocks a step is asked before all else.
pub data Stuck {E A R : Type 0} (to : E → A) (next : A → List E → Type 0) (blocks : List A → E → R → Type 0) : List A
    → List A → List E → WalkStop A R → Type 0 where
  blocked : (path done : List A) (e : E) (todo : List E) (r : R) → blocks path e r
      → Stuck to next blocks path done (e ∷ todo) (Blocked r)
  on_cycle : (path done : List A) (e : E) (todo : List E) → IsClear blocks path e → (Among (to e) done → ⊥)
      → Among (to e) path
      → Stuck to next blocks path done (e ∷ todo) (Cycle (to e))
  below_it : (path done : List A) (e : E) (todo below : List E) (s : WalkStop A R) → IsClear blocks path e
      → IsNew path done (to e)
      → next (to e) below → Stuck to next blocks (to e ∷ path) done below s
      → Stuck to next blocks path done (e ∷ todo) s
  past_met : (path done : List A) (e : E) (todo : List E) (s : WalkStop A R) → IsClear blocks path e → Among (to e) done
      → Stuck to next blocks path done todo s → Stuck to next blocks path done (e ∷ todo) s
  past_it : (path done : List A) (e : E) (todo below : List E) (mid : List A) (s : WalkStop A R) → IsClear blocks path e
      → IsNew path done (to e) → next (to e) below → Visits to next blocks (to e ∷ path) done below mid
      → Stuck to next blocks path (mid ++ to e ∷ []) todo s → Stuck to next blocks path done (e ∷ todo) s

-- the walk over a list of steps, with nothing begun and nothing done
abbrev pub walk : {E A R : Type 0} → (E → A) → (A → List E → Type 0) → (List A → E → R → Type 0) → List E
    → Check (List A) (WalkStop A R)
walk to next blocks todo = record { passes = Visits to next blocks [] [] todo; fails = Stuck to next blocks [] [] todo }

-- what steps lead to, and what that leads to in turn
pub data Reached {E A : Type 0} (to : E → A) (next : A → List E → Type 0) (todo : List E) : A → Type 0 where
  first : (e : E) → Among e todo → Reached to next todo (to e)
  further : (a : A) (below : List E) (e : E) → Reached to next todo a → next a below → Among e below
      → Reached to next todo (to e)

-- what each of these leads to stands among them
abbrev pub IsClosed : {E A : Type 0} → (E → A) → (A → List E → Type 0) → List A → Type 0
IsClosed {E} {A} to next done = (a : A) (below : List E) (e : E) → Among a done → next a below → Among e below
    → Among (to e) done
