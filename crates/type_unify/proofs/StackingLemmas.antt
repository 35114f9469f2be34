-- Laws of stacks of numbers and of tasks.
use Rattle.std.proofs.Common.{◌≡◌, ℕ, ◌+◌, ◌-◌, ◌*◌, ◌<◌, Bool, true, false, ◌||◌, List, [], ◌∷◌, ◌++◌, take, refl, sym}
use Rattle.std.proofs.Common.{ap, ap₂, subst, ◌∙◌, arith, append_assoc, append-nil}
use Rattle.std.specs.Prelude.{nat_eq, OnOk, IfErr, Result, Ok, Err}
use Rattle.type_terms.specs.Terms.{var, con, app, occurs_in}
use Rattle.type_unify.specs.Types.{Plain}
use Rattle.type_unify.specs.Written.{nodes_of}
use Rattle.type_unify.specs.Steps.{size}
use Rattle.type_unify.specs.Stacks.{occurs_among, sizes, Below, Looks, Unseen, written, load, TasksBelow}
use Rattle.type_unify.specs.Spelled.{Performs}
use Rattle.type_unify.specs.declared.term.Node.{Node}
use Rattle.type_unify.specs.declared.term.Node.TheVariants.{App}
use Rattle.type_unify.specs.declared.spell.Task.{Task}
use Rattle.type_unify.specs.declared.spell.Task.TheVariants.{Visit, Join}

pub size-positive : (t : Plain) → 0 < size t
size-positive (var i) = omega arith
size-positive (con h) = omega arith
size-positive (app f a) = omega arith

-- ---- numbers

pub occurs_among-push : (x : ℕ) (f : ℕ → Plain) (is : List ℕ) (i : ℕ)
    → occurs_among x f (is ++ i ∷ []) ≡ (occurs_in x (f i) || occurs_among x f is)
occurs_among-push x f [] i = refl
occurs_among-push x f (j ∷ is) i = ap (λ b. occurs_in x (f j) || b) (occurs_among-push x f is i)
    ∙ turn (occurs_in x (f j)) (occurs_in x (f i)) (occurs_among x f is)
  where
    turn : (a b c : Bool) → (a || (b || c)) ≡ (b || (a || c))
    turn true true c = refl
    turn true false c = refl
    turn false b c = refl

pub sizes-push : (f : ℕ → Plain) (is : List ℕ) (i : ℕ) → sizes f (is ++ i ∷ []) ≡ size (f i) + sizes f is
sizes-push f [] i = refl
sizes-push f (j ∷ is) i = omega (arith, sizes-push f is i)

pub Below-push : (m : ℕ) (is : List ℕ) (i : ℕ) → Below m is → i < m → Below m (is ++ i ∷ [])
Below-push m [] i h l = (l, tt)
Below-push m (j ∷ is) i h l = (h.0, Below-push m is i h.1 l)

pub Below-front : (m : ℕ) (is : List ℕ) (i : ℕ) → Below m (is ++ i ∷ []) → Below m is × (i < m)
Below-front m [] i h = (tt, h.0)
Below-front m (j ∷ is) i h = let r = Below-front m is i h.1 in ((h.0, r.0), r.1)

two_pushes : {X : Type 0} (is : List X) (a g : X) → is ++ a ∷ g ∷ [] ≡ (is ++ a ∷ []) ++ g ∷ []
two_pushes is a g = sym (append_assoc is (a ∷ []) (g ∷ []))

pub Unseen-leaf : (f : ℕ → Plain) (m x i : ℕ) (old new : List ℕ) → new ≡ old → occurs_in x (f i) ≡ false
    → Unseen f m x i old new
Unseen-leaf f m x i old new e o = record {
  same = ap (occurs_among x f) e ∙ sym (ap (λ b. b || occurs_among x f old) o);
  fewer = let s = ap (sizes f) e in omega (arith, s, size-positive (f i));
  within = λ h. subst (Below m) (sym e) h;
}

pub Looks-var : (f : ℕ → Plain) (m x i j : ℕ) (old new : List ℕ) (r : Bool) → new ≡ old → f i ≡ var j → r ≡ nat_eq x j
    → Looks f m x i old new r
Looks-var f m x i j old new true e s r = ap (occurs_in x) s ∙ sym r
Looks-var f m x i j old new false e s r = Unseen-leaf f m x i old new e (ap (occurs_in x) s ∙ sym r)

pub Unseen-app : (f : ℕ → Plain) (m x i g a : ℕ) (old new : List ℕ) → new ≡ old ++ a ∷ g ∷ [] → f i ≡ app (f g) (f a)
    → g < m → a < m → Unseen f m x i old new
Unseen-app f m x i g a old new e s lg la =
    let two : new ≡ (old ++ a ∷ []) ++ g ∷ [] = e ∙ two_pushes old a g in
    record {
      same =
          ap (occurs_among x f) two ∙ occurs_among-push x f (old ++ a ∷ []) g
          ∙ ap (λ b. occurs_in x (f g) || b) (occurs_among-push x f old a)
          ∙ apart (occurs_in x (f g)) (occurs_in x (f a)) (occurs_among x f old)
          ∙ sym (ap (λ t. occurs_in x t || occurs_among x f old) s);
      fewer =
          let z = ap (sizes f) two in
          let y = ap size s in
          omega (arith, z, y, sizes-push f (old ++ a ∷ []) g, sizes-push f old a);
      within = λ h. subst (Below m) (sym two) (Below-push m (old ++ a ∷ []) g (Below-push m old a h la) lg);
    }
  where
    apart : (b c d : Bool)
        → (b || (c || d)) ≡ ((b || c) || d)
    apart true c d = refl
    apart false c d = refl

-- one turn of the loop that looks for an unknown
pub among-seen : (f : ℕ → Plain) (m x n : ℕ) (old popped new : List ℕ) (b : Bool) → old ≡ popped ++ n ∷ []
    → Unseen f m x n popped new → occurs_among x f old ≡ b → occurs_among x f new ≡ b
among-seen f m x n old popped new b e u h = u.same ∙ sym (occurs_among-push x f popped n)
    ∙ ap (occurs_among x f) (sym e) ∙ h

pub among-found : (f : ℕ → Plain) (x n : ℕ) (old popped : List ℕ) (b : Bool) → old ≡ popped ++ n ∷ []
    → occurs_in x (f n) ≡ true → occurs_among x f old ≡ b → true ≡ b
among-found f x n old popped b e o h =
    sym (ap (occurs_among x f) e ∙ occurs_among-push x f popped n ∙ ap (λ c. c || occurs_among x f popped) o) ∙ h

pub sizes-seen : (f : ℕ → Plain) (m x n : ℕ) (old popped new : List ℕ) → old ≡ popped ++ n ∷ []
    → Unseen f m x n popped new → sizes f new < sizes f old
sizes-seen f m x n old popped new e u = let z = ap (sizes f) e in omega (arith, z, u.fewer, sizes-push f popped n)

-- ---- tasks

abbrev pub nodes_of_task : (ℕ → Plain) → Task → List Node
nodes_of_task f (Visit i) = nodes_of (f i)
nodes_of_task f Join = App ∷ []

abbrev pub load_of_task : (ℕ → Plain) → Task → ℕ
load_of_task f (Visit i) = 2 * size (f i)
load_of_task f Join = 1

pub written-push : (f : ℕ → Plain) (ts : List Task) (t : Task)
    → written f (ts ++ t ∷ []) ≡ nodes_of_task f t ++ written f ts
written-push f [] (Visit i) = sym (append-nil (nodes_of (f i)))
written-push f [] Join = refl
written-push f (Visit j ∷ ts) t = ap (λ r. r ++ nodes_of (f j)) (written-push f ts t)
    ∙ append_assoc (nodes_of_task f t) (written f ts) (nodes_of (f j))
written-push f (Join ∷ ts) t = ap (λ r. r ++ App ∷ []) (written-push f ts t)
    ∙ append_assoc (nodes_of_task f t) (written f ts) (App ∷ [])

pub load-push : (f : ℕ → Plain) (ts : List Task) (t : Task) → load f (ts ++ t ∷ []) ≡ load_of_task f t + load f ts
load-push f [] (Visit i) = refl
load-push f [] Join = refl
load-push f (Visit j ∷ ts) t = omega (arith, load-push f ts t)
load-push f (Join ∷ ts) t = omega (arith, load-push f ts t)

pub TasksBelow-visit : (m : ℕ) (ts : List Task) (i : ℕ) → TasksBelow m ts → i < m → TasksBelow m (ts ++ Visit i ∷ [])
TasksBelow-visit m [] i h l = (l, tt)
TasksBelow-visit m (Visit j ∷ ts) i h l = (h.0, TasksBelow-visit m ts i h.1 l)
TasksBelow-visit m (Join ∷ ts) i h l = TasksBelow-visit m ts i h l

pub TasksBelow-join : (m : ℕ) (ts : List Task) → TasksBelow m ts → TasksBelow m (ts ++ Join ∷ [])
TasksBelow-join m [] h = tt
TasksBelow-join m (Visit j ∷ ts) h = (h.0, TasksBelow-join m ts h.1)
TasksBelow-join m (Join ∷ ts) h = TasksBelow-join m ts h

pub TasksBelow-front : (m : ℕ) (ts : List Task) (t : Task) → TasksBelow m (ts ++ t ∷ [])
    → TasksBelow m ts × TasksBelow m (t ∷ [])
TasksBelow-front m [] t h = (tt, h)
TasksBelow-front m (Visit j ∷ ts) t h = let r = TasksBelow-front m ts t h.1 in ((h.0, r.0), r.1)
TasksBelow-front m (Join ∷ ts) t h = TasksBelow-front m ts t h

pub Performs-leaf : (f : ℕ → Plain) (m i : ℕ) (old new : List Task) (before after : List Node) (n : Node) → new ≡ old
    → after ≡ before ++ n ∷ [] → nodes_of (f i) ≡ n ∷ [] → Performs f m i old new before after
Performs-leaf f m i old new before after n e a s = record {
  same = ap₂ (λ x y. x ++ y) (a ∙ ap (λ z. before ++ z) (sym s)) (ap (written f) e);
  fewer = let z = ap (load f) e in omega (arith, z, size-positive (f i));
  within = λ h. subst (TasksBelow m) (sym e) h;
}

pub Performs-app : (f : ℕ → Plain) (m i g a : ℕ) (old new : List Task) (before after : List Node)
    → new ≡ old ++ Join ∷ Visit a ∷ Visit g ∷ [] → after ≡ before → f i ≡ app (f g) (f a) → g < m → a < m
    → Performs f m i old new before after
Performs-app f m i g a old new before after e s t lg la =
    let three : new ≡ ((old ++ Join ∷ []) ++ Visit a ∷ []) ++ Visit g ∷ [] =
    e ∙ sym (append_assoc old (Join ∷ []) (Visit a ∷ Visit g ∷ []))
    ∙ two_pushes (old ++ Join ∷ []) (Visit a) (Visit g) in
    let left : written f new ≡ nodes_of (f g) ++ (nodes_of (f a) ++ (App ∷ [] ++ written f old)) =
    ap (written f) three ∙ written-push f ((old ++ Join ∷ []) ++ Visit a ∷ []) (Visit g)
    ∙ ap (λ r. nodes_of (f g) ++ r) (written-push f (old ++ Join ∷ []) (Visit a)
    ∙ ap (λ r. nodes_of (f a) ++ r) (written-push f old Join)) in
    let right : before ++ nodes_of (f i) ++ written f old ≡ before
    ++ (nodes_of (f g) ++ (nodes_of (f a) ++ (App ∷ [] ++ written f old))) =
    ap (λ u. before ++ nodes_of u ++ written f old) t ∙ simp append_assoc in
    record {
      same = ap₂ (λ x y. x ++ y) s left ∙ sym right;
      fewer =
          let z = ap (load f) three in
          let y = ap size t in
          omega (
            arith,
            z,
            y,
            load-push f ((old ++ Join ∷ []) ++ Visit a ∷ []) (Visit g),
            load-push f (old ++ Join ∷ []) (Visit a),
            load-push f old Join,
          );
      within = λ h. subst (TasksBelow m) (sym three)
          (TasksBelow-visit m ((old ++ Join ∷ []) ++ Visit a ∷ []) g
          (TasksBelow-visit m (old ++ Join ∷ []) a (TasksBelow-join m old h) la) lg);
    }

pub OnOk-then : {X E P Q : Type 0} → (r : Result X E) → (P → Q) → OnOk r P → OnOk r Q
OnOk-then (Ok x) f h = f h
OnOk-then (Err e) f h = tt

pub Looks-true : (f : ℕ → Plain) (m x i : ℕ) (old new : List ℕ) (b : Bool) → Looks f m x i old new b → b ≡ true
    → occurs_in x (f i) ≡ true
Looks-true f m x i old new b h e = subst (Looks f m x i old new) e h

pub Looks-false : (f : ℕ → Plain) (m x i : ℕ) (old new : List ℕ) (b : Bool) → Looks f m x i old new b → b ≡ false
    → Unseen f m x i old new
Looks-false f m x i old new b h e = subst (Looks f m x i old new) e h

-- one turn of the loop that writes a type
pub visit_within : (m : ℕ) (old popped : List Task) (t : Task) (i : ℕ) → TasksBelow m old → old ≡ popped ++ t ∷ []
    → t ≡ Visit i → i < m
visit_within m old popped t i h e k =
    (subst (λ v. TasksBelow m (v ∷ [])) k (TasksBelow-front m popped t (subst (TasksBelow m) e h)).1).0

pub front_within : (m : ℕ) (old popped : List Task) (t : Task) → TasksBelow m old → old ≡ popped ++ t ∷ []
    → TasksBelow m popped
front_within m old popped t h e = (TasksBelow-front m popped t (subst (TasksBelow m) e h)).0

written-popped : (f : ℕ → Plain) (old popped : List Task) (t : Task) → old ≡ popped ++ t ∷ []
    → written f old ≡ nodes_of_task f t ++ written f popped
written-popped f old popped t e = ap (written f) e ∙ written-push f popped t

load-popped : (f : ℕ → Plain) (old popped : List Task) (t : Task) → old ≡ popped ++ t ∷ []
    → load f old ≡ load_of_task f t + load f popped
load-popped f old popped t e = ap (load f) e ∙ load-push f popped t

pub visit_same : (f : ℕ → Plain) (m i : ℕ) (old popped new : List Task) (t : Task) (before after all : List Node)
    → old ≡ popped ++ t ∷ [] → t ≡ Visit i → Performs f m i popped new before after → before ++ written f old ≡ all
    → after ++ written f new ≡ all
visit_same f m i old popped new t before after all e k p h =
    p.same ∙ append_assoc before (nodes_of (f i)) (written f popped)
    ∙ sym (ap (λ r. before ++ r) (written-popped f old popped t e ∙ ap (λ v. nodes_of_task f v ++ written f popped) k))
    ∙ h

pub visit_fewer : (f : ℕ → Plain) (m i : ℕ) (old popped new : List Task) (t : Task) (before after : List Node)
    → old ≡ popped ++ t ∷ [] → t ≡ Visit i → Performs f m i popped new before after → load f new < load f old
visit_fewer f m i old popped new t before after e k p =
    let z : load f old ≡ 2 * size (f i) + load f popped = load-popped f old popped t e
    ∙ ap (λ v. load_of_task f v + load f popped) k in
    omega (arith, z, p.fewer)

pub join_same : (f : ℕ → Plain) (old popped : List Task) (t : Task) (before after all : List Node)
    → old ≡ popped ++ t ∷ [] → t ≡ Join → after ≡ before ++ App ∷ [] → before ++ written f old ≡ all
    → after ++ written f popped ≡ all
join_same f old popped t before after all e k a h =
    ap (λ r. r ++ written f popped) a ∙ append_assoc before (App ∷ []) (written f popped)
    ∙ sym (ap (λ r. before ++ r) (written-popped f old popped t e ∙ ap (λ v. nodes_of_task f v ++ written f popped) k))
    ∙ h

pub join_fewer : (f : ℕ → Plain) (old popped : List Task) (t : Task) → old ≡ popped ++ t ∷ [] → t ≡ Join
    → load f popped < load f old
join_fewer f old popped t e k =
    let z : load f old ≡ 1 + load f popped = load-popped f old popped t e
    ∙ ap (λ v. load_of_task f v + load f popped) k in
    omega (arith, z)

pub OnOk-both : {X E P Q R : Type 0} → (r : Result X E) → (P → Q → R) → OnOk r P → OnOk r Q → OnOk r R
OnOk-both (Ok x) f h k = f h k
OnOk-both (Err e) f h k = tt
