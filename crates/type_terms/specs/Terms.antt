-- Terms over variables and constructors: the types of Damas and Milner (Haskell 2010 Report, section 4.1.2).
use Rattle.std.specs.Prelude.{◌≡◌, ℕ, Bool, true, false, nat_eq, ◌||◌, if◌then◌else◌}

-- a variable, a constructor, or an application
pub data Term (V C : Type 0) : Type 0 where
  var : (index : V) → Term V C
  con : (name : C) → Term V C
  app : (fun arg : Term V C) → Term V C

-- a term for each variable
abbrev pub Assignment : Type 0 → Type 0 → Type 0 → Type 0
Assignment V W C = V → Term W C

-- a term with each variable replaced
abbrev pub applied : {V W C : Type 0} → Assignment V W C → Term V C → Term W C
applied s (var i) = s i
applied s (con n) = con n
applied s (app f a) = app (applied s f) (applied s a)

-- a term with each constructor changed
abbrev pub with_constructors : {V C D : Type 0} → (C → D) → Term V C → Term V D
with_constructors g (var i) = var i
with_constructors g (con n) = con (g n)
with_constructors g (app f a) = app (with_constructors g f) (with_constructors g a)

-- whether a variable occurs
abbrev pub occurs_in : {C : Type 0} → ℕ → Term ℕ C → Bool
occurs_in x (var i) = nat_eq x i
occurs_in x (con n) = false
occurs_in x (app f a) = occurs_in x f || occurs_in x a

-- a term with one variable replaced
abbrev pub replaced : {C : Type 0} → ℕ → Term ℕ C → Term ℕ C → Term ℕ C
replaced x u (var i) = if nat_eq x i then u else var i
replaced x u (con n) = con n
replaced x u (app f a) = app (replaced x u f) (replaced x u a)

-- every variable passes one test, and every constructor another
abbrev pub Every : {V C : Type 0} → (V → Bool) → (C → Bool) → Term V C → Type 0
Every p q (var i) = p i ≡ true
Every p q (con n) = q n ≡ true
Every p q (app f a) = Every p q f × Every p q a
