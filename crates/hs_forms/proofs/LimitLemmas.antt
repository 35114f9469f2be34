-- Limits, and lists of depths and tests.
use Rattle.std.proofs.Common.{◌≡◌, ℕ, ◌+◌, ◌≤◌, Bool, true, false, List, [], ◌∷◌, ◌++◌, refl, sym, true≢false, arith}
use Rattle.std.specs.Prelude.{map, max, ◌&&◌, ◌||◌, Option, Some, None}
use Rattle.std.proofs.lemmas.Bool.{and_from}
use Rattle.hs_forms.specs.Limits.{Within, lowered, deepest, all_of}

pub within_less : (limit : Option ℕ) (a b : ℕ) → a ≤ b → Within limit b → Within limit a
within_less None a b le h = tt
within_less (Some most) a b le h = omega arith

pub within_lowered : (limit : Option ℕ) (d used : ℕ) → Within limit (d + used) → Within (lowered limit used) d
within_lowered None d used h = tt
within_lowered (Some most) d used h = omega arith

pub within_raised : (limit : Option ℕ) (d used : ℕ) → Within limit used → Within (lowered limit used) d →
    Within limit (d + used)
within_raised None d used u h = tt
within_raised (Some most) d used u h = omega arith

pub within_zero : (limit : Option ℕ) → Within limit 0
within_zero None = tt
within_zero (Some most) = omega arith

-- two depths within a limit
pub within_max : (limit : Option ℕ) (a b c : ℕ) → Within limit (a + c) → Within limit (b + c) →
    Within limit (max a b + c)
within_max None a b c h k = tt
within_max (Some most) a b c h k = omega arith

pub and_left : (a b : Bool) → a && b ≡ true → a ≡ true
and_left true b e = refl
and_left false b e = e

pub and_right : (a b : Bool) → a && b ≡ true → b ≡ true
and_right true b e = e
and_right false b e = absurd (true≢false (sym e))

pub all_here : {X : Type 0} (f : X → Bool) (xs : List X) (x : X) (more : List X) →
    all_of (map f (xs ++ x ∷ more)) ≡ true → f x ≡ true
all_here f [] x more e = and_left (f x) _ e
all_here f (y ∷ xs) x more e = all_here f xs x more (and_right (f y) _ e)

pub all_more : {X : Type 0} (f : X → Bool) (xs : List X) (x : X) → all_of (map f xs) ≡ true → f x ≡ true →
    all_of (map f (xs ++ x ∷ [])) ≡ true
all_more f [] x e g = and_from (f x) true g refl
all_more f (y ∷ xs) x e g = and_from (f y) _ (and_left (f y) _ e) (all_more f xs x (and_right (f y) _ e) g)

pub deep_here : {X : Type 0} (f : X → ℕ) (xs : List X) (x : X) (more : List X) → f x ≤ deepest (map f (xs ++ x ∷ more))
deep_here f [] x more = omega arith
deep_here f (y ∷ xs) x more = let h = deep_here f xs x more in omega arith

pub deep_front : {X : Type 0} (f : X → ℕ) (xs ys : List X) → deepest (map f xs) ≤ deepest (map f (xs ++ ys))
deep_front f [] ys = omega arith
deep_front f (y ∷ xs) ys = let h = deep_front f xs ys in omega arith

pub deep_more : {X : Type 0} (f : X → ℕ) (xs : List X) (x : X) →
    deepest (map f (xs ++ x ∷ [])) ≡ max (deepest (map f xs)) (f x)
deep_more f [] x = omega arith
deep_more f (y ∷ xs) x = let h = deep_more f xs x in omega arith

pub or_left : (a b : Bool) → a || b ≡ false → a ≡ false
or_left true b e = e
or_left false b e = refl

pub or_right : (a b : Bool) → a || b ≡ false → b ≡ false
or_right true b e = absurd (true≢false e)
or_right false b e = e
