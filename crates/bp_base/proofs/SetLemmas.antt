-- Lists as sets: what stands in them, and lists in which no item stands twice.
use Rattle.std.proofs.Common.{◌≡◌, ◌⊎◌, inl, inr, refl, sym, ap, subst, Bool, true, false, ◌||◌, List, [], ◌∷◌, ◌++◌}
use Rattle.std.proofs.Common.{map}
use Rattle.std.specs.Str.{bytes_eq}
use Rattle.bp_base.specs.Texts.{Text}
use Rattle.bp_base.specs.Lists.{Among, AreDistinct, is_among}
use Rattle.bp_base.proofs.TextLemmas.{same_texts, texts_same}

-- the test says what stands in the list
pub is_among-there : (name : Text) (names : List Text) → is_among name names ≡ true → Among name names
is_among-there name [] e = absurd (cc e)
is_among-there name (x ∷ xs) e = by_cases (bytes_eq name x) refl (is_among-there name xs)
  where
    by_cases : (t : Bool) → bytes_eq name x ≡ t → (is_among name xs ≡ true → Among name xs) → Among name (x ∷ xs)
    by_cases true f more = inl (sym (same_texts name x f))
    by_cases false f more = inr (more (rw f at e))

pub there-is_among : (name : Text) (names : List Text) → Among name names → is_among name names ≡ true
there-is_among name [] h = absurd h
there-is_among name (x ∷ xs) (inl e) = rw e (ap (λ (t : Bool). t || is_among name xs) (texts_same name))
there-is_among name (x ∷ xs) (inr h) = by_cases (bytes_eq name x) refl (there-is_among name xs h)
  where
    by_cases : (t : Bool) → bytes_eq name x ≡ t → is_among name xs ≡ true → is_among name (x ∷ xs) ≡ true
    by_cases true f more = rw f refl
    by_cases false f more = rw f more

pub not_among : (name : Text) (names : List Text) → is_among name names ≡ false → Among name names → ⊥
not_among name names e h = let t : is_among name names ≡ true = there-is_among name names h in cc

pub among-left : {A : Type 0} (a : A) (xs ys : List A) → Among a xs → Among a (xs ++ ys)
among-left a [] ys h = absurd h
among-left a (x ∷ xs) ys (inl e) = inl e
among-left a (x ∷ xs) ys (inr h) = inr (among-left a xs ys h)

pub among-right : {A : Type 0} (a : A) (xs ys : List A) → Among a ys → Among a (xs ++ ys)
among-right a [] ys h = h
among-right a (x ∷ xs) ys h = inr (among-right a xs ys h)

pub among-middle : {A : Type 0} (x : A) (xs ys : List A) → Among x (xs ++ x ∷ ys)
among-middle x xs ys = among-right x xs (x ∷ ys) (inl refl)

-- what stands in one list after another stands in one of the two
pub among-either : {A : Type 0} (a : A) (xs ys : List A) → Among a (xs ++ ys) → Among a xs ⊎ Among a ys
among-either a [] ys h = inr h
among-either a (x ∷ xs) ys (inl e) = inl (inl e)
among-either a (x ∷ xs) ys (inr h) = elim (among-either a xs ys h) [ inl k ↦ inl (inr k) | inr k ↦ inr k ]

pub among-map : {A B : Type 0} (f : A → B) (a : A) (xs : List A) → Among a xs → Among (f a) (map f xs)
among-map f a [] h = absurd h
among-map f a (x ∷ xs) (inl e) = inl (ap f e)
among-map f a (x ∷ xs) (inr h) = inr (among-map f a xs h)

-- what stands in a list of images is the image of something
pub among-image : {A B : Type 0} (f : A → B) (b : B) (xs : List A) → Among b (map f xs)
    → (a : A) × Among a xs × (f a ≡ b)
among-image f b [] h = absurd h
among-image f b (x ∷ xs) (inl e) = (x, inl refl, e)
among-image f b (x ∷ xs) (inr h) = let i = among-image f b xs h in (i.0, inr i.1, i.2)

pub distinct-left : {A : Type 0} (xs ys : List A) → AreDistinct (xs ++ ys) → AreDistinct xs
distinct-left [] ys d = tt
distinct-left (x ∷ xs) ys d = (λ h. d.0 (among-left x xs ys h), distinct-left xs ys d.1)

pub distinct-right : {A : Type 0} (xs ys : List A) → AreDistinct (xs ++ ys) → AreDistinct ys
distinct-right [] ys d = d
distinct-right (x ∷ xs) ys d = distinct-right xs ys d.1

-- nothing stands in both of two lists that are distinct one after the other
pub distinct-cross : {A : Type 0} (a : A) (xs ys : List A) → AreDistinct (xs ++ ys) → Among a xs → Among a ys → ⊥
distinct-cross a [] ys d h k = h
distinct-cross {A} a (x ∷ xs) ys d (inl e) k = d.0
    (subst (λ (z : A). Among z (xs ++ ys)) (sym e) (among-right a xs ys k))
distinct-cross a (x ∷ xs) ys d (inr h) k = distinct-cross a xs ys d.1 h k

pub distinct-join : {A : Type 0} (xs ys : List A) → AreDistinct xs → AreDistinct ys
    → ((a : A) → Among a xs → Among a ys → ⊥) → AreDistinct (xs ++ ys)
distinct-join [] ys d e f = e
distinct-join {A} (x ∷ xs) ys d e f = (
  λ h. elim (among-either x xs ys h) [ inl k ↦ d.0 k | inr k ↦ f x (inl refl) k ],
  distinct-join xs ys d.1 e (λ (a : A) h k. f a (inr h) k),
)

-- one more that was not there
pub distinct-push : {A : Type 0} (xs : List A) (x : A) → AreDistinct xs → (Among x xs → ⊥) → AreDistinct (xs ++ x ∷ [])
distinct-push {A} xs x d n = distinct-join xs (x ∷ []) d (λ h. h, tt)
    (λ (a : A) h k. elim k [ inl e ↦ n (subst (λ (y : A). Among y xs) (sym e) h) | inr none ↦ none ])

-- what stands before stands twice
pub distinct-twice : {A : Type 0} (xs ys : List A) (x : A) → Among x xs → AreDistinct (xs ++ x ∷ ys) → ⊥
distinct-twice xs ys x h d = distinct-cross x xs (x ∷ ys) d h (inl refl)
