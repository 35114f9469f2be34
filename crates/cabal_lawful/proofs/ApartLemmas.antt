-- Lists in which no name stands twice.
use Rattle.std.proofs.Common.{◌≡◌, ◌⊎◌, inl, inr, refl, sym, ◌∙◌, subst, Bool, true, false, ◌||◌, cond, List, [], ◌∷◌}
use Rattle.std.proofs.Common.{◌++◌, arith}
use Rattle.std.specs.Str.{bytes_eq}
use Rattle.std.proofs.lemmas.Bool.{or_parts}
use Rattle.std.proofs.lemmas.List.Folds.{list_any-append}
use Rattle.bp_base.specs.Lists.{Among, AreDistinct}
use Rattle.bp_base.specs.Texts.{Text}
use Rattle.bp_base.proofs.SetLemmas.{among-right}
use Rattle.bp_base.proofs.TextLemmas.{same_texts, texts_same}
use Rattle.bp_base.specs.Lists.{is_among}
use Rattle.cabal_text.specs.Seen.{repeats_after, new_after, distinct}

pub is_at_end : (seen : List Text) (n a : Text) → is_among a (seen ++ n ∷ []) ≡
    (is_among a seen || (bytes_eq a n || false))
is_at_end seen n a = list_any-append (bytes_eq a) seen (n ∷ [])

fewer : (seen : List Text) (n a : Text) → is_among a (seen ++ n ∷ []) ≡ false → is_among a seen ≡ false
fewer seen n a e = (or_parts (is_among a seen) (bytes_eq a n || false) (sym (is_at_end seen n a) ∙ e)).0

other : (seen : List Text) (n : Text) → is_among n (seen ++ n ∷ []) ≡ false → ⊥
other seen n e =
    let f : (bytes_eq n n || false) ≡ false = (or_parts (is_among n seen) (bytes_eq n n || false)
    (sym (is_at_end seen n n) ∙ e)).1 in
    let g : bytes_eq n n ≡ false = (or_parts (bytes_eq n n) false f).0 in
    let t : bytes_eq n n ≡ true = texts_same n in
    cc

-- no name stands twice, and none is among those that were seen
pub record IsFresh (seen ns : List Text) : Type 0 where
  pub apart : (a : Text) → Among a ns → is_among a seen ≡ false
  pub distinct : AreDistinct ns

pub fresh_nil : (seen : List Text) → IsFresh seen []
fresh_nil seen = record { apart = λ a h. absurd h; distinct = tt }

pub fresh_less : (seen : List Text) (n : Text) (ns : List Text) → IsFresh (seen ++ n ∷ []) ns → IsFresh seen ns
fresh_less seen n ns f = record { apart = λ a h. fewer seen n a (f.apart a h); distinct = f.distinct }

apart_at : (seen : List Text) (n a : Text) (ns : List Text) → is_among n seen ≡ false → IsFresh (seen ++ n ∷ []) ns
    → (n ≡ a) ⊎ Among a ns → is_among a seen ≡ false
apart_at seen n a ns e f (inl p) = subst (λ x. is_among x seen ≡ false) p e
apart_at seen n a ns e f (inr h) = fewer seen n a (f.apart a h)

pub fresh_more : (seen : List Text) (n : Text) (ns : List Text) → is_among n seen ≡ false → IsFresh (seen ++ n ∷ []) ns
    → IsFresh seen (n ∷ ns)
fresh_more seen n ns e f = record {
  apart = λ a h. apart_at seen n a ns e f h;
  distinct = (λ h. other seen n (f.apart n h), f.distinct);
}

-- names of which none repeats one before it
pub repeats_none : (seen ns : List Text) → repeats_after seen ns ≡ false → IsFresh seen ns
repeats_none seen [] e = fresh_nil seen
repeats_none seen (n ∷ ns) e =
    let parts = or_parts (is_among n seen) (repeats_after (seen ++ n ∷ []) ns) e in
    fresh_more seen n ns parts.0 (repeats_none (seen ++ n ∷ []) ns parts.1)

new_step : (seen : List Text) (n : Text) (rest : List Text) (r : Bool) → is_among n seen ≡ r
    → IsFresh (seen ++ n ∷ []) rest
    → IsFresh seen (cond r [] (n ∷ []) ++ rest)
new_step seen n rest true e f = fresh_less seen n rest f
new_step seen n rest false e f = fresh_more seen n rest e f

-- each name once
pub new_fresh : (seen ns : List Text) → IsFresh seen (new_after seen ns)
new_fresh seen [] = fresh_nil seen
new_fresh seen (n ∷ ns) = new_step seen n (new_after (seen ++ n ∷ []) ns) (is_among n seen) refl
    (new_fresh (seen ++ n ∷ []) ns)

kept_first : (seen : List Text) (n : Text) (rest : List Text) (r : Bool) → is_among n seen ≡ r
    → (is_among n seen ≡ true) ⊎ Among n (cond r [] (n ∷ []) ++ rest)
kept_first seen n rest true e = inl e
kept_first seen n rest false e = inr (inl refl)

seen_or : (seen : List Text) (n a : Text) (r : Bool) → is_among a seen ≡ r → is_among a (seen ++ n ∷ []) ≡ true
    → (is_among a seen ≡ true) ⊎ (n ≡ a)
seen_or seen n a true e h = inl e
seen_or seen n a false e h =
    let f : (bytes_eq a n || false) ≡ true = rw e at (sym (is_at_end seen n a) ∙ h) in
    let g : bytes_eq a n ≡ true = grind arith in
    inr (sym (same_texts a n g))

kept_at : (seen : List Text) (n a : Text) (rest : List Text) → (n ≡ a)
    → (is_among a seen ≡ true) ⊎ Among a (cond (is_among n seen) [] (n ∷ []) ++ rest)
kept_at seen n a rest e = subst (λ x. (is_among x seen ≡ true)
    ⊎ Among x (cond (is_among n seen) [] (n ∷ []) ++ rest)) e (kept_first seen n rest (is_among n seen) refl)

kept_seen : (seen : List Text) (n a : Text) (rest : List Text) → (is_among a seen ≡ true) ⊎ (n ≡ a)
    → (is_among a seen ≡ true) ⊎ Among a (cond (is_among n seen) [] (n ∷ []) ++ rest)
kept_seen seen n a rest (inl t) = inl t
kept_seen seen n a rest (inr e) = kept_at seen n a rest e

kept_later : (seen : List Text) (n a : Text) (rest : List Text) → (is_among a (seen ++ n ∷ []) ≡ true) ⊎ Among a rest
    → (is_among a seen ≡ true) ⊎ Among a (cond (is_among n seen) [] (n ∷ []) ++ rest)
kept_later seen n a rest (inl t) = kept_seen seen n a rest (seen_or seen n a (is_among a seen) refl t)
kept_later seen n a rest (inr h) = inr (among-right a (cond (is_among n seen) [] (n ∷ [])) rest h)

-- each name is kept once
pub new_keeps : (seen ns : List Text) (a : Text) → Among a ns → (is_among a seen ≡ true) ⊎ Among a (new_after seen ns)
new_keeps seen [] a h = absurd h
new_keeps seen (n ∷ ns) a (inl e) = kept_at seen n a (new_after (seen ++ n ∷ []) ns) e
new_keeps seen (n ∷ ns) a (inr h) = kept_later seen n a (new_after (seen ++ n ∷ []) ns)
    (new_keeps (seen ++ n ∷ []) ns a h)

kept_distinct : (ns : List Text) (a : Text) → (is_among a [] ≡ true) ⊎ Among a (distinct ns) → Among a (distinct ns)
kept_distinct ns a (inl t) = absurd (cc)
kept_distinct ns a (inr h) = h

pub distinct_keeps : (ns : List Text) (a : Text) → Among a ns → Among a (distinct ns)
distinct_keeps ns a h = kept_distinct ns a (new_keeps [] ns a h)

pub distinct_apart : (ns : List Text) → AreDistinct (distinct ns)
distinct_apart ns = (new_fresh [] ns).distinct
