-- New unknowns and the types that they stand for.
use Rattle.std.proofs.Common.{◌≡◌, refl, sym, ap, ap₂, subst, ◌∙◌, ℕ, zero, suc, ◌<◌, ◌+◌, List, [], ◌∷◌, ◌++◌, map}
use Rattle.std.proofs.Common.{arith}
use Rattle.std.proofs.lemmas.Option.{slice_get-get_or, same_Some}
use Rattle.std.specs.Prelude.{Some, slice_get, length, replicate}
use Rattle.std.specs.List.{range_with_len}
use Rattle.hs_core.specs.Types.{KindTerm, star, arrow, arrows, TypeTerm, TypeAssignment, applied_to}
use Rattle.hs_core.specs.Kinds.{HasKind}
use Rattle.hs_core.specs.Globals.{Globals, plain_names}
use Rattle.type_terms.specs.Terms.{app}
use Rattle.type_equations.specs.States.{Guess}
use Rattle.type_equations.specs.Demands.{spliced, HaveKinds}
use Rattle.type_equations.specs.Syntax.{AreStars}
use Rattle.type_equations.proofs.CodedLemmas.{kind_under-is}

pub spliced-some : (ks : List KindTerm) (us : List TypeTerm) (g : TypeAssignment) (i : ℕ) → i < length us
    → slice_get us i ≡ Some (spliced ks us g (length ks + i))
spliced-some [] us g i l = let e : length {A = KindTerm} [] + i ≡ i = omega arith in
    subst (λ j. slice_get us i ≡ Some (spliced [] us g j)) (sym e) (slice_get-get_or us i (g i) l)
spliced-some (k ∷ ks) us g i l = let e : length (k ∷ ks) + i ≡ suc (length ks + i) = omega arith in
    subst (λ j. slice_get us i ≡ Some (spliced (k ∷ ks) us g j)) (sym e) (spliced-some ks us (λ j. g (suc j)) i l)

pub map_range : (f : ℕ → TypeTerm) (a : ℕ) (us : List TypeTerm)
    → ((i : ℕ) → i < length us → slice_get us i ≡ Some (f (a + i))) → map f (range_with_len a (length us)) ≡ us
map_range f a [] h = refl
map_range f a (u ∷ us) h = ap₂ (λ t ts. t ∷ ts)
    (let e : a + 0 ≡ a = omega arith in ap f (sym e) ∙ sym (same_Some u (f (a + 0)) (h 0 (omega arith))))
    (map_range f (a + 1) us (λ i l. let e : a + 1 + i ≡ a + suc i = omega arith in
    h (suc i) (omega (arith, l)) ∙ ap (λ j. Some (f j)) (sym e)))

-- new unknowns stand for the types that were put there
pub unknowns_read : (ks : List KindTerm) (us : List TypeTerm) (g : TypeAssignment)
    → map (spliced ks us g) (range_with_len (length ks) (length us)) ≡ us
unknowns_read ks us g = map_range (spliced ks us g) (length ks) us (λ i l. spliced-some ks us g i l)

range-next : (a m : ℕ) → range_with_len a (suc m) ≡ range_with_len a m ++ (a + m) ∷ []
range-next a zero = let e : a + 0 ≡ a = omega arith in ap (λ b. b ∷ []) (sym e)
range-next a (suc m) = let e : a + 1 + m ≡ a + suc m = omega arith in
    ap (λ l. a ∷ l) (range-next (a + 1) m ∙ ap (λ b. range_with_len (a + 1) m ++ b ∷ []) e)

pub range-more : (a m : ℕ) → range_with_len a (m + 1) ≡ range_with_len a m ++ (a + m) ∷ []
range-more a m = let e : m + 1 ≡ suc m = omega arith in ap (range_with_len a) e ∙ range-next a m

-- ---- kinds of new unknowns

pub slice_get-behind : {A : Type 0} (xs ys : List A) (i : ℕ) → slice_get (xs ++ ys) (length xs + i) ≡ slice_get ys i
slice_get-behind {A} [] ys i = let e : length {A = A} [] + i ≡ i = omega arith in ap (slice_get ys) e
slice_get-behind (x ∷ xs) ys i = let e : length (x ∷ xs) + i ≡ suc (length xs + i) = omega arith in
    ap (slice_get (x ∷ xs ++ ys)) e ∙ slice_get-behind xs ys i

slice_get-replicate : {A : Type 0} (m i : ℕ) (x : A) → i < m → slice_get (replicate m x) i ≡ Some x
slice_get-replicate zero i x l = absurd (omega (arith, l))
slice_get-replicate (suc m) zero x l = refl
slice_get-replicate (suc m) (suc i) x l = slice_get-replicate m i x (omega (arith, l))

stars-range : (ks : List KindTerm) (a m : ℕ) → ((i : ℕ) → i < m → slice_get ks (a + i) ≡ Some star)
    → AreStars ks (range_with_len a m)
stars-range ks a zero h = tt
stars-range ks a (suc m) h = (
  (let e : a + 0 ≡ a = omega arith in ap (slice_get ks) (sym e) ∙ h 0 (omega arith)),
  stars-range ks (a + 1) m (λ i l. let e : a + 1 + i ≡ a + suc i = omega arith in
      ap (slice_get ks) e ∙ h (suc i) (omega (arith, l))),
)

pub new_stars : (ks : List KindTerm) (m : ℕ) → AreStars (ks ++ replicate m star) (range_with_len (length ks) m)
new_stars ks m = stars-range (ks ++ replicate m star) (length ks) m
    (λ i l. slice_get-behind ks (replicate m star) i ∙ slice_get-replicate m i star l)

-- ---- types of kind `*`

module _ (G : Globals) where
  pub have-length : (g : Guess) (us : List TypeTerm) (ks : List KindTerm) → HaveKinds G g us ks
      → length us ≡ length ks
  have-length g [] ks h = sym (ap length h)
  have-length g (u ∷ us) [] h = absurd h
  have-length g (u ∷ us) (k ∷ ks) h = ap suc (have-length g us ks h.1)

  -- what is applied to types of kind `*` takes them
  pub applied-kind : (g : Guess) (us : List TypeTerm) (t : TypeTerm) → HaveKinds G g us (replicate (length us) star)
      → HasKind (plain_names G) g.kinds (applied_to t us) star
      → HasKind (plain_names G) g.kinds t (arrows (replicate (length us) star) star)
  applied-kind g [] t h p = p
  applied-kind g (u ∷ us) t h p =
      let q = applied-kind g us (app t u) h.1 p in
      subst (λ j. HasKind (plain_names G) g.kinds t (arrow j (arrows (replicate (length us) star) star)))
      (sym (kind_under-is G g.kinds u q.0 q.2) ∙ kind_under-is G g.kinds u star h.0) q.1
