-- What `==` and the order of texts say.
use Rattle.std.proofs.Common.{◌≡◌, ◌≢◌, true, false, List, [], ◌∷◌, refl, sym, ap, ◌∙◌}
use Rattle.std.specs.Str.{bytes_eq}
use Rattle.std.specs.Bool.{Decides}
use Rattle.std.specs.Ordering.{nat_cmp, is_lt, ordering_reverse}
use Rattle.std.specs.Cmp.Lexicographic.{slice_cmp}
use Rattle.std.specs.FinMap.{slice_cmp-IsAntisymmetric, nat_cmp-IsAntisymmetric}
use Rattle.std.specs.declared.cmp.Ordering.{Ordering}
use Rattle.std.specs.declared.cmp.Ordering.TheVariants.{Less, Equal, Greater}
use Rattle.std.proofs.lemmas.Cmp.{nat_list_cmp_total}
use Rattle.std.proofs.lemmas.Slice.Eq.{slice_eq-Decides}
use Rattle.std.proofs.lemmas.Bool.Decides.{Decides-eqb, not_from_Decides}
use Rattle.bp_base.specs.Texts.{Text, Before, Rise, RiseAfter}

abbrev pub Decides-texts : (xs ys : Text) → Decides (bytes_eq xs ys) (xs ≡ ys)
Decides-texts xs ys = slice_eq-Decides Decides-eqb xs ys (bytes_eq xs ys) refl

pub same_texts : (xs ys : Text) → bytes_eq xs ys ≡ true → xs ≡ ys
same_texts xs ys = (Decides-texts xs ys).0

pub other_texts : (xs ys : Text) → bytes_eq xs ys ≡ false → xs ≢ ys
other_texts xs ys = not_from_Decides (bytes_eq xs ys) (Decides-texts xs ys)

pub texts_same : (xs : Text) → bytes_eq xs xs ≡ true
texts_same xs = (Decides-texts xs xs).1 refl

-- only a text itself stands neither before nor after it
pub tied_texts : (m n : Text) → slice_cmp nat_cmp m n ≡ Equal → m ≡ n
tied_texts = slice_cmp-IsAntisymmetric nat_cmp-IsAntisymmetric

pub Before-transitive : (m n o : Text) → Before m n → Before n o → Before m o
Before-transitive = nat_list_cmp_total.trans

pub not_before_itself : (n : Text) → Before n n → ⊥
not_before_itself n p = let q : Less ≡ Greater = sym p ∙ (nat_list_cmp_total.antisymm n n ∙ ap ordering_reverse p) in cc

-- of two names neither of which stands before the other each is the other
pub one_name : (m n : Text) → (Before m n → ⊥) → (Before n m → ⊥) → m ≡ n
one_name m n a b = by (slice_cmp nat_cmp m n) refl
  where
    by : (o : Ordering) → slice_cmp nat_cmp m n ≡ o → m ≡ n
    by Less e = absurd (a e)
    by Equal e = tied_texts m n e
    by Greater e = absurd (b (nat_list_cmp_total.antisymm n m ∙ ap ordering_reverse e))

-- what the test for `Less` says
pub tested_before : (m n : Text) → is_lt (slice_cmp nat_cmp m n) ≡ true → Before m n
tested_before m n e = by (slice_cmp nat_cmp m n) refl
  where
    by : (o : Ordering) → slice_cmp nat_cmp m n ≡ o → Before m n
    by Less p = p
    by Equal p = let f : false ≡ true = sym (ap is_lt p) ∙ e in cc
    by Greater p = let f : false ≡ true = sym (ap is_lt p) ∙ e in cc

-- texts that rise after one rise
pub Rise-after : (n : Text) (ms : List Text) → RiseAfter n ms → Rise ms
Rise-after n [] r = tt
Rise-after n (m ∷ ms) r = r.1
