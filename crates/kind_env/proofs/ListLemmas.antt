-- Lists of names that grow, and what names mean by them.
use Rattle.std.proofs.Common.{◌≡◌, ℕ, suc, ◌+◌, ◌<◌, Bool, true, false, List, [], ◌∷◌, ◌++◌, length}
use Rattle.std.proofs.Common.{get_or, take, true≢false}
use Rattle.std.proofs.lemmas.Option.{none-some}
use Rattle.std.proofs.Common.{inl, inr, refl, sym, ap, subst, ◌∙◌, arith}
use Rattle.std.specs.Prelude.{◌↔◌, map, flat_map, replicate, Option, Some, None}
use Rattle.std.proofs.lemmas.List.{append-nil, append_assoc, map-append}
use Rattle.bp_base.specs.declared.ty.OrigName.{OrigName}
use Rattle.bp_base.specs.declared.ty.Kind.{Kind}
use Rattle.bp_base.specs.declared.ty.Kind.TheVariants.{Arrow, Star}
use Rattle.bp_base.specs.declared.ty.Ty.{Ty}
use Rattle.bp_base.specs.declared.ty.Ty.TheVariants.{App}
use Rattle.bp_base.specs.declared.ty.Ty.TheBlock.{hidden-the_row-Ty-0}
use denote.Hole.Carrier.{hidden}
use Rattle.bp_base.specs.declared.special.Special.{Special}
use Rattle.hs_core.specs.Types.{KindTerm, star, arrow, arrows, kind_term}
use Rattle.hs_core.specs.Sameness.{same_original}
use Rattle.hs_core.proofs.SamenessLemmas.{original_itself, original_same}
use Rattle.hs_core.specs.Globals.{Named, NameMeaning, kind_in, synonym_in, in_front, no_names, noted_in}
use Rattle.hs_core.specs.Globals.{special_types, special_constructors, Globals}
use Rattle.kind_check.specs.declared.scope.Known.{Known}
use Rattle.kind_check.specs.Scopes.{known_names, sense_kind}
use Rattle.kind_check.specs.Answers.{known_synonyms, sense_synonym}
use Rattle.kind_check.proofs.ArmLemmas.{kind_arrow}
use Rattle.kind_check.proofs.LoopLemmas.{map_next, flat_next}
use Rattle.kind_env.specs.Listings.{AreListed, Adds, type_of_special, value_of_special, nth_type, nth_value}
use Rattle.kind_env.specs.Listings.{firsts, known_kind}

pub kind_from_star : (t : Kind) → kind_term (Arrow Star t) ≡ arrow star (kind_term t)
kind_from_star t = kind_arrow Star t

-- one parameter more
pub kind_next : (k j : KindTerm) (n : ℕ) → k ≡ arrow star j → j ≡ arrows (replicate n star) star
    → k ≡ arrows (replicate (n + 1) star) star
kind_next k j n g h =
    let s : suc n ≡ n + 1 = omega arith in
    g ∙ ap (arrow star) h ∙ ap (λ m. arrows (replicate m star) star) s

-- ---- names that join

AreListed-append : (xs ys : List Named) (es fs : List Known) → AreListed xs es → AreListed ys fs
    → AreListed (xs ++ ys) (es ++ fs)
AreListed-append [] ys es fs h k = subst (λ z. AreListed ys (z ++ fs)) (sym h) k
AreListed-append (x ∷ xs) ys [] fs h k = absurd h
AreListed-append (x ∷ xs) ys (e ∷ es) fs h k = (h.0, AreListed-append xs ys es fs h.1 k)

pub adds_nothing : (old new : List Known) → new ≡ old → Adds [] old new
adds_nothing old new e = record { more = []; behind = e ∙ sym (append-nil old); listed = refl }

pub adds_both : (xs ys : List Named) (old mid new : List Known) → Adds xs old mid → Adds ys mid new
    → Adds (xs ++ ys) old new
adds_both xs ys old mid new p q = record {
  more = p.more ++ q.more;
  behind = q.behind ∙ ap (λ z. z ++ q.more) p.behind ∙ append_assoc old p.more q.more;
  listed = AreListed-append xs ys p.more q.more p.listed q.listed;
}

pub adds_same : (xs ys : List Named) (old new : List Known) → xs ≡ ys → Adds xs old new → Adds ys old new
adds_same xs ys old new e h = subst (λ z. Adds z old new) e h

-- ---- loops

pub adds_next : {A : Type 0} (f : A → List Named) (xs : List A) (i : ℕ) (x d : A) (old mid new : List Known)
    → i < length xs → x ≡ get_or xs i d → Adds (flat_map f (take i xs)) old mid → Adds (f x) mid new
    → Adds (flat_map f (take (i + 1) xs)) old new
adds_next f xs i x d old mid new l e p q =
    subst (λ z. Adds z old new)
    (ap (λ y. flat_map f (take i xs) ++ f y) e ∙ sym (flat_next f xs i d l))
    (adds_both (flat_map f (take i xs)) (f x) old mid new p q)

pub adds_next_one : {A : Type 0} (f : A → Named) (xs : List A) (i : ℕ) (x d : A) (old mid new : List Known)
    → i < length xs → x ≡ get_or xs i d → Adds (map f (take i xs)) old mid → Adds (f x ∷ []) mid new
    → Adds (map f (take (i + 1) xs)) old new
adds_next_one f xs i x d old mid new l e p q =
    subst (λ z. Adds z old new)
    (ap (λ y. map f (take i xs) ++ f y ∷ []) e ∙ sym (map_next f xs i d l))
    (adds_both (map f (take i xs)) (f x ∷ []) old mid new p q)

pub adds_nth : (g : Special → Named) (f : ℕ → Special) (i : ℕ) (x : Special) (old mid new : List Known) → x ≡ f i
    → Adds (map g (firsts f i)) old mid → Adds (g x ∷ []) mid new → Adds (map g (firsts f (i + 1))) old new
adds_nth g f i x old mid new e p q =
    let s : suc i ≡ i + 1 = omega arith in
    subst (λ j. Adds (map g (firsts f j)) old new) s
    (subst (λ z. Adds z old new)
    (ap (λ y. map g (firsts f i) ++ g y ∷ []) e ∙ sym (map-append g (firsts f i) (f i ∷ [])))
    (adds_both (map g (firsts f i)) (g x ∷ []) old mid new p q))

pub all_types : map type_of_special (firsts nth_type 17) ≡ special_types
all_types = refl

pub all_values : map value_of_special (firsts nth_value 17) ≡ special_constructors
all_values = refl

pub noted_app : (f a : Ty) → noted_in (App f a) ≡ noted_in f ++ noted_in a
unfolding hidden-the_row-Ty-0 hidden
noted_app f a = refl

-- ---- what names mean

abbrev meaning : List Named → OrigName → Option NameMeaning
meaning xs n = in_front xs no_names n

pub listed_kinds : (xs : List Named) (es : List Known) (n : OrigName) (k : KindTerm) → AreListed xs es
    → known_names es n k ↔ (kind_in (meaning xs n) ≡ Some k)
listed_kinds [] es n k h = (
  λ p. absurd (subst (λ z. known_names z n k) h p),
  λ e. absurd (subst told e tt),
)
  where
    told : Option KindTerm → Type 0
    told (Some j) = ⊥
    told None = Unit {0}
listed_kinds (x ∷ xs) [] n k h = absurd h
listed_kinds (x ∷ xs) (e ∷ es) n k h = go (same_original x.name n) refl (listed_kinds xs es n k h.1)
  where
    go : (b : Bool) → same_original x.name n ≡ b → known_names es n k ↔ (kind_in (meaning xs n) ≡ Some k)
        → known_names (e ∷ es) n k ↔ (kind_in (meaning (x ∷ xs) n) ≡ Some k)
    go true t rest =
        let same : e.name ≡ n = h.0.named ∙ original_same x.name n t in
        let is : kind_in (meaning (x ∷ xs) n) ≡ sense_kind e.sense = rw t (sym h.0.kind) in (
          λ p. elim p [ inl q ↦ is ∙ q.1 | inr q ↦ absurd (q.0 same) ],
          λ q. inl (same, sym is ∙ q),
        )
    go false t rest =
        let other : e.name ≡ n → ⊥ = λ s.
        differ (sym t ∙ ap (same_original x.name) (sym (sym h.0.named ∙ s)) ∙ original_itself x.name) in
        let is : kind_in (meaning (x ∷ xs) n) ≡ kind_in (meaning xs n) = rw t refl in (
          λ p. elim p [ inl q ↦ absurd (other q.0) | inr q ↦ is ∙ rest.0 q.1 ],
          λ q. inr (other, rest.1 (sym is ∙ q)),
        )
      where
        differ : false ≡ true → ⊥
        differ w = subst told w tt
          where
            told : Bool → Type 0
            told true = ⊥
            told false = Unit {0}

pub listed_synonyms : (xs : List Named) (es : List Known) (n : OrigName) → AreListed xs es
    → known_synonyms es n ≡ synonym_in (meaning xs n)
listed_synonyms [] es n h = ap (λ z. known_synonyms z n) h
listed_synonyms (x ∷ xs) [] n h = absurd h
listed_synonyms (x ∷ xs) (e ∷ es) n h = go (same_original x.name n) refl (listed_synonyms xs es n h.1)
  where
    go : (b : Bool) → same_original x.name n ≡ b → known_synonyms es n ≡ synonym_in (meaning xs n)
        → known_synonyms (e ∷ es) n ≡ synonym_in (meaning (x ∷ xs) n)
    go true t rest =
        let s : same_original e.name n ≡ true = ap (λ z. same_original z n) h.0.named ∙ t in rw (s, t) h.0.synonym
    go false t rest =
        let s : same_original e.name n ≡ false = ap (λ z. same_original z n) h.0.named ∙ t in rw (s, t) rest

-- names in front of others whose kinds and synonyms are these
pub kind_in_front : (xs : List Named) (es outer : List Known) (G : Globals) (n : OrigName) → AreListed xs es
    → known_kind outer n ≡ kind_in (G n) → known_kind (es ++ outer) n ≡ kind_in (in_front xs G n)
kind_in_front [] es outer G n h o = ap (λ z. known_kind (z ++ outer) n) h ∙ o
kind_in_front (x ∷ xs) [] outer G n h o = absurd h
kind_in_front (x ∷ xs) (e ∷ es) outer G n h o = go (same_original x.name n) refl (kind_in_front xs es outer G n h.1 o)
  where
    go : (b : Bool) → same_original x.name n ≡ b → known_kind (es ++ outer) n ≡ kind_in (in_front xs G n)
        → known_kind ((e ∷ es) ++ outer) n ≡ kind_in (in_front (x ∷ xs) G n)
    go true t rest =
        let s : same_original e.name n ≡ true = ap (λ z. same_original z n) h.0.named ∙ t in rw (s, t) h.0.kind
    go false t rest =
        let s : same_original e.name n ≡ false = ap (λ z. same_original z n) h.0.named ∙ t in rw (s, t) rest

pub synonym_in_front : (xs : List Named) (es outer : List Known) (G : Globals) (n : OrigName) → AreListed xs es
    → known_synonyms outer n ≡ synonym_in (G n) → known_synonyms (es ++ outer) n ≡ synonym_in (in_front xs G n)
synonym_in_front [] es outer G n h o = ap (λ z. known_synonyms (z ++ outer) n) h ∙ o
synonym_in_front (x ∷ xs) [] outer G n h o = absurd h
synonym_in_front (x ∷ xs) (e ∷ es) outer G n h o =
    go (same_original x.name n) refl (synonym_in_front xs es outer G n h.1 o)
  where
    go : (b : Bool) → same_original x.name n ≡ b → known_synonyms (es ++ outer) n ≡ synonym_in (in_front xs G n)
        → known_synonyms ((e ∷ es) ++ outer) n ≡ synonym_in (in_front (x ∷ xs) G n)
    go true t rest =
        let s : same_original e.name n ≡ true = ap (λ z. same_original z n) h.0.named ∙ t in rw (s, t) h.0.synonym
    go false t rest =
        let s : same_original e.name n ≡ false = ap (λ z. same_original z n) h.0.named ∙ t in rw (s, t) rest

-- the first kind that is known of a name is the kind that it is known to have
pub known_has : (es : List Known) (n : OrigName) (k : KindTerm) → known_names es n k ↔ (known_kind es n ≡ Some k)
known_has [] n k = (λ h. absurd h, λ e. absurd (none-some k e))
known_has (e ∷ es) n k = go (same_original e.name n) refl (known_has es n k)
  where
    go : (b : Bool) → same_original e.name n ≡ b → known_names es n k ↔ (known_kind es n ≡ Some k)
        → known_names (e ∷ es) n k ↔ (known_kind (e ∷ es) n ≡ Some k)
    go true t rest =
        let is : known_kind (e ∷ es) n ≡ sense_kind e.sense = rw t refl in
        let same : e.name ≡ n = original_same e.name n t in (
          λ p. elim p [ inl q ↦ is ∙ q.1 | inr q ↦ absurd (q.0 same) ],
          λ q. inl (same, sym is ∙ q),
        )
    go false t rest =
        let is : known_kind (e ∷ es) n ≡ known_kind es n = rw t refl in
        let other : e.name ≡ n → ⊥ = λ s. true≢false
        (sym (ap (same_original e.name) (sym s) ∙ original_itself e.name) ∙ t) in (
          λ p. elim p [ inl q ↦ absurd (other q.0) | inr q ↦ is ∙ rest.0 q.1 ],
          λ q. inr (other, rest.1 (sym is ∙ q)),
        )

-- what is known of a name is what entities say
pub kind_known : (es : List Known) (n : OrigName) (o : Option KindTerm)
    → ((k : KindTerm) → known_names es n k ↔ (o ≡ Some k)) → known_kind es n ≡ o
kind_known es n o h = same (known_kind es n) o
    (λ k. (λ p. (h k).0 ((known_has es n k).1 p), λ p. (known_has es n k).0 ((h k).1 p)))
  where
    same : (p q : Option KindTerm) → ((k : KindTerm) → (p ≡ Some k) ↔ (q ≡ Some k)) → p ≡ q
    same None None f = refl
    same None (Some k) f = (f k).1 refl
    same (Some k) q f = sym ((f k).0 refl)

-- what joined nothing is all
pub listed_all : (xs : List Named) (old new : List Known) → Adds xs old new → old ≡ [] → AreListed xs new
listed_all xs old new h e = subst (AreListed xs) (sym (h.behind ∙ ap (λ z. z ++ h.more) e)) h.listed
