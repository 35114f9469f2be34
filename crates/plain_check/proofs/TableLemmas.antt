-- Tables of the arrows of declared names.
use Rattle.std.proofs.Common.{refl, sym, ap, ◌∙◌, ◌≡◌, ℕ, ◌+◌, ◌<◌, Bool, true, false, cond, Option, Some, None}
use Rattle.std.proofs.Common.{is_some, List, [], ◌∷◌, ◌++◌, length, get_or, take, if◌then◌else◌}
use Rattle.std.specs.Option.{option_or}
use Rattle.std.specs.Ordering.{nat_cmp, is_eq}
use Rattle.std.specs.Cmp.Lexicographic.{slice_cmp}
use Rattle.std.specs.BTreeMap.{BTreeMap, get}
use Rattle.std.proofs.lemmas.List.{take_more}
use Rattle.bp_base.proofs.TextLemmas.{same_texts}
use Rattle.std.specs.Str.{bytes_eq}
use Rattle.plain_check.specs.Arities.{arrows_in, HoldsArrows}
use Rattle.plain_trees.proofs.SetLemmas.{tied_same}
use Rattle.hs_plain.specs.declared.plain.Binding.{Binding}

-- one value more
arrows_in-push : (bs : List Binding) (b : Binding) (name : List ℕ)
    → arrows_in (bs ++ b ∷ []) name ≡ option_or (arrows_in bs name) (if bytes_eq name b.occ then Some b.arrows else None)
arrows_in-push [] b name = refl
arrows_in-push (c ∷ cs) b name = by_cases (bytes_eq name c.occ) (arrows_in-push cs b name)
  where
    by_cases : (t : Bool) → arrows_in (cs ++ b ∷ []) name ≡ option_or (arrows_in cs name)
        (if bytes_eq name b.occ then Some b.arrows else None)
        → (if t then Some c.arrows else arrows_in (cs ++ b ∷ []) name)
        ≡ option_or (if t then Some c.arrows else arrows_in cs name)
        (if bytes_eq name b.occ then Some b.arrows else None)
    by_cases true h = refl
    by_cases false h = h

one_more : (bs : List Binding) (i : ℕ) (item : Binding) → i < length bs → item ≡ get_or bs i item
    → take (i + 1) bs ≡ take i bs ++ item ∷ []
one_more bs i item h e = take_more bs i item h ∙ ap (λ (b : Binding). take i bs ++ b ∷ []) (sym e)

or_none : (o : Option ℕ) → o ≡ option_or o None
or_none None = refl
or_none (Some k) = refl

-- the name is declared already: its first value stays
pub table_kept : (bs : List Binding) (i : ℕ) (item : Binding) (table : BTreeMap (List ℕ) ℕ) → i < length bs
    → item ≡ get_or bs i item
    → is_some (get (slice_cmp nat_cmp) table item.occ) ≡ true → HoldsArrows table (take i bs)
    → HoldsArrows table (take (i + 1) bs)
table_kept bs i item table h e found holds name =
    holds name
    ∙ (stays (bytes_eq name item.occ) refl
    ∙ (sym (arrows_in-push (take i bs) item name) ∙ ap (λ (l : List Binding). arrows_in l name)
    (sym (one_more bs i item h e))))
  where
    some : (o : Option ℕ) (other : Option ℕ) → is_some o ≡ true → o ≡ option_or o other
    some None other g = absurd (cc g)
    some (Some k) other g = refl

    stays : (t : Bool) → bytes_eq name item.occ ≡ t
        → arrows_in (take i bs) name ≡ option_or (arrows_in (take i bs) name) (if t then Some item.arrows else None)
    stays true g =
        some (arrows_in (take i bs) name) (Some item.arrows)
        (ap is_some (sym (holds name)) ∙ (ap (λ (n : List ℕ). is_some (get (slice_cmp nat_cmp) table n))
        (same_texts name item.occ g) ∙ found))
    stays false g = or_none (arrows_in (take i bs) name)

-- the name is new
pub table_more : (bs : List Binding) (i : ℕ) (item : Binding) (occ : List ℕ) (old new : BTreeMap (List ℕ) ℕ)
    → i < length bs → item ≡ get_or bs i item → occ ≡ item.occ
    → is_some (get (slice_cmp nat_cmp) old item.occ) ≡ false
    → ((q : List ℕ) → get (slice_cmp nat_cmp) new q ≡ cond (is_eq (slice_cmp nat_cmp occ q)) (Some item.arrows)
    (get (slice_cmp nat_cmp) old q))
    → HoldsArrows old (take i bs) → HoldsArrows new (take (i + 1) bs)
table_more bs i item occ old new h e same absent up holds name =
    up name
    ∙ (ap (λ (t : Bool). cond t (Some item.arrows) (get (slice_cmp nat_cmp) old name)) (tied_same occ name
    ∙ ap (λ (o : List ℕ). bytes_eq name o) same)
    ∙ (ap (λ (o : Option ℕ). cond (bytes_eq name item.occ) (Some item.arrows) o) (holds name)
    ∙ (joins (bytes_eq name item.occ) refl
    ∙ (sym (arrows_in-push (take i bs) item name) ∙ ap (λ (l : List Binding). arrows_in l name)
    (sym (one_more bs i item h e))))))
  where
    none : (o : Option ℕ) (other : Option ℕ) → is_some o ≡ false → other ≡ option_or o other
    none None other g = refl
    none (Some k) other g = absurd (cc g)

    joins : (t : Bool) → bytes_eq name item.occ ≡ t
        → cond t (Some item.arrows) (arrows_in (take i bs) name) ≡ option_or (arrows_in (take i bs) name)
        (if t then Some item.arrows else None)
    joins true g =
        none (arrows_in (take i bs) name) (Some item.arrows)
        (ap is_some (sym (holds name)) ∙ (ap (λ (n : List ℕ). is_some (get (slice_cmp nat_cmp) old n))
        (same_texts name item.occ g) ∙ absent))
    joins false g = or_none (arrows_in (take i bs) name)
