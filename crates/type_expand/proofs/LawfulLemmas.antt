-- Synonyms are lawful where each body has an expansion.
use Rattle.std.proofs.Common.{◌≡◌, ℕ, zero, suc, ◌+◌, ◌<◌, Bool, true, false, List, [], ◌∷◌, ◌++◌, length, get_or}
use Rattle.std.proofs.Common.{take, inl}
use Rattle.std.proofs.Common.{inr, refl, sym, ap, subst, ◌∙◌, arith, true≢false}
use Rattle.std.specs.Prelude.{◌↔◌, IsTrue, Option, Some, None, IsSome, is_some, slice_get}
use Rattle.bp_base.specs.Lists.{Among}
use Rattle.bp_base.specs.declared.ty.OrigName.{OrigName}
use Rattle.bp_base.specs.declared.ty.Kind.{Kind}
use Rattle.bp_base.specs.declared.ty.Ty.{Ty}
use Rattle.hs_core.specs.Types.{TypeTerm, type_term}
use Rattle.hs_core.specs.Expansion.{Synonym, Synonyms, Expands, IsMet, LeadsTo, IsExpandable, AreLawful}
use Rattle.hs_core.specs.Expansion.LeadsTo.{at_once, through}
use Rattle.hs_core.proofs.ExpansionLemmas.{starts, expandable_from, some_of}
use Rattle.std.proofs.lemmas.List.{take_more}
use Rattle.kind_check.proofs.LoopLemmas.{take_end}
use Rattle.kind_check.specs.declared.scope.Known.{Known}
use Rattle.kind_check.specs.declared.scope.Sense.{Sense}
use Rattle.kind_check.specs.declared.scope.Sense.TheVariants.{SynonymOf}
use Rattle.kind_check.specs.Answers.{known_synonyms, sense_synonym}
use Rattle.type_expand.specs.Lawful.{IsLawfulName, AllLawful, names_of, IsUnlawfulAt}
use Rattle.type_expand.proofs.ExpandLemmas.{synonyms_named}

same_synonym : (s z : Synonym) → Some s ≡ Some z → s ≡ z
same_synonym s z e = ap inner e
  where
    inner : Option Synonym → Synonym
    inner (Some x) = x
    inner None = s

-- what a synonym leads to is met where its body is expanded
met_by : (S : Synonyms) (n m : OrigName) → LeadsTo S n m → (s : Synonym) → S n ≡ Some s → IsMet S s.body m
met_by S _ _ (at_once n m z q h) s p = subst (λ x. IsMet S x.body m) (same_synonym z s (sym q ∙ p)) (inl h)
met_by S _ _ (through n m l a b) s p = elim (met_by S n m a s p) [
  | inl k ↦ inr (m, k, b)
  | inr k ↦ inr (k.0, k.1, through k.0 m l k.2 b)
]

lawful_among : (S : Synonyms) (es : List Known) (n : OrigName) → AllLawful S es → Among n (names_of es)
    → IsLawfulName S n
lawful_among S [] n h a = absurd a
lawful_among S (e ∷ es) n h (inl p) = subst (IsLawfulName S) p h.0
lawful_among S (e ∷ es) n h (inr a) = lawful_among S es n h.1 a

pub lawful_from : (S : Synonyms) (es : List Known) → AllLawful S es → AreLawful S (names_of es)
lawful_from S es h = record {
  acyclic = λ n a l.
      let s = starts S n n l in
      (lawful_among S es n h a s.0 s.1).acyclic n (met_by S n n l s.0 s.1) l;
  applied_fully = λ n s a q. (lawful_among S es n h a s q).applied_fully;
}

pub lawful_to : (es : List Known) (n : OrigName) → AreLawful (known_synonyms es) (names_of es)
    → IsLawfulName (known_synonyms es) n
lawful_to es n h s q = record {
  applied_fully = h.applied_fully n s (synonyms_named es n (some_of (known_synonyms es) n s q)) q;
  bodies = λ m r met w. h.applied_fully m r (synonyms_named es m (some_of (known_synonyms es) m r w)) w;
  acyclic = λ m met l.
      let z = starts (known_synonyms es) m m l in
      h.acyclic m (synonyms_named es m (some_of (known_synonyms es) m z.0 z.1)) l;
}

-- ---- one name

pub by_body : (S : Synonyms) (n : OrigName) (sense : Sense) (k : Kind) (p : ℕ) (b : Ty) (x : Bool)
    → S n ≡ sense_synonym sense → sense ≡ SynonymOf k p b → IsTrue x ↔ IsExpandable S (type_term b)
    → IsTrue x ↔ IsLawfulName S n
by_body S n sense k p b x e f h =
    let q : S n ≡ Some (record { params = p; body = type_term b }) = e ∙ ap sense_synonym f in (
      λ t s w. subst (λ z. IsExpandable S z.body) (same_synonym _ s (sym q ∙ w)) (h.0 t),
      λ l. h.1 (l (record { params = p; body = type_term b }) q),
    )

pub no_synonym : (S : Synonyms) (n : OrigName) → S n ≡ None → IsTrue true ↔ IsLawfulName S n
no_synonym S n e = (λ t s w. absurd (subst told (sym w ∙ e) tt), λ l. refl)
  where
    told : Option Synonym → Type 0
    told (Some s) = Unit {0}
    told None = ⊥

pub has_expansion : (S : Synonyms) (t u : TypeTerm) → Expands S t u → IsTrue true ↔ IsExpandable S t
has_expansion S t u e = (λ x. expandable_from S t u e, λ x. refl)

pub has_none : (S : Synonyms) (t : TypeTerm) → (IsExpandable S t → ⊥) → IsTrue false ↔ IsExpandable S t
has_none S t n = (λ x. absurd (true≢false (sym x)), λ x. absurd (n x))

-- ---- one name after another

AllLawful-push : (S : Synonyms) (es : List Known) (e : Known) → AllLawful S es → IsLawfulName S e.name
    → AllLawful S (es ++ e ∷ [])
AllLawful-push S [] e h l = (l, tt)
AllLawful-push S (x ∷ es) e h l = (h.0, AllLawful-push S es e h.1 l)

pub lawful_next : (S : Synonyms) (es : List Known) (i : ℕ) (d : Known) (b : Bool) → i < length es
    → AllLawful S (take i es) → IsTrue b ↔ IsLawfulName S (get_or es i d).name → b ≡ true
    → AllLawful S (take (i + 1) es)
lawful_next S es i d b l h k e =
    subst (AllLawful S) (sym (take_more es i d l)) (AllLawful-push S (take i es) (get_or es i d) h (k.0 e))

there : (es : List Known) (i : ℕ) (d : Known) → i < length es → slice_get es i ≡ Some (get_or es i d)
there [] i d l = absurd (omega (arith, l))
there (e ∷ es) zero d l = refl
there (e ∷ es) (suc i) d l = there es i d (omega (arith, l))

pub unlawful_here : (known es : List Known) (i : ℕ) (d : Known) (b : Bool) → known ≡ es → i < length known
    → AllLawful (known_synonyms known) (take i known)
    → IsTrue b ↔ IsLawfulName (known_synonyms known) (get_or known i d).name → b ≡ false
    → IsUnlawfulAt (known_synonyms es) es (Some i)
unlawful_here known es i d b same l h k e =
    subst (λ x. IsUnlawfulAt (known_synonyms x) x (Some i)) same (
      h,
      (get_or known i d, there known i d l, λ n. true≢false (sym (k.1 n) ∙ e)),
      λ a. true≢false (sym (k.1 (lawful_to known (get_or known i d).name a)) ∙ e),
    )

pub all_lawful : (known es : List Known) (i : ℕ) → known ≡ es → i ≡ length known
    → AllLawful (known_synonyms known) (take i known) → AreLawful (known_synonyms es) (names_of es)
all_lawful known es i same e h =
    subst (λ x. AreLawful (known_synonyms x) (names_of x)) same
    (lawful_from (known_synonyms known) known
    (subst (AllLawful (known_synonyms known)) (take_end known i e) h))
