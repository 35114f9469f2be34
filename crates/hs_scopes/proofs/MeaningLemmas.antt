-- What a name means is in scope.
use Rattle.std.proofs.Common.{◌≡◌, List, [], ◌∷◌, refl, sym, ap, ◌∙◌, inl, inr}
use Rattle.std.specs.Prelude.{Bool, true, false, Some, filter, if◌then◌else◌}
use Rattle.bp_base.specs.Lists.{Among}
use Rattle.bp_base.specs.Texts.{Text}
use Rattle.bp_base.specs.declared.ty.Space.{Space}
use Rattle.bp_checks.specs.Check.{IsExact}
use Rattle.bp_base.specs.declared.ty.OrigName.{OrigName}
use Rattle.hs_scopes.specs.declared.scope.ScopeItem.{ScopeItem}
use Rattle.hs_scopes.specs.Words.{word_of}
use Rattle.hs_scopes.specs.Meanings.{meaning_of, meaning_or, first_of_all, is_named, candidates, IsMeant, IsRefusedName}
use Rattle.hs_scopes.specs.Meanings.{AllMean, OneMeansAnother, name_meant}
use Rattle.hs_scopes.specs.Laws.{MeaningsAreInScope, MeantIsMeaning, NamesAreExact}

abbrev Found : List ScopeItem → OrigName → Type 0
Found items n = (i : ScopeItem) × Among i items × (meaning_of i ≡ n)

by_test : (x : ScopeItem) (found : List ScopeItem) (xs : List ScopeItem) (n : OrigName) (b : Bool)
    → (meaning_or (first_of_all found) ≡ Some n → Found xs n) → meaning_or
    (first_of_all (if b then x ∷ found else found)) ≡ Some n → Found (x ∷ xs) n
by_test x found xs n true rest e = (x, inl refl, cc)
by_test x found xs n false rest e = let h = rest e in (h.0, inr h.1, h.2)

first_found : (f : ScopeItem → Bool) (items : List ScopeItem) (n : OrigName) → meaning_or
    (first_of_all (filter f items)) ≡ Some n → Found items n
first_found f [] n e = absurd (cc)
first_found f (x ∷ xs) n e = by_test x (filter f xs) xs n (f x) (λ k. first_found f xs n k) e

pub meanings_are_in_scope : MeaningsAreInScope
meanings_are_in_scope items space w n e = first_found (is_named space w) items n e

meant_is : (is : List ScopeItem) (n : OrigName) → IsMeant is n → meaning_or (first_of_all is) ≡ Some n
meant_is [] n h = absurd h
meant_is (i ∷ is) n h = ap Some (sym h.0)

pub meant_is_meaning : MeantIsMeaning
meant_is_meaning items space name n h = meant_is _ n h

not_another : (n : OrigName) (is : List ScopeItem) → AllMean n is → OneMeansAnother n is → ⊥
not_another n [] a o = o
not_another n (i ∷ is) a (inl p) = p a.0
not_another n (i ∷ is) a (inr o) = not_another n is a.1 o

pub exact_name : (items : List ScopeItem) (space : Space) (x : Text) → IsExact (name_meant items space x)
exact_name items space x = exact_candidates (candidates items space (word_of x))
  where
    exact_candidates : (is : List ScopeItem) → IsExact (record { passes = IsMeant is; fails = IsRefusedName is })
    exact_candidates [] = record {
      one_answer = λ b c p q. absurd p;
      one_refusal = λ a b p q. p ∙ sym q;
      never_both =
          λ b r p q. p;
    }
    exact_candidates (i ∷ is) = record {
      one_answer = λ b c p q. p.0 ∙ sym q.0;
      one_refusal = λ a b p q. p.1 ∙ sym q.1;
      never_both = λ b r p q. not_another (meaning_of i) is p.1 q.0;
    }

pub names_are_exact : NamesAreExact
names_are_exact items space name = exact_name items space name
