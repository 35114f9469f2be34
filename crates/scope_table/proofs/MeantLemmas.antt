-- What a table says of a name is what the name means.
use Rattle.std.proofs.Common.{◌≡◌, refl, sym, ap, ◌∙◌, Bool, true, false, List, [], ◌∷◌, map, inl, inr, Some}
use Rattle.std.proofs.Common.{None}
use Rattle.std.proofs.Common.{true≢false, subst}
use Rattle.std.specs.Prelude.{◌&&◌, not, Result, Ok, Err, if◌then◌else◌}
use Rattle.std.specs.List.{filter}
use Rattle.std.specs.Str.{bytes_eq}
use Rattle.bp_base.specs.Texts.{Text}
use Rattle.bp_base.specs.declared.ty.Space.{Space}
use Rattle.bp_base.specs.declared.ty.OrigName.{OrigName}
use Rattle.hs_core.specs.Sameness.{same_original, same_space}
use Rattle.hs_core.proofs.SamenessLemmas.{original_itself, original_same}
use Rattle.hs_scopes.specs.declared.scope.ScopeItem.{ScopeItem}
use Rattle.hs_scopes.specs.declared.scope.MeaningFault.{MeaningFault}
use Rattle.hs_scopes.specs.declared.scope.MeaningFault.TheVariants.{AmbiguousName}
use Rattle.hs_scopes.specs.Meanings.{meaning_of, meant_by, name_of, is_types, is_in, is_named, candidates}
use Rattle.hs_scopes.specs.Meanings.{AllMean, OneMeansAnother}
use Rattle.hs_scopes.specs.Words.{Word, is_empty}
use Rattle.bp_base.specs.declared.ty.Space.TheVariants.{Types, Values}
use Rattle.scope_table.specs.declared.candidate.Candidate.{Candidate}
use Rattle.scope_table.specs.Candidates.{candidate_of, candidates_of, is_candidate, chosen_from}
use Rattle.scope_table.specs.Laws.{SaysMeant, TablesMean}

-- what the choice among these says, where this one was found before
abbrev Says : Candidate → List ScopeItem → Result Candidate MeaningFault → Type 0
Says c is (Ok d) = AllMean c.name is × (d ≡ c)
Says c is (Err f) = OneMeansAnother c.name is × (f ≡ AmbiguousName)

-- one more that is the same
goes_on : (c : Candidate) (i : ScopeItem) (is : List ScopeItem) (r : Result Candidate MeaningFault) → meaning_of i
    ≡ c.name
    → Says c is r → Says c (i ∷ is) r
goes_on c i is (Ok d) e s = ((e, s.0), s.1)
goes_on c i is (Err f) e s = (inr s.0, s.1)

differs : (n m : OrigName) → same_original n m ≡ false → m ≡ n → ⊥
differs n m e p = true≢false (sym (subst (λ (x : OrigName). same_original n x ≡ true) (sym p) (original_itself n)) ∙ e)

by_test : (c : Candidate) (i : ScopeItem) (is : List ScopeItem) (t : Bool) (r : Result Candidate MeaningFault)
    → same_original c.name (meaning_of i) ≡ t → Says c is r → Says c (i ∷ is) (if t then r else Err AmbiguousName)
by_test c i is true r e s = goes_on c i is r (sym (original_same c.name (meaning_of i) e)) s
by_test c i is false r e s = (inl (differs c.name (meaning_of i) e), refl)

all_say : (c : Candidate) (is : List ScopeItem) → Says c is (chosen_from (Some c) (map candidate_of is))
all_say c [] = (tt, refl)
all_say c (i ∷ is) = by_test c i is (same_original c.name (meaning_of i)) _ refl (all_say c is)

from_says : (i : ScopeItem) (is : List ScopeItem) (r : Result Candidate MeaningFault) → Says (candidate_of i) is r
    → SaysMeant (i ∷ is) r
from_says i is (Ok d) s = ((ap (λ (c : Candidate). c.name) s.1, s.0), ap (λ (c : Candidate). c.fixity) s.1)
from_says i is (Err f) s = (s.0, s.1)

-- the choice among what items mean
among_items : (is : List ScopeItem) → SaysMeant is (chosen_from None (map candidate_of is))
among_items [] = refl
among_items (i ∷ is) = from_says i is _ (all_say (candidate_of i) is)

type_by : (s : Space) → is_types s ≡ same_space Types s
type_by Types = refl
type_by Values = refl

value_by : (s : Space) → not (is_types s) ≡ same_space Values s
value_by Types = refl
value_by Values = refl

types_by : (c : Text) (n : OrigName) → (is_empty c && is_types n.space) ≡ same_space Types (meant_by c n).space
types_by [] n = type_by n.space
types_by (b ∷ bs) n = refl

values_by : (c : Text) (n : OrigName) → not (is_empty c && is_types n.space) ≡ same_space Values (meant_by c n).space
values_by [] n = value_by n.space
values_by (b ∷ bs) n = refl

-- an item is a type or a value as what it means is
in_is : (space : Space) (i : ScopeItem) → is_in space i ≡ same_space space (meaning_of i).space
in_is Types i = types_by i.con (name_of i.entity)
in_is Values i = values_by i.con (name_of i.entity)

swapped : (a b c : Bool) → (b && c && a) ≡ (a && (b && c))
swapped true true true = refl
swapped true true false = refl
swapped true false c = refl
swapped false true true = refl
swapped false true false = refl
swapped false false c = refl

step : (space : Space) (q : Text) (x : ScopeItem) (fs ns : List ScopeItem) (a p n : Bool)
    → is_candidate space q (candidate_of x) ≡ p → n ≡ (a && p)
    → filter (is_candidate space q) (map candidate_of fs) ≡ map candidate_of ns
    → filter (is_candidate space q) (map candidate_of (if a then x ∷ fs else fs)) ≡ map candidate_of
    (if n then x ∷ ns else ns)
step space q x fs ns true true n ep en ih = rw (ep, en) (ap (λ (cs : List Candidate). candidate_of x ∷ cs) ih)
step space q x fs ns true false n ep en ih = rw (ep, en) ih
step space q x fs ns false p n ep en ih = rw en ih

named_is : (space : Space) (w : Word) (x : ScopeItem)
    → is_named space w x ≡ (bytes_eq x.occ w.occ && is_candidate space w.qualifier (candidate_of x))
named_is space w x = rw (sym (in_is space x)) (swapped (bytes_eq x.occ w.occ) (is_in space x)
    (bytes_eq x.qualifier w.qualifier))

-- what is asked for among what the items of an occurrence mean is what the candidates mean
found_is : (space : Space) (w : Word) (items : List ScopeItem)
    → filter (is_candidate space w.qualifier) (candidates_of items w.occ) ≡ map candidate_of (candidates items space w)
found_is space w [] = refl
found_is space w (x ∷ xs) = step space w.qualifier x (filter (λ i. bytes_eq i.occ w.occ) xs) (candidates xs space w)
    (bytes_eq x.occ w.occ) _ (is_named space w x) refl (named_is space w x) (found_is space w xs)

-- what a table says of a name is what the name means, with the fixity that it has
pub tables_mean : TablesMean
tables_mean items space w =
    subst (λ (cs : List Candidate). SaysMeant (candidates items space w) (chosen_from None cs))
    (sym (found_is space w items))
    (among_items (candidates items space w))
