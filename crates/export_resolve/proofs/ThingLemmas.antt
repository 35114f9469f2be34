-- What a written name means in an export list.
use Rattle.std.proofs.Common.{◌≡◌, refl, sym, ap, subst, ◌∙◌, inl, inr, Bool, true, false, List, [], ◌∷◌, ◌++◌}
use Rattle.std.proofs.Common.{None, Some, true≢false}
use Rattle.std.specs.Prelude.{◌&&◌, Result, Ok, Err, if◌then◌else◌}
use Rattle.std.specs.List.{filter}
use Rattle.std.specs.Str.{bytes_eq}
use Rattle.bp_base.specs.Texts.{Text}
use Rattle.bp_base.specs.declared.ty.Space.{Space}
use Rattle.bp_base.specs.declared.ty.OrigName.{OrigName}
use Rattle.hs_core.specs.Sameness.{same_original}
use Rattle.hs_core.proofs.SamenessLemmas.{original_itself, original_same}
use Rattle.hs_modules.specs.declared.module.Module.{Module}
use Rattle.hs_scopes.specs.Words.{Word, word_of}
use Rattle.hs_scopes.specs.declared.scope.ScopeItem.{ScopeItem}
use Rattle.hs_scopes.specs.declared.scope.MeaningFault.{MeaningFault}
use Rattle.hs_scopes.specs.declared.scope.MeaningFault.TheVariants.{AmbiguousName}
use Rattle.hs_scopes.specs.Meanings.{AllMean, IsMeant, IsRefusedName, OneMeansAnother, candidates, meaning_of}
use Rattle.import_resolve.specs.Exports.{IsFirst, thing_named}
use Rattle.export_resolve.specs.Named.{items_named}
use Rattle.export_resolve.specs.Seen.{seen}
use Rattle.export_resolve.specs.Found.{found_from, is_asked, item_found, same_meaning, thing_found, thing_or}
use Rattle.export_resolve.proofs.JoinLemmas.{Meets}

-- what the choice among these says, where this one was found before
abbrev Behind : ScopeItem → List ScopeItem → Result ScopeItem MeaningFault → Type 0
Behind i js (Ok d) = AllMean (meaning_of i) js × (d ≡ i)
Behind i js (Err f) = OneMeansAnother (meaning_of i) js × (f ≡ AmbiguousName)

goes_on : (i j : ScopeItem) (js : List ScopeItem) (r : Result ScopeItem MeaningFault) → meaning_of j ≡ meaning_of i
    → Behind i js r → Behind i (j ∷ js) r
goes_on i j js (Ok d) e s = ((e, s.0), s.1)
goes_on i j js (Err f) e s = (inr s.0, s.1)

differs : (n m : OrigName) → same_original n m ≡ false → m ≡ n → ⊥
differs n m e p = true≢false (sym (subst (λ (x : OrigName). same_original n x ≡ true) (sym p) (original_itself n)) ∙ e)

by_test : (i j : ScopeItem) (js : List ScopeItem) (t : Bool) (r : Result ScopeItem MeaningFault)
    → same_meaning i j ≡ t → Behind i js r → Behind i (j ∷ js) (if t then r else Err AmbiguousName)
by_test i j js true r e s = goes_on i j js r (sym (original_same (meaning_of i) (meaning_of j) e)) s
by_test i j js false r e s = (inl (differs (meaning_of i) (meaning_of j) e), refl)

all_behind : (i : ScopeItem) (js : List ScopeItem) → Behind i js (found_from (Some i) js)
all_behind i [] = (tt, refl)
all_behind i (j ∷ js) = by_test i j js (same_meaning i j) _ refl (all_behind i js)

-- what is said of an answer among these
abbrev Says : List ScopeItem → Result ScopeItem MeaningFault → Type 0
Says js (Ok i) = IsMeant js (meaning_of i) × IsFirst js i
Says js (Err f) = IsRefusedName js f

from_first : (i : ScopeItem) (js : List ScopeItem) (r : Result ScopeItem MeaningFault) → Behind i js r → Says (i ∷ js) r
from_first i js (Ok d) s = ((ap meaning_of s.1, s.0), s.1)
from_first i js (Err f) s = (s.0, s.1)

among_items : (js : List ScopeItem) → Says js (found_from None js)
among_items [] = refl
among_items (i ∷ js) = from_first i js _ (all_behind i js)

step : (space : Space) (q : Text) (x : ScopeItem) (fs ns : List ScopeItem) (a p : Bool) → is_asked space q x ≡ p
    → filter (is_asked space q) fs ≡ ns
    → filter (is_asked space q) ((if a then x ∷ [] else []) ++ fs) ≡ (if p && a then x ∷ ns else ns)
step space q x fs ns true true e ih = rw e (ap (λ ys. x ∷ ys) ih)
step space q x fs ns true false e ih = rw e ih
step space q x fs ns false true e ih = ih
step space q x fs ns false false e ih = ih

-- what is asked for among the items of an occurrence are the candidates
asked_are : (space : Space) (w : Word) (items : List ScopeItem)
    → filter (is_asked space w.qualifier) (items_named items w.occ) ≡ candidates items space w
asked_are space w [] = refl
asked_are space w (x ∷ xs) =
    step space w.qualifier x (items_named xs w.occ) (candidates xs space w) (bytes_eq x.occ w.occ)
    (is_asked space w.qualifier x) refl (asked_are space w xs)

as_thing : (items : List ScopeItem) (space : Space) (name : Text) (r : Result ScopeItem MeaningFault)
    → Says (candidates items space (word_of name)) r → Meets (thing_named items space name) (thing_or name r)
as_thing items space name (Ok i) s = (i, meaning_of i, s.0, s.1, refl)
as_thing items space name (Err f) s = (f, s, refl)

-- what is found of a name is what it means
pub thing_met : (m : Module) (items : List ScopeItem) (space : Space) (name : Text)
    → Meets (thing_named items space name) (thing_found (seen m items) space name)
thing_met m items space name =
    as_thing items space name (item_found (seen m items) space (word_of name))
    (subst (λ (js : List ScopeItem). Says (candidates items space (word_of name)) (found_from None js))
    (sym (asked_are space (word_of name) items)) (among_items (candidates items space (word_of name))))
