-- The variables of each form of pattern, at the types as `src/` sees them.
use Rattle.std.proofs.Common.{◌≡◌, List, [], ◌∷◌, ◌++◌, refl, ap, ap₂, sym, ◌∙◌, append_assoc}
use Rattle.std.specs.Prelude.{flat_map, Result, Ok, Err, OnOk}
use Rattle.bp_base.specs.Texts.{Text}
use Rattle.bp_base.specs.declared.ty.OrigName.{OrigName}
use Rattle.hs_core.specs.FreeNames.{pattern_names, patterns_names}
use Rattle.hs_core.specs.declared.tree.Pat.{Pat}
use Rattle.hs_core.specs.declared.tree.Pat.TheVariants.{PCon, PTuple, PList, PAs, PLazy}
use Rattle.hs_core.specs.declared.tree.Pat.TheBlock.{hidden-the_row-Pat-1, hidden-the_row-Pat-0}
use denote.Hole.Carrier.{hidden}

pats-list : (l : List Pat) → patterns_names (hidden-the_row-Pat-0 l) ≡ flat_map pattern_names l
unfolding hidden-the_row-Pat-0 hidden
pats-list [] = refl
pats-list (p ∷ l) = ap (λ r. pattern_names p ++ r) (pats-list l)

pub at-PCon : (n : OrigName) (l : List Pat) → pattern_names (PCon n l) ≡ flat_map pattern_names l
at-PCon n l = pats-list l

pub at-PTuple : (l : List Pat) → pattern_names (PTuple l) ≡ flat_map pattern_names l
at-PTuple l = pats-list l

pub at-PList : (l : List Pat) → pattern_names (PList l) ≡ flat_map pattern_names l
at-PList l = pats-list l

pub at-PAs : (x : Text) (p : Pat) → pattern_names (PAs x p) ≡ x ∷ pattern_names p
unfolding hidden-the_row-Pat-1 hidden
at-PAs x p = refl

pub at-PLazy : (p : Pat) → pattern_names (PLazy p) ≡ pattern_names p
unfolding hidden-the_row-Pat-1 hidden
at-PLazy p = refl

pub ruleset pattern_equations = (at-PCon, at-PTuple, at-PList, at-PAs, at-PLazy)

-- ---- what joined the others

pub on_ok : {A E : Type 0} (r : Result A E) (P Q : Type 0) → (P → Q) → OnOk r P → OnOk r Q
on_ok (Ok x) P Q f h = f h
on_ok (Err e) P Q f h = tt

pub in_PCon : (p : Pat) (n : OrigName) (l m : List Pat) (old new : List Text) → p ≡ PCon n l → m ≡ l
    → new ≡ old ++ flat_map pattern_names m → new ≡ old ++ pattern_names p
in_PCon p n l m old new is e h = h ∙ ap (λ z. old ++ z) (sym (ap pattern_names is ∙ at-PCon n l
    ∙ ap (flat_map pattern_names) (sym e)))

pub in_PAs : (p q r : Pat) (x y : Text) (old mid new : List Text) → p ≡ PAs x q → r ≡ q → y ≡ x → mid ≡ old ++ y ∷ []
    → new ≡ mid ++ pattern_names r → new ≡ old ++ pattern_names p
in_PAs p q r x y old mid new is e f m h =
    h ∙ ap (λ z. z ++ pattern_names r) m ∙ append_assoc old (y ∷ []) (pattern_names r)
    ∙ ap (λ z. old ++ z) (sym (ap pattern_names is ∙ at-PAs x q ∙ ap₂ (λ a b. a ∷ pattern_names b) (sym f) (sym e)))
