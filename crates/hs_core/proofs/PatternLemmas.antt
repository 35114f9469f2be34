-- The equations of renaming patterns, at the types as `src/` sees them.
use Rattle.std.proofs.Common.{◌≡◌, List, [], ◌∷◌, refl, ap, sym, ◌∙◌}
use Rattle.std.specs.Prelude.{map}
use Rattle.bp_base.specs.Texts.{Text}
use Rattle.bp_base.specs.declared.ty.OrigName.{OrigName}
use Rattle.bp_base.specs.declared.linking.Renaming.{Renaming}
use Rattle.hs_core.specs.declared.tree.Pat.{Pat}
use Rattle.hs_core.specs.declared.tree.Pat.TheVariants.{PCon, PTuple, PList, PAs, PLazy}
use Rattle.hs_core.specs.declared.tree.Pat.TheBlock.{hidden-the_row-Pat-0, hidden-the_row-Pat-1}
use Rattle.hs_core.specs.Rename.{renamed_name, renamed_pat, renamed_pats}
use denote.Hole.Carrier.{hidden}

renamed_pats-list : (l : List Pat) (by : Renaming)
    → renamed_pats (hidden-the_row-Pat-0 l) by ≡ map (λ p. renamed_pat p by) l
unfolding hidden-the_row-Pat-0 hidden
renamed_pats-list [] by = refl
renamed_pats-list (p ∷ l) by = ap (λ r. renamed_pat p by ∷ r) (renamed_pats-list l by)

pub at-PCon : (n : OrigName) (l : List Pat) (by : Renaming)
    → renamed_pat (PCon n l) by ≡ PCon (renamed_name n by) (map (λ p. renamed_pat p by) l)
at-PCon n l by = ap (PCon (renamed_name n by)) (renamed_pats-list l by)

pub at-PTuple : (l : List Pat) (by : Renaming) → renamed_pat (PTuple l) by ≡ PTuple (map (λ p. renamed_pat p by) l)
at-PTuple l by = ap PTuple (renamed_pats-list l by)

pub at-PList : (l : List Pat) (by : Renaming) → renamed_pat (PList l) by ≡ PList (map (λ p. renamed_pat p by) l)
at-PList l by = ap PList (renamed_pats-list l by)

pub at-PAs : (n : Text) (p : Pat) (by : Renaming) → renamed_pat (PAs n p) by ≡ PAs n (renamed_pat p by)
unfolding hidden-the_row-Pat-1 hidden
at-PAs n p by = refl

pub at-PLazy : (p : Pat) (by : Renaming) → renamed_pat (PLazy p) by ≡ PLazy (renamed_pat p by)
unfolding hidden-the_row-Pat-1 hidden
at-PLazy p by = refl

pub ruleset pattern_equations = (at-PCon, at-PTuple, at-PList, at-PAs, at-PLazy)

-- what was made of the parts of a pattern

pub made-PCon : (x : Pat) (n n' : OrigName) (l l' : List Pat) (by : Renaming) → x ≡ PCon n l → n' ≡ renamed_name n by
    → l' ≡ map (λ p. renamed_pat p by) l → PCon n' l' ≡ renamed_pat x by
made-PCon x n n' l l' by is p q = (λ i. PCon (p i) (q i)) ∙ sym (ap (λ y. renamed_pat y by) is ∙ at-PCon n l by)

pub made-PAs : (x : Pat) (n n' : Text) (p p' : Pat) (by : Renaming) → x ≡ PAs n p → n' ≡ n → p' ≡ renamed_pat p by
    → PAs n' p' ≡ renamed_pat x by
made-PAs x n n' p p' by is e q = (λ i. PAs (e i) (q i)) ∙ sym (ap (λ y. renamed_pat y by) is ∙ at-PAs n p by)
