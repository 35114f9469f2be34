-- The equations of renaming expressions and declarations, at the types as `src/` sees them.
use Rattle.std.proofs.Common.{◌≡◌, List, [], ◌∷◌, refl, ap, sym, ◌∙◌}
use Rattle.std.specs.Prelude.{map}
use Rattle.bp_base.specs.declared.linking.Renaming.{Renaming}
use Rattle.hs_core.specs.declared.tree.Written.{Written}
use Rattle.hs_core.specs.declared.tree.Pat.{Pat}
use Rattle.hs_core.specs.declared.tree.Decl.{Decl}
use Rattle.hs_core.specs.declared.tree.Exp.{Exp}
use Rattle.hs_core.specs.declared.tree.Exp.TheVariants.{Apply, Lambda, Let, If, Case, Tuple, List as ListOf}
use Rattle.hs_core.specs.declared.tree.Exp.TheVariants.{RightSection, Annot}
use Rattle.hs_core.specs.declared.tree.Rhs.{Rhs, out-Rhs}
use Rattle.hs_core.specs.declared.tree.Choice.{Choice}
use Rattle.hs_core.specs.declared.tree.Guard.{Guard}
use Rattle.hs_core.specs.declared.tree.Alt.{Alt, Alt', out-Alt}
use Rattle.hs_core.specs.declared.tree.Decl.TheBlock.{hidden-the_row-Exp-0, hidden-the_row-Exp-1, hidden-the_row-Decl-2}
use Rattle.hs_core.specs.declared.tree.Decl.TheBlock.{hidden-the_row-Alt-3, hidden-the_row-Guard-4}
use Rattle.hs_core.specs.declared.tree.Decl.TheBlock.{hidden-the_row-Choice-5}
use Rattle.hs_core.specs.declared.tree.Decl.TheViews.{roll-Rhs, roll-Alt, roll-out-Rhs}
use Rattle.hs_core.specs.Rename.{renamed_written, renamed_pat, renamed_exp, renamed_exp_row, renamed_decl}
use Rattle.hs_core.specs.Rename.{renamed_decl_row, renamed_rhs, renamed_choice, renamed_choice_row, renamed_guard}
use Rattle.hs_core.specs.Rename.{renamed_guard_row, renamed_alt, renamed_alt_row}
use denote.Hole.Carrier.{hidden, out, roll}

-- ---- a row is its list

exps-list : (l : List Exp) (by : Renaming) → renamed_exp_row (hidden-the_row-Exp-1 l) by ≡ map (λ e. renamed_exp e by) l
unfolding hidden-the_row-Exp-1 hidden
exps-list [] by = refl
exps-list (e ∷ l) by = ap (λ r. renamed_exp e by ∷ r) (exps-list l by)

decls-list : (l : List Decl) (by : Renaming) → renamed_decl_row (hidden-the_row-Decl-2 l) by ≡ map
    (λ d. renamed_decl d by) l
unfolding hidden-the_row-Decl-2 hidden
decls-list [] by = refl
decls-list (d ∷ l) by = ap (λ r. renamed_decl d by ∷ r) (decls-list l by)

alts-list : (l : List Alt) (by : Renaming) → renamed_alt_row (hidden-the_row-Alt-3 l) by ≡ map (λ a. renamed_alt a by) l
unfolding hidden-the_row-Alt-3 hidden
alts-list [] by = refl
alts-list (a ∷ l) by = ap (λ r. renamed_alt a by ∷ r) (alts-list l by)

guards-list : (l : List Guard) (by : Renaming) → renamed_guard_row (hidden-the_row-Guard-4 l) by ≡ map
    (λ g. renamed_guard g by) l
unfolding hidden-the_row-Guard-4 hidden
guards-list [] by = refl
guards-list (g ∷ l) by = ap (λ r. renamed_guard g by ∷ r) (guards-list l by)

choices-list : (l : List Choice) (by : Renaming) → renamed_choice_row (hidden-the_row-Choice-5 l) by ≡ map
    (λ c. renamed_choice c by) l
unfolding hidden-the_row-Choice-5 hidden
choices-list [] by = refl
choices-list (c ∷ l) by = λ i. record {
  guards = guards-list c.guards by i;
  exp = renamed_exp c.exp by;
} ∷ choices-list l by i

-- ---- each variant

pub at-Apply : (e : Exp) (l : List Exp) (by : Renaming)
    → renamed_exp (Apply e l) by ≡ Apply (renamed_exp e by) (map (λ x. renamed_exp x by) l)
unfolding hidden-the_row-Exp-0 hidden
at-Apply e l by = ap (Apply (renamed_exp e by)) (exps-list l by)

pub at-Lambda : (l : List Pat) (e : Exp) (by : Renaming)
    → renamed_exp (Lambda l e) by ≡ Lambda (map (λ p. renamed_pat p by) l) (renamed_exp e by)
unfolding hidden-the_row-Exp-0 hidden
at-Lambda l e by = refl

pub at-Let : (l : List Decl) (e : Exp) (by : Renaming)
    → renamed_exp (Let l e) by ≡ Let (map (λ d. renamed_decl d by) l) (renamed_exp e by)
unfolding hidden-the_row-Exp-0 hidden
at-Let l e by = ap (λ r. Let r (renamed_exp e by)) (decls-list l by)

pub at-If : (a b c : Exp) (by : Renaming) → renamed_exp (If a b c) by ≡ If (renamed_exp a by) (renamed_exp b by)
    (renamed_exp c by)
unfolding hidden-the_row-Exp-0 hidden
at-If a b c by = refl

pub at-Case : (e : Exp) (l : List Alt) (by : Renaming)
    → renamed_exp (Case e l) by ≡ Case (renamed_exp e by) (map (λ a. renamed_alt a by) l)
unfolding hidden-the_row-Exp-0 hidden
at-Case e l by = ap (Case (renamed_exp e by)) (alts-list l by)

pub at-Tuple : (l : List Exp) (by : Renaming) → renamed_exp (Tuple l) by ≡ Tuple (map (λ x. renamed_exp x by) l)
at-Tuple l by = ap Tuple (exps-list l by)

pub at-List : (l : List Exp) (by : Renaming) → renamed_exp (ListOf l) by ≡ ListOf (map (λ x. renamed_exp x by) l)
at-List l by = ap ListOf (exps-list l by)

pub at-RightSection : (a b : Exp) (by : Renaming) → renamed_exp (RightSection a b) by ≡ RightSection (renamed_exp a by)
    (renamed_exp b by)
unfolding hidden-the_row-Exp-0 hidden
at-RightSection a b by = refl

pub at-Annot : (e : Exp) (t : Written) (by : Renaming)
    → renamed_exp (Annot e t) by ≡ Annot (renamed_exp e by) (renamed_written t by)
unfolding hidden-the_row-Exp-0 hidden
at-Annot e t by = refl

pub rhs-roll : (cs : List Choice) (ds : List Decl) (by : Renaming)
    → renamed_rhs (roll-Rhs (record { choices = cs; local = ds })) by ≡ roll-Rhs
    (record { choices = map (λ c. renamed_choice c by) cs; local = map (λ d. renamed_decl d by) ds })
unfolding roll-Rhs roll
rhs-roll cs ds by = λ i. roll-Rhs (record { choices = choices-list cs by i; local = decls-list ds by i })

pub rhs-out : (r : Rhs) (by : Renaming) → renamed_rhs r by ≡ roll-Rhs
    (record {
      choices = map (λ c. renamed_choice c by) (out-Rhs r).choices;
      local = map (λ d. renamed_decl d by) (out-Rhs r).local;
    })
rhs-out r by = ap (λ x. renamed_rhs x by) (sym (roll-out-Rhs r)) ∙ rhs-roll _ _ by

pub alt-roll : (p : Pat) (r : Rhs) (by : Renaming)
    → renamed_alt (roll-Alt (record { pat = p; rhs = r })) by ≡ roll-Alt
    (record { pat = renamed_pat p by; rhs = renamed_rhs r by })
unfolding roll-Alt roll
alt-roll p r by = refl

pub alt-out : (a : Alt) (by : Renaming) → renamed_alt a by ≡ roll-Alt
    (record { pat = renamed_pat (out-Alt a).pat by; rhs = renamed_rhs (out-Alt a).rhs by })
unfolding roll-Alt out-Alt out
alt-out (Alt' p r) by = refl

pub ruleset tree_equations = (
  at-Apply,
  at-Lambda,
  at-Let,
  at-If,
  at-Case,
  at-Tuple,
  at-List,
  at-RightSection,
  at-Annot,
  rhs-out,
  alt-out,
)

-- ---- what was made of the parts of an expression

pub made-Apply : (x e e' : Exp) (l l' : List Exp) (by : Renaming) → x ≡ Apply e l → e' ≡ renamed_exp e by
    → l' ≡ map (λ y. renamed_exp y by) l → Apply e' l' ≡ renamed_exp x by
made-Apply x e e' l l' by is p q = (λ i. Apply (p i) (q i)) ∙ sym (ap (λ y. renamed_exp y by) is ∙ at-Apply e l by)

pub made-Lambda : (x e e' : Exp) (l l' : List Pat) (by : Renaming) → x ≡ Lambda l e → e' ≡ renamed_exp e by
    → l' ≡ map (λ y. renamed_pat y by) l → Lambda l' e' ≡ renamed_exp x by
made-Lambda x e e' l l' by is p q = (λ i. Lambda (q i) (p i)) ∙ sym (ap (λ y. renamed_exp y by) is ∙ at-Lambda l e by)

pub made-Let : (x e e' : Exp) (l l' : List Decl) (by : Renaming) → x ≡ Let l e → e' ≡ renamed_exp e by
    → l' ≡ map (λ y. renamed_decl y by) l → Let l' e' ≡ renamed_exp x by
made-Let x e e' l l' by is p q = (λ i. Let (q i) (p i)) ∙ sym (ap (λ y. renamed_exp y by) is ∙ at-Let l e by)

pub made-If : (x a b d a' b' d' : Exp) (by : Renaming) → x ≡ If a b d → a' ≡ renamed_exp a by → b' ≡ renamed_exp b by
    → d' ≡ renamed_exp d by → If a' b' d' ≡ renamed_exp x by
made-If x a b d a' b' d' by is p q r = (λ i. If (p i) (q i) (r i))
    ∙ sym (ap (λ y. renamed_exp y by) is ∙ at-If a b d by)

pub made-Case : (x e e' : Exp) (l l' : List Alt) (by : Renaming) → x ≡ Case e l → e' ≡ renamed_exp e by
    → l' ≡ map (λ y. renamed_alt y by) l → Case e' l' ≡ renamed_exp x by
made-Case x e e' l l' by is p q = (λ i. Case (p i) (q i)) ∙ sym (ap (λ y. renamed_exp y by) is ∙ at-Case e l by)

pub made-RightSection : (x a b a' b' : Exp) (by : Renaming) → x ≡ RightSection a b → a' ≡ renamed_exp a by
    → b' ≡ renamed_exp b by → RightSection a' b' ≡ renamed_exp x by
made-RightSection x a b a' b' by is p q = (λ i. RightSection (p i) (q i))
    ∙ sym (ap (λ y. renamed_exp y by) is ∙ at-RightSection a b by)
