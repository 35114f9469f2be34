-- The types that each form of expression, right side and declaration writes, at the types as `src/` sees them.
use Rattle.std.proofs.Common.{◌≡◌, List, [], ◌∷◌, ◌++◌, refl, sym, ap, ap₂, ◌∙◌, append_assoc}
use Rattle.std.specs.Prelude.{flat_map, OnOk, Result, Ok, Err}
use Rattle.hs_core.specs.declared.tree.Written.{Written}
use Rattle.hs_core.specs.declared.tree.Pat.{Pat}
use Rattle.hs_core.specs.declared.tree.Decl.{Decl}
use Rattle.hs_core.specs.declared.tree.Exp.{Exp}
use Rattle.hs_core.specs.declared.tree.Exp.TheVariants.{Apply, Lambda, Let, If, Case, Tuple, List as ListOf}
use Rattle.hs_core.specs.declared.tree.Exp.TheVariants.{RightSection, Annot}
use Rattle.hs_core.specs.declared.tree.Rhs.{Rhs, out-Rhs}
use Rattle.hs_core.specs.declared.tree.Choice.{Choice}
use Rattle.hs_core.specs.declared.tree.Guard.{Guard}
use Rattle.hs_core.specs.declared.tree.Alt.{Alt, Alt', out-Alt}
use Rattle.hs_core.specs.declared.tree.Decl.TheBlock.{hidden-the_row-Exp-0, hidden-the_row-Exp-1, hidden-the_row-Decl-2}
use Rattle.hs_core.specs.declared.tree.Decl.TheBlock.{hidden-the_row-Alt-3, hidden-the_row-Guard-4}
use Rattle.hs_core.specs.declared.tree.Decl.TheBlock.{hidden-the_row-Choice-5}
use Rattle.hs_core.specs.declared.tree.Decl.TheViews.{roll-Rhs, roll-Alt, roll-out-Rhs}
use Rattle.written_types.specs.WrittenTypes.{types_in_exp, types_in_exp_row, types_in_decl, types_in_decl_row}
use Rattle.written_types.specs.WrittenTypes.{types_in_rhs, types_in_choice_row, types_in_guard, types_in_guard_row}
use Rattle.written_types.specs.WrittenTypes.{types_in_alt, types_in_alt_row}
use Rattle.written_types.specs.Lists.{types_in_choice}
use denote.Hole.Carrier.{hidden, out, roll}

-- ---- a row is its list

exps-list : (l : List Exp) → types_in_exp_row (hidden-the_row-Exp-1 l) ≡ flat_map types_in_exp l
unfolding hidden-the_row-Exp-1 hidden
exps-list [] = refl
exps-list (e ∷ l) = ap (λ r. types_in_exp e ++ r) (exps-list l)

decls-list : (l : List Decl) → types_in_decl_row (hidden-the_row-Decl-2 l) ≡ flat_map types_in_decl l
unfolding hidden-the_row-Decl-2 hidden
decls-list [] = refl
decls-list (d ∷ l) = ap (λ r. types_in_decl d ++ r) (decls-list l)

alts-list : (l : List Alt) → types_in_alt_row (hidden-the_row-Alt-3 l) ≡ flat_map types_in_alt l
unfolding hidden-the_row-Alt-3 hidden
alts-list [] = refl
alts-list (a ∷ l) = ap (λ r. types_in_alt a ++ r) (alts-list l)

guards-list : (l : List Guard) → types_in_guard_row (hidden-the_row-Guard-4 l) ≡ flat_map types_in_guard l
unfolding hidden-the_row-Guard-4 hidden
guards-list [] = refl
guards-list (g ∷ l) = ap (λ r. types_in_guard g ++ r) (guards-list l)

choices-list : (l : List Choice) → types_in_choice_row (hidden-the_row-Choice-5 l) ≡ flat_map types_in_choice l
unfolding hidden-the_row-Choice-5 hidden
choices-list [] = refl
choices-list (c ∷ l) = λ i. (guards-list c.guards i ++ types_in_exp c.exp) ++ choices-list l i

-- ---- each variant

pub at-Apply : (e : Exp) (l : List Exp) → types_in_exp (Apply e l) ≡ types_in_exp e ++ flat_map types_in_exp l
unfolding hidden-the_row-Exp-0 hidden
at-Apply e l = ap (λ r. types_in_exp e ++ r) (exps-list l)

pub at-Lambda : (l : List Pat) (e : Exp) → types_in_exp (Lambda l e) ≡ types_in_exp e
unfolding hidden-the_row-Exp-0 hidden
at-Lambda l e = refl

pub at-Let : (l : List Decl) (e : Exp) → types_in_exp (Let l e) ≡ flat_map types_in_decl l ++ types_in_exp e
unfolding hidden-the_row-Exp-0 hidden
at-Let l e = ap (λ r. r ++ types_in_exp e) (decls-list l)

pub at-If : (a b c : Exp) → types_in_exp (If a b c) ≡ types_in_exp a ++ (types_in_exp b ++ types_in_exp c)
unfolding hidden-the_row-Exp-0 hidden
at-If a b c = refl

pub at-Case : (e : Exp) (l : List Alt) → types_in_exp (Case e l) ≡ types_in_exp e ++ flat_map types_in_alt l
unfolding hidden-the_row-Exp-0 hidden
at-Case e l = ap (λ r. types_in_exp e ++ r) (alts-list l)

pub at-Tuple : (l : List Exp) → types_in_exp (Tuple l) ≡ flat_map types_in_exp l
at-Tuple l = exps-list l

pub at-List : (l : List Exp) → types_in_exp (ListOf l) ≡ flat_map types_in_exp l
at-List l = exps-list l

pub at-RightSection : (a b : Exp) → types_in_exp (RightSection a b) ≡ types_in_exp a ++ types_in_exp b
unfolding hidden-the_row-Exp-0 hidden
at-RightSection a b = refl

pub at-Annot : (e : Exp) (t : Written) → types_in_exp (Annot e t) ≡ types_in_exp e ++ t ∷ []
unfolding hidden-the_row-Exp-0 hidden
at-Annot e t = refl

rhs-roll : (cs : List Choice) (ds : List Decl)
    → types_in_rhs (roll-Rhs (record { choices = cs; local = ds })) ≡ flat_map types_in_choice cs ++ flat_map
    types_in_decl ds
unfolding roll-Rhs roll
rhs-roll cs ds = λ i. choices-list cs i ++ decls-list ds i

pub rhs-out : (r : Rhs) → types_in_rhs r ≡ flat_map types_in_choice (out-Rhs r).choices ++ flat_map types_in_decl
    (out-Rhs r).local
rhs-out r = ap types_in_rhs (sym (roll-out-Rhs r)) ∙ rhs-roll _ _

pub alt-out : (a : Alt) → types_in_alt a ≡ types_in_rhs (out-Alt a).rhs
unfolding out-Alt out
alt-out (Alt' p r) = refl

-- ---- what joined the others

pub on_ok : {A E : Type 0} (r : Result A E) (P Q : Type 0) → (P → Q) → OnOk r P → OnOk r Q
on_ok (Ok x) P Q f h = f h
on_ok (Err e) P Q f h = tt

pub joined : (all x y old mid new : List Written) → all ≡ x ++ y → mid ≡ old ++ x → new ≡ mid ++ y → new ≡ old ++ all
joined all x y old mid new e p q =
    q ∙ ap (λ l. l ++ y) p ∙ append_assoc old x y ∙ ap (λ l. old ++ l) (sym e)

pub in-Apply : (x e f : Exp) (l m : List Exp) → x ≡ Apply e l → f ≡ e → m ≡ l
    → types_in_exp x ≡ types_in_exp f ++ flat_map types_in_exp m
in-Apply x e f l m is p q = ap types_in_exp is ∙ at-Apply e l
    ∙ ap₂ (λ y z. types_in_exp y ++ flat_map types_in_exp z) (sym p) (sym q)

pub in-Lambda : (x e f : Exp) (l : List Pat) → x ≡ Lambda l e → f ≡ e → types_in_exp x ≡ types_in_exp f
in-Lambda x e f l is p = ap types_in_exp is ∙ at-Lambda l e ∙ ap types_in_exp (sym p)

pub in-Let : (x e f : Exp) (l m : List Decl) → x ≡ Let l e → f ≡ e → m ≡ l
    → types_in_exp x ≡ flat_map types_in_decl m ++ types_in_exp f
in-Let x e f l m is p q = ap types_in_exp is ∙ at-Let l e
    ∙ ap₂ (λ y z. flat_map types_in_decl z ++ types_in_exp y) (sym p) (sym q)

pub in-Case : (x e f : Exp) (l m : List Alt) → x ≡ Case e l → f ≡ e → m ≡ l
    → types_in_exp x ≡ types_in_exp f ++ flat_map types_in_alt m
in-Case x e f l m is p q = ap types_in_exp is ∙ at-Case e l
    ∙ ap₂ (λ y z. types_in_exp y ++ flat_map types_in_alt z) (sym p) (sym q)

pub in-RightSection : (x a b f g : Exp) → x ≡ RightSection a b → f ≡ a → g ≡ b
    → types_in_exp x ≡ types_in_exp f ++ types_in_exp g
in-RightSection x a b f g is p q = ap types_in_exp is ∙ at-RightSection a b
    ∙ ap₂ (λ y z. types_in_exp y ++ types_in_exp z) (sym p) (sym q)

pub in-If : (x a b c f g h : Exp) → x ≡ If a b c → f ≡ a → g ≡ b → h ≡ c
    → types_in_exp x ≡ types_in_exp f ++ (types_in_exp g ++ types_in_exp h)
in-If x a b c f g h is p q r = ap types_in_exp is ∙ at-If a b c
    ∙ ap (λ y. types_in_exp y ++ (types_in_exp b ++ types_in_exp c)) (sym p)
    ∙ ap₂ (λ y z. types_in_exp f ++ (types_in_exp y ++ types_in_exp z)) (sym q) (sym r)

pub ruleset written_equations = (
  at-Apply,
  at-Lambda,
  at-Let,
  at-If,
  at-Case,
  at-Tuple,
  at-List,
  at-RightSection,
  at-Annot,
  rhs-out,
  alt-out,
)
