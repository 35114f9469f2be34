-- What is not covered in a part is not covered in the whole.
use Rattle.std.proofs.Common.{◌≡◌, refl, subst, inl, inr, List, [], ◌∷◌}
use denote.Hole.Carrier.{hidden, out, roll}
use Rattle.hs_core.specs.declared.tree.Exp.{Exp}
use Rattle.hs_core.specs.declared.tree.Exp.TheVariants.{Apply, Lambda, Let, If, Case, Tuple, List as ListOf}
use Rattle.hs_core.specs.declared.tree.Exp.TheVariants.{RightSection}
use Rattle.hs_core.specs.declared.tree.Exp.TheVariants.{Annot}
use Rattle.hs_core.specs.declared.tree.Written.{Written}
use Rattle.hs_core.specs.declared.tree.Pat.{Pat}
use Rattle.hs_core.specs.declared.tree.Decl.{Decl}
use Rattle.hs_core.specs.declared.tree.Rhs.{Rhs, out-Rhs}
use Rattle.hs_core.specs.declared.tree.Choice.{Choice}
use Rattle.hs_core.specs.declared.tree.Guard.{Guard}
use Rattle.hs_core.specs.declared.tree.Guard.TheVariants.{Test, Bind}
use Rattle.hs_core.specs.declared.tree.Alt.{Alt, Alt', out-Alt}
use Rattle.hs_core.specs.declared.tree.Decl.TheViews.{roll-Rhs, roll-out-Rhs}
use Rattle.hs_core.specs.declared.tree.Decl.TheBlock.{hidden-the_row-Exp-0, hidden-the_row-Exp-1, hidden-the_row-Decl-2}
use Rattle.hs_core.specs.declared.tree.Decl.TheBlock.{hidden-the_row-Alt-3, hidden-the_row-Guard-4}
use Rattle.hs_core.specs.declared.tree.Decl.TheBlock.{hidden-the_row-Choice-5}
use Rattle.infer_expressions.specs.Covered.{IsUncovered, AnyDecl, AnyUncovered, AnyAltUncovered, IsAltUncovered}
use Rattle.infer_expressions.specs.Covered.{IsSideUncovered}
use Rattle.infer_expressions.specs.Covered.{AnyChoiceUncovered, AnyGuardUncovered, SomeUncovered, SomeAltUncovered}
use Rattle.infer_expressions.specs.Covered.{SomeGuardUncovered, IsGuardUncovered, SomeChoiceUncovered}

exps-row : (es : List Exp) → SomeUncovered es → AnyUncovered (hidden-the_row-Exp-1 es)
unfolding hidden-the_row-Exp-1 hidden
exps-row [] h = h
exps-row (e ∷ es) (inl h) = inl h
exps-row (e ∷ es) (inr h) = inr (exps-row es h)

alts-row : (alts : List Alt) → SomeAltUncovered alts → AnyAltUncovered (hidden-the_row-Alt-3 alts)
unfolding hidden-the_row-Alt-3 hidden
alts-row [] h = h
alts-row (a ∷ alts) (inl h) = inl h
alts-row (a ∷ alts) (inr h) = inr (alts-row alts h)

guards-row : (guards : List Guard) → SomeGuardUncovered guards → AnyGuardUncovered (hidden-the_row-Guard-4 guards)
unfolding hidden-the_row-Guard-4 hidden
guards-row [] h = h
guards-row (g ∷ guards) (inl h) = inl h
guards-row (g ∷ guards) (inr h) = inr (guards-row guards h)

choices-row : (choices : List Choice) → SomeChoiceUncovered choices
    → AnyChoiceUncovered (hidden-the_row-Choice-5 choices)
unfolding hidden-the_row-Choice-5 hidden hidden-the_row-Guard-4
choices-row [] h = h
choices-row (c ∷ choices) (inl (inl h)) = inl (inl (guards-row c.guards h))
choices-row (c ∷ choices) (inl (inr h)) = inl (inr h)
choices-row (c ∷ choices) (inr h) = inr (choices-row choices h)

-- ---- expressions

pub in_function : (f : Exp) (es : List Exp) → IsUncovered f → IsUncovered (Apply f es)
unfolding hidden-the_row-Exp-0 hidden
in_function f es h = inl h

pub in_arguments : (f : Exp) (es : List Exp) → SomeUncovered es → IsUncovered (Apply f es)
unfolding hidden-the_row-Exp-0 hidden
in_arguments f es h = inr (exps-row es h)

pub in_lambda : (ps : List Pat) (e : Exp) → IsUncovered e → IsUncovered (Lambda ps e)
unfolding hidden-the_row-Exp-0 hidden
in_lambda ps e h = h

pub at_let : (ds : List Decl) (e : Exp) → IsUncovered (Let ds e)
unfolding hidden-the_row-Exp-0 hidden
at_let ds e = tt

pub in_test : (a b c : Exp) → IsUncovered a → IsUncovered (If a b c)
unfolding hidden-the_row-Exp-0 hidden
in_test a b c h = inl h

pub in_yes : (a b c : Exp) → IsUncovered b → IsUncovered (If a b c)
unfolding hidden-the_row-Exp-0 hidden
in_yes a b c h = inr (inl h)

pub in_no : (a b c : Exp) → IsUncovered c → IsUncovered (If a b c)
unfolding hidden-the_row-Exp-0 hidden
in_no a b c h = inr (inr h)

pub in_case : (e : Exp) (alts : List Alt) → IsUncovered e → IsUncovered (Case e alts)
unfolding hidden-the_row-Exp-0 hidden
in_case e alts h = inl h

pub in_alternatives : (e : Exp) (alts : List Alt) → SomeAltUncovered alts → IsUncovered (Case e alts)
unfolding hidden-the_row-Exp-0 hidden
in_alternatives e alts h = inr (alts-row alts h)

pub in_tuple : (es : List Exp) → SomeUncovered es → IsUncovered (Tuple es)
in_tuple es h = exps-row es h

pub in_list : (es : List Exp) → SomeUncovered es → IsUncovered (ListOf es)
in_list es h = exps-row es h

pub in_operator : (op e : Exp) → IsUncovered op → IsUncovered (RightSection op e)
unfolding hidden-the_row-Exp-0 hidden
in_operator op e h = inl h

pub in_operand : (op e : Exp) → IsUncovered e → IsUncovered (RightSection op e)
unfolding hidden-the_row-Exp-0 hidden
in_operand op e h = inr h

pub at_annotation : (e : Exp) (w : Written) → IsUncovered (Annot e w)
unfolding hidden-the_row-Exp-0 hidden
at_annotation e w = tt

-- ---- alternatives and right sides

pub in_alternative : (a : Alt) → IsSideUncovered (out-Alt a).rhs → IsAltUncovered a
unfolding out-Alt out
in_alternative (Alt' p r) h = h

rolled_choices : (choices : List Choice) (local : List Decl) → SomeChoiceUncovered choices
    → IsSideUncovered (roll-Rhs (record { choices = choices; local = local }))
unfolding roll-Rhs roll hidden-the_row-Decl-2 hidden hidden-the_row-Choice-5
rolled_choices choices local h = inr (choices-row choices h)

decls-row : (local : List Decl) → (local ≡ [] → ⊥) → AnyDecl (hidden-the_row-Decl-2 local)
unfolding hidden-the_row-Decl-2 hidden
decls-row [] h = absurd (h refl)
decls-row (d ∷ local) h = tt

rolled_local : (choices : List Choice) (local : List Decl) → (local ≡ [] → ⊥)
    → IsSideUncovered (roll-Rhs (record { choices = choices; local = local }))
unfolding roll-Rhs roll hidden-the_row-Decl-2 hidden hidden-the_row-Choice-5
rolled_local choices local h = inl (decls-row local h)

pub in_choices : (r : Rhs) → SomeChoiceUncovered (out-Rhs r).choices → IsSideUncovered r
in_choices r h = subst IsSideUncovered (roll-out-Rhs r) (rolled_choices (out-Rhs r).choices (out-Rhs r).local h)

pub at_local : (r : Rhs) → ((out-Rhs r).local ≡ [] → ⊥) → IsSideUncovered r
at_local r h = subst IsSideUncovered (roll-out-Rhs r) (rolled_local (out-Rhs r).choices (out-Rhs r).local h)

pub in_guard_test : (e : Exp) → IsUncovered e → IsGuardUncovered (Test e)
in_guard_test e h = h

pub in_guard_bind : (p : Pat) (e : Exp) → IsUncovered e → IsGuardUncovered (Bind p e)
in_guard_bind p e h = h
