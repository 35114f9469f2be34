-- Types with their variables numbered anew.
use Rattle.std.proofs.Common.{◌≡◌, ℕ, List, refl, ap, sym, ◌∙◌}
use Rattle.std.specs.Prelude.{Result, Ok, Err, OnOk, IfOk}
use Rattle.bp_base.specs.declared.ty.Ty.{Ty}
use Rattle.bp_base.specs.declared.ty.Ty.TheVariants.{App}
use Rattle.bp_base.specs.declared.ty.Ty.TheBlock.{hidden-the_row-Ty-0}
use Rattle.hs_core.specs.Types.{type_term}
use Rattle.hs_core.specs.Matching.{variables_met}
use Rattle.kind_module.specs.Expanded.{renumbered}
use denote.Hole.Carrier.{hidden}

pub met_app : (met : List ℕ) (f a : Ty)
    → variables_met met (type_term (App f a)) ≡ variables_met (variables_met met (type_term f)) (type_term a)
unfolding hidden-the_row-Ty-0 hidden
met_app met f a = refl

pub renumbered_app : (met : List ℕ) (f a : Ty) → renumbered met (App f a) ≡ App (renumbered met f) (renumbered met a)
unfolding hidden-the_row-Ty-0 hidden
renumbered_app met f a = refl

pub met_both : (old mid new : List ℕ) (t f a g b : Ty) → t ≡ App f a → g ≡ f → b ≡ a
    → mid ≡ variables_met old (type_term g) → new ≡ variables_met mid (type_term b)
    → new ≡ variables_met old (type_term t)
met_both old mid new t f a g b is p q h k =
    k ∙ (λ i. variables_met ((h ∙ ap (λ z. variables_met old (type_term z)) p) i) (type_term (q i)))
    ∙ sym (ap (λ z. variables_met old (type_term z)) is ∙ met_app old f a)

pub on_ok : {A E : Type 0} (r : Result A E) (P Q : Type 0) → (P → Q) → OnOk r P → OnOk r Q
on_ok (Ok x) P Q f h = f h
on_ok (Err e) P Q f h = tt

pub if_ok : {A E : Type 0} (r : Result A E) (P Q : A → Type 0) → ((x : A) → P x → Q x) → IfOk r P → IfOk r Q
if_ok (Ok x) P Q f h = f x h
if_ok (Err e) P Q f h = tt

pub made : (met : List ℕ) (t f a g b x y z : Ty) → t ≡ App f a → g ≡ f → b ≡ a → x ≡ renumbered met g
    → y ≡ renumbered met b → z ≡ App x y → z ≡ renumbered met t
made met t f a g b x y z is p q h k e =
    e ∙ (λ i. App ((h ∙ ap (renumbered met) p) i) ((k ∙ ap (renumbered met) q) i))
    ∙ sym (ap (renumbered met) is ∙ renumbered_app met f a)
