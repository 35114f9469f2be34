-- The value that is found to be ill typed is the one that is refused.
use Rattle.std.proofs.Common.{◌≡◌, ℕ, List, [], ◌∷◌, ◌++◌, length, get_or, refl, ap, ◌∙◌, subst}
use Rattle.bp_base.specs.Texts.{Text}
use Rattle.bp_base.specs.declared.code.Code.TheVariants.{IllTyped}
use Rattle.bp_base.specs.declared.defect.Defect.{Defect}
use Rattle.bp_base.specs.declared.defect.Item.TheVariants.{Named}
use Rattle.bp_checks.specs.Refused.{Wrong, defect_at}
use Rattle.hs_plain.specs.declared.plain.Binding.{Binding}
use Rattle.hs_plain.specs.declared.plain.PlainModule.{PlainModule}
use Rattle.plain_check.specs.Given.{typed}
use Rattle.plain_check.specs.Typing.{Assumption, assumptions_of, IsFirstIll}

at_middle : (before : List Binding) (it : Binding) (after : List Binding) (d : Binding)
    → get_or (before ++ it ∷ after) (length before) d ≡ it
at_middle [] it after d = refl
at_middle (b ∷ before) it after d = at_middle before it after d

ill_there : (globals : List Assumption) (bindings : List Binding) (place : ℕ) (d : Binding)
    → (f : IsFirstIll globals bindings place) → get_or bindings place d ≡ f.it
ill_there globals bindings place d f = rw (f.parts, f.behind) (at_middle f.before f.it f.after d)

-- the value that is found there is the one that is refused
pub ill_refused : (target : Text) (m : PlainModule) (bindings : List Binding) (place : ℕ) (d : Defect) (b : Binding)
    → bindings ≡ m.bindings
    → IsFirstIll (assumptions_of bindings) bindings place
    → d ≡ defect_at IllTyped target m.name (Named (get_or bindings place b).occ) → (typed target m).fails (Wrong d)
unfolding typed
ill_refused target m bindings place d b e f k =
    let first = subst (λ (bs : List Binding). IsFirstIll (assumptions_of bs) bs place) e f in
    let there : get_or bindings place b ≡ first.it =
    ap (λ (bs : List Binding). get_or bs place b) e ∙ ill_there (assumptions_of m.bindings) m.bindings place b first in
    (place, first, ap Wrong (k ∙ ap (λ (x : Binding). defect_at IllTyped target m.name (Named x.occ)) there))
