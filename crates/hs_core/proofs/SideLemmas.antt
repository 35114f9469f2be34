-- Right sides are equal where their choices and their local declarations are.
use Rattle.std.proofs.Common.{◌≡◌, Bool, List, ap, sym, ◌∙◌}
use Rattle.std.specs.Prelude.{IsTrue}
use Rattle.hs_core.specs.declared.tree.Rhs.{Rhs, out-Rhs}
use Rattle.hs_core.specs.declared.tree.Decl.{Decl}
use Rattle.hs_core.specs.declared.tree.Decl.TheViews.{roll-Rhs, roll-out-Rhs}

-- a right side is its two fields
rhs-same : (a b : Rhs) → (out-Rhs a).choices ≡ (out-Rhs b).choices → (out-Rhs a).local ≡ (out-Rhs b).local → a ≡ b
rhs-same a b c d = sym (roll-out-Rhs a) ∙ (λ i. roll-Rhs (record { choices = c i; local = d i })) ∙ roll-out-Rhs b

-- two right sides with the same choices are equal where their local declarations are
pub sides-same : (a b : Rhs) (la lb : List Decl) (r : Bool) → (out-Rhs a).choices ≡ (out-Rhs b).choices
    → la ≡ (out-Rhs a).local → lb ≡ (out-Rhs b).local → (IsTrue r → la ≡ lb) × (la ≡ lb → IsTrue r)
    → (IsTrue r → a ≡ b) × (a ≡ b → IsTrue r)
sides-same a b la lb r c ea eb s = (
  (λ t. rhs-same a b c (sym ea ∙ s.0 t ∙ eb)),
  (λ e. s.1 (ea ∙ ap (λ x. (out-Rhs x).local) e ∙ sym eb)),
)
