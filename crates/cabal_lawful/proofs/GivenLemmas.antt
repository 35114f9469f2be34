-- What the fields of a component give: what holds of each value that is read.
use Rattle.std.proofs.Common.{◌≡◌, refl, sym, ap, ◌∙◌, ℕ, Bool, true, false, ◌==◌, cond, List, [], ◌∷◌, Option, Some}
use Rattle.std.proofs.Common.{None}
use Rattle.std.specs.List.{cons_option}
use Rattle.std.proofs.lemmas.Bool.{eqb-true}
use Rattle.bp_base.specs.Texts.{Text}
use Rattle.cabal_stanzas.specs.declared.stanzas.Field.{Field}
use Rattle.cabal_stanzas.specs.declared.table.Kind.{Kind}
use Rattle.cabal_stanzas.specs.declared.table.ComponentField.{ComponentField}
use Rattle.cabal_stanzas.specs.declared.table.ComponentField.TheVariants as f
use Rattle.cabal_stanzas.specs.declared.table.Use.{Use}
use Rattle.cabal_stanzas.specs.declared.table.Use.TheVariants.{Read, Ignored, Refused}
use Rattle.cabal_stanzas.specs.Table.{component_field, use_of, field_number, is_field}
use Rattle.cabal_component.specs.declared.given.Given.{Given}
use Rattle.cabal_component.specs.declared.given.Value.{Value}
use Rattle.cabal_component.specs.Given.{value_of, given_by, given_if, givens, value_at}

-- the field of a number
abbrev numbered : ℕ → ComponentField
numbered n =
    cond (n == 0) f.ExposedModules (cond (n == 1) f.OtherModules (cond (n == 2) f.Signatures
    (cond (n == 3) f.ReexportedModules (cond (n == 4) f.MainIs (cond (n == 5) f.BuildDepends
    (cond (n == 6) f.Mixins f.HsSourceDirs))))))

numbered_is : (x : ComponentField) → numbered (field_number x) ≡ x
numbered_is f.ExposedModules = refl
numbered_is f.OtherModules = refl
numbered_is f.Signatures = refl
numbered_is f.ReexportedModules = refl
numbered_is f.MainIs = refl
numbered_is f.BuildDepends = refl
numbered_is f.Mixins = refl
numbered_is f.HsSourceDirs = refl

-- what the test on fields says
pub same_field : (x y : ComponentField) → is_field x y ≡ true → x ≡ y
same_field x y e = sym (numbered_is x) ∙ ap numbered (eqb-true (field_number x) (field_number y) e) ∙ numbered_is y

module _ (P : Option Value → Type 0) where
  cond_step : (r : Bool) (one later : Option Value) → (r ≡ true → P one) → P later → P (cond r one later)
  cond_step true one later f h = f refl
  cond_step false one later f h = h

  module _ (kind : Kind) (field : ComponentField) (none : P None)
      (read : (x : ComponentField) (text : Text) → use_of kind x ≡ Read → x ≡ field → P (value_of x text)) where
    use_step : (g : Field) (x : ComponentField) (u : Use) (gs : List Given) → use_of kind x ≡ u → P (value_at field gs)
        → P (value_at field (cons_option (given_by u g.line x g.value) gs))
    use_step g x Read gs e h =
        cond_step (is_field x field) (value_of x g.value) (value_at field gs)
        (λ t. read x g.value e (same_field x field t)) h
    use_step g x Refused gs e h = cond_step (is_field x field) None (value_at field gs) (λ t. none) h
    use_step g x Ignored gs e h = h

    field_step : (g : Field) (o : Option ComponentField) (gs : List Given) → P (value_at field gs)
        → P (value_at field (cons_option (given_if kind g o) gs))
    field_step g None gs h = h
    field_step g (Some x) gs h = use_step g x (use_of kind x) gs refl h

    -- what holds of no value, and of each value of a field that is read, holds of the value of the field
    pub value_met : (fs : List Field) → P (value_at field (givens kind fs))
    value_met [] = none
    value_met (g ∷ fs) = field_step g (component_field g.name) (givens kind fs) (value_met fs)

-- a field that isn't read has no value
pub not_read : (kind : Kind) (field : ComponentField) → (use_of kind field ≡ Read → ⊥) → (fs : List Field)
    → value_at field (givens kind fs) ≡ None
not_read kind field n fs =
    value_met (λ o. o ≡ None) kind field refl (λ x text u e. absurd (n (sym (ap (use_of kind) e) ∙ u))) fs
