-- The last part of a block tells.
use Rattle.std.proofs.Common.{◌≡◌, ◌-◌, ◌∙◌, suc, List, [], ◌∷◌, ap, length, sym, arith}
use Rattle.std.specs.Prelude.{Some, None}
use Rattle.std.specs.List.{slice_get}
use Rattle.hs_expression_forms.specs.Expressions.{last_part}
use Rattle.hs_body_forms.specs.Bodies.{takes_rest}
use Rattle.hs_body_forms.specs.declared.parts.TopPart.{TopPart}
use Rattle.hs_bodies.proofs.blocks.ends_parts.Goals as goal

last_at : (h : TopPart) (xs : List TopPart) (x : TopPart) → slice_get xs (length xs - 1) ≡ Some x →
    x ≡ last_part h xs
last_at h [] x e = absurd (none e)
  where
    none : None ≡ Some x → ⊥
    none e = cc
last_at h (y ∷ []) x e = some e
  where
    some : Some y ≡ Some x → x ≡ y
    some e = cc
last_at h (y ∷ z ∷ xs) x e =
    let n : length (y ∷ z ∷ xs) - 1 ≡ suc (length (z ∷ xs) - 1) = omega arith in
    last_at y (z ∷ xs) x (ap (slice_get (y ∷ z ∷ xs)) (sym n) ∙ e)

pub returns-in-Some : goal.returns-in-Some
returns-in-Some c =
    c.takes_rest.ensures
    ∙ ap takes_rest (last_at c.args.head.now c.args.items.now c.in-Some.part.now
    (ap (λ l. slice_get l (length l - 1)) (sym c.as_slice.ensures) ∙ sym c.in-Some.ensures.value))
