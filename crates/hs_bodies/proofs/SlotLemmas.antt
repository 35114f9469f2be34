-- Loops over the parts of a block.
use Rattle.std.proofs.Common.{◌≡◌, true, List, [], ◌∷◌, ◌++◌, refl, sym, ap, ◌∙◌, append_assoc, drop, true≢false}
use Rattle.std.specs.Prelude.{flat_map, reverse}
use Rattle.hs_forms.specs.Reading.{begins}
use Rattle.hs_tokens.specs.declared.terminal.Terminal.TheVariants as t
use Rattle.hs_trees.specs.Patterns.{Ts}
use Rattle.hs_block_forms.specs.Blocks.{is_semicolon}
use Rattle.std.proofs.lemmas.List.{reverse-append}
use Rattle.hs_modules.specs.declared.declarations.TopSlot.{TopSlot}
use Rattle.hs_body_forms.specs.declared.parts.TopPart.{TopPart}
use Rattle.hs_body_forms.specs.Bodies.{slots_of}

-- one part from the end of those that are left to the end of those that are turned
pub turned_more : (all left next back : List TopPart) (x : TopPart) → all ≡ left ++ reverse back →
    left ≡ next ++ x ∷ [] → all ≡ next ++ reverse (back ++ x ∷ [])
turned_more all left next back x e at =
    e ∙ ap (λ l. l ++ reverse back) at ∙ append_assoc next (x ∷ []) (reverse back)
    ∙ ap (λ l. next ++ l) (sym (reverse-append back (x ∷ [])))

-- one part from the end of the turned ones to the places
pub added_more : (all slots more : List TopSlot) (back next : List TopPart) (x : TopPart) →
    all ≡ slots ++ flat_map slots_of (reverse back) → back ≡ next ++ x ∷ [] → more ≡ slots ++ slots_of x →
    all ≡ more ++ flat_map slots_of (reverse next)
added_more all slots more back next x e at is =
    e ∙ ap (λ l. slots ++ flat_map slots_of (reverse l)) at
    ∙ ap (λ l. slots ++ flat_map slots_of l) (reverse-append next (x ∷ []))
    ∙ sym (append_assoc slots (slots_of x) (flat_map slots_of (reverse next)))
    ∙ ap (λ l. l ++ flat_map slots_of (reverse next)) (sym is)

-- the semicolon that stands here
pub semicolon_led : (ts : Ts) → begins is_semicolon ts ≡ true → ts ≡ t.Semicolon ∷ drop 1 ts
semicolon_led [] h = absurd (true≢false (sym h))
semicolon_led (t.Semicolon ∷ ts) h = refl
semicolon_led (_ ∷ ts) h = absurd (true≢false (sym h))
