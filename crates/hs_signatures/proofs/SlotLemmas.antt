-- Loops over the parts of a block.
use Rattle.std.proofs.Common.{◌≡◌, List, [], ◌∷◌, ◌++◌, sym, ap, ◌∙◌, append_assoc}
use Rattle.std.specs.Prelude.{flat_map, reverse}
use Rattle.std.proofs.lemmas.List.{reverse-append}
use Rattle.hs_modules.specs.declared.declarations.SigSlot.{SigSlot}
use Rattle.hs_signature_forms.specs.declared.parts.SigPart.{SigPart}
use Rattle.hs_signature_forms.specs.Signatures.{slots_of}

-- one part from the end of those that are left to the end of those that are turned
pub turned_more : (all left next back : List SigPart) (x : SigPart) → all ≡ left ++ reverse back →
    left ≡ next ++ x ∷ [] → all ≡ next ++ reverse (back ++ x ∷ [])
turned_more all left next back x e at =
    e ∙ ap (λ l. l ++ reverse back) at ∙ append_assoc next (x ∷ []) (reverse back)
    ∙ ap (λ l. next ++ l) (sym (reverse-append back (x ∷ [])))

-- one part from the end of the turned ones to the places
pub added_more : (all slots more : List SigSlot) (back next : List SigPart) (x : SigPart) →
    all ≡ slots ++ flat_map slots_of (reverse back) → back ≡ next ++ x ∷ [] → more ≡ slots ++ slots_of x →
    all ≡ more ++ flat_map slots_of (reverse next)
added_more all slots more back next x e at is =
    e ∙ ap (λ l. slots ++ flat_map slots_of (reverse l)) at
    ∙ ap (λ l. slots ++ flat_map slots_of l) (reverse-append next (x ∷ []))
    ∙ sym (append_assoc slots (slots_of x) (flat_map slots_of (reverse next)))
    ∙ ap (λ l. l ++ flat_map slots_of (reverse next)) (sym is)
