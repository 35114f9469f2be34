-- At most one module, and one signature, has given tokens.
use Rattle.std.proofs.Common.{◌≡◌, Bool, true, false, [], ◌++◌, refl, sym, ap, ◌∙◌, true≢false, inl, inr, ◌⊎◌}
use Rattle.std.specs.Prelude.{◌||◌, None}
use Rattle.hs_forms.specs.Reading.{begins}
use Rattle.hs_forms.specs.Whole.{Spells}
use Rattle.hs_trees.specs.Patterns.{Ts}
use Rattle.hs_modules.specs.ModuleForms.{is_module, is_signature, module_form, sig_form, items_form}
use Rattle.hs_modules.specs.ModuleTokens.{module_tokens}
use Rattle.hs_modules.specs.declared.module.Module.TheVariants as m
use Rattle.hs_headers.specs.Names.{is_var}
use Rattle.hs_modules.specs.declared.module.Module.{Module}
use Rattle.hs_one_tree.proofs.BodyFoundLemmas.{module_at}
use Rattle.hs_one_tree.proofs.SignatureFoundLemmas.{signature_found}

-- at most one module has given tokens, whatever its depth
pub one_module : (ts : Ts) (one other : Module) → Spells (module_form None) one ts →
    Spells (module_form None) other ts → other ≡ one
one_module ts one other first second =
    ((module_at one first.1.0 []).reads.only [] other [] refl second.1 refl
    (ap (λ l. l ++ []) (sym first.0 ∙ second.0))).0

-- at most one signature has given tokens, whatever its depth
pub one_signature : (ts : Ts) (one other : Module) → Spells (sig_form None) one ts → Spells (sig_form None) other ts →
    other ≡ one
one_signature ts one other first second =
    ((signature_found one first.1.0 []).reads.only [] other [] refl second.1 refl
    (ap (λ l. l ++ []) (sym first.0 ∙ second.0))).0

-- no tokens are those of a module and of a signature
apart : (x y : Module) → is_module x ≡ true → is_signature y ≡ true → module_tokens x ≡ module_tokens y → ⊥
apart (m.Headless b) (m.Signature n c) g h e = true≢false (sym (ap (begins is_var) e))
apart (m.Named k b) (m.Signature n c) g h e = true≢false (sym (ap (begins is_var) e))
apart (m.Exporting k x b) (m.Signature n c) g h e = true≢false (sym (ap (begins is_var) e))
apart (m.Signature k b) (m.Signature n c) g h e = true≢false (sym g)
apart x (m.Headless c) g h e = true≢false (sym h)
apart x (m.Named n c) g h e = true≢false (sym h)
apart x (m.Exporting n y c) g h e = true≢false (sym h)

choose : (a b : Bool) → a || b ≡ true → (a ≡ true) ⊎ (b ≡ true)
choose true b h = inl refl
choose false b h = inr h

-- at most one of the modules and signatures has given tokens
pub one_items : (ts : Ts) (one other : Module) → Spells (items_form None) one ts →
    Spells (items_form None) other ts → other ≡ one
one_items ts one other first second =
    by (choose (is_module one) (is_signature one) first.1.0) (choose (is_module other) (is_signature other) second.1.0)
  where
    by : (is_module one ≡ true) ⊎ (is_signature one ≡ true) → (is_module other ≡ true) ⊎ (is_signature other ≡ true) →
        other ≡ one
    by (inl g) (inl h) = one_module ts one other (first.0, (g, tt)) (second.0, (h, tt))
    by (inr g) (inr h) = one_signature ts one other (first.0, (g, tt)) (second.0, (h, tt))
    by (inl g) (inr h) = absurd (apart one other g h (sym first.0 ∙ second.0))
    by (inr g) (inl h) = absurd (apart other one h g (sym second.0 ∙ first.0))
