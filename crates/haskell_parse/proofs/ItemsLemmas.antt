-- A signature, known by its first token, among modules and signatures.
use Rattle.std.proofs.Common.{◌≡◌, ℕ, Bool, true, false, List, [], ◌∷◌, ◌++◌, refl, sym, ap, ◌∙◌, true≢false}
use Rattle.std.specs.Prelude.{not, ◌||◌, Option, Result, Ok, Err}
use Rattle.hs_forms.specs.Reading.{begins}
use Rattle.hs_forms.specs.Answers.{Accepts, Fails}
use Rattle.hs_forms.specs.declared.fault.Fault.{Fault}
use Rattle.hs_tokens.specs.declared.terminal.Terminal.{Terminal}
use Rattle.hs_trees.specs.Patterns.{Ts}
use Rattle.hs_modules.specs.Modules.{depth_of_module}
use Rattle.hs_modules.specs.ModuleTokens.{module_tokens}
use Rattle.hs_modules.specs.ModuleForms.{is_module, is_signature, items_form, module_form, sig_form}
use Rattle.hs_modules.specs.declared.module.Module.{Module}
use Rattle.hs_modules.specs.declared.module.Module.TheVariants as m
use Rattle.hs_headers.specs.Names.{is_signature_word}
use Rattle.hs_expression_forms.specs.Trees.{Trees}
use Rattle.hs_expression_forms.proofs.TreesLemmas.{stays_first}
use Rattle.hs_declaration_forms.proofs.MadeLemmas.{begins_none, stays_off}
use Rattle.hs_declaration_forms.proofs.MergeLemmas.{Joins, joined_took, joined_failed}
use Rattle.hs_readers.specs.Answers.{Answers}
use Rattle.hs_readers.specs.declared.read.Read.{Read}
use Rattle.hs_signature_forms.specs.Signatures.{signature_sort}
use Rattle.hs_body_forms.specs.Bodies.{module_sort}
use Rattle.haskell_parse.specs.Items.{items_sort}

abbrev of_those : (Module → Bool) → Trees Terminal Module
of_those is = record { tokens = module_tokens; formed = is; deep = depth_of_module; extends = λ x k. false }

abbrev items : Trees Terminal Module
items = of_those (λ x. is_module x || is_signature x)

abbrev same : Module → Module
same x = x

or_on : (a b : Bool) → b ≡ true → a || b ≡ true
or_on true b h = refl
or_on false b h = h

or_first : (a b : Bool) → a ≡ true → a || b ≡ true
or_first a b h = ap (λ c. c || b) h

signatures_join : Joins items (of_those is_signature) same (begins is_signature_word)
signatures_join = record {
  tokens = λ x. refl;
  formed = λ x g. or_on (is_module x) (is_signature x) g;
  deep = λ x. refl;
  extends = λ x k e. e;
  starts = starts;
  only = λ x after g q e. (x, refl, only x after g e);
}
  where
    starts : (x : Module) (after : Ts) → is_signature x ≡ true → begins is_signature_word (module_tokens x ++ after) ≡ true
    starts (m.Headless b) after g = absurd (true≢false (sym g))
    starts (m.Named n b) after g = absurd (true≢false (sym g))
    starts (m.Exporting n x b) after g = absurd (true≢false (sym g))
    starts (m.Signature n b) after g = refl

    only : (x : Module) (after : Ts) → is_module x || is_signature x ≡ true →
        begins is_signature_word (module_tokens x ++ after) ≡ true → is_signature x ≡ true
    only (m.Headless b) after g e = absurd (true≢false (sym e))
    only (m.Named n b) after g e = absurd (true≢false (sym e))
    only (m.Exporting n x b) after g e = absurd (true≢false (sym e))
    only (m.Signature n b) after g e = g

modules_join : Joins items (of_those is_module) same (begins_none is_signature_word)
modules_join = record {
  tokens = λ x. refl;
  formed = λ x g. or_first (is_module x) (is_signature x) g;
  deep = λ x. refl;
  extends = λ x k e. e;
  starts = starts;
  only = λ x after g q e. (x, refl, only x after g e);
}
  where
    starts : (x : Module) (after : Ts) → is_module x ≡ true → begins_none is_signature_word (module_tokens x ++ after) ≡ true
    starts (m.Headless b) after g = refl
    starts (m.Named n b) after g = refl
    starts (m.Exporting n x b) after g = refl
    starts (m.Signature n b) after g = absurd (true≢false (sym g))

    or_back : (a : Bool) → a || false ≡ true → a ≡ true
    or_back true h = refl
    or_back false h = h

    only : (x : Module) (after : Ts) → is_module x || is_signature x ≡ true →
        begins_none is_signature_word (module_tokens x ++ after) ≡ true → is_module x ≡ true
    only (m.Headless b) after g e = or_back _ g
    only (m.Named n b) after g e = or_back _ g
    only (m.Exporting n x b) after g e = or_back _ g
    only (m.Signature n b) after g e = absurd (true≢false (sym e))

module _ (limit : Option ℕ) (ts : Ts) where
  pub signature_took : (x : Module) (rest : Ts) (n : ℕ) → Accepts (sig_form limit) depth_of_module ts x rest n →
      Accepts (items_form limit) depth_of_module ts x rest n
  signature_took x rest n acc =
      joined_took items (of_those is_signature) same (begins is_signature_word) signatures_join limit ts x rest n acc

  pub signature_failed : begins is_signature_word ts ≡ true → (e : Fault) → Fails (sig_form limit) ts e →
      Fails (items_form limit) ts e
  signature_failed on e r =
      joined_failed items (of_those is_signature) same (begins is_signature_word) signatures_join limit ts e
      (stays_first is_signature_word ts on) r

  pub module_took : (x : Module) (rest : Ts) (n : ℕ) → Accepts (module_form limit) depth_of_module ts x rest n →
      Accepts (items_form limit) depth_of_module ts x rest n
  module_took x rest n acc =
      joined_took items (of_those is_module) same (begins_none is_signature_word) modules_join limit ts x rest n acc

  pub module_failed : begins is_signature_word ts ≡ false → (e : Fault) → Fails (module_form limit) ts e →
      Fails (items_form limit) ts e
  module_failed off e r =
      joined_failed items (of_those is_module) same (begins_none is_signature_word) modules_join limit ts e
      (stays_off is_signature_word ts off) r

  pub signature_answers : (r : Result (Read Module) Fault) → begins is_signature_word ts ≡ true →
      Answers (signature_sort limit) ts r → Answers (items_sort limit) ts r
  signature_answers (Ok r) on a = signature_took r.tree r.rest.now r.depth a
  signature_answers (Err e) on a = signature_failed on e a

  pub module_answers : (r : Result (Read Module) Fault) → begins is_signature_word ts ≡ false →
      Answers (module_sort limit) ts r → Answers (items_sort limit) ts r
  module_answers (Ok r) off a = module_took r.tree r.rest.now r.depth a
  module_answers (Err e) off a = module_failed off e a
