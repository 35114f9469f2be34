-- The forms of the heads of modules and signatures (Haskell 2010 Report, section 5.1).
use Rattle.std.specs.Prelude.{◌≡◌, ℕ, Bool, true, false, List, [], ◌∷◌, ◌++◌, codes, map}
use Rattle.hs_forms.specs.Reading.{Form}
use Rattle.hs_forms.specs.Answers.{Sort}
use Rattle.hs_forms.specs.Limits.{all_of}
use Rattle.hs_tokens.specs.declared.terminal.Terminal.{Terminal}
use Rattle.hs_tokens.specs.declared.terminal.Terminal.TheVariants as t
use Rattle.hs_tokens.specs.declared.word.Word.TheVariants as w
use Rattle.hs_modules.specs.ModuleTokens.{exports_tokens}
use Rattle.hs_modules.specs.ModuleForms.{is_export}
use Rattle.hs_headers.specs.Lists.{Ts, flat}
use Rattle.hs_headers.specs.declared.heads.ModuleHead.{ModuleHead}
use Rattle.hs_headers.specs.declared.heads.ModuleHead.TheVariants as h

-- the tokens of a module before its block
abbrev pub module_head_tokens : ModuleHead → Ts
module_head_tokens (h.Named name) = t.Word w.Module ∷ t.Con name ∷ t.Word w.Where ∷ []
module_head_tokens (h.Exporting name exports) =
    t.Word w.Module ∷ t.Con name ∷ (exports_tokens exports ++ t.Word w.Where ∷ [])

abbrev pub is_module_head : ModuleHead → Bool
is_module_head (h.Named name) = true
is_module_head (h.Exporting name exports) = all_of (map is_export exports.exports)

-- `module M (x) where`
abbrev pub module_head_form : Form Terminal ModuleHead
module_head_form = record {
  tokens = module_head_tokens;
  Good = λ x. is_module_head x ≡ true;
  extends = λ x k. false;
}

-- `signature H where`
abbrev pub signature_head_form : Form Terminal (List ℕ)
signature_head_form = record {
  tokens = λ name. t.Var (codes "signature") ∷ t.Con name ∷ t.Word w.Where ∷ [];
  Good = λ name. Unit {0};
  extends = λ name k. false;
}

abbrev pub module_head_sort : Sort Terminal ModuleHead
module_head_sort = flat module_head_form

abbrev pub signature_head_sort : Sort Terminal (List ℕ)
signature_head_sort = flat signature_head_form
