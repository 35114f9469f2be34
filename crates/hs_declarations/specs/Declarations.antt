-- The forms of declarations of types (Haskell 2010 Report, section 4.2).
use Rattle.std.specs.Prelude.{◌≡◌, ℕ, Bool, true, false, ◌&&◌, ◌||◌, Option, ◌∷◌, ◌++◌}
use Rattle.hs_forms.specs.Reading.{Form}
use Rattle.hs_forms.specs.Answers.{Sort}
use Rattle.hs_forms.specs.Limits.{Within}
use Rattle.hs_tokens.specs.Terminals.{is_arrow}
use Rattle.hs_tokens.specs.declared.terminal.Terminal.{Terminal}
use Rattle.hs_tokens.specs.declared.terminal.Terminal.TheVariants as t
use Rattle.hs_tokens.specs.declared.word.Word.TheVariants as w
use Rattle.hs_trees.specs.Types.{spelling_type, depth_of_type, is_type, starts_atype}
use Rattle.hs_modules.specs.ModuleTokens.{head_tokens}
use Rattle.hs_modules.specs.ModuleForms.{is_unqualified}
use Rattle.hs_trees.specs.Kinds.{spelling_kind, depth_of_kind}
use Rattle.hs_declarations.specs.declared.kinded.Kinded.{Kinded}
use Rattle.hs_declarations.specs.declared.synonyms.Synonym.{Synonym}

abbrev pub is_equals : Terminal → Bool
is_equals t.Equals = true
is_equals _ = false

abbrev pub is_type_word : Terminal → Bool
is_type_word (t.Word w.Type) = true
is_type_word _ = false

-- `type T a = [a]`: the name is not qualified
abbrev pub synonym_form : Option ℕ → Form Terminal Synonym
synonym_form limit = record {
  tokens = λ x. t.Word w.Type ∷ (head_tokens x.name x.params ++ t.Equals ∷ spelling_type x.ty);
  Good = λ x. (is_unqualified x.name && is_type x.ty ≡ true) × Within limit (depth_of_type x.ty);
  extends = λ x k. starts_atype k || is_arrow k;
}

abbrev pub synonym_sort : Option ℕ → Sort Terminal Synonym
synonym_sort limit = record { form = synonym_form limit; depth = λ x. depth_of_type x.ty }

abbrev pub is_data_word : Terminal → Bool
is_data_word (t.Word w.Data) = true
is_data_word _ = false

abbrev pub is_double_colon : Terminal → Bool
is_double_colon t.DoubleColon = true
is_double_colon _ = false

-- `data T :: * -> *`, in a signature
abbrev pub kinded_form : Option ℕ → Form Terminal Kinded
kinded_form limit = record {
  tokens = λ x. t.Word w.Data ∷ t.Con x.name ∷ t.DoubleColon ∷ spelling_kind x.kind;
  Good = λ x. (is_unqualified x.name ≡ true) × Within limit (depth_of_kind x.kind);
  extends = λ x k. is_arrow k;
}

abbrev pub kinded_sort : Option ℕ → Sort Terminal Kinded
kinded_sort limit = record { form = kinded_form limit; depth = λ x. depth_of_kind x.kind }
