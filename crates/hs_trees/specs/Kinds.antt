-- The grammar of kinds (Haskell 2010 Report, section 4.1.1): the tokens of a tree, how deep it is, and its form.
use Rattle.std.specs.Prelude.{ℕ, ◌+◌, max, Bool, true, false, List, [], ◌∷◌, ◌++◌, length, flat_map, Option}
use Rattle.hs_forms.specs.Reading.{Form}
use Rattle.hs_forms.specs.Answers.{Sort}
use Rattle.hs_forms.specs.Limits.{Within, deepest}
use Rattle.hs_tokens.specs.Terminals.{is_arrow, is_star, star}
use Rattle.hs_tokens.specs.declared.terminal.Terminal.{Terminal}
use Rattle.hs_tokens.specs.declared.terminal.Terminal.TheVariants as t
use Rattle.hs_trees.specs.declared.types.AKindTree.{AKindTree, AKindTree-F, fold-AKindTree}
use Rattle.hs_trees.specs.declared.types.KindTree.{KindTree, KindTree-F, fold-KindTree}

abbrev pub Ts : Type 0
Ts = List Terminal

abbrev pub akind_tokens : AKindTree-F Ts Ts → Ts
akind_tokens AKindTree-F.Star = t.VarSym star ∷ []
akind_tokens (AKindTree-F.Parens inner) = t.LeftParen ∷ (inner ++ t.RightParen ∷ [])

abbrev pub kind_tokens : KindTree-F Ts Ts → Ts
kind_tokens k = k.first ++ flat_map (λ part. t.Arrow ∷ part) k.rest

abbrev pub akind_depth : AKindTree-F ℕ ℕ → ℕ
akind_depth AKindTree-F.Star = 0
akind_depth (AKindTree-F.Parens inner) = inner + 1

abbrev pub kind_depth : KindTree-F ℕ ℕ → ℕ
kind_depth k = max k.first (deepest k.rest) + length k.rest

abbrev pub spelling_akind : AKindTree → Ts
spelling_akind = fold-AKindTree Ts Ts akind_tokens kind_tokens

abbrev pub spelling_kind : KindTree → Ts
spelling_kind = fold-KindTree Ts Ts akind_tokens kind_tokens

abbrev pub depth_of_akind : AKindTree → ℕ
depth_of_akind = fold-AKindTree ℕ ℕ akind_depth kind_depth

abbrev pub depth_of_kind : KindTree → ℕ
depth_of_kind = fold-KindTree ℕ ℕ akind_depth kind_depth

abbrev pub is_left_paren : Terminal → Bool
is_left_paren t.LeftParen = true
is_left_paren _ = false

-- the tokens that begin a kind
abbrev pub starts_akind : Terminal → Bool
starts_akind t.LeftParen = true
starts_akind k = is_star k

-- The trees within a limit; each tree is well formed.
abbrev pub akind_form : Option ℕ → Form Terminal AKindTree
akind_form limit = record {
  tokens = spelling_akind;
  Good = λ x. Within limit (depth_of_akind x);
  extends = λ x k. false;
}

abbrev pub kind_form : Option ℕ → Form Terminal KindTree
kind_form limit = record {
  tokens = spelling_kind;
  Good = λ x. Within limit (depth_of_kind x);
  extends = λ x k. is_arrow k;
}

-- The forms with the depth of their trees.
abbrev pub akind_sort : Option ℕ → Sort Terminal AKindTree
akind_sort limit = record { form = akind_form limit; depth = depth_of_akind }

abbrev pub kind_sort : Option ℕ → Sort Terminal KindTree
kind_sort limit = record { form = kind_form limit; depth = depth_of_kind }
