-- What stands behind an opening bracket, by its first tokens.
use Rattle.std.proofs.Common.{◌≡◌, true, false, [], ◌∷◌, refl, sym, ap, ◌∙◌, true≢false}
use Rattle.std.specs.Prelude.{Option}
use Rattle.bp_base.proofs.TextLemmas.{same_texts}
use Rattle.hs_forms.specs.Reading.{begins}
use Rattle.hs_forms.specs.Limits.{Within}
use Rattle.hs_tokens.specs.Terminals.{minus, is_minus, is_right_paren}
use Rattle.hs_tokens.specs.declared.terminal.Terminal.{Terminal}
use Rattle.hs_tokens.specs.declared.terminal.Terminal.TheVariants as t
use Rattle.hs_trees.specs.Kinds.{is_left_paren}
use Rattle.hs_trees.specs.Patterns.{Ts}
use Rattle.hs_operand_forms.specs.Brackets.{is_left_bracket, is_opening, is_symbol, OpensInside, signed}
use Rattle.hs_operand_forms.specs.Brackets.{OpensSection, symbol}

-- the symbol `-`
pub dash : (k : Terminal) → is_minus k ≡ true → k ≡ t.VarSym minus
dash (t.VarSym n) h = ap t.VarSym (same_texts n minus h)
dash _ h = absurd (true≢false (sym h))

-- no opening bracket
pub no_bracket : (ts : Ts) → begins is_left_paren ts ≡ false → begins is_left_bracket ts ≡ false →
    begins is_opening ts ≡ false
no_bracket [] a b = refl
no_bracket (t.LeftParen ∷ ts) a b = absurd (true≢false a)
no_bracket (t.LeftBracket ∷ ts) a b = absurd (true≢false b)
no_bracket (_ ∷ ts) a b = refl

module _ (ts : Ts) (k : Terminal) (next : Ts) (at : ts ≡ k ∷ next) where
  -- the first token is the symbol `-`, or is not
  pub dash_here : begins is_minus ts ≡ true → k ≡ t.VarSym minus
  dash_here h = dash k (sym (ap (begins is_minus) at) ∙ h)

  pub no_dash : begins is_minus ts ≡ false → is_minus k ≡ false
  no_dash h = sym (ap (begins is_minus) at) ∙ h

  -- an expression that begins with a sign
  pub opens_signed : (limit : Option _) → begins is_minus ts ≡ true → begins is_right_paren next ≡ false →
      Within limit 2 → OpensInside limit ts
  opens_signed limit h ends room = signed next (at ∙ ap (λ j. j ∷ next) (dash_here h)) ends room

  -- a right section that begins with a symbol
  pub opens_symbol : is_symbol k ≡ true → begins is_minus ts ≡ false → begins is_right_paren next ≡ false →
      OpensSection ts
  opens_symbol is h ends = symbol k next at is (no_dash h) ends
