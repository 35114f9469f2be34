-- Where no operand begins.
use Rattle.std.proofs.Common.{◌≡◌, false, [], ◌∷◌, refl, true≢false}
use Rattle.hs_forms.specs.Reading.{begins}
use Rattle.hs_tokens.specs.declared.terminal.Terminal.TheVariants as t
use Rattle.hs_tokens.specs.declared.word.Word.TheVariants as w
use Rattle.hs_trees.specs.Patterns.{Ts}
use Rattle.hs_expression_forms.specs.Expressions.{starts_aexp, starts_operand}
use Rattle.hs_expressions.specs.Leaves.{is_backslash, is_let, is_if, is_case}

pub no_operand : (ts : Ts) → begins is_backslash ts ≡ false → begins is_let ts ≡ false → begins is_if ts ≡ false →
    begins is_case ts ≡ false → begins starts_aexp ts ≡ false → begins starts_operand ts ≡ false
no_operand [] a b c d e = refl
no_operand (t.Backslash ∷ ts) a b c d e = absurd (true≢false a)
no_operand (t.Word w.Let ∷ ts) a b c d e = absurd (true≢false b)
no_operand (t.Word w.If ∷ ts) a b c d e = absurd (true≢false c)
no_operand (t.Word w.Case ∷ ts) a b c d e = absurd (true≢false d)
no_operand (t.Word _ ∷ ts) a b c d e = e
no_operand (_ ∷ ts) a b c d e = e
