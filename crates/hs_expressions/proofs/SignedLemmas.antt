-- Where no operand stands behind a sign.
use Rattle.std.proofs.Common.{◌≡◌, ℕ, ◌+◌, ◌++◌, subst}
use Rattle.std.specs.Prelude.{Option}
use Rattle.hs_forms.specs.Reading.{begins}
use Rattle.hs_forms.specs.Limits.{Within, lowered}
use Rattle.hs_forms.specs.Answers.{Fails}
use Rattle.hs_forms.specs.declared.fault.Fault.{Fault}
use Rattle.hs_forms.specs.declared.fault.Fault.TheVariants as f
use Rattle.hs_tokens.specs.Terminals.{is_minus}
use Rattle.hs_trees.specs.Patterns.{Ts}
use Rattle.hs_modules.specs.ExpressionExtents.{sign}
use Rattle.hs_modules.specs.Tokens.{sign_tokens}
use Rattle.hs_expression_forms.specs.Trees.{within}
use Rattle.hs_expression_forms.specs.Expressions.{operands}
use Rattle.hs_expression_forms.proofs.LinkReturnLemmas.{SignedFails, part}

-- no operand behind the sign
fails_here : (limit : Option ℕ) (deep used : ℕ) (ts next : Ts) (e : Fault) →
    ts ≡ sign_tokens (begins is_minus ts) ++ next → Within limit (deep + (used + sign (begins is_minus ts))) →
    Fails (within operands (lowered limit (used + sign (begins is_minus ts)))) next e → SignedFails limit deep used ts e
fails_here limit deep used ts next (f.At left) at room r = part next at room r
fails_here limit deep used ts next f.NoMemory at room r = tt

pub signed_fails : (limit l : Option ℕ) (deep used n : ℕ) (ts next : Ts) (e : Fault) → n ≡ sign (begins is_minus ts) →
    ts ≡ sign_tokens (begins is_minus ts) ++ next → Within limit (deep + (used + n)) → l ≡ lowered limit (used + n) →
    Fails (within operands l) next e → SignedFails limit deep used ts e
signed_fails limit l deep used n ts next e is at room same r =
    fails_here limit deep used ts next e at (subst (λ k. Within limit (deep + (used + k))) is room)
    (subst (λ k. Fails (within operands (lowered limit (used + k))) next e) is
    (subst (λ l. Fails (within operands l) next e) same r))
