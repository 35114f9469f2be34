-- What the reader of a signed operand answers, behind so many operators and signs, where the deepest operand before
-- it is so deep.
use Rattle.std.specs.Prelude.{ℕ, List, Option, Result, Ok, Err}
use Rattle.hs_forms.specs.declared.fault.Fault.{Fault}
use Rattle.hs_tokens.specs.declared.terminal.Terminal.{Terminal}
use Rattle.hs_readers.specs.declared.read.Read.{Read}
use Rattle.hs_modules.specs.declared.expressions.SignedOperand.{SignedOperand}
use Rattle.hs_expression_forms.proofs.LinkReturnLemmas.{SignedTook, SignedFails}

abbrev pub SignedAnswers : Option ℕ → ℕ → ℕ → List Terminal → Result (Read SignedOperand) Fault → Type 0
SignedAnswers limit deep used ts (Ok r) = SignedTook limit deep used ts r.tree r.rest.now r.depth
SignedAnswers limit deep used ts (Err e) = SignedFails limit deep used ts e
