-- What the reader of one more operator and operand of a chain answers, behind so many operators and signs, where the
-- deepest operand before it is so deep.
use Rattle.std.specs.Prelude.{◌≡◌, ℕ, ◌+◌, Bool, true, false, List, ◌++◌, length, Option, Result, Ok, Err}
use Rattle.hs_forms.specs.Reading.{begins}
use Rattle.hs_forms.specs.Limits.{Within}
use Rattle.hs_forms.specs.Answers.{Fails}
use Rattle.hs_forms.specs.declared.fault.Fault.{Fault}
use Rattle.hs_forms.specs.declared.fault.Fault.TheVariants.{At}
use Rattle.hs_tokens.specs.declared.terminal.Terminal.{Terminal}
use Rattle.hs_readers.specs.declared.read.Read.{Read}
use Rattle.hs_modules.specs.Words.{qop_tokens}
use Rattle.hs_modules.specs.declared.names.QOpTree.{QOpTree}
use Rattle.hs_modules.specs.declared.expressions.SignedOperand.{SignedOperand}
use Rattle.hs_expression_forms.specs.Trees.{within}
use Rattle.hs_expression_forms.specs.Expressions.{qops, starts_exp}
use Rattle.hs_expression_forms.proofs.LinkReturnLemmas.{SignedTook, SignedFails}
use Rattle.hs_expressions.specs.declared.links.Link.{Link}
use Rattle.hs_expressions.specs.declared.links.Link.TheVariants as k

-- No link stands here: no depth is left for an operator, none can be read, or no operand stands behind it.
pub data LinkFails (limit : Option ℕ) (lone : Bool) (deep ops : ℕ) (here : List Terminal) (e : Fault) : Type 0 where
  over : e ≡ At (length here) → lone ≡ false → (Within limit (deep + (ops + 1)) → ⊥) →
      LinkFails limit lone deep ops here e
  operator : (lone ≡ false → Within limit (deep + (ops + 1))) → Fails (within qops limit) here e →
      LinkFails limit lone deep ops here e
  behind : (lone ≡ false → Within limit (deep + (ops + 1))) → (op : QOpTree) (rest : List Terminal) →
      here ≡ qop_tokens op ++ rest → (lone ≡ true → begins starts_exp rest ≡ true) →
      SignedFails limit deep (ops + 1) rest e → LinkFails limit lone deep ops here e

-- an operator and an operand
abbrev pub LinkTook : Option ℕ → ℕ → ℕ → List Terminal → QOpTree → SignedOperand → List Terminal → ℕ → Type 0
LinkTook limit deep ops here op s rest m =
    (next : List Terminal) × (here ≡ qop_tokens op ++ next) × SignedTook limit deep (ops + 1) next s rest m

-- the operator of a section, behind which no operand stands
abbrev pub IsAlone : Bool → List Terminal → Read QOpTree → Type 0
IsAlone lone here r = (lone ≡ true) × (here ≡ qop_tokens r.tree ++ r.rest.now) × (begins starts_exp r.rest.now ≡ false)

abbrev pub LinkAnswers : Option ℕ → Bool → ℕ → ℕ → List Terminal → Result Link Fault → Type 0
LinkAnswers limit lone deep ops here (Ok (k.Operand op r)) = LinkTook limit deep ops here op r.tree r.rest.now r.depth
LinkAnswers limit lone deep ops here (Ok (k.Alone r)) = IsAlone lone here r
LinkAnswers limit lone deep ops here (Err e) = LinkFails limit lone deep ops here e
