-- What is known of a chain on its way, and what its reader answers.
use Rattle.std.specs.Prelude.{◌≡◌, ℕ, ◌+◌, ◌<◌, Bool, not, ◌&&◌, List, length, Option, Result}
use Rattle.hs_forms.specs.Reading.{begins}
use Rattle.hs_forms.specs.declared.fault.Fault.{Fault}
use Rattle.hs_tokens.specs.declared.terminal.Terminal.{Terminal}
use Rattle.hs_trees.specs.Patterns.{Ts}
use Rattle.hs_readers.specs.Answers.{Answers}
use Rattle.hs_readers.specs.declared.read.Read.{Read}
use Rattle.hs_modules.specs.Formed.{facts_of_infix}
use Rattle.hs_modules.specs.declared.expressions.OpOperand.{OpOperand}
use Rattle.hs_modules.specs.declared.expressions.SignedOperand.{SignedOperand}
use Rattle.hs_expression_forms.specs.Trees.{sort_of}
use Rattle.hs_expression_forms.specs.Expressions.{starts_qop}
use Rattle.hs_expression_forms.specs.Links.{Links, links}
use Rattle.hs_expression_forms.proofs.LinkLemmas.{LinkState, make_infix}
use Rattle.hs_expressions.specs.declared.chains.ChainState.{ChainState}

-- what is known of a chain on its way: whether its last operand is open
pub record Reading (limit : Option ℕ) (ts : Ts) (s : SignedOperand) (xs : List OpOperand) (here : Ts) (deep ops : ℕ)
    (b : Bool) : Type 0 where
  pub state : LinkState limit ts (make_infix s xs) here deep ops
  pub opened : b ≡ (facts_of_infix (make_infix s xs)).is_open

abbrev pub ChainHolds : Option ℕ → Bool → List Terminal → ChainState → Type 0
ChainHolds limit lone ts s =
    Reading limit ts s.first s.more s.rest.now s.deep s.ops s.opened
    × (s.deep + s.ops + length s.rest.now < length ts)

-- whether an operator that belongs to the chain stands behind it
abbrev pub goes_behind : ChainState → Bool
goes_behind s = not s.opened && begins starts_qop s.rest.now

abbrev pub chain_left : ChainState → ℕ
chain_left s = length s.rest.now

abbrev pub ChainAnswers : Option ℕ → Bool → List Terminal → Result (Read Links) Fault → Type 0
ChainAnswers limit lone ts r = Answers (sort_of (links lone) limit) ts r
