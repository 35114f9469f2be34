-- What the reader of an expression answers, alone or among what may stand first between round brackets.
use Rattle.std.specs.Prelude.{ℕ, Bool, List, Option, Result, Ok, Err}
use Rattle.hs_forms.specs.declared.fault.Fault.{Fault}
use Rattle.hs_tokens.specs.declared.terminal.Terminal.{Terminal}
use Rattle.hs_readers.specs.declared.read.Read.{Read}
use Rattle.hs_modules.specs.declared.expressions.ExpTree.{ExpTree}
use Rattle.hs_expression_forms.specs.declared.front.Front.TheVariants as fr
use Rattle.hs_expression_forms.specs.Trees.{Took, Failed}
use Rattle.hs_expression_forms.specs.Fronts.{fronts}

abbrev pub ExpAnswers : Bool → Option ℕ → List Terminal → Result (Read ExpTree) Fault → Type 0
ExpAnswers lone limit ts (Ok r) = Took (fronts lone) limit ts (fr.Exp r.tree) r.rest.now r.depth
ExpAnswers lone limit ts (Err e) = Failed (fronts lone) limit ts e
