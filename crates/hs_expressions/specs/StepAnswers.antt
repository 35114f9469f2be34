-- What a step of a reading says: it goes on from a reading that holds to one that holds with fewer terminals left, or it
-- answers.
use Rattle.std.specs.Prelude.{ℕ, ◌<◌, Result, Ok, Err}
use Rattle.hs_forms.specs.declared.fault.Fault.{Fault}
use Rattle.hs_expressions.specs.declared.steps.Step.{Step}
use Rattle.hs_expressions.specs.declared.steps.Step.TheVariants.{More, Done}

abbrev pub StepSays : {S T : Type 0} → (S → Type 0) → (S → ℕ) → (Result T Fault → Type 0) → S →
    Result (Step S T) Fault → Type 0
StepSays holds left answers s (Ok (More next)) = holds next × (left next < left s)
StepSays holds left answers s (Ok (Done t)) = answers (Ok t)
StepSays holds left answers s (Err e) = answers (Err e)
