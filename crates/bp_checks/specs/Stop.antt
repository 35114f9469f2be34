-- Why a step of a command stops, and what a step that reads tells.
use Rattle.std.specs.Prelude.{◌≡◌, ⊤, Bool, true, false, Option, Some, Result, Ok, Err}
use Rattle.bp_base.specs.declared.defect.Refusal.{Refusal}
use Rattle.bp_base.specs.declared.defect.Refusal.TheVariants as r
use Rattle.bp_checks.specs.declared.stop.Stop.{Stop}
use Rattle.bp_checks.specs.declared.stop.Stop.TheVariants as s
use Rattle.bp_checks.specs.Check.{Check}
use Rattle.bp_checks.specs.Refused.{Refused, Wrong, Passed}

-- a refusal stops a step
abbrev pub stop_of : Refusal → Stop
stop_of (r.Defect d) = s.Refused d
stop_of (r.Limit hit) = s.Limit hit
stop_of r.NoMemory = s.NoMemory

-- what is said of a refusal, where a step stopped for one: of a fault and of want of memory nothing is
abbrev pub OnStop : Stop → (Refused → Type 0) → Type 0
OnStop (s.Refused d) P = P (Wrong d)
OnStop (s.Limit hit) P = P (Passed hit)
OnStop s.ReadFault P = ⊤
OnStop s.NoMemory P = ⊤

-- What a step tells that reads: where it is told what stands outside, as the files of a tree, its answer passes the
-- check that they
-- give, and its refusal fails it.
abbrev pub Tells : {X B : Type 0} → Option X → (X → Check B Refused) → Result B Stop → Type 0
Tells {X} told gives (Ok b) = (x : X) → told ≡ Some x → (gives x).passes b
Tells {X} told gives (Err stop) = (x : X) → told ≡ Some x → OnStop stop (gives x).fails

-- whether a failed reading is answered
abbrev pub read_failed : {B : Type 0} → Result B Stop → Bool
read_failed (Ok b) = false
read_failed (Err (s.Refused d)) = false
read_failed (Err (s.Limit hit)) = false
read_failed (Err s.ReadFault) = true
read_failed (Err s.NoMemory) = false
