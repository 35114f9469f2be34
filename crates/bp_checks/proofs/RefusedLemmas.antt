-- What is said of refusals, and the checks on which the others stand.
use Rattle.std.proofs.Common.{◌≡◌, refl, sym, ◌∙◌}
use Rattle.bp_base.specs.declared.defect.Defect.{Defect as OfDefect}
use Rattle.bp_base.specs.declared.defect.Refusal.{Refusal}
use Rattle.bp_base.specs.declared.defect.Refusal.TheVariants as r
use Rattle.bp_checks.specs.declared.stop.Stop.{Stop}
use Rattle.bp_checks.specs.declared.stop.Stop.TheVariants as s
use Rattle.bp_checks.specs.Check.{IsExact}
use Rattle.bp_checks.specs.Refused.{Refused, Wrong, Passed, spelled, needed, OnRefusal}
use Rattle.bp_checks.specs.Stop.{OnStop, stop_of}

-- what follows from a refusal
pub OnStop-map : (stop : Stop) (P Q : Refused → Type 0) → ((r : Refused) → P r → Q r) → OnStop stop P → OnStop stop Q
OnStop-map (s.Refused d) P Q f h = f (Wrong d) h
OnStop-map (s.Limit hit) P Q f h = f (Passed hit) h
OnStop-map s.ReadFault P Q f h = tt
OnStop-map s.NoMemory P Q f h = tt

pub OnRefusal-map : (refusal : Refusal) (P Q : Refused → Type 0) → ((r : Refused) → P r → Q r) → OnRefusal refusal P
    → OnRefusal refusal Q
OnRefusal-map (r.Defect d) P Q f h = f (Wrong d) h
OnRefusal-map (r.Limit hit) P Q f h = f (Passed hit) h
OnRefusal-map r.NoMemory P Q f h = tt

-- a refusal that stops a step
pub OnRefusal-stops : (refusal : Refusal) (P : Refused → Type 0) → OnRefusal refusal P → OnStop (stop_of refusal) P
OnRefusal-stops (r.Defect d) P h = h
OnRefusal-stops (r.Limit hit) P h = h
OnRefusal-stops r.NoMemory P h = h

-- a form that a text has once at most
pub IsExact-spelled : {B : Type 0} (IsOfForm : B → Type 0) (d : OfDefect)
    → ((b c : B) → IsOfForm b → IsOfForm c → b ≡ c) → IsExact (spelled IsOfForm d)
IsExact-spelled IsOfForm d one = record {
  one_answer = one;
  one_refusal = λ r q h k. h.1 ∙ sym k.1;
  never_both = λ b r p h. h.0 b p;
}

pub IsExact-needed : (P : Type 0) (d : OfDefect) → IsExact (needed P d)
IsExact-needed P d = record {
  one_answer = λ b c p q. refl;
  one_refusal = λ r q h k. h.1 ∙ sym k.1;
  never_both = λ b r p h. h.0 p;
}

-- what stages cite of their refusals
pub ruleset refusal_laws = (OnStop-map, OnRefusal-map, OnRefusal-stops, IsExact-spelled, IsExact-needed)
