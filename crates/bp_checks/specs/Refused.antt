-- Why a project is refused: what is wrong with it, or a limit that it passes.
use Rattle.std.specs.Prelude.{◌≡◌, ⊤, Result, Ok, Err}
use Rattle.bp_base.specs.Texts.{Text}
use Rattle.bp_base.specs.declared.code.Code.{Code}
use Rattle.bp_base.specs.declared.defect.Item.{Item}
use Rattle.bp_base.specs.declared.defect.Defect.{Defect as OfDefect}
use Rattle.bp_base.specs.declared.defect.LimitHit.{LimitHit}
use Rattle.bp_base.specs.declared.defect.Refusal.{Refusal}
use Rattle.bp_base.specs.declared.defect.Refusal.TheVariants.{Defect, Limit, NoMemory}
use Rattle.bp_checks.specs.Check.{Check}

pub data Refused : Type 0 where
  Wrong : OfDefect → Refused
  Passed : LimitHit → Refused

-- a defect with its place
abbrev pub defect_at : Code → Text → Text → Item → OfDefect
defect_at code component at item = record {
  code = code;
  place = record { component = component; «module» = at; item = item };
}

-- what a text spells, by this form, or else this defect
abbrev pub spelled : {B : Type 0} → (B → Type 0) → OfDefect → Check B Refused
spelled {B} IsOfForm defect = record { passes = IsOfForm; fails = λ r. ((b : B) → IsOfForm b → ⊥) × (r ≡ Wrong defect) }

-- where this holds, or else this defect
abbrev pub needed : Type 0 → OfDefect → Check (Unit {0}) Refused
needed P defect = record { passes = λ _. P; fails = λ r. (P → ⊥) × (r ≡ Wrong defect) }

-- what is said of a refusal, where it is one: of want of memory nothing is
abbrev pub OnRefusal : Refusal → (Refused → Type 0) → Type 0
OnRefusal (Defect d) P = P (Wrong d)
OnRefusal (Limit hit) P = P (Passed hit)
OnRefusal NoMemory P = ⊤

-- what a function that reads nothing answers by a check
abbrev pub Checks : {B : Type 0} → Check B Refused → Result B Refusal → Type 0
Checks check (Ok b) = check.passes b
Checks check (Err refusal) = OnRefusal refusal check.fails

-- a refusal that is no limit
abbrev pub IsWrong : Refused → Type 0
IsWrong (Wrong d) = Unit {0}
IsWrong (Passed hit) = ⊥
