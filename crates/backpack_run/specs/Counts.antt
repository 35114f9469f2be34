-- How many values a build checks.
use Rattle.std.specs.Prelude.{◌≡◌, ◌⊎◌, ◌≤◌, ◌+◌, ℕ, List, length}
use Rattle.bp_base.specs.Texts.{Text}
use Rattle.bp_checks.specs.Refused.{Refused}
use Rattle.bp_checks.specs.Steps.{Totals}
use Rattle.bp_edges.specs.declared.files.File.{File}
use Rattle.cabal_component.specs.declared.component.Component.{Component}
use Rattle.project_sources.specs.Limits.{unlimited}
use Rattle.backpack_run.specs.Given.{planned, read_one}
use Rattle.backpack_run.specs.declared.build.Built.{Built}
use Rattle.backpack_run.specs.declared.plan.Plan.{Plan}
use Rattle.backpack_run.specs.declared.report.Status.{Status}
use Rattle.backpack_run.specs.declared.report.Status.TheVariants.{Done}

-- those of a component's module, or none where it can't be read
abbrev pub CountsOne : List File → Component → ℕ → Type 0
CountsOne files c n =
    ((b : Built) × (read_one unlimited files 0 c).passes b × (n ≡ length b.plain.bindings))
    ⊎ ((r : Refused) × (read_one unlimited files 0 c).fails r × (n ≡ 0))

-- those of all components that the target reaches, or none where it reaches none
abbrev pub Counts : List File → Text → ℕ → Type 0
Counts files target n =
    ((plan : Plan) × (planned unlimited files target).passes plan × Totals (CountsOne files) plan.components n)
    ⊎ ((r : Refused) × (planned unlimited files target).fails r × (n ≡ 0))

-- The count of steps doesn't fall. It rises by no more than there is to check, and by exactly that where the call is
-- done.
pub record Ticks {X : Type 0} (meant : X → Type 0) (counts : X → ℕ
    → Type 0) (old new : ℕ) (status : Status) : Type 0 where
  pub later : old ≤ new
  pub most : (x : X) (n : ℕ) → meant x → counts x n → new ≤ old + n
  pub all : (x : X) (n : ℕ) → meant x → counts x n → status ≡ Done → new ≡ old + n
