-- How many values are counted, where they are read.
use Rattle.std.proofs.Common.{◌≡◌, inl, inr, ℕ, List, length, ap, ◌∙◌, subst}
use Rattle.bp_base.specs.Texts.{Text}
use Rattle.bp_checks.specs.Steps.{Totals}
use Rattle.bp_edges.specs.declared.files.File.{File}
use Rattle.cabal_component.specs.declared.component.Component.{Component}
use Rattle.project_sources.specs.Limits.{limited, unlimited}
use Rattle.backpack_run.specs.declared.build.Built.{Built}
use Rattle.backpack_run.specs.declared.plan.Plan.{Plan}
use Rattle.backpack_run.specs.Given.{read_one, planned}
use Rattle.backpack_run.specs.Counts.{CountsOne, Counts}
use Rattle.backpack_run.proofs.GivenLemmas.{IsExact-read_one, IsWithin-read_one, IsExact-planned, IsWithin-planned}

pub counted_one : (files : List File) (seen : ℕ) (c : Component) (b : Built) (n : ℕ)
    → (read_one limited files seen c).passes b → CountsOne files c n → n ≡ length b.plain.bindings
counted_one files seen c b n p (inl (k, q, e)) = e ∙ ap (λ (x : Built). length x.plain.bindings)
    ((IsExact-read_one unlimited files 0 c).one_answer k b q ((IsWithin-read_one limited files seen 0 c).answer b p))
counted_one files seen c b n p (inr (r, f, e)) =
    absurd ((IsExact-read_one unlimited files 0 c).never_both b r
    ((IsWithin-read_one limited files seen 0 c).answer b p) f)

pub counted : (files : List File) (target : Text) (plan : Plan) (n : ℕ) → (planned limited files target).passes plan
    → Counts files target n → Totals (CountsOne files) plan.components n
counted files target plan n p (inl (k, q, t)) = subst (λ (x : Plan). Totals (CountsOne files) x.components n)
    ((IsExact-planned unlimited files target).one_answer k plan q ((IsWithin-planned limited files target).answer plan p)) t
counted files target plan n p (inr (r, f, e)) =
    absurd ((IsExact-planned unlimited files target).never_both plan r
    ((IsWithin-planned limited files target).answer plan p) f)
