use Rattle.std.proofs.Common.{◌++◌, [], ℕ, Bool, List, false, get_or, refl, sym, ap, ◌∙◌}
use Rattle.std.specs.Prelude.{reverse}
use Rattle.std.proofs.lemmas.List.{get_or_read}
use Rattle.std.proofs.lemmas.Result.{on_ok_weaker}
use Rattle.hs_core.specs.declared.group.Step.{Step}
use Rattle.hs_core.specs.declared.group.Step.TheVariants.{Leave}
use Rattle.hs_core.specs.declared.group.UseList.{UseList}
use Rattle.hs_core.specs.Groups.{uses_at}
use Rattle.hs_core.specs.Walking.{enters}
use Rattle.hs_core.specs.Walking.IsStep.{again, begins}
use Rattle.hs_core.proofs.PendingLemmas.{popped-all}
use Rattle.hs_core.proofs.group.enter.Goals as goal

pub returns-then-as_slice-at : goal.returns-then-as_slice-at
returns-then-as_slice-at c = again c.args.index _ _ _
    (ap (λ (b : List Bool). get_or b c.args.index false) (sym c.as_slice.ensures) ∙ c.if-as_slice-at.true) refl

pub returns : goal.returns
returns c =
    on_ok_weaker c.push_enters.result
    (λ h. begins c.args.index _ _ _ _
    (ap (λ (b : List Bool). get_or b c.args.index false) (sym c.as_slice.ensures) ∙ c.if-as_slice-at.false)
    (h ∙ ap (λ (us : List ℕ). enters us ++ reverse c.push.new.self) c.as_slice-2.ensures
    ∙ ap (λ (u : UseList). enters u.uses ++ reverse c.push.new.self) (sym c.index-uses-at.is
    ∙ get_or_read c.args.uses.now c.args.index c.index-uses-at.result c.requires.below c.index-uses-at.is
    (record { uses = [] }))
    ∙ ap (λ (s : List Step). enters (uses_at c.args.uses.now c.args.index) ++ s)
    (popped-all c.push.new.self c.args.pending.now (Leave c.args.index) c.in_ok-push.ensures.ok))
    c.set.ensures refl)
    c.push_enters.ensures
