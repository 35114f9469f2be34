use Rattle.type_drafts.proofs.UseLemmas.{on_ok, in_PCon, in_PAs}
use Rattle.type_drafts.proofs.uses.+names.Goals as goal

pub add_names-returns-in-PCon : goal.add_names-returns-in-PCon
add_names-returns-in-PCon t c =
    on_ok c.add_all_names.result _ _ (in_PCon c.args.pat.now _ _ c.as_slice.result.now c.args.all.now
    c.add_all_names.new.all c.in-PCon.is c.as_slice.ensures) c.add_all_names.ensures

pub add_names-returns-in_ok-push-in-PAs : goal.add_names-returns-in_ok-push-in-PAs
add_names-returns-in_ok-push-in-PAs t c =
    on_ok c.add_names.result _ _ (in_PAs c.args.pat.now _ c.get.result.now _ c.in_ok-copied-in-PAs.field-0 c.args.all.now
    c.push-in-PAs.new.self c.add_names.new.all c.in-PAs.is c.get.ensures c.in_ok-copied-in-PAs.ensures
    c.in_ok-push-in-PAs.ensures.ok) c.add_names.ensures
