use Rattle.type_drafts.proofs.DraftLemmas.{no_data, no_synonym, data_draft, synonym_draft, on_ok}
use Rattle.type_drafts.proofs.entities.add_draft.Goals as goal

pub returns-in_default : goal.returns-in_default
returns-in_default c =
    no_data c.args.whole.now c.args.here.now c.args.decl.now c.args.kinds.now c.args.next c.at.result _ _ _ _
    c.args.all.now c.in-DataDecl.is c.in_default.is c.at.ensures

pub returns-in_default-at : goal.returns-in_default-at
returns-in_default-at c =
    no_synonym c.args.whole.now c.args.here.now c.args.decl.now c.args.kinds.now c.args.next c.at-in-SynonymDecl.result
    _ _ _ c.args.all.now c.in-SynonymDecl.is c.in_default-at.is c.at-in-SynonymDecl.ensures

pub returns-in_ok-draft_data-in-DataDecl : goal.returns-in_ok-draft_data-in-DataDecl
returns-in_ok-draft_data-in-DataDecl c =
    on_ok c.push.result _ _ (data_draft c.args.whole.now c.args.here.now c.args.decl.now c.args.kinds.now c.args.next
    c.at.result c.in-Some.kind _ _ _ c.as_slice.result.now c.as_slice-in-DataDecl-2.result.now _
    c.as_slice-in-DataDecl.result.now c.in_ok-name-in-DataDecl.name c.in_ok-cons-in-DataDecl.cons
    c.in_ok-draft_data-in-DataDecl.field-0 c.args.all.now c.push.new.self c.in-DataDecl.is c.in-Some.is c.at.ensures
    c.in_ok-name-in-DataDecl.ensures c.as_slice.ensures c.as_slice-in-DataDecl.ensures
    c.in_ok-cons-in-DataDecl.ensures c.as_slice-in-DataDecl-2.ensures c.in_ok-draft_data-in-DataDecl.ensures)
    c.push.ensures.ok

pub returns-in_ok-draft_synonym-in-SynonymDecl : goal.returns-in_ok-draft_synonym-in-SynonymDecl
returns-in_ok-draft_synonym-in-SynonymDecl c =
    on_ok c.push-in-SynonymDecl.result _ _ (synonym_draft c.args.whole.now c.args.here.now c.args.decl.now
    c.args.kinds.now c.args.next c.at-in-SynonymDecl.result c.in-Some-at.kind _ _ c.as_slice-in-SynonymDecl.result.now _
    c.in_ok-name-in-SynonymDecl.name c.in_ok-draft_synonym-in-SynonymDecl.field-0 c.args.all.now
    c.push-in-SynonymDecl.new.self c.in-SynonymDecl.is c.in-Some-at.is c.at-in-SynonymDecl.ensures
    c.in_ok-name-in-SynonymDecl.ensures c.as_slice-in-SynonymDecl.ensures
    c.in_ok-draft_synonym-in-SynonymDecl.ensures) c.push-in-SynonymDecl.ensures.ok
