use Rattle.std.proofs.Common.{ap, ◌∙◌}
use Rattle.kind_check.specs.Answers.{known_synonyms, sense_synonym}
use Rattle.kind_check.proofs.ScopeLemmas.{IfOk-then}
use Rattle.type_expand.proofs.LawfulLemmas.{by_body, no_synonym}
use Rattle.type_expand.proofs.lawful.is_lawful_name.Goals as goal

pub returns-in-Some-SynonymOf : goal.returns-in-Some-SynonymOf
returns-in-Some-SynonymOf c =
    let s = c.in-Some-SynonymOf in
    IfOk-then c.is_expandable.result
    (λ b h. by_body (known_synonyms c.args.known.now) c.args.name.now s.field-0.now _ _ s.body b s.ensures.some
    s.field-0-is h) c.is_expandable.ensures

pub returns-in-Some-TypeOf : goal.returns-in-Some-TypeOf
returns-in-Some-TypeOf c =
    no_synonym (known_synonyms c.args.known.now) c.args.name.now
    (c.in-Some-TypeOf.ensures.some ∙ ap sense_synonym c.in-Some-TypeOf.field-0-is)

pub returns-in-Some-Other : goal.returns-in-Some-Other
returns-in-Some-Other c =
    no_synonym (known_synonyms c.args.known.now) c.args.name.now
    (c.in-Some-Other.ensures.some ∙ ap sense_synonym c.in-Some-Other.field-0-is)

pub returns-in-None : goal.returns-in-None
returns-in-None c = no_synonym (known_synonyms c.args.known.now) c.args.name.now c.in-None.ensures.none
