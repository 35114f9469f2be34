use Rattle.hs_core.specs.Types.{type_term}
use Rattle.kind_check.specs.Answers.{known_synonyms}
use Rattle.std.proofs.Common.{refl}
use Rattle.type_expand.proofs.ExpandLemmas.{can_start, alone}
use Rattle.type_expand.proofs.LawfulLemmas.{has_expansion, has_none}
use Rattle.type_expand.proofs.lawful.is_expandable.Goals as goal

pub returns-in-Ok : goal.returns-in-Ok
returns-in-Ok c =
    has_expansion (known_synonyms c.args.known.now) (type_term c.args.ty.now) (type_term c.in-Ok._whole)
    (alone (known_synonyms c.args.known.now) (type_term c.args.ty.now) (type_term c.in-Ok._whole) c.new.result
    c.new.ensures c.in-Ok.ensures.ok)

pub returns-in-Err-Synonym : goal.returns-in-Err-Synonym
returns-in-Err-Synonym c =
    has_none (known_synonyms c.args.known.now) (type_term c.args.ty.now)
    (λ x. c.in-Err-Synonym.ensures.none c.in-Err-Synonym.field-0-is
    (can_start c.args.known.now c.args.known.now (type_term c.args.ty.now) c.new.result refl c.new.ensures x))
