use Rattle.std.proofs.Common.{Some}
use Rattle.kind_check.specs.Answers.{known_synonyms}
use Rattle.kind_env.specs.Listings.{known_kind}
use Rattle.kind_module.proofs.EntityLemmas.{of_data, of_synonym, of_value}
use Rattle.kind_module.proofs.expand.entity_gives.Goals as goal

pub returns-in-DataType : goal.returns-in-DataType
returns-in-DataType c =
    of_data (Some 1000) (known_kind c.args.env.now.names) (known_synonyms c.args.env.now.names) c.args.entity.now
    c.data_gives.result _ _ _ _ c.in-DataType.cons c.as_slice.result.now c.in-DataType.is c.as_slice.ensures
    c.data_gives.ensures

pub returns-in-Synonym : goal.returns-in-Synonym
returns-in-Synonym c =
    of_synonym (Some 1000) (known_kind c.args.env.now.names) (known_synonyms c.args.env.now.names) c.args.entity.now
    c.synonym_gives.result _ _ _ _ c.in-Synonym.is c.synonym_gives.ensures

pub returns-in-Value : goal.returns-in-Value
returns-in-Value c =
    of_value (Some 1000) (known_kind c.args.env.now.names) (known_synonyms c.args.env.now.names) c.args.entity.now
    c.value_gives.result _ _ _ c.in-Value.is c.value_gives.ensures
