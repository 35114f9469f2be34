use Rattle.std.proofs.Common.{inl, ap, subst}
use Rattle.hs_core.specs.Types.{type_term}
use Rattle.kind_check.specs.Answers.{known_synonyms}
use Rattle.type_expand.specs.Expanding.{IsExpandError}
use Rattle.kind_module.specs.Faults.{Misused}
use Rattle.kind_module.specs.Expanded.{type_gives}
use Rattle.kind_module.proofs.ExpandLemmas.{no_expansion}
use Rattle.kind_module.proofs.expand.type_gives.Goals as goal

pub returns-in_ok-copied-in-Err-SynonymUse : goal.returns-in_ok-copied-in-Err-SynonymUse
unfolding type_gives
returns-in_ok-copied-in-Err-SynonymUse c =
    inl (
      no_expansion (known_synonyms c.args.env.now.names) (type_term c.args.ty.now)
          (subst (IsExpandError (known_synonyms c.args.env.now.names) (type_term c.args.ty.now) 1000)
          c.in-Err-SynonymUse.field-0-is c.in-Err-SynonymUse.ensures.err),
      ap Misused c.in_ok-copied-in-Err-SynonymUse.ensures,
    )
