use Rattle.hs_declaration_forms.proofs.FixityLemmas.{head_none, bare_ok, level_ok}
use Rattle.hs_typings.proofs.fixities.read_fixity_head.Goals as goal

pub returns-in_default : goal.returns-in_default
returns-in_default c = head_none c.args.tokens.now c.in_default.ensures
