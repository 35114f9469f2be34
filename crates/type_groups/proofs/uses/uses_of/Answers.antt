use Rattle.kind_check.specs.Scopes.{decls_of}
use Rattle.type_groups.proofs.UseLemmas.{uses_once}
use Rattle.type_groups.proofs.uses.uses_of.Goals as goal

pub returns : goal.returns
returns c =
    uses_once (decls_of c.args.decls.now) c.args.decl.now c.new-uses.result c.add_says.new.numbers c.new-uses.ensures
    c.in_ok-add_says.ensures
