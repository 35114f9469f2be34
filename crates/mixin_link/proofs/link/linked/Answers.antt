use Rattle.mixin_link.proofs.LinkLemmas.{linked-by}
use Rattle.mixin_link.proofs.link.linked.Goals as goal

pub returns-in-Ok : goal.returns-in-Ok
returns-in-Ok c = linked-by c.args.required.now c.args.includes.now c.in_ok-equations.equations c.in-Ok.fills
    c.in_ok-linking-in-Ok.linking c.requires.open c.in_ok-equations.ensures c.in-Ok.ensures.ok c.in-Ok.ensures.occurs
    c.in_ok-linking-in-Ok.ensures
