use Rattle.std.proofs.Common.{◌∙◌, ap, ◌≡◌, length, arith}
use Rattle.std.specs.Prelude.{map}
use Rattle.kind_check.specs.Scopes.{decls_of}
use Rattle.type_groups.specs.Uses.{use_list}
use Rattle.type_groups.proofs.UseLemmas.{uses_are}
use Rattle.kind_check.proofs.LoopLemmas.{take_end}
use Rattle.type_groups.proofs.uses.all_uses.Goals as goal

pub returns : goal.returns
returns c =
    let e : c.loop-index.index ≡ length c.args.decls.now =
    omega (arith, c.loop-index-test.false, c.loop-index.auto.index-end) in
    c.loop-index.invariant
    ∙ ap (map (use_list (decls_of c.args.decls.now))) (take_end c.args.decls.now c.loop-index.index e)
    ∙ uses_are c.args.decls.now
