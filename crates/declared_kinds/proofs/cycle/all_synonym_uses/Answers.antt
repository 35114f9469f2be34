use Rattle.std.proofs.Common.{◌∙◌, ap, ◌≡◌, length, arith}
use Rattle.std.specs.Prelude.{map}
use Rattle.kind_check.specs.Scopes.{decls_of}
use Rattle.kind_check.proofs.LoopLemmas.{take_end}
use Rattle.declared_kinds.specs.Cycles.{synonym_use}
use Rattle.declared_kinds.proofs.CycleLemmas.{synonyms_are}
use Rattle.declared_kinds.proofs.cycle.all_synonym_uses.Goals as goal

pub returns : goal.returns
returns c =
    let e : c.loop-index.index ≡ length c.args.decls.now =
    omega (arith, c.loop-index-test.false, c.loop-index.auto.index-end) in
    c.loop-index.invariant
    ∙ ap (map (synonym_use (decls_of c.args.decls.now))) (take_end c.args.decls.now c.loop-index.index e)
    ∙ synonyms_are (decls_of c.args.decls.now) c.args.decls.now
