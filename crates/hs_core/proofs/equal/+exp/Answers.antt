use Rattle.std.proofs.Common.{◌≡◌, rules}
use Rattle.hs_core.specs.declared.tree.Rhs.{out-Rhs}
use Rattle.hs_core.proofs.SideLemmas.{sides-same}
use Rattle.hs_core.proofs.equal.+exp.Goals as goal

pub same_rhs-returns-then-same_choices : goal.same_rhs-returns-then-same_choices
same_rhs-returns-then-same_choices t c =
    let same_choices : (out-Rhs c.args.a.now).choices ≡ (out-Rhs c.args.b.now).choices = search rules in
    sides-same _ _ _ _ _ same_choices c.as_slice-then-same_choices.ensures c.as_slice-then-same_choices-2.ensures
    c.same_decls.ensures
