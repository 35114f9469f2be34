use Rattle.std.proofs.Common.{◌≡◌, drop}
use Rattle.haskell_layout.specs.Layout.{before_answer, layout_from, layout_of}
use Rattle.haskell_layout.specs.Progress.{state_of}
use Rattle.haskell_layout.proofs.pass.layout.Given as goal

abbrev pub invariant-loop-index : goal.invariant-loop-index
invariant-loop-index l =
    before_answer l.progress.out (layout_from l.length (drop l.index l.tokens) l.index (state_of l.progress)) ≡
    layout_of l.tokens l.length
