use Rattle.std.proofs.Common.{◌≡◌, length}
use Rattle.haskell_layout.specs.Rules.{closed}
use Rattle.haskell_layout.specs.Progress.{advanced}
use Rattle.haskell_layout.proofs.progress.Progress.close.Given as goal

abbrev pub invariant-items : goal.invariant-items
invariant-items l =
    advanced l.offset (closed l.until l.self.stack) l.self ≡ advanced l.offset
    (closed l.until l.initial.self.stack) l.initial.self

abbrev pub decreases-items : goal.decreases-items
decreases-items l = length l.self.stack
