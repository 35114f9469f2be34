use Rattle.std.proofs.lemmas.Result.{on_ok_weaker}
use Rattle.std.proofs.Common.{◌∙◌}
use Rattle.haskell_layout.specs.Rules.{closed, item_begun}
use Rattle.haskell_layout.specs.declared.stack.Until.TheVariants as u
use Rattle.haskell_layout.proofs.AdvancingLemmas.{followed}
use Rattle.haskell_layout.proofs.progress.Progress.begin_line.Goals as goal

pub returns : goal.returns
returns c =
    on_ok_weaker c.begin_item.result
    (λ is. is ∙ followed c.args.offset (closed (u.Column c.args.column) c.args.self.now.stack)
    (item_begun c.args.column) c.args.self.now c.close.new.self c.in_ok-close.ensures)
    c.begin_item.ensures
