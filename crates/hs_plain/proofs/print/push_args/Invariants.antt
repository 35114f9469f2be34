use Rattle.std.proofs.Common.{◌≡◌, ◌++◌, take}
use Rattle.hs_plain.specs.Text.{args_text}
use Rattle.hs_plain.proofs.print.push_args.Given as goal

abbrev pub invariant-loop-arg : goal.invariant-loop-arg
invariant-loop-arg l = l.out.items ≡ l.fn.out.items ++ args_text (take l.arg-index l.args)
