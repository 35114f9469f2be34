use Rattle.std.proofs.Common.{◌≡◌, ◌++◌, take}
use Rattle.flat_text.specs.ModuleTexts.{imports_text}
use Rattle.flat_text.proofs.print.push_imports.Given as goal

abbrev pub invariant-loop-each : goal.invariant-loop-each
invariant-loop-each l = l.out.items ≡ l.fn.out.items ++ imports_text (take l.each-index l.imports)
