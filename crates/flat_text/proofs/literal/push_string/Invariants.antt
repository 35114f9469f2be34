use Rattle.std.proofs.Common.{◌≡◌, ◌++◌, drop}
use Rattle.std.specs.Prelude.{codes}
use Rattle.flat_lex.specs.Literals.{string_bytes}
use Rattle.flat_text.specs.Texts.{codes_behind}
use Rattle.flat_text.proofs.literal.push_string.Given as goal

abbrev pub invariant-loop-code : goal.invariant-loop-code
invariant-loop-code l =
    l.out.items ++ codes_behind l.behind_number (drop l.code-index l.codes)
    ≡ l.fn.out.items ++ (codes "\"" ++ string_bytes l.fn.codes)
