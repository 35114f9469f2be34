use Rattle.std.proofs.Common.{◌≡◌, ◌++◌, drop, map}
use Rattle.std.specs.Prelude.{codes}
use Rattle.hs_core.specs.declared.tree.ConDecl.{ConDecl}
use Rattle.flat_text.specs.Marks.{written}
use Rattle.flat_text.specs.ExpressionMarks.{con_decl_marks}
use Rattle.flat_text.specs.Texts.{led_text}
use Rattle.flat_text.proofs.declaration.push_cons.Given as goal

abbrev pub invariant-loop-each : goal.invariant-loop-each
invariant-loop-each l =
    l.out.items ++ led_text l.before (codes " | ")
    (map (λ (con : ConDecl). written (con_decl_marks con)) (drop l.each-index l.cons))
    ≡ l.fn.out.items ++ led_text (codes " = ") (codes " | ")
    (map (λ (con : ConDecl). written (con_decl_marks con)) l.fn.cons)
