use Rattle.std.proofs.Common.{◌≡◌, ◌++◌, drop, map}
use Rattle.std.specs.Prelude.{codes}
use Rattle.hs_core.specs.declared.tree.FieldDecl.{FieldDecl}
use Rattle.flat_text.specs.Marks.{written}
use Rattle.flat_text.specs.ExpressionMarks.{field_marks}
use Rattle.flat_text.specs.Texts.{led_text}
use Rattle.flat_text.proofs.declaration.push_fields.Given as goal

abbrev pub invariant-loop-each : goal.invariant-loop-each
invariant-loop-each l =
    l.out.items ++ led_text (codes " ") (codes " ")
    (map (λ (field : FieldDecl). written (field_marks field)) (drop l.each-index l.fields))
    ≡ l.fn.out.items ++ led_text (codes " ") (codes " ") (map (λ (field : FieldDecl). written (field_marks field))
    l.fn.fields)
