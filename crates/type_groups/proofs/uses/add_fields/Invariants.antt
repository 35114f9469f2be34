use Rattle.std.proofs.Common.{◌≡◌, List, take}
use Rattle.std.specs.Prelude.{map}
use Rattle.bp_base.specs.Texts.{Text}
use Rattle.kind_check.specs.Scopes.{decls_of, field_term}
use Rattle.type_groups.specs.Uses.{with_numbers, uses_in}
use Rattle.type_groups.proofs.uses.add_fields.Given as goal

abbrev pub invariant-loop-index : goal.invariant-loop-index
invariant-loop-index l = (ps : List Text) → l.numbers
    ≡ with_numbers l.fn.numbers (uses_in (decls_of l.decls) (map (field_term ps) (take l.index l.fields)))
