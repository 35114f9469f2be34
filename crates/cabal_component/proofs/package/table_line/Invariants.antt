use Rattle.std.proofs.Common.{◌≡◌, drop}
use Rattle.std.specs.List.{filter}
use Rattle.std.proofs.Common.{map, is_some}
use Rattle.cabal_text.specs.Least.{least_of, sooner}
use Rattle.cabal_stanzas.specs.Table.{component_field}
use Rattle.cabal_component.proofs.package.table_line.Given as goal

abbrev pub invariant-loop-field : goal.invariant-loop-field
invariant-loop-field l = sooner l.least (least_of (map (λ f. f.line)
    (filter (λ f. is_some (component_field f.name)) (drop l.field-index l.fields)))) ≡ least_of
    (map (λ f. f.line) (filter (λ f. is_some (component_field f.name)) l.fields))
