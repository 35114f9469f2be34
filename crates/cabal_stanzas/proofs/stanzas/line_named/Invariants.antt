use Rattle.std.proofs.Common.{◌≡◌, drop}
use Rattle.std.specs.List.{filter}
use Rattle.std.proofs.Common.{map}
use Rattle.cabal_stanzas.specs.Stanzas.{is_named}
use Rattle.cabal_text.specs.Least.{least_of, sooner}
use Rattle.cabal_stanzas.proofs.stanzas.line_named.Given as goal

abbrev pub invariant-loop-field : goal.invariant-loop-field
invariant-loop-field l = sooner l.least (least_of (map (λ f. f.line)
    (filter (λ f. is_named l.name f) (drop l.field-index l.fields)))) ≡ least_of
    (map (λ f. f.line) (filter (λ f. is_named l.name f) l.fields))
