use Rattle.std.proofs.Common.{◌≡◌, ◌++◌, drop}
use Rattle.std.specs.List.{flat_map}
use Rattle.cabal_stanzas.specs.Project.{files_of, refused_at}
use Rattle.cabal_stanzas.proofs.project.read_field.Given as goal

abbrev pub invariant-loop-line : goal.invariant-loop-line
invariant-loop-line l = (flat_map (λ x. refused_at x.number x.text) (drop l.line-index l.deeper) ≡ flat_map
    (λ x. refused_at x.number x.text) l.deeper) × (l.files
    ++ flat_map (λ x. files_of x.text) (drop l.line-index l.deeper) ≡ l.fn.files
    ++ (files_of l.value ++ flat_map (λ x. files_of x.text) l.deeper))
