-- Plain modules: what they declare.
use Rattle.std.specs.Prelude.{ℕ, List, map}
use Rattle.hs_plain.specs.declared.plain.Binding.{Binding}

-- the declared names, in the order of the source
abbrev pub names_of : List Binding → List (List ℕ)
names_of bindings = map (λ b. b.occ) bindings
