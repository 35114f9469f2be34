-- What a component includes (Cabal manual, "mixins").
use Rattle.std.specs.Prelude.{ℕ, List, [], ◌∷◌}
use Rattle.std.specs.List.{filter, flat_map}
use Rattle.cabal_text.specs.Tokens.{is_text}
use Rattle.cabal_component.specs.declared.component.Component.{Component}
use Rattle.cabal_component.specs.declared.component.Mixin.{Mixin}
use Rattle.cabal_component.specs.declared.component.Provides.TheVariants.{Whole}

-- a dependency, whole
abbrev pub whole : List ℕ → Mixin
whole dep = record { dep = dep; provides = Whole; needs = [] }

-- the entries of a dependency, in order
abbrev pub entries_for : List ℕ → List Mixin → List Mixin
entries_for dep mixins = filter (λ m. is_text m.dep dep) mixins

abbrev pub or_whole : List ℕ → List Mixin → List Mixin
or_whole dep [] = whole dep ∷ []
or_whole dep (m ∷ ms) = m ∷ ms

-- a dependency is included once for each of its entries, and once, whole, where it has none
abbrev pub included : (List ℕ → List Mixin) → List ℕ → List Mixin
included entries dep = or_whole dep (entries dep)

-- what a component includes, by dependency and then by entry
abbrev pub includes_of : Component → List Mixin
includes_of c = flat_map (included (λ dep. entries_for dep c.mixins)) c.deps
