-- The test whether a component is lawful.
use Rattle.std.specs.Prelude.{ℕ, Bool, true, ◌&&◌, not, List, [], ◌∷◌, length, map, ◌==◌, if◌then◌else◌}
use Rattle.cabal_text.specs.Seen.{repeats}
use Rattle.cabal_component.specs.declared.component.Component.{Component}
use Rattle.cabal_component.specs.declared.component.Mixin.{Mixin}
use Rattle.cabal_component.specs.declared.component.Provides.{Provides}
use Rattle.cabal_component.specs.declared.component.Provides.TheVariants.{Whole, Listed, Hiding}

-- no name stands twice
abbrev pub are_apart : List (List ℕ) → Bool
are_apart names = not (repeats names)

abbrev pub has_news_apart : Provides → Bool
has_news_apart Whole = true
has_news_apart (Listed items) = are_apart (map (λ r. r.to) items)
has_news_apart (Hiding names) = true

abbrev pub has_olds_apart : Mixin → Bool
has_olds_apart m = are_apart (map (λ r. r.from) m.needs)

-- the entry is of a dependency, and no name in it is given twice
abbrev pub is_lawful_entry : (List ℕ → Bool) → Mixin → Bool
is_lawful_entry is_dep m = is_dep m.dep && (has_news_apart m.provides && has_olds_apart m)

abbrev pub are_lawful_entries : (List ℕ → Bool) → List Mixin → Bool
are_lawful_entries is_dep [] = true
are_lawful_entries is_dep (m ∷ ms) = is_lawful_entry is_dep m && are_lawful_entries is_dep ms

-- a library has no main file, and an executable no signatures, exposed modules or re-exports
abbrev pub has_form : Component → Bool
has_form c =
    if c.executable then (length c.signatures == 0) &&
    ((length c.exposed == 0) && (length c.reexports == 0)) else length c.main_is == 0
