-- Tables of entries by their dependencies.
use Rattle.std.specs.Prelude.{ℕ, List, [], unwrap_or}
use Rattle.std.specs.HashMap.{HashMap, get}
use Rattle.std.specs.Str.{bytes_eq}
use Rattle.cabal_component.specs.declared.component.Mixin.{Mixin}

-- the entries that a table has of a dependency
abbrev pub entries_at : {S : Type 0} → HashMap (List ℕ) (List Mixin) S → List ℕ → List Mixin
entries_at table dep = unwrap_or (get bytes_eq table dep) []
