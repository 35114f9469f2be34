-- Tables of names.
use Rattle.std.specs.Prelude.{ℕ, List, [], unwrap_or}
use Rattle.std.specs.HashMap.{HashMap, get}
use Rattle.std.specs.Str.{bytes_eq}

-- the names that a table has of a name
abbrev pub names_at : {S : Type 0} → HashMap (List ℕ) (List (List ℕ)) S → List ℕ → List (List ℕ)
names_at table name = unwrap_or (get bytes_eq table name) []
