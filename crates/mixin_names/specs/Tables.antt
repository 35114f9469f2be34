-- Tables of provisions and of renamings by names.
use Rattle.std.specs.Prelude.{ℕ, List, [], unwrap_or}
use Rattle.std.specs.HashMap.{HashMap, get}
use Rattle.std.specs.Str.{bytes_eq}
use Rattle.bp_base.specs.declared.linking.Provision.{Provision}

-- the provisions that a table has of a name
abbrev pub provisions_at : {S : Type 0} → HashMap (List ℕ) (List Provision) S → List ℕ → List Provision
provisions_at table name = unwrap_or (get bytes_eq table name) []

-- the name that a table gives a name; the same where it has none
abbrev pub name_at : {S : Type 0} → HashMap (List ℕ) (List ℕ) S → List ℕ → List ℕ
name_at table name = unwrap_or (get bytes_eq table name) name
