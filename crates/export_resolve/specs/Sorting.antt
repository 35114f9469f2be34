-- Exports by their keys.
use Rattle.std.specs.Prelude.{ℕ, Bool, not, List, [], ◌∷◌, map}
use Rattle.bp_base.specs.declared.entity.Export.{Export}
use Rattle.hs_scopes.specs.Meanings.{name_of, is_types}
use Rattle.import_resolve.specs.Exports.{inserted}

-- types before values, each by occurrence
abbrev pub key_of : Export → Bool × List ℕ
key_of e = (not (is_types (name_of e.entity).space), e.occ)

-- exports with their keys
abbrev pub tagged : List Export → List ((Bool × List ℕ) × Export)
tagged es = map (λ e. (key_of e, e)) es

-- exports put in, from the last to the first
abbrev pub put_in : List Export → List Export → List Export
put_in [] into = into
put_in (e ∷ es) into = inserted e (put_in es into)
