-- Which names stand for two different things, as functions.
use Rattle.std.specs.Prelude.{Bool, true, false, not, ◌&&◌, List, [], ◌∷◌, Option, Some, None, if◌then◌else◌}
use Rattle.std.specs.List.{flat_map}
use Rattle.std.specs.Str.{bytes_eq}
use Rattle.std.specs.Ordering.{nat_cmp, is_lt}
use Rattle.std.specs.Cmp.Lexicographic.{slice_cmp}
use Rattle.bp_base.specs.Texts.{Text}
use Rattle.bp_base.specs.declared.ty.Space.{Space}
use Rattle.bp_base.specs.declared.ty.OrigName.{OrigName}
use Rattle.hs_core.specs.Sameness.{same_original, same_space}
use Rattle.hs_scopes.specs.Meanings.{name_of}
use Rattle.import_resolve.specs.declared.thing.Thing.{Thing}
use Rattle.import_resolve.specs.Exports.{is_con, thing_meaning}
use Rattle.export_resolve.specs.Named.{if_named}
use Rattle.export_resolve.specs.Found.{is_one_of}
use Rattle.export_resolve.specs.declared.clash.Meant.{Meant}

-- the name of a value or type, where it has this occurrence
abbrev pub if_head : Text → Thing → List OrigName
if_head q t = if is_con t then [] else if_named (name_of t.entity).occ q (name_of t.entity)

-- the values and types of this occurrence
abbrev pub heads_named : List Thing → Text → List OrigName
heads_named ts q = flat_map (if_head q) ts

-- a constructor whose type is not among these is left out
abbrev pub has_type : (Text → List OrigName) → Thing → Bool
has_type heads t = is_one_of (name_of t.entity) (heads (name_of t.entity).occ)

abbrev pub meant_of : Thing → Meant
meant_of t = record { occ = t.occ; name = thing_meaning t }

abbrev pub if_typed : (Text → List OrigName) → Thing → List Meant
if_typed heads t = if has_type heads t then meant_of t ∷ [] else []

-- what is exported, name by name
abbrev pub all_meant : (Text → List OrigName) → List Thing → List Meant
all_meant heads ts = flat_map (if_typed heads) ts

-- the one of them that came first
abbrev pub sooner : Option OrigName → Option OrigName → Option OrigName
sooner (Some n) later = Some n
sooner None later = later

abbrev pub if_first : Space → Text → Meant → Option OrigName
if_first space q m = if same_space space m.name.space && bytes_eq m.occ q then Some m.name else None

-- what the first of this name and space means
abbrev pub first_at : Space → Text → List Meant → Option OrigName
first_at space q [] = None
first_at space q (m ∷ ms) = sooner (if_first space q m) (first_at space q ms)

abbrev pub differs_from : Option OrigName → OrigName → Bool
differs_from None n = false
differs_from (Some m) n = not (same_original m n)

-- by the first types and the first values
abbrev pub clashes : (Space → Text → Option OrigName) → Meant → Bool
clashes firsts m = differs_from (firsts m.name.space m.occ) m.name

abbrev pub least : Option Text → Text → Option Text
least None q = Some q
least (Some p) q = if is_lt (slice_cmp nat_cmp q p) then Some q else Some p

abbrev pub least_by : Bool → Option Text → Text → Option Text
least_by true found q = least found q
least_by false found q = found

-- the least name of those that clash, where this one was found before
abbrev pub least_clash : (Space → Text → Option OrigName) → Option Text → List Meant → Option Text
least_clash firsts found [] = found
least_clash firsts found (m ∷ ms) = least_clash firsts (least_by (clashes firsts m) found m.occ) ms

abbrev pub firsts_of : List Meant → Space → Text → Option OrigName
firsts_of ms space q = first_at space q ms

abbrev pub clash_among : List Meant → Option Text
clash_among ms = least_clash (firsts_of ms) None ms

abbrev pub clash_of : List Thing → Option Text
clash_of ts = clash_among (all_meant (heads_named ts) ts)
