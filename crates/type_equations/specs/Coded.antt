-- Types with unknowns of kinds, as types of unification: an application notes the kind of its argument, so that types
-- of
-- different kinds are never made equal. `Maybe t` is the application of `Maybe` at `*` to t.
use Rattle.std.specs.Prelude.{◌≡◌, Bool, true, false, ◌&&◌, List, Option, Some, None, slice_get, if◌then◌else◌}
use Rattle.bp_base.specs.declared.ty.Kind.TheVariants.{Star}
use Rattle.type_terms.specs.Terms.{var, con, app}
use Rattle.hs_core.specs.Types.{KindTerm, star, arrow, TypeTerm, TypeAssignment}
use Rattle.hs_core.specs.Globals.{NameMeaning, type_name, synonym_name, value_name, constructor_name, Globals, kind_in}
use Rattle.hs_core.specs.Globals.{plain_names}
use Rattle.hs_core.specs.Typing.{Kinds}
use Rattle.type_unify.specs.Types.{Plain, rigid, named}
use Rattle.kind_check.specs.Forms.{code, decided}

-- a type applied to one of a kind
abbrev pub applied_at : KindTerm → Plain → Plain → Plain
applied_at k f a = app (app (code k) f) a

-- a type of a kind, over names of types with their kinds and unknowns with theirs
abbrev pub IsForm : Globals → List KindTerm → Plain → KindTerm → Type 0
IsForm G ks (var i) k = slice_get ks i ≡ Some k
IsForm G ks (con (rigid i)) k = ⊥
IsForm G ks (con (named n j)) k = plain_names G n k
IsForm G ks (app (var i) a) k = ⊥
IsForm G ks (app (con h) a) k = ⊥
IsForm G ks (app (app c f) a) k = (j : KindTerm) × (c ≡ code j) × IsForm G ks f (arrow j k) × IsForm G ks a j

-- the type where unknowns have theirs
abbrev pub value : TypeAssignment → Plain → TypeTerm
value g (var i) = g i
value g (con (rigid i)) = var i
value g (con (named n j)) = con n
value g (app (var i) a) = var i
value g (app (con h) a) = var 0
value g (app (app c f) a) = app (value g f) (value g a)

-- ---- from types to types of unification, and back

abbrev pub kind_or_star : Option KindTerm → KindTerm
kind_or_star None = star
kind_or_star (Some k) = k

-- the kind of an application of a type of this kind
abbrev pub result_kind : KindTerm → KindTerm
result_kind star = star
result_kind (arrow j k) = k

-- the kind of a type that has one
abbrev pub kind_under : Globals → Kinds → TypeTerm → KindTerm
kind_under G kinds (var i) = kinds i
kind_under G kinds (con n) = kind_or_star (kind_in (G n))
kind_under G kinds (app f a) = result_kind (kind_under G kinds f)

abbrev pub type_code : Globals → Kinds → TypeTerm → Plain
type_code G kinds (var i) = con (rigid i)
type_code G kinds (con n) = con (named n Star)
type_code G kinds (app f a) = applied_at (kind_under G kinds a) (type_code G kinds f) (type_code G kinds a)

abbrev pub same_kind : KindTerm → KindTerm → Bool
same_kind star star = true
same_kind star (arrow j k) = false
same_kind (arrow i h) star = false
same_kind (arrow i h) (arrow j k) = same_kind i j && same_kind h k

-- whether a meaning is that of a type's name of this kind
abbrev pub is_type_of : Option NameMeaning → KindTerm → Bool
is_type_of None k = false
is_type_of (Some (type_name j)) k = same_kind j k
is_type_of (Some (synonym_name j s)) k = false
is_type_of (Some (value_name t)) k = false
is_type_of (Some (constructor_name c)) k = false

-- a type of unification as a type of this kind; what is none becomes the type that stands for all of the kind
abbrev pub type_of : Globals → (KindTerm → TypeTerm) → KindTerm → Plain → TypeTerm
type_of G d k (var i) = d k
type_of G d k (con (rigid i)) = d k
type_of G d k (con (named n j)) = if is_type_of (G n) k then con n else d k
type_of G d k (app (var i) a) = d k
type_of G d k (app (con h) a) = d k
type_of G d k (app (app c f) a) = app (type_of G d (arrow (decided c) k) f) (type_of G d (decided c) a)
