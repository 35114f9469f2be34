-- What is built from the classes of a table.
use Rattle.std.specs.Prelude.{ℕ, ◌+◌, Bool, false, ◌&&◌, ◌||◌, List, [], ◌∷◌, ◌++◌, map, Option, Some, None}
use Rattle.std.specs.Prelude.{if◌then◌else◌, nat_eq, get_or, ◌<◌}
use Rattle.std.specs.Option.{option_or}
use Rattle.std.specs.Ordering.{nat_cmp, is_lt}
use Rattle.std.specs.Cmp.Lexicographic.{slice_cmp}
use Rattle.bp_base.specs.declared.ident.Ident.{Ident}
use Rattle.bp_base.specs.declared.ident.Ident.TheVariants.{Hole, Module, Module'}
use Rattle.bp_base.specs.declared.ident.Unit.{Unit as OfUnit, out-Unit}
use Rattle.bp_base.specs.declared.ident.Ident.TheViews.{roll-Unit}
use Rattle.bp_base.specs.declared.ident.Fill.{Fill}
use Rattle.bp_base.specs.declared.ident.Ident.TheBlock.{end_of-Unit, more_of-Unit}
use Rattle.bp_base.specs.Lists.{Among}
use Rattle.bp_base.specs.Texts.{Text}
use Rattle.ident_table.specs.Numbers.{ident_of}
use Rattle.unit_identity.specs.Fill.{found}
use Rattle.hole_unify.specs.Table.{Node}
use Rattle.hole_unify.specs.Table.{class_at, is_same, is_module}
use Rattle.hole_unify.specs.Reach.{least_from}

-- what is built for a class
pub record ClassBuilt : Type 0 where
  pub class : ℕ
  pub ident : Ident

-- what numbers of a table stand for, where classes are built
abbrev pub number_built : List Ident → Option ℕ → Option Ident
number_built table None = None
number_built table (Some n) = Some (ident_of table n)

abbrev pub built_of : List Ident → List (Option ℕ) → List (Option Ident)
built_of table built = map (number_built table) built

abbrev pub AreBuiltBelow : ℕ → List (Option ℕ) → Type 0
AreBuiltBelow n built = (k : ℕ) → Among (Some k) built → k < n

-- what is built for a class, by its number
abbrev pub built_at : ℕ → List (Option Ident) → Option Ident
built_at k built = get_or built k None

abbrev pub at_class : List (Option Ident) → Option ℕ → Option Ident
at_class built None = None
at_class built (Some k) = built_at k built

abbrev pub ident_built : List Node → List (Option Ident) → Ident → Option Ident
ident_built nodes built i = at_class built (class_at i nodes)

abbrev pub with_fill : Text → Option Ident → Option (List Fill) → Option (List Fill)
with_fill h None rest = None
with_fill h (Some t) None = None
with_fill h (Some t) (Some fs) = Some (record { hole = h; ident = t } ∷ fs)

-- what is built for the fills of a unit, where all are built
abbrev pub fills_built : List Node → List (Option Ident) → List Fill → Option (List Fill)
fills_built nodes built [] = Some []
fills_built nodes built (f ∷ fs) = with_fill f.hole (ident_built nodes built f.ident) (fills_built nodes built fs)

abbrev pub fronted : List Fill → Option (List Fill) → Option (List Fill)
fronted front None = None
fronted front (Some fs) = Some (front ++ fs)

abbrev pub module_of : OfUnit → Text → Option (List Fill) → Option Ident
module_of u m None = None
module_of u m (Some fs) = Some (Module (roll-Unit (record { component = (out-Unit u).component; fills = fs })) m)

-- whether a class has a module
abbrev pub has_module : ℕ → List Node → Bool
has_module k [] = false
has_module k (x ∷ xs) = (nat_eq x.class k && is_module x.ident) || has_module k xs

abbrev pub term_hole : Ident → Option Text
term_hole (Hole n) = Some n
term_hole (Module' s r m) = None

abbrev pub class_hole : ℕ → Node → Option Text
class_hole k x = if nat_eq x.class k then term_hole x.ident else None

-- the least hole of a class
abbrev pub least_hole : ℕ → List Node → Option Text
least_hole k nodes = least_from None (map (class_hole k) nodes)

abbrev pub hole_of : Option Text → Option Ident
hole_of None = None
hole_of (Some n) = Some (Hole n)

abbrev pub hole_ready : List Node → ℕ → Option Ident
hole_ready nodes k = if has_module k nodes then None else hole_of (least_hole k nodes)

-- a class without a module is its least hole; else a module of it, with what is built for its fills
abbrev pub term_ready : List Node → List (Option Ident) → ℕ → Ident → Option Ident
term_ready nodes built k (Hole n) = hole_ready nodes k
term_ready nodes built k (Module' s (more_of-Unit u end_of-Unit) m) =
    module_of u m (fills_built nodes built (out-Unit u).fills)

abbrev pub entry_of : ℕ → Option Ident → Option Ident → Option ClassBuilt
entry_of k (Some t) made = None
entry_of k None None = None
entry_of k None (Some t) = Some (record { class = k; ident = t })

abbrev pub node_ready : List Node → List (Option Ident) → Node → Option ClassBuilt
node_ready nodes built x = entry_of x.class (built_at x.class built) (term_ready nodes built x.class x.ident)

-- the first class that is not built and can be
abbrev pub first_ready : List Node → List (Option Ident) → List Node → Option ClassBuilt
first_ready nodes built [] = None
first_ready nodes built (x ∷ rest) = option_or (node_ready nodes built x) (first_ready nodes built rest)

-- ---- the fills of the holes

-- how many fills come before a hole
abbrev pub place : Text → List Fill → ℕ
place h [] = 0
place h (x ∷ xs) = if is_lt (slice_cmp nat_cmp x.hole h) then place h xs + 1 else 0

abbrev pub inserted : Fill → List Fill → List Fill
inserted f [] = f ∷ []
inserted f (x ∷ xs) = if is_lt (slice_cmp nat_cmp x.hole f.hole) then x ∷ inserted f xs else f ∷ x ∷ xs

abbrev pub put : Fill → Option Ident → List Fill → List Fill
put f None fs = inserted f fs
put f (Some i) fs = fs

-- a fill for a hole that is not itself
abbrev pub hole_put : Text → Option Ident → List Fill → List Fill
hole_put n None fs = fs
hole_put n (Some t) fs = if is_same t (Hole n) then fs else put (record { hole = n; ident = t }) (found n fs) fs

abbrev pub term_put : Ident → Option Ident → List Fill → List Fill
term_put (Hole n) o fs = hole_put n o fs
term_put (Module' s r m) o fs = fs

-- the fills of the holes of the table
abbrev pub answer : List (Option Ident) → List Node → List Fill → List Fill
answer built [] fs = fs
answer built (x ∷ rest) fs = answer built rest (term_put x.ident (built_at x.class built) fs)
