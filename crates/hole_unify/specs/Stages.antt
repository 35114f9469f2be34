-- Building by numbers of a table, and answers by numbers.
use Rattle.std.specs.Prelude.{◌≡◌, ℕ, map, ◌+◌, ◌<◌, ◌≤◌, Bool, true, false, List, [], ◌∷◌, ◌++◌, length, Option, Some}
use Rattle.std.specs.Prelude.{None, if◌then◌else◌, get_or}
use Rattle.std.specs.Ordering.{nat_cmp, is_lt}
use Rattle.std.specs.Cmp.Lexicographic.{slice_cmp}
use Rattle.std.specs.Str.{bytes_eq}
use Rattle.bp_base.specs.declared.ident.Ident.{Ident}
use Rattle.bp_base.specs.Lists.{Among}
use Rattle.bp_base.specs.Texts.{Text, Rise}
use Rattle.ident_table.specs.declared.node.NumberFill.{NumberFill}
use Rattle.ident_table.specs.Numbers.{ident_of, fill_of, fills_of, module_of, AreFillsBelow, IsIdentTable, Grows}
use Rattle.unit_identity.specs.Fill.{found}
use Rattle.hole_unify.specs.declared.build.Ready.{Ready}
use Rattle.hole_unify.specs.declared.build.Ready.TheVariants.{Hole, Module}
use Rattle.hole_unify.specs.declared.equation.Equation.{Equation}
use Rattle.hole_unify.specs.Table.{Node, nodes_of}
use Rattle.hole_unify.specs.Tables.{IsTable}
use Rattle.hole_unify.specs.IsFaithful.{IsFaithful}
use Rattle.hole_unify.specs.Build.{ClassBuilt, built_of, AreBuiltBelow, term_hole, put}

-- the node of a number
abbrev pub node_at : List Ident → List ℕ → ℕ → Node
node_at table classes n = record { ident = ident_of table n; class = get_or classes n 0 }

-- the name of a hole
abbrev pub hole_at : List Ident → ℕ → Option Text
hole_at table n = term_hole (ident_of table n)

-- what is built for the class of a number
abbrev pub built_for : List ℕ → List (Option ℕ) → ℕ → Option ℕ
built_for classes built n = get_or built (get_or classes n 0) None

abbrev pub with_number : Text → Option ℕ → Option (List NumberFill) → Option (List NumberFill)
with_number h None rest = None
with_number h (Some n) None = None
with_number h (Some n) (Some fs) = Some (record { hole = h; ident = n } ∷ fs)

-- what is built for the fills of a unit, where all are built
abbrev pub numbers_built : List ℕ → List (Option ℕ) → List NumberFill → Option (List NumberFill)
numbers_built classes built [] = Some []
numbers_built classes built (f ∷ fs) = with_number f.hole (built_for classes built f.ident)
    (numbers_built classes built fs)

abbrev pub numbers_fronted : List NumberFill → Option (List NumberFill) → Option (List NumberFill)
numbers_fronted front None = None
numbers_fronted front (Some fs) = Some (front ++ fs)

abbrev pub made_of : Text → Text → Option (List NumberFill) → Option Ready
made_of c m None = None
made_of c m (Some fs) = Some (Module c fs m)

-- the identity that a class is
abbrev pub ready_ident : List Ident → Ready → Ident
ready_ident table (Hole n) = ident_of table n
ready_ident table (Module c fs m) = module_of table c fs m

-- the entry of a class
abbrev pub ready_entry : List Ident → ℕ → Ready → ClassBuilt
ready_entry table k r = record { class = k; ident = ready_ident table r }

abbrev pub IsReadyBelow : ℕ → Ready → Type 0
IsReadyBelow n (Hole k) = k < n
IsReadyBelow n (Module c fs m) = AreFillsBelow n fs

-- how many classes are not built
abbrev pub unbuilt_classes : List (Option ℕ) → ℕ
unbuilt_classes [] = 0
unbuilt_classes (None ∷ built) = unbuilt_classes built + 1
unbuilt_classes (Some n ∷ built) = unbuilt_classes built

-- the first identities of a table have classes, and some classes are built
pub record IsStage (table : List Ident) (classes : List ℕ) (built : List (Option ℕ)) : Type 0 where
  pub numbered : IsIdentTable table
  pub listed : length classes ≤ length table
  pub within : (k : ℕ) → Among k classes → k < length classes
  pub sized : length built ≡ length classes
  pub below : AreBuiltBelow (length table) built

-- what was built still stands in a later table
pub record Follows (classes : List ℕ) (table : List Ident) (built : List (Option ℕ)) (later : List Ident)
    (after : List (Option ℕ)) : Type 0 where
  pub grows : Grows table later
  pub stands : (es : List Equation) → IsTable es (nodes_of table classes)
      → IsFaithful es (nodes_of table classes) (built_of table built)
      → IsFaithful es (nodes_of table classes) (built_of later after)

-- where no class was built more, this is so
abbrev pub Steps : List ℕ → List Ident → List (Option ℕ) → List Ident → List (Option ℕ) → Type 0 → Bool → Type 0
Steps classes table built later after Stopped true = Follows classes table built later after
    × (unbuilt_classes after < unbuilt_classes built)
Steps classes table built later after Stopped false = (later ≡ table) × (after ≡ built) × Stopped

-- ---- answers

-- how many fills come before a hole
abbrev pub number_place : Text → List NumberFill → ℕ
number_place h [] = 0
number_place h (x ∷ xs) = if is_lt (slice_cmp nat_cmp x.hole h) then number_place h xs + 1 else 0

-- whether the first fill is of this hole
abbrev pub is_first : Text → List NumberFill → Bool
is_first h [] = false
is_first h (x ∷ xs) = bytes_eq x.hole h

-- a fill is put among others, unless they have one for its hole
pub record Puts (f : NumberFill) (old new : List NumberFill) : Type 0 where
  pub puts : (table : List Ident) → fills_of table new ≡ put (fill_of table f) (found f.hole (fills_of table old))
      (fills_of table old)
  pub rise : Rise (map (λ x. x.hole) new)
  pub below : (n : ℕ) → AreFillsBelow n old → f.ident < n → AreFillsBelow n new
