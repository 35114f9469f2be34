-- How many arrows the types of atoms have, counted: what the check of types goes by.
use Rattle.std.specs.Prelude.{◌≡◌, ℕ, ◌+◌, Bool, false, ◌&&◌, ◌==◌, Option, Some, None, List, [], ◌∷◌, length, nat_le}
use Rattle.std.specs.Prelude.{if◌then◌else◌}
use Rattle.std.specs.List.{list_all}
use Rattle.std.specs.Ordering.{nat_cmp}
use Rattle.std.specs.Cmp.Lexicographic.{slice_cmp}
use Rattle.std.specs.BTreeMap.{BTreeMap, get}
use Rattle.std.specs.Str.{bytes_eq}
use Rattle.bp_base.specs.Lists.{is_among}
use Rattle.hs_plain.specs.declared.plain.Atom.{Atom}
use Rattle.hs_plain.specs.declared.plain.Atom.TheVariants.{Number, Argument, Declared}
use Rattle.hs_plain.specs.declared.plain.Binding.{Binding}

-- the arrows of the first value of this name
abbrev pub arrows_in : List Binding → List ℕ → Option ℕ
arrows_in [] name = None
arrows_in (b ∷ bs) name = if bytes_eq name b.occ then Some b.arrows else arrows_in bs name

-- the table holds the arrows of these values
abbrev pub HoldsArrows : BTreeMap (List ℕ) ℕ → List Binding → Type 0
HoldsArrows table bindings = (name : List ℕ) → get (slice_cmp nat_cmp) table name ≡ arrows_in bindings name

-- the arrows of an atom, in a clause with these arguments, which are all of type `Int`
abbrev pub atom_arrows : List Binding → List (List ℕ) → Atom → Option ℕ
atom_arrows bindings args (Number value) = Some 0
atom_arrows bindings args (Argument occ) = if is_among occ args then Some 0 else None
atom_arrows bindings args (Declared occ) = arrows_in bindings occ

abbrev pub is_no_arrow : Option ℕ → Bool
is_no_arrow None = false
is_no_arrow (Some arrows) = arrows == 0

-- the atom has the type `Int`
abbrev pub is_integer : List Binding → List (List ℕ) → Atom → Bool
is_integer bindings args atom = is_no_arrow (atom_arrows bindings args atom)

-- a function with so many arrows, applied to these, leaves what the clause has left
abbrev pub head_fits : List Binding → Binding → List Atom → Option ℕ → Bool
head_fits bindings b atoms None = false
head_fits bindings b atoms (Some arrows) =
    list_all (is_integer bindings b.args) atoms && (arrows + length b.args == length atoms + b.arrows)

abbrev pub atoms_fit : List Binding → Binding → List Atom → Bool
atoms_fit bindings b [] = false
atoms_fit bindings b (atom ∷ atoms) = head_fits bindings b atoms (atom_arrows bindings b.args atom)

-- the clause has its declared type
abbrev pub fits : List Binding → Binding → Bool
fits bindings b = nat_le (length b.args) b.arrows && atoms_fit bindings b b.atoms
