-- Which values of a plain module have their declared types (Haskell 2010 Report, sections 3.2, 3.3 and 4.4.3.1).
use Rattle.std.specs.Prelude.{◌≡◌, ◌+◌, ℕ, zero, suc, Option, Some, None, List, [], ◌∷◌, ◌++◌, length, map}
use Rattle.std.specs.Prelude.{if◌then◌else◌}
use Rattle.std.specs.Str.{bytes_eq}
use Rattle.hs_plain.specs.declared.plain.Atom.{Atom}
use Rattle.hs_plain.specs.declared.plain.Atom.TheVariants.{Number, Argument, Declared}
use Rattle.hs_plain.specs.declared.plain.Binding.{Binding}
use Rattle.plain_check.specs.declared.typing.TypeError.{TypeError}
use Rattle.plain_check.specs.declared.typing.TypeError.TheVariants.{IllTyped, NoMemory}

-- a type: `Int`, or a function from a type to a type
pub data Plain : Type 0 where
  integer : Plain
  function : Plain → Plain → Plain

-- a name with its type
pub record Assumption : Type 0 where
  pub name : List ℕ
  pub type : Plain

-- the type of the name: that of its first entry
abbrev pub type_in : List Assumption → List ℕ → Option Plain
type_in [] name = None
type_in (e ∷ es) name = if bytes_eq name e.name then Some e.type else type_in es name

-- a declared type with so many arrows, `Int -> .. -> Int`
abbrev pub declared_type : ℕ → Plain
declared_type zero = integer
declared_type (suc arrows) = function integer (declared_type arrows)

-- what the module declares
abbrev pub assumptions_of : List Binding → List Assumption
assumptions_of bindings = map (λ b. record { name = b.occ; type = declared_type b.arrows }) bindings

-- A name has its type, a number has the type `Int`.
abbrev pub AtomHas : List Assumption → List Assumption → Atom → Plain → Type 0
AtomHas globals locals (Number value) t = t ≡ integer
AtomHas globals locals (Argument occ) t = type_in locals occ ≡ Some t
AtomHas globals locals (Declared occ) t = type_in globals occ ≡ Some t

-- What has the type t, applied to these atoms, has the type s: an application has the result of a function type whose
-- parameter is its argument's type.
abbrev pub Applies : List Assumption → List Assumption → Plain → List Atom → Plain → Type 0
Applies globals locals t [] s = t ≡ s
Applies globals locals t (a ∷ more) s = (u : Plain) × (v : Plain) × (t ≡ function u v) × AtomHas globals locals a u
    × Applies globals locals v more s

-- the first atom, applied to the others, has the type
abbrev pub AtomsHave : List Assumption → List Assumption → List Atom → Plain → Type 0
AtomsHave globals locals [] s = ⊥
AtomsHave globals locals (a ∷ more) s = (t : Plain) × AtomHas globals locals a t × Applies globals locals t more s

-- A clause with these arguments has the type where its right side has the result type under guessed types of its
-- arguments.
abbrev pub ClauseHas : List Assumption → List Assumption → List (List ℕ) → List Atom → Plain → Type 0
ClauseHas globals locals [] atoms t = AtomsHave globals locals atoms t
ClauseHas globals locals (arg ∷ args) atoms t =
    (u : Plain) × (v : Plain) × (t ≡ function u v)
    × ClauseHas globals (record { name = arg; type = u } ∷ locals) args atoms v

-- the value's clause has its declared type
abbrev pub IsTyped : List Assumption → Binding → Type 0
IsTyped globals b = ClauseHas globals [] b.args b.atoms (declared_type b.arrows)

-- all values have their declared types
abbrev pub AreTyped : List Assumption → List Binding → Type 0
AreTyped globals [] = Unit {0}
AreTyped globals (b ∷ bs) = IsTyped globals b × AreTyped globals bs

-- the first value that has not its declared type stands behind so many others
pub record IsFirstIll (globals : List Assumption) (bindings : List Binding) (place : ℕ) : Type 0 where
  pub before : List Binding
  pub it : Binding
  pub after : List Binding
  pub parts : bindings ≡ before ++ it ∷ after
  pub behind : place ≡ length before
  pub typed : AreTyped globals before
  pub ill : IsTyped globals it → ⊥

-- what a refusal says, where it says that a value is ill typed
abbrev pub OnIll : (ℕ → Type 0) → TypeError → Type 0
OnIll P (IllTyped place) = P place
OnIll P NoMemory = Unit {0}

-- how many values were checked when a refusal came
abbrev pub checked_before : TypeError → ℕ
checked_before (IllTyped place) = place + 1
checked_before NoMemory = 0
