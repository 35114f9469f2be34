-- What it means that all the tokens spell a tree, and where they stop to begin one.
use Rattle.std.specs.Prelude.{◌≡◌, ℕ, ◌+◌, ◌≤◌, ◌<◌, List, ◌++◌, length, take, Result, Ok, Err}
use Rattle.hs_forms.specs.Reading.{Form}
use Rattle.hs_forms.specs.declared.fault.Fault.{Fault}
use Rattle.hs_forms.specs.declared.fault.Fault.TheVariants as f
use Rattle.hs_forms.specs.declared.error.ParseError.{ParseError}
use Rattle.hs_forms.specs.declared.error.ParseError.TheVariants as e

abbrev pub Spells : {K T : Type 0} → Form K T → T → List K → Type 0
Spells form tree ts = (ts ≡ form.tokens tree) × form.Good tree

-- the tokens begin a spelling
abbrev pub Begins : {K T : Type 0} → Form K T → List K → Type 0
Begins {K} {T} form ts = (more : List K) × (tree : T) × Spells form tree (ts ++ more)

-- The tokens spell no tree. Those before the one at i begin a tree, and with it they begin none; i may be their number.
pub record IsPlace {K T : Type 0} (form : Form K T) (ts : List K) (i : ℕ) : Type 0 where
  pub none : (tree : T) → Spells form tree ts → ⊥
  pub within : i ≤ length ts
  pub begun : (j : ℕ) → j ≤ i → Begins form (take j ts)
  pub stuck : i < length ts → Begins form (take (i + 1) ts) → ⊥

abbrev pub IsWhole : {K T : Type 0} → Form K T → List K → Result T Fault → Type 0
IsWhole form ts (Ok tree) = Spells form tree ts
IsWhole form ts (Err (f.At left)) = (i : ℕ) × (i + left ≡ length ts) × IsPlace form ts i
IsWhole form ts (Err f.NoMemory) = Unit {0}

-- The answer of a parser, by the trees within the limit and all trees.
abbrev pub IsAnswer : {K T : Type 0} → Form K T → Form K T → List K → Result T ParseError → Type 0
IsAnswer form any ts (Ok tree) = Spells form tree ts
IsAnswer form any ts (Err (e.Syntax i)) = IsPlace form ts i × (i < length ts → Begins any (take (i + 1) ts) → ⊥)
IsAnswer form any ts (Err (e.DepthLimit i)) = IsPlace form ts i × (i < length ts) × Begins any (take (i + 1) ts)
IsAnswer form any ts (Err e.NoMemory) = Unit {0}
