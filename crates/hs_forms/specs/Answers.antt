-- What a reader answers, and where it stops.
use Rattle.std.specs.Prelude.{◌≡◌, ℕ, ◌+◌, ◌<◌, List, ◌++◌, length}
use Rattle.hs_forms.specs.Reading.{Form, Reads, Refuses}
use Rattle.hs_forms.specs.declared.fault.Fault.{Fault}
use Rattle.hs_forms.specs.declared.fault.Fault.TheVariants.{At, NoMemory}

-- A form, and how deep its trees are.
pub record Sort (K T : Type 0) : Type 1 where
  pub form : Form K T
  pub depth : T → ℕ

-- A tree was read from the front of the tokens. The depth and what is left are fewer than the tokens.
pub record Accepts {K T : Type 0} (form : Form K T) (depth : T → ℕ) (ts : List K) (tree : T) (rest : List K)
    (measured : ℕ) : Type 0 where
  pub spelled : ts ≡ form.tokens tree ++ rest
  pub reads : Reads form tree rest
  pub measured_is : measured ≡ depth tree
  pub room : measured + length rest < length ts

-- The refusal stands where so many tokens are left.
pub record Rejects {K T : Type 0} (form : Form K T) (ts : List K) (left : ℕ) : Type 0 where
  pub before : List K
  pub bad : List K
  pub split : ts ≡ before ++ bad
  pub left_is : length bad ≡ left
  pub refuses : Refuses form before bad

abbrev pub Fails : {K T : Type 0} → Form K T → List K → Fault → Type 0
Fails form ts (At left) = Rejects form ts left
Fails form ts NoMemory = Unit {0}
