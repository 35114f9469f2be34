-- What is left to demand of a part of a tree once equations were made.
use Rattle.std.specs.Prelude.{◌≡◌, ℕ, List, [], ◌++◌}
use Rattle.hs_core.specs.Types.{KindTerm}
use Rattle.hs_core.specs.Schemes.{Bound}
use Rattle.hs_core.specs.Globals.{Globals}
use Rattle.type_equations.specs.States.{State, Guess, IsReady}
use Rattle.type_equations.specs.declared.equations.Binder.{Binder}
use Rattle.type_equations.specs.Demands.{Demand, typed_names, Agree, Imposes, HasNone}

-- what is left of a demand: what meets it meets the whole, and where nothing meets it, nothing meets the whole
pub record Leaves (G : Globals) (gives takes left_gives left_takes : Demand) (old now : State) : Type 0 where
  pub ready : IsReady G now
  pub more : List KindTerm
  pub grows : now.kinds ≡ old.kinds ++ more
  pub finish : (new : State) → Imposes G left_gives left_takes [] now new → Imposes G gives takes [] old new
  pub refuse : HasNone G left_takes now → HasNone G takes old

-- names that a part binds, and what stands where they are seen
abbrev pub under : Demand → (List Bound → Guess → Type 0) → Demand
under first rest g bs = (xs : List Bound) × first g xs × rest xs g × (bs ≡ [])

-- what stands where these names are seen
abbrev pub seen : List Binder → (List Bound → Guess → Type 0) → Demand
seen binders rest g bs = rest (typed_names g binders) g × (bs ≡ [])

-- what is asked where names are seen speaks of unknowns below n alone, beside the types of the names
abbrev pub IsLocalUnder : ℕ → (List Bound → Guess → Type 0) → Type 0
IsLocalUnder n rest = (xs : List Bound) (g h : Guess) → Agree n g h → rest xs g → rest xs h
