-- What a parser answers: the tree that all the tokens spell, or the first token with which they begin none.
use Rattle.std.specs.Prelude.{◌⊎◌, ℕ, ◌+◌, ◌<◌, List, length, take, Result, Ok, Err}
use Rattle.hs_forms.specs.Reading.{Form}
use Rattle.hs_forms.specs.Whole.{Spells, Begins, IsPlace}
use Rattle.hs_forms.specs.declared.error.ParseError.{ParseError}
use Rattle.hs_forms.specs.declared.error.ParseError.TheVariants as e

-- the tokens up to and with the one at i begin a tree, or all of them spell one
abbrev pub GoesOn : {K T : Type 0} → Form K T → List K → ℕ → Type 0
GoesOn {K} {T} form ts i = ((i < length ts) × Begins form (take (i + 1) ts)) ⊎ ((tree : T) × Spells form tree ts)

-- The answer of a parser, by the trees within the limit and all trees: what stops the former is Syntax where it stops
-- all, and else DepthLimit.
abbrev pub IsParsed : {K T : Type 0} → Form K T → Form K T → List K → Result T ParseError → Type 0
IsParsed form any ts (Ok tree) = Spells form tree ts
IsParsed form any ts (Err (e.Syntax i)) = IsPlace form ts i × (GoesOn any ts i → ⊥)
IsParsed form any ts (Err (e.DepthLimit i)) = IsPlace form ts i × GoesOn any ts i
IsParsed form any ts (Err e.NoMemory) = Unit {0}
