-- What a reader of chains answers.
use Rattle.std.specs.Prelude.{◌≡◌, ◌<◌, List, length, Option, Some, None, Result, Ok, Err}
use Rattle.bp_base.specs.declared.entity.Fixity.{Fixity}
use Rattle.hs_scopes.specs.Chains.{Tree}
use Rattle.hs_scopes.specs.Reads.{Going, NotRead, Reads}
use Rattle.chain_readings.specs.Pieces.{pieces_at, tree_at}
use Rattle.chain_readings.specs.declared.chain.Piece.{Piece}
use Rattle.chain_readings.specs.declared.chain.Reading.{Reading}
use Rattle.chain_readings.specs.declared.chain.ReadError.{ReadError}
use Rattle.chain_readings.specs.declared.chain.ReadError.TheVariants as e

-- the answer is the tree that is meant, and a refusal says that there is none
abbrev pub AnswersTree : Option Tree → Result Reading ReadError → Type 0
AnswersTree meant (Ok r) = meant ≡ Some (tree_at r)
AnswersTree meant (Err e.NoReading) = meant ≡ None
AnswersTree meant (Err e.NoMemory) = Unit {0}

abbrev pub Refused : Option Fixity → List Piece → ReadError → Type 0
Refused outer ps e.NoReading = NotRead outer (pieces_at ps)
Refused outer ps e.NoMemory = Unit {0}

-- what stands as one operand at the front of the pieces, and what follows it
abbrev pub IsRead : {Y : Type 0} → Option Fixity → List Piece → (Y → Tree) → (Y → List Piece) → Result Y ReadError
    → Type 0
IsRead outer ps tree rest (Ok y) = Reads outer (pieces_at ps) (tree y) (pieces_at (rest y)) × (length (rest y) < length ps)
IsRead outer ps tree rest (Err e) = Refused outer ps e

-- the operand or negation at the front
abbrev pub IsHead : {Y : Type 0} → Option Fixity → List Piece → (Y → Tree) → (Y → List Piece) → Result Y ReadError
    → Type 0
IsHead outer ps tree rest (Ok y) = Going outer (pieces_at ps) (tree y) (pieces_at (rest y)) × (length (rest y) < length ps)
IsHead outer ps tree rest (Err e) = Refused outer ps e
