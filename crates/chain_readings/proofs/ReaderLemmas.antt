-- The steps of the reader, with what it refuses.
use Rattle.std.proofs.Common.{◌≡◌, List, [], ◌∷◌, refl, sym, ap, subst, ◌∙◌, length, true, false, arith, inl, inr}
use Rattle.std.specs.Prelude.{Bool, Option, Some, None, Result, Ok, Err, ◌==◌}
use Rattle.std.proofs.lemmas.Bool.Decides.{nat_tests}
use Rattle.bp_base.specs.declared.entity.Fixity.{Fixity}
use Rattle.hs_scopes.specs.Sides.{Side, minus, side_in}
use Rattle.hs_scopes.specs.Chains.{Piece, Tree, fits_left, fits_right, kept, kept_left, kept_right, left_section, reading, right_section, root}
use Rattle.hs_scopes.specs.Chains.{Operator as Op}
use Rattle.hs_scopes.specs.Reads.{Going, NotRead, Reads, Stops}
use Rattle.hs_scopes.proofs.StepLemmas.{minus_fails, not_whole, no_rest, step_fails, stop, whole}
use Rattle.hs_scopes.proofs.ReadingLemmas.{chains_are_read}
use Rattle.chain_readings.specs.Pieces.{pieces_at, root_at, side_at, tree_at}
use Rattle.chain_readings.specs.declared.side.Sided.{Sided}
use Rattle.chain_readings.specs.declared.side.Sided.TheVariants as sd
use Rattle.chain_readings.specs.declared.chain.Reading.{Reading}
use Rattle.chain_readings.specs.declared.chain.Reading.TheVariants as r
use Rattle.chain_readings.specs.declared.chain.Reading.TheBlock.{more_of-Reading, end_of-Reading}
use Rattle.chain_readings.specs.Answers.{AnswersTree, Refused}
use Rattle.chain_readings.specs.declared.chain.Piece.{Piece as Written}
use Rattle.chain_readings.specs.declared.chain.ReadError.{ReadError}
use Rattle.chain_readings.specs.declared.chain.ReadError.TheVariants as x

pub step_err : (e : ReadError) (outer : Option Fixity) (ps : List Written) (t : Tree) (rest : List Piece) (o : Op)
    (behind : List Written) → Going outer (pieces_at ps) t rest → rest ≡ Piece.Operator' o ∷ pieces_at behind
    → side_in outer o.fixity ≡ Side.Right → Refused (Some o.fixity) behind e → Refused outer ps e
step_err x.NoReading outer ps t rest o behind g at here h =
    step_fails outer (pieces_at ps) t rest o (pieces_at behind) g at here h
step_err x.NoMemory outer ps t rest o behind g at here h = tt

pub minus_err : (e : ReadError) (outer : Option Fixity) (f : Fixity) (ps behind : List Written) → f ≡ minus
    → pieces_at ps ≡ Piece.Minus ∷ pieces_at behind → Refused (Some f) behind e → Refused outer ps e
minus_err x.NoReading outer f ps behind is at h =
    subst (NotRead outer) (sym at) (minus_fails outer (pieces_at behind)
    (subst (λ (g : Fixity). NotRead (Some g) (pieces_at behind)) is h))
minus_err x.NoMemory outer f ps behind is at h = tt

pub stop_empty : (outer : Option Fixity) (ps : List Piece) (t : Tree) (rest : List Piece) → Going outer ps t rest
    → rest ≡ [] → Reads outer ps t rest
stop_empty outer ps t rest g e = stop outer ps t rest g (subst (Stops outer) (sym e) tt)

pub is_empty : (xs : List Written) → true ≡ (length xs == 0) → pieces_at xs ≡ []
is_empty [] e = refl
is_empty (y ∷ ys) e = absurd (grind (arith, nat_tests))

pub not_empty : (xs : List Written) → false ≡ (length xs == 0) → pieces_at xs ≡ [] → ⊥
not_empty [] e h = grind (arith, nat_tests)
not_empty (y ∷ ys) e h = cc

never_read : (ps : List Piece) → NotRead None ps → (r : Option Tree) → reading ps ≡ r → reading ps ≡ None
never_read ps n None e = e
never_read ps n (Some t) e = absurd (not_whole ps n t ((chains_are_read ps t).0 e))

pub whole_err : (e : ReadError) (ps : List Written) → Refused None ps e → AnswersTree (reading (pieces_at ps)) (Err e)
whole_err x.NoReading ps h = never_read (pieces_at ps) h (reading (pieces_at ps)) refl
whole_err x.NoMemory ps h = tt

pub whole_ok : (ps : List Piece) (t : Tree) (rest : List Piece) → Reads None ps t rest → reading ps ≡ Some t
whole_ok ps t rest r = (chains_are_read ps t).1 (whole ps t rest r (no_rest ps t rest r))

-- ---- sections

pub root_is : (x : Reading) → root_at x ≡ root (tree_at x)
root_is (r.Operand i) = refl
root_is (r.Negate' s (more_of-Reading a end_of-Reading)) = refl
root_is (r.Apply' o s (more_of-Reading l end_of-Reading) z (more_of-Reading t end_of-Reading)) = refl

-- a section is the reading of its chain, where that fits beside the operator
pub left_is : (ps : List Piece) (f : Fixity) (x : Reading) (b : Bool) → reading ps ≡ Some (tree_at x)
    → b ≡ fits_left (root_at x) f → left_section ps f ≡ kept b (tree_at x)
left_is ps f x b e h = ap (kept_left f) e ∙ ap (λ c. kept c (tree_at x)) (ap (λ o. fits_left o f) (sym (root_is x)) ∙ sym h)

pub right_is : (f : Fixity) (ps : List Piece) (x : Reading) (b : Bool) → reading ps ≡ Some (tree_at x)
    → b ≡ fits_right (root_at x) f → right_section f ps ≡ kept b (tree_at x)
right_is f ps x b e h = ap (kept_right f) e ∙ ap (λ c. kept c (tree_at x)) (ap (λ o. fits_right o f) (sym (root_is x)) ∙ sym h)

pub left_err : (e : ReadError) (ps : List Written) (f : Fixity) → AnswersTree (reading (pieces_at ps)) (Err e)
    → AnswersTree (left_section (pieces_at ps) f) (Err e)
left_err x.NoReading ps f h = ap (kept_left f) h
left_err x.NoMemory ps f h = tt

pub right_err : (e : ReadError) (f : Fixity) (ps : List Written) → AnswersTree (reading (pieces_at ps)) (Err e)
    → AnswersTree (right_section f (pieces_at ps)) (Err e)
right_err x.NoReading f ps h = ap (kept_right f) h
right_err x.NoMemory f ps h = tt

right_only : (s : Sided) → side_at s ≡ Side.Right → s ≡ sd.Right
right_only sd.Left e = absurd (cc)
right_only sd.Right e = refl
right_only sd.Neither e = absurd (cc)

-- where the sign may not stand, nothing is read
pub sign_barred : (outer : Option Fixity) (f : Fixity) (s : Sided) → f ≡ minus → side_at s ≡ side_in outer f
    → (s ≡ sd.Right → ⊥) → side_in outer minus ≡ Side.Right → ⊥
sign_barred outer f s e h never r = never (right_only s (h ∙ (ap (side_in outer) e ∙ r)))
