-- Fills by number, and what they stand for.
use Rattle.std.proofs.Common.{◌≡◌, ℕ, ◌<◌, Bool, true, false, cond, List, [], ◌∷◌, inl, inr, refl, subst}
use Rattle.std.specs.Prelude.{Some, option_map}
use Rattle.std.specs.Str.{bytes_eq}
use Rattle.std.proofs.lemmas.Option.{same_Some}
use Rattle.bp_base.specs.declared.ident.Ident.{Ident}
use Rattle.bp_base.specs.Texts.{Text}
use Rattle.unit_identity.specs.Fill.{found}
use Rattle.ident_table.specs.declared.node.NumberFill.{NumberFill}
use Rattle.ident_table.specs.Numbers.{ident_of, fills_of, AreFillsBelow}
use Rattle.hole_unify.specs.Numbers.{number_at}

pub found-number : (table : List Ident) (h : Text) (fs : List NumberFill)
    → found h (fills_of table fs) ≡ option_map (ident_of table) (number_at h fs)
found-number table h [] = refl
found-number table h (f ∷ fs) = by (bytes_eq f.hole h) (found-number table h fs)
  where
    by : (b : Bool) → found h (fills_of table fs) ≡ option_map (ident_of table) (number_at h fs)
        → cond b (Some (ident_of table f.ident)) (found h (fills_of table fs)) ≡ option_map (ident_of table)
        (cond b (Some f.ident) (number_at h fs))
    by true r = refl
    by false r = r

pub number-below : (n : ℕ) (h : Text) (fs : List NumberFill) (i : ℕ) → AreFillsBelow n fs → number_at h fs ≡ Some i
    → i < n
number-below n h [] i b e = cc
number-below n h (f ∷ fs) i b e = by (bytes_eq f.hole h) e (λ g. number-below n h fs i (λ x a. b x (inr a)) g)
  where
    by : (c : Bool) → cond c (Some f.ident) (number_at h fs) ≡ Some i → (number_at h fs ≡ Some i → i < n) → i < n
    by true g r = subst (λ z. z < n) (same_Some f.ident i g) (b f (inl refl))
    by false g r = r g
