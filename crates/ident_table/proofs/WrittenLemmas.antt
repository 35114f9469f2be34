-- One step of each loop over fills.
use Rattle.std.proofs.Common.{◌≡◌, inl, inr, ℕ, zero, suc, ◌+◌, ◌<◌, List, [], ◌∷◌, ◌++◌, length, get_or, take, refl}
use Rattle.std.proofs.Common.{ap, sym, ◌∙◌, arith}
use Rattle.std.proofs.lemmas.List.{take_more}
use Rattle.bp_base.specs.declared.ident.Ident.{Ident}
use Rattle.std.specs.Prelude.{slice_get, Some}
use Rattle.std.proofs.lemmas.Option.{get_or_from_slice_get}
use Rattle.bp_base.specs.Texts.{Text}
use Rattle.bp_base.specs.declared.ident.Ident.TheVariants.{Hole}
use Rattle.bp_base.specs.declared.ident.Fill.{Fill}
use Rattle.bp_base.specs.Lists.{Among}
use Rattle.ident_table.specs.declared.node.NumberFill.{NumberFill}
use Rattle.ident_table.specs.Numbers.{fill_of, fills_of, AreFillsBelow}

pub among-get : {A : Type 0} (xs : List A) (i : ℕ) (x d : A) → i < length xs → x ≡ get_or xs i d → Among x xs
among-get [] i x d lt e = absurd (omega arith)
among-get (y ∷ ys) zero x d lt e = inl (sym e)
among-get (y ∷ ys) (suc i) x d lt e = inr (among-get ys i x d (omega arith) e)

pub take-next : {A : Type 0} (xs : List A) (i : ℕ) (x : A) → i < length xs → x ≡ get_or xs i x
    → take (i + 1) xs ≡ take i xs ++ x ∷ []
take-next xs i x lt is = take_more xs i x lt ∙ ap (λ y. take i xs ++ y ∷ []) (sym is)

pub fill-below : (fs : List NumberFill) (i : ℕ) (f : NumberFill) (n : ℕ) → i < length fs → f ≡ get_or fs i f
    → AreFillsBelow n fs → f.ident < n
fill-below fs i f n lt is h = h f (among-get fs i f f lt is)

pub fills-push : (table : List Ident) (fs : List NumberFill) (f : NumberFill)
    → fills_of table (fs ++ f ∷ []) ≡ fills_of table fs ++ fill_of table f ∷ []
fills-push table [] f = refl
fills-push table (g ∷ fs) f = ap (λ l. fill_of table g ∷ l) (fills-push table fs f)

-- one more fill is written out
pub written-step : (table : List Ident) (fs : List NumberFill) (i : ℕ) (f : NumberFill) (now new : List Fill)
    (hole : Text) (t : Ident) → i < length fs → f ≡ get_or fs i f → now ≡ fills_of table (take i fs)
    → hole ≡ f.hole → slice_get table f.ident ≡ Some t → new ≡ now ++ record { hole = hole; ident = t } ∷ []
    → new ≡ fills_of table (take (i + 1) fs)
written-step table fs i f now new hole t lt is so h at pushed =
    let ident : t ≡ get_or table f.ident (Hole []) = sym (get_or_from_slice_get table f.ident t (Hole []) at) in
    pushed ∙ ap (λ l. l ++ record { hole = hole; ident = t } ∷ []) so
    ∙ (λ w. fills_of table (take i fs) ++ record { hole = h w; ident = ident w } ∷ [])
    ∙ sym (fills-push table (take i fs) f) ∙ ap (fills_of table) (sym (take-next fs i f lt is))
