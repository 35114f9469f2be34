-- Which special name a text is.
use Rattle.std.proofs.Common.{◌≡◌, ◌≢◌, ℕ, zero, suc, ◌-◌, ◌==◌, true, false, IsTrue, List, [], ◌∷◌, ◌++◌, get_or, drop}
use Rattle.std.proofs.Common.{codes, ap, refl, sym, ◌∙◌}
use Rattle.std.specs.Prelude.{replicate}
use Rattle.bp_base.specs.Texts.{Text}
use Rattle.bp_base.specs.Specials.{is_special, special_text}
use Rattle.bp_base.specs.declared.ty.Space.{Space}
use Rattle.bp_base.specs.declared.special.Special.{Special}
use Rattle.bp_base.specs.declared.special.Special.TheVariants as s

-- texts with other first bytes are others
apart : (m n : Text) (b : ℕ) → (get_or m 0 0 == b) ≡ false → (get_or n 0 0 == b) ≡ true → m ≢ n
apart m n b f t e = let h : false ≡ true = sym f ∙ (ap (λ (l : Text). get_or l 0 0 == b) e ∙ t) in cc

pub commas_end : (n m : ℕ) (rest : List ℕ) → ((more : List ℕ) → rest ≢ 44 ∷ more) → rest ≢ 41 ∷ []
    → replicate n 44 ++ rest ≢ replicate m 44 ++ 41 ∷ []
commas_end zero zero rest f g e = g e
commas_end zero (suc m) rest f g e = f (replicate m 44 ++ 41 ∷ []) e
commas_end (suc n) zero rest f g e = apart (44 ∷ (replicate n 44 ++ rest)) (41 ∷ []) 41 refl refl e
commas_end (suc n) (suc m) rest f g e = commas_end n m rest f g (ap (drop 1) e)

-- what stands behind the bracket of a special name
inner : (space : Space) (x : Special) (rest : Text) → IsTrue (is_special space x) → 40 ∷ rest ≡ special_text x
    → (n : ℕ) × (rest ≡ replicate n 44 ++ 41 ∷ [])
inner space s.Arrow rest t e = absurd (apart (40 ∷ rest) (codes "->") 45 refl refl e)
inner space s.List rest t e = absurd (apart (40 ∷ rest) (codes "[]") 91 refl refl e)
inner space s.Unit rest t e = (0, ap (drop 1) e)
inner space (s.Tuple parts) rest t e = (parts - 1, ap (drop 1) e)
inner space s.Cons rest t e = absurd (apart (40 ∷ rest) (codes ":") 58 refl refl e)

pub not_bracketed : (rest : Text) → ((n : ℕ) → rest ≢ replicate n 44 ++ 41 ∷ []) → (space : Space) (x : Special)
    → IsTrue (is_special space x) → 40 ∷ rest ≢ special_text x
not_bracketed rest f space x t e = let i = inner space x rest t e in f i.0 i.1
