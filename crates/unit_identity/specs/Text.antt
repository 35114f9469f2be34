-- The text of identities: `<H>`, `c/M` or `c[H=i,G=j]/M`.
use Rattle.std.specs.Prelude.{◌≡◌, ℕ, List, [], ◌∷◌, ◌++◌, IsTrue}
use Rattle.bp_base.specs.Texts.{Text}
use Rattle.bp_base.specs.declared.ident.Ident.{Ident}
use Rattle.bp_base.specs.declared.ident.Ident.TheVariants.{Hole, Module'}
use Rattle.bp_base.specs.declared.ident.Unit.{Unit as OfUnit, Unit'}
use Rattle.bp_base.specs.declared.ident.Fill.{Fill}
use Rattle.bp_base.specs.declared.ident.Ident.TheBlock.{end_of-Unit, more_of-Unit, Row_of-Fill, end_of-Fill}
use Rattle.bp_base.specs.declared.ident.Ident.TheBlock.{more_of-Fill}
use Rattle.unit_identity.specs.WellFormed.{well_formed}

abbrev mutual
  pub text : Ident → List ℕ
  text (Hole n) = 60 ∷ (n ++ 62 ∷ [])
  text (Module' s (more_of-Unit u end_of-Unit) m) = text_unit u ++ 47 ∷ m

  pub text_unit : OfUnit → List ℕ
  text_unit (Unit' c s r) = c ++ (pieces r 91 ++ closing r)

  -- each fill, after a mark
  pub pieces : {m : _} → Row_of-Fill m → ℕ → List ℕ
  pieces end_of-Fill mark = []
  pieces (more_of-Fill h i r) mark = mark ∷ (h ++ 61 ∷ (text i ++ pieces r 44))

  pub closing : {m : _} → Row_of-Fill m → List ℕ
  closing end_of-Fill = []
  closing (more_of-Fill h i r) = 93 ∷ []

abbrev pub pieces_of : List Fill → ℕ → List ℕ
pieces_of [] mark = []
pieces_of (f ∷ fs) mark = mark ∷ (f.hole ++ 61 ∷ (text f.ident ++ pieces_of fs 44))

abbrev pub closing_of : List Fill → List ℕ
closing_of [] = []
closing_of (f ∷ fs) = 93 ∷ []

-- the bytes are the text of this well formed identity
abbrev pub IsTextOf : Text → Ident → Type 0
IsTextOf bytes i = IsTrue (well_formed i) × (text i ≡ bytes)

-- two well formed identities have different texts
abbrev pub OneSpelling : Type 0
OneSpelling = (i j : Ident) → IsTrue (well_formed i) → IsTrue (well_formed j) → text i ≡ text j → i ≡ j
