-- The steps of the reader of identities, which proofs about its code speak of; no public clause does.
use Rattle.std.specs.Prelude.{◌≡◌, ℕ, zero, suc, ◌+◌, Bool, true, false, ◌||◌, ◌==◌, List, [], ◌∷◌, ◌++◌, length}
use Rattle.std.specs.Prelude.{Option, Some, None, if◌then◌else◌}
use Rattle.bp_base.specs.declared.ident.Ident.{Ident}
use Rattle.bp_base.specs.declared.ident.Ident.TheVariants.{Hole, Module, Module'}
use Rattle.bp_base.specs.declared.ident.Unit.{Unit as OfUnit, Unit'}
use Rattle.bp_base.specs.declared.ident.Fill.{Fill}
use Rattle.bp_base.specs.declared.ident.Ident.TheBlock.{end_of-Unit, more_of-Unit, Row_of-Fill, end_of-Fill}
use Rattle.bp_base.specs.declared.ident.Ident.TheBlock.{more_of-Fill}
use Rattle.bp_base.specs.declared.ident.Ident.TheViews.{roll-Unit}

-- one of , / < = > [ ]
abbrev pub is_mark : ℕ → Bool
is_mark b = (b == 44) || (b == 47) || (b == 60) || (b == 61) || (b == 62) || (b == 91) || (b == 93)

-- the bytes up to the next mark, and the rest
abbrev pub run_with : ℕ → List ℕ × List ℕ → List ℕ × List ℕ
run_with b p = (b ∷ p.0, p.1)

abbrev pub run : List ℕ → List ℕ × List ℕ
run [] = ([], [])
run (b ∷ bs) = if is_mark b then ([], b ∷ bs) else run_with b (run bs)

abbrev pub name_of : List ℕ → List ℕ
name_of bs = let p = run bs in p.0

abbrev pub rest_of : List ℕ → List ℕ
rest_of bs = let p = run bs in p.1

-- goes on after this byte
abbrev pub after : {A : Type 0} → ℕ → List ℕ → (List ℕ → Option A) → Option A
after x [] go = None
after x (b ∷ bs) go = if b == x then go bs else None

abbrev pub then_read : {A B : Type 0} → Option (A × List ℕ) → (A → List ℕ → Option B) → Option B
then_read None go = None
then_read (Some p) go = go p.0 p.1

abbrev pub read_module : List ℕ → List Fill → List ℕ → Option (Ident × List ℕ)
read_module c fs bs = after 47 bs (λ r. Some (
  Module (roll-Unit (record { component = c; fills = fs })) (name_of r),
  (rest_of r),
))

-- the head of a list, or 0
abbrev pub front : List ℕ → ℕ
front [] = 0
front (b ∷ bs) = b

abbrev pub back : List ℕ → List ℕ
back [] = []
back (b ∷ bs) = bs

abbrev pub push_fill : List ℕ → Ident → Option (List Fill × List ℕ) → Option (List Fill × List ℕ)
push_fill h i None = None
push_fill h i (Some p) = Some (record { hole = h; ident = i } ∷ p.0, p.1)

abbrev mutual
  pub read : ℕ → List ℕ → Option (Ident × List ℕ)
  read zero bs = None
  read (suc n) bs =
      if front bs == 60 then after 62 (rest_of (back bs)) (λ r. Some (Hole (name_of (back bs)), r))
      else (if front (rest_of bs) == 91 then then_read (read_fills n (back (rest_of bs)))
      (λ fs r. read_module (name_of bs) fs r)
      else read_module (name_of bs) [] (rest_of bs))

  pub read_fills : ℕ → List ℕ → Option (List Fill × List ℕ)
  read_fills zero bs = None
  read_fills (suc n) bs = after 61 (rest_of bs) (λ r. then_read (read n r) (λ i q.
      if front q == 44 then push_fill (name_of bs) i (read_fills n (back q))
      else after 93 q (λ t. Some (record { hole = (name_of bs); ident = i } ∷ [], t))))

-- what was read, with the rest
abbrev pub with_rest : Option Ident → List ℕ → Option (Ident × List ℕ)
with_rest None rest = None
with_rest (Some i) rest = Some (i, rest)

-- whether fills were read, and then put behind the old ones
abbrev pub appended : Bool → List Fill → List Fill → List ℕ → Option (List Fill × List ℕ) → Type 0
appended true old new rest None = ⊥
appended true old new rest (Some p) = (new ≡ old ++ p.0) × (rest ≡ p.1)
appended false old new rest o = o ≡ None

-- what was read, where nothing is left
abbrev pub whole : Option (Ident × List ℕ) → Option Ident
whole None = None
whole (Some p) = if length p.1 == 0 then Some p.0 else None

abbrev pub HasNoMark : List ℕ → Type 0
HasNoMark [] = Unit {0}
HasNoMark (b ∷ bs) = (is_mark b ≡ false) × HasNoMark bs

-- no name holds a mark
abbrev mutual
  pub IsClean : Ident → Type 0
  IsClean (Hole n) = HasNoMark n
  IsClean (Module' s (more_of-Unit u end_of-Unit) m) = IsCleanUnit u × HasNoMark m

  pub IsCleanUnit : OfUnit → Type 0
  IsCleanUnit (Unit' c s r) = HasNoMark c × AreClean r

  pub AreClean : {m : _} → Row_of-Fill m → Type 0
  AreClean end_of-Fill = Unit {0}
  AreClean (more_of-Fill h i r) = HasNoMark h × IsClean i × AreClean r

-- how many turns the reader takes
abbrev mutual
  pub turns : Ident → ℕ
  turns (Hole n) = 0
  turns (Module' s (more_of-Unit u end_of-Unit) m) = suc (turns_unit u)

  pub turns_unit : OfUnit → ℕ
  turns_unit (Unit' c s r) = turns_row r

  pub turns_row : {m : _} → Row_of-Fill m → ℕ
  turns_row end_of-Fill = 0
  turns_row (more_of-Fill h i r) = suc (turns i + turns_row r)
