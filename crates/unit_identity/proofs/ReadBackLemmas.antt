-- The text of an identity reads back as that identity.
use Rattle.std.proofs.Common.{◌≡◌, ℕ, zero, suc, ◌+◌, ◌-◌, ◌<◌, Bool, true, false, cond, if◌then◌else◌, ◌==◌, ◌||◌}
use Rattle.std.proofs.Common.{List, [], ◌∷◌, ◌++◌, refl, ap, sym, ◌∙◌, subst, append_assoc, append-nil, arith}
use Rattle.std.specs.Prelude.{Option, Some, None}
use Rattle.bp_base.proofs.IdentLemmas.{Module-is, unit-is}
use Rattle.bp_base.specs.declared.ident.Ident.{Ident}
use Rattle.bp_base.specs.declared.ident.Ident.TheVariants.{Hole, Module, Module'}
use Rattle.bp_base.specs.declared.ident.Unit.{Unit as OfUnit, Unit', out-Unit}
use Rattle.bp_base.specs.declared.ident.Fill.{Fill}
use Rattle.bp_base.specs.declared.ident.Ident.TheBlock.{hidden-the_row-Unit-0, shown-the_row-Fill-1, end_of-Unit}
use Rattle.bp_base.specs.declared.ident.Ident.TheBlock.{more_of-Unit, Row_of-Fill, end_of-Fill, more_of-Fill}
use Rattle.bp_base.specs.declared.ident.Ident.TheViews.{roll-Unit}
use Rattle.unit_identity.specs.Text.{text, text_unit, pieces, closing, pieces_of, closing_of}
use Rattle.unit_identity.specs.Reading.{run, run_with, name_of, rest_of, after, then_read, read_module, front, back}
use Rattle.unit_identity.specs.Reading.{push_fill, read, read_fills, appended, HasNoMark, IsClean, IsCleanUnit}
use Rattle.unit_identity.specs.Reading.{AreClean, turns, turns_unit, turns_row}
use mathlib.Core.Former.{list_count, this, none_left}
use denote.Hole.Carrier.{hidden, out, shown}

pub text-Module : (u : OfUnit) (m : List ℕ) → text (Module u m) ≡ text_unit u ++ 47 ∷ m
unfolding hidden-the_row-Unit-0 hidden
text-Module u m = refl

pieces-list : (c : List ℕ) (s : List (Unit {0})) (r : Row_of-Fill (list_count this s none_left)) (mark : ℕ)
    → pieces r mark ≡ pieces_of (out-Unit (Unit' c s r)).fills mark
unfolding out-Unit out shown-the_row-Fill-1 shown
pieces-list c [] end_of-Fill mark = refl
pieces-list c (x ∷ s) (more_of-Fill h i r) mark = ap (λ l. mark ∷ (h ++ 61 ∷ (text i ++ l))) (pieces-list c s r 44)

closing-list : (c : List ℕ)
    (s : List (Unit {0})) (r : Row_of-Fill (list_count this s none_left))
    → closing r ≡ closing_of (out-Unit (Unit' c s r)).fills
unfolding out-Unit out shown-the_row-Fill-1 shown
closing-list c [] end_of-Fill = refl
closing-list c (x ∷ s) (more_of-Fill h i r) = refl

pub text_unit-out : (u : OfUnit) → text_unit u ≡ (out-Unit u).component
    ++ (pieces_of (out-Unit u).fills 91 ++ closing_of (out-Unit u).fills)
unfolding out-Unit out
text_unit-out (Unit' c s r) = λ k. c ++ (pieces-list c s r 91 k ++ closing-list c s r k)

-- what is written for a module, and for a unit
pub wrote-Module : (i : Ident) (u v : OfUnit) (m m' o o1 o2 o3 : List ℕ) → i ≡ Module u m → v ≡ u → m' ≡ m
    → o1 ≡ o ++ text_unit v → o2 ≡ o1 ++ 47 ∷ [] → o3 ≡ o2 ++ m' → o3 ≡ o ++ text i
wrote-Module i u v m m' o o1 o2 o3 is iu im e1 e2 e3 =
    e3 ∙ (λ k. e2 k ++ im k) ∙ append_assoc o1 (47 ∷ []) m ∙ ap (λ x. x ++ 47 ∷ m) (e1 ∙ ap (λ w. o ++ text_unit w) iu)
    ∙ append_assoc o (text_unit u) (47 ∷ m) ∙ ap (λ t. o ++ t) (sym (ap text is ∙ text-Module u m))

pub wrote-unit : (u : OfUnit) (c o o1 o2 : List ℕ) (l : List Fill) → c ≡ (out-Unit u).component → l ≡ (out-Unit u).fills
    → o1 ≡ o ++ c → o2 ≡ o1 ++ (pieces_of l 91 ++ closing_of l) → o2 ≡ o ++ text_unit u
wrote-unit u c o o1 o2 l ec el e1 e2 =
    e2 ∙ (λ k. e1 k ++ (pieces_of (el k) 91 ++ closing_of (el k)))
    ∙ append_assoc o c (pieces_of (out-Unit u).fills 91 ++ closing_of (out-Unit u).fills)
    ∙ (λ k. o ++ (ec k ++ (pieces_of (out-Unit u).fills 91 ++ closing_of (out-Unit u).fills)))
    ∙ ap (λ t. o ++ t) (sym (text_unit-out u))

pub ruleset text_equations = (text-Module, text_unit-out)

-- ---- reading what was written

-- what follows a name
abbrev IsEnd : List ℕ → Type 0
IsEnd bs = run bs ≡ ([], bs)

run-name : (n rest : List ℕ) → HasNoMark n → IsEnd rest → run (n ++ rest) ≡ (n, rest)
run-name [] rest c e = e
run-name (b ∷ n) rest c e = ap (λ t. cond t ([], b ∷ (n ++ rest)) (run_with b (run (n ++ rest)))) c.0
    ∙ ap (run_with b) (run-name n rest c.1 e)

name-of : (n rest : List ℕ) → HasNoMark n → IsEnd rest → name_of (n ++ rest) ≡ n
name-of n rest c e = ap (λ p. p.0) (run-name n rest c e)

rest-of : (n rest : List ℕ) → HasNoMark n → IsEnd rest → rest_of (n ++ rest) ≡ rest
rest-of n rest c e = ap (λ p. p.1) (run-name n rest c e)

read_hole : (n : ℕ) (h rest : List ℕ) → HasNoMark h → read (suc n) (60 ∷ (h ++ 62 ∷ rest)) ≡ Some (Hole h, rest)
read_hole n h rest c = λ k. after 62 (rest-of h (62 ∷ rest) c refl k)
    (λ r. Some (Hole (name-of h (62 ∷ rest) c refl k), r))

third_of : (a b c d e f g : Bool) → (a || b || c || d || e || f || g) ≡ false → c ≡ false
third_of true b c d e f g h = cc
third_of false true c d e f g h = cc
third_of false false true d e f g h = cc
third_of false false false d e f g h = refl

front-name : (c : List ℕ) (x : ℕ) (rest : List ℕ) → HasNoMark c → (x == 60) ≡ false
    → (front (c ++ x ∷ rest) == 60) ≡ false
front-name [] x rest n e = e
front-name (b ∷ c) x rest n e = third_of (b == 44) (b == 47) (b == 60) (b == 61) (b == 62) (b == 91) (b == 93) n.0

-- the fills of a row
abbrev row_fills : {m : _} → Row_of-Fill m → List Fill
row_fills end_of-Fill = []
row_fills (more_of-Fill h i r) = record { hole = h; ident = i } ∷ row_fills r

-- what reading the text of a row gives
abbrev RowReads : {m : _} → Row_of-Fill m → Type 0
RowReads end_of-Fill = Unit {0}
RowReads (more_of-Fill h i r) = (n : ℕ) → suc (turns i + turns_row r) < n → (rest : List ℕ)
    → read_fills n (h ++ 61 ∷ (text i ++ (pieces r 44 ++ 93 ∷ rest))) ≡ Some
    (record { hole = h; ident = i } ∷ row_fills r, rest)

ends-pieces : {m : _} (r : Row_of-Fill m) (rest : List ℕ) → IsEnd (pieces r 44 ++ 93 ∷ rest)
ends-pieces end_of-Fill rest = refl
ends-pieces (more_of-Fill h i r) rest = refl

-- after a fill
abbrev next : ℕ → List ℕ → Ident → List ℕ → Option (List Fill × List ℕ)
next n h i q = if front q == 44 then push_fill h i (read_fills n (back q)) else after 93 q
    (λ t. Some (record { hole = h; ident = i } ∷ [], t))

read-next : {m : _} (r : Row_of-Fill m) (h : List ℕ) (i : Ident) (n : ℕ) (rest : List ℕ) → turns_row r < n → RowReads r
    → next n h i (pieces r 44 ++ 93 ∷ rest) ≡ Some (record { hole = h; ident = i } ∷ row_fills r, rest)
read-next end_of-Fill h i n rest lt reads = refl
read-next (more_of-Fill h' i' r) h i n rest lt reads =
    let flat : (h' ++ 61 ∷ (text i' ++ pieces r 44)) ++ 93 ∷ rest ≡ h' ++ 61 ∷ (text i' ++ (pieces r 44 ++ 93 ∷ rest)) =
    simp append_assoc in
    ap (λ q. push_fill h i (read_fills n q)) flat ∙ ap (push_fill h i) (reads n lt rest)

read_fills-suc : (n : ℕ) (h t : List ℕ) → HasNoMark h
    → read_fills (suc n) (h ++ 61 ∷ t) ≡ then_read (read n t) (λ i q. next n h i q)
read_fills-suc n h t c = λ k. after 61 (rest-of h (61 ∷ t) c refl k)
    (λ r. then_read (read n r) (λ i q. next n (name-of h (61 ∷ t) c refl k) i q))

read_module-is : (c : List ℕ) (fs : List Fill) (m rest : List ℕ) → HasNoMark m → IsEnd rest
    → read_module c fs (47 ∷ (m ++ rest)) ≡ Some (Module (roll-Unit (record { component = c; fills = fs })) m, rest)
read_module-is c fs m rest cm e = λ k. Some (
  Module (roll-Unit (record { component = c; fills = fs }))
      (name-of m rest cm e k),
  rest-of m rest cm e k,
)

-- after a component
abbrev branch : ℕ → Bool → List ℕ → List ℕ → List ℕ → Option (Ident × List ℕ)
branch n b bs c q =
    if b then after 62 (rest_of (back bs)) (λ r. Some (Hole (name_of (back bs)), r))
    else (if front q == 91 then then_read (read_fills n (back q)) (λ fs r. read_module c fs r) else read_module c [] q)

read-component : (n : ℕ) (c : List ℕ) (x : ℕ) (t : List ℕ) → HasNoMark c → (x == 60) ≡ false → IsEnd (x ∷ t)
    → read (suc n) (c ++ x ∷ t) ≡ branch n false (c ++ x ∷ t) c (x ∷ t)
read-component n c x t cc' e ends = λ k. branch n (front-name c x t cc' e k) (c ++ x ∷ t) (name-of c (x ∷ t) cc' ends k)
    (rest-of c (x ∷ t) cc' ends k)

unit-reads : (c : List ℕ) (s : List (Unit {0})) (r : Row_of-Fill (list_count this s none_left)) → HasNoMark c
    → RowReads r → (m : List ℕ) → HasNoMark m → (n : ℕ) → turns_row r < n → (rest : List ℕ) → IsEnd rest
    → read (suc n) (text_unit (Unit' c s r) ++ 47 ∷ (m ++ rest)) ≡ Some (Module (Unit' c s r) m, rest)
unit-reads c [] end_of-Fill cl reads m cm n lt rest e =
    ap (read (suc n)) (append_assoc c [] (47 ∷ (m ++ rest))) ∙ read-component n c 47 (m ++ rest) cl refl refl
    ∙ read_module-is c [] m rest cm e ∙ ap (λ u. Some (Module u m, rest)) (unit-is c [] end_of-Fill)
unit-reads c (x ∷ s) (more_of-Fill h i r) cl reads m cm n lt rest e =
    let flat : (c ++ ((91 ∷ (h ++ 61 ∷ (text i ++ pieces r 44))) ++ 93 ∷ [])) ++ 47 ∷ (m ++ rest) ≡ c
    ++ 91 ∷ (h ++ 61 ∷ (text i ++ (pieces r 44 ++ 93 ∷ (47 ∷ (m ++ rest))))) = simp append_assoc in
    ap (read (suc n)) flat
    ∙ read-component n c 91 (h ++ 61 ∷ (text i ++ (pieces r 44 ++ 93 ∷ (47 ∷ (m ++ rest))))) cl refl refl
    ∙ ap (λ o. then_read o (λ fs q. read_module c fs q)) (reads n lt (47 ∷ (m ++ rest)))
    ∙ read_module-is c (record { hole = h; ident = i } ∷ row_fills r) m rest cm e
    ∙ ap (λ u. Some (Module u m, rest)) (unit-is c (x ∷ s) (more_of-Fill h i r))

row_step : (h : List ℕ) (i : Ident) {m : _} (r : Row_of-Fill m) (n : ℕ) (rest : List ℕ) → HasNoMark h
    → suc (turns i + turns_row r) < n → RowReads r
    → ((n : ℕ) → turns i < n → (rest : List ℕ) → IsEnd rest → read n (text i ++ rest) ≡ Some (i, rest))
    → read_fills n (h ++ 61 ∷ (text i ++ (pieces r 44 ++ 93 ∷ rest))) ≡ Some
    (record { hole = h; ident = i } ∷ row_fills r, rest)
row_step h i r zero rest c lt tail head = absurd (omega arith)
row_step h i r (suc n) rest c lt tail head =
    read_fills-suc n h (text i ++ (pieces r 44 ++ 93 ∷ rest)) c
    ∙ ap (λ o. then_read o (λ j q. next n h j q)) (head n (omega arith) (pieces r 44 ++ 93 ∷ rest) (ends-pieces r rest))
    ∙ read-next r h i n rest (omega arith) tail

mutual
  reads : (i : Ident) → IsClean i → (n : ℕ) → turns i < n → (rest : List ℕ) → IsEnd rest
      → read n (text i ++ rest) ≡ Some (i, rest)
  reads i c zero lt rest e = absurd (omega arith)
  reads (Hole h) c (suc n) lt rest e = ap (λ t. read (suc n) (60 ∷ t)) (append_assoc h (62 ∷ []) rest)
      ∙ read_hole n h rest c
  reads (Module' s (more_of-Unit u end_of-Unit) m) c (suc n) lt rest e =
      ap (read (suc n)) (append_assoc (text_unit u) (47 ∷ m) rest) ∙ reads_unit u c.0 m c.1 n (omega arith) rest e
      ∙ ap (λ i. Some (i, rest)) (sym (Module-is s u m))

  reads_unit : (u : OfUnit) → IsCleanUnit u → (m : List ℕ) → HasNoMark m → (n : ℕ) → turns_unit u < n → (rest : List ℕ)
      → IsEnd rest → read (suc n) (text_unit u ++ 47 ∷ (m ++ rest)) ≡ Some (Module u m, rest)
  reads_unit (Unit' c s r) cl m cm n lt rest e = unit-reads c s r cl.0 (reads_row r cl.1) m cm n lt rest e

  reads_row : {m : _} (r : Row_of-Fill m) → AreClean r → RowReads r
  reads_row end_of-Fill cl = tt
  reads_row (more_of-Fill h i r) cl = λ n lt rest. row_step h i r n rest cl.0 lt (reads_row r cl.2)
      (λ n' lt' rest' e. reads i cl.1 n' lt' rest' e)

pub text_reads_back : (i : Ident) → IsClean i → (n : ℕ) → turns i < n → read n (text i) ≡ Some (i, [])
text_reads_back i c n lt = ap (read n) (sym (append-nil (text i))) ∙ reads i c n lt [] refl

-- ---- the reader's code

after-front : {A : Type 0} (x : ℕ) (bs : List ℕ) (go : List ℕ → Option A) → 0 < x → (front bs == x) ≡ true
    → after x bs go ≡ go (back bs)
after-front x [] go lt e = grind arith
after-front x (b ∷ bs) go lt e = ap (λ t. cond t (go bs) None) e

after-other : {A : Type 0} (x : ℕ) (bs : List ℕ) (go : List ℕ → Option A) → (front bs == x) ≡ false
    → after x bs go ≡ None
after-other x [] go e = refl
after-other x (b ∷ bs) go e = ap (λ t. cond t (go bs) None) e

-- one fill was read
one-read : (n : ℕ) (bs r1 r2 r3 : List ℕ) (b1 : Bool) (i : Ident) → r1 ≡ rest_of bs → b1 ≡ (front r1 == 61)
    → r2 ≡ cond b1 (back r1) r1 → b1 ≡ true → Some (i, r3) ≡ read n r2
    → read_fills (suc n) bs ≡ next n (name_of bs) i r3
one-read n bs r1 r2 r3 b1 i e1 t e2 b e3 =
    let is : (front (rest_of bs) == 61) ≡ true = ap (λ r. front r == 61) (sym e1) ∙ sym t ∙ b in
    let rest : back (rest_of bs) ≡ r2 = ap back (sym e1) ∙ ap (λ v. cond v (back r1) r1) (sym b) ∙ sym e2 in
    after-front 61 (rest_of bs) (λ r. then_read (read n r) (λ j q. next n (name_of bs) j q)) (omega arith) is
    ∙ ap (λ r. then_read (read n r) (λ j q. next n (name_of bs) j q)) rest
    ∙ ap (λ o. then_read o (λ j q. next n (name_of bs) j q)) (sym e3)

appended-push : (r : Bool) (f0 f1 f2 : List Fill) (r5 : List ℕ) (h : List ℕ) (i : Ident)
    (o : Option (List Fill × List ℕ)) → f1 ≡ f0 ++ record { hole = h; ident = i } ∷ [] → appended r f1 f2 r5 o
    → appended r f0 f2 r5 (push_fill h i o)
appended-push true f0 f1 f2 r5 h i None e a = a
appended-push true f0 f1 f2 r5 h i (Some p) e a = (
  a.0 ∙ ap (λ l. l ++ p.0) e
      ∙ append_assoc f0 (record { hole = h; ident = i } ∷ []) p.0,
  a.1,
)
appended-push false f0 f1 f2 r5 h i None e a = a
appended-push false f0 f1 f2 r5 h i (Some p) e a = cc

pub more-read : (fuel : ℕ) (bs r1 r2 r3 r4 r5 h h' : List ℕ) (b1 b2 r : Bool) (i : Ident) (f0 f1 f2 : List Fill)
    → (fuel ≡ 0 → ⊥) → h ≡ name_of bs → r1 ≡ rest_of bs → b1 ≡ (front r1 == 61) → r2 ≡ cond b1 (back r1) r1 → b1 ≡ true
    → Some (i, r3) ≡ read (fuel - 1) r2 → h' ≡ h → f1 ≡ f0 ++ record { hole = h'; ident = i } ∷ []
    → b2 ≡ (front r3 == 44) → r4 ≡ cond b2 (back r3) r3 → b2 ≡ true → appended r f1 f2 r5 (read_fills (fuel - 1) r4)
    → appended r f0 f2 r5 (read_fills fuel bs)
more-read zero bs r1 r2 r3 r4 r5 h h' b1 b2 r i f0 f1 f2 ne eh e1 t1 e2 s1 e3 eh' ef t2 e4 s2 a = absurd (ne refl)
more-read (suc n) bs r1 r2 r3 r4 r5 h h' b1 b2 r i f0 f1 f2 ne eh e1 t1 e2 s1 e3 eh' ef t2 e4 s2 a =
    let pred : suc n - 1 ≡ n = omega arith in
    let rest : r4 ≡ back r3 = e4 ∙ ap (λ v. cond v (back r3) r3) s2 in
    let is : (front r3 == 44) ≡ true = sym t2 ∙ s2 in
    let name : h' ≡ name_of bs = eh' ∙ eh in
    let reads : read_fills (suc n) bs ≡ push_fill h' i (read_fills n r4) =
    one-read n bs r1 r2 r3 b1 i e1 t1 e2 s1 (e3 ∙ ap (λ m. read m r2) pred)
    ∙ ap (λ t. cond t (push_fill (name_of bs) i (read_fills n (back r3)))
    (after 93 r3 (λ t. Some (record { hole = name_of bs; ident = i } ∷ [], t)))) is
    ∙ (λ k. push_fill (sym name k) i (read_fills n (sym rest k))) in
    subst (λ o. appended r f0 f2 r5 o) (sym reads)
    (appended-push r f0 f1 f2 r5 h' i (read_fills n r4) ef
    (subst (λ m. appended r f1 f2 r5 (read_fills m r4)) pred a))

closed : (b : Bool) (h q r5 : List ℕ) (i : Ident) (f0 f1 : List Fill) → b ≡ (front q == 93) → r5 ≡ cond b (back q) q
    → f1 ≡ f0 ++ record { hole = h; ident = i } ∷ []
    → appended b f0 f1 r5 (after 93 q (λ t. Some (record { hole = h; ident = i } ∷ [], t)))
closed true h q r5 i f0 f1 e r f = subst (λ o. appended true f0 f1 r5 o)
    (sym (after-front 93 q (λ t. Some (record { hole = h; ident = i } ∷ [], t)) (omega arith) (sym e))) (f, r)
closed false h q r5 i f0 f1 e r f = after-other 93 q (λ t. Some (record { hole = h; ident = i } ∷ [], t)) (sym e)

pub last-read : (fuel : ℕ) (bs r1 r2 r3 r4 r5 h h' : List ℕ) (b1 b2 b3 : Bool) (i : Ident) (f0 f1 : List Fill)
    → (fuel ≡ 0 → ⊥) → h ≡ name_of bs → r1 ≡ rest_of bs → b1 ≡ (front r1 == 61) → r2 ≡ cond b1 (back r1) r1 → b1 ≡ true
    → Some (i, r3) ≡ read (fuel - 1) r2 → h' ≡ h → f1 ≡ f0 ++ record { hole = h'; ident = i } ∷ []
    → b2 ≡ (front r3 == 44) → r4 ≡ cond b2 (back r3) r3 → b2 ≡ false → b3 ≡ (front r4 == 93) → r5 ≡ cond b3 (back r4) r4
    → appended b3 f0 f1 r5 (read_fills fuel bs)
last-read zero bs r1 r2 r3 r4 r5 h h' b1 b2 b3 i f0 f1 ne eh e1 t1 e2 s1 e3 eh' ef t2 e4 s2 t3 e5 = absurd (ne refl)
last-read (suc n) bs r1 r2 r3 r4 r5 h h' b1 b2 b3 i f0 f1 ne eh e1 t1 e2 s1 e3 eh' ef t2 e4 s2 t3 e5 =
    let pred : suc n - 1 ≡ n = omega arith in
    let same : r4 ≡ r3 = e4 ∙ ap (λ v. cond v (back r3) r3) s2 in
    let is : (front r3 == 44) ≡ false = sym t2 ∙ s2 in
    let name : h' ≡ name_of bs = eh' ∙ eh in
    let reads : read_fills (suc n) bs ≡ after 93 r4 (λ t. Some (record { hole = h'; ident = i } ∷ [], t)) =
    one-read n bs r1 r2 r3 b1 i e1 t1 e2 s1 (e3 ∙ ap (λ m. read m r2) pred)
    ∙ ap (λ t. cond t (push_fill (name_of bs) i (read_fills n (back r3)))
    (after 93 r3 (λ t. Some (record { hole = name_of bs; ident = i } ∷ [], t)))) is
    ∙ (λ k. after 93 (sym same k) (λ t. Some (record { hole = sym name k; ident = i } ∷ [], t))) in
    subst (λ o. appended b3 f0 f1 r5 o) (sym reads) (closed b3 h' r4 r5 i f0 f1 t3 e5 ef)
