-- One step of the numbering of fills, and of a module above them.
use Rattle.std.proofs.Common.{◌≡◌, ◌⊎◌, inl, inr, ℕ, ◌+◌, ◌<◌, List, [], ◌∷◌, ◌++◌, length, get_or, take, refl, ap, sym}
use Rattle.std.proofs.Common.{subst, ◌∙◌}
use Rattle.std.specs.Prelude.{slice_get, Some, IfOk}
use Rattle.std.proofs.lemmas.Option.{get_or_from_slice_get, slice_get_within}
use Rattle.std.specs.declared.result.Result.{Result}
use Rattle.std.specs.declared.result.Result.TheVariants.{Ok, Err}
use Rattle.std.proofs.lemmas.List.{append-nil}
use Rattle.bp_base.specs.Texts.{Text}
use Rattle.bp_base.specs.Lists.{Among}
use Rattle.bp_base.specs.declared.ident.Ident.{Ident}
use Rattle.bp_base.specs.declared.ident.Ident.TheVariants.{Hole, Module}
use Rattle.bp_base.specs.declared.ident.Ident.TheViews.{roll-Unit, roll-out-Unit}
use Rattle.bp_base.specs.declared.ident.Unit.{Unit as OfUnit, Unit', out-Unit}
use Rattle.bp_base.specs.declared.ident.Fill.{Fill}
use Rattle.bp_base.specs.declared.ident.Ident.TheBlock.{hidden-the_row-Unit-0, shown-the_row-Fill-1, Row_of-Fill}
use Rattle.bp_base.specs.declared.ident.Ident.TheBlock.{end_of-Fill, more_of-Fill}
use Rattle.bp_base.proofs.SetLemmas.{among-left, among-right, among-either}
use Rattle.ident_table.specs.declared.node.NumberFill.{NumberFill}
use Rattle.ident_table.specs.Parts.{terms_of, terms_below, terms_of_row, terms_in_fills}
use Rattle.ident_table.specs.Numbers.{fills_of, module_of, AreFillsBelow, Grows}
use Rattle.ident_table.proofs.NodeLemmas.{append-append, Grows-again, Grows-longer, below-longer, fills-grown}
use Rattle.ident_table.proofs.WrittenLemmas.{take-next, fills-push}
use mathlib.Core.Former.{list_count, this, none_left}
use denote.Hole.Carrier.{hidden, out, shown}

-- ---- identities below a module

pub terms_of-Module : (u : OfUnit) (m : Text) → terms_of (Module u m) ≡ Module u m ∷ terms_below u
unfolding hidden-the_row-Unit-0 hidden
terms_of-Module u m = refl

terms-row : (c : Text)
    (s : List (Unit {0})) (r : Row_of-Fill (list_count this s none_left))
    → terms_of_row r ≡ terms_in_fills (out-Unit (Unit' c s r)).fills
unfolding out-Unit out shown-the_row-Fill-1 shown
terms-row c [] end_of-Fill = refl
terms-row c (x ∷ s) (more_of-Fill h i r) = ap (λ l. terms_of i ++ l) (terms-row c s r)

pub terms_below-out : (u : OfUnit) → terms_below u ≡ terms_in_fills (out-Unit u).fills
terms_below-out (Unit' c s r) = terms-row c s r

terms-join : (fs gs : List Fill) → terms_in_fills (fs ++ gs) ≡ terms_in_fills fs ++ terms_in_fills gs
terms-join [] gs = refl
terms-join (f ∷ fs) gs = ap (λ l. terms_of f.ident ++ l) (terms-join fs gs)
    ∙ sym (append-append (terms_of f.ident) (terms_in_fills fs) (terms_in_fills gs))

-- ---- the parts of a table

-- what a table has more than an old one stands in this list
abbrev pub Adds : List Ident → List Ident → List Ident → Type 0
Adds old new terms = (t : Ident) → Among t new → Among t old ⊎ Among t terms

Adds-again : (a b c more most : List Ident) → Adds a b more → Adds b c most → Adds a c (more ++ most)
Adds-again a b c more most g h t k = elim (h t k) [
  | inl i ↦
      elim (g t i) [ inl j ↦ inl j | inr j ↦ inr (among-left t more most j) ]
  | inr i ↦ inr (among-right t more most i)
]

-- ---- a hole and a module

terms-of-module : (u : OfUnit) (m : Text) → terms_of (Module u m) ≡ Module u m ∷ terms_in_fills (out-Unit u).fills
terms-of-module u m = terms_of-Module u m ∙ ap (λ l. Module u m ∷ l) (terms_below-out u)

pub hole-parts : {E : Type 0} (r : Result ℕ E) (old new : List Ident) (ident : Ident) (name copy : Text)
    → ident ≡ Hole name → copy ≡ name → ((t : Ident) → Among t new → Among t old ⊎ (Hole copy ≡ t))
    → IfOk r (λ n. Adds old new (terms_of ident))
hole-parts (Err e) old new ident name copy is same h = tt
hole-parts (Ok n) old new ident name copy is same h =
    λ t k. elim (h t k) [
      | inl a ↦ inl a
      | inr a ↦ inr
          (subst (λ i. Among t (terms_of i)) (sym is) (inl (ap Hole (sym same) ∙ a)))
    ]

module-is : (table : List Ident) (u : OfUnit) (m n c : Text) (fs : List Fill) (numbers : List NumberFill)
    → fs ≡ (out-Unit u).fills → c ≡ (out-Unit u).component → n ≡ m → fills_of table numbers ≡ fs
    → module_of table c numbers n ≡ Module u m
module-is table u m n c fs numbers fills component name same =
    (λ w. Module (roll-Unit (record { component = component w; fills = (same ∙ fills) w })) (name w))
    ∙ ap (λ v. Module v m) (roll-out-Unit u)

pub module-parts : {E : Type 0} (r : Result ℕ E) (old table new : List Ident) (ident : Ident) (u : OfUnit)
    (m n c : Text) (fs : List Fill) (numbers : List NumberFill) → ident ≡ Module u m
    → fs ≡ (out-Unit u).fills → c ≡ (out-Unit u).component → n ≡ m → fills_of table numbers ≡ fs
    → Adds old table (terms_in_fills fs)
    → ((t : Ident) → Among t new → Among t table ⊎ (module_of table c numbers n ≡ t))
    → IfOk r (λ k. Adds old new (terms_of ident))
module-parts (Err e) old table new ident u m n c fs numbers is fills component name same before h = tt
module-parts (Ok k) old table new ident u m n c fs numbers is fills component name same before h =
    λ t a. elim (h t a) [
      | inl b ↦ elim (before t b) [
        | inl d ↦ inl d
        | inr d ↦
            inr (by t (inr (subst (λ l. Among t (terms_in_fills l)) fills d)))
      ]
      | inr b ↦
          inr (by t (inl (sym (module-is table u m n c fs numbers fills component name same) ∙ b)))
    ]
  where
    by : (t : Ident) → Among t (Module u m ∷ terms_in_fills (out-Unit u).fills) → Among t (terms_of ident)
    by t d = subst (Among t) (sym (ap terms_of is ∙ terms-of-module u m)) d

-- ---- one more fill

below-push : (n : ℕ) (fs : List NumberFill) (f : NumberFill) → AreFillsBelow n fs → f.ident < n
    → AreFillsBelow n (fs ++ f ∷ [])
below-push n fs f h lt g k = elim (among-either g fs (f ∷ []) k) [
  | inl a ↦ h g a
  | inr a ↦
      elim a [ inl e ↦ subst (λ x. x.ident < n) e lt | inr b ↦ absurd b ]
]

-- the fills that are numbered so far
abbrev pub IsNumbered : List Ident → List Ident → List Fill → List NumberFill → Type 0
IsNumbered first table done numbers = (fills_of table numbers ≡ done) × AreFillsBelow (length table) numbers
    × Grows first table × Adds first table (terms_in_fills done)

pub number-step : (first table new : List Ident) (fs : List Fill) (i : ℕ) (x : Fill) (numbers more : List NumberFill)
    (hole : Text) (n : ℕ) → i < length fs → x ≡ get_or fs i x
    → IsNumbered first table (take i fs) numbers → slice_get new n ≡ Some x.ident → Grows table new
    → Adds table new (terms_of x.ident) → hole ≡ x.hole → more ≡ numbers ++ record { hole = hole; ident = n } ∷ []
    → IsNumbered first new (take (i + 1) fs) more
number-step first table new fs i x numbers more hole n lt is so at grows adds name pushed =
    subst (λ d. IsNumbered first new d more) (sym (take-next fs i x lt is))
    (subst (IsNumbered first new (take i fs ++ x ∷ [])) (sym pushed) done)
  where
    ident : get_or new n (Hole []) ≡ x.ident
    ident = get_or_from_slice_get new n x.ident (Hole []) at

    fills : fills_of new (numbers ++ record { hole = hole; ident = n } ∷ []) ≡ take i fs ++ x ∷ []
    fills =
        fills-push new numbers (record { hole = hole; ident = n })
        ∙ (λ w. (fills-grown table new numbers grows so.1 ∙ so.0) w ++ record { hole = name w; ident = ident w } ∷ [])

    below : AreFillsBelow (length new) (numbers ++ record { hole = hole; ident = n } ∷ [])
    below = below-push (length new) numbers (record { hole = hole; ident = n })
        (below-longer (length table) (length new) numbers (Grows-longer table new grows) so.1)
        (slice_get_within new n x.ident at)

    parts : Adds first new (terms_in_fills (take i fs ++ x ∷ []))
    parts = subst (Adds first new) (sym (terms-join (take i fs) (x ∷ [])
        ∙ ap (λ l. terms_in_fills (take i fs) ++ l) (append-nil (terms_of x.ident))))
        (Adds-again first table new (terms_in_fills (take i fs)) (terms_of x.ident) so.3 adds)

    done : IsNumbered first new (take i fs ++ x ∷ []) (numbers ++ record { hole = hole; ident = n } ∷ [])
    done = (fills, below, Grows-again first table new so.2 grows, parts)
