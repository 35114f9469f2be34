-- Exactly the texts of well formed identities are read.
use Rattle.std.proofs.Common.{◌≡◌, ℕ, suc, ◌+◌, ◌<◌, ◌≤◌, Bool, true, false, cond, ◌&&◌, ◌||◌, ◌==◌, List, [], ◌∷◌}
use Rattle.std.proofs.Common.{◌++◌, inl, inr, ◌⊎◌, length, take, drop, refl, ap, sym, ◌∙◌, subst, length-append, arith}
use Rattle.std.specs.Prelude.{not, IsTrue, Option, Some, None, nat_lt}
use Rattle.std.specs.List.{list_all, slice_split, onto_first}
use Rattle.std.specs.Char.{is_ascii_alphanumeric, is_ascii_uppercase}
use Rattle.bp_base.specs.Texts.{Text}
use Rattle.bp_base.specs.Names.{is_component_name, is_module_name, is_package_name, is_run, is_module_part}
use Rattle.bp_base.specs.Names.{is_name_character, is_executable_part, is_library_or_executable, colon_place}
use Rattle.bp_base.specs.declared.ident.Ident.{Ident}
use Rattle.bp_base.specs.declared.ident.Ident.TheVariants.{Hole, Module'}
use Rattle.bp_base.specs.declared.ident.Unit.{Unit as OfUnit, Unit'}
use Rattle.bp_base.specs.declared.ident.Ident.TheBlock.{end_of-Unit, more_of-Unit, Row_of-Fill, end_of-Fill}
use Rattle.bp_base.specs.declared.ident.Ident.TheBlock.{more_of-Fill}
use Rattle.unit_identity.specs.WellFormed.{well_formed, well_formed_unit, well_formed_row, row_holes, rising}
use Rattle.unit_identity.specs.Text.{text, text_unit, pieces, closing, IsTextOf}
use Rattle.unit_identity.specs.Reading.{is_mark, read, whole, HasNoMark, IsClean, IsCleanUnit, AreClean, turns}
use Rattle.unit_identity.specs.Reading.{turns_unit, turns_row}
use Rattle.std.proofs.lemmas.Bool.{not-true, eqb-true}
use Rattle.unit_identity.proofs.ReadBackLemmas.{text_reads_back}

both : (a b : Bool) → IsTrue (a && b) → IsTrue a × IsTrue b
both true b h = (refl, h)
both false b h = absurd (cc)

-- ---- names hold no mark

-- what holds of each byte of each part, and of each separator, holds of each byte
abbrev AllBytes : (ℕ → Bool) → List Text → Type 0
AllBytes q [] = Unit {0}
AllBytes q (part ∷ parts) = IsTrue (list_all q part) × AllBytes q parts

joined-first : (q : ℕ → Bool) (x : ℕ) (parts : List Text) → AllBytes q (onto_first x parts)
    → IsTrue (q x) × AllBytes q parts
joined-first q x [] h = (let p = both (q x) (list_all q []) h.0 in p.0, tt)
joined-first q x (part ∷ parts) h = let p = both (q x) (list_all q part) h.0 in (p.0, (p.1, h.1))

split-bytes : (q sep : ℕ → Bool) → ((x : ℕ) → sep x ≡ true → IsTrue (q x)) → (t : Text) → AllBytes q (slice_split sep t)
    → IsTrue (list_all q t)
split-bytes q sep k [] h = refl
split-bytes q sep k (x ∷ xs) h = go (sep x) refl h (λ p. split-bytes q sep k xs p)
  where
    all : IsTrue (q x) → IsTrue (list_all q xs) → IsTrue (q x && list_all q xs)
    all a b = cc

    go : (b : Bool) → sep x ≡ b → AllBytes q (cond b ([] ∷ slice_split sep xs) (onto_first x (slice_split sep xs)))
        → (AllBytes q (slice_split sep xs) → IsTrue (list_all q xs)) → IsTrue (q x && list_all q xs)
    go true e p rest = all (k x e) (rest p.1)
    go false e p rest = let r = joined-first q x (slice_split sep xs) p in all r.0 (rest r.1)

mapped-all : (p q : ℕ → Bool) → ((b : ℕ) → IsTrue (p b) → IsTrue (q b)) → (t : Text) → IsTrue (list_all p t)
    → IsTrue (list_all q t)
mapped-all p q k [] h = refl
mapped-all p q k (b ∷ bs) h =
    let r = both (p b) (list_all p bs) h in
    let a = k b r.0 in
    let c = mapped-all p q k bs r.1 in cc

parts-bytes : (ok : Text → Bool) (q : ℕ → Bool) → ((t : Text) → IsTrue (ok t) → IsTrue (list_all q t))
    → (parts : List Text) → IsTrue (list_all ok parts) → AllBytes q parts
parts-bytes ok q k [] h = tt
parts-bytes ok q k (part ∷ parts) h = let r = both (ok part) (list_all ok parts) h in
    (k part r.0, parts-bytes ok q k parts r.1)

-- not a mark
abbrev plain : ℕ → Bool
plain b = not (is_mark b)

unlike : (f : ℕ → Bool) (m b : ℕ) → f m ≡ false → IsTrue (f b) → (b == m) ≡ false
unlike f m b other h = go (b == m) refl
  where
    go : (c : Bool) → (b == m) ≡ c → c ≡ false
    go true e = absurd (let s = eqb-true b m e in let t : f m ≡ true = subst (λ x. f x ≡ true) s h in cc)
    go false e = refl

plain-where : (f : ℕ → Bool) → f 44 ≡ false → f 47 ≡ false → f 60 ≡ false → f 61 ≡ false → f 62 ≡ false → f 91 ≡ false
    → f 93 ≡ false → (b : ℕ) → IsTrue (f b) → IsTrue (plain b)
plain-where f a b c d e g h n t =
    ap not (λ k. unlike f 44 n a t k || unlike f 47 n b t k || unlike f 60 n c t k || unlike f 61 n d t k || unlike f 62
    n e t k || unlike f 91 n g t k || unlike f 93 n h t k)

alphanumeric-plain : (b : ℕ) → IsTrue (is_ascii_alphanumeric b) → IsTrue (plain b)
alphanumeric-plain = plain-where is_ascii_alphanumeric refl refl refl refl refl refl refl

character-plain : (b : ℕ) → IsTrue (is_name_character b) → IsTrue (plain b)
unfolding is_name_character
character-plain = plain-where is_name_character refl refl refl refl refl refl refl

capital-plain : (b : ℕ) → IsTrue (is_ascii_uppercase b) → IsTrue (plain b)
capital-plain = plain-where is_ascii_uppercase refl refl refl refl refl refl refl

run-plain : (t : Text) → IsTrue (is_run t) → IsTrue (list_all plain t)
unfolding is_run
run-plain t h = let r = both (nat_lt 0 (length t)) (list_all is_ascii_alphanumeric t) h in
    mapped-all is_ascii_alphanumeric plain alphanumeric-plain t r.1

part-plain : (t : Text) → IsTrue (is_module_part t) → IsTrue (list_all plain t)
part-plain [] h = refl
part-plain (b ∷ bs) h =
    let r = both (is_ascii_uppercase b) (list_all is_name_character bs) h in
    let a = capital-plain b r.0 in
    let c = mapped-all is_name_character plain character-plain bs r.1 in cc

at-plain : (m : ℕ) → IsTrue (plain m) → (x : ℕ) → (x == m) ≡ true → IsTrue (plain x)
at-plain m h x e = subst (λ y. IsTrue (plain y)) (sym (eqb-true x m e)) h

package-plain : (t : Text) → IsTrue (is_package_name t) → IsTrue (list_all plain t)
unfolding is_package_name
package-plain t h = split-bytes plain (λ b. b == 45) (λ x e. at-plain 45 refl x e) t
    (parts-bytes is_run plain run-plain (slice_split (λ b. b == 45) t) h)

module-plain : (t : Text) → IsTrue (is_module_name t) → IsTrue (list_all plain t)
unfolding is_module_name
module-plain t h = split-bytes plain (λ b. b == 46) (λ x e. at-plain 46 refl x e) t
    (parts-bytes is_module_part plain part-plain (slice_split (λ b. b == 46) t) h)

cons-plain : (x : ℕ) (xs : Text) → IsTrue (plain x) → IsTrue (list_all plain xs) → IsTrue (list_all plain (x ∷ xs))
cons-plain x xs a c = cc

executable-plain : (t : Text) → IsTrue (is_executable_part t) → IsTrue (list_all plain t)
executable-plain [] h = absurd (cc)
executable-plain (a ∷ []) h = absurd (cc)
executable-plain (a ∷ b ∷ []) h = absurd (cc)
executable-plain (a ∷ b ∷ c ∷ []) h = absurd (cc)
executable-plain (a ∷ b ∷ c ∷ d ∷ rest) h =
    let p = both ((a == 101) && (b == 120) && (c == 101) && (d == 58)) (is_package_name rest) h in
    let q = both ((a == 101) && (b == 120) && (c == 101)) (d == 58) p.0 in
    let r = both ((a == 101) && (b == 120)) (c == 101) q.0 in
    let s = both (a == 101) (b == 120) r.0 in
    cons-plain a (b ∷ c ∷ d ∷ rest) (at-plain 101 refl a s.0) (cons-plain b (c ∷ d ∷ rest) (at-plain 120 refl b s.1)
    (cons-plain c (d ∷ rest) (at-plain 101 refl c r.1)
    (cons-plain d rest (at-plain 58 refl d q.1) (package-plain rest p.1))))

either : (a b : Bool) → IsTrue (a || b) → IsTrue a ⊎ IsTrue b
either true b h = inl refl
either false b h = inr h

second-plain : (t : Text) → IsTrue (is_library_or_executable t) → IsTrue (list_all plain t)
second-plain t h = elim (either (is_package_name t) (is_executable_part t) h) [
  | inl p ↦ package-plain t p
  | inr p ↦
      executable-plain t p
]

take-more : (n x : ℕ) (xs : Text) → take (1 + n) (x ∷ xs) ≡ x ∷ take n xs
take-more n x xs = let e : 1 + n ≡ suc n = omega arith in ap (λ m. take m (x ∷ xs)) e

drop-more : (n x : ℕ) (xs : Text) → drop (1 + n + 1) (x ∷ xs) ≡ drop (n + 1) xs
drop-more n x xs = let e : 1 + n + 1 ≡ suc (n + 1) = omega arith in ap (λ m. drop m (x ∷ xs)) e

-- what stands before the colon, the colon, and what stands after it
colon-plain : (t : Text) → IsTrue (list_all plain (take (colon_place t) t))
    → (colon_place t ≡ length t) ⊎ IsTrue (list_all plain (drop (colon_place t + 1) t)) → IsTrue (list_all plain t)
colon-plain [] h k = refl
colon-plain (x ∷ xs) h k = go (x == 58) refl h k (λ p q. colon-plain xs p q)
  where
    place : Bool → ℕ
    place b = cond (not b) (1 + colon_place xs) 0

    go : (b : Bool) → (x == 58) ≡ b → IsTrue (list_all plain (take (place b) (x ∷ xs)))
        → (place b ≡ length (x ∷ xs)) ⊎ IsTrue (list_all plain (drop (place b + 1) (x ∷ xs)))
        → (IsTrue (list_all plain (take (colon_place xs) xs))
        → (colon_place xs ≡ length xs) ⊎ IsTrue (list_all plain (drop (colon_place xs + 1) xs))
        → IsTrue (list_all plain xs))
        → IsTrue (list_all plain (x ∷ xs))
    go true e h (inl p) rest = absurd (omega (arith, p))
    go true e h (inr p) rest = cons-plain x xs (at-plain 58 refl x e) p
    go false e h (inl p) rest = let r = both (plain x) (list_all plain (take (colon_place xs) xs))
        (subst (λ t. IsTrue (list_all plain t)) (take-more (colon_place xs) x xs) h) in
        cons-plain x xs r.0 (rest r.1 (inl (omega (arith, p))))
    go false e h (inr p) rest = let r = both (plain x) (list_all plain (take (colon_place xs) xs))
        (subst (λ t. IsTrue (list_all plain t)) (take-more (colon_place xs) x xs) h) in
        cons-plain x xs r.0 (rest r.1 (inr (subst (λ t. IsTrue (list_all plain t))
        (drop-more (colon_place xs) x xs) p)))

component-plain : (t : Text) → IsTrue (is_component_name t) → IsTrue (list_all plain t)
unfolding is_component_name
component-plain t h =
    let p = both (is_package_name (take (colon_place t) t))
    ((colon_place t == length t) || is_library_or_executable (drop (colon_place t + 1) t)) h in
    colon-plain t (package-plain (take (colon_place t) t) p.0)
    (elim (either (colon_place t == length t) (is_library_or_executable (drop (colon_place t + 1) t)) p.1) [
      | inl e ↦ inl (eqb-true (colon_place t) (length t) e)
      | inr s ↦ inr (second-plain (drop (colon_place t + 1) t) s)
    ])

HasNoMark-plain : (bs : Text) → IsTrue (list_all plain bs) → HasNoMark bs
HasNoMark-plain [] h = tt
HasNoMark-plain (b ∷ bs) h = let p = both (plain b) (list_all plain bs) h in
    (not-true (is_mark b) p.0, HasNoMark-plain bs p.1)

module-clean : (t : Text) → IsTrue (is_module_name t) → HasNoMark t
module-clean t h = HasNoMark-plain t (module-plain t h)

component-clean : (t : Text) → IsTrue (is_component_name t) → HasNoMark t
component-clean t h = HasNoMark-plain t (component-plain t h)

-- ---- no name of a well formed identity holds a mark

mutual
  ident-clean : (i : Ident) → IsTrue (well_formed i) → IsClean i
  ident-clean (Hole n) h = module-clean n h
  ident-clean (Module' s (more_of-Unit u end_of-Unit) m) h = let p = both (well_formed_unit u) (is_module_name m) h in
      (unit-clean u p.0, module-clean m p.1)

  unit-clean : (u : OfUnit) → IsTrue (well_formed_unit u) → IsCleanUnit u
  unit-clean (Unit' c s r) h =
      let p = both (is_component_name c && well_formed_row r) (rising (row_holes r)) h in
      let q = both (is_component_name c) (well_formed_row r) p.0 in (component-clean c q.0, row-clean r q.1)

  row-clean : {m : _} (r : Row_of-Fill m) → IsTrue (well_formed_row r) → AreClean r
  row-clean end_of-Fill h = tt
  row-clean (more_of-Fill n i r) h =
      let p = both (is_module_name n && well_formed i) (well_formed_row r) h in
      let q = both (is_module_name n) (well_formed i) p.0 in
      (module-clean n q.0, ident-clean i q.1, row-clean r p.1)

-- ---- the bytes are turns enough

mutual
  turns-text : (i : Ident) → turns i ≤ length (text i)
  turns-text (Hole n) = omega arith
  turns-text (Module' s (more_of-Unit u end_of-Unit) m) = let h = turns_unit-text u in
      omega (arith, length-append (text_unit u) (47 ∷ m), h)

  turns_unit-text : (u : OfUnit) → turns_unit u ≤ length (text_unit u)
  turns_unit-text (Unit' c s r) = let h = turns_row-text r 91 in
      omega (arith, h, length-append c (pieces r 91 ++ closing r), length-append (pieces r 91) (closing r))

  turns_row-text : {m : _} (r : Row_of-Fill m) (mark : ℕ) → turns_row r ≤ length (pieces r mark)
  turns_row-text end_of-Fill mark = omega arith
  turns_row-text (more_of-Fill h i r) mark =
      let a = turns-text i in let b = turns_row-text r 44 in
      omega (arith, a, b, length-append h (61 ∷ (text i ++ pieces r 44)), length-append (text i) (pieces r 44))

-- the text of an identity is read as that identity
pub reads-text : (bs : List ℕ) (i : Ident) → IsTextOf bs i → whole (read (length bs + 1) bs) ≡ Some i
reads-text bs i h =
    let few : turns i < length (text i) + 1 = omega (arith, turns-text i) in
    subst (λ t. whole (read (length t + 1) t) ≡ Some i) h.1
    (ap whole (text_reads_back i (ident-clean i h.0) (length (text i) + 1) few))

pub none-read : (bs : List ℕ) (r : Option Ident) → r ≡ whole (read (length bs + 1) bs) → r ≡ None → (i : Ident)
    → IsTextOf bs i → ⊥
none-read bs r e n i h = let s = reads-text bs i h in cc

pub other-read : (bs : List ℕ) (r : Option Ident) (j : Ident) → r ≡ whole (read (length bs + 1) bs) → r ≡ Some j
    → (IsTextOf bs j → ⊥) → (i : Ident) → IsTextOf bs i → ⊥
other-read bs r j e n refused i h = let s : Some i ≡ Some j = sym (reads-text bs i h) ∙ sym e ∙ n in
    let k : i ≡ j = cc in refused (subst (IsTextOf bs) k h)

pub untrue : (b : Bool) → b ≡ false → IsTrue b → ⊥
untrue b f t = cc

pub one-spelling : (i j : Ident) → IsTrue (well_formed i) → IsTrue (well_formed j) → text i ≡ text j → i ≡ j
one-spelling i j wi wj e =
    let a = reads-text (text j) i (wi, e) in
    let b = reads-text (text j) j (wj, refl) in
    let s : Some i ≡ Some j = sym a ∙ b in cc
