-- What names and variables mean: by the group's unknowns, and by what is known.
use Rattle.std.proofs.Common.{◌≡◌, ℕ, zero, suc, ◌+◌, ◌<◌, ◌≤◌, List, [], ◌∷◌, length, inl, inr, refl, sym, ap, ap₂}
use Rattle.std.proofs.Common.{subst, ◌∙◌, arith}
use Rattle.std.specs.Prelude.{◌↔◌, Result, Ok, Err, IfOk, Option, Some, None}
use Rattle.bp_base.specs.declared.ty.OrigName.{OrigName}
use Rattle.hs_core.specs.Types.{KindTerm, star, arrow, count}
use Rattle.hs_core.specs.Kinds.{TypeDecl, kind_at, Given, IsOutside, within_group}
use Rattle.type_terms.specs.Terms.{var, con}
use Rattle.type_unify.specs.Types.{rigid}
use Rattle.kind_check.specs.Forms.{Guess, code, value, IsForm}
use Rattle.kind_check.specs.Scopes.{Agree, guessed, known_names, decls_of, names_under, variables_under, HasForm}
use Rattle.kind_check.specs.Scopes.{HasNoForm, IsVariableForm, StandsAt, IsKnown, IsUnknown, sense_kind}
use Rattle.kind_check.specs.Walks.{Local}
use Rattle.kind_check.specs.declared.scope.Known.{Known}
use Rattle.kind_check.specs.declared.scope.GroupDecl.{GroupDecl}

-- ---- guesses of several unknowns

pub guessed-agree : (n : ℕ) (g h : Guess) (i m : ℕ) → i + m ≤ n → Agree n g h → guessed g i m ≡ guessed h i m
guessed-agree n g h i zero l a = refl
guessed-agree n g h i (suc m) l a = ap₂ (λ x xs. x ∷ xs) (a i (omega (arith, l)))
    (guessed-agree n g h (suc i) m (omega (arith, l)) a)

pub kind_at-guessed : (g : Guess) (i m j : ℕ) → j < m → kind_at (guessed g i m) j ≡ g (i + j)
kind_at-guessed g i zero j l = absurd (omega (arith, l))
kind_at-guessed g i (suc m) zero l = let e : i ≡ i + 0 = omega arith in ap g e
kind_at-guessed g i (suc m) (suc j) l = let e : suc i + j ≡ i + suc j = omega arith in kind_at-guessed g (suc i) m j
    (omega (arith, l)) ∙ ap g e

pub kind_at-past : (g : Guess) (i m j : ℕ) → m ≤ j → kind_at (guessed g i m) j ≡ star
kind_at-past g i zero j l = refl
kind_at-past g i (suc m) zero l = absurd (omega (arith, l))
kind_at-past g i (suc m) (suc j) l = kind_at-past g (suc i) m j (omega (arith, l))

pub local : (known : List Known) (ds : List GroupDecl) (first m n : ℕ) → count (decls_of ds) ≤ n → first + m ≤ n
    → Local (names_under known ds) (variables_under first m) n
local known ds first m n l p = record {
  named = λ g h a x k e. subst (λ ks. within_group (known_names known) (decls_of ds) ks x k)
      (guessed-agree n g h 0 (count (decls_of ds)) (omega (arith, l)) a) e;
  ranged = λ g h a i. ap (λ ks. kind_at ks i) (guessed-agree n g h first m p a);
}

-- ---- variables

pub variable_in : (first m j : ℕ) → j < m → IsVariableForm first m j (first + m) (var (first + j))
variable_in first m j l = record { form = omega (arith, l); each = λ g. kind_at-guessed g first m j l }

pub variable_past : (first m j : ℕ) → m ≤ j → IsVariableForm first m j (first + m) (con (rigid 0))
variable_past first m j l = record { form = refl; each = λ g. kind_at-past g first m j l }

-- ---- names of the group

pub given_at : (g : Guess) (ds : List TypeDecl) (a i : ℕ) (n : OrigName) → StandsAt ds n i
    → Given ds (guessed g a (count ds)) n (g (a + i))
given_at g [] a i n s = absurd s
given_at g (d ∷ ds) a zero n s = let e : a ≡ a + 0 = omega arith in inl (s, ap g e)
given_at g (d ∷ ds) a (suc i) n s =
    let e : suc a + i ≡ a + suc i = omega arith in inr
    (s.0, subst (λ j. Given ds (guessed g (suc a) (count ds)) n (g j)) e (given_at g ds (suc a) i n s.1))

pub given_inside : (ds : List TypeDecl) (ks : List KindTerm) (n : OrigName) (k : KindTerm) → Given ds ks n k
    → IsOutside ds n → ⊥
given_inside [] ks n k h o = h
given_inside (d ∷ ds) [] n k h o = h
given_inside (d ∷ ds) (j ∷ ks) n k h o = elim h [ inl p ↦ o.0 p.0 | inr r ↦ given_inside ds ks n k r.1 o.1 ]

pub stands_inside : (ds : List TypeDecl) (n : OrigName) (i : ℕ) → StandsAt ds n i → IsOutside ds n → ⊥
stands_inside [] n i s o = s
stands_inside (d ∷ ds) n zero s o = o.0 s
stands_inside (d ∷ ds) n (suc i) s o = stands_inside ds n i s.1 o.1

pub at_given : (g : Guess) (ds : List TypeDecl) (a i : ℕ) (n : OrigName) (k : KindTerm) → StandsAt ds n i
    → Given ds (guessed g a (count ds)) n k → g (a + i) ≡ k
at_given g [] a i n k s h = absurd s
at_given g (d ∷ ds) a zero n k s h =
    let e : a + 0 ≡ a = omega arith in
    elim h [ inl p ↦ ap g e ∙ p.1 | inr r ↦ absurd (r.0 s) ]
at_given g (d ∷ ds) a (suc i) n k s h =
    let e : a + suc i ≡ suc a + i = omega arith in
    elim h [
      | inl p ↦ absurd (s.0 p.0)
      | inr r ↦ ap g e ∙ at_given g ds (suc a) i n k s.1 r.1
    ]

pub group_form : (known : List Known) (ds : List GroupDecl) (n : OrigName) (i : ℕ) → StandsAt (decls_of ds) n i
    → i < count (decls_of ds) → HasForm known ds n (count (decls_of ds)) (var i)
group_form known ds n i s l = let z : 0 + i ≡ i = omega arith in record {
  form = l;
  each = λ g k. (
    λ h. elim h [
      | inl p ↦ ap g (sym z)
          ∙ at_given g (decls_of ds) 0 i n k s p
      | inr o ↦ absurd (stands_inside (decls_of ds) n i s o.0)
    ],
    λ e. inl (subst (Given (decls_of ds) (guessed g 0 (count (decls_of ds))) n) (ap g z ∙ e)
        (given_at g (decls_of ds) 0 i n s)),
  );
}

-- ---- names that are known

pub IsForm-code : (n : ℕ) (k : KindTerm) → IsForm n (code k)
IsForm-code n star = refl
IsForm-code n (arrow j k) = (IsForm-code n j, IsForm-code n k)

pub value-code : (g : Guess) (k : KindTerm) → value g (code k) ≡ k
value-code g star = refl
value-code g (arrow j k) = ap₂ arrow (value-code g j) (value-code g k)

pub known_form : (known : List Known) (ds : List GroupDecl) (n : OrigName) (k : KindTerm) → IsOutside (decls_of ds) n
    → ((j : KindTerm) → known_names known n j ↔ (k ≡ j)) → HasForm known ds n (count (decls_of ds)) (code k)
known_form known ds n k o e = record {
  form = IsForm-code _ k;
  each = λ g j. (
    λ h. elim h [
      | inl p ↦ absurd (given_inside (decls_of ds) (guessed g 0 (count (decls_of ds))) n j p o)
      | inr q ↦ value-code g k ∙ (e j).0 q.1
    ],
    λ v. inr (o, (e j).1 (sym (value-code g k) ∙ v)),
  );
}

pub no_form : (known : List Known) (ds : List GroupDecl) (n : OrigName) → IsOutside (decls_of ds) n
    → ((k : KindTerm) → known_names known n k → ⊥) → HasNoForm known ds n
no_form known ds n o none g k h =
    elim h [ inl p ↦ given_inside (decls_of ds) (guessed g 0 (count (decls_of ds))) n k p o | inr q ↦ none k q.1 ]

pub IfOk-then : {X E : Type 0} {P Q : X → Type 0} → (r : Result X E) → ((x : X) → P x → Q x) → IfOk r P → IfOk r Q
IfOk-then (Ok x) f h = f x h
IfOk-then (Err e) f h = h

pub count-length : {A : Type 0} (xs : List A) → count xs ≡ length xs
count-length [] = refl
count-length (x ∷ xs) = ap suc (count-length xs)

-- ---- searching a list from the front

-- none of the first i is of the name, and so the rest decides
pub record Missed (ds : List GroupDecl) (n : OrigName) (i : ℕ) (rest : List GroupDecl) : Type 0 where
  pub outside : IsOutside (decls_of rest) n → IsOutside (decls_of ds) n
  pub stands : (j : ℕ) → StandsAt (decls_of rest) n j → StandsAt (decls_of ds) n (i + j)

pub missed_here : (ds : List GroupDecl) (n : OrigName) (i : ℕ) (rest tail : List GroupDecl) (d : GroupDecl)
    → rest ≡ d ∷ tail → d.name ≡ n → Missed ds n i rest → StandsAt (decls_of ds) n i
missed_here ds n i rest tail d e is m =
    let z : i + 0 ≡ i = omega arith in subst (StandsAt (decls_of ds) n) z
    (m.stands 0 (subst (λ r. StandsAt (decls_of r) n 0) (sym e) is))

pub missed_more : (ds : List GroupDecl) (n : OrigName) (i : ℕ) (rest tail : List GroupDecl) (d : GroupDecl)
    → rest ≡ d ∷ tail → (d.name ≡ n → ⊥) → Missed ds n i rest → Missed ds n (i + 1) tail
missed_more ds n i rest tail d e not m = record {
  outside = λ o. m.outside (subst (λ r. IsOutside (decls_of r) n) (sym e) (not, o));
  stands = λ j s.
      let z : i + suc j ≡ i + 1 + j = omega arith in subst (StandsAt (decls_of ds) n) z
      (m.stands (suc j) (subst (λ r. StandsAt (decls_of r) n (suc j)) (sym e) (not, s)));
}

pub stands_below : (ds : List TypeDecl) (n : OrigName) (i : ℕ) → StandsAt ds n i → i < count ds
stands_below [] n i s = absurd s
stands_below (d ∷ ds) n zero s = omega arith
stands_below (d ∷ ds) n (suc i) s = let l = stands_below ds n i s.1 in omega (arith, l)

pub some_same : (j k : KindTerm) → Some j ≡ Some k → j ≡ k
some_same j k e = ap inner e
  where
    inner : Option KindTerm → KindTerm
    inner (Some i) = i
    inner None = star
