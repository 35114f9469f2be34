-- Uses of type declarations, number by number.
use Rattle.std.proofs.Common.{◌≡◌, ℕ, zero, suc, ◌+◌, ◌<◌, Bool, true, false, not, ◌||◌, List, [], ◌∷◌}
use Rattle.std.proofs.Common.{◌++◌, length}
use Rattle.std.proofs.Common.{get_or, take, inl, inr, refl, sym, ap, ap₂, subst, ◌∙◌, arith, nat_eq, ◌&&◌}
use Rattle.std.proofs.Common.{true≢false}
use Rattle.std.proofs.Common.{◌⊎◌, eqb-true, eq-eqb}
use Rattle.std.specs.Prelude.{map, flat_map, filter, Some, None, slice_get, option_to_list}
use Rattle.std.specs.List.{list_any}
use Rattle.std.proofs.lemmas.List.{append-nil, append_assoc, length-map}
use Rattle.std.proofs.lemmas.Grind.{flat_map-append}
use Rattle.bp_base.specs.Lists.{Among}
use Rattle.bp_base.specs.Texts.{Text}
use Rattle.bp_base.specs.declared.ty.OrigName.{OrigName}
use Rattle.type_terms.specs.Terms.{con, app}
use Rattle.hs_core.specs.declared.tree.Written.{Written}
use Rattle.hs_core.specs.declared.tree.Written.TheVariants.{WVar, WCon, WApp}
use Rattle.hs_core.specs.declared.tree.ConDecl.{ConDecl}
use Rattle.hs_core.specs.declared.group.UseList.{UseList}
use Rattle.hs_core.specs.Types.{TypeTerm, written_term}
use Rattle.hs_core.specs.Kinds.{TypeDecl}
use Rattle.hs_core.specs.Sameness.{same_original}
use Rattle.hs_core.proofs.SamenessLemmas.{original_itself, original_same}
use Rattle.hs_core.specs.Groups.{InRange}
use Rattle.hs_core.specs.WellTyped.{number_of, numbers_once, names_in, type_uses, meaning_types, chosen, field_terms}
use Rattle.kind_check.specs.declared.scope.GroupDecl.{GroupDecl}
use Rattle.kind_check.specs.Scopes.{decls_of, meaning_of}
use Rattle.kind_check.specs.declared.scope.Says.{Says}
use Rattle.kind_check.specs.declared.scope.Says.TheVariants.{Fields, Synonym}
use Rattle.kind_check.proofs.ArmLemmas.{written_app}
use Rattle.kind_check.proofs.LoopLemmas.{flat_next}
use Rattle.type_groups.specs.Uses.{with_number, with_numbers, uses_in, use_list}

-- ---- the number of a name

-- a name that differs from the first declaration's has the number that it has behind it
pub number_past : (i : ℕ) (rest tail : List GroupDecl) (d : GroupDecl) (n : OrigName) → rest ≡ d ∷ tail
    → (d.name ≡ n → ⊥) → number_of i (decls_of rest) n ≡ number_of (i + 1) (decls_of tail) n
number_past i rest tail d n is other =
    let s : suc i ≡ i + 1 = omega arith in
    ap (λ r. number_of i (decls_of r) n) is ∙ past (same_original d.name n) refl
    ∙ ap (λ j. number_of j (decls_of tail) n) s
  where
    past : (b : Bool) → same_original d.name n ≡ b
        → number_of i (decls_of (d ∷ tail)) n ≡ number_of (suc i) (decls_of tail) n
    past true p = absurd (other (original_same d.name n p))
    past false p = rw p refl

pub number_here : (i : ℕ) (rest tail : List GroupDecl) (d : GroupDecl) (n : OrigName) → rest ≡ d ∷ tail → d.name ≡ n
    → number_of i (decls_of rest) n ≡ i ∷ []
number_here i rest tail d n is same =
    let t : same_original d.name n ≡ true = ap (same_original d.name) (sym same) ∙ original_itself d.name in
    ap (λ r. number_of i (decls_of r) n) is ∙ rw t refl

-- ---- numbers that join

pub with_numbers-append : (ns ms ks : List ℕ) → with_numbers ns (ms ++ ks) ≡ with_numbers (with_numbers ns ms) ks
with_numbers-append ns [] ks = refl
with_numbers-append ns (m ∷ ms) ks = with_numbers-append (with_number ns m) ms ks

pub uses_in-append : (ds : List TypeDecl) (ts us : List TypeTerm)
    → uses_in ds (ts ++ us) ≡ uses_in ds ts ++ uses_in ds us
uses_in-append ds ts us =
    ap (flat_map (number_of 0 ds)) (flat_map-append names_in ts us)
    ∙ flat_map-append (number_of 0 ds) (flat_map names_in ts) (flat_map names_in us)

-- first these types, then those
pub joined : (ds : List TypeDecl) (ts us : List TypeTerm) (old mid new : List ℕ)
    → mid ≡ with_numbers old (uses_in ds ts) → new ≡ with_numbers mid (uses_in ds us)
    → new ≡ with_numbers old (uses_in ds (ts ++ us))
joined ds ts us old mid new e f =
    f ∙ ap (λ x. with_numbers x (uses_in ds us)) e ∙ sym (with_numbers-append old (uses_in ds ts) (uses_in ds us))
    ∙ sym (ap (with_numbers old) (uses_in-append ds ts us))

uses_name : (ds : List TypeDecl) (n : OrigName) → uses_in ds (con n ∷ []) ≡ number_of 0 ds n
uses_name ds n = append-nil (number_of 0 ds n)

pub name_found : (ds : List TypeDecl) (ps : List Text) (w : Written) (n : OrigName) (i : ℕ) (old new : List ℕ)
    → w ≡ WCon n → number_of 0 ds n ≡ i ∷ [] → new ≡ with_number old i
    → new ≡ with_numbers old (uses_in ds (written_term ps w ∷ []))
name_found ds ps w n i old new e f g =
    g ∙ sym (ap (with_numbers old) (ap (λ x. uses_in ds (written_term ps x ∷ [])) e ∙ uses_name ds n ∙ f))

pub name_none : (ds : List TypeDecl) (ps : List Text) (w : Written) (n : OrigName) (old : List ℕ) → w ≡ WCon n
    → number_of 0 ds n ≡ [] → old ≡ with_numbers old (uses_in ds (written_term ps w ∷ []))
name_none ds ps w n old e f =
    sym (ap (with_numbers old) (ap (λ x. uses_in ds (written_term ps x ∷ [])) e ∙ uses_name ds n ∙ f))

pub variable_none : (ds : List TypeDecl) (ps : List Text) (w : Written) (x : Text) (old : List ℕ) → w ≡ WVar x
    → old ≡ with_numbers old (uses_in ds (written_term ps w ∷ []))
variable_none ds ps w x old e = sym (ap (λ y. with_numbers old (uses_in ds (written_term ps y ∷ []))) e)

uses_app : (ds : List TypeDecl) (f a : TypeTerm) → uses_in ds (app f a ∷ []) ≡ uses_in ds (f ∷ a ∷ [])
uses_app ds f a =
    ap (flat_map (number_of 0 ds))
    (append-nil (names_in f ++ names_in a) ∙ ap (λ x. names_in f ++ x) (sym (append-nil (names_in a))))

pub parts_used : (ds : List TypeDecl) (ps : List Text) (w f a g b : Written) (old mid new : List ℕ) → w ≡ WApp f a
    → g ≡ f → b ≡ a → mid ≡ with_numbers old (uses_in ds (written_term ps g ∷ []))
    → new ≡ with_numbers mid (uses_in ds (written_term ps b ∷ []))
    → new ≡ with_numbers old (uses_in ds (written_term ps w ∷ []))
parts_used ds ps w f a g b old mid new e p q x y =
    joined ds (written_term ps g ∷ []) (written_term ps b ∷ []) old mid new x y
    ∙ ap (with_numbers old)
    (ap₂ (λ i j. uses_in ds (written_term ps i ∷ written_term ps j ∷ [])) p q
    ∙ sym (uses_app ds (written_term ps f) (written_term ps a))
    ∙ sym (ap (λ t. uses_in ds (t ∷ [])) (ap (written_term ps) e ∙ written_app ps f a)))

-- ---- each number once

-- the number is none of these
abbrev is_other : List ℕ → ℕ → Bool
is_other ms n = not (list_any (λ m. nat_eq m n) ms)

-- two tests one after the other are both at once
filter-both : (p q r : ℕ → Bool) (ns : List ℕ) → ((n : ℕ) → r n ≡ (q n && p n)) → filter p (filter q ns) ≡ filter r ns
filter-both p q r [] h = refl
filter-both p q r (n ∷ ns) h = go (q n) (p n) refl refl (filter-both p q r ns h)
  where
    go : (a b : Bool) → q n ≡ a → p n ≡ b → filter p (filter q ns) ≡ filter r ns
        → filter p (filter q (n ∷ ns)) ≡ filter r (n ∷ ns)
    go true true e f x =
        let k : r n ≡ true = h n ∙ ap₂ ◌&&◌ e f in rw (e, f, k) (ap (λ z. n ∷ z) x)
    go true false e f x =
        let k : r n ≡ false = h n ∙ ap₂ ◌&&◌ e f in rw (e, f, k) x
    go false b e f x =
        let k : r n ≡ false = h n ∙ ap (λ z. z && p n) e in rw (e, k) x

eq-sym : (m n : ℕ) → nat_eq m n ≡ nat_eq n m
eq-sym m n = go (nat_eq n m) refl
  where
    go : (b : Bool) → nat_eq n m ≡ b → nat_eq m n ≡ nat_eq n m
    go true e = let x = eqb-true n m e in eq-eqb m n (sym x) ∙ sym e
    go false e = other (nat_eq m n) refl
      where
        other : (b : Bool) → nat_eq m n ≡ b → nat_eq m n ≡ nat_eq n m
        other true f = absurd (true≢false (sym (eq-eqb n m (sym (eqb-true m n f))) ∙ e))
        other false f = f ∙ sym e

any-push : (ns : List ℕ) (m n : ℕ) → list_any (λ x. nat_eq x n) (ns ++ m ∷ [])
    ≡ (list_any (λ x. nat_eq x n) ns || nat_eq m n)
any-push [] m n = end (nat_eq m n)
  where
    end : (b : Bool) → (b || false) ≡ (false || b)
    end true = refl
    end false = refl
any-push (k ∷ ns) m n =
    ap (λ b. nat_eq k n || b) (any-push ns m n) ∙ turn (nat_eq k n) (list_any (λ x. nat_eq x n) ns) (nat_eq m n)
  where
    turn : (a b c : Bool) → (a || (b || c)) ≡ ((a || b) || c)
    turn true b c = refl
    turn false b c = refl

other-push : (ns : List ℕ) (m n : ℕ) → is_other (ns ++ m ∷ []) n ≡ (not (nat_eq n m) && is_other ns n)
other-push ns m n =
    ap not (any-push ns m n) ∙ turn (list_any (λ x. nat_eq x n) ns) (nat_eq m n)
    ∙ ap (λ b. not b && is_other ns n) (eq-sym m n)
  where
    turn : (a b : Bool) → not (a || b) ≡ (not b && not a)
    turn true true = refl
    turn true false = refl
    turn false true = refl
    turn false false = refl

-- a number that is one of them is told apart already
other-met : (ns : List ℕ) (m n : ℕ) → list_any (λ x. nat_eq x m) ns ≡ true
    → is_other ns n ≡ (not (nat_eq n m) && is_other ns n)
other-met ns m n met = go (nat_eq n m) refl
  where
    go : (b : Bool) → nat_eq n m ≡ b → is_other ns n ≡ (not (nat_eq n m) && is_other ns n)
    go true e = let x = eqb-true n m e in
        ap not (ap (λ k. list_any (λ y. nat_eq y k) ns) x ∙ met) ∙ sym (ap (λ b. not b && is_other ns n) e)
    go false e = sym (ap (λ b. not b && is_other ns n) e)

-- numbers that join are those that are new, each once
pub with_numbers-once : (ns ms : List ℕ) → with_numbers ns ms ≡ ns ++ filter (is_other ns) (numbers_once ms)
with_numbers-once ns [] = sym (append-nil ns)
with_numbers-once ns (m ∷ ms) =
    go (list_any (λ x. nat_eq x m) ns) refl (with_numbers-once (with_number ns m) ms)
  where
    rest : List ℕ
    rest = numbers_once ms

    go : (b : Bool) → list_any (λ x. nat_eq x m) ns ≡ b
        → with_numbers (with_number ns m) ms ≡ with_number ns m ++ filter (is_other (with_number ns m)) rest
        → with_numbers (with_number ns m) ms
        ≡ ns ++ filter (is_other ns) (m ∷ filter (λ x. not (nat_eq x m)) rest)
    go true e h =
        let w : with_number ns m ≡ ns = rw e refl in
        h ∙ ap (λ x. x ++ filter (is_other x) rest) w
        ∙ ap (λ x. ns ++ x)
        (sym (filter-both (is_other ns) (λ x. not (nat_eq x m)) (is_other ns) rest (λ n. other-met ns m n e))
        ∙ sym (skip (filter (λ x. not (nat_eq x m)) rest) (ap not e)))
      where
        skip : (xs : List ℕ) → is_other ns m ≡ false → filter (is_other ns) (m ∷ xs) ≡ filter (is_other ns) xs
        skip xs f = rw f refl
    go false e h =
        let w : with_number ns m ≡ ns ++ m ∷ [] = rw e refl in
        h ∙ ap (λ x. x ++ filter (is_other x) rest) w
        ∙ append_assoc ns (m ∷ []) (filter (is_other (ns ++ m ∷ [])) rest)
        ∙ ap (λ x. ns ++ x)
        (ap (λ x. m ∷ x)
        (sym (filter-both (is_other ns) (λ x. not (nat_eq x m)) (is_other (ns ++ m ∷ [])) rest
        (λ n. other-push ns m n)))
        ∙ sym (keep (filter (λ x. not (nat_eq x m)) rest) (ap not e)))
      where
        keep : (xs : List ℕ) → is_other ns m ≡ true → filter (is_other ns) (m ∷ xs) ≡ m ∷ filter (is_other ns) xs
        keep xs f = rw f refl

-- numbers that join nothing
pub once_alone : (ms : List ℕ) → with_numbers [] ms ≡ numbers_once ms
once_alone ms = with_numbers-once [] ms ∙ all (numbers_once ms)
  where
    all : (ns : List ℕ) → filter (is_other []) ns ≡ ns
    all [] = refl
    all (n ∷ ns) = ap (λ xs. n ∷ xs) (all ns)

-- what a declaration says
pub fields_used : (ds : List TypeDecl) (says : Says) (cs : List ConDecl) (old new : List ℕ) → says ≡ Fields cs
    → ((ps : List Text) → new ≡ with_numbers old (uses_in ds (flat_map (field_terms ps) cs)))
    → (ps : List Text) → new ≡ with_numbers old (uses_in ds (meaning_types (meaning_of ps says)))
fields_used ds says cs old new e h ps =
    h ps ∙ sym (ap (λ s. with_numbers old (uses_in ds (meaning_types (meaning_of ps s)))) e)

pub body_used : (ds : List TypeDecl) (says : Says) (b : Written) (old new : List ℕ) → says ≡ Synonym b
    → ((ps : List Text) → new ≡ with_numbers old (uses_in ds (written_term ps b ∷ [])))
    → (ps : List Text) → new ≡ with_numbers old (uses_in ds (meaning_types (meaning_of ps says)))
body_used ds says b old new e h ps =
    h ps ∙ sym (ap (λ s. with_numbers old (uses_in ds (meaning_types (meaning_of ps s)))) e)

pub uses_once : (ds : List TypeDecl) (d : GroupDecl) (old new : List ℕ) → old ≡ []
    → ((ps : List Text) → new ≡ with_numbers old (uses_in ds (meaning_types (meaning_of ps d.says))))
    → record { uses = new } ≡ use_list ds d
uses_once ds d old new e h =
    ap (λ ns. record { uses = ns }) (h d.params
    ∙ ap (λ x. with_numbers x (uses_in ds (meaning_types (meaning_of d.params d.says)))) e
    ∙ once_alone (uses_in ds (meaning_types (meaning_of d.params d.says))))

pub uses_are : (ds : List GroupDecl) → map (use_list (decls_of ds)) ds ≡ type_uses (decls_of ds)
uses_are ds = go (decls_of ds) ds
  where
    go : (all : List TypeDecl) (es : List GroupDecl) → map (use_list all) es
        ≡ map (λ d. record { uses = numbers_once (uses_in all (meaning_types d.meaning)) }) (decls_of es)
    go all [] = refl
    go all (e ∷ es) = ap (λ xs. use_list all e ∷ xs) (go all es)

-- ---- numbers are those of declarations

number_below : (i : ℕ) (ds : List TypeDecl) (n : OrigName) (w : ℕ) → Among w (number_of i ds n) → w < i + length ds
number_below i [] n w h = absurd h
number_below i (d ∷ ds) n w h = go (same_original d.name n) refl (number_below (suc i) ds n w)
  where
    go : (b : Bool) → same_original d.name n ≡ b → (Among w (number_of (suc i) ds n) → w < suc i + length ds)
        → w < i + length (d ∷ ds)
    go true p rest =
        let q : number_of i (d ∷ ds) n ≡ i ∷ [] = rw p refl in here (subst (Among w) q h)
      where
        here : Among w (i ∷ []) → w < i + suc (length ds)
        here (inl e) = omega (arith, e)
        here (inr x) = absurd x
    go false p rest =
        let q : number_of i (d ∷ ds) n ≡ number_of (suc i) ds n = rw p refl in
        let l = rest (subst (Among w) q h) in omega (arith, l)

among-append : (w : ℕ) (xs ys : List ℕ) → Among w (xs ++ ys) → Among w xs ⊎ Among w ys
among-append w [] ys h = inr h
among-append w (x ∷ xs) ys (inl e) = inl (inl e)
among-append w (x ∷ xs) ys (inr h) = elim (among-append w xs ys h) [ inl a ↦ inl (inr a) | inr b ↦ inr b ]

pub uses_below : (ds : List TypeDecl) (ns : List OrigName) (w : ℕ) → Among w (flat_map (number_of 0 ds) ns) → w < length ds
uses_below ds [] w h = absurd h
uses_below ds (n ∷ ns) w h = elim (among-append w (number_of 0 ds n) (flat_map (number_of 0 ds) ns) h) [
  | inl a ↦ (let l = number_below 0 ds n w a in omega (arith, l))
  | inr b ↦ uses_below ds ns w b
]

among-filter : (p : ℕ → Bool) (w : ℕ) (ns : List ℕ) → Among w (filter p ns) → Among w ns
among-filter p w [] h = h
among-filter p w (n ∷ ns) h = go (p n) refl (among-filter p w ns)
  where
    go : (b : Bool) → p n ≡ b → (Among w (filter p ns) → Among w ns) → Among w (n ∷ ns)
    go true e rest =
        let q : filter p (n ∷ ns) ≡ n ∷ filter p ns = rw e refl in
        elim (subst (Among w) q h) [ inl x ↦ inl x | inr y ↦ inr (rest y) ]
    go false e rest =
        let q : filter p (n ∷ ns) ≡ filter p ns = rw e refl in inr (rest (subst (Among w) q h))

pub among-once : (w : ℕ) (ns : List ℕ) → Among w (numbers_once ns) → Among w ns
among-once w [] h = h
among-once w (n ∷ ns) (inl e) = inl e
among-once w (n ∷ ns) (inr h) = inr (among-once w ns (among-filter (λ m. not (nat_eq m n)) w (numbers_once ns) h))

in_uses : (all : List TypeDecl) (ds : List TypeDecl) (v w : ℕ)
    → Among w (get_or {A = UseList}
    (map (λ d. record { uses = numbers_once (uses_in all (meaning_types d.meaning)) }) ds) v
    (record { uses = [] })).uses → w < length all
in_uses all [] v w h = absurd h
in_uses all (d ∷ ds) zero w h =
    uses_below all (flat_map names_in (meaning_types d.meaning)) w
    (among-once w (uses_in all (meaning_types d.meaning)) h)
in_uses all (d ∷ ds) (suc v) w h = in_uses all ds v w h

pub uses_in_range : (ds : List TypeDecl) → InRange (type_uses ds)
uses_in_range ds v w h = subst (λ n. w < n) (sym (length-map ds _)) (in_uses ds ds v w h)

-- ---- the declarations of a group
