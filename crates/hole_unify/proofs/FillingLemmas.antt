-- A fill among others by numbers.
use Rattle.std.proofs.Common.{◌≡◌, ℕ, zero, suc, ◌+◌, ◌<◌, ◌≤◌, Bool, true, false, cond, List, [], ◌∷◌, length, get_or}
use Rattle.std.proofs.Common.{take, drop, map, inl, inr, refl, ap, sym, ◌∙◌, subst, arith}
use Rattle.std.specs.Prelude.{Option, Some, None}
use Rattle.std.specs.List.{insert}
use Rattle.std.specs.Str.{bytes_eq}
use Rattle.std.specs.Ordering.{nat_cmp, is_lt}
use Rattle.std.specs.Cmp.Lexicographic.{slice_cmp}
use Rattle.bp_base.proofs.SetLemmas.{among-either}
use Rattle.bp_base.specs.declared.ident.Ident.{Ident}
use Rattle.bp_base.specs.declared.ident.Fill.{Fill}
use Rattle.bp_base.specs.Lists.{Among}
use Rattle.bp_base.specs.Texts.{Text, Before, Rise, RiseAfter}
use Rattle.bp_base.proofs.TextLemmas.{same_texts, other_texts, Before-transitive, not_before_itself, Rise-after}
use Rattle.bp_base.proofs.TextLemmas.{tested_before}
use Rattle.ident_table.specs.declared.node.NumberFill.{NumberFill}
use Rattle.ident_table.specs.Numbers.{ident_of, fill_of, fills_of}
use Rattle.unit_identity.specs.Fill.{found}
use Rattle.hole_unify.specs.Table.{nodes_of}
use Rattle.hole_unify.specs.Build.{number_built, built_of, place, inserted, put, term_put, answer}
use Rattle.hole_unify.specs.Stages.{number_place, is_first, Puts}
use Rattle.hole_unify.proofs.TableLemmas.{Among-drop}
use Rattle.hole_unify.proofs.PlaceLemmas.{node-front, built-at}
use Rattle.hole_unify.proofs.StageLemmas.{nodes-end}
use Rattle.hole_unify.proofs.AnswerLemmas.{later, rise-inserted}

-- ---- whether an identity is a hole

-- ---- places

abbrev pub holes : List NumberFill → List Text
holes fs = map (λ x. x.hole) fs

pub less-before : (m n : Text) → Before m n → is_lt (slice_cmp nat_cmp m n) ≡ true
less-before m n b = ap is_lt b

after-read : (h : Text) (fs : List NumberFill) (i : ℕ) (x : NumberFill) → RiseAfter h (holes fs) → i < length fs
    → x ≡ get_or fs i x → Before h x.hole
after-read h [] i x r lt is = absurd (omega (arith, lt))
after-read h (y ∷ fs) zero x r lt is = subst (λ z. Before h z.hole) (sym is) r.0
after-read h (y ∷ fs) (suc i) x r lt is = Before-transitive h y.hole x.hole r.0
    (after-read y.hole fs i x r.1 (omega (arith, lt)) is)

pub place-after : (h : Text) (fs : List NumberFill) (i : ℕ) (x : NumberFill) → Rise (holes fs) → i < length fs
    → x ≡ get_or fs i x → is_lt (slice_cmp nat_cmp x.hole h) ≡ true → i + 1 ≤ number_place h fs
place-after h [] i x r lt is less = absurd (omega (arith, lt))
place-after h (y ∷ fs) zero x r lt is less =
    let e : number_place h (y ∷ fs) ≡ number_place h fs + 1 =
    ap (λ b. cond b (number_place h fs + 1) 0) (ap (λ z. is_lt (slice_cmp nat_cmp z.hole h)) (sym is) ∙ less) in
    omega (arith, e)
place-after h (y ∷ fs) (suc i) x r lt is less =
    let before : is_lt (slice_cmp nat_cmp y.hole h) ≡ true =
    less-before y.hole h (Before-transitive y.hole x.hole h (after-read y.hole fs i x r (omega (arith, lt)) is)
    (tested_before x.hole h less)) in
    let e : number_place h (y ∷ fs) ≡ number_place h fs + 1 = ap (λ b. cond b (number_place h fs + 1) 0) before in
    let k = place-after h fs i x (Rise-after y.hole (holes fs) r) (omega (arith, lt)) is less in
    omega (arith, e, k)

pub place-before : (h : Text) (fs : List NumberFill) (i : ℕ) (x : NumberFill) → i < length fs → x ≡ get_or fs i x
    → is_lt (slice_cmp nat_cmp x.hole h) ≡ false → number_place h fs ≤ i
place-before h [] i x lt is less = absurd (omega (arith, lt))
place-before h (y ∷ fs) zero x lt is less =
    let e : number_place h (y ∷ fs) ≡ 0 = ap (λ b. cond b (number_place h fs + 1) 0)
    (ap (λ z. is_lt (slice_cmp nat_cmp z.hole h)) (sym is) ∙ less) in
    omega (arith, e)
place-before h (y ∷ fs) (suc i) x lt is less = by (is_lt (slice_cmp nat_cmp y.hole h))
    (place-before h fs i x (omega (arith, lt)) is less)
  where
    by : (b : Bool) → number_place h fs ≤ i → cond b (number_place h fs + 1) 0 ≤ suc i
    by true k = omega (arith, k)
    by false k = omega arith

pub place-within : (h : Text) (fs : List NumberFill) → number_place h fs ≤ length fs
place-within h [] = omega arith
place-within h (x ∷ fs) = by (is_lt (slice_cmp nat_cmp x.hole h)) (place-within h fs)
  where
    by : (b : Bool) → number_place h fs ≤ length fs → cond b (number_place h fs + 1) 0 ≤ length (x ∷ fs)
    by true k = omega (arith, k)
    by false k = omega arith

-- ---- what numbers stand for

module _ (table : List Ident) where
  place-of : (h : Text) (fs : List NumberFill) → place h (fills_of table fs) ≡ number_place h fs
  place-of h [] = refl
  place-of h (x ∷ fs) = ap (λ n. cond (is_lt (slice_cmp nat_cmp x.hole h)) (n + 1) 0) (place-of h fs)

  holes-of : (fs : List NumberFill) → map (λ x. x.hole) (fills_of table fs) ≡ holes fs
  holes-of [] = refl
  holes-of (x ∷ fs) = ap (λ l. x.hole ∷ l) (holes-of fs)

  insert-of : (f : NumberFill) (fs : List NumberFill) (n : ℕ)
      → fills_of table (insert fs n f) ≡ insert (fills_of table fs) n (fill_of table f)
  insert-of f [] zero = refl
  insert-of f [] (suc n) = refl
  insert-of f (x ∷ fs) zero = refl
  insert-of f (x ∷ fs) (suc n) = ap (λ l. fill_of table x ∷ l) (insert-of f fs n)

  none-after : (h : Text) (m : Text) (fs : List NumberFill) → RiseAfter m (holes fs) → Before h m
      → found h (fills_of table fs) ≡ None
  none-after h m [] r b = refl
  none-after h m (x ∷ fs) r b = by (bytes_eq x.hole h) refl
      (none-after h x.hole fs r.1 (Before-transitive h m x.hole b r.0))
    where
      by : (c : Bool) → bytes_eq x.hole h ≡ c → found h (fills_of table fs) ≡ None
          → cond (bytes_eq x.hole h) (Some (fill_of table x).ident) (found h (fills_of table fs)) ≡ None
      by true d k = absurd (not_before_itself h (Before-transitive h m h b
          (subst (Before m) (same_texts x.hole h d) r.0)))
      by false d k = ap (λ c. cond c (Some (fill_of table x).ident) (found h (fills_of table fs))) d ∙ k

  -- what the place of a hole says
  abbrev Says : Bool → Option Ident → Type 0
  Says true o = (i : Ident) × (o ≡ Some i)
  Says false o = o ≡ None

  first-says : (h : Text) (fs : List NumberFill) → Rise (holes fs)
      → Says (is_first h (drop (number_place h fs) fs)) (found h (fills_of table fs))
  first-says h [] r = refl
  first-says h (x ∷ fs) r = by (is_lt (slice_cmp nat_cmp x.hole h)) refl
      (first-says h fs (Rise-after x.hole (holes fs) r))
    where
      more : (n : ℕ) → drop (n + 1) (x ∷ fs) ≡ drop n fs
      more n = let e : n + 1 ≡ suc n = omega arith in ap (λ k. drop k (x ∷ fs)) e

      here : (c : Bool) → bytes_eq x.hole h ≡ c → is_lt (slice_cmp nat_cmp x.hole h) ≡ false
          → Says c (cond c (Some (fill_of table x).ident) (found h (fills_of table fs)))
      here true d e = ((fill_of table x).ident, refl)
      here false d e = none-after h x.hole fs r (later x.hole h e (other_texts x.hole h d))

      by : (b : Bool) → is_lt (slice_cmp nat_cmp x.hole h) ≡ b
          → Says (is_first h (drop (number_place h fs) fs)) (found h (fills_of table fs))
          → Says (is_first h (drop (cond b (number_place h fs + 1) 0) (x ∷ fs)))
          (cond (bytes_eq x.hole h) (Some (fill_of table x).ident) (found h (fills_of table fs)))
      by false e k = here (bytes_eq x.hole h) refl e
      by true e k = apart (bytes_eq x.hole h) refl
        where
          apart : (c : Bool) → bytes_eq x.hole h ≡ c
              → Says (is_first h (drop (number_place h fs + 1) (x ∷ fs)))
              (cond c (Some (fill_of table x).ident) (found h (fills_of table fs)))
          apart true d = absurd (not_before_itself h
              (subst (λ z. Before z h) (same_texts x.hole h d) (tested_before x.hole h e)))
          apart false d = subst (λ l. Says (is_first h l) (found h (fills_of table fs)))
              (sym (more (number_place h fs))) k

insert-place : (f : Fill) (fs : List Fill) → insert fs (place f.hole fs) f ≡ inserted f fs
insert-place f [] = refl
insert-place f (x ∷ fs) = by (is_lt (slice_cmp nat_cmp x.hole f.hole)) (insert-place f fs)
  where
    insert-more : (n : ℕ) → insert (x ∷ fs) (n + 1) f ≡ x ∷ insert fs n f
    insert-more n = let e : n + 1 ≡ suc n = omega arith in ap (λ k. insert (x ∷ fs) k f) e

    by : (b : Bool) → insert fs (place f.hole fs) f ≡ inserted f fs
        → insert (x ∷ fs) (cond b (place f.hole fs + 1) 0) f ≡ cond b (x ∷ inserted f fs) (f ∷ x ∷ fs)
    by true k = insert-more (place f.hole fs) ∙ ap (λ l. x ∷ l) k
    by false k = refl

Among-take : {A : Type 0} (x : A) (l : List A) (n : ℕ) → Among x (take n l) → Among x l
Among-take x [] zero h = h
Among-take x [] (suc n) h = h
Among-take x (y ∷ l) zero h = absurd h
Among-take x (y ∷ l) (suc n) (inl e) = inl e
Among-take x (y ∷ l) (suc n) (inr h) = inr (Among-take x l n h)

-- ---- one fill more

module _ (f : NumberFill) (old : List NumberFill) (r : Rise (holes old)) where
  pub puts-known : is_first f.hole (drop (number_place f.hole old) old) ≡ true → Puts f old old
  puts-known is = record {
    puts = λ table. let s = subst (λ b. Says table b (found f.hole (fills_of table old))) is
        (first-says table f.hole old r) in sym (ap (λ o. put (fill_of table f) o (fills_of table old)) s.1);
    rise = r;
    below = λ n b lt. b;
  }

  inserted-of : (table : List Ident) → fills_of table (insert old (number_place f.hole old) f) ≡ inserted
      (fill_of table f) (fills_of table old)
  inserted-of table =
      insert-of table f old (number_place f.hole old)
      ∙ ap (λ n. insert (fills_of table old) n (fill_of table f)) (sym (place-of table f.hole old))
      ∙ insert-place (fill_of table f) (fills_of table old)

  none : is_first f.hole (drop (number_place f.hole old) old) ≡ false → (table : List Ident)
      → found f.hole (fills_of table old) ≡ None
  none is table = subst (λ b. Says table b (found f.hole (fills_of table old))) is (first-says table f.hole old r)

  pub puts-new : is_first f.hole (drop (number_place f.hole old) old) ≡ false
      → Puts f old (insert old (number_place f.hole old) f)
  puts-new is = record {
    puts = λ table. inserted-of table ∙ sym (ap (λ o. put (fill_of table f) o (fills_of table old)) (none is table));
    rise = subst Rise (sym (ap (map (λ x. x.hole)) (inserted-of []))
        ∙ holes-of [] (insert old (number_place f.hole old) f))
        (rise-inserted (fill_of [] f) (fills_of [] old) (subst Rise (sym (holes-of [] old)) r) (none is []));
    below = λ n b lt g h. elim (among-either g (take (number_place f.hole old) old)
        (f ∷ drop (number_place f.hole old) old) h) [
          | inl a ↦ b g (Among-take g old (number_place f.hole old) a)
          | inr (inl e) ↦ subst (λ z. z.ident < n) e lt
          | inr (inr a) ↦ b g (Among-drop g old (number_place f.hole old) a)
        ];
  }

-- ---- the fills of all holes

-- the fills of one node more
pub answer-step : (table : List Ident) (classes : List ℕ) (built : List (Option ℕ)) (i : ℕ)
    → length classes ≤ length table → i < length classes → (old new last : List Fill) (o : Option ℕ)
    → o ≡ get_or built (get_or classes i 0) None
    → new ≡ term_put (ident_of table i) (number_built table o) old
    → answer (built_of table built) (drop i (nodes_of table classes)) old ≡ last
    → answer (built_of table built) (drop (i + 1) (nodes_of table classes)) new ≡ last
answer-step table classes built i le lt old new last o is puts so =
    ap (answer (built_of table built) (drop (i + 1) (nodes_of table classes))) (puts
    ∙ ap (λ p. term_put (ident_of table i) p old) (ap (number_built table) is
    ∙ sym (built-at table built (get_or classes i 0))))
    ∙ sym (ap (λ l. answer (built_of table built) l old) (node-front table classes i le lt)) ∙ so

pub answer-end : (table : List Ident) (classes : List ℕ) (built : List (Option ℕ)) (i : ℕ)
    → length classes ≤ length table → i ≡ length classes → (fs last : List Fill)
    → answer (built_of table built) (drop i (nodes_of table classes)) fs ≡ last → fs ≡ last
answer-end table classes built i le is fs last so =
    sym (ap (λ l. answer (built_of table built) l fs) (nodes-end table classes i le is)) ∙ so
