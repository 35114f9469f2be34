-- The fills of the holes are the answer.
use Rattle.std.proofs.Common.{◌≡◌, ◌≢◌, ℕ, zero, suc, ◌<◌, Bool, true, false, cond, List, [], ◌∷◌, map, ◌⊎◌, inl, inr}
use Rattle.std.proofs.Common.{refl, ap, sym, ◌∙◌, subst, arith}
use Rattle.std.specs.Prelude.{Option, Some, None, unwrap_or}
use Rattle.std.specs.Str.{bytes_eq}
use Rattle.std.specs.Ordering.{nat_cmp, ordering_reverse, is_lt}
use Rattle.std.specs.Cmp.Lexicographic.{slice_cmp}
use Rattle.std.proofs.lemmas.Cmp.{nat_list_cmp_total}
use Rattle.std.specs.declared.cmp.Ordering.{Ordering}
use Rattle.std.specs.declared.cmp.Ordering.TheVariants.{Less, Equal, Greater}
use Rattle.std.proofs.lemmas.Option.{same_Some}
use Rattle.bp_base.proofs.IdentLemmas.{Hole-name, Module-is, Hole-not-Module}
use Rattle.bp_base.specs.declared.ident.Ident.{Ident}
use Rattle.bp_base.specs.declared.ident.Ident.TheVariants.{Hole, Module, Module'}
use Rattle.bp_base.specs.declared.ident.Unit.{Unit as OfUnit, out-Unit}
use Rattle.bp_base.specs.declared.ident.Ident.TheViews.{roll-Unit}
use Rattle.bp_base.specs.declared.ident.Fill.{Fill}
use Rattle.bp_base.specs.declared.ident.Ident.TheBlock.{end_of-Unit, more_of-Unit}
use Rattle.bp_base.specs.Lists.{Among}
use Rattle.bp_base.specs.Texts.{Text, Before, Rise, RiseAfter}
use Rattle.bp_base.proofs.TextLemmas.{same_texts, other_texts, texts_same, tied_texts, not_before_itself, tested_before}
use Rattle.unit_identity.specs.Fill.{found, filled, composed, at_hole}
use Rattle.unit_identity.proofs.FillLemmas.{filled-Module, filled_unit-out}
use Rattle.hole_unify.specs.declared.equation.Equation.{Equation}
use Rattle.hole_unify.specs.Unifiers.{IsUnifier, IsAnswer}
use Rattle.hole_unify.specs.Causes.{IsLawful, units_in}
use Rattle.hole_unify.specs.Table.{Node, class_at, is_same, terms_in}
use Rattle.hole_unify.specs.Tables.{In, IsTable}
use Rattle.hole_unify.specs.Close.{IsSettled}
use Rattle.hole_unify.specs.Build.{built_at, inserted, put, hole_put, term_put, answer}
use Rattle.hole_unify.proofs.TermLemmas.{same_terms, terms_same}
use Rattle.hole_unify.proofs.CauseLemmas.{list-head, list-tail}
use Rattle.hole_unify.proofs.TableLemmas.{class_at-found}
use Rattle.hole_unify.proofs.GapLemmas.{fill-class, one_head, one_fill}
use Rattle.hole_unify.specs.IsFaithful.{Builds, NoFills, MoreFills, made, IsEntry, IsFaithful}
use Rattle.hole_unify.proofs.UnitLemmas.{some-or-none, listed-unit, found-among}
use Rattle.hole_unify.proofs.UnifyingLemmas.{weight, fill-lighter}
use Rattle.hole_unify.specs.Occurrence.{AreOfEquations}
use Rattle.hole_unify.proofs.OccurringLemmas.{in-terms, occurs-built}

-- ---- fills in order

pub later : (m n : Text) → is_lt (slice_cmp nat_cmp m n) ≡ false → m ≢ n → Before n m
later m n e d = by (slice_cmp nat_cmp m n) refl
  where
    by : (o : Ordering) → slice_cmp nat_cmp m n ≡ o → Before n m
    by Less p = let f : true ≡ false = sym (ap is_lt p) ∙ e in cc
    by Equal p = absurd (d (tied_texts m n p))
    by Greater p = nat_list_cmp_total.antisymm n m ∙ ap ordering_reverse p

abbrev holes : List Fill → List Text
holes fs = map (λ x. x.hole) fs

head-apart : (x : Fill) (xs : List Fill) (n : Text) → found n (x ∷ xs) ≡ None → x.hole ≢ n
head-apart x xs n e is =
    let f : Some x.ident ≡ None = ap (λ b. cond b (Some x.ident) (found n xs))
    (sym (ap (λ z. bytes_eq z n) is ∙ texts_same n)) ∙ e in cc

tail-none : (x : Fill) (xs : List Fill) (n : Text) → found n (x ∷ xs) ≡ None → found n xs ≡ None
tail-none x xs n e = by (bytes_eq x.hole n) refl
  where
    by : (b : Bool) → bytes_eq x.hole n ≡ b → found n xs ≡ None
    by true d = absurd (head-apart x xs n e (same_texts x.hole n d))
    by false d = ap (λ b. cond b (Some x.ident) (found n xs)) (sym d) ∙ e

-- an inserted fill keeps the order
rise-inserted-after : (h : Text) (f : Fill) (xs : List Fill) → RiseAfter h (holes xs) → Before h f.hole
    → found f.hole xs ≡ None → RiseAfter h (holes (inserted f xs))
rise-inserted-after h f [] r b e = (b, tt)
rise-inserted-after h f (x ∷ xs) r b e = by (is_lt (slice_cmp nat_cmp x.hole f.hole)) refl
    (λ c. rise-inserted-after x.hole f xs r.1 c (tail-none x xs f.hole e))
  where
    by : (c : Bool) → is_lt (slice_cmp nat_cmp x.hole f.hole) ≡ c
        → (Before x.hole f.hole → RiseAfter x.hole (holes (inserted f xs)))
        → RiseAfter h (holes (cond c (x ∷ inserted f xs) (f ∷ x ∷ xs)))
    by true d k = (r.0, k (tested_before x.hole f.hole d))
    by false d k = (b, (later x.hole f.hole d (head-apart x xs f.hole e), r.1))

pub rise-inserted : (f : Fill) (xs : List Fill) → Rise (holes xs) → found f.hole xs ≡ None
    → Rise (holes (inserted f xs))
rise-inserted f [] r e = tt
rise-inserted f (x ∷ xs) r e = by (is_lt (slice_cmp nat_cmp x.hole f.hole)) refl
  where
    by : (c : Bool) → is_lt (slice_cmp nat_cmp x.hole f.hole) ≡ c
        → Rise (holes (cond c (x ∷ inserted f xs) (f ∷ x ∷ xs)))
    by true d = rise-inserted-after x.hole f xs r (tested_before x.hole f.hole d) (tail-none x xs f.hole e)
    by false d = (later x.hole f.hole d (head-apart x xs f.hole e), r)

-- what is found after an insertion
found-inserted-same : (f : Fill) (xs : List Fill) → found f.hole xs ≡ None → found f.hole (inserted f xs) ≡ Some f.ident
found-inserted-same f [] e = ap (λ b. cond b (Some f.ident) None) (texts_same f.hole)
found-inserted-same f (x ∷ xs) e = by (is_lt (slice_cmp nat_cmp x.hole f.hole))
    (found-inserted-same f xs (tail-none x xs f.hole e))
  where
    apart : bytes_eq x.hole f.hole ≡ false
    apart = no (bytes_eq x.hole f.hole) refl
      where
        no : (b : Bool) → bytes_eq x.hole f.hole ≡ b → bytes_eq x.hole f.hole ≡ false
        no true d = absurd (head-apart x xs f.hole e (same_texts x.hole f.hole d))
        no false d = d

    by : (c : Bool) → found f.hole (inserted f xs) ≡ Some f.ident
        → found f.hole (cond c (x ∷ inserted f xs) (f ∷ x ∷ xs)) ≡ Some f.ident
    by true k = ap (λ b. cond b (Some x.ident) (found f.hole (inserted f xs))) apart ∙ k
    by false k = ap (λ b. cond b (Some f.ident) (found f.hole (x ∷ xs))) (texts_same f.hole)

found-inserted-other : (f : Fill) (n : Text) (xs : List Fill) → f.hole ≢ n → found n (inserted f xs) ≡ found n xs
found-inserted-other f n xs d = go xs
  where
    apart : bytes_eq f.hole n ≡ false
    apart = no (bytes_eq f.hole n) refl
      where
        no : (b : Bool) → bytes_eq f.hole n ≡ b → bytes_eq f.hole n ≡ false
        no true e = absurd (d (same_texts f.hole n e))
        no false e = e

    step : (x : Fill) (ys zs : List Fill) → found n ys ≡ found n zs → found n (x ∷ ys) ≡ found n (x ∷ zs)
    step x ys zs e = ap (cond (bytes_eq x.hole n) (Some x.ident)) e

    front : (zs : List Fill) → found n (f ∷ zs) ≡ found n zs
    front zs = ap (λ b. cond b (Some f.ident) (found n zs)) apart

    either : (c : Bool) (x : Fill) (ys : List Fill) → found n (inserted f ys) ≡ found n ys
        → found n (cond c (x ∷ inserted f ys) (f ∷ x ∷ ys)) ≡ found n (x ∷ ys)
    either true x ys k = step x (inserted f ys) ys k
    either false x ys k = front (x ∷ ys)

    go : (ys : List Fill) → found n (inserted f ys) ≡ found n ys
    go [] = front []
    go (x ∷ ys) = either (is_lt (slice_cmp nat_cmp x.hole f.hole)) x ys (go ys)

-- ---- the fills so far

module _ (nodes : List Node) (built : List (Option Ident)) (one : (t : Ident) (k l : ℕ) → In nodes t k → In nodes t l
    → k ≡ l) where
  record IsFills (fs : List Fill) : Type 0 where
    rise : Rise (holes fs)
    only : (n : Text) (t : Ident) → found n fs ≡ Some t → (k : ℕ) × In nodes (Hole n) k × (built_at k built ≡ Some t)
    moves : (n : Text) → found n fs ≢ Some (Hole n)

  -- the fills put this at the hole
  abbrev Puts : List Fill → Text → Ident → Type 0
  Puts fs n t = at_hole n fs ≡ t

  put-fills : (n : Text) (k : ℕ) (t : Ident) (fs : List Fill) → In nodes (Hole n) k → built_at k built ≡ Some t
      → t ≢ Hole n → found n fs ≡ None → IsFills fs → IsFills (inserted (record { hole = n; ident = t }) fs)
  put-fills n k t fs p b d e ok = record {
    rise = rise-inserted new fs ok.rise e;
    only = λ m i g. only m i g (bytes_eq n m) refl;
    moves = λ m g. moves m g (bytes_eq n m) refl;
  }
    where
      new : Fill
      new = record { hole = n; ident = t }

      other : (m : Text) → bytes_eq n m ≡ false → found m (inserted new fs) ≡ found m fs
      other m c = found-inserted-other new m fs (other_texts n m c)

      same : (m : Text) → bytes_eq n m ≡ true → found m (inserted new fs) ≡ Some t
      same m c = subst (λ z. found z (inserted new fs) ≡ Some t) (same_texts n m c) (found-inserted-same new fs e)

      only : (m : Text) (i : Ident) → found m (inserted new fs) ≡ Some i → (c : Bool) → bytes_eq n m ≡ c
          → (l : ℕ) × In nodes (Hole m) l × (built_at l built ≡ Some i)
      only m i g true c = (k, subst (λ z. In nodes (Hole z) k) (same_texts n m c) p, b ∙ sym (same m c) ∙ g)
      only m i g false c = ok.only m i (sym (other m c) ∙ g)

      moves : (m : Text) → found m (inserted new fs) ≡ Some (Hole m) → (c : Bool) → bytes_eq n m ≡ c → ⊥
      moves m g true c = d (same_Some t (Hole n) (sym (same m c) ∙ g
          ∙ ap (λ z. Some (Hole z)) (sym (same_texts n m c))))
      moves m g false c = ok.moves m (sym (other m c) ∙ g)

  -- one hole more
  record Keeps (fs new : List Fill) (n : Text) (t : Ident) : Type 0 where
    fills : IsFills new
    here : at_hole n new ≡ t
    rest : (m : Text) (i : Ident) (k : ℕ) → In nodes (Hole m) k → built_at k built ≡ Some i → at_hole m fs ≡ i
        → at_hole m new ≡ i

  hole-step : (n : Text) (k : ℕ) (t : Ident) (fs : List Fill) → In nodes (Hole n) k → built_at k built ≡ Some t
      → IsFills fs → Keeps fs (hole_put n (Some t) fs) n t
  hole-step n k t fs p b ok = by (is_same t (Hole n)) refl (some-or-none (found n fs))
    where
      new : Fill
      new = record { hole = n; ident = t }

      known : (i : Ident) → found n fs ≡ Some i → i ≡ t
      known i e = let o = ok.only n i e in same_Some i t (sym o.2
          ∙ ap (λ z. built_at z built) (one (Hole n) o.0 k o.1 p) ∙ b)

      by : (c : Bool) → is_same t (Hole n) ≡ c → (found n fs ≡ None) ⊎ ((i : Ident) × (found n fs ≡ Some i))
          → Keeps fs (cond c fs (put new (found n fs) fs)) n t
      by true c (inl e) = record {
        fills = ok;
        here = ap (λ o. unwrap_or o (Hole n)) e ∙ sym (same_terms t (Hole n) c);
        rest = λ m i l q r h. h;
      }
      by true c (inr (i, e)) = record {
        fills = ok;
        here = ap (λ o. unwrap_or o (Hole n)) e ∙ known i e;
        rest = λ m i l q r h. h;
      }
      by false c (inr (i, e)) = subst (λ o. Keeps fs (put new o fs) n t) (sym e)
          (record { fills = ok; here = ap (λ o. unwrap_or o (Hole n)) e ∙ known i e; rest = λ m i l q r h. h })
      by false c (inl e) = subst (λ o. Keeps fs (put new o fs) n t) (sym e) (record {
        fills = put-fills n k t fs p b (λ is. let f : true ≡ false =
            sym (ap (λ z. is_same z (Hole n)) is ∙ terms_same (Hole n)) ∙ c in cc) e ok;
        here = ap (λ o. unwrap_or o (Hole n)) (found-inserted-same new fs e);
        rest = λ m i l q r h. other m i l q r h (bytes_eq n m) refl;
      })
        where
          other : (m : Text) (i : Ident) (l : ℕ) → In nodes (Hole m) l → built_at l built ≡ Some i → at_hole m fs ≡ i
              → (b : Bool) → bytes_eq n m ≡ b → at_hole m (inserted new fs) ≡ i
          other m i l q r h false d = ap (λ o. unwrap_or o (Hole m)) (found-inserted-other new m fs (other_texts n m d))
              ∙ h
          other m i l q r h true d =
              let is = same_texts n m d in
              ap (λ o. unwrap_or o (Hole m)) (subst (λ z. found z (inserted new fs) ≡ Some t) is
              (found-inserted-same new fs e))
              ∙ same_Some t i (sym b ∙ ap (λ z. built_at z built)
              (one (Hole m) k l (subst (λ z. In nodes (Hole z) k) is p) q) ∙ r)

  -- every class is built
  module _ (done : (a : Ident) (k : ℕ) → In nodes a k → (t : Ident) × (built_at k built ≡ Some t)) where
    record FillsRest (rest : List Node) (fs new : List Fill) : Type 0 where
      fills : IsFills new
      here : (n : Text) (k : ℕ) (t : Ident) → In rest (Hole n) k → built_at k built ≡ Some t → at_hole n new ≡ t
      kept : (m : Text) (i : Ident) (k : ℕ) → In nodes (Hole m) k → built_at k built ≡ Some i → at_hole m fs ≡ i
          → at_hole m new ≡ i

    skip : (x : Node) (rest : List Node) (fs new : List Fill) → ((n : Text) → x.ident ≡ Hole n → ⊥)
        → FillsRest rest fs new → FillsRest (x ∷ rest) fs new
    skip x rest fs new never a = record {
      fills = a.fills;
      here = λ n k t p b. here n k t p b;
      kept = a.kept;
    }
      where
        here : (n : Text) (k : ℕ) (t : Ident) → In (x ∷ rest) (Hole n) k → built_at k built ≡ Some t → at_hole n new ≡ t
        here n k t (y, inl e, i, c) b = absurd (never n (ap (λ v. v.ident) e ∙ i))
        here n k t (y, inr h, i, c) b = a.here n k t (y, h, i, c) b

    add : (x : Node) (rest : List Node) (fs mid new : List Fill) (n : Text) (t : Ident) → x.ident ≡ Hole n
        → In nodes (Hole n) x.class → built_at x.class built ≡ Some t → Keeps fs mid n t → FillsRest rest mid new
        → FillsRest (x ∷ rest) fs new
    add x rest fs mid new n t is p b k a = record {
      fills = a.fills;
      here = λ m l i q c. here m l i q c;
      kept = λ m i l q c h. a.kept m i l q c (k.rest m i l q c h);
    }
      where
        here : (m : Text) (l : ℕ) (i : Ident) → In (x ∷ rest) (Hole m) l → built_at l built ≡ Some i → at_hole m new ≡ i
        here m l i (y, inr h, j, c) d = a.here m l i (y, h, j, c) d
        here m l i (y, inl e, j, c) d =
            let names : n ≡ m = Hole-name n m (sym is ∙ ap (λ v. v.ident) e ∙ j) in
            let class : x.class ≡ l = ap (λ v. v.class) e ∙ c in
            let t-is : t ≡ i = same_Some t i (sym b ∙ ap (λ z. built_at z built) class ∙ d) in
            subst (λ z. at_hole z new ≡ i) names (a.kept n t x.class p b k.here ∙ t-is)

    answers : (rest : List Node) (fs : List Fill) → ((x : Node) → Among x rest → Among x nodes) → IsFills fs
        → FillsRest rest fs (answer built rest fs)
    answers [] fs inside ok = record { fills = ok; here = λ n k t p b. absurd p.1; kept = λ m i k p b h. h }
    answers (x ∷ rest) fs inside ok = by x.ident refl (done x.ident x.class (x, inside x (inl refl), refl, refl))
        (λ mid g. answers rest mid (λ y h. inside y (inr h)) g)
      where
        by : (i : Ident) → x.ident ≡ i → (t : Ident) × (built_at x.class built ≡ Some t)
            → ((mid : List Fill) → IsFills mid → FillsRest rest mid (answer built rest mid))
            → FillsRest (x ∷ rest) fs (answer built rest (term_put x.ident (built_at x.class built) fs))
        by (Hole n) is (t, b) go =
            let p : In nodes (Hole n) x.class = (x, inside x (inl refl), is, refl) in
            let k = hole-step n x.class t fs p b ok in
            subst (λ z. FillsRest (x ∷ rest) fs (answer built rest (term_put z (built_at x.class built) fs))) (sym is)
            (subst (λ o. FillsRest (x ∷ rest) fs (answer built rest (hole_put n o fs))) (sym b)
            (add x rest fs (hole_put n (Some t) fs) (answer built rest (hole_put n (Some t) fs)) n t is p b k
            (go (hole_put n (Some t) fs) k.fills)))
        by (Module' s r m) is (t, b) go =
            subst (λ z. FillsRest (x ∷ rest) fs (answer built rest (term_put z (built_at x.class built) fs))) (sym is)
            (skip x rest fs (answer built rest fs) (λ n e. not-hole n (sym is ∙ e)) (go fs ok))
          where
            not-hole : (n : Text) → Module' s r m ≡ Hole n → ⊥
            not-hole n e = cc

no-fills : (nodes : List Node) (built : List (Option Ident)) (one : (t : Ident) (k l : ℕ) → In nodes t k → In nodes t l
    → k ≡ l) → IsFills nodes built one []
no-fills nodes built one = record { rise = tt; only = λ n t e. cc; moves = λ n e. cc }

-- ---- the answer

made-not-hole : (u : OfUnit) (l : List Fill) (m n : Text) → made u l m ≡ Hole n → ⊥
made-not-hole u l m n e = Hole-not-Module n (roll-Unit (record { component = (out-Unit u).component; fills = l })) m
    (sym e)

hole-found : (n m : Text) (f : List Fill) → found n f ≡ None → at_hole n f ≡ Hole n
hole-found n m f e = ap (λ o. unwrap_or o (Hole n)) e

module _ (es : List Equation) (lawful : IsLawful es) (nodes : List Node) (s : IsSettled es nodes)
    (built : List (Option Ident)) (st : IsFaithful es nodes built)
    (done : (a : Ident) (k : ℕ) → In nodes a k → (t : Ident) × (built_at k built ≡ Some t)) where
  table : IsTable es nodes
  table = s.joined.table

  fills : List Fill
  fills = answer built nodes []

  -- any fills that put at each hole what is built for its class
  module _ (f : List Fill) (puts : (n : Text) (k : ℕ) (t : Ident) → In nodes (Hole n) k → built_at k built ≡ Some t
      → at_hole n f ≡ t) where
    -- two units' fills, pair by pair: one hole, and one class
    unit-listed : (u : OfUnit) (m : Text) (k : ℕ) → In nodes (Module u m) k → Among u (units_in es)
    unit-listed u m k p = listed-unit es u m (subst (λ v. Among v (terms_in es)) p.2 (table.only p.0 p.1))

    abbrev Fit : List Fill → List Fill → Type 0
    Fit [] [] = Unit {0}
    Fit [] (y ∷ vs) = ⊥
    Fit (x ∷ us) [] = ⊥
    Fit (x ∷ us) (y ∷ vs) = (x.hole ≡ y.hole) × ((k : ℕ) × (class_at x.ident nodes ≡ Some k)
        × (class_at y.ident nodes ≡ Some k)) × Fit us vs

    fit : (us vs : List Fill) → map (λ z. z.hole) us ≡ map (λ z. z.hole) vs
        → ((x y : Fill) → Among x us → Among y vs → x.hole ≡ y.hole
        → (k : ℕ) × (class_at x.ident nodes ≡ Some k) × (class_at y.ident nodes ≡ Some k)) → Fit us vs
    fit [] [] e h = tt
    fit [] (y ∷ vs) e h = let x : List.[] ≡ y.hole ∷ map (λ z. z.hole) vs = e in cc
    fit (x ∷ us) [] e h = let y : x.hole ∷ map (λ z. z.hole) us ≡ List.[] = e in cc
    fit (x ∷ us) (y ∷ vs) e h =
        let first : x.hole ≡ y.hole = list-head e in
        (first, h x y (inl refl) (inl refl) first, fit us vs (list-tail e) (λ v w a b c. h v w (inr a) (inr b) c))

    fitting : (u v : OfUnit) (m n : Text) (k : ℕ) → In nodes (Module u m) k → In nodes
        (Module v n) k → Fit (out-Unit u).fills (out-Unit v).fills
    fitting u v m n k p q =
        let here = unit-listed u m k p in
        let there = unit-listed v n k q in
        let heads = one_head nodes s.closed u v m n k p q in
        fit (out-Unit u).fills (out-Unit v).fills (lawful.same_holes u v here there heads.0) (λ x y a b e.
        let left = found-among (out-Unit u).fills x (lawful.rising u here) a in
        let right = found-among (out-Unit v).fills y (lawful.rising v there) b in
        let first = fill-class es nodes table u m x.hole k x.ident p left in
        let second = fill-class es nodes table v n y.hole k y.ident q right in
        let same = one_fill nodes s.closed u v m n x.hole k first.0 second.0 x.ident y.ident p q left
        (ap (λ h. found h (out-Unit v).fills) e ∙ right) first.1 second.1 in
        (first.0, first.1, second.1 ∙ ap Some (sym same)))

    -- what is built is what the terms become
    fitted : (us vs l : List Fill) → Fit us vs → Builds nodes built vs l
        → ((x : Fill) → Among x us → (k : ℕ) (t : Ident) → class_at x.ident nodes ≡ Some k → built_at k built ≡ Some t
        → filled x.ident f ≡ t) → composed us f ≡ l
    fitted [] vs l a NoFills below = refl
    fitted [] vs l a (MoreFills y k t ws r p q b) below = absurd a
    fitted (x ∷ us) vs l a NoFills below = absurd a
    fitted (x ∷ us) vs l a (MoreFills y k t ws r p q b) below =
        let class : class_at x.ident nodes ≡ Some k = (a.1).1 ∙ sym (a.1).2 ∙ p in
        let first : filled x.ident f ≡ t = below x (inl refl) k t class q in
        let rest : composed us f ≡ r = fitted us ws r a.2 b (λ z h. below z (inr h)) in
        λ w. record { hole = a.0 w; ident = first w } ∷ rest w

    fill-light : (u : OfUnit) (m : Text) (k : ℕ) → In nodes (Module u m) k → (x : Fill) → Among x
        (out-Unit u).fills → weight x.ident < weight (Module u m)
    fill-light u m k p x a = fill-lighter u m x.hole x.ident
        (found-among (out-Unit u).fills x (lawful.rising u (unit-listed u m k p)) a)

    becomes : (w : ℕ) (a : Ident) (k : ℕ) (t : Ident) → weight a < w → In nodes a k → built_at k built ≡ Some t
        → filled a f ≡ t
    becomes zero a k t lt p b = absurd (omega (arith, lt))
    becomes (suc w) (Hole n) k t lt p b = puts n k t p b
    becomes (suc w) (Module' y (more_of-Unit u end_of-Unit) m) k t lt p b =
        let is = Module-is y u m in
        ap (λ v. filled v f) is ∙ module-becomes u m k t (subst (λ v. In nodes v k) is p) (st.entries k t b)
        (λ x h l i c d. becomes w x.ident l i (let a = fill-light u m k (subst (λ v. In nodes v k) is p) x h in
        let light : weight (Module u m) < suc w = subst (λ v. weight v < suc w) is lt in
        omega (arith, a, light)) (class_at-found x.ident nodes l c) d)
      where
        module-becomes : (v : OfUnit) (n : Text) (j : ℕ) (i : Ident) → In nodes (Module v n) j → IsEntry nodes built j i
            → ((x : Fill) → Among x (out-Unit v).fills → (l : ℕ) (z : Ident) → class_at x.ident nodes ≡ Some l
            → built_at l built ≡ Some z → filled x.ident f ≡ z) → filled (Module v n) f ≡ i
        module-becomes v n j i q (inl h) below = absurd (h.no_module v n q)
        module-becomes v n j i q (inr e) below =
            let heads = one_head nodes s.closed v e.unit n e.name j q e.listed in
            let same : composed (out-Unit v).fills f ≡ e.fills =
            fitted (out-Unit v).fills (out-Unit e.unit).fills e.fills
            (fitting v e.unit n e.name j q e.listed) e.builds below in
            filled-Module v n f ∙ ap (λ x. Module x n) (filled_unit-out v f)
            ∙ (λ x. Module (roll-Unit (record { component = heads.0 x; fills = same x })) (heads.1 x)) ∙ sym e.is

    unifies : (rest : List Equation) → ((e : Equation) → Among e rest → Among e es) → IsUnifier rest f
    unifies [] inside = tt
    unifies (e ∷ rest) inside =
        let o = s.joined.stated e (inside e (inl refl)) in
        let d = done e.left o.0 o.1 in (
          becomes (suc (weight e.left)) e.left o.0 d.0 (let x : weight e.left ≡ weight e.left = refl in
              omega (arith, x)) o.1 d.1
              ∙ sym (becomes (suc (weight e.right)) e.right o.0 d.0 (let x : weight e.right ≡ weight e.right = refl in
              omega (arith, x)) o.2 d.1),
          unifies rest (λ x h. inside x (inr h)),
        )

  all : FillsRest nodes built table.one done nodes [] (answer built nodes [])
  all = answers nodes built table.one done nodes [] (λ x h. h) (no-fills nodes built table.one)

  -- what the answer puts at a hole
  at : (n : Text) → ((k : ℕ) × In nodes (Hole n) k × (built_at k built ≡ Some (at_hole n (answer built nodes []))))
      ⊎ (at_hole n (answer built nodes []) ≡ Hole n)
  at n = elim (some-or-none (found n (answer built nodes []))) [
    | inl e ↦ inr (ap (λ o. unwrap_or o (Hole n)) e)
    | inr (t, e) ↦ let o = all.fills.only n t e in inl (o.0, o.1, o.2 ∙ sym (ap (λ o. Some (unwrap_or o (Hole n))) e))
  ]

  general : (g : List Fill) → IsUnifier es g → (n : Text) → filled (at_hole n (answer built nodes [])) g ≡ at_hole n g
  general g u n = elim (at n) [
    | inl (k, p, b) ↦ st.general g u k (Hole n) (at_hole n (answer built nodes [])) b p
    | inr e ↦ ap (λ i. filled i g) e
  ]

  least : (n m : Text) → at_hole n (answer built nodes []) ≡ Hole m → Before n m → ⊥
  least n m e b = elim (at n) [
    | inr f ↦ not_before_itself m (subst (λ z. Before z m) (Hole-name n m (sym f ∙ e)) b)
    | inl (k, p, d) ↦ elim (st.entries k (at_hole n (answer built nodes [])) d) [
      | inl h ↦ h.first n p (subst (λ z. Before n z) (sym (Hole-name h.name m (sym h.is ∙ e))) b)
      | inr x ↦ made-not-hole x.unit x.fills x.name m (sym x.is ∙ e)
    ]
  ]

  pub is-answer : IsAnswer es (answer built nodes [])
  is-answer = record {
    unifies = unifies (answer built nodes []) all.here es (λ e h. h);
    general = general;
    rise = all.fills.rise;
    moves = all.fills.moves;
    least = least;
  }

  -- the answer is made of the holes and heads of the equations
  pub answer-occurs : AreOfEquations es (answer built nodes [])
  answer-occurs = record {
    holes = λ f a. let o = put f a in in-terms es nodes built table st (Hole f.hole) o.0 o.1;
    parts = λ f a.
        let o = put f a in
        let light : weight f.ident ≡ weight f.ident = refl in
        occurs-built es nodes built table st (suc (weight f.ident)) o.0 f.ident (omega (arith, light)) o.2;
  }
    where
      put : (f : Fill) → Among f (answer built nodes [])
          → (k : ℕ) × In nodes (Hole f.hole) k × (built_at k built ≡ Some f.ident)
      put f a = all.fills.only f.hole f.ident (found-among (answer built nodes []) f all.fills.rise a)
