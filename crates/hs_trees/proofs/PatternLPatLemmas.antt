-- How an `lpat` and a constructor operator are read or refused.
use Rattle.std.proofs.Common.{◌≡◌, ℕ, true, false, List, [], ◌∷◌, ◌++◌, length, refl, sym, ap, ◌∙◌, subst, append_assoc}
use Rattle.std.proofs.Common.{true≢false, arith}
use Rattle.std.specs.Prelude.{◌&&◌, ◌||◌, Option, Some, None}
use Rattle.std.proofs.lemmas.Slice.Eq.{bytes_eq-Decides}
use Rattle.std.proofs.lemmas.List.Folds.{flat_map-map}
use Rattle.hs_forms.specs.Reading.{SameStart, begins, Reads, Refuses}
use Rattle.hs_forms.specs.Limits.{Within}
use Rattle.hs_forms.specs.Answers.{Accepts, Rejects, Fails}
use Rattle.hs_tokens.specs.Terminals.{is_at, is_integer, is_minus, minus}
use Rattle.hs_trees.specs.Patterns.{Ts, gcon_tokens, spelling_apat, spelling_lpat, is_gcon, is_apat, is_lpat}
use Rattle.hs_trees.specs.Patterns.{depth_of_apat, depth_of_lpat, starts_apat, APats, spelling_apats, depth_of_apats}
use Rattle.hs_trees.specs.Patterns.{are_apats, apat_form, apats_form, lpat_form}
use Rattle.hs_tokens.specs.declared.terminal.Terminal.TheVariants as t
use Rattle.hs_forms.specs.declared.fault.Fault.{Fault}
use Rattle.hs_trees.specs.declared.patterns.GConTree.{GConTree}
use Rattle.hs_trees.specs.declared.patterns.LPatTree.{LPatTree, LPatTree-F, out-LPatTree, roll-LPatTree}
use Rattle.hs_trees.specs.declared.patterns.LPatTree.{roll-out-LPatTree}
use Rattle.hs_trees.specs.declared.patterns.LPatTree.TheVariants as lp
use Rattle.hs_trees.specs.declared.patterns.APatTree.{APatTree, APatTree-F, fold-APatTree, fold-roll-APatTree}
use Rattle.hs_trees.specs.declared.patterns.APatTree.TheVariants as a
use Rattle.hs_forms.proofs.FormLemmas.{begins_append, begins_same, begins_within, same_start_append}
use Rattle.std.proofs.lemmas.Bool.{and_from}
use Rattle.hs_forms.proofs.LimitLemmas.{within_zero, and_left, and_right, or_left, or_right}
use Rattle.hs_forms.proofs.StateLemmas.{fails_after}
use Rattle.hs_trees.proofs.PatternLayerLemmas.{LLayer, apat_starts, lpat_spelled, lpat_is, lpat_deep}
use Rattle.hs_trees.proofs.PatternCaseLemmas.{con_spelled, con_is}
use Rattle.hs_trees.proofs.PatternChainLemmas.{apat_apart}
use Rattle.hs_trees.proofs.PatternAtomLemmas.{con_good, clash}

-- the three productions
pub negative_spelled : (n : List ℕ) → spelling_lpat (lp.Negative n) ≡ t.VarSym minus ∷ t.Integer n ∷ []
negative_spelled n = ap spelling_lpat (sym (lp.rolls-Negative n)) ∙ lpat_spelled (LPatTree-F.Negative n)

negative_deep : (n : List ℕ) → depth_of_lpat (lp.Negative n) ≡ 0
negative_deep n = ap depth_of_lpat (sym (lp.rolls-Negative n)) ∙ lpat_deep (LPatTree-F.Negative n)

negative_is : (n : List ℕ) → is_lpat (lp.Negative n) ≡ true
negative_is n = ap is_lpat (sym (lp.rolls-Negative n)) ∙ lpat_is (LPatTree-F.Negative n)

pub apply_spelled : (c : GConTree) (p : APats) → spelling_lpat (lp.Apply c p.0 p.1) ≡ gcon_tokens c ++ spelling_apats p
apply_spelled c p =
    ap spelling_lpat (sym (lp.rolls-Apply c p.0 p.1)) ∙ lpat_spelled (LPatTree-F.Apply c p.0 p.1)
    ∙ ap (λ ts. gcon_tokens c ++ (spelling_apat p.0 ++ ts)) (flat_map-map (λ x. x) spelling_apat p.1)

apply_deep : (c : GConTree) (p : APats) → depth_of_lpat (lp.Apply c p.0 p.1) ≡ depth_of_apats p
apply_deep c p = ap depth_of_lpat (sym (lp.rolls-Apply c p.0 p.1)) ∙ lpat_deep (LPatTree-F.Apply c p.0 p.1)

pub apply_is : (c : GConTree) (p : APats) → is_lpat (lp.Apply c p.0 p.1) ≡ is_gcon c && are_apats p
apply_is c p = ap is_lpat (sym (lp.rolls-Apply c p.0 p.1)) ∙ lpat_is (LPatTree-F.Apply c p.0 p.1)

pub alone_spelled : (x : APatTree) → spelling_lpat (lp.APat x) ≡ spelling_apat x
alone_spelled x = ap spelling_lpat (sym (lp.rolls-APat x)) ∙ lpat_spelled (LPatTree-F.APat x)

alone_deep : (x : APatTree) → depth_of_lpat (lp.APat x) ≡ depth_of_apat x
alone_deep x = ap depth_of_lpat (sym (lp.rolls-APat x)) ∙ lpat_deep (LPatTree-F.APat x)

pub alone_is : (x : APatTree) → is_lpat (lp.APat x) ≡ is_apat x
alone_is x = ap is_lpat (sym (lp.rolls-APat x)) ∙ lpat_is (LPatTree-F.APat x)

pub data LPatCase (other : LPatTree) (s after : Ts) : Type 0 where
  of_negative : (n : List ℕ) → other ≡ lp.Negative n → s ≡ t.VarSym minus ∷ t.Integer n ∷ after → LPatCase other s after
  of_apply : (c : GConTree) (p : APats) → other ≡ lp.Apply c p.0 p.1 → is_gcon c && are_apats p ≡ true
      → s ≡ spelling_apat (a.Con c) ++ (spelling_apats p ++ after) →
      LPatCase other s after
  of_alone : (x : APatTree) → other ≡ lp.APat x → is_apat x ≡ true → s ≡ spelling_apat x ++ after
      → LPatCase other s after

lpat_layer : (x : LLayer) (s after : Ts) → is_lpat (roll-LPatTree x) ≡ true
    → s ≡ spelling_lpat (roll-LPatTree x) ++ after → LPatCase (roll-LPatTree x) s after
lpat_layer (LPatTree-F.Negative n) s after good e =
    of_negative n (lp.rolls-Negative n) (e ∙ ap (λ x. spelling_lpat x ++ after) (lp.rolls-Negative n)
    ∙ ap (λ ts. ts ++ after) (negative_spelled n))
lpat_layer (LPatTree-F.Apply c x xs) s after good e =
    let p : APats = (x, xs) in
    let same = lp.rolls-Apply c x xs in
    of_apply c p same (sym (apply_is c p) ∙ ap is_lpat (sym same) ∙ good)
    (e ∙ ap (λ x. spelling_lpat x ++ after) same ∙ ap (λ ts. ts ++ after) (apply_spelled c p)
    ∙ append_assoc (gcon_tokens c) (spelling_apats p) after
    ∙ ap (λ ts. ts ++ (spelling_apats p ++ after)) (sym (con_spelled c)))
lpat_layer (LPatTree-F.APat x) s after good e =
    let same = lp.rolls-APat x in
    of_alone x same (sym (alone_is x) ∙ ap is_lpat (sym same) ∙ good)
    (e ∙ ap (λ x. spelling_lpat x ++ after) same ∙ ap (λ ts. ts ++ after) (alone_spelled x))

pub lpat_cases : (other : LPatTree) (s after : Ts) → is_lpat other ≡ true → s ≡ spelling_lpat other ++ after
    → LPatCase other s after
lpat_cases other s after good e =
    subst (λ o. LPatCase o s after) (roll-out-LPatTree other)
    (lpat_layer (out-LPatTree other) s after (ap is_lpat (roll-out-LPatTree other) ∙ good) (e
    ∙ ap (λ o. spelling_lpat o ++ after) (sym (roll-out-LPatTree other))))

-- the constructor of a tree that is one
abbrev con_layer : APatTree-F (Option GConTree) (Unit {0}) (Unit {0}) (Unit {0}) → Option GConTree
con_layer (APatTree-F.Con c) = Some c
con_layer _ = None

abbrev con_of : APatTree → Option GConTree
con_of = fold-APatTree (Option GConTree) (Unit {0}) (Unit {0}) (Unit {0}) con_layer (λ x. tt) (λ x. tt) (λ x. tt)

apats_start : (p : APats) (after : Ts) → begins starts_apat (spelling_apats p ++ after) ≡ true
apats_start p after = begins_append starts_apat (spelling_apats p) after
    (begins_append starts_apat (spelling_apat p.0) _ (apat_starts p.0))

start_quiet : (xs : Ts) → begins starts_apat xs ≡ true → begins is_at xs ≡ false
start_quiet [] h = refl
start_quiet (k ∷ xs) h = apat_apart k h

minus_is : is_minus (t.VarSym minus) ≡ true
minus_is = (bytes_eq-Decides minus minus).1 refl

module _ (limit : Option ℕ) where
  quiet_at : (after : Ts) → begins (λ k. starts_apat k || is_at k) after ≡ false → begins is_at after ≡ false
  quiet_at after q = begins_within (λ k. starts_apat k || is_at k) is_at after
      (λ k e. or_right (starts_apat k) (is_at k) e) q

  quiet_apat : (after : Ts) → begins (λ k. starts_apat k || is_at k) after ≡ false → begins starts_apat after ≡ false
  quiet_apat after q = begins_within (λ k. starts_apat k || is_at k) starts_apat after
      (λ k e. or_left (starts_apat k) (is_at k) e) q

  good_con : (c : GConTree) (p : APats) → is_gcon c && are_apats p ≡ true → (apat_form limit).Good (a.Con c)
  good_con c p h = con_good limit c (and_left (is_gcon c) _ h)

  good_apats : (c : GConTree) (p : APats) (other : LPatTree) → other ≡ lp.Apply c p.0 p.1
      → is_gcon c && are_apats p ≡ true → (lpat_form limit).Good other →
      (apats_form limit).Good p
  good_apats c p other eq h good = (
    and_right (is_gcon c) _ h,
    subst (Within limit) (ap depth_of_lpat eq
        ∙ apply_deep c p) good.1,
  )

  good_alone : (x : APatTree) (other : LPatTree) → other ≡ lp.APat x → is_apat x ≡ true → (lpat_form limit).Good other
      → (apat_form limit).Good x
  good_alone x other eq h good = (h, subst (Within limit) (ap depth_of_lpat eq ∙ alone_deep x) good.1)

  -- `-` and an integer
  pub minus_ok : (ts next : Ts) (n : List ℕ) (rest : Ts) → ts ≡ t.VarSym minus ∷ next → next ≡ t.Integer n ∷ rest →
      Accepts (lpat_form limit) depth_of_lpat ts (lp.Negative n) rest 0
  minus_ok ts next n rest at int = record {
    spelled = at ∙ ap (λ l. t.VarSym minus ∷ l) int ∙ ap (λ l. l ++ rest) (sym (negative_spelled n));
    reads = record {
      good = (negative_is n, subst (Within limit) (sym (negative_deep n)) (within_zero limit));
      only = λ s other after same good quiet e.
          decide s other after (lpat_cases other (t.VarSym minus ∷ t.Integer n ∷ s) after good.0
          (ap (λ l. l ++ s) (sym (negative_spelled n)) ∙ e));
    };
    measured_is = sym (negative_deep n);
    room = omega (arith, ap length at, ap length int);
  }
    where
      decide : (s : Ts) (other : LPatTree) (after : Ts) → LPatCase other (t.VarSym minus ∷ t.Integer n ∷ s) after
          → (other ≡ lp.Negative n) × (after ≡ s)
      decide s other after (of_negative m eq e) = let same : m ≡ n = cc in (eq ∙ ap lp.Negative same, cc)
      decide s other after (of_apply c p eq h e) =
          absurd (clash (starts_apat) _ _ (begins_append starts_apat (spelling_apat (a.Con c)) _
          (apat_starts (a.Con c))) (sym e) refl)
      decide s other after (of_alone x eq h e) = absurd
          (clash (starts_apat) _ _ (begins_append starts_apat (spelling_apat x) _ (apat_starts x)) (sym e) refl)

  pub minus_none : (ts next : Ts) → ts ≡ t.VarSym minus ∷ next → begins is_integer next ≡ false
      → Rejects (lpat_form limit) ts (length next)
  minus_none ts next at ends = record {
    before = t.VarSym minus ∷ [];
    bad = next;
    split = at;
    left_is = refl;
    refuses = record {
      begun = (
        t.Integer [] ∷ [],
        lp.Negative [],
        (
          negative_is [],
          subst (Within limit) (sym (negative_deep [])) (within_zero limit),
        ),
        sym (negative_spelled []),
      );
      never = λ s other after same good quiet e. decide s other after same
          (lpat_cases other (t.VarSym minus ∷ s) after good.0 e);
    };
  }
    where
      decide : (s : Ts) (other : LPatTree) (after : Ts) → SameStart next s → LPatCase other (t.VarSym minus ∷ s) after
          → ⊥
      decide s other after same (of_negative m eq e) =
          let e' : s ≡ t.Integer m ∷ after = cc in
          true≢false (sym (ap (begins is_integer) e') ∙ begins_same is_integer next s same ∙ ends)
      decide s other after same (of_apply c p eq h e) =
          clash starts_apat _ _ (begins_append starts_apat (spelling_apat (a.Con c)) _ (apat_starts (a.Con c)))
          (sym e) refl
      decide s other after same (of_alone x eq h e) =
          clash starts_apat _ _ (begins_append starts_apat (spelling_apat x) _ (apat_starts x)) (sym e) refl

  -- an `apat` is refused
  apat_refused : (before bad : Ts) → begins is_minus (before ++ bad) ≡ false → Refuses (apat_form limit) before bad
      → Refuses (lpat_form limit) before bad
  apat_refused before bad ends r = record {
    begun = (
      r.begun.0,
      lp.APat r.begun.1,
      (alone_is r.begun.1 ∙ r.begun.2.0, subst (Within limit) (sym (alone_deep r.begun.1)) r.begun.2.1),
      r.begun.3 ∙ sym (alone_spelled r.begun.1),
    );
    never = λ s other after same good quiet e. decide s other after same good quiet
        (lpat_cases other (before ++ s) after good.0 e);
  }
    where
      decide : (s : Ts) (other : LPatTree) (after : Ts) → SameStart bad s → (lpat_form limit).Good other →
          begins (λ k. starts_apat k || is_at k) after ≡ false → LPatCase other (before ++ s) after → ⊥
      decide s other after same good quiet (of_negative n eq e) =
          true≢false (sym (ap (begins is_minus) e ∙ minus_is)
          ∙ begins_same is_minus (before ++ bad) (before ++ s) (same_start_append before bad s same) ∙ ends)
      decide s other after same good quiet (of_apply c p eq h e) =
          r.never s (a.Con c) (spelling_apats p ++ after) same (good_con c p h) (start_quiet _ (apats_start p after)) e
      decide s other after same good quiet (of_alone x eq h e) =
          r.never s x after same (good_alone x other eq h good) (quiet_at after quiet) e

  pub apat_fails : (ts : Ts) (e : Fault) → begins is_minus ts ≡ false → Fails (apat_form limit) ts e
      → Fails (lpat_form limit) ts e
  apat_fails ts e ends r =
      fails_after (lpat_form limit) (apat_form limit) [] ts ts e refl
      (λ before bad split q. apat_refused before bad (ap (begins is_minus) (sym split) ∙ ends) q) r

  -- an `apat` alone: no constructor that has arguments
  pub alone_read : (x : APatTree) (rest : Ts) → Reads (apat_form limit) x rest
      → ((c : GConTree) → a.Con c ≡ x → begins starts_apat rest ≡ false) →
      Reads (lpat_form limit) (lp.APat x) rest
  alone_read x rest r stop = record {
    good = (alone_is x ∙ r.good.0, subst (Within limit) (sym (alone_deep x)) r.good.1);
    only = λ s other after same good quiet e.
        decide s other after same good quiet (lpat_cases other (spelling_apat x ++ s) after good.0
        (ap (λ l. l ++ s) (sym (alone_spelled x)) ∙ e));
  }
    where
      decide : (s : Ts) (other : LPatTree) (after : Ts) → SameStart rest s → (lpat_form limit).Good other →
          begins (λ k. starts_apat k || is_at k) after ≡ false → LPatCase other (spelling_apat x ++ s) after
          → (other ≡ lp.APat x) × (after ≡ s)
      decide s other after same good quiet (of_negative n eq e) =
          absurd (clash starts_apat _ _ (begins_append starts_apat (spelling_apat x) s (apat_starts x)) e refl)
      decide s other after same good quiet (of_apply c p eq h e) =
          let found = r.only s (a.Con c) (spelling_apats p ++ after) same (good_con c p h)
          (start_quiet _ (apats_start p after)) e in
          absurd (true≢false (sym (sym (ap (begins starts_apat) found.1) ∙ apats_start p after)
          ∙ begins_same starts_apat rest s same ∙ stop c found.0))
      decide s other after same good quiet (of_alone y eq h e) =
          let found = r.only s y after same (good_alone y other eq h good) (quiet_at after quiet) e in
          (eq ∙ ap lp.APat found.0, found.1)

  pub alone_ok : (ts : Ts) (x : APatTree) (rest : Ts) (d : ℕ) → Accepts (apat_form limit) depth_of_apat ts x rest d →
      ((c : GConTree) → a.Con c ≡ x → begins starts_apat rest ≡ false)
      → Accepts (lpat_form limit) depth_of_lpat ts (lp.APat x) rest d
  alone_ok ts x rest d acc stop = record {
    spelled = acc.spelled ∙ ap (λ l. l ++ rest) (sym (alone_spelled x));
    reads = alone_read x rest acc.reads stop;
    measured_is = acc.measured_is ∙ sym (alone_deep x);
    room = acc.room;
  }

  con_inj : (c d : GConTree) → a.Con c ≡ a.Con d → c ≡ d
  con_inj c d e =
      let some : Some c ≡ Some d = sym (one c) ∙ ap con_of e ∙ one d in cc
    where
      one : (c : GConTree) → con_of (a.Con c) ≡ Some c
      one c = ap con_of (sym (a.rolls-Con c)) ∙ fold-roll-APatTree (Option GConTree) (Unit {0}) (Unit {0})
          (Unit {0}) con_layer (λ x. tt) (λ x. tt) (λ x. tt) (APatTree-F.Con c)

  -- a constructor and its arguments
  pub applied_read : (c : GConTree) (here : Ts) (p : APats) (rest : Ts) → Reads (apat_form limit) (a.Con c) here
      → here ≡ spelling_apats p ++ rest →
      Reads (apats_form limit) p rest → is_gcon c ≡ true → Reads (lpat_form limit) (lp.Apply c p.0 p.1) rest
  applied_read c here p rest r at q is = record {
    good = (apply_is c p ∙ and_from _ _ is q.good.0, subst (Within limit) (sym (apply_deep c p)) q.good.1);
    only = λ s other after same good quiet e.
        decide s other after same good quiet
        (lpat_cases other (spelling_apat (a.Con c) ++ (spelling_apats p ++ s)) after good.0
        (ap (λ l. l ++ (spelling_apats p ++ s)) (con_spelled c)
        ∙ sym (append_assoc (gcon_tokens c) (spelling_apats p) s)
        ∙ ap (λ l. l ++ s) (sym (apply_spelled c p)) ∙ e));
  }
    where
      on : (s : Ts) → SameStart rest s → SameStart here (spelling_apats p ++ s)
      on s same = subst (λ l. SameStart l (spelling_apats p ++ s)) (sym at)
          (same_start_append (spelling_apats p) rest s same)

      decide : (s : Ts) (other : LPatTree) (after : Ts) → SameStart rest s → (lpat_form limit).Good other →
          begins (λ k. starts_apat k || is_at k) after ≡ false
          → LPatCase other (spelling_apat (a.Con c) ++ (spelling_apats p ++ s)) after →
          (other ≡ lp.Apply c p.0 p.1) × (after ≡ s)
      decide s other after same good quiet (of_negative n eq e) =
          absurd (clash starts_apat _ _ (begins_append starts_apat (spelling_apat (a.Con c)) _ (apat_starts (a.Con c)))
          e refl)
      decide s other after same good quiet (of_alone y eq h e) =
          let found = r.only (spelling_apats p ++ s) y after (on s same) (good_alone y other eq h good)
          (quiet_at after quiet) e in
          absurd (clash starts_apat _ _ (apats_start p s) (sym found.1) (quiet_apat after quiet))
      decide s other after same good quiet (of_apply d u eq h e) =
          let found = r.only (spelling_apats p ++ s) (a.Con d) (spelling_apats u ++ after) (on s same) (good_con d u h)
          (start_quiet _ (apats_start u after)) e in
          let next = q.only s u after same (good_apats d u other eq h good) quiet (sym found.1) in (
            eq ∙ ap (λ k. lp.Apply k u.0 u.1) (con_inj d c found.0)
                ∙ ap (λ (k : APats). lp.Apply c k.0 k.1) next.0,
            next.1,
          )

  pub applied_ok : (ts : Ts) (c : GConTree) (here : Ts) (d : ℕ) (x : APatTree) (xs : List APatTree) (rest : Ts)
      (e : ℕ) →
      Accepts (apat_form limit) depth_of_apat ts (a.Con c) here d
      → Accepts (apats_form limit) depth_of_apats here (x, xs) rest e →
      Accepts (lpat_form limit) depth_of_lpat ts (lp.Apply c x xs) rest e
  applied_ok ts c here d x xs rest e acc args =
      let p : APats = (x, xs) in
      record {
        spelled = acc.spelled ∙ ap (λ l. l ++ here) (con_spelled c) ∙ ap (λ l. gcon_tokens c ++ l) args.spelled
            ∙ sym (append_assoc (gcon_tokens c) (spelling_apats p) rest)
            ∙ ap (λ l. l ++ rest) (sym (apply_spelled c p));
        reads = applied_read c here p rest acc.reads args.spelled args.reads (sym (con_is c) ∙ acc.reads.good.0);
        measured_is = args.measured_is ∙ sym (apply_deep c p);
        room = omega (arith, acc.room, args.room);
      }

  args_refused : (c : GConTree) (here before bad : Ts) → Reads (apat_form limit) (a.Con c) here → here ≡ before ++ bad
      → begins starts_apat here ≡ true →
      Refuses (apats_form limit) before bad → is_gcon c ≡ true
      → Refuses (lpat_form limit) (spelling_apat (a.Con c) ++ before) bad
  args_refused c here before bad r at starts q is = record {
    begun = (
      q.begun.0,
      lp.Apply c q.begun.1.0 q.begun.1.1,
      (
        apply_is c q.begun.1 ∙ and_from _ _ is q.begun.2.0,
        subst (Within limit) (sym (apply_deep c q.begun.1)) q.begun.2.1,
      ),
      append_assoc (spelling_apat (a.Con c)) before q.begun.0 ∙ ap (λ l. spelling_apat (a.Con c) ++ l) q.begun.3
          ∙ ap (λ l. l ++ spelling_apats q.begun.1) (con_spelled c) ∙ sym (apply_spelled c q.begun.1),
    );
    never = λ s other after same good quiet e.
        decide s other after same good quiet
        (lpat_cases other (spelling_apat (a.Con c) ++ (before ++ s)) after good.0
        (sym (append_assoc (spelling_apat (a.Con c)) before s) ∙ e));
  }
    where
      on : (s : Ts) → SameStart bad s → SameStart here (before ++ s)
      on s same = subst (λ l. SameStart l (before ++ s)) (sym at) (same_start_append before bad s same)

      decide : (s : Ts) (other : LPatTree) (after : Ts) → SameStart bad s → (lpat_form limit).Good other →
          begins (λ k. starts_apat k || is_at k) after ≡ false
          → LPatCase other (spelling_apat (a.Con c) ++ (before ++ s)) after → ⊥
      decide s other after same good quiet (of_negative n eq e) =
          clash starts_apat _ _ (begins_append starts_apat (spelling_apat (a.Con c)) _ (apat_starts (a.Con c))) e refl
      decide s other after same good quiet (of_alone y eq h e) =
          let found = r.only (before ++ s) y after (on s same) (good_alone y other eq h good)
          (quiet_at after quiet) e in
          clash starts_apat _ _ (begins_same starts_apat here (before ++ s) (on s same)
          ∙ starts) (sym found.1) (quiet_apat after quiet)
      decide s other after same good quiet (of_apply d u eq h e) =
          let found = r.only (before ++ s) (a.Con d) (spelling_apats u ++ after) (on s same) (good_con d u h)
          (start_quiet _ (apats_start u after)) e in
          q.never s u after same (good_apats d u other eq h good) quiet (sym found.1)

  pub args_fail : (ts : Ts) (c : GConTree) (here : Ts) (d : ℕ) (e : Fault)
      → Accepts (apat_form limit) depth_of_apat ts (a.Con c) here d →
      begins starts_apat here ≡ true → Fails (apats_form limit) here e → Fails (lpat_form limit) ts e
  args_fail ts c here d e acc starts r =
      fails_after (lpat_form limit) (apats_form limit) (spelling_apat (a.Con c)) ts here e acc.spelled
      (λ before bad split q. args_refused c here before bad acc.reads split starts q (sym (con_is c)
      ∙ acc.reads.good.0)) r
