-- Patterns as chains.
use Rattle.std.proofs.Common.{◌≡◌, ℕ, ◌+◌, true, false, List, [], ◌∷◌, ◌++◌, length, refl, sym, ◌∙◌, subst, true≢false}
use Rattle.std.proofs.Common.{arith, length-append}
use Rattle.std.specs.Prelude.{map, max, ◌||◌, Option}
use Rattle.hs_forms.specs.Limits.{Within, lowered, deepest}
use Rattle.hs_tokens.specs.Terminals.{is_at, is_comma, starts_qconop}
use Rattle.hs_trees.specs.Patterns.{Ts, starts_apat, spelling_apat, spelling_op, spelling_pat, depth_of_apat}
use Rattle.hs_trees.specs.Patterns.{depth_of_lpat, depth_of_op, depth_of_pat, is_apat, is_lpat, is_op, is_pat, APats}
use Rattle.hs_trees.specs.Patterns.{apat_form, apats_form, lpat_form, pat_form, Few, Pats, pats_form}
use Rattle.hs_tokens.specs.declared.terminal.Terminal.{Terminal}
use Rattle.hs_tokens.specs.declared.terminal.Terminal.TheVariants as t
use Rattle.hs_trees.specs.declared.patterns.APatTree.{APatTree}
use Rattle.hs_trees.specs.declared.patterns.LPatTree.{LPatTree}
use Rattle.hs_trees.specs.declared.patterns.OpLPat.{OpLPat}
use Rattle.hs_trees.specs.declared.patterns.PatTree.{PatTree, out-PatTree, roll-PatTree, roll-out-PatTree}
use Rattle.hs_forms.specs.Productions.{Chain}
use Rattle.std.proofs.lemmas.Bool.{and_from}
use Rattle.hs_forms.proofs.LimitLemmas.{within_less, within_lowered, within_raised, within_max, within_zero, and_left}
use Rattle.hs_forms.proofs.LimitLemmas.{and_right, all_here, all_more, deep_here, deep_front, deep_more, or_left}
use Rattle.hs_forms.proofs.LimitLemmas.{or_right}
use Rattle.hs_trees.proofs.PatternLayerLemmas.{PLayer, apat_starts, op_starts, pat_spelled, pat_deep, pat_is}

abbrev pub make_pat : LPatTree → List OpLPat → PatTree
make_pat h xs = roll-PatTree (record { first = h; rest = xs })

abbrev pub comma_pats : PatTree → Ts
comma_pats x = t.Comma ∷ spelling_pat x

pub apat_apart : (k : Terminal) → starts_apat k ≡ true → is_at k ≡ false
apat_apart t.At h = absurd (true≢false (sym h))
apat_apart _ h = refl

pub op_apart : (k : Terminal) → starts_qconop k ≡ true → starts_apat k || is_at k ≡ false
op_apart (t.ConSym n) h = refl
op_apart t.Colon h = refl
op_apart t.Backquote h = refl
op_apart _ h = absurd (true≢false (sym h))

pub comma_apart : (k : Terminal) → is_comma k ≡ true → (starts_apat k || is_at k) || starts_qconop k ≡ false
comma_apart t.Comma h = refl
comma_apart _ h = absurd (true≢false (sym h))

module _ (limit : Option ℕ) where
  abbrev pub apats_item : ℕ → APatTree → Type 0
  apats_item n x = (is_apat x ≡ true) × Within limit (depth_of_apat x)

  abbrev pub pat_item : ℕ → OpLPat → Type 0
  pat_item n x = (is_op x ≡ true) × Within (lowered limit (n + 1)) (depth_of_op x)

  abbrev pub pats_item : ℕ → PatTree → Type 0
  pats_item n x = (is_pat x ≡ true) × Within limit (depth_of_pat x)

  pub apats_more : (h : APatTree) (xs : List APatTree) (x : APatTree) → (apats_form limit).Good (h, xs) → Unit {0}
      → apats_item (length xs) x →
      (apats_form limit).Good (h, xs ++ x ∷ [])
  apats_more h xs x good room item =
      let new = deep_more depth_of_apat xs x in (
        and_from _ _ (and_left (is_apat h) _ good.0) (all_more is_apat xs x (and_right (is_apat h) _ good.0) item.0),
        within_less limit _ (max (max (depth_of_apat h) (deepest (map depth_of_apat xs))) (depth_of_apat x) + 0)
            (omega arith)
            (within_max limit _ _ 0 (within_less limit _ _ (omega arith) good.1)
            (within_less limit _ _ (omega arith) item.1)),
      )

  abbrev pub apats_chain : Chain Terminal APats APatTree APatTree
  apats_chain = record {
    form = apats_form limit;
    head = apat_form limit;
    items = spelling_apat;
    item = apats_item;
    inner = λ x k. is_at k;
    starter = starts_apat;
    make = λ h xs. (h, xs);
    head_depth = depth_of_apat;
    item_depth = depth_of_apat;
    Room = λ h xs. Unit {0};
    laws = record {
      spelled = λ h xs. refl;
      taken = λ p. (p.0, p.1, refl);
      good_head = λ h xs good. (and_left (is_apat h) _ good.0, within_less limit _ _ (omega arith) good.1);
      good_item = λ h xs x more good. (
        all_here is_apat xs x more (and_right (is_apat h) _ good.0),
        (let here = deep_here depth_of_apat xs x more in within_less limit _ _ (omega arith) good.1),
      );
      starts = apat_starts;
      ends = λ h xs k e. or_left (starts_apat k) (is_at k) e;
      ends_head = λ h k e. or_right (starts_apat k) (is_at k) e;
      ends_item = λ h xs x k e. or_right (starts_apat k) (is_at k) e;
      apart_head = λ h x more k good e. apat_apart k e;
      apart_item = λ h xs x y more k good e. apat_apart k e;
    };
    first = λ h good. (
      and_from (is_apat h) true good.0 refl,
      within_less limit _ (depth_of_apat h) (omega arith) good.1,
    );
    more = apats_more;
    full = λ h xs x ys good. tt;
  }

  -- the limit has room for one more operator
  abbrev pub PatRoom : LPatTree → List OpLPat → Type 0
  PatRoom h xs = Within limit (max (depth_of_lpat h) (deepest (map depth_of_op xs)) + (length xs + 1))

  pub pat_first : (h : LPatTree) → (lpat_form limit).Good h → (pat_form limit).Good (make_pat h [])
  pat_first h good =
      let l : PLayer = record { first = h; rest = [] } in (
        pat_is l ∙ and_from (is_lpat h) true good.0 refl,
        subst (Within limit) (sym (pat_deep l)) (within_less limit _ (depth_of_lpat h) (omega arith) good.1),
      )

  pub pat_more : (h : LPatTree) (xs : List OpLPat) (x : OpLPat) → (pat_form limit).Good (make_pat h xs) → PatRoom h xs →
      pat_item (length xs) x → (pat_form limit).Good (make_pat h (xs ++ x ∷ []))
  pat_more h xs x good room item =
      let l : PLayer = record { first = h; rest = xs } in
      let l' : PLayer = record { first = h; rest = xs ++ x ∷ [] } in
      let is = sym (pat_is l) ∙ good.0 in
      let new = deep_more depth_of_op xs x in
      let long = length-append xs (x ∷ []) in
      let part : Within limit (depth_of_op x + (length xs + 1)) =
      within_raised limit (depth_of_op x) (length xs + 1) (within_less limit _ _ (omega arith) room) item.1 in (
        pat_is l' ∙ and_from _ _ (and_left (is_lpat h) _ is) (all_more is_op xs x (and_right (is_lpat h) _ is) item.0),
        subst (Within limit) (sym (pat_deep l'))
            (within_less limit _ (max (max (depth_of_lpat h) (deepest (map depth_of_op xs))) (depth_of_op x) +
            (length xs + 1)) (omega arith)
            (within_max limit _ _ (length xs + 1) room part)),
      )

  pub pat_full : (h : LPatTree) (xs : List OpLPat) (x : OpLPat) (ys : List OpLPat)
      → (pat_form limit).Good (make_pat h (xs ++ x ∷ ys)) →
      PatRoom h xs
  pat_full h xs x ys good =
      let l : PLayer = record { first = h; rest = xs ++ x ∷ ys } in
      let deep = deep_front depth_of_op xs (x ∷ ys) in
      let long = length-append xs (x ∷ ys) in
      within_less limit _ _ (omega arith) (subst (Within limit) (pat_deep l) good.1)

  abbrev pub pat_chain : Chain Terminal PatTree LPatTree OpLPat
  pat_chain = record {
    form = pat_form limit;
    head = lpat_form limit;
    items = spelling_op;
    item = pat_item;
    inner = λ x k. starts_apat k || is_at k;
    starter = starts_qconop;
    make = make_pat;
    head_depth = depth_of_lpat;
    item_depth = depth_of_op;
    Room = PatRoom;
    laws = record {
      spelled = λ h xs. pat_spelled (record { first = h; rest = xs });
      taken = λ x. ((out-PatTree x).first, (out-PatTree x).rest, sym (roll-out-PatTree x));
      good_head = λ h xs good.
          let l : PLayer = record { first = h; rest = xs } in (
            and_left _ _ (sym (pat_is l) ∙ good.0),
            within_less limit _ _ (omega arith) (subst (Within limit) (pat_deep l) good.1),
          );
      good_item = λ h xs x more good.
          let l : PLayer = record { first = h; rest = xs ++ x ∷ more } in (
            all_here is_op xs x more (and_right (is_lpat h) _ (sym (pat_is l) ∙ good.0)),
            (let here = deep_here depth_of_op xs x more in
                let long = length-append xs (x ∷ more) in
                within_lowered limit _ _ (within_less limit _ _ (omega arith)
                (subst (Within limit) (pat_deep l) good.1))),
          );
      starts = op_starts;
      ends = λ h xs k e. or_right (starts_apat k || is_at k) (starts_qconop k) e;
      ends_head = λ h k e. or_left (starts_apat k || is_at k) (starts_qconop k) e;
      ends_item = λ h xs x k e. or_left (starts_apat k || is_at k) (starts_qconop k) e;
      apart_head = λ h x more k good e. op_apart k e;
      apart_item = λ h xs x y more k good e. op_apart k e;
    };
    first = pat_first;
    more = pat_more;
    full = pat_full;
  }

module _ (most limit : Option ℕ) where
  pub pats_more : (h : PatTree) (xs : List PatTree) (x : PatTree) → (pats_form most limit).Good (h, xs)
      → Few most (length xs + 1) →
      pats_item limit (length xs) x → (pats_form most limit).Good (h, xs ++ x ∷ [])
  pats_more h xs x good few item =
      let new = deep_more depth_of_pat xs x in
      let long = length-append xs (x ∷ []) in (
        within_less most _ (length xs + 1) (omega arith) few,
        and_from _ _ (and_left (is_pat h) _ good.1) (all_more is_pat xs x (and_right (is_pat h) _ good.1) item.0),
        within_less limit _ (max (max (depth_of_pat h) (deepest (map depth_of_pat xs))) (depth_of_pat x) + 0)
            (omega arith)
            (within_max limit _ _ 0 (within_less limit _ _ (omega arith) good.2)
            (within_less limit _ _ (omega arith) item.1)),
      )

  pub pats_full : (h : PatTree) (xs : List PatTree) (x : PatTree) (ys : List PatTree)
      → (pats_form most limit).Good (h, xs ++ x ∷ ys) → Few most (length xs + 1)
  pats_full h xs x ys good = let long = length-append xs (x ∷ ys) in
      within_less most _ (length (xs ++ x ∷ ys)) (omega arith) good.0

  abbrev pub pats_chain : Chain Terminal Pats PatTree PatTree
  pats_chain = record {
    form = pats_form most limit;
    head = pat_form limit;
    items = comma_pats;
    item = pats_item limit;
    inner = λ x k. (starts_apat k || is_at k) || starts_qconop k;
    starter = is_comma;
    make = λ h xs. (h, xs);
    head_depth = depth_of_pat;
    item_depth = depth_of_pat;
    Room = λ h xs. Few most (length xs + 1);
    laws = record {
      spelled = λ h xs. refl;
      taken = λ p. (p.0, p.1, refl);
      good_head = λ h xs good. (and_left (is_pat h) _ good.1, within_less limit _ _ (omega arith) good.2);
      good_item = λ h xs x more good. (
        all_here is_pat xs x more (and_right (is_pat h) _ good.1),
        (let here = deep_here depth_of_pat xs x more in within_less limit _ _ (omega arith) good.2),
      );
      starts = λ x. refl;
      ends = λ h xs k e. or_right ((starts_apat k || is_at k) || starts_qconop k) (is_comma k) e;
      ends_head = λ h k e. or_left ((starts_apat k || is_at k) || starts_qconop k) (is_comma k) e;
      ends_item = λ h xs x k e. or_left ((starts_apat k || is_at k) || starts_qconop k) (is_comma k) e;
      apart_head = λ h x more k good e. comma_apart k e;
      apart_item = λ h xs x y more k good e. comma_apart k e;
    };
    first = λ h good. (
      within_zero most,
      and_from (is_pat h) true good.0 refl,
      within_less limit _ (depth_of_pat h) (omega arith) good.1,
    );
    more = pats_more;
    full = pats_full;
  }
