-- How kinds are read or refused.
use Rattle.std.proofs.Common.{◌≡◌, ℕ, ◌+◌, true, false, List, [], ◌∷◌, ◌++◌, length, refl, sym, ap, ◌∙◌, subst}
use Rattle.std.proofs.Common.{append_assoc, true≢false, arith, length-append}
use Rattle.std.specs.Prelude.{flat_map, map, max, Option}
use Rattle.std.proofs.lemmas.Slice.Eq.{bytes_eq-Decides}
use Rattle.std.proofs.lemmas.List.Folds.{flat_map-map}
use Rattle.hs_forms.specs.Reading.{Form, SameStart, begins, Reads}
use Rattle.hs_forms.specs.Limits.{Within, lowered, deepest}
use Rattle.hs_forms.specs.Answers.{Accepts, Rejects, Fails}
use Rattle.hs_tokens.specs.Terminals.{is_arrow, is_star, is_right_paren, star}
use Rattle.hs_trees.specs.Kinds.{Ts, akind_tokens, kind_tokens, akind_depth, kind_depth, spelling_akind, spelling_kind}
use Rattle.hs_trees.specs.Kinds.{depth_of_akind, depth_of_kind, is_left_paren, starts_akind, akind_form, kind_form}
use Rattle.hs_tokens.specs.declared.terminal.Terminal.{Terminal}
use Rattle.hs_tokens.specs.declared.terminal.Terminal.TheVariants as t
use Rattle.hs_forms.specs.declared.fault.Fault.{Fault}
use Rattle.hs_trees.specs.declared.types.AKindTree.{AKindTree, AKindTree-F, out-AKindTree, roll-AKindTree}
use Rattle.hs_trees.specs.declared.types.AKindTree.{roll-out-AKindTree, fold-roll-AKindTree, map-AKindTree}
use Rattle.hs_trees.specs.declared.types.AKindTree.TheVariants as a
use Rattle.hs_trees.specs.declared.types.KindTree.{KindTree, KindTree-F, out-KindTree, roll-KindTree, roll-out-KindTree}
use Rattle.hs_trees.specs.declared.types.KindTree.{fold-roll-KindTree}
use Rattle.hs_forms.proofs.FormLemmas.{begins_same, reads_closed, refuses_closed}
use Rattle.hs_forms.specs.Forms.{closed}
use Rattle.hs_forms.proofs.LimitLemmas.{within_less, within_lowered, within_raised, within_zero, within_max, deep_here}
use Rattle.hs_forms.proofs.LimitLemmas.{deep_front, deep_more}
use Rattle.hs_forms.specs.Productions.{Chain}
use Rattle.hs_forms.proofs.StateLemmas.{fails_after}
use Rattle.hs_forms.specs.Productions.{Leads}
use Rattle.hs_forms.proofs.VariantLemmas.{lead_reads, lead_refuses, none_refused}
use Rattle.hs_forms.proofs.FormLemmas.{closing_missed}
use Rattle.hs_trees.proofs.TypeLayerLemmas.{length_of_map}

abbrev pub ALayer : Type 0
ALayer = AKindTree-F AKindTree KindTree

abbrev pub KLayer : Type 0
KLayer = KindTree-F AKindTree KindTree

akind_spelled : (x : ALayer) → spelling_akind (roll-AKindTree x) ≡ akind_tokens
    (map-AKindTree _ _ _ _ spelling_akind spelling_kind x)
akind_spelled x = fold-roll-AKindTree Ts Ts akind_tokens kind_tokens x

akind_deep : (x : ALayer) → depth_of_akind (roll-AKindTree x) ≡ akind_depth
    (map-AKindTree _ _ _ _ depth_of_akind depth_of_kind x)
akind_deep x = fold-roll-AKindTree ℕ ℕ akind_depth kind_depth x

pub kind_spelled : (x : KLayer) → spelling_kind (roll-KindTree x) ≡ spelling_akind x.first
    ++ flat_map (λ y. t.Arrow ∷ spelling_akind y) x.rest
kind_spelled x =
    fold-roll-KindTree Ts Ts akind_tokens kind_tokens x
    ∙ ap (λ xs. spelling_akind x.first ++ xs) (flat_map-map (λ y. t.Arrow ∷ y) spelling_akind x.rest)

pub kind_deep : (x : KLayer) → depth_of_kind (roll-KindTree x) ≡ max (depth_of_akind x.first)
    (deepest (map depth_of_akind x.rest)) + length x.rest
kind_deep x =
    fold-roll-KindTree ℕ ℕ akind_depth kind_depth x
    ∙ ap (λ n. max (depth_of_akind x.first) (deepest (map depth_of_akind x.rest)) + n)
    (length_of_map depth_of_akind x.rest)

star_is : is_star (t.VarSym star) ≡ true
star_is = (bytes_eq-Decides star star).1 refl

star_spelled : spelling_akind a.Star ≡ t.VarSym star ∷ []
star_spelled = ap spelling_akind (sym a.rolls-Star) ∙ akind_spelled AKindTree-F.Star

star_deep : depth_of_akind a.Star ≡ 0
star_deep = ap depth_of_akind (sym a.rolls-Star) ∙ akind_deep AKindTree-F.Star

pub parens_spelled : (k : KindTree) → spelling_akind (a.Parens k) ≡ t.LeftParen ∷ (spelling_kind k ++ t.RightParen ∷ [])
parens_spelled k = ap spelling_akind (sym (a.rolls-Parens k)) ∙ akind_spelled (AKindTree-F.Parens k)

parens_deep : (k : KindTree) → depth_of_akind (a.Parens k) ≡ depth_of_kind k + 1
parens_deep k = ap depth_of_akind (sym (a.rolls-Parens k)) ∙ akind_deep (AKindTree-F.Parens k)

data AKindCase (other : AKindTree) (s after : Ts) : Type 0 where
  of_star : other ≡ a.Star → s ≡ t.VarSym star ∷ after → AKindCase other s after
  of_parens : (k : KindTree) → other ≡ a.Parens k → s ≡ (t.LeftParen ∷ (spelling_kind k ++ t.RightParen ∷ [])) ++ after
      → AKindCase other s after

akind_layer : (x : ALayer) (s after : Ts) → s ≡ spelling_akind (roll-AKindTree x) ++ after
    → AKindCase (roll-AKindTree x) s after
akind_layer AKindTree-F.Star s after e = of_star a.rolls-Star (e
    ∙ ap (λ ts. ts ++ after) (akind_spelled AKindTree-F.Star))
akind_layer (AKindTree-F.Parens k) s after e = of_parens k (a.rolls-Parens k) (e
    ∙ ap (λ ts. ts ++ after) (akind_spelled (AKindTree-F.Parens k)))

akind_cases : (other : AKindTree) (s after : Ts) → s ≡ spelling_akind other ++ after → AKindCase other s after
akind_cases other s after e =
    subst (λ o. AKindCase o s after) (roll-out-AKindTree other)
    (akind_layer (out-AKindTree other) s after (e ∙ ap (λ o. spelling_akind o ++ after)
    (sym (roll-out-AKindTree other))))

akind_starts_layer : (x : ALayer) → begins starts_akind
    (akind_tokens (map-AKindTree _ _ _ _ spelling_akind spelling_kind x)) ≡ true
akind_starts_layer AKindTree-F.Star = star_is
akind_starts_layer (AKindTree-F.Parens k) = refl

pub akind_starts : (x : AKindTree) → begins starts_akind (spelling_akind x) ≡ true
akind_starts x =
    subst (λ y. begins starts_akind (spelling_akind y) ≡ true) (roll-out-AKindTree x)
    (ap (begins starts_akind) (akind_spelled (out-AKindTree x)) ∙ akind_starts_layer (out-AKindTree x))

abbrev pub make_kind : AKindTree → List AKindTree → KindTree
make_kind h xs = roll-KindTree (record { first = h; rest = xs })

abbrev pub arrow_kinds : AKindTree → Ts
arrow_kinds x = t.Arrow ∷ spelling_akind x

module _ (limit : Option ℕ) where
  abbrev pub kind_item : ℕ → AKindTree → Type 0
  kind_item n x = Within (lowered limit (n + 1)) (depth_of_akind x)

  -- the limit has room for one more arrow
  abbrev pub KindRoom : AKindTree → List AKindTree → Type 0
  KindRoom h xs = Within limit (max (depth_of_akind h) (deepest (map depth_of_akind xs)) + (length xs + 1))

  pub kind_head : (h : AKindTree) → (akind_form limit).Good h → (kind_form limit).Good (make_kind h [])
  kind_head h good =
      let x : KLayer = record { first = h; rest = [] } in
      subst (Within limit) (sym (kind_deep x)) (within_less limit _ (depth_of_akind h) (omega arith) good)

  pub kind_more : (h : AKindTree) (xs : List AKindTree) (x : AKindTree) → (kind_form limit).Good (make_kind h xs)
      → KindRoom h xs →
      kind_item (length xs) x → (kind_form limit).Good (make_kind h (xs ++ x ∷ []))
  kind_more h xs x good room item =
      let y : KLayer = record { first = h; rest = xs ++ x ∷ [] } in
      let new = deep_more depth_of_akind xs x in
      let long = length-append xs (x ∷ []) in
      let part : Within limit (depth_of_akind x + (length xs + 1)) =
      within_raised limit (depth_of_akind x) (length xs + 1) (within_less limit _ _ (omega arith) room) item in
      subst (Within limit) (sym (kind_deep y))
      (within_less limit _ (max (max (depth_of_akind h) (deepest (map depth_of_akind xs))) (depth_of_akind x) +
      (length xs + 1)) (omega arith)
      (within_max limit _ _ (length xs + 1) room part))

  pub kind_full : (h : AKindTree) (xs : List AKindTree) (x : AKindTree) (ys : List AKindTree)
      → (kind_form limit).Good (make_kind h (xs ++ x ∷ ys)) → KindRoom h xs
  kind_full h xs x ys good =
      let y : KLayer = record { first = h; rest = xs ++ x ∷ ys } in
      let deep = deep_front depth_of_akind xs (x ∷ ys) in
      let long = length-append xs (x ∷ ys) in
      within_less limit _ _ (omega arith) (subst (Within limit) (kind_deep y) good)

  abbrev pub kind_chain : Chain Terminal KindTree AKindTree AKindTree
  kind_chain = record {
    form = kind_form limit;
    head = akind_form limit;
    items = arrow_kinds;
    item = kind_item;
    inner = λ x k. false;
    starter = is_arrow;
    make = make_kind;
    head_depth = depth_of_akind;
    item_depth = depth_of_akind;
    Room = KindRoom;
    laws = record {
      spelled = λ h xs. kind_spelled (record { first = h; rest = xs });
      taken = λ x. ((out-KindTree x).first, (out-KindTree x).rest, sym (roll-out-KindTree x));
      good_head = λ h xs good.
          let x : KLayer = record { first = h; rest = xs } in
          within_less limit _ _ (omega arith) (subst (Within limit) (kind_deep x) good);
      good_item = λ h xs x more good.
          let y : KLayer = record { first = h; rest = xs ++ x ∷ more } in
          let here = deep_here depth_of_akind xs x more in
          let long = length-append xs (x ∷ more) in
          within_lowered limit _ _ (within_less limit _ _ (omega arith) (subst (Within limit) (kind_deep y) good));
      starts = λ x. refl;
      ends = λ h xs k e. e;
      ends_head = λ h k e. refl;
      ends_item = λ h xs x k e. refl;
      apart_head = λ h x more k good e. refl;
      apart_item = λ h xs x y more k good e. refl;
    };
    first = kind_head;
    more = kind_more;
    full = kind_full;
  }

  -- akind
  pub star_ok : (ts rest : Ts) → ts ≡ t.VarSym star ∷ rest → Accepts (akind_form limit) depth_of_akind ts a.Star rest 0
  star_ok ts rest at = record {
    spelled = at ∙ ap (λ l. l ++ rest) (sym star_spelled);
    reads = record {
      good = subst (Within limit) (sym star_deep) (within_zero limit);
      only = λ s other after same good quiet e. decide s other after
          (akind_cases other (t.VarSym star ∷ s) after (ap (λ l. l ++ s) (sym star_spelled) ∙ e));
    };
    measured_is = sym star_deep;
    room = omega (arith, ap length at);
  }
    where
      decide : (s : Ts) (other : AKindTree) (after : Ts) → AKindCase other (t.VarSym star ∷ s) after
          → (other ≡ a.Star) × (after ≡ s)
      decide s other after (of_star eq e) = (eq, cc)
      decide s other after (of_parens k eq e) = absurd cc

  pub akind_none : (ts : Ts) → begins starts_akind ts ≡ false → Rejects (akind_form limit) ts (length ts)
  akind_none ts ends = record {
    before = [];
    bad = ts;
    split = refl;
    left_is = refl;
    refuses = none_refused (akind_form limit) starts_akind a.Star
        (subst (Within limit) (sym star_deep) (within_zero limit)) (λ x good. akind_starts x) ts ends;
  }

  pub parens_over : (ts next : Ts) → ts ≡ t.LeftParen ∷ next → (Within limit 1 → ⊥)
      → Rejects (akind_form limit) ts (length ts)
  parens_over ts next at over = record {
    before = [];
    bad = ts;
    split = refl;
    left_is = refl;
    refuses = record {
      begun = (spelling_akind a.Star, a.Star, subst (Within limit) (sym star_deep) (within_zero limit), refl);
      never = λ s other after same good quiet e. decide s other after same good (akind_cases other s after e);
    };
  }
    where
      decide : (s : Ts) (other : AKindTree) (after : Ts) → SameStart ts s → (akind_form limit).Good other
          → AKindCase other s after → ⊥
      decide s other after same good (of_star eq e) =
          true≢false (sym (begins_same is_left_paren ts s same ∙ ap (begins is_left_paren) at)
          ∙ ap (begins is_left_paren) e)
      decide s other after same good (of_parens k eq e) =
          over (within_less limit 1 _ (omega arith) (subst (Within limit) (ap depth_of_akind eq ∙ parens_deep k) good))

  abbrev pub round : Form Terminal KindTree
  round = closed (kind_form (lowered limit 1)) t.RightParen

  pub parens_leads : Within limit 1 → Leads (akind_form limit) (t.LeftParen ∷ []) round a.Parens
  parens_leads one = record {
    tokens = parens_spelled;
    good = λ k g. subst (Within limit) (sym (parens_deep k)) (within_raised limit (depth_of_kind k) 1 one g);
    good_back = λ k g. within_lowered limit (depth_of_kind k) 1 (subst (Within limit) (parens_deep k) g);
    extends = λ k t e. refl;
    only = λ x s after good quiet e. only x s after (akind_cases x (t.LeftParen ∷ s) after e);
  }
    where
      only : (x : AKindTree) (s after : Ts) → AKindCase x (t.LeftParen ∷ s) after → (k : KindTree) × (x ≡ a.Parens k)
      only x s after (of_star eq e) = absurd cc
      only x s after (of_parens k eq e) = (k, eq)

  pub parens_fails : (ts next : Ts) (b : Option ℕ) (e : Fault) → ts ≡ t.LeftParen ∷ next → Within limit 1
      → b ≡ lowered limit 1 →
      Fails (kind_form b) next e → Fails (akind_form limit) ts e
  parens_fails ts next b e at one same r =
      fails_after (akind_form limit) (kind_form (lowered limit 1)) (t.LeftParen ∷ []) ts next e at
      (λ before bad split q. lead_refuses (akind_form limit) (t.LeftParen ∷ []) round a.Parens
      (parens_leads one) before bad
      (refuses_closed (kind_form (lowered limit 1)) t.RightParen (λ x. refl) before bad q))
      (subst (λ l. Fails (kind_form l) next e) same r)

  pub parens_ok : (ts next : Ts) (b : Option ℕ) (k : KindTree) (after rest : Ts) (d : ℕ) → ts ≡ t.LeftParen ∷ next
      → Within limit 1 → b ≡ lowered limit 1 →
      Accepts (kind_form b) depth_of_kind next k after d → after ≡ t.RightParen ∷ rest
      → Accepts (akind_form limit) depth_of_akind ts (a.Parens k) rest (d + 1)
  parens_ok ts next b k after rest d at one same acc shut =
      let acc' = subst (λ l. Accepts (kind_form l) depth_of_kind next k after d) same acc in
      record {
        spelled = at ∙ ap (λ l. t.LeftParen ∷ l) (acc'.spelled ∙ ap (λ l. spelling_kind k ++ l) shut
            ∙ sym (append_assoc (spelling_kind k) (t.RightParen ∷ []) rest))
            ∙ ap (λ l. l ++ rest) (sym (parens_spelled k));
        reads = lead_reads (akind_form limit) (t.LeftParen ∷ []) round a.Parens (parens_leads one) k rest
            (reads_closed (kind_form (lowered limit 1)) t.RightParen (λ x. refl) k rest
            (subst (Reads (kind_form (lowered limit 1)) k) shut acc'.reads));
        measured_is = ap (λ n. n + 1) acc'.measured_is ∙ sym (parens_deep k);
        room = omega (arith, acc'.room, ap length at, ap length shut);
      }

  pub parens_none : (ts next : Ts) (b : Option ℕ) (k : KindTree) (after : Ts) (d : ℕ) → ts ≡ t.LeftParen ∷ next
      → Within limit 1 → b ≡ lowered limit 1 →
      Accepts (kind_form b) depth_of_kind next k after d → begins is_right_paren after ≡ false
      → Rejects (akind_form limit) ts (length after)
  parens_none ts next b k after d at one same acc missed =
      let acc' = subst (λ l. Accepts (kind_form l) depth_of_kind next k after d) same acc in
      record {
        before = t.LeftParen ∷ spelling_kind k;
        bad = after;
        split = at ∙ ap (λ l. t.LeftParen ∷ l) acc'.spelled;
        left_is = refl;
        refuses = lead_refuses (akind_form limit) (t.LeftParen ∷ []) round a.Parens (parens_leads one)
            (spelling_kind k) after
            (closing_missed (kind_form (lowered limit 1)) t.RightParen
            (λ x. refl) is_right_paren refl k after acc'.reads missed);
      }

-- neither `(` nor `*`
pub no_akind : (ts : Ts) → begins is_left_paren ts ≡ false → begins is_star ts ≡ false → begins starts_akind ts ≡ false
no_akind [] p s = refl
no_akind (t.LeftParen ∷ ts) p s = p
no_akind (_ ∷ ts) p s = s
