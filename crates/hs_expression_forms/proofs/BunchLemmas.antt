-- What stands between round brackets, as a chain.
use Rattle.std.proofs.Common.{◌≡◌, ℕ, ◌+◌, Bool, true, false, List, [], ◌∷◌, ◌++◌, length, refl}
use Rattle.std.proofs.Common.{sym, ap, ◌∙◌, true≢false, arith, length-append}
use Rattle.std.specs.Prelude.{max, map, not, ◌&&◌, ◌||◌, Option, Some}
use Rattle.std.proofs.lemmas.Bool.{and_from}
use Rattle.hs_forms.specs.Limits.{Within, deepest, all_of}
use Rattle.hs_forms.specs.Productions.{Chain}
use Rattle.hs_forms.proofs.LimitLemmas.{within_less, within_max, and_left, and_right, all_here, all_more}
use Rattle.hs_forms.proofs.LimitLemmas.{deep_here, deep_more, or_left, or_right}
use Rattle.hs_tokens.specs.Terminals.{is_comma}
use Rattle.hs_tokens.specs.declared.terminal.Terminal.{Terminal}
use Rattle.hs_tokens.specs.declared.terminal.Terminal.TheVariants as t
use Rattle.hs_modules.specs.Tokens.{spelling_exp}
use Rattle.hs_modules.specs.Formed.{facts_of_exp}
use Rattle.hs_modules.specs.declared.expressions.ExpTree.{ExpTree}
use Rattle.hs_expression_forms.specs.declared.front.Front.{Front}
use Rattle.hs_expression_forms.specs.declared.front.Front.TheVariants as fr
use Rattle.hs_expression_forms.specs.Trees.{Trees, within}
use Rattle.hs_expression_forms.specs.Expressions.{few, is_exp, depth_of_exp, exps, goes_on}
use Rattle.hs_expression_forms.specs.Fronts.{front_formed, front_deep, front_goes_on, fronts, Bunch}
use Rattle.hs_expression_forms.specs.Fronts.{is_section, is_empty, bunch_goes_on, bunches}
use Rattle.hs_expression_forms.proofs.ListedLemmas.{few_within, within_few, last_more, Lists}

-- no expression goes on with a comma
pub comma_quiet : (o a r : Bool) (k : Terminal) → is_comma k ≡ true → goes_on o a r k ≡ false
comma_quiet o a r t.Comma h = all o a r
  where
    all : (o a r : Bool) → goes_on o a r t.Comma ≡ false
    all true true true = refl
    all true true false = refl
    all true false true = refl
    all true false false = refl
    all false true true = refl
    all false true false = refl
    all false false true = refl
    all false false false = refl
comma_quiet o a r _ h = absurd (true≢false (sym h))

pub front_comma : (h : Front) (k : Terminal) → is_comma k ≡ true → front_goes_on h k ≡ false
front_comma (fr.Exp e) k h = comma_quiet true true (facts_of_exp e).ends_in_type k h
front_comma (fr.Section p op) t.Comma h = refl
front_comma (fr.Section p op) _ h = absurd (true≢false (sym h))

pub exp_lists : Lists exps (t.Comma ∷ []) is_comma
exp_lists = record {
  starts = λ x. refl;
  apart = λ x k e. comma_quiet true true (facts_of_exp x).ends_in_type k e;
}

not_section : (h : Front) (xs : List ExpTree) (x : ExpTree) (ys : List ExpTree) →
    not (is_section h) || is_empty (xs ++ x ∷ ys) ≡ true → is_section h ≡ false
not_section (fr.Exp e) xs x ys h = refl
not_section (fr.Section p op) [] x ys h = absurd (true≢false (sym h))
not_section (fr.Section p op) (z ∷ xs) x ys h = absurd (true≢false (sym h))

section_off : (b c : Bool) → b ≡ false → not b || c ≡ true
section_off true c h = absurd (true≢false h)
section_off false c h = refl

pub goes_more : (h : Front) (xs : List ExpTree) (x : ExpTree) (k : Terminal) →
    bunch_goes_on (h, xs ++ x ∷ []) k ≡ exps.extends x k
goes_more h [] x k = refl
goes_more h (z ∷ xs) x k = ap (λ y. exps.extends y k) (last_more z xs x)

module _ (limit : Option ℕ) where
  abbrev pub bunch_item : ℕ → ExpTree → Type 0
  bunch_item n x = (within exps limit).Good x

  -- an expression stands first, and there are not too many behind it
  abbrev pub BunchRoom : Front → List ExpTree → Type 0
  BunchRoom h xs = (is_section h ≡ false) × Within (Some 14) (length xs + 1)

  abbrev whole : Trees Terminal Bunch
  whole = bunches

  counts : (h : Front) (xs : List ExpTree) → (within whole limit).Good (h, xs) →
      (few (Some 14) (length xs) && (not (is_section h) || is_empty xs) ≡ true)
      × (front_formed true h && all_of (map is_exp xs) ≡ true)
  counts h xs good = (
    and_left (few (Some 14) (length xs) && (not (is_section h) || is_empty xs)) _ good.0,
    and_right (few (Some 14) (length xs) && (not (is_section h) || is_empty xs)) _ good.0,
  )

  pub bunch_more : (h : Front) (xs : List ExpTree) (x : ExpTree) → (within whole limit).Good (h, xs) → BunchRoom h xs →
      bunch_item (length xs) x → (within whole limit).Good (h, xs ++ x ∷ [])
  bunch_more h xs x good room item =
      let long = length-append xs (x ∷ []) in
      let new = deep_more depth_of_exp xs x in
      let parts = (counts h xs good).1 in (
        and_from _ _ (and_from _ _ (within_few (Some 14) _ (within_less (Some 14) _ (length xs + 1)
            (omega arith) room.1))
            (section_off (is_section h) _ room.0))
            (and_from _ _ (and_left (front_formed true h) _ parts)
            (all_more is_exp xs x (and_right (front_formed true h) _ parts) item.0)),
        within_less limit _ (max (max (front_deep h) (deepest (map depth_of_exp xs))) (depth_of_exp x) + 0)
            (omega arith)
            (within_max limit _ _ 0 (within_less limit _ _ (omega arith) good.1)
            (within_less limit _ _ (omega arith) item.1)),
      )

  pub bunch_full : (h : Front) (xs : List ExpTree) (x : ExpTree) (ys : List ExpTree) →
      (within whole limit).Good (h, xs ++ x ∷ ys) → BunchRoom h xs
  bunch_full h xs x ys good =
      let long = length-append xs (x ∷ ys) in
      let c = (counts h (xs ++ x ∷ ys) good).0 in (
        not_section h xs x ys (and_right (few (Some 14) (length (xs ++ x ∷ ys))) _ c),
        within_less (Some 14) _ (length (xs ++ x ∷ ys)) (omega arith)
            (few_within (Some 14) _ (and_left (few (Some 14) (length (xs ++ x ∷ ys))) _ c)),
      )

  pub empty_ok : (h : Front) → not (is_section h) || true ≡ true
  empty_ok (fr.Exp e) = refl
  empty_ok (fr.Section p op) = refl

  abbrev pub bunch_chain : Chain Terminal Bunch Front ExpTree
  bunch_chain = record {
    form = within bunches limit;
    head = within (fronts true) limit;
    items = λ x. t.Comma ∷ spelling_exp x;
    item = bunch_item;
    inner = exps.extends;
    starter = is_comma;
    make = λ h xs. (h, xs);
    head_depth = front_deep;
    item_depth = depth_of_exp;
    Room = BunchRoom;
    laws = record {
      spelled = λ h xs. refl;
      taken = λ p. (p.0, p.1, refl);
      good_head = λ h xs good. (
        and_left (front_formed true h) _ (and_right (few (Some 14) (length xs) && (not (is_section h) || is_empty xs)) _
            good.0),
        within_less limit _ _ (omega arith) good.1,
      );
      good_item = λ h xs x more good. (
        all_here is_exp xs x more (and_right (front_formed true h) _ (and_right (few (Some 14) (length (xs ++ x ∷ more))
            && (not (is_section h) || is_empty (xs ++ x ∷ more))) _ good.0)),
        (let here = deep_here depth_of_exp xs x more in within_less limit _ _ (omega arith) good.1),
      );
      starts = λ x. refl;
      ends = λ h xs k e. or_left (is_comma k) _ e;
      ends_head = λ h k e. or_right (is_comma k) _ e;
      ends_item = λ h xs x k e. sym (goes_more h xs x k) ∙ or_right (is_comma k) _ e;
      apart_head = λ h x more k good e. front_comma h k e;
      apart_item = λ h xs x y more k good e. comma_quiet true true (facts_of_exp x).ends_in_type k e;
    };
    first = λ h good. (
      and_from _ _ (empty_ok h) (and_from (front_formed true h) true good.0 refl),
      within_less limit _ (front_deep h) (omega arith) good.1,
    );
    more = bunch_more;
    full = bunch_full;
  }
