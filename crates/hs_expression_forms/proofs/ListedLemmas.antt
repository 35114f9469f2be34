-- A first tree and others behind the same tokens, as a chain.
use Rattle.std.proofs.Common.{◌≡◌, ℕ, ◌+◌, Bool, true, false, List, [], ◌∷◌, ◌++◌, length, refl}
use Rattle.std.proofs.Common.{sym, ap, ◌∙◌, arith, length-append}
use Rattle.std.specs.Prelude.{max, map, Option, Some, None}
use Rattle.std.proofs.lemmas.Bool.{and_from}
use Rattle.std.proofs.lemmas.Bool.Decides.{nat_tests}
use Rattle.hs_forms.specs.Reading.{begins}
use Rattle.hs_forms.specs.Limits.{Within, deepest}
use Rattle.hs_forms.specs.Productions.{Chain}
use Rattle.hs_forms.proofs.LimitLemmas.{within_less, within_max, within_zero, and_left, and_right, all_here, all_more}
use Rattle.hs_forms.proofs.LimitLemmas.{deep_here, deep_more, or_left, or_right}
use Rattle.hs_expression_forms.specs.Trees.{Trees, within}
use Rattle.hs_expression_forms.specs.Expressions.{few, last_part, listed}

pub few_within : (most : Option ℕ) (n : ℕ) → few most n ≡ true → Within most n
few_within None n h = tt
few_within (Some most) n h = grind (arith, nat_tests)

pub within_few : (most : Option ℕ) (n : ℕ) → Within most n → few most n ≡ true
within_few None n h = refl
within_few (Some most) n h = grind (arith, nat_tests)

pub last_more : {T : Type 0} (h : T) (xs : List T) (x : T) → last_part h (xs ++ x ∷ []) ≡ x
last_more h [] x = refl
last_more h (y ∷ xs) x = last_more y xs x

-- Behind the token that begins an item no tree goes on.
pub record Lists {K T : Type 0} (a : Trees K T) (sep : List K) (starter : K → Bool) : Type 0 where
  pub starts : (x : T) → begins starter (sep ++ a.tokens x) ≡ true
  pub apart : (x : T) (k : K) → starter k ≡ true → a.extends x k ≡ false

module _ {K T : Type 0} (a : Trees K T) (sep : List K) (starter : K → Bool) (l : Lists a sep starter)
    (most limit : Option ℕ) where
  abbrev whole : Trees K (T × List T)
  whole = listed a sep starter most

  abbrev pub list_item : ℕ → T → Type 0
  list_item n x = (within a limit).Good x

  pub list_more : (h : T) (xs : List T) (x : T) → (within whole limit).Good (h, xs) → Within most (length xs + 1) →
      list_item (length xs) x → (within whole limit).Good (h, xs ++ x ∷ [])
  list_more h xs x good room item =
      let long = length-append xs (x ∷ []) in
      let new = deep_more a.deep xs x in
      let parts = and_right (few most (length xs)) _ good.0 in (
        and_from _ _ (within_few most _ (within_less most _ (length xs + 1) (omega arith) room))
            (and_from _ _ (and_left (a.formed h) _ parts)
            (all_more a.formed xs x (and_right (a.formed h) _ parts) item.0)),
        within_less limit _ (max (max (a.deep h) (deepest (map a.deep xs))) (a.deep x) + 0) (omega arith)
            (within_max limit _ _ 0 (within_less limit _ _ (omega arith) good.1)
            (within_less limit _ _ (omega arith) item.1)),
      )

  pub list_full : (h : T) (xs : List T) (x : T) (ys : List T) → (within whole limit).Good (h, xs ++ x ∷ ys) →
      Within most (length xs + 1)
  list_full h xs x ys good =
      let long = length-append xs (x ∷ ys) in
      within_less most _ (length (xs ++ x ∷ ys)) (omega arith)
      (few_within most _ (and_left (few most (length (xs ++ x ∷ ys))) _ good.0))

  abbrev pub list_chain : Chain K (T × List T) T T
  list_chain = record {
    form = within whole limit;
    head = within a limit;
    items = λ x. sep ++ a.tokens x;
    item = list_item;
    inner = a.extends;
    starter = starter;
    make = λ h xs. (h, xs);
    head_depth = a.deep;
    item_depth = a.deep;
    Room = λ h xs. Within most (length xs + 1);
    laws = record {
      spelled = λ h xs. refl;
      taken = λ p. (p.0, p.1, refl);
      good_head = λ h xs good. (
        and_left (a.formed h) _ (and_right (few most (length xs)) _ good.0),
        within_less limit _ _ (omega arith) good.1,
      );
      good_item = λ h xs x more good. (
        all_here a.formed xs x more (and_right (a.formed h) _ (and_right (few most (length (xs ++ x ∷ more))) _
            good.0)),
        (let here = deep_here a.deep xs x more in within_less limit _ _ (omega arith) good.1),
      );
      starts = l.starts;
      ends = λ h xs k e. or_left (starter k) _ e;
      ends_head = λ h k e. or_right (starter k) _ e;
      ends_item = λ h xs x k e.
          ap (λ y. a.extends y k) (sym (last_more h xs x)) ∙ or_right (starter k) _ e;
      apart_head = λ h x more k good e. l.apart h k e;
      apart_item = λ h xs x y more k good e. l.apart x k e;
    };
    first = λ h good. (
      and_from _ _ (within_few most 0 (within_zero most)) (and_from (a.formed h) true good.0 refl),
      within_less limit _ (a.deep h) (omega arith) good.1,
    );
    more = list_more;
    full = list_full;
  }
