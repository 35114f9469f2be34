-- Types as chains.
use Rattle.std.proofs.Common.{◌≡◌, ℕ, ◌+◌, ◌<◌, true, false, List, [], ◌∷◌, ◌++◌, length, refl, sym, ◌∙◌, subst}
use Rattle.std.proofs.Common.{true≢false, arith, length-append}
use Rattle.std.specs.Prelude.{map, max, ◌||◌, nat_lt, Option}
use Rattle.std.proofs.lemmas.Bool.Decides.{nat_tests}
use Rattle.hs_forms.specs.Limits.{Within, lowered, deepest}
use Rattle.hs_tokens.specs.Terminals.{is_arrow, is_comma}
use Rattle.hs_trees.specs.Types.{starts_atype, spelling_atype, spelling_btype, spelling_type, depth_of_atype}
use Rattle.hs_trees.specs.Types.{depth_of_btype, depth_of_type, is_atype, is_btype, is_type, Parts, atype_form}
use Rattle.hs_trees.specs.Types.{btype_form, type_form, parts_form}
use Rattle.hs_tokens.specs.declared.terminal.Terminal.{Terminal}
use Rattle.hs_tokens.specs.declared.terminal.Terminal.TheVariants as t
use Rattle.hs_trees.specs.declared.types.ATypeTree.{ATypeTree}
use Rattle.hs_trees.specs.declared.types.BTypeTree.{BTypeTree, out-BTypeTree, roll-BTypeTree, roll-out-BTypeTree}
use Rattle.hs_trees.specs.declared.types.TypeTree.{TypeTree, out-TypeTree, roll-TypeTree, roll-out-TypeTree}
use Rattle.hs_forms.specs.Productions.{Chain}
use Rattle.std.proofs.lemmas.Bool.{and_from}
use Rattle.hs_forms.proofs.LimitLemmas.{within_less, within_lowered, within_raised, within_max, and_left, and_right}
use Rattle.hs_forms.proofs.LimitLemmas.{all_here, all_more, deep_here, deep_front, deep_more, or_left, or_right}
use Rattle.hs_trees.proofs.TypeLayerLemmas.{BLayer, Layer, atype_starts, btype_spelled, btype_deep, btype_is}
use Rattle.hs_trees.proofs.TypeLayerLemmas.{type_spelled, type_deep, type_is}

abbrev pub make_btype : ATypeTree → List ATypeTree → BTypeTree
make_btype h xs = roll-BTypeTree (record { first = h; rest = xs })

abbrev pub make_type : BTypeTree → List BTypeTree → TypeTree
make_type h xs = roll-TypeTree (record { first = h; rest = xs })

abbrev pub make_parts : TypeTree → List TypeTree → Parts
make_parts h xs = (h, xs)

abbrev pub arrow_items : BTypeTree → List Terminal
arrow_items x = t.Arrow ∷ spelling_btype x

abbrev pub comma_items : TypeTree → List Terminal
comma_items x = t.Comma ∷ spelling_type x

pub arrow_apart : (x : Terminal) → is_arrow x ≡ true → starts_atype x ≡ false
arrow_apart t.Arrow h = refl
arrow_apart _ h = absurd (true≢false (sym h))

pub comma_apart : (x : Terminal) → is_comma x ≡ true → starts_atype x || is_arrow x ≡ false
comma_apart t.Comma h = refl
comma_apart _ h = absurd (true≢false (sym h))

module _ (limit : Option ℕ) where
  abbrev pub btype_item : ℕ → ATypeTree → Type 0
  btype_item n x = (is_atype x ≡ true) × Within limit (depth_of_atype x)

  abbrev pub type_item : ℕ → BTypeTree → Type 0
  type_item n x = (is_btype x ≡ true) × Within (lowered limit (n + 1)) (depth_of_btype x)

  abbrev pub parts_item : ℕ → TypeTree → Type 0
  parts_item n x = (is_type x ≡ true) × Within limit (depth_of_type x)

  pub btype_first : (h : ATypeTree) → (atype_form limit).Good h → (btype_form limit).Good (make_btype h [])
  btype_first h good =
      let l : BLayer = record { first = h; rest = [] } in (
        btype_is l ∙ and_from (is_atype h) true good.0 refl,
        subst (Within limit) (sym (btype_deep l)) (within_less limit _ (depth_of_atype h) (omega arith) good.1),
      )

  pub btype_more : (h : ATypeTree) (xs : List ATypeTree) (x : ATypeTree) → (btype_form limit).Good (make_btype h xs)
      → Unit {0} →
      btype_item (length xs) x → (btype_form limit).Good (make_btype h (xs ++ x ∷ []))
  btype_more h xs x good room item =
      let l : BLayer = record { first = h; rest = xs } in
      let l' : BLayer = record { first = h; rest = xs ++ x ∷ [] } in
      let is = sym (btype_is l) ∙ good.0 in
      let old : Within limit (max (depth_of_atype h) (deepest (map depth_of_atype xs))) =
      subst (Within limit) (btype_deep l) good.1 in
      let new = deep_more depth_of_atype xs x in (
        btype_is l' ∙ and_from _ _ (and_left (is_atype h) _ is)
            (all_more is_atype xs x (and_right (is_atype h) _ is) item.0),
        subst (Within limit) (sym (btype_deep l'))
            (within_less limit _ (max (max (depth_of_atype h) (deepest (map depth_of_atype xs))) (depth_of_atype x) + 0)
            (omega arith)
            (within_max limit _ _ 0 (within_less limit _ _ (omega arith) old)
            (within_less limit _ _ (omega arith) item.1))),
      )

  abbrev pub btype_chain : Chain Terminal BTypeTree ATypeTree ATypeTree
  btype_chain = record {
    form = btype_form limit;
    head = atype_form limit;
    items = spelling_atype;
    item = btype_item;
    inner = λ x k. false;
    starter = starts_atype;
    make = make_btype;
    head_depth = depth_of_atype;
    item_depth = depth_of_atype;
    Room = λ h xs. Unit {0};
    laws = record {
      spelled = λ h xs. btype_spelled (record { first = h; rest = xs });
      taken = λ x. ((out-BTypeTree x).first, (out-BTypeTree x).rest, sym (roll-out-BTypeTree x));
      good_head = λ h xs good.
          let l : BLayer = record { first = h; rest = xs } in (
            and_left _ _ (sym (btype_is l) ∙ good.0),
            within_less limit _ _ (omega arith) (subst (Within limit) (btype_deep l) good.1),
          );
      good_item = λ h xs x more good.
          let l : BLayer = record { first = h; rest = xs ++ x ∷ more } in (
            all_here is_atype xs x more (and_right (is_atype h) _ (sym (btype_is l) ∙ good.0)),
            (let here = deep_here depth_of_atype xs x more in
                within_less limit _ _ (omega arith) (subst (Within limit) (btype_deep l) good.1)),
          );
      starts = atype_starts;
      ends = λ h xs k e. e;
      ends_head = λ h k e. refl;
      ends_item = λ h xs x k e. refl;
      apart_head = λ h x more k good e. refl;
      apart_item = λ h xs x y more k good e. refl;
    };
    first = btype_first;
    more = btype_more;
    full = λ h xs x ys good. tt;
  }

  -- the limit has room for one more arrow
  abbrev pub TypeRoom : BTypeTree → List BTypeTree → Type 0
  TypeRoom h xs = Within limit (max (depth_of_btype h) (deepest (map depth_of_btype xs)) + (length xs + 1))

  pub type_first : (h : BTypeTree) → (btype_form limit).Good h → (type_form limit).Good (make_type h [])
  type_first h good =
      let l : Layer = record { first = h; rest = [] } in (
        type_is l ∙ and_from (is_btype h) true good.0 refl,
        subst (Within limit) (sym (type_deep l)) (within_less limit _ (depth_of_btype h) (omega arith) good.1),
      )

  pub type_more : (h : BTypeTree) (xs : List BTypeTree) (x : BTypeTree) → (type_form limit).Good (make_type h xs)
      → TypeRoom h xs →
      type_item (length xs) x → (type_form limit).Good (make_type h (xs ++ x ∷ []))
  type_more h xs x good room item =
      let l : Layer = record { first = h; rest = xs } in
      let l' : Layer = record { first = h; rest = xs ++ x ∷ [] } in
      let is = sym (type_is l) ∙ good.0 in
      let new = deep_more depth_of_btype xs x in
      let long = length-append xs (x ∷ []) in
      let part : Within limit (depth_of_btype x + (length xs + 1)) =
      within_raised limit (depth_of_btype x) (length xs + 1) (within_less limit _ _ (omega arith) room) item.1 in (
        type_is l' ∙ and_from _ _ (and_left (is_btype h) _ is)
            (all_more is_btype xs x (and_right (is_btype h) _ is) item.0),
        subst (Within limit) (sym (type_deep l'))
            (within_less limit _ (max (max (depth_of_btype h) (deepest (map depth_of_btype xs))) (depth_of_btype x) +
            (length xs + 1)) (omega arith)
            (within_max limit _ _ (length xs + 1) room part)),
      )

  pub type_full : (h : BTypeTree) (xs : List BTypeTree) (x : BTypeTree) (ys : List BTypeTree)
      → (type_form limit).Good (make_type h (xs ++ x ∷ ys)) →
      TypeRoom h xs
  type_full h xs x ys good =
      let l : Layer = record { first = h; rest = xs ++ x ∷ ys } in
      let deep = deep_front depth_of_btype xs (x ∷ ys) in
      let long = length-append xs (x ∷ ys) in
      within_less limit _ _ (omega arith) (subst (Within limit) (type_deep l) good.1)

  abbrev pub type_chain : Chain Terminal TypeTree BTypeTree BTypeTree
  type_chain = record {
    form = type_form limit;
    head = btype_form limit;
    items = arrow_items;
    item = type_item;
    inner = λ x k. starts_atype k;
    starter = is_arrow;
    make = make_type;
    head_depth = depth_of_btype;
    item_depth = depth_of_btype;
    Room = TypeRoom;
    laws = record {
      spelled = λ h xs. type_spelled (record { first = h; rest = xs });
      taken = λ x. ((out-TypeTree x).first, (out-TypeTree x).rest, sym (roll-out-TypeTree x));
      good_head = λ h xs good.
          let l : Layer = record { first = h; rest = xs } in (
            and_left _ _ (sym (type_is l) ∙ good.0),
            within_less limit _ _ (omega arith) (subst (Within limit) (type_deep l) good.1),
          );
      good_item = λ h xs x more good.
          let l : Layer = record { first = h; rest = xs ++ x ∷ more } in (
            all_here is_btype xs x more (and_right (is_btype h) _ (sym (type_is l) ∙ good.0)),
            (let here = deep_here depth_of_btype xs x more in
                let long = length-append xs (x ∷ more) in
                within_lowered limit _ _ (within_less limit _ _ (omega arith)
                (subst (Within limit) (type_deep l) good.1))),
          );
      starts = λ x. refl;
      ends = λ h xs k e. or_right (starts_atype k) (is_arrow k) e;
      ends_head = λ h k e. or_left (starts_atype k) (is_arrow k) e;
      ends_item = λ h xs x k e. or_left (starts_atype k) (is_arrow k) e;
      apart_head = λ h x more k good e. arrow_apart k e;
      apart_item = λ h xs x y more k good e. arrow_apart k e;
    };
    first = type_first;
    more = type_more;
    full = type_full;
  }

  pub parts_more : (h : TypeTree) (xs : List TypeTree) (x : TypeTree) → (parts_form limit).Good (make_parts h xs)
      → length xs < 14 →
      parts_item (length xs) x → (parts_form limit).Good (make_parts h (xs ++ x ∷ []))
  parts_more h xs x good few item =
      let is = and_right (nat_lt (length xs) 15) _ good.0 in
      let new = deep_more depth_of_type xs x in
      let long = length-append xs (x ∷ []) in
      let short : length (xs ++ x ∷ []) < 15 = omega arith in (
        and_from _ _ (grind (arith, nat_tests)) (and_from _ _ (and_left (is_type h) _ is)
            (all_more is_type xs x (and_right (is_type h) _ is) item.0)),
        within_less limit _ (max (max (depth_of_type h) (deepest (map depth_of_type xs))) (depth_of_type x) + 0)
            (omega arith)
            (within_max limit _ _ 0 (within_less limit _ _ (omega arith) good.1)
            (within_less limit _ _ (omega arith) item.1)),
      )

  pub parts_full : (h : TypeTree) (xs : List TypeTree) (x : TypeTree) (more : List TypeTree) →
      (parts_form limit).Good (make_parts h (xs ++ x ∷ more)) → length xs < 14
  parts_full h xs x more good =
      let few = and_left (nat_lt (length (xs ++ x ∷ more)) 15) _ good.0 in
      let long = length-append xs (x ∷ more) in
      let lt : length (xs ++ x ∷ more) < 15 = grind (arith, nat_tests) in
      omega arith

  abbrev pub parts_chain : Chain Terminal Parts TypeTree TypeTree
  parts_chain = record {
    form = parts_form limit;
    head = type_form limit;
    items = comma_items;
    item = parts_item;
    inner = λ x k. starts_atype k || is_arrow k;
    starter = is_comma;
    make = make_parts;
    head_depth = depth_of_type;
    item_depth = depth_of_type;
    Room = λ h xs. length xs < 14;
    laws = record {
      spelled = λ h xs. refl;
      taken = λ p. (p.0, p.1, refl);
      good_head = λ h xs good.
          (and_left (is_type h) _ (and_right _ _ good.0), within_less limit _ _ (omega arith) good.1);
      good_item = λ h xs x more good. (
        all_here is_type xs x more (and_right (is_type h) _ (and_right _ _ good.0)),
        (let here = deep_here depth_of_type xs x more in within_less limit _ _ (omega arith) good.1),
      );
      starts = λ x. refl;
      ends = λ h xs k e. or_right (starts_atype k || is_arrow k) (is_comma k) e;
      ends_head = λ h k e. or_left (starts_atype k || is_arrow k) (is_comma k) e;
      ends_item = λ h xs x k e. or_left (starts_atype k || is_arrow k) (is_comma k) e;
      apart_head = λ h x more k good e. comma_apart k e;
      apart_item = λ h xs x y more k good e. comma_apart k e;
    };
    first = λ h good. (
      and_from (is_type h) true good.0 refl,
      within_less limit _ (depth_of_type h) (omega arith) good.1,
    );
    more = parts_more;
    full = parts_full;
  }
