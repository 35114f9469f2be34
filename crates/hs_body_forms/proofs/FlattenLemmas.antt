-- A block's parts, and its places.
use Rattle.std.proofs.Common.{◌≡◌, ℕ, Bool, true, false, List, [], ◌∷◌, ◌++◌, refl, sym, ap, ◌∙◌, arith, true≢false}
use Rattle.std.proofs.Common.{append_assoc}
use Rattle.std.specs.Prelude.{not, max, map, flat_map, ◌&&◌, Option, None}
use Rattle.std.proofs.lemmas.Bool.{and_from}
use Rattle.std.proofs.lemmas.List.{append-nil}
use Rattle.std.proofs.lemmas.List.Folds.{flat_map-map}
use Rattle.std.proofs.lemmas.Grind.{flat_map-append}
use Rattle.hs_forms.specs.Limits.{deepest, all_of}
use Rattle.hs_forms.proofs.LimitLemmas.{and_left, and_right}
use Rattle.hs_tokens.specs.declared.terminal.Terminal.TheVariants as t
use Rattle.hs_trees.specs.Patterns.{Ts}
use Rattle.hs_modules.specs.Extents.{depth_of}
use Rattle.hs_modules.specs.Modules.{extent_of_top_slot, extent_of_top_block}
use Rattle.hs_modules.specs.ModuleTokens.{top_slot_tokens, top_decl_tokens, import_tokens, top_block_tokens}
use Rattle.hs_modules.specs.ModuleForms.{is_top_slot, is_top_decl, is_import_list, is_top_block, imports_first}
use Rattle.hs_modules.specs.ModuleForms.{top_imports, top_declares}
use Rattle.hs_modules.specs.declared.declarations.TopSlot.{TopSlot}
use Rattle.hs_modules.specs.declared.declarations.TopSlot.TheVariants as v
use Rattle.hs_modules.specs.declared.declarations.TopBlock.{TopBlock}
use Rattle.hs_expression_forms.proofs.OperandLayerLemmas.{deepest_of}
use Rattle.hs_declaration_forms.proofs.MergeLemmas.{Joins}
use Rattle.hs_body_forms.specs.declared.parts.TopPart.{TopPart}
use Rattle.hs_body_forms.specs.declared.parts.TopPart.TheVariants as p
use Rattle.hs_body_forms.specs.Bodies.{part_lists, PartList, part_tokens, is_part, part_depth, shut, slots_of}
use Rattle.hs_body_forms.specs.Bodies.{first_slot, more_slots, block_of, top_blocks}
use Rattle.hs_body_forms.proofs.PartChainLemmas.{shut_lists}

abbrev Slots : Type 0
Slots = List TopSlot

-- the tokens of places behind semicolons
abbrev behind : Slots → Ts
behind ss = flat_map (λ s. t.Semicolon ∷ top_slot_tokens s) ss

part_behind : (x : TopPart) → behind (slots_of x) ≡ t.Semicolon ∷ part_tokens x
part_behind p.Empty = refl
part_behind (p.Import i) = append-nil (t.Semicolon ∷ import_tokens i)
part_behind (p.Decls d ss) = refl

parts_behind : (xs : List TopPart) →
    behind (flat_map slots_of xs) ≡ flat_map (λ x. t.Semicolon ∷ part_tokens x) xs
parts_behind [] = refl
parts_behind (x ∷ xs) =
    flat_map-append (λ s. t.Semicolon ∷ top_slot_tokens s) (slots_of x) (flat_map slots_of xs)
    ∙ ap (λ l. l ++ behind (flat_map slots_of xs)) (part_behind x)
    ∙ ap (λ l. (t.Semicolon ∷ part_tokens x) ++ l) (parts_behind xs)

first_tokens : (x : TopPart) → top_slot_tokens (first_slot x) ++ behind (more_slots x) ≡ part_tokens x
first_tokens p.Empty = refl
first_tokens (p.Import i) = append-nil (import_tokens i)
first_tokens (p.Decls d ss) = refl

block_tokens_are : (l : PartList) → top_block_tokens (block_of l) ≡ shut_lists.tokens l
block_tokens_are l =
    let rest = more_slots l.0 ++ flat_map slots_of l.1 in
    let a : flat_map (λ (part : Ts). t.Semicolon ∷ part) (map top_slot_tokens rest) ≡ behind rest =
    flat_map-map (λ part. t.Semicolon ∷ part) top_slot_tokens rest in
    let b : behind rest ≡ behind (more_slots l.0) ++ behind (flat_map slots_of l.1) =
    flat_map-append (λ s. t.Semicolon ∷ top_slot_tokens s) (more_slots l.0) (flat_map slots_of l.1) in
    let first = top_slot_tokens (first_slot l.0) in
    ap (λ i. t.LeftBrace ∷ ((first ++ i) ++ t.RightBrace ∷ [])) (a ∙ b)
    ∙ ap (λ i. t.LeftBrace ∷ (i ++ t.RightBrace ∷ []))
    (sym (append_assoc first (behind (more_slots l.0)) (behind (flat_map slots_of l.1)))
    ∙ ap (λ i. i ++ behind (flat_map slots_of l.1)) (first_tokens l.0)
    ∙ ap (λ i. part_tokens l.0 ++ i) (parts_behind l.1))

-- depths
abbrev slot_depth : TopSlot → ℕ
slot_depth s = (extent_of_top_slot s).depth

deepest_append : {X : Type 0} (f : X → ℕ) (xs ys : List X) →
    deepest (map f (xs ++ ys)) ≡ max (deepest (map f xs)) (deepest (map f ys))
deepest_append f [] ys = omega arith
deepest_append f (x ∷ xs) ys = omega (arith, deepest_append f xs ys)

first_deep : (x : TopPart) → max (slot_depth (first_slot x)) (deepest (map slot_depth (more_slots x))) ≡ part_depth x
first_deep p.Empty = refl
first_deep (p.Import i) = omega arith
first_deep (p.Decls d ss) = refl

split_first : (x : TopPart) → slots_of x ≡ first_slot x ∷ more_slots x
split_first p.Empty = refl
split_first (p.Import i) = refl
split_first (p.Decls d ss) = refl

parts_deep : (xs : List TopPart) → deepest (map slot_depth (flat_map slots_of xs)) ≡ deepest (map part_depth xs)
parts_deep [] = refl
parts_deep (x ∷ xs) =
    let one : deepest (map slot_depth (slots_of x)) ≡ part_depth x =
    ap (λ l. deepest (map slot_depth l)) (split_first x) ∙ first_deep x in
    omega (arith, deepest_append slot_depth (slots_of x) (flat_map slots_of xs), one, parts_deep xs)

block_deep : (l : PartList) → (extent_of_top_block (block_of l)).depth ≡ part_lists.deep l
block_deep l =
    let rest = more_slots l.0 ++ flat_map slots_of l.1 in
    omega (
      arith,
      deepest_of extent_of_top_slot rest,
      deepest_append slot_depth (more_slots l.0) (flat_map slots_of l.1),
      first_deep l.0,
      parts_deep l.1,
    )

-- well-formedness
abbrev later : TopSlot → Bool
later s = is_top_slot s && not (top_imports s)

abbrev no_import : TopSlot → Bool
no_import s = not (top_imports s)

later_slots_are : (ss : Slots) → all_of (map later ss) ≡ true →
    (all_of (map is_top_slot ss) ≡ true) × (all_of (map no_import ss) ≡ true)
later_slots_are [] g = (refl, refl)
later_slots_are (s ∷ ss) g =
    let here = and_left (later s) _ g in
    let more = later_slots_are ss (and_right (later s) _ g) in (
      and_from (is_top_slot s) _ (and_left (is_top_slot s) (no_import s) here) more.0,
      and_from (no_import s) _ (and_right (is_top_slot s) (no_import s) here) more.1,
    )

slots_are_later : (ss : Slots) → all_of (map is_top_slot ss) ≡ true → all_of (map no_import ss) ≡ true →
    all_of (map later ss) ≡ true
slots_are_later [] g h = refl
slots_are_later (s ∷ ss) g h =
    and_from (later s) _
    (and_from (is_top_slot s) (no_import s) (and_left (is_top_slot s) _ g) (and_left (no_import s) _ h))
    (slots_are_later ss (and_right (is_top_slot s) _ g) (and_right (no_import s) _ h))

-- without imports they stand first
none_first : (ss : Slots) → all_of (map no_import ss) ≡ true → imports_first top_imports top_declares ss ≡ true
none_first [] h = refl
none_first (v.Empty ∷ ss) h = none_first ss h
none_first (v.Import i ∷ ss) h = absurd (true≢false (sym h))
none_first (v.Decl d ∷ ss) h = and_from (all_of (map no_import ss)) _ h (none_first ss h)

abbrev GoodSlots : TopSlot → Slots → Type 0
GoodSlots s ss = (all_of (map is_top_slot (s ∷ ss)) ≡ true) × (imports_first top_imports top_declares (s ∷ ss) ≡ true)

good_from : (h : TopPart) (xs : List TopPart) → is_part h && all_of (map is_part xs) ≡ true → shut h xs ≡ true →
    GoodSlots (first_slot h) (more_slots h ++ flat_map slots_of xs)
good_from (p.Decls d ss) [] g e =
    let run = and_left (is_part (p.Decls d ss)) true g in
    let both = later_slots_are ss (and_right (is_top_decl d) _ run) in
    let same : ss ++ [] ≡ ss = append-nil ss in
    let slots = and_from (is_top_decl d) _ (and_left (is_top_decl d) _ run) both.0 in
    let order = and_from (all_of (map no_import ss)) _ both.1 (none_first ss both.1) in (
      ap (λ l. all_of (map is_top_slot (v.Decl d ∷ l))) same ∙ slots,
      ap (λ l. imports_first top_imports top_declares (v.Decl d ∷ l)) same ∙ order,
    )
good_from (p.Decls d ss) (x ∷ xs) g e = absurd (true≢false (sym e))
good_from p.Empty [] g e = (refl, refl)
good_from p.Empty (x ∷ xs) g e =
    let more = good_from x xs g e in
    let same : slots_of x ++ flat_map slots_of xs ≡ first_slot x ∷ (more_slots x ++ flat_map slots_of xs) =
    ap (λ l. l ++ flat_map slots_of xs) (split_first x) in (
      ap (λ l. all_of (map is_top_slot l)) same ∙ more.0,
      ap (λ l. imports_first top_imports top_declares l) same ∙ more.1,
    )
good_from (p.Import i) [] g e = (g, refl)
good_from (p.Import i) (x ∷ xs) g e =
    let more = good_from x xs (and_right (is_import_list i.list) _ g) e in
    let same : slots_of x ++ flat_map slots_of xs ≡ first_slot x ∷ (more_slots x ++ flat_map slots_of xs) =
    ap (λ l. l ++ flat_map slots_of xs) (split_first x) in (
      and_from (is_import_list i.list) _ (and_left (is_import_list i.list) _ g)
          (ap (λ l. all_of (map is_top_slot l)) same ∙ more.0),
      ap (λ l. imports_first top_imports top_declares l) same ∙ more.1,
    )

-- the parts of places
abbrev in_front : TopPart → PartList → PartList
in_front x l = (x, l.0 ∷ l.1)

parts_from : TopSlot → Slots → PartList
parts_from (v.Decl d) ss = (p.Decls d ss, [])
parts_from v.Empty [] = (p.Empty, [])
parts_from v.Empty (y ∷ ys) = in_front p.Empty (parts_from y ys)
parts_from (v.Import i) [] = (p.Import i, [])
parts_from (v.Import i) (y ∷ ys) = in_front (p.Import i) (parts_from y ys)

abbrev Back : TopSlot → Slots → PartList → Type 0
Back s ss l = (first_slot l.0 ≡ s) × (more_slots l.0 ++ flat_map slots_of l.1 ≡ ss)

back_more : (y : TopSlot) (ys : Slots) (l : PartList) → Back y ys l →
    slots_of l.0 ++ flat_map slots_of l.1 ≡ y ∷ ys
back_more y ys l b =
    ap (λ m. m ++ flat_map slots_of l.1) (split_first l.0) ∙ (λ i. b.0 i ∷ b.1 i)

parts_back : (s : TopSlot) (ss : Slots) → Back s ss (parts_from s ss)
unfolding parts_from
parts_back (v.Decl d) ss = (refl, append-nil ss)
parts_back v.Empty [] = (refl, refl)
parts_back v.Empty (y ∷ ys) = (refl, back_more y ys (parts_from y ys) (parts_back y ys))
parts_back (v.Import i) [] = (refl, refl)
parts_back (v.Import i) (y ∷ ys) = (refl, back_more y ys (parts_from y ys) (parts_back y ys))

parts_good : (s : TopSlot) (ss : Slots) → all_of (map is_top_slot (s ∷ ss)) ≡ true →
    imports_first top_imports top_declares (s ∷ ss) ≡ true → part_lists.formed (parts_from s ss) ≡ true
unfolding parts_from
parts_good (v.Decl d) ss g e =
    let run = slots_are_later ss (and_right (is_top_decl d) _ g) (and_left (all_of (map no_import ss)) _ e) in
    and_from _ true (and_from (is_part (p.Decls d ss)) true (and_from (is_top_decl d) _ (and_left (is_top_decl d) _ g)
    run) refl) refl
parts_good v.Empty [] g e = refl
parts_good v.Empty (y ∷ ys) g e = parts_good y ys g e
parts_good (v.Import i) [] g e = and_from _ true g refl
parts_good (v.Import i) (y ∷ ys) g e =
    let l = parts_from y ys in
    let more = parts_good y ys (and_right (is_import_list i.list) _ g) e in
    and_from _ _ (and_from (is_import_list i.list) _ (and_left (is_import_list i.list) _ g)
    (and_left (is_part l.0 && all_of (map is_part l.1)) _ more))
    (and_right (is_part l.0 && all_of (map is_part l.1)) _ more)

pub block_joins : Joins top_blocks shut_lists block_of (λ ts. true)
block_joins = record {
  tokens = block_tokens_are;
  formed = λ l g. (
      let good = good_from l.0 l.1 (and_left (is_part l.0 && all_of (map is_part l.1)) _ g)
      (and_right (is_part l.0 && all_of (map is_part l.1)) _ g) in
      and_from (all_of (map is_top_slot ((block_of l).first ∷ (block_of l).rest))) _ good.0 good.1);
  deep = block_deep;
  extends = λ l k e. refl;
  starts = λ l after g. refl;
  only = λ b after g q e. only b.first b.rest g;
}
  where
    only : (s : TopSlot) (ss : Slots) → is_top_block (record { first = s; rest = ss }) ≡ true →
        (l : PartList) × (record { first = s; rest = ss } ≡ block_of l) × (part_lists.formed l ≡ true)
    only s ss g =
        let b = parts_back s ss in (
          parts_from s ss,
          (λ i. record { first = sym b.0 i; rest = sym b.1 i }),
          parts_good s ss (and_left (all_of (map is_top_slot (s ∷ ss))) _ g)
              (and_right (all_of (map is_top_slot (s ∷ ss))) _ g),
        )
