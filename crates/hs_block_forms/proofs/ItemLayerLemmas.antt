-- Right sides and alternatives with their `where`, and blocks, one layer at a time.
use Rattle.std.proofs.Common.{◌≡◌, ◌≤◌, Bool, true, false, List, [], ◌∷◌, ◌++◌, length, refl, sym, ap, ◌∙◌, subst}
use Rattle.std.proofs.Common.{true≢false, arith}
use Rattle.std.specs.Prelude.{max, map, flat_map, ◌&&◌, ◌||◌, Some}
use Rattle.std.proofs.lemmas.List.{append-nil}
use Rattle.std.proofs.lemmas.List.Folds.{flat_map-map}
use Rattle.hs_forms.specs.Reading.{begins}
use Rattle.hs_forms.specs.Limits.{all_of, deepest}
use Rattle.hs_forms.proofs.FormLemmas.{begins_append}
use Rattle.hs_forms.proofs.LimitLemmas.{and_left, and_right}
use Rattle.hs_tokens.specs.Terminals.{is_minus}
use Rattle.hs_tokens.specs.declared.terminal.Terminal.{Terminal}
use Rattle.hs_tokens.specs.declared.terminal.Terminal.TheVariants as t
use Rattle.hs_trees.specs.Patterns.{Ts, spelling_pat, is_pat, starts_pat, starts_lpat}
use Rattle.hs_trees.proofs.PatternLayerLemmas.{pat_starts}
use Rattle.hs_trees.specs.declared.patterns.PatTree.{PatTree}
use Rattle.hs_modules.specs.Extents.{depth_of}
use Rattle.hs_modules.specs.ExpressionExtents.{extent_algebra, extent_of_alt_slot, extent_of_locals}
use Rattle.hs_modules.specs.PartExtents.{extent_of_pat}
use Rattle.hs_modules.specs.Tokens.{token_algebra, spelling_rhs, spelling_rhs_body, spelling_alt, spelling_alt_body}
use Rattle.hs_modules.specs.Tokens.{spelling_alt_slot, spelling_alt_block, spelling_locals}
use Rattle.hs_modules.specs.Formed.{fact_algebra, good_of, facts_of_alt_slot, facts_of_locals}
use Rattle.hs_modules.specs.declared.expressions.AltBlock.{AltBlock, out-AltBlock, roll-AltBlock, roll-out-AltBlock}
use Rattle.hs_modules.specs.declared.expressions.AltBlock.{out-roll-AltBlock}
use Rattle.hs_modules.specs.declared.expressions.AltBody.{AltBody}
use Rattle.hs_modules.specs.declared.expressions.AltSlot.{AltSlot, AltSlot-F, out-AltSlot, roll-AltSlot}
use Rattle.hs_modules.specs.declared.expressions.AltSlot.{roll-out-AltSlot}
use Rattle.hs_modules.specs.declared.expressions.AltSlot.TheVariants as sl
use Rattle.hs_modules.specs.declared.expressions.AltTree.{AltTree, out-AltTree, roll-AltTree, roll-out-AltTree}
use Rattle.hs_modules.specs.declared.expressions.AltTree.{out-roll-AltTree}
use Rattle.hs_modules.specs.declared.expressions.DeclBlock.{DeclBlock}
use Rattle.hs_modules.specs.declared.expressions.Locals.{Locals, Locals-F, out-Locals, roll-Locals, roll-out-Locals}
use Rattle.hs_modules.specs.declared.expressions.Locals.{out-roll-Locals}
use Rattle.hs_modules.specs.declared.expressions.Locals.TheVariants as lo
use Rattle.hs_modules.specs.declared.expressions.RhsBody.{RhsBody}
use Rattle.hs_modules.specs.declared.expressions.RhsTree.{RhsTree, out-RhsTree, roll-RhsTree, roll-out-RhsTree}
use Rattle.hs_modules.specs.declared.expressions.RhsTree.{out-roll-RhsTree}
use Rattle.hs_modules.proofs.FoldingLemmas.{Localss, AltSlots}
use Rattle.hs_modules.proofs.FoldingLemmas.{rhs_folded, alt_folded, locals_folded, alt_slot_folded, alt_block_folded}
use Rattle.hs_modules.proofs.PartDepthLemmas.{pat_depth_is}
use Rattle.hs_expression_forms.specs.Trees.{ended, Embeds}
use Rattle.hs_expression_forms.specs.Expressions.{few, alt_blocks}
use Rattle.hs_expression_forms.proofs.OperandLayerLemmas.{deepest_of, all_good_of}
use Rattle.hs_expression_forms.proofs.ListedLemmas.{few_within}
use Rattle.hs_block_forms.specs.Combined.{narrowed, Places, PlaceCase, is_none, is_some}
use Rattle.hs_block_forms.proofs.CombinedLemmas.{on_not}
use Rattle.hs_block_forms.specs.Blocks.{ends_item, rhs_bodies, alt_bodies, wheres, rhs_parts, rhss}
use Rattle.hs_block_forms.specs.Blocks.{alts, pat_alts, alt_slots, alt_items}

-- the declarations behind `where`, if any stand there
abbrev pub local_layer : Localss → List DeclBlock
local_layer Locals-F.Absent = []
local_layer (Locals-F.Where block) = block ∷ []

abbrev pub locals_list : Locals → List DeclBlock
locals_list x = local_layer (out-Locals x)

abbrev pub locals_of : List DeclBlock → Locals
locals_of [] = lo.Absent
locals_of (b ∷ bs) = lo.Where b

locals_of_layer : (l : Localss) → locals_of (local_layer l) ≡ roll-Locals l
locals_of_layer Locals-F.Absent = sym lo.rolls-Absent
locals_of_layer (Locals-F.Where b) = sym (lo.rolls-Where b)

locals_same : (x : Locals) → locals_of (locals_list x) ≡ x
locals_same x = locals_of_layer (out-Locals x) ∙ roll-out-Locals x

spelled_layer : (l : Localss) → spelling_locals (roll-Locals l) ≡ flat_map wheres.tokens (local_layer l)
unfolding token_algebra
spelled_layer Locals-F.Absent = locals_folded token_algebra Locals-F.Absent
spelled_layer (Locals-F.Where b) =
    locals_folded token_algebra (Locals-F.Where b) ∙ sym (append-nil (wheres.tokens b))

locals_spelled : (x : Locals) → spelling_locals x ≡ flat_map wheres.tokens (locals_list x)
locals_spelled x = ap spelling_locals (sym (roll-out-Locals x)) ∙ spelled_layer (out-Locals x)

and_true : (b : Bool) → b ≡ b && true
and_true true = refl
and_true false = refl

is_layer : (l : Localss) → (facts_of_locals (roll-Locals l)).good ≡ all_of (map wheres.formed (local_layer l))
unfolding fact_algebra
is_layer Locals-F.Absent = ap good_of (locals_folded fact_algebra Locals-F.Absent)
is_layer (Locals-F.Where b) =
    ap good_of (locals_folded fact_algebra (Locals-F.Where b)) ∙ and_true (wheres.formed b)

locals_is : (x : Locals) → (facts_of_locals x).good ≡ all_of (map wheres.formed (locals_list x))
locals_is x = ap (λ y. (facts_of_locals y).good) (sym (roll-out-Locals x)) ∙ is_layer (out-Locals x)

deep_layer : (l : Localss) → (extent_of_locals (roll-Locals l)).depth ≡ deepest (map wheres.deep (local_layer l))
unfolding extent_algebra
deep_layer Locals-F.Absent = ap depth_of (locals_folded extent_algebra Locals-F.Absent)
deep_layer (Locals-F.Where b) =
    let e : (extent_of_locals (roll-Locals (Locals-F.Where b))).depth ≡ wheres.deep b =
    ap depth_of (locals_folded extent_algebra (Locals-F.Where b)) in
    omega (arith, e)

locals_deep : (x : Locals) → (extent_of_locals x).depth ≡ deepest (map wheres.deep (locals_list x))
locals_deep x = ap (λ y. (extent_of_locals y).depth) (sym (roll-out-Locals x)) ∙ deep_layer (out-Locals x)

few_layer : (l : Localss) → few (Some 1) (length (local_layer l)) ≡ true
few_layer Locals-F.Absent = refl
few_layer (Locals-F.Where b) = refl

few_locals : (x : Locals) → few (Some 1) (length (locals_list x)) ≡ true
few_locals x = few_layer (out-Locals x)

absent_list : locals_list lo.Absent ≡ []
absent_list = ap local_layer (ap out-Locals (sym lo.rolls-Absent) ∙ out-roll-Locals Locals-F.Absent)

where_list : (b : DeclBlock) → locals_list (lo.Where b) ≡ b ∷ []
where_list b = ap local_layer (ap out-Locals (sym (lo.rolls-Where b)) ∙ out-roll-Locals (Locals-F.Where b))

-- a list of at most one
short : (bs : List DeclBlock) → few (Some 1) (length bs) ≡ true → locals_list (locals_of bs) ≡ bs
short [] h = absent_list
short (b ∷ []) h = where_list b
short (b ∷ c ∷ bs) h = absurd (over (few_within (Some 1) (length (b ∷ c ∷ bs)) h))
  where
    over : length (b ∷ c ∷ bs) ≤ 1 → ⊥
    over le = omega (arith, le)

-- right sides
abbrev pub into_rhs : RhsTree → RhsBody × List DeclBlock
into_rhs x = ((out-RhsTree x).body, locals_list (out-RhsTree x).locals)

abbrev pub from_rhs : RhsBody × List DeclBlock → RhsTree
from_rhs p = roll-RhsTree (record { body = p.0; locals = locals_of p.1 })

rhs_same : (x : RhsTree) → from_rhs (into_rhs x) ≡ x
rhs_same x =
    ap (λ l. roll-RhsTree (record { body = (out-RhsTree x).body; locals = l })) (locals_same (out-RhsTree x).locals)
    ∙ roll-out-RhsTree x

pub rhs_back : (p : RhsBody × List DeclBlock) → rhs_parts.formed p ≡ true → into_rhs (from_rhs p) ≡ p
rhs_back (b, bs) good =
    ap (λ o. (o.body, locals_list o.locals)) (out-roll-RhsTree (record { body = b; locals = locals_of bs }))
    ∙ ap (λ l. (b, l)) (short bs (and_left (few (Some 1) (length bs)) _ good))

pub rhs_embeds : Embeds rhss (narrowed rhs_parts ends_item) into_rhs
unfolding token_algebra fact_algebra extent_algebra
rhs_embeds = record {
  tokens = λ x. (let o = out-RhsTree x in
      ap (λ l. spelling_rhs_body o.body ++ l) (sym (locals_spelled o.locals)) ∙ sym (rhs_folded token_algebra o)
      ∙ ap spelling_rhs (roll-out-RhsTree x));
  formed = λ x. (let o = out-RhsTree x in
      ap (λ b. b && (rhs_bodies.formed o.body && all_of (map wheres.formed (locals_list o.locals))))
      (few_locals o.locals)
      ∙ ap (λ b. rhs_bodies.formed o.body && b) (sym (locals_is o.locals))
      ∙ sym (ap good_of (rhs_folded fact_algebra o)) ∙ ap (λ y. rhss.formed y) (roll-out-RhsTree x));
  deep = λ x. (let o = out-RhsTree x in
      ap (λ n. max (rhs_bodies.deep o.body) n) (sym (locals_deep o.locals))
      ∙ sym (ap depth_of (rhs_folded extent_algebra o)) ∙ ap (λ y. rhss.deep y) (roll-out-RhsTree x));
  extends = λ x k e. e;
  one = λ x y e. sym (rhs_same x) ∙ ap from_rhs e ∙ rhs_same y;
}

-- alternatives
abbrev pub into_alt : AltTree → PatTree × (AltBody × List DeclBlock)
into_alt x = ((out-AltTree x).pat, ((out-AltTree x).body, locals_list (out-AltTree x).locals))

abbrev pub from_alt : PatTree × (AltBody × List DeclBlock) → AltTree
from_alt p = roll-AltTree (record { pat = p.0; body = p.1.0; locals = locals_of p.1.1 })

alt_same : (x : AltTree) → from_alt (into_alt x) ≡ x
alt_same x =
    ap (λ l. roll-AltTree (record { pat = (out-AltTree x).pat; body = (out-AltTree x).body; locals = l }))
    (locals_same (out-AltTree x).locals)
    ∙ roll-out-AltTree x

pub alt_back : (p : PatTree × (AltBody × List DeclBlock)) → pat_alts.formed p ≡ true → into_alt (from_alt p) ≡ p
alt_back (x, (b, bs)) good =
    ap (λ o. (o.pat, (o.body, locals_list o.locals)))
    (out-roll-AltTree (record { pat = x; body = b; locals = locals_of bs }))
    ∙ ap (λ l. (x, (b, l))) (short bs (and_left (few (Some 1) (length bs)) _ (and_right (is_pat x) _ good)))

pub alt_embeds : Embeds alts pat_alts into_alt
unfolding token_algebra fact_algebra extent_algebra
alt_embeds = record {
  tokens = λ x. (let o = out-AltTree x in
      ap (λ l. spelling_pat o.pat ++ (spelling_alt_body o.body ++ l)) (sym (locals_spelled o.locals))
      ∙ sym (alt_folded token_algebra o) ∙ ap spelling_alt (roll-out-AltTree x));
  formed = λ x. (let o = out-AltTree x in
      ap (λ b. is_pat o.pat && (b && (alt_bodies.formed o.body && all_of (map wheres.formed (locals_list o.locals)))))
      (few_locals o.locals)
      ∙ ap (λ b. is_pat o.pat && (alt_bodies.formed o.body && b)) (sym (locals_is o.locals))
      ∙ sym (ap good_of (alt_folded fact_algebra o)) ∙ ap (λ y. alts.formed y) (roll-out-AltTree x));
  deep = λ x. (let o = out-AltTree x in
      let e : alts.deep (roll-AltTree o) ≡ max (max (extent_of_pat o.pat).depth (alt_bodies.deep o.body))
      (extent_of_locals o.locals).depth = ap depth_of (alt_folded extent_algebra o) in
      let f : alts.deep (roll-AltTree o) ≡ alts.deep x = ap (λ y. alts.deep y) (roll-out-AltTree x) in
      omega (arith, e, f, locals_deep o.locals, pat_depth_is o.pat));
  extends = λ x k e. e;
  one = λ x y e. sym (alt_same x) ∙ ap from_alt e ∙ alt_same y;
}

-- places of a block of alternatives
pub ends_alt : (k : Terminal) → ends_item k ≡ true → starts_lpat k ≡ false
ends_alt t.Semicolon h = refl
ends_alt t.RightBrace h = refl
ends_alt _ h = absurd (true≢false (sym h))

pub starts_wide : (ts : Ts) → starts_pat ts ≡ true → begins starts_lpat ts ≡ true
starts_wide [] h = h
starts_wide (t.VarSym n ∷ []) h = absurd (true≢false (sym h))
starts_wide (t.VarSym n ∷ t.Integer m ∷ ts) h = h
starts_wide (t.VarSym n ∷ k ∷ ts) h = absurd (true≢false (sym h))
starts_wide (k ∷ ts) h = ap (λ b. b || is_minus k) h

alt_starts : (x : AltTree) → begins starts_lpat (spelling_alt x) ≡ true
alt_starts x =
    let o = out-AltTree x in
    ap (begins starts_lpat) (sym (alt_embeds.tokens x))
    ∙ begins_append starts_lpat (spelling_pat o.pat) _ (starts_wide (spelling_pat o.pat) (pat_starts o.pat))

slot_case_layer : (l : AltSlots) → PlaceCase sl.NoAlt (λ x. sl.Alt x) (roll-AltSlot l)
slot_case_layer AltSlot-F.NoAlt = is_none sl.rolls-NoAlt
slot_case_layer (AltSlot-F.Alt x) = is_some x (sl.rolls-Alt x)

pub alt_places : Places alts alt_slots sl.NoAlt (λ x. sl.Alt x) starts_lpat ends_item
unfolding token_algebra fact_algebra extent_algebra
alt_places = record {
  none_tokens = ap spelling_alt_slot (sym sl.rolls-NoAlt) ∙ alt_slot_folded token_algebra AltSlot-F.NoAlt;
  none_formed = ap (λ y. alt_slots.formed y) (sym sl.rolls-NoAlt)
      ∙ ap good_of (alt_slot_folded fact_algebra AltSlot-F.NoAlt);
  none_deep = ap (λ y. alt_slots.deep y) (sym sl.rolls-NoAlt)
      ∙ ap depth_of (alt_slot_folded extent_algebra AltSlot-F.NoAlt);
  tokens = λ x. ap spelling_alt_slot (sym (sl.rolls-Alt x)) ∙ alt_slot_folded token_algebra (AltSlot-F.Alt x);
  formed = λ x. ap (λ y. alt_slots.formed y) (sym (sl.rolls-Alt x))
      ∙ ap good_of (alt_slot_folded fact_algebra (AltSlot-F.Alt x));
  deep = λ x. ap (λ y. alt_slots.deep y) (sym (sl.rolls-Alt x))
      ∙ ap depth_of (alt_slot_folded extent_algebra (AltSlot-F.Alt x));
  extends = λ y k. refl;
  quiet = λ x k h. on_not (ends_item k) h;
  starts = alt_starts;
  apart = ends_alt;
  cases = λ y. subst (PlaceCase sl.NoAlt (λ x. sl.Alt x)) (roll-out-AltSlot y) (slot_case_layer (out-AltSlot y));
}

-- blocks of alternatives
abbrev pub into_block : AltBlock → AltSlot × List AltSlot
into_block x = ((out-AltBlock x).first, (out-AltBlock x).rest)

abbrev pub from_block : AltSlot × List AltSlot → AltBlock
from_block p = roll-AltBlock (record { first = p.0; rest = p.1 })

pub block_embeds : Embeds alt_blocks (ended alt_items t.RightBrace) into_block
unfolding token_algebra fact_algebra extent_algebra
block_embeds = record {
  tokens = λ x. (let o = out-AltBlock x in
      ap (λ l. t.LeftBrace ∷ ((spelling_alt_slot o.first ++ l) ++ t.RightBrace ∷ []))
      (sym (flat_map-map (λ part. t.Semicolon ∷ part) spelling_alt_slot o.rest))
      ∙ sym (alt_block_folded token_algebra o) ∙ ap spelling_alt_block (roll-out-AltBlock x));
  formed = λ x. (let o = out-AltBlock x in
      ap (λ b. alt_slots.formed o.first && b) (sym (all_good_of facts_of_alt_slot o.rest))
      ∙ sym (ap good_of (alt_block_folded fact_algebra o)) ∙ ap (λ y. alt_blocks.formed y) (roll-out-AltBlock x));
  deep = λ x. (let o = out-AltBlock x in
      ap (λ n. max (alt_slots.deep o.first) n) (sym (deepest_of extent_of_alt_slot o.rest))
      ∙ sym (ap depth_of (alt_block_folded extent_algebra o)) ∙ ap (λ y. alt_blocks.deep y) (roll-out-AltBlock x));
  extends = λ x k e. refl;
  one = λ x y e. sym (roll-out-AltBlock x) ∙ ap from_block e ∙ roll-out-AltBlock y;
}

pub block_back : (p : AltSlot × List AltSlot) → into_block (from_block p) ≡ p
block_back p = ap (λ o. (o.first, o.rest)) (out-roll-AltBlock (record { first = p.0; rest = p.1 }))
