-- Places of blocks of declarations, and such blocks; and what their readers answer.
use Rattle.std.proofs.Common.{◌≡◌, ℕ, Bool, true, false, List, [], ◌∷◌, ◌++◌, length, refl, sym, ap, ◌∙◌, subst}
use Rattle.std.proofs.Common.{true≢false, arith}
use Rattle.std.specs.Prelude.{max, map, flat_map, not, ◌&&◌, Option, None}
use Rattle.std.proofs.lemmas.List.{append-nil}
use Rattle.std.proofs.lemmas.List.Folds.{flat_map-map}
use Rattle.hs_forms.specs.Reading.{begins}
use Rattle.hs_forms.specs.Answers.{Rejects}
use Rattle.hs_forms.specs.Productions.{Chain}
use Rattle.hs_forms.specs.declared.fault.Fault.{Fault}
use Rattle.hs_forms.specs.declared.fault.Fault.TheVariants.{At}
use Rattle.hs_forms.proofs.FormLemmas.{begins_same}
use Rattle.hs_forms.proofs.LimitLemmas.{within_less, within_zero}
use Rattle.hs_tokens.specs.declared.terminal.Terminal.{Terminal}
use Rattle.hs_tokens.specs.declared.terminal.Terminal.TheVariants as t
use Rattle.hs_trees.specs.Patterns.{Ts}
use Rattle.hs_modules.specs.Extents.{depth_of}
use Rattle.hs_modules.specs.ExpressionExtents.{extent_algebra, extent_of_decl_slot}
use Rattle.hs_modules.specs.Tokens.{token_algebra, spelling_decl, spelling_decl_slot, spelling_decl_block}
use Rattle.hs_modules.specs.Formed.{fact_algebra, good_of, facts_of_decl_slot}
use Rattle.hs_modules.specs.declared.expressions.DeclBlock.{DeclBlock, out-DeclBlock, roll-DeclBlock}
use Rattle.hs_modules.specs.declared.expressions.DeclBlock.{roll-out-DeclBlock, out-roll-DeclBlock}
use Rattle.hs_modules.specs.declared.expressions.DeclSlot.{DeclSlot, DeclSlot-F, out-DeclSlot, roll-DeclSlot}
use Rattle.hs_modules.specs.declared.expressions.DeclSlot.{roll-out-DeclSlot}
use Rattle.hs_modules.specs.declared.expressions.DeclSlot.TheVariants as sl
use Rattle.hs_modules.specs.declared.expressions.DeclTree.{DeclTree}
use Rattle.hs_modules.proofs.FoldingLemmas.{DeclSlots, decl_slot_folded, decl_block_folded}
use Rattle.hs_expression_forms.specs.Trees.{within, Took, Failed, behind_token, ended, Embeds}
use Rattle.hs_expression_forms.specs.Expressions.{decl_blocks}
use Rattle.hs_expression_forms.proofs.OperandLayerLemmas.{deepest_of, all_good_of}
use Rattle.hs_expression_forms.proofs.TreesLemmas.{ended_took, ended_failed, ended_missed}
use Rattle.hs_expression_forms.proofs.TreesLemmas.{embeds_took, embeds_failed}
use Rattle.hs_block_forms.specs.Combined.{Heads, Places, PlaceCase, is_none, is_some}
use Rattle.hs_block_forms.specs.Blocks.{ends_item, is_left_brace, is_semicolon}
use Rattle.hs_block_forms.proofs.CombinedLemmas.{headed_chain, on_not}
use Rattle.hs_declaration_forms.specs.Typings.{fills_place}
use Rattle.hs_binding_forms.specs.Bindings.{decls, decl_slots, decl_items}
use Rattle.hs_binding_forms.proofs.DeclStartLemmas.{decl_first}

-- places
slot_layer : (l : DeclSlots) → PlaceCase sl.NoDecl (λ x. sl.Decl x) (roll-DeclSlot l)
slot_layer DeclSlot-F.NoDecl = is_none sl.rolls-NoDecl
slot_layer (DeclSlot-F.Decl x) = is_some x (sl.rolls-Decl x)

decl_starts : (x : DeclTree) → begins fills_place (spelling_decl x) ≡ true
decl_starts x = ap (begins fills_place) (sym (append-nil (spelling_decl x))) ∙ (decl_first x []).place

pub decl_places : Places decls decl_slots sl.NoDecl (λ x. sl.Decl x) fills_place ends_item
unfolding token_algebra fact_algebra extent_algebra
decl_places = record {
  none_tokens = ap spelling_decl_slot (sym sl.rolls-NoDecl) ∙ decl_slot_folded token_algebra DeclSlot-F.NoDecl;
  none_formed = ap (λ y. decl_slots.formed y) (sym sl.rolls-NoDecl)
      ∙ ap good_of (decl_slot_folded fact_algebra DeclSlot-F.NoDecl);
  none_deep = ap (λ y. decl_slots.deep y) (sym sl.rolls-NoDecl)
      ∙ ap depth_of (decl_slot_folded extent_algebra DeclSlot-F.NoDecl);
  tokens = λ x. ap spelling_decl_slot (sym (sl.rolls-Decl x)) ∙ decl_slot_folded token_algebra (DeclSlot-F.Decl x);
  formed = λ x. ap (λ y. decl_slots.formed y) (sym (sl.rolls-Decl x))
      ∙ ap good_of (decl_slot_folded fact_algebra (DeclSlot-F.Decl x));
  deep = λ x. ap (λ y. decl_slots.deep y) (sym (sl.rolls-Decl x))
      ∙ ap depth_of (decl_slot_folded extent_algebra (DeclSlot-F.Decl x));
  extends = λ y k. refl;
  quiet = λ x k h. on_not (ends_item k) h;
  starts = decl_starts;
  apart = λ k h. on_not (ends_item k) h;
  cases = λ y. subst (PlaceCase sl.NoDecl (λ x. sl.Decl x)) (roll-out-DeclSlot y) (slot_layer (out-DeclSlot y));
}

semicolon_ends : (k : Terminal) → is_semicolon k ≡ true → not (ends_item k) ≡ false
semicolon_ends t.Semicolon h = refl
semicolon_ends _ h = absurd (true≢false (sym h))

pub item_heads : Heads (behind_token t.LeftBrace decl_slots) (behind_token t.Semicolon decl_slots) is_semicolon
item_heads = record {
  starts = λ x. refl;
  apart_head = λ h k e. semicolon_ends k e;
  apart = λ x k e. semicolon_ends k e;
}

abbrev pub decl_chain : Option ℕ → Chain Terminal (DeclSlot × List DeclSlot) DeclSlot DeclSlot
decl_chain limit =
    headed_chain (behind_token t.LeftBrace decl_slots) (behind_token t.Semicolon decl_slots) is_semicolon item_heads
    None limit (within (behind_token t.Semicolon decl_slots) limit).Good (Unit {0}) (λ r x g. g) (λ x g. (tt, g))

-- blocks
abbrev pub into_block : DeclBlock → DeclSlot × List DeclSlot
into_block x = ((out-DeclBlock x).first, (out-DeclBlock x).rest)

abbrev pub from_block : DeclSlot × List DeclSlot → DeclBlock
from_block p = roll-DeclBlock (record { first = p.0; rest = p.1 })

block_embeds : Embeds decl_blocks (ended decl_items t.RightBrace) into_block
unfolding token_algebra fact_algebra extent_algebra
block_embeds = record {
  tokens = λ x. (let o = out-DeclBlock x in
      ap (λ l. t.LeftBrace ∷ ((spelling_decl_slot o.first ++ l) ++ t.RightBrace ∷ []))
      (sym (flat_map-map (λ part. t.Semicolon ∷ part) spelling_decl_slot o.rest))
      ∙ sym (decl_block_folded token_algebra o) ∙ ap spelling_decl_block (roll-out-DeclBlock x));
  formed = λ x. (let o = out-DeclBlock x in
      ap (λ b. decl_slots.formed o.first && b) (sym (all_good_of facts_of_decl_slot o.rest))
      ∙ sym (ap good_of (decl_block_folded fact_algebra o)) ∙ ap (λ y. decl_blocks.formed y) (roll-out-DeclBlock x));
  deep = λ x. (let o = out-DeclBlock x in
      ap (λ n. max (decl_slots.deep o.first) n) (sym (deepest_of extent_of_decl_slot o.rest))
      ∙ sym (ap depth_of (decl_block_folded extent_algebra o)) ∙ ap (λ y. decl_blocks.deep y) (roll-out-DeclBlock x));
  extends = λ x k e. refl;
  one = λ x y e. sym (roll-out-DeclBlock x) ∙ ap from_block e ∙ roll-out-DeclBlock y;
}

block_back : (p : DeclSlot × List DeclSlot) → into_block (from_block p) ≡ p
block_back p = ap (λ o. (o.first, o.rest)) (out-roll-DeclBlock (record { first = p.0; rest = p.1 }))

items_end : (p : DeclSlot × List DeclSlot) → decl_items.extends p t.RightBrace ≡ false
items_end (h, []) = refl
items_end (h, x ∷ xs) = refl

least_slot : (limit : Option ℕ) → (within decl_slots limit).Good sl.NoDecl
least_slot limit =
    (decl_places.none_formed, within_less limit _ 0 (omega (arith, decl_places.none_deep)) (within_zero limit))

pub block_took : (limit : Option ℕ) (ts : Ts) (p : DeclSlot × List DeclSlot) (here rest : Ts) (m : ℕ) →
    Took decl_items limit ts p here m → here ≡ t.RightBrace ∷ rest → Took decl_blocks limit ts (from_block p) rest m
block_took limit ts p here rest m acc at =
    embeds_took decl_blocks (ended decl_items t.RightBrace) into_block block_embeds limit ts (from_block p) rest m
    (subst (λ q. Took (ended decl_items t.RightBrace) limit ts q rest m) (sym (block_back p))
    (ended_took decl_items limit t.RightBrace items_end ts p here rest m acc at))

failed_by : (limit : Option ℕ) (ts : Ts) (e : Fault) → Failed (ended decl_items t.RightBrace) limit ts e →
    Failed decl_blocks limit ts e
failed_by limit ts e r =
    embeds_failed decl_blocks (ended decl_items t.RightBrace) into_block block_embeds limit
    (λ p good. (from_block p, sym (block_back p))) ts e r

pub block_failed : (limit : Option ℕ) (ts : Ts) (e : Fault) → Failed decl_items limit ts e →
    Failed decl_blocks limit ts e
block_failed limit ts e r = failed_by limit ts e (ended_failed decl_items limit t.RightBrace items_end ts e r)

pub block_missed : (limit : Option ℕ) (is_right_brace : Terminal → Bool) → is_right_brace t.RightBrace ≡ true →
    (ts : Ts) (p : DeclSlot × List DeclSlot) (here : Ts) (m : ℕ) → Took decl_items limit ts p here m →
    begins is_right_brace here ≡ false → Rejects (within decl_blocks limit) ts (length here)
block_missed limit is_right_brace is ts p here m acc missed =
    failed_by limit ts (At (length here)) (ended_missed decl_items limit t.RightBrace items_end is_right_brace is
    ts p here m acc missed)

-- no block begins here
pub no_brace : (limit : Option ℕ) (ts : Ts) → begins is_left_brace ts ≡ false →
    Rejects (within (behind_token t.LeftBrace decl_slots) limit) ts (length ts)
no_brace limit ts off = record {
  before = [];
  bad = ts;
  split = refl;
  left_is = refl;
  refuses = record {
    begun = (_, sl.NoDecl, least_slot limit, refl);
    never = λ s other after same good quiet e.
        true≢false (sym (ap (begins is_left_brace) e) ∙ begins_same is_left_brace ts s same ∙ off);
  };
}
