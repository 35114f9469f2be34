-- Declarations and their blocks are found again if the right sides in them are.
use Rattle.std.proofs.Common.{◌≡◌, ℕ, suc, ◌<◌, ◌≤◌, true, false, List, [], ◌∷◌, ◌++◌, length, refl, sym, ap, ◌∙◌}
use Rattle.std.proofs.Common.{subst, true≢false, arith, length-append}
use Rattle.std.specs.Prelude.{flat_map, ◌&&◌, Option, Some, None}
use Rattle.std.proofs.lemmas.List.{append-nil}
use Rattle.hs_forms.specs.Reading.{begins}
use Rattle.hs_forms.specs.Answers.{Accepts}
use Rattle.hs_forms.proofs.FormLemmas.{begins_apart}
use Rattle.hs_forms.proofs.LimitLemmas.{and_left, and_right}
use Rattle.hs_forms.proofs.WholeChainLemmas.{begins_length}
use Rattle.hs_tokens.specs.Terminals.{is_comma}
use Rattle.hs_tokens.specs.declared.terminal.Terminal.{Terminal}
use Rattle.hs_tokens.specs.declared.terminal.Terminal.TheVariants as t
use Rattle.hs_trees.specs.Types.{spelling_type}
use Rattle.hs_trees.specs.Patterns.{Ts, var_tokens, starts_apat}
use Rattle.hs_trees.specs.declared.types.TypeTree.{TypeTree}
use Rattle.hs_trees.specs.declared.patterns.VarTree.{VarTree}
use Rattle.hs_trees.specs.declared.patterns.VarTree.TheVariants as va
use Rattle.hs_trees.proofs.PatternLayerLemmas.{var_starts}
use Rattle.hs_modules.specs.Words.{op_tokens}
use Rattle.hs_modules.specs.Tokens.{token_algebra, spelling_decl, spelling_decl_slot, spelling_decl_block, spelling_rhs}
use Rattle.hs_modules.specs.Tokens.{fixity_word, level_tokens}
use Rattle.hs_modules.specs.Formed.{fact_algebra, good_of, facts_of_decl, is_level}
use Rattle.hs_modules.specs.declared.declarations.Fixity.{Fixity}
use Rattle.hs_modules.specs.declared.names.OpTree.{OpTree}
use Rattle.hs_modules.specs.declared.names.OpTree.TheVariants as o
use Rattle.hs_modules.specs.declared.names.VarOpTree.TheVariants as v
use Rattle.hs_modules.specs.declared.names.ConOpTree.TheVariants as c
use Rattle.hs_modules.specs.declared.expressions.DeclBlock.{DeclBlock, out-DeclBlock, roll-out-DeclBlock}
use Rattle.hs_modules.specs.declared.expressions.DeclSlot.{DeclSlot}
use Rattle.hs_modules.specs.declared.expressions.DeclSlot.TheVariants as sl
use Rattle.hs_modules.specs.declared.expressions.DeclTree.{DeclTree, DeclTree-F, out-DeclTree, roll-DeclTree}
use Rattle.hs_modules.specs.declared.expressions.DeclTree.{roll-out-DeclTree}
use Rattle.hs_modules.specs.declared.expressions.DeclTree.TheVariants as d
use Rattle.hs_modules.specs.declared.expressions.RhsTree.{RhsTree}
use Rattle.hs_modules.proofs.FoldingLemmas.{DeclTrees, decl_folded}
use Rattle.hs_expression_forms.specs.Trees.{Took, behind_token, ended}
use Rattle.hs_expression_forms.specs.Expressions.{types, decl_blocks}
use Rattle.hs_block_forms.specs.Blocks.{ends_item, rhss}
use Rattle.hs_block_forms.proofs.BodyLemmas.{rhs_starter}
use Rattle.hs_left_forms.specs.Lefts.{left_sides, left_tokens, left_goes}
use Rattle.hs_left_forms.specs.declared.left_side.LeftSide.{LeftSide}
use Rattle.hs_left_forms.specs.declared.left_side.LeftSide.TheVariants as left
use Rattle.hs_declaration_forms.specs.Typings.{vars, var_lists, ops, op_lists, typings, fixities, FixityHead}
use Rattle.hs_declaration_forms.specs.Typings.{fixity_head_form, is_digit, starts_op, fills_place, plain_decls}
use Rattle.hs_declaration_forms.proofs.DeclLayerLemmas.{VarParts, OpParts, make_typing, make_fixity}
use Rattle.hs_declaration_forms.proofs.DeclLayerLemmas.{DeclCase, is_typing, is_fixity, binds, decl_case}
use Rattle.hs_declaration_forms.proofs.ListLemmas.{vars_are, ops_are}
use Rattle.hs_declaration_forms.proofs.OpLemmas.{op_starts}
use Rattle.hs_declaration_forms.proofs.TypingLemmas.{types_quiet, typing_took}
use Rattle.hs_declaration_forms.proofs.FixityLemmas.{bare_ok, level_ok, fixity_took}
use Rattle.hs_declaration_forms.proofs.PlainLemmas.{typing_makes, fixity_makes}
use Rattle.hs_declaration_forms.proofs.MadeLemmas.{begins_none}
use Rattle.hs_declaration_forms.proofs.DeclLayerLemmas.{typing_binds, fixity_binds}
use Rattle.hs_declaration_forms.specs.Typings.{starts_fixity}
use Rattle.hs_modules.specs.ModuleForms.{binds_nothing}
use Rattle.hs_modules.specs.declared.declarations.TopDeclTree.TheVariants as top
use Rattle.hs_modules.specs.Formed.{facts_of_decl_slot}
use Rattle.hs_modules.specs.declared.expressions.DeclBlock.{DeclBlock}
use Rattle.hs_modules.proofs.FoldingLemmas.{decl_block_folded}
use Rattle.hs_expression_forms.proofs.OperandLayerLemmas.{all_good_of}
use Rattle.hs_forms.proofs.FormLemmas.{begins_append}
use Rattle.hs_block_forms.proofs.ItemLayerLemmas.{into_rhs, rhs_embeds}
use Rattle.hs_block_forms.proofs.BodyLemmas.{rhs_starts}
use Rattle.hs_modules.specs.Tokens.{spelling_rhs_body}
use Rattle.std.proofs.lemmas.Bool.{and_from}
use Rattle.std.proofs.lemmas.List.Folds.{flat_map-map}
use Rattle.hs_binding_forms.specs.Bindings.{decls, decl_slots, decl_items, binding_parts, binding_of}
use Rattle.hs_binding_forms.proofs.BindingLemmas.{plain_took, bound_took, binding_took}
use Rattle.hs_binding_forms.proofs.DeclBlockLemmas.{decl_places, decl_chain, into_block, from_block, block_took}
use Rattle.hs_one_tree.specs.Found.{Found, Upto}
use Rattle.hs_one_tree.proofs.WholeLemmas.{each_all, each_upto, chain_found, ItemFound}
use Rattle.hs_one_tree.proofs.FoundLemmas.{found, same_found, read_found, between_found, plain_found, place_found}
use Rattle.hs_one_tree.proofs.FoundLemmas.{follow_quiet}
use Rattle.hs_one_tree.proofs.TypeFoundLemmas.{types_found}
use Rattle.hs_one_tree.proofs.LeftFoundLemmas.{lefts_found}

-- names of variables, and operators
pub one_var : (x y : VarTree) (s r : Ts) → var_tokens x ++ s ≡ var_tokens y ++ r → (y ≡ x) × (r ≡ s)
one_var (va.Id n) (va.Id m) s r e = let same : m ≡ n = cc in (ap va.Id same, cc)
one_var (va.Id n) (va.Sym m) s r e = absurd cc
one_var (va.Sym n) (va.Id m) s r e = absurd cc
one_var (va.Sym n) (va.Sym m) s r e = let same : m ≡ n = cc in (ap va.Sym same, cc)

vars_found : (x : VarTree) → Found vars x
vars_found x good rest quiet =
    read_found vars x rest (record {
      good = (good, tt);
      only = λ s other after same it still e. one_var x other s after e;
    }) (begins_length starts_apat (var_tokens x) (var_starts x))

one_op : (x y : OpTree) (s r : Ts) → op_tokens x ++ s ≡ op_tokens y ++ r → (y ≡ x) × (r ≡ s)
one_op (o.Var (v.Sym n)) (o.Var (v.Sym m)) s r e = let same : m ≡ n = cc in (ap (λ k. o.Var (v.Sym k)) same, cc)
one_op (o.Var (v.Sym n)) (o.Var (v.Quoted m)) s r e = absurd cc
one_op (o.Var (v.Sym n)) (o.Con (c.Sym m)) s r e = absurd cc
one_op (o.Var (v.Sym n)) (o.Con (c.Quoted m)) s r e = absurd cc
one_op (o.Var (v.Quoted n)) (o.Var (v.Sym m)) s r e = absurd cc
one_op (o.Var (v.Quoted n)) (o.Var (v.Quoted m)) s r e =
    let same : m ≡ n = cc in (ap (λ k. o.Var (v.Quoted k)) same, cc)
one_op (o.Var (v.Quoted n)) (o.Con (c.Sym m)) s r e = absurd cc
one_op (o.Var (v.Quoted n)) (o.Con (c.Quoted m)) s r e = absurd cc
one_op (o.Con (c.Sym n)) (o.Var (v.Sym m)) s r e = absurd cc
one_op (o.Con (c.Sym n)) (o.Var (v.Quoted m)) s r e = absurd cc
one_op (o.Con (c.Sym n)) (o.Con (c.Sym m)) s r e = let same : m ≡ n = cc in (ap (λ k. o.Con (c.Sym k)) same, cc)
one_op (o.Con (c.Sym n)) (o.Con (c.Quoted m)) s r e = absurd cc
one_op (o.Con (c.Quoted n)) (o.Var (v.Sym m)) s r e = absurd cc
one_op (o.Con (c.Quoted n)) (o.Var (v.Quoted m)) s r e = absurd cc
one_op (o.Con (c.Quoted n)) (o.Con (c.Sym m)) s r e = absurd cc
one_op (o.Con (c.Quoted n)) (o.Con (c.Quoted m)) s r e =
    let same : m ≡ n = cc in (ap (λ k. o.Con (c.Quoted k)) same, cc)

op_begins : (x : OpTree) → ops.formed x ≡ true → begins starts_op (op_tokens x) ≡ true
op_begins x good = op_starts x (op_tokens x) [] good (sym (append-nil (op_tokens x)))

ops_found : (x : OpTree) → Found ops x
ops_found x good rest quiet =
    read_found ops x rest (record {
      good = (good, tt);
      only = λ s other after same it still e. one_op x other s after e;
    }) (begins_length starts_op (op_tokens x) (op_begins x good))

-- the types of variables
var_lists_found : (p : VarParts) → Found var_lists p
var_lists_found p =
    between_found vars t.Comma is_comma vars_are None p.0 p.1 (vars_found p.0) (each_all (Found vars) vars_found p.1)

typings_found : (p : VarParts × TypeTree) → Found typings p
typings_found p good rest quiet =
    let behind = spelling_type p.1 ++ rest in
    let here = t.DoubleColon ∷ behind in
    let ts = var_lists.tokens p.0 ++ here in
    let names = var_lists_found p.0 (and_left (var_lists.formed p.0) _ good) here refl in
    let type = types_found p.1 (and_right (var_lists.formed p.0) _ good) rest
    (follow_quiet types ends_item types_quiet p.1 rest quiet) in
    found typings ts p rest _ (typing_took None ts p.0 here _ names behind refl p.1 rest _ type)

-- how tightly operators bind
no_digit : (k : Terminal) → starts_op k ≡ true → is_digit k ≡ false
no_digit (t.Integer x) h = absurd (true≢false (sym h))
no_digit _ h = refl

ops_quiet : (p : OpParts) (k : Terminal) → ends_item k ≡ true → op_lists.extends p k ≡ false
ops_quiet p t.Semicolon h = refl
ops_quiet p t.RightBrace h = refl
ops_quiet p _ h = absurd (true≢false (sym h))

head_at : (w : Fixity) (l : Option (List ℕ)) (here : Ts) → is_level l ≡ true → begins is_digit here ≡ false →
    Accepts fixity_head_form (λ x. 0) (fixity_word w ∷ (level_tokens l ++ here)) (w, l) here 0
head_at w None here good off = bare_ok w (fixity_word w ∷ here) here refl off
head_at w (Some n) here good off =
    level_ok w (fixity_word w ∷ t.Integer n ∷ here) (t.Integer n ∷ here) refl n here refl good

fixities_found : (p : FixityHead × OpParts) → Found fixities p
fixities_found p good rest quiet =
    let fine = and_right (is_level p.0.1) _ good in
    let here = op_lists.tokens p.1 ++ rest in
    let ts = fixity_word p.0.0 ∷ (level_tokens p.0.1 ++ here) in
    let first = op_begins p.1.0 (and_left (ops.formed p.1.0) _ fine) in
    let off = begins_apart starts_op is_digit (op_lists.tokens p.1) rest no_digit
    (begins_append starts_op (op_tokens p.1.0) (flat_map (λ x. t.Comma ∷ op_tokens x) p.1.1) first) in
    let names = between_found ops t.Comma is_comma ops_are None p.1.0 p.1.1 (ops_found p.1.0)
    (each_all (Found ops) ops_found p.1.1) fine rest (follow_quiet op_lists ends_item ops_quiet p.1 rest quiet) in
    found fixities ts p rest 0
    (fixity_took None ts p.0 here 0 (head_at p.0.0 p.0.1 here (and_left (is_level p.0.1) _ good) off) p.1 rest _ names)

-- declarations that bind nothing
nothing_found : (x : DeclTree) → binds_nothing (top.Decl x) ≡ true → Found plain_decls x → Found decls x
nothing_found x nothing f good rest quiet =
    plain_took None (spelling_decl x ++ rest) x rest _ (f (and_from _ _ good nothing) rest quiet)

pub plain_decls_found : (x : DeclTree) → Found plain_decls x
plain_decls_found x = by (decl_case x)
  where
    by : DeclCase x → Found plain_decls x
    by (is_typing p is) =
        same_found plain_decls x (make_typing p) is
        (plain_found plain_decls typings make_typing (begins_none starts_fixity) typing_makes p (typings_found p))
    by (is_fixity p is) =
        same_found plain_decls x (make_fixity p) is
        (plain_found plain_decls fixities make_fixity (begins starts_fixity) fixity_makes p (fixities_found p))
    by (binds free) = λ good. absurd (true≢false (sym (and_right (facts_of_decl x).good _ good) ∙ free))

-- a left side and a right one
binding_spelled : (p : LeftSide × RhsTree) → spelling_decl (binding_of p) ≡ binding_parts.tokens p
unfolding token_algebra
binding_spelled (left.Function x, r) =
    ap spelling_decl (sym (d.rolls-Function x r)) ∙ decl_folded token_algebra (DeclTree-F.Function x r)
binding_spelled (left.Pattern x, r) =
    ap spelling_decl (sym (d.rolls-Pattern x r)) ∙ decl_folded token_algebra (DeclTree-F.Pattern x r)

binding_good : (p : LeftSide × RhsTree) → (facts_of_decl (binding_of p)).good ≡ binding_parts.formed p
unfolding fact_algebra
binding_good (left.Function x, r) =
    ap (λ y. (facts_of_decl y).good) (sym (d.rolls-Function x r))
    ∙ ap good_of (decl_folded fact_algebra (DeclTree-F.Function x r))
binding_good (left.Pattern x, r) =
    ap (λ y. (facts_of_decl y).good) (sym (d.rolls-Pattern x r))
    ∙ ap good_of (decl_folded fact_algebra (DeclTree-F.Pattern x r))

rhs_begins : (x : RhsTree) → begins rhs_starter (spelling_rhs x) ≡ true
rhs_begins x =
    ap (begins rhs_starter) (sym (rhs_embeds.tokens x))
    ∙ begins_append rhs_starter (spelling_rhs_body (into_rhs x).0) _ (rhs_starts (into_rhs x).0)

left_apart : (k : Terminal) → rhs_starter k ≡ true → left_goes k ≡ false
left_apart t.Equals h = refl
left_apart t.Bar h = refl
left_apart _ h = absurd (true≢false (sym h))

-- the tokens and the form of a block
block_spelled : (x : DeclBlock) → (ended decl_items t.RightBrace).tokens (into_block x) ≡ spelling_decl_block x
unfolding token_algebra
block_spelled x =
    let b = out-DeclBlock x in
    ap (λ l. t.LeftBrace ∷ ((spelling_decl_slot b.first ++ l) ++ t.RightBrace ∷ []))
    (sym (flat_map-map (λ part. t.Semicolon ∷ part) spelling_decl_slot b.rest))
    ∙ sym (decl_block_folded token_algebra b) ∙ ap spelling_decl_block (roll-out-DeclBlock x)

pub block_some : (x : DeclBlock) → 0 < length (spelling_decl_block x)
block_some x = let spelled = ap length (block_spelled x) in omega arith

block_good : (x : DeclBlock) → decl_items.formed (into_block x) ≡ decl_blocks.formed x
unfolding fact_algebra
block_good x =
    let b = out-DeclBlock x in
    ap (λ c. decl_slots.formed b.first && c) (sym (all_good_of facts_of_decl_slot b.rest))
    ∙ sym (ap good_of (decl_block_folded fact_algebra b)) ∙ ap (λ y. decl_blocks.formed y) (roll-out-DeclBlock x)

items_end : (p : DeclSlot × List DeclSlot) → decl_items.extends p t.RightBrace ≡ false
items_end (h, []) = refl
items_end (h, x ∷ xs) = refl

module _ (n : ℕ) (rhss_below : Upto rhss n) where
  bound_found : (p : LeftSide × RhsTree) → length (spelling_decl (binding_of p)) ≤ n → Found decls (binding_of p)
  bound_found p short good rest quiet =
      let fine = sym (binding_good p) ∙ good in
      let spelled = ap length (binding_spelled p) in
      let long = length-append (left_tokens p.0) (spelling_rhs p.1) in
      let here = spelling_rhs p.1 ++ rest in
      let ts = left_tokens p.0 ++ here in
      let one = lefts_found p.0 (and_left (left_sides.formed p.0) _ fine) here
      (begins_apart rhs_starter left_goes (spelling_rhs p.1) rest left_apart (rhs_begins p.1)) in
      let two = rhss_below p.1 (omega arith) (and_right (left_sides.formed p.0) _ fine) rest quiet in
      found decls ts (binding_of p) rest _
      (bound_took None ts (binding_of p) rest _ (binding_took None ts p.0 here _ one p.1 rest _ two))

  decl_of : (l : DeclTrees) → length (spelling_decl (roll-DeclTree l)) ≤ n → Found decls (roll-DeclTree l)
  decl_of (DeclTree-F.Signature first rest ty) short =
      let p : VarParts × TypeTree = ((first, rest), ty) in
      same_found decls _ (make_typing p) (d.rolls-Signature first rest ty)
      (nothing_found (make_typing p) (typing_binds p) (plain_decls_found (make_typing p)))
  decl_of (DeclTree-F.Fixity word level first rest) short =
      let p : FixityHead × OpParts = ((word, level), (first, rest)) in
      same_found decls _ (make_fixity p) (d.rolls-Fixity word level first rest)
      (nothing_found (make_fixity p) (fixity_binds p) (plain_decls_found (make_fixity p)))
  decl_of (DeclTree-F.Function x r) short =
      let is = d.rolls-Function x r in
      same_found decls _ (binding_of (left.Function x, r)) is
      (bound_found (left.Function x, r) (subst (λ y. length (spelling_decl y) ≤ n) is short))
  decl_of (DeclTree-F.Pattern x r) short =
      let is = d.rolls-Pattern x r in
      same_found decls _ (binding_of (left.Pattern x, r)) is
      (bound_found (left.Pattern x, r) (subst (λ y. length (spelling_decl y) ≤ n) is short))

  pub decls_found : Upto decls n
  decls_found x =
      subst (λ y. length (spelling_decl y) ≤ n → Found decls y) (roll-out-DeclTree x) (decl_of (out-DeclTree x))

  slot_found : (k : Terminal) (y : DeclSlot) → length (spelling_decl_slot y) ≤ n → Found (behind_token k decl_slots) y
  slot_found k y short =
      place_found decls decl_slots sl.NoDecl (λ x. sl.Decl x) fills_place ends_item decl_places k y
      (λ x is. decls_found x (omega (
        arith,
        short,
        ap (λ z. length (spelling_decl_slot z)) is,
        ap length (decl_places.tokens x),
      )))

  -- each block with one token more
  pub decl_blocks_found : Upto decl_blocks (suc n)
  decl_blocks_found x short good rest quiet =
      let p = into_block x in
      let spelled = ap length (block_spelled x) in
      let one = length-append (decl_items.tokens p) (t.RightBrace ∷ []) in
      let two = length-append (t.LeftBrace ∷ spelling_decl_slot p.0)
      (flat_map (λ y. t.Semicolon ∷ spelling_decl_slot y) p.1) in
      let fine = block_good x ∙ good in
      let here = t.RightBrace ∷ rest in
      let ts = decl_items.tokens p ++ here in
      let items = chain_found (decl_chain None) decl_items.deep p.0 p.1 here (fine, tt) (items_end p)
      (λ here q. slot_found t.LeftBrace p.0 (omega arith) (and_left (decl_slots.formed p.0) _ fine) here q)
      (each_upto (λ y. t.Semicolon ∷ spelling_decl_slot y) (ItemFound (decl_chain None)) n
      (λ y short k fit here q. slot_found t.Semicolon y (omega (arith, short)) fit.0 here q) p.1 (omega arith))
      (omega arith) in
      subst (λ y. Took decl_blocks None (spelling_decl_block y ++ rest) y rest (decl_blocks.deep y))
      (roll-out-DeclBlock x)
      (found decl_blocks ts (from_block p) rest _ (block_took None ts p here rest _ items refl))
