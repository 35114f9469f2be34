-- What is bound by a left side and a right one, told from declarations that bind nothing; and what readers answer.
use Rattle.std.proofs.Common.{◌≡◌, ℕ, ◌+◌, ◌<◌, Bool, true, false, List, [], ◌∷◌, ◌++◌, length, refl, sym, ap, ◌∙◌}
use Rattle.std.proofs.Common.{subst, true≢false, append_assoc, arith}
use Rattle.std.specs.Prelude.{max, min, not, flat_map, ◌&&◌, ◌||◌, Option, Some, None}
use Rattle.std.proofs.lemmas.Bool.{and_from}
use Rattle.hs_forms.specs.Reading.{SameStart, begins}
use Rattle.hs_forms.specs.Answers.{Rejects}
use Rattle.hs_forms.specs.declared.fault.Fault.{Fault}
use Rattle.hs_forms.proofs.FormLemmas.{begins_append, begins_apart}
use Rattle.hs_forms.proofs.LimitLemmas.{within_zero, and_left, and_right}
use Rattle.hs_tokens.specs.declared.terminal.Terminal.{Terminal}
use Rattle.hs_tokens.specs.declared.terminal.Terminal.TheVariants as t
use Rattle.hs_tokens.specs.declared.word.Word.TheVariants as w
use Rattle.hs_trees.specs.Patterns.{Ts, starts_lpat, spelling_pat, spelling_lpat, var_tokens}
use Rattle.hs_trees.specs.declared.patterns.PatTree.{PatTree}
use Rattle.hs_trees.specs.declared.patterns.VarTree.{VarTree}
use Rattle.hs_trees.specs.declared.patterns.VarTree.TheVariants as va
use Rattle.hs_trees.proofs.PatternLayerLemmas.{pat_starts, lpat_starts, var_starts}
use Rattle.hs_modules.specs.Extents.{depth_of}
use Rattle.hs_modules.specs.ExpressionExtents.{extent_algebra, extent_of_decl}
use Rattle.hs_modules.specs.Tokens.{token_algebra, spelling_decl, spelling_fun_lhs, spelling_rhs, spelling_rhs_body}
use Rattle.hs_modules.specs.Tokens.{fun_lhs_tokens, fixity_word}
use Rattle.hs_modules.specs.Formed.{fact_algebra, good_of, facts_of_decl}
use Rattle.hs_modules.specs.ModuleForms.{binds_nothing}
use Rattle.hs_modules.specs.declared.declarations.Fixity.{Fixity}
use Rattle.hs_modules.specs.declared.declarations.Fixity.TheVariants as f
use Rattle.hs_modules.specs.declared.declarations.TopDeclTree.TheVariants as top
use Rattle.hs_modules.specs.declared.expressions.DeclTree.{DeclTree, DeclTree-F, out-DeclTree, roll-DeclTree}
use Rattle.hs_modules.specs.declared.expressions.DeclTree.{roll-out-DeclTree, out-roll-DeclTree}
use Rattle.hs_modules.specs.declared.expressions.DeclTree.TheVariants as d
use Rattle.hs_modules.specs.declared.expressions.FunLhsTree.{FunLhsTree, FunLhsTree-F, out-FunLhsTree, roll-FunLhsTree}
use Rattle.hs_modules.specs.declared.expressions.FunLhsTree.{roll-out-FunLhsTree, fold-roll-FunLhsTree}
use Rattle.hs_modules.specs.declared.expressions.RhsBody.TheVariants as rb
use Rattle.hs_modules.specs.declared.expressions.RhsTree.{RhsTree}
use Rattle.hs_modules.proofs.FoldingLemmas.{DeclTrees, decl_folded}
use Rattle.hs_modules.proofs.PartDepthLemmas.{pat_depth_is}
use Rattle.hs_expression_forms.specs.Trees.{within, Took, Failed, Follows, Makes}
use Rattle.hs_expression_forms.proofs.TreesLemmas.{row_took, row_first, row_second, made_took, made_failed}
use Rattle.hs_expression_forms.proofs.RowLemmas.{least_exp, least_exp_formed, least_exp_deep}
use Rattle.hs_expression_forms.proofs.LinkFirstLemmas.{lowered_none}
use Rattle.hs_block_forms.specs.Blocks.{rhss, rhs_bodies, rhs_parts, is_equals, is_bar}
use Rattle.hs_block_forms.proofs.BlockLayerLemmas.{equals_is, equals_deep}
use Rattle.hs_block_forms.proofs.ItemLayerLemmas.{from_rhs, into_rhs, rhs_back, rhs_embeds, starts_wide}
use Rattle.hs_block_forms.proofs.BodyLemmas.{rhs_starter, rhs_starts}
use Rattle.hs_left_forms.specs.Lefts.{left_sides, left_tokens, left_goes}
use Rattle.hs_left_forms.specs.declared.left_side.LeftSide.{LeftSide}
use Rattle.hs_left_forms.specs.declared.left_side.LeftSide.TheVariants as left
use Rattle.hs_declaration_forms.specs.Typings.{plain_decls, typings, fixities, var_lists, starts_fixity, FixityHead}
use Rattle.hs_declaration_forms.proofs.DeclLayerLemmas.{DeclCase, is_typing, is_fixity, binds, decl_case}
use Rattle.hs_declaration_forms.proofs.DeclLayerLemmas.{typing_spelled, fixity_spelled, typing_binds, fixity_binds}
use Rattle.hs_declaration_forms.proofs.DeclLayerLemmas.{make_typing, make_fixity, OpParts}
use Rattle.hs_declaration_forms.proofs.MergeLemmas.{Merges, Apart, Side, of_one, of_two, merged_one, merged_two}
use Rattle.hs_declaration_forms.proofs.MergeLemmas.{merged_fails}
use Rattle.hs_binding_forms.specs.Bindings.{decls, bindings, binding_parts, binding_of}
use Rattle.hs_binding_forms.proofs.ListingLemmas.{lists, lists_vars, var_lists_on, pat_off, left_off}

-- a left side goes on with nothing that begins a right side
whole_rhs_starts : (x : RhsTree) → begins rhs_starter (spelling_rhs x) ≡ true
whole_rhs_starts x =
    ap (begins rhs_starter) (sym (rhs_embeds.tokens x))
    ∙ begins_append rhs_starter (spelling_rhs_body (into_rhs x).0) _ (rhs_starts (into_rhs x).0)

least_formed : rhs_parts.formed (rb.Equals least_exp, []) ≡ true
least_formed =
    and_from _ _ refl (and_from (rhs_bodies.formed (rb.Equals least_exp)) true (equals_is least_exp ∙ least_exp_formed)
    refl)

least_back : into_rhs (from_rhs (rb.Equals least_exp, [])) ≡ (rb.Equals least_exp, [])
least_back = rhs_back (rb.Equals least_exp, []) least_formed

right_follows : Follows left_sides rhss rhs_starter
right_follows = record {
  starts = whole_rhs_starts;
  apart = λ x k h. apart k h;
  least = from_rhs (rb.Equals least_exp, []);
  least_formed = sym (rhs_embeds.formed (from_rhs (rb.Equals least_exp, []))) ∙ ap (λ p. rhs_parts.formed p) least_back
      ∙ least_formed;
  least_deep =
      let e : rhss.deep (from_rhs (rb.Equals least_exp, [])) ≡ rhs_parts.deep (rb.Equals least_exp, []) =
      sym (rhs_embeds.deep (from_rhs (rb.Equals least_exp, []))) ∙ ap (λ p. rhs_parts.deep p) least_back in
      omega (arith, e, equals_deep least_exp, least_exp_deep);
}
  where
    apart : (k : Terminal) → rhs_starter k ≡ true → left_goes k ≡ false
    apart t.Equals h = refl
    apart t.Bar h = refl
    apart _ h = absurd (true≢false (sym h))

-- what is bound, one layer
function_out : (x : FunLhsTree) (r : RhsTree) → out-DeclTree (d.Function x r) ≡ DeclTree-F.Function x r
function_out x r = ap out-DeclTree (sym (d.rolls-Function x r)) ∙ out-roll-DeclTree (DeclTree-F.Function x r)

pattern_out : (x : PatTree) (r : RhsTree) → out-DeclTree (d.Pattern x r) ≡ DeclTree-F.Pattern x r
pattern_out x r = ap out-DeclTree (sym (d.rolls-Pattern x r)) ∙ out-roll-DeclTree (DeclTree-F.Pattern x r)

binds_something : (p : LeftSide × RhsTree) → binds_nothing (top.Decl (binding_of p)) ≡ false
binds_something (left.Function x, r) = (let out = function_out x r in rw out refl)
binds_something (left.Pattern x, r) = (let out = pattern_out x r in rw out refl)

binding_spelled : (p : LeftSide × RhsTree) → spelling_decl (binding_of p) ≡ binding_parts.tokens p
unfolding token_algebra
binding_spelled (left.Function x, r) =
    ap spelling_decl (sym (d.rolls-Function x r)) ∙ decl_folded token_algebra (DeclTree-F.Function x r)
binding_spelled (left.Pattern x, r) =
    ap spelling_decl (sym (d.rolls-Pattern x r)) ∙ decl_folded token_algebra (DeclTree-F.Pattern x r)

binding_good : (p : LeftSide × RhsTree) → (facts_of_decl (binding_of p)).good ≡ binding_parts.formed p
unfolding fact_algebra
binding_good (left.Function x, r) =
    ap (λ y. (facts_of_decl y).good) (sym (d.rolls-Function x r))
    ∙ ap good_of (decl_folded fact_algebra (DeclTree-F.Function x r))
binding_good (left.Pattern x, r) =
    ap (λ y. (facts_of_decl y).good) (sym (d.rolls-Pattern x r))
    ∙ ap good_of (decl_folded fact_algebra (DeclTree-F.Pattern x r))

binding_deep : (p : LeftSide × RhsTree) → bindings.deep (binding_of p) ≡ binding_parts.deep p
unfolding extent_algebra
binding_deep (left.Function x, r) =
    ap (λ y. bindings.deep y) (sym (d.rolls-Function x r))
    ∙ ap depth_of (decl_folded extent_algebra (DeclTree-F.Function x r))
binding_deep (left.Pattern x, r) =
    ap (λ y. bindings.deep y) (sym (d.rolls-Pattern x r))
    ∙ ap depth_of (decl_folded extent_algebra (DeclTree-F.Pattern x r))
    ∙ ap (λ n. max n (rhss.deep r)) (pat_depth_is x)

and_on : (a b : Bool) → b ≡ true → a && b ≡ a
and_on true b h = h
and_on false b h = refl

binding_is : (p : LeftSide × RhsTree) → bindings.formed (binding_of p) ≡ binding_parts.formed p
binding_is p = and_on _ _ (ap not (binds_something p)) ∙ binding_good p

bound_layer : (l : DeclTrees) → binds_nothing (top.Decl (roll-DeclTree l)) ≡ false →
    (p : LeftSide × RhsTree) × (roll-DeclTree l ≡ binding_of p)
bound_layer (DeclTree-F.Signature first rest ty) h =
    absurd (true≢false (sym (typing_binds ((first, rest), ty))
    ∙ ap (λ x. binds_nothing (top.Decl x)) (sym (d.rolls-Signature first rest ty)) ∙ h))
bound_layer (DeclTree-F.Fixity word level first rest) h =
    absurd (true≢false (sym (fixity_binds ((word, level), (first, rest)))
    ∙ ap (λ x. binds_nothing (top.Decl x)) (sym (d.rolls-Fixity word level first rest)) ∙ h))
bound_layer (DeclTree-F.Function x r) h = ((left.Function x, r), d.rolls-Function x r)
bound_layer (DeclTree-F.Pattern x r) h = ((left.Pattern x, r), d.rolls-Pattern x r)

bound : (x : DeclTree) → binds_nothing (top.Decl x) ≡ false → (p : LeftSide × RhsTree) × (x ≡ binding_of p)
bound x h =
    let found = bound_layer (out-DeclTree x) (ap (λ y. binds_nothing (top.Decl y)) (roll-out-DeclTree x) ∙ h) in
    (found.0, sym (roll-out-DeclTree x) ∙ found.1)

not_on : (b : Bool) → not b ≡ true → b ≡ false
not_on true h = sym h
not_on false h = refl

binding_makes : Makes bindings binding_parts binding_of 0 (λ ts. true)
binding_makes = record {
  spelled = binding_spelled;
  formed = binding_is;
  deep = λ p. (let e = binding_deep p in omega (arith, e));
  extends = λ p k e. e;
  starts = λ p after good. refl;
  only = λ x after good e. bound x (not_on _ (and_right (facts_of_decl x).good _ good));
}

module _ (limit : Option ℕ) (ts : Ts) where
  whole_failed : (e : Fault) → Failed binding_parts limit ts e → Failed bindings limit ts e
  whole_failed e r =
      made_failed bindings binding_parts binding_of 0 (λ ts. true) binding_makes limit (within_zero limit) ts e
      (λ before bad s split same. refl) (subst (λ l. Failed binding_parts l ts e) (sym (lowered_none limit)) r)

  pub left_failed : (e : Fault) → Failed left_sides limit ts e → Failed bindings limit ts e
  left_failed e r = whole_failed e (row_first left_sides rhss rhs_starter right_follows limit ts e r)

  module _ (x : LeftSide) (here : Ts) (m : ℕ) (acc : Took left_sides limit ts x here m) where
    pub right_failed : (e : Fault) → Failed rhss limit here e → Failed bindings limit ts e
    right_failed e r =
        whole_failed e (row_second left_sides rhss rhs_starter right_follows limit ts x here m e acc r)

    pub binding_took : (r : RhsTree) (rest : Ts) (n : ℕ) → Took rhss limit here r rest n →
        Took bindings limit ts (binding_of (x, r)) rest (max m n)
    binding_took r rest n q =
        let whole = row_took left_sides rhss rhs_starter right_follows limit ts x here m r rest n acc q in
        let same : max m n + 0 ≡ max m n = omega arith in
        subst (Took bindings limit ts (binding_of (x, r)) rest) same
        (made_took bindings binding_parts binding_of 0 (λ ts. true) binding_makes limit (within_zero limit) ts (x, r)
        rest (max m n) (subst (λ l. Took binding_parts l ts (x, r) rest (max m n)) (sym (lowered_none limit)) whole)
        (omega (arith, whole.room)))

-- declarations: those that bind nothing, and those that bind something
decl_merges : Merges plain_decls bindings decls (λ x. x) (λ x. x)
decl_merges = record {
  tokens_one = λ x. refl;
  tokens_two = λ x. refl;
  formed_one = λ x g. and_left (facts_of_decl x).good _ g;
  formed_two = λ x g. and_left (facts_of_decl x).good _ g;
  deep_one = λ x. refl;
  deep_two = λ x. refl;
  extends_one = λ x k e. e;
  extends_two = λ x k e. e;
  cases = λ x g. cases x g (binds_nothing (top.Decl x)) refl;
}
  where
    cases : (x : DeclTree) → (facts_of_decl x).good ≡ true → (b : Bool) → binds_nothing (top.Decl x) ≡ b →
        Side plain_decls bindings (λ x. x) (λ x. x) x
    cases x g true e = of_one x refl (and_from (facts_of_decl x).good _ g e)
    cases x g false e = of_two x refl (and_from (facts_of_decl x).good _ g (ap not e))

-- the first tokens of a left side tell it from a list of variables, and from the words of fixity
no_word : (k : Terminal) → starts_lpat k ≡ true → starts_fixity k ≡ false
no_word (t.Word w.Infixl) h = absurd (true≢false (sym h))
no_word (t.Word w.Infixr) h = absurd (true≢false (sym h))
no_word (t.Word w.Infix) h = absurd (true≢false (sym h))
no_word _ h = refl

left_starts_layer : (l : FunLhsTree-F FunLhsTree) → begins starts_lpat (spelling_fun_lhs (roll-FunLhsTree l)) ≡ true
left_starts_layer (FunLhsTree-F.Prefix x first rest) =
    ap (begins starts_lpat) (fold-roll-FunLhsTree Ts fun_lhs_tokens (FunLhsTree-F.Prefix x first rest))
    ∙ begins_append starts_lpat (var_tokens x) _ (wide x)
  where
    wide : (x : VarTree) → begins starts_lpat (var_tokens x) ≡ true
    wide (va.Id n) = refl
    wide (va.Sym n) = refl
left_starts_layer (FunLhsTree-F.Infix l op r) =
    ap (begins starts_lpat) (fold-roll-FunLhsTree Ts fun_lhs_tokens (FunLhsTree-F.Infix l op r))
    ∙ begins_append starts_lpat (spelling_lpat l) _ (starts_wide (spelling_lpat l) (lpat_starts l))
left_starts_layer (FunLhsTree-F.Parens x first rest) =
    ap (begins starts_lpat) (fold-roll-FunLhsTree Ts fun_lhs_tokens (FunLhsTree-F.Parens x first rest))

left_starts : (x : LeftSide) → begins starts_lpat (left_tokens x) ≡ true
left_starts (left.Function x) =
    subst (λ y. begins starts_lpat (spelling_fun_lhs y) ≡ true) (roll-out-FunLhsTree x)
    (left_starts_layer (out-FunLhsTree x))
left_starts (left.Pattern x) = starts_wide (spelling_pat x) (pat_starts x)

no_list : (r : RhsTree) (after : Ts) → begins lists (spelling_rhs r ++ after) ≡ false
no_list r after = begins_apart rhs_starter lists (spelling_rhs r) after apart (whole_rhs_starts r)
  where
    apart : (k : Terminal) → rhs_starter k ≡ true → lists k ≡ false
    apart t.Equals h = refl
    apart t.Bar h = refl
    apart _ h = absurd (true≢false (sym h))

bound_unlisted : (p : LeftSide × RhsTree) (after : Ts) → lists_vars (spelling_decl (binding_of p) ++ after) ≡ false
bound_unlisted (left.Function x, r) after =
    ap (λ l. lists_vars (l ++ after)) (binding_spelled (left.Function x, r))
    ∙ ap lists_vars (append_assoc (spelling_fun_lhs x) (spelling_rhs r) after) ∙ left_off x _
bound_unlisted (left.Pattern x, r) after =
    ap (λ l. lists_vars (l ++ after)) (binding_spelled (left.Pattern x, r))
    ∙ ap lists_vars (append_assoc (spelling_pat x) (spelling_rhs r) after) ∙ pat_off x _ (no_list r after)

bound_wordless : (p : LeftSide × RhsTree) (after : Ts) →
    begins starts_fixity (spelling_decl (binding_of p) ++ after) ≡ false
bound_wordless p after =
    ap (λ l. begins starts_fixity (l ++ after)) (binding_spelled p)
    ∙ ap (begins starts_fixity) (append_assoc (left_tokens p.0) (spelling_rhs p.1) after)
    ∙ begins_apart starts_lpat starts_fixity (left_tokens p.0) _ no_word (left_starts p.0)

regrouped : (a b c d e : Ts) → (((a ++ b) ++ c) ++ d) ++ e ≡ a ++ (b ++ (c ++ (d ++ e)))
regrouped a b c d e = simp append_assoc

typing_listed : (x : VarTree) (xs : List VarTree) (rest : Ts) →
    lists_vars (((var_tokens x ++ flat_map (λ y. t.Comma ∷ var_tokens y) xs) ++ t.DoubleColon ∷ []) ++ rest) ≡ true
typing_listed x [] rest =
    ap lists_vars (ap (λ l. l ++ rest) (append_assoc (var_tokens x) [] (t.DoubleColon ∷ []))
    ∙ append_assoc (var_tokens x) (t.DoubleColon ∷ []) rest) ∙ var_lists_on x _
typing_listed x (y ∷ ys) rest =
    ap lists_vars (ap (λ l. l ++ rest) (append_assoc (var_tokens x) _ (t.DoubleColon ∷ []))
    ∙ append_assoc (var_tokens x) _ rest) ∙ var_lists_on x _

fixity_worded : (q : FixityHead × OpParts) (s : Ts) → begins starts_fixity (fixities.tokens q ++ s) ≡ true
fixity_worded ((f.Left, level), ops) s = refl
fixity_worded ((f.Right, level), ops) s = refl
fixity_worded ((f.Neither, level), ops) s = refl

-- no tokens begin as both
apart_by : (x : DeclTree) (s : Ts) (p : LeftSide × RhsTree) (after : Ts) → binds_nothing (top.Decl x) ≡ true →
    DeclCase x → spelling_decl x ++ s ≡ spelling_decl (binding_of p) ++ after → ⊥
apart_by x s p after h (is_typing q is) e =
    true≢false (sym (typing_listed q.0.0 q.0.1 _)
    ∙ ap lists_vars (sym (append_assoc ((var_lists.tokens q.0) ++ t.DoubleColon ∷ []) _ s)
    ∙ sym (ap (λ l. l ++ s) (ap spelling_decl is ∙ typing_spelled q)) ∙ e) ∙ bound_unlisted p after)
apart_by x s p after h (is_fixity q is) e =
    true≢false (sym (fixity_worded q s)
    ∙ ap (begins starts_fixity) (sym (ap (λ l. l ++ s) (ap spelling_decl is ∙ fixity_spelled q)) ∙ e)
    ∙ bound_wordless p after)
apart_by x s p after h (binds off) e = true≢false (sym h ∙ off)

apart : (x y : DeclTree) (s after : Ts) → plain_decls.formed x ≡ true → bindings.formed y ≡ true →
    spelling_decl x ++ s ≡ spelling_decl y ++ after → ⊥
apart x y s after g h e =
    let found = bound y (not_on _ (and_right (facts_of_decl y).good _ h)) in
    apart_by x s found.0 after (and_right (facts_of_decl x).good _ g) (decl_case x)
    (e ∙ ap (λ o. spelling_decl o ++ after) found.1)

module _ (limit : Option ℕ) (ts : Ts) where
  pub plain_took : (x : DeclTree) (rest : Ts) (m : ℕ) → Took plain_decls limit ts x rest m → Took decls limit ts x rest m
  plain_took x rest m acc =
      merged_one plain_decls bindings decls (λ x. x) (λ x. x) decl_merges limit ts x rest m acc
      (λ s y after same h quiet e. apart x y s after acc.reads.good.0 h e)

  pub bound_took : (x : DeclTree) (rest : Ts) (m : ℕ) → Took bindings limit ts x rest m → Took decls limit ts x rest m
  bound_took x rest m acc =
      merged_two plain_decls bindings decls (λ x. x) (λ x. x) decl_merges limit ts x rest m acc
      (λ s y after same h quiet e. apart y x after s h acc.reads.good.0 (sym e))

  pub both_failed : (l n : ℕ) → Rejects (within plain_decls limit) ts l → Rejects (within bindings limit) ts n →
      Rejects (within decls limit) ts (min l n)
  both_failed l n r q = merged_fails plain_decls bindings decls (λ x. x) (λ x. x) decl_merges limit ts l n r q
