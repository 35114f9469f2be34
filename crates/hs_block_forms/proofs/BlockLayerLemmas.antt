-- The tokens, the well-formedness and the depth of guarded expressions, right sides, alternatives and blocks, one layer
-- at a time.
use Rattle.std.proofs.Common.{◌≡◌, true, List, [], ◌∷◌, ◌++◌, refl, sym, ap, ◌∙◌, subst}
use Rattle.std.proofs.Common.{true≢false, arith, append_assoc}
use Rattle.std.specs.Prelude.{max, map, not, flat_map, ◌&&◌}
use Rattle.std.proofs.lemmas.List.Folds.{flat_map-map}
use Rattle.hs_forms.specs.Reading.{begins}
use Rattle.hs_forms.proofs.FormLemmas.{begins_append}
use Rattle.hs_tokens.specs.Terminals.{is_arrow}
use Rattle.hs_tokens.specs.declared.terminal.Terminal.{Terminal}
use Rattle.hs_tokens.specs.declared.terminal.Terminal.TheVariants as t
use Rattle.hs_trees.specs.Patterns.{Ts}
use Rattle.hs_trees.specs.declared.patterns.PatTree.{PatTree}
use Rattle.hs_modules.specs.Extents.{depth_of}
use Rattle.hs_modules.specs.ExpressionExtents.{extent_algebra, extent_of_guard, extent_of_gd, extent_of_gda}
use Rattle.hs_modules.specs.Tokens.{token_algebra, spelling_guard, spelling_exp, spelling_gd, spelling_gda}
use Rattle.hs_modules.specs.Tokens.{spelling_infix}
use Rattle.hs_modules.specs.Tokens.{spelling_rhs_body, spelling_alt_body}
use Rattle.hs_modules.specs.Formed.{fact_algebra, good_of, last_of, facts_of_guard, facts_of_exp, facts_of_gd}
use Rattle.hs_modules.specs.Formed.{facts_of_gda, facts_of_infix}
use Rattle.hs_modules.specs.declared.expressions.AltBody.{AltBody, AltBody-F, out-AltBody, roll-AltBody}
use Rattle.hs_modules.specs.declared.expressions.AltBody.{roll-out-AltBody}
use Rattle.hs_modules.specs.declared.expressions.AltBody.TheVariants as ab
use Rattle.hs_modules.specs.declared.expressions.ExpTree.{ExpTree}
use Rattle.hs_modules.specs.declared.expressions.GdTree.{GdTree, out-GdTree, roll-GdTree, roll-out-GdTree}
use Rattle.hs_modules.specs.declared.expressions.GdaTree.{GdaTree, out-GdaTree, roll-GdaTree, roll-out-GdaTree}
use Rattle.hs_modules.specs.declared.expressions.GuardTree.{GuardTree, GuardTree-F, out-GuardTree, roll-GuardTree}
use Rattle.hs_modules.specs.declared.expressions.GuardTree.{roll-out-GuardTree}
use Rattle.hs_modules.specs.declared.expressions.GuardTree.TheVariants as gt
use Rattle.hs_modules.specs.declared.expressions.InfixTree.{InfixTree}
use Rattle.hs_modules.specs.declared.expressions.RhsBody.{RhsBody, RhsBody-F, out-RhsBody, roll-RhsBody}
use Rattle.hs_modules.specs.declared.expressions.RhsBody.{roll-out-RhsBody}
use Rattle.hs_modules.specs.declared.expressions.RhsBody.TheVariants as rb
use Rattle.hs_modules.proofs.FoldingLemmas.{guard_folded, gd_folded, gda_folded, rhs_body_folded, alt_body_folded}
use Rattle.hs_modules.proofs.PartDepthLemmas.{pat_depth_is}
use Rattle.hs_expression_forms.specs.Trees.{behind_token, Makes}
use Rattle.hs_expression_forms.specs.Expressions.{exps, depth_of_exp}
use Rattle.hs_expression_forms.proofs.OperandLayerLemmas.{deepest_of, all_good_of}
use Rattle.hs_block_forms.specs.Combined.{narrowed}
use Rattle.hs_block_forms.specs.Blocks.{is_bar, is_equals, ends_body, guards, guard_lists}
use Rattle.hs_block_forms.specs.Blocks.{GuardList, gds, gd_parts, gdas, gda_parts, rhs_bodies, gd_lists, alt_bodies}
use Rattle.hs_block_forms.specs.Blocks.{gda_lists, binds, tests}

-- guards
pub bind_spelled : (p : PatTree) (e : InfixTree) → spelling_guard (gt.Bind p e) ≡ binds.tokens (p, e)
unfolding token_algebra
bind_spelled p e =
    ap spelling_guard (sym (gt.rolls-Bind p e)) ∙ guard_folded token_algebra (GuardTree-F.Bind p e)
    ∙ sym (append_assoc _ (t.LeftArrow ∷ []) (spelling_infix e))

pub bind_facts : (p : PatTree) (e : InfixTree) → facts_of_guard (gt.Bind p e) ≡ record {
  good = binds.formed (p, e);
  is_open = (facts_of_infix e).is_open;
  ends_in_type = (facts_of_infix e).ends_in_type;
}
unfolding fact_algebra
bind_facts p e = ap facts_of_guard (sym (gt.rolls-Bind p e)) ∙ guard_folded fact_algebra (GuardTree-F.Bind p e)

pub bind_deep : (p : PatTree) (e : InfixTree) → guards.deep (gt.Bind p e) ≡ binds.deep (p, e)
unfolding extent_algebra
bind_deep p e =
    ap (λ x. guards.deep x) (sym (gt.rolls-Bind p e))
    ∙ ap depth_of (guard_folded extent_algebra (GuardTree-F.Bind p e))
    ∙ ap (λ n. max n (tests.deep e)) (pat_depth_is p)

pub test_spelled : (e : InfixTree) → spelling_guard (gt.Test e) ≡ spelling_infix e
unfolding token_algebra
test_spelled e = ap spelling_guard (sym (gt.rolls-Test e)) ∙ guard_folded token_algebra (GuardTree-F.Test e)

pub test_facts : (e : InfixTree) → facts_of_guard (gt.Test e) ≡ facts_of_infix e
unfolding fact_algebra
test_facts e = ap facts_of_guard (sym (gt.rolls-Test e)) ∙ guard_folded fact_algebra (GuardTree-F.Test e)

pub test_deep : (e : InfixTree) → guards.deep (gt.Test e) ≡ tests.deep e
unfolding extent_algebra
test_deep e =
    ap (λ x. guards.deep x) (sym (gt.rolls-Test e))
    ∙ ap depth_of (guard_folded extent_algebra (GuardTree-F.Test e))

pub data GuardCase (x : GuardTree) : Type 0 where
  is_bind : (p : PatTree) (e : InfixTree) → x ≡ gt.Bind p e → GuardCase x
  is_test : (e : InfixTree) → x ≡ gt.Test e → GuardCase x

guard_layer : (l : _) → GuardCase (roll-GuardTree l)
guard_layer (GuardTree-F.Bind p e) = is_bind p e (gt.rolls-Bind p e)
guard_layer (GuardTree-F.Test e) = is_test e (gt.rolls-Test e)

pub guard_case : (x : GuardTree) → GuardCase x
guard_case x = subst GuardCase (roll-out-GuardTree x) (guard_layer (out-GuardTree x))

-- guarded expressions
abbrev pub make_gd : GuardList × ExpTree → GdTree
make_gd p = roll-GdTree (record { first = p.0.0; rest = p.0.1; exp = p.1 })

abbrev pub make_gda : GuardList × ExpTree → GdaTree
make_gda p = roll-GdaTree (record { first = p.0.0; rest = p.0.1; exp = p.1 })

guards_spelled : (g : GuardList) (k : Terminal) (more : Ts) →
    (spelling_guard g.0 ++ flat_map (λ part. t.Comma ∷ part) (map spelling_guard g.1)) ++ k ∷ more
    ≡ (guard_lists.tokens g ++ k ∷ []) ++ more
guards_spelled g k more =
    ap (λ l. (spelling_guard g.0 ++ l) ++ k ∷ more) (flat_map-map (λ part. t.Comma ∷ part) spelling_guard g.1)
    ∙ sym (append_assoc (guard_lists.tokens g) (k ∷ []) more)

gd_spelled : (p : GuardList × ExpTree) → spelling_gd (make_gd p) ≡ gd_parts.tokens p
unfolding token_algebra
gd_spelled p =
    gd_folded token_algebra (record { first = p.0.0; rest = p.0.1; exp = p.1 })
    ∙ ap (λ l. t.Bar ∷ l) (guards_spelled p.0 t.Equals (spelling_exp p.1))

gd_is : (p : GuardList × ExpTree) → gds.formed (make_gd p) ≡ gd_parts.formed p
unfolding fact_algebra
gd_is p =
    ap good_of (gd_folded fact_algebra (record { first = p.0.0; rest = p.0.1; exp = p.1 }))
    ∙ ap (λ b. ((facts_of_guard p.0.0).good && b) && (facts_of_exp p.1).good) (all_good_of facts_of_guard p.0.1)

gd_deep : (p : GuardList × ExpTree) → gds.deep (make_gd p) ≡ gd_parts.deep p
unfolding extent_algebra
gd_deep p =
    ap depth_of (gd_folded extent_algebra (record { first = p.0.0; rest = p.0.1; exp = p.1 }))
    ∙ ap (λ n. max (max (guards.deep p.0.0) n) (depth_of_exp p.1)) (deepest_of extent_of_guard p.0.1)

gda_spelled : (p : GuardList × ExpTree) → spelling_gda (make_gda p) ≡ gda_parts.tokens p
unfolding token_algebra
gda_spelled p =
    gda_folded token_algebra (record { first = p.0.0; rest = p.0.1; exp = p.1 })
    ∙ ap (λ l. t.Bar ∷ l) (guards_spelled p.0 t.Arrow (spelling_exp p.1))

gda_is : (p : GuardList × ExpTree) → gdas.formed (make_gda p) ≡ gda_parts.formed p
unfolding fact_algebra
gda_is p =
    ap good_of (gda_folded fact_algebra (record { first = p.0.0; rest = p.0.1; exp = p.1 }))
    ∙ ap (λ b. (((facts_of_guard p.0.0).good && b)
    && not (last_of (facts_of_guard p.0.0) (map facts_of_guard p.0.1)).ends_in_type) && (facts_of_exp p.1).good)
    (all_good_of facts_of_guard p.0.1)

gda_deep : (p : GuardList × ExpTree) → gdas.deep (make_gda p) ≡ gda_parts.deep p
unfolding extent_algebra
gda_deep p =
    ap depth_of (gda_folded extent_algebra (record { first = p.0.0; rest = p.0.1; exp = p.1 }))
    ∙ ap (λ n. max (max (guards.deep p.0.0) n) (depth_of_exp p.1)) (deepest_of extent_of_guard p.0.1)

pub gd_makes : Makes gds gd_parts make_gd 0 (begins is_bar)
gd_makes = record {
  spelled = gd_spelled;
  formed = gd_is;
  deep = λ p. (let e = gd_deep p in omega (arith, e));
  extends = λ p k e. e;
  starts = λ p after good. refl;
  only = λ x after good e. (let o = out-GdTree x in (((o.first, o.rest), o.exp), sym (roll-out-GdTree x)));
}

pub gda_makes : Makes gdas gda_parts make_gda 0 (begins is_bar)
gda_makes = record {
  spelled = gda_spelled;
  formed = gda_is;
  deep = λ p. (let e = gda_deep p in omega (arith, e));
  extends = λ p k e. e;
  starts = λ p after good. refl;
  only = λ x after good e. (let o = out-GdaTree x in (((o.first, o.rest), o.exp), sym (roll-out-GdaTree x)));
}

pub gd_starts : (x : GdTree) → begins is_bar (spelling_gd x) ≡ true
gd_starts x =
    let o = out-GdTree x in
    ap (λ y. begins is_bar (spelling_gd y)) (sym (roll-out-GdTree x))
    ∙ ap (begins is_bar) (gd_spelled ((o.first, o.rest), o.exp))

pub gda_starts : (x : GdaTree) → begins is_bar (spelling_gda x) ≡ true
gda_starts x =
    let o = out-GdaTree x in
    ap (λ y. begins is_bar (spelling_gda y)) (sym (roll-out-GdaTree x))
    ∙ ap (begins is_bar) (gda_spelled ((o.first, o.rest), o.exp))

-- right sides without `where`
module _ (e : ExpTree) where
  pub equals_spelled : spelling_rhs_body (rb.Equals e) ≡ t.Equals ∷ spelling_exp e
  unfolding token_algebra
  equals_spelled =
      ap spelling_rhs_body (sym (rb.rolls-Equals e)) ∙ rhs_body_folded token_algebra (RhsBody-F.Equals e)

  pub equals_is : rhs_bodies.formed (rb.Equals e) ≡ exps.formed e
  unfolding fact_algebra
  equals_is =
      ap (λ x. rhs_bodies.formed x) (sym (rb.rolls-Equals e))
      ∙ ap good_of (rhs_body_folded fact_algebra (RhsBody-F.Equals e))

  pub equals_deep : rhs_bodies.deep (rb.Equals e) ≡ exps.deep e
  unfolding extent_algebra
  equals_deep =
      ap (λ x. rhs_bodies.deep x) (sym (rb.rolls-Equals e))
      ∙ ap depth_of (rhs_body_folded extent_algebra (RhsBody-F.Equals e))

  pub arrow_spelled : spelling_alt_body (ab.Arrow e) ≡ t.Arrow ∷ spelling_exp e
  unfolding token_algebra
  arrow_spelled = ap spelling_alt_body (sym (ab.rolls-Arrow e)) ∙ alt_body_folded token_algebra (AltBody-F.Arrow e)

  pub arrow_is : alt_bodies.formed (ab.Arrow e) ≡ exps.formed e
  unfolding fact_algebra
  arrow_is =
      ap (λ x. alt_bodies.formed x) (sym (ab.rolls-Arrow e))
      ∙ ap good_of (alt_body_folded fact_algebra (AltBody-F.Arrow e))

  pub arrow_deep : alt_bodies.deep (ab.Arrow e) ≡ exps.deep e
  unfolding extent_algebra
  arrow_deep =
      ap (λ x. alt_bodies.deep x) (sym (ab.rolls-Arrow e))
      ∙ ap depth_of (alt_body_folded extent_algebra (AltBody-F.Arrow e))

module _ (p : GdTree × List GdTree) where
  pub guarded_spelled : spelling_rhs_body (rb.GuardedEquals p.0 p.1) ≡ gd_lists.tokens p
  unfolding token_algebra
  guarded_spelled =
      ap spelling_rhs_body (sym (rb.rolls-GuardedEquals p.0 p.1))
      ∙ rhs_body_folded token_algebra (RhsBody-F.GuardedEquals p.0 p.1)
      ∙ ap (λ l. spelling_gd p.0 ++ l) (flat_map-map (λ part. part) spelling_gd p.1)

  guarded_is : rhs_bodies.formed (rb.GuardedEquals p.0 p.1) ≡ gd_lists.formed p
  unfolding fact_algebra
  guarded_is =
      ap (λ x. rhs_bodies.formed x) (sym (rb.rolls-GuardedEquals p.0 p.1))
      ∙ ap good_of (rhs_body_folded fact_algebra (RhsBody-F.GuardedEquals p.0 p.1))
      ∙ ap (λ b. (facts_of_gd p.0).good && b) (all_good_of facts_of_gd p.1)

  guarded_deep : rhs_bodies.deep (rb.GuardedEquals p.0 p.1) ≡ gd_lists.deep p
  unfolding extent_algebra
  guarded_deep =
      ap (λ x. rhs_bodies.deep x) (sym (rb.rolls-GuardedEquals p.0 p.1))
      ∙ ap depth_of (rhs_body_folded extent_algebra (RhsBody-F.GuardedEquals p.0 p.1))
      ∙ ap (λ n. max (gds.deep p.0) n) (deepest_of extent_of_gd p.1)

module _ (p : GdaTree × List GdaTree) where
  pub arrows_spelled : spelling_alt_body (ab.GuardedArrows p.0 p.1) ≡ gda_lists.tokens p
  unfolding token_algebra
  arrows_spelled =
      ap spelling_alt_body (sym (ab.rolls-GuardedArrows p.0 p.1))
      ∙ alt_body_folded token_algebra (AltBody-F.GuardedArrows p.0 p.1)
      ∙ ap (λ l. spelling_gda p.0 ++ l) (flat_map-map (λ part. part) spelling_gda p.1)

  arrows_is : alt_bodies.formed (ab.GuardedArrows p.0 p.1) ≡ gda_lists.formed p
  unfolding fact_algebra
  arrows_is =
      ap (λ x. alt_bodies.formed x) (sym (ab.rolls-GuardedArrows p.0 p.1))
      ∙ ap good_of (alt_body_folded fact_algebra (AltBody-F.GuardedArrows p.0 p.1))
      ∙ ap (λ b. (facts_of_gda p.0).good && b) (all_good_of facts_of_gda p.1)

  arrows_deep : alt_bodies.deep (ab.GuardedArrows p.0 p.1) ≡ gda_lists.deep p
  unfolding extent_algebra
  arrows_deep =
      ap (λ x. alt_bodies.deep x) (sym (ab.rolls-GuardedArrows p.0 p.1))
      ∙ ap depth_of (alt_body_folded extent_algebra (AltBody-F.GuardedArrows p.0 p.1))
      ∙ ap (λ n. max (gdas.deep p.0) n) (deepest_of extent_of_gda p.1)

pub data RhsCase (x : RhsBody) : Type 0 where
  by_equals : (e : ExpTree) → x ≡ rb.Equals e → RhsCase x
  by_guards : (p : GdTree × List GdTree) → x ≡ rb.GuardedEquals p.0 p.1 → RhsCase x

rhs_layer : (l : _) → RhsCase (roll-RhsBody l)
rhs_layer (RhsBody-F.Equals e) = by_equals e (rb.rolls-Equals e)
rhs_layer (RhsBody-F.GuardedEquals first rest) = by_guards (first, rest) (rb.rolls-GuardedEquals first rest)

pub rhs_case : (x : RhsBody) → RhsCase x
rhs_case x = subst RhsCase (roll-out-RhsBody x) (rhs_layer (out-RhsBody x))

pub data AltCase (x : AltBody) : Type 0 where
  by_arrow : (e : ExpTree) → x ≡ ab.Arrow e → AltCase x
  by_arrows : (p : GdaTree × List GdaTree) → x ≡ ab.GuardedArrows p.0 p.1 → AltCase x

alt_layer : (l : _) → AltCase (roll-AltBody l)
alt_layer (AltBody-F.Arrow e) = by_arrow e (ab.rolls-Arrow e)
alt_layer (AltBody-F.GuardedArrows first rest) = by_arrows (first, rest) (ab.rolls-GuardedArrows first rest)

pub alt_case : (x : AltBody) → AltCase x
alt_case x = subst AltCase (roll-out-AltBody x) (alt_layer (out-AltBody x))

pub equals_makes : Makes rhs_bodies (behind_token t.Equals (narrowed exps ends_body)) (λ e. rb.Equals e) 0 (begins
    is_equals)
equals_makes = record {
  spelled = equals_spelled;
  formed = equals_is;
  deep = λ e. (let d = equals_deep e in omega (arith, d));
  extends = λ e k q. q;
  starts = λ e after good. refl;
  only = λ x after good h. by x after h (rhs_case x);
}
  where
    by : (x : RhsBody) (after : Ts) → begins is_equals (spelling_rhs_body x ++ after) ≡ true → RhsCase x →
        (e : ExpTree) × (x ≡ rb.Equals e)
    by x after h (by_equals e is) = (e, is)
    by x after h (by_guards p is) =
        absurd (not_equals (gd_lists.tokens p ++ after)
        (begins_append is_bar (gd_lists.tokens p) after (begins_append is_bar (spelling_gd p.0) _ (gd_starts p.0)))
        (ap (λ l. begins is_equals (l ++ after)) (sym (guarded_spelled p) ∙ ap spelling_rhs_body (sym is)) ∙ h))
      where
        not_equals : (l : Ts) → begins is_bar l ≡ true → begins is_equals l ≡ true → ⊥
        not_equals [] a b = true≢false (sym a)
        not_equals (t.Equals ∷ l) a b = true≢false (sym a)
        not_equals (_ ∷ l) a b = true≢false (sym b)

pub guarded_makes : Makes rhs_bodies (narrowed gd_lists ends_body) (λ p. rb.GuardedEquals p.0 p.1) 0 (begins is_bar)
guarded_makes = record {
  spelled = guarded_spelled;
  formed = guarded_is;
  deep = λ p. (let d = guarded_deep p in omega (arith, d));
  extends = λ p k q. q;
  starts = λ p after good. begins_append is_bar (gd_lists.tokens p) after
      (begins_append is_bar (spelling_gd p.0) _ (gd_starts p.0));
  only = λ x after good h. by x after h (rhs_case x);
}
  where
    by : (x : RhsBody) (after : Ts) → begins is_bar (spelling_rhs_body x ++ after) ≡ true → RhsCase x →
        (p : GdTree × List GdTree) × (x ≡ rb.GuardedEquals p.0 p.1)
    by x after h (by_guards p is) = (p, is)
    by x after h (by_equals e is) =
        absurd (true≢false (sym h
        ∙ ap (λ y. begins is_bar (spelling_rhs_body y ++ after)) is
        ∙ ap (λ l. begins is_bar (l ++ after)) (equals_spelled e)))

pub arrow_makes : Makes alt_bodies (behind_token t.Arrow (narrowed exps ends_body)) (λ e. ab.Arrow e) 0 (begins
    is_arrow)
arrow_makes = record {
  spelled = arrow_spelled;
  formed = arrow_is;
  deep = λ e. (let d = arrow_deep e in omega (arith, d));
  extends = λ e k q. q;
  starts = λ e after good. refl;
  only = λ x after good h. by x after h (alt_case x);
}
  where
    by : (x : AltBody) (after : Ts) → begins is_arrow (spelling_alt_body x ++ after) ≡ true → AltCase x →
        (e : ExpTree) × (x ≡ ab.Arrow e)
    by x after h (by_arrow e is) = (e, is)
    by x after h (by_arrows p is) =
        absurd (not_arrow (gda_lists.tokens p ++ after)
        (begins_append is_bar (gda_lists.tokens p) after (begins_append is_bar (spelling_gda p.0) _ (gda_starts p.0)))
        (ap (λ l. begins is_arrow (l ++ after)) (sym (arrows_spelled p) ∙ ap spelling_alt_body (sym is)) ∙ h))
      where
        not_arrow : (l : Ts) → begins is_bar l ≡ true → begins is_arrow l ≡ true → ⊥
        not_arrow [] a b = true≢false (sym a)
        not_arrow (t.Arrow ∷ l) a b = true≢false (sym a)
        not_arrow (_ ∷ l) a b = true≢false (sym b)

pub arrows_makes : Makes alt_bodies (narrowed gda_lists ends_body) (λ p. ab.GuardedArrows p.0 p.1) 0 (begins is_bar)
arrows_makes = record {
  spelled = arrows_spelled;
  formed = arrows_is;
  deep = λ p. (let d = arrows_deep p in omega (arith, d));
  extends = λ p k q. q;
  starts = λ p after good. begins_append is_bar (gda_lists.tokens p) after
      (begins_append is_bar (spelling_gda p.0) _ (gda_starts p.0));
  only = λ x after good h. by x after h (alt_case x);
}
  where
    by : (x : AltBody) (after : Ts) → begins is_bar (spelling_alt_body x ++ after) ≡ true → AltCase x →
        (p : GdaTree × List GdaTree) × (x ≡ ab.GuardedArrows p.0 p.1)
    by x after h (by_arrows p is) = (p, is)
    by x after h (by_arrow e is) =
        absurd (true≢false (sym h
        ∙ ap (λ y. begins is_bar (spelling_alt_body y ++ after)) is
        ∙ ap (λ l. begins is_bar (l ++ after)) (arrow_spelled e)))
