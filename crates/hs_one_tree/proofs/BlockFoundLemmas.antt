-- Guards, right sides, alternatives and their blocks are found again if the expressions and local blocks in them are.
use Rattle.std.proofs.Common.{◌≡◌, ℕ, suc, ◌+◌, ◌≤◌, Bool, true, false, List, [], ◌∷◌, ◌++◌, length, refl, sym, ap, ◌∙◌}
use Rattle.std.proofs.Common.{subst, true≢false, arith, length-append}
use Rattle.std.specs.Prelude.{not, flat_map, ◌&&◌, ◌||◌, Option, Some, None}
use Rattle.std.proofs.lemmas.Bool.{or_from}
use Rattle.hs_forms.specs.Reading.{begins}
use Rattle.hs_forms.proofs.FormLemmas.{begins_within, begins_apart}
use Rattle.hs_forms.proofs.LimitLemmas.{and_left, and_right, or_left}
use Rattle.hs_tokens.specs.Terminals.{is_arrow, is_at, is_comma, starts_qconop}
use Rattle.hs_tokens.specs.declared.terminal.Terminal.{Terminal}
use Rattle.hs_tokens.specs.declared.terminal.Terminal.TheVariants as t
use Rattle.hs_tokens.specs.declared.word.Word.TheVariants as w
use Rattle.hs_trees.specs.Patterns.{Ts, is_pat, starts_apat, spelling_pat, starts_lpat}
use Rattle.hs_trees.specs.declared.patterns.PatTree.{PatTree}
use Rattle.hs_modules.specs.Tokens.{spelling_alt, spelling_alt_body, spelling_alt_slot}
use Rattle.hs_modules.specs.Tokens.{spelling_decl_block, spelling_exp, spelling_gd, spelling_gda, spelling_guard}
use Rattle.hs_modules.specs.Tokens.{spelling_infix, spelling_rhs_body}
use Rattle.hs_modules.specs.Formed.{Facts, good_of, facts_of_infix}
use Rattle.hs_modules.specs.declared.expressions.AltBody.{AltBody}
use Rattle.hs_modules.specs.declared.expressions.AltBody.TheVariants as ab
use Rattle.hs_modules.specs.declared.expressions.AltSlot.{AltSlot}
use Rattle.hs_modules.specs.declared.expressions.AltSlot.TheVariants as sl
use Rattle.hs_modules.specs.declared.expressions.DeclBlock.{DeclBlock}
use Rattle.hs_modules.specs.declared.expressions.ExpTree.{ExpTree}
use Rattle.hs_modules.specs.declared.expressions.GdTree.{GdTree, out-GdTree, roll-out-GdTree}
use Rattle.hs_modules.specs.declared.expressions.GdaTree.{GdaTree, out-GdaTree, roll-out-GdaTree}
use Rattle.hs_modules.specs.declared.expressions.GuardTree.TheVariants as gt
use Rattle.hs_modules.specs.declared.expressions.InfixTree.{InfixTree}
use Rattle.hs_modules.specs.declared.expressions.RhsBody.{RhsBody}
use Rattle.hs_modules.specs.declared.expressions.RhsBody.TheVariants as rb
use Rattle.hs_expression_forms.specs.Trees.{Trees, Took, behind_token, ended}
use Rattle.hs_expression_forms.specs.Expressions.{exps, infixes, pats, decl_blocks, alt_blocks, infix_goes_on, goes_on}
use Rattle.hs_expression_forms.specs.Expressions.{few}
use Rattle.hs_expression_forms.proofs.StarterLemmas.{closes}
use Rattle.hs_expression_forms.proofs.RowLemmas.{exp_ends}
use Rattle.hs_block_forms.specs.Combined.{narrowed, headed, headed_goes}
use Rattle.hs_block_forms.specs.Blocks.{is_bar, is_equals, is_where, ends_body, ends_guarded, ends_item}
use Rattle.hs_block_forms.specs.Blocks.{guard_goes_on, guards, guard_lists, GuardList, guards_fit, gds, gdas}
use Rattle.hs_block_forms.specs.Blocks.{gd_lists, gda_lists, rhs_bodies, alt_bodies, wheres, rhs_parts, alt_parts, rhss}
use Rattle.hs_block_forms.specs.Blocks.{alts, alt_slots, alt_items}
use Rattle.hs_block_forms.proofs.CombinedLemmas.{narrowed_took}
use Rattle.hs_block_forms.proofs.GuardLemmas.{past, test_took, bind_took, guard_bind, guard_test, guard_lists_are}
use Rattle.hs_block_forms.proofs.GuardLemmas.{equals_end, arrow_ends}
use Rattle.hs_block_forms.proofs.BlockLayerLemmas.{bind_spelled, bind_facts, test_spelled, test_facts, GuardCase}
use Rattle.hs_block_forms.proofs.BlockLayerLemmas.{is_bind}
use Rattle.hs_block_forms.proofs.BlockLayerLemmas.{is_test, guard_case, make_gd, make_gda, gd_makes, gda_makes, RhsCase}
use Rattle.hs_block_forms.proofs.BlockLayerLemmas.{by_equals, by_guards, rhs_case, AltCase, by_arrow, by_arrows}
use Rattle.hs_block_forms.proofs.BlockLayerLemmas.{alt_case}
use Rattle.hs_block_forms.proofs.BlockLayerLemmas.{equals_makes, guarded_makes, arrow_makes, arrows_makes}
use Rattle.hs_block_forms.proofs.ItemLayerLemmas.{into_rhs, rhs_embeds, into_alt, from_alt, alt_back, alt_embeds}
use Rattle.hs_block_forms.proofs.ItemLayerLemmas.{alt_places, into_block, block_embeds}
use Rattle.hs_block_forms.proofs.BodyLemmas.{gd_lists_are, gda_lists_are, rhs_chain, alt_chain, where_took}
use Rattle.hs_block_forms.proofs.BodyLemmas.{items_chain, alt_starter, alt_body_starts, gd_took, gda_took, alt_took}
use Rattle.hs_block_forms.proofs.BodyLemmas.{items_end}
use Rattle.hs_one_tree.specs.Found.{Found, Upto}
use Rattle.hs_one_tree.proofs.WholeLemmas.{each_upto, chain_found, ItemFound}
use Rattle.hs_one_tree.proofs.FoundLemmas.{found, same_found, behind_found, ended_found, list_found, between_found}
use Rattle.hs_one_tree.proofs.FoundLemmas.{plain_found, embedded_found, place_found, follow_quiet}
use Rattle.hs_one_tree.proofs.PatternFoundLemmas.{pats_found}

-- trees before certain tokens
pub narrowed_found : {K T : Type 0} (a : Trees K T) (follow : K → Bool) →
    ((x : T) (k : K) → follow k ≡ true → a.extends x k ≡ false) → (x : T) → Found a x → Found (narrowed a follow) x
narrowed_found a follow quiet x f good rest q =
    narrowed_took a follow quiet None (a.tokens x ++ rest) x rest (a.deep x)
    (f good rest (follow_quiet a follow quiet x rest q))

-- what goes on neither the first tree nor one behind it
pub headed_quiet : {K A B : Type 0} (a : Trees K A) (b : Trees K B) (starter : K → Bool) (most : Option ℕ) (p : A
    × List B) (k : K) → starter k ≡ false → ((h : A) → a.extends h k ≡ false) → ((x : B) → b.extends x k ≡ false) →
    (headed a b starter most).extends p k ≡ false
headed_quiet {K} {A} {B} a b starter most (h, xs) k off head item = or_from _ _ off (goes xs)
  where
    goes : (xs : List B) → headed_goes a b (h, xs) k ≡ false
    goes [] = head h
    goes (x ∷ xs) = item _

-- the tokens behind guarded expressions, bodies and items
arrow_quiet : (o r : Bool) → r && true ≡ false → goes_on true o r t.Arrow ≡ false
arrow_quiet o true h = absurd (true≢false h)
arrow_quiet true false h = refl
arrow_quiet false false h = refl

test_ends : (f : Facts) (k : Terminal) → guard_goes_on f k ≡ false → infix_goes_on f k ≡ false
test_ends f t.Comma h = closes t.Comma refl true f.is_open f.ends_in_type
test_ends f t.Equals h = closes t.Equals refl true f.is_open f.ends_in_type
test_ends f t.Arrow h = arrow_quiet f.is_open f.ends_in_type h
test_ends f _ h = absurd (true≢false h)

guarded_quiet : (x : ExpTree) (k : Terminal) → ends_guarded k ≡ true → exps.extends x k ≡ false
guarded_quiet x t.Semicolon h = exp_ends t.Semicolon refl x
guarded_quiet x t.RightBrace h = exp_ends t.RightBrace refl x
guarded_quiet x t.Bar h = exp_ends t.Bar refl x
guarded_quiet x (t.Word w.Where) h = exp_ends (t.Word w.Where) refl x
guarded_quiet x _ h = absurd (true≢false (sym h))

body_guarded : (k : Terminal) → ends_body k ≡ true → (ends_guarded k ≡ true) × (is_bar k ≡ false)
body_guarded t.Semicolon h = (refl, refl)
body_guarded t.RightBrace h = (refl, refl)
body_guarded (t.Word w.Where) h = (refl, refl)
body_guarded _ h = absurd (true≢false (sym h))

item_body : (k : Terminal) → ends_item k ≡ true → (not (ends_body k) ≡ false) × (is_where k ≡ false)
item_body t.Semicolon h = (refl, refl)
item_body t.RightBrace h = (refl, refl)
item_body _ h = absurd (true≢false (sym h))

gds_quiet : (p : GdTree × List GdTree) (k : Terminal) → ends_body k ≡ true → gd_lists.extends p k ≡ false
gds_quiet p k h =
    let both = body_guarded k h in or_from _ _ both.1 (ap not both.0)

gdas_quiet : (p : GdaTree × List GdaTree) (k : Terminal) → ends_body k ≡ true → gda_lists.extends p k ≡ false
gdas_quiet p k h =
    let both = body_guarded k h in or_from _ _ both.1 (ap not both.0)

body_quiet : (x : ExpTree) (k : Terminal) → ends_body k ≡ true → exps.extends x k ≡ false
body_quiet x k h = guarded_quiet x k (body_guarded k h).0

rhs_parts_quiet : (p : RhsBody × List DeclBlock) (k : Terminal) → ends_item k ≡ true → rhs_parts.extends p k ≡ false
rhs_parts_quiet p k h =
    let both = item_body k h in
    headed_quiet rhs_bodies wheres is_where (Some 1) p k both.1 (λ x. both.0) (λ x. refl)

alt_parts_quiet : (p : AltBody × List DeclBlock) (k : Terminal) → ends_item k ≡ true → alt_parts.extends p k ≡ false
alt_parts_quiet p k h =
    let both = item_body k h in
    headed_quiet alt_bodies wheres is_where (Some 1) p k both.1 (λ x. both.0) (λ x. refl)

body_apart : (k : Terminal) → alt_starter k ≡ true → (starts_apat k || is_at k) || starts_qconop k ≡ false
body_apart t.Arrow h = refl
body_apart t.Bar h = refl
body_apart _ h = absurd (true≢false (sym h))

module _ (n : ℕ) (exps_below : Upto exps n) (infixes_below : Upto infixes n) (decls_below : Upto decl_blocks n) where
  -- guards
  test_read : (e : InfixTree) → length (spelling_infix e) ≤ n → infixes.formed e ≡ true → (rest : Ts) →
      begins (guard_goes_on (facts_of_infix e)) rest ≡ false →
      Took infixes None (spelling_infix e ++ rest) e rest (infixes.deep e)
  test_read e short good rest quiet =
      infixes_below e short good rest
      (begins_within (guard_goes_on (facts_of_infix e)) (infix_goes_on (facts_of_infix e)) rest
      (test_ends (facts_of_infix e)) quiet)

  bind_found : (p : PatTree) (e : InfixTree) → length (spelling_infix e) ≤ n → Found guards (gt.Bind p e)
  bind_found p e short good rest quiet =
      let fine = sym (ap good_of (bind_facts p e)) ∙ good in
      let still = subst (λ f. begins (guard_goes_on f) rest ≡ false) (bind_facts p e) quiet in
      let next = spelling_infix e ++ rest in
      let ts = spelling_pat p ++ t.LeftArrow ∷ next in
      let pattern = pats_found p (and_left (is_pat p) _ fine) (t.LeftArrow ∷ next) refl in
      let value = test_read e short (and_right (is_pat p) _ fine) rest still in
      found guards ts (gt.Bind p e) rest _ (guard_bind None ts p e rest _
      (bind_took None ts p (t.LeftArrow ∷ next) next _ pattern refl e rest _ value))

  test_found : (e : InfixTree) → length (spelling_infix e) ≤ n → Found guards (gt.Test e)
  test_found e short good rest quiet =
      let fine = sym (ap good_of (test_facts e)) ∙ good in
      let still = subst (λ f. begins (guard_goes_on f) rest ≡ false) (test_facts e) quiet in
      let ts = spelling_infix e ++ rest in
      let f = facts_of_infix e in
      found guards ts (gt.Test e) rest _ (guard_test None ts e rest _
      (test_took None ts e rest _ (test_read e short fine rest still))
      (begins_within (guard_goes_on f) past rest (λ k h. or_left (past k) _ h) still))

  guards_found : Upto guards n
  guards_found x short = by (guard_case x)
    where
      by : GuardCase x → Found guards x
      by (is_bind p e is) =
          let spelled = ap (λ y. length (spelling_guard y)) is ∙ ap length (bind_spelled p e) in
          let long = length-append (spelling_pat p ++ t.LeftArrow ∷ []) (spelling_infix e) in
          same_found guards x (gt.Bind p e) is (bind_found p e (omega arith))
      by (is_test e is) =
          let spelled = ap (λ y. length (spelling_guard y)) is ∙ ap length (test_spelled e) in
          same_found guards x (gt.Test e) is (test_found e (omega arith))

  guard_lists_found : Upto guard_lists n
  guard_lists_found p short =
      let long = length-append (spelling_guard p.0) (flat_map (λ x. t.Comma ∷ spelling_guard x) p.1) in
      between_found guards t.Comma is_comma guard_lists_are None p.0 p.1 (guards_found p.0 (omega arith))
      (each_upto (λ x. t.Comma ∷ spelling_guard x) (Found guards) n (λ x short. guards_found x (omega (arith, short)))
      p.1 (omega arith))

  -- guarded expressions
  gd_found : (p : GuardList × ExpTree) → length (spelling_gd (make_gd p)) ≤ n → Found gds (make_gd p)
  gd_found p short good rest quiet =
      let fine = sym (gd_makes.formed p) ∙ good in
      let spelled = ap length (gd_makes.spelled p) in
      let one = length-append (guard_lists.tokens p.0 ++ t.Equals ∷ []) (spelling_exp p.1) in
      let two = length-append (guard_lists.tokens p.0) (t.Equals ∷ []) in
      let behind = spelling_exp p.1 ++ rest in
      let here = t.Equals ∷ behind in
      let next = guard_lists.tokens p.0 ++ here in
      let before = guard_lists_found p.0 (omega arith) (and_left (guard_lists.formed p.0) _ fine) here
      (equals_end p.0) in
      let value = exps_below p.1 (omega arith) (and_right (guard_lists.formed p.0) _ fine) rest
      (follow_quiet exps ends_guarded guarded_quiet p.1 rest quiet) in
      found gds (t.Bar ∷ next) (make_gd p) rest _
      (gd_took None (t.Bar ∷ next) next refl p.0 here behind _ before refl p.1 rest _ value)

  gds_found : Upto gds n
  gds_found x =
      let o = out-GdTree x in
      subst (λ y. length (spelling_gd y) ≤ n → Found gds y) (roll-out-GdTree x) (gd_found ((o.first, o.rest), o.exp))

  gda_found : (p : GuardList × ExpTree) → length (spelling_gda (make_gda p)) ≤ n → Found gdas (make_gda p)
  gda_found p short good rest quiet =
      let fine = sym (gda_makes.formed p) ∙ good in
      let fitting = and_left (guard_lists.formed p.0 && guards_fit p.0) _ fine in
      let fit = and_right (guard_lists.formed p.0) _ fitting in
      let spelled = ap length (gda_makes.spelled p) in
      let one = length-append (guard_lists.tokens p.0 ++ t.Arrow ∷ []) (spelling_exp p.1) in
      let two = length-append (guard_lists.tokens p.0) (t.Arrow ∷ []) in
      let behind = spelling_exp p.1 ++ rest in
      let here = t.Arrow ∷ behind in
      let next = guard_lists.tokens p.0 ++ here in
      let before = guard_lists_found p.0 (omega arith) (and_left (guard_lists.formed p.0) _ fitting) here
      (arrow_ends p.0 fit) in
      let value = exps_below p.1 (omega arith) (and_right (guard_lists.formed p.0 && guards_fit p.0) _ fine) rest
      (follow_quiet exps ends_guarded guarded_quiet p.1 rest quiet) in
      found gdas (t.Bar ∷ next) (make_gda p) rest _
      (gda_took None (t.Bar ∷ next) next refl p.0 here behind _ before refl fit p.1 rest _ value)

  gdas_found : Upto gdas n
  gdas_found x =
      let o = out-GdaTree x in
      subst (λ y. length (spelling_gda y) ≤ n → Found gdas y) (roll-out-GdaTree x)
      (gda_found ((o.first, o.rest), o.exp))

  -- bodies
  rhs_bodies_found : Upto rhs_bodies n
  rhs_bodies_found x short = by (rhs_case x)
    where
      by : RhsCase x → Found rhs_bodies x
      by (by_equals e is) =
          let spelled = ap (λ y. length (spelling_rhs_body y)) is ∙ ap length (equals_makes.spelled e) in
          same_found rhs_bodies x (rb.Equals e) is
          (plain_found rhs_bodies (behind_token t.Equals (narrowed exps ends_body)) (λ e. rb.Equals e)
          (begins is_equals) equals_makes e (behind_found (narrowed exps ends_body) t.Equals e
          (narrowed_found exps ends_body body_quiet e (exps_below e (omega arith)))))
      by (by_guards p is) =
          let spelled = ap (λ y. length (spelling_rhs_body y)) is ∙ ap length (guarded_makes.spelled p) in
          let long = length-append (spelling_gd p.0) (flat_map spelling_gd p.1) in
          let len : length (spelling_gd p.0) + length (flat_map spelling_gd p.1) ≤ n = omega arith in
          same_found rhs_bodies x (rb.GuardedEquals p.0 p.1) is
          (plain_found rhs_bodies (narrowed gd_lists ends_body) (λ p. rb.GuardedEquals p.0 p.1) (begins is_bar)
          guarded_makes p (narrowed_found gd_lists ends_body gds_quiet p
          (list_found gds is_bar gd_lists_are None p.0 p.1 (gds_found p.0 (omega arith))
          (each_upto spelling_gd (Found gds) n gds_found p.1 (omega arith)))))

  alt_bodies_found : Upto alt_bodies n
  alt_bodies_found x short = by (alt_case x)
    where
      by : AltCase x → Found alt_bodies x
      by (by_arrow e is) =
          let spelled = ap (λ y. length (spelling_alt_body y)) is ∙ ap length (arrow_makes.spelled e) in
          same_found alt_bodies x (ab.Arrow e) is
          (plain_found alt_bodies (behind_token t.Arrow (narrowed exps ends_body)) (λ e. ab.Arrow e)
          (begins is_arrow) arrow_makes e (behind_found (narrowed exps ends_body) t.Arrow e
          (narrowed_found exps ends_body body_quiet e (exps_below e (omega arith)))))
      by (by_arrows p is) =
          let spelled = ap (λ y. length (spelling_alt_body y)) is ∙ ap length (arrows_makes.spelled p) in
          let long = length-append (spelling_gda p.0) (flat_map spelling_gda p.1) in
          let len : length (spelling_gda p.0) + length (flat_map spelling_gda p.1) ≤ n = omega arith in
          same_found alt_bodies x (ab.GuardedArrows p.0 p.1) is
          (plain_found alt_bodies (narrowed gda_lists ends_body) (λ p. ab.GuardedArrows p.0 p.1) (begins is_bar)
          arrows_makes p (narrowed_found gda_lists ends_body gdas_quiet p
          (list_found gdas is_bar gda_lists_are None p.0 p.1 (gdas_found p.0 (omega arith))
          (each_upto spelling_gda (Found gdas) n gdas_found p.1 (omega arith)))))

  -- bodies with what is local to them
  where_read : (x : DeclBlock) → length (wheres.tokens x) ≤ n → ItemFound (rhs_chain None) x
  where_read x short k good here quiet =
      let next = spelling_decl_block x ++ here in
      where_took None (t.Word w.Where ∷ next) next x here _ refl
      (decls_below x (omega (arith, short)) good.0 here quiet)

  rhs_parts_found : Upto rhs_parts n
  rhs_parts_found p short good rest quiet =
      let long = length-append (spelling_rhs_body p.0) (flat_map wheres.tokens p.1) in
      let parts = and_right (few (Some 1) (length p.1)) _ good in
      chain_found (rhs_chain None) rhs_parts.deep p.0 p.1 rest (good, tt) quiet
      (λ here q. rhs_bodies_found p.0 (omega arith) (and_left (rhs_bodies.formed p.0) _ parts) here q)
      (each_upto wheres.tokens (ItemFound (rhs_chain None)) n where_read p.1 (omega arith)) (omega arith)

  alt_parts_found : Upto alt_parts n
  alt_parts_found p short good rest quiet =
      let long = length-append (spelling_alt_body p.0) (flat_map wheres.tokens p.1) in
      let parts = and_right (few (Some 1) (length p.1)) _ good in
      chain_found (alt_chain None) alt_parts.deep p.0 p.1 rest (good, tt) quiet
      (λ here q. alt_bodies_found p.0 (omega arith) (and_left (alt_bodies.formed p.0) _ parts) here q)
      (each_upto wheres.tokens (ItemFound (alt_chain None)) n where_read p.1 (omega arith)) (omega arith)

  pub rhss_found : Upto rhss n
  rhss_found x short =
      let spelled = ap length (rhs_embeds.tokens x) in
      embedded_found rhss (narrowed rhs_parts ends_item) into_rhs rhs_embeds x (λ rest q. q)
      (narrowed_found rhs_parts ends_item rhs_parts_quiet (into_rhs x) (rhs_parts_found (into_rhs x) (omega arith)))

  -- alternatives and their blocks
  alts_found : Upto alts n
  alts_found x short good rest quiet =
      let p = into_alt x in
      let spelled = ap length (alt_embeds.tokens x) in
      let long = length-append (spelling_pat p.0) (alt_parts.tokens p.1) in
      let fine = alt_embeds.formed x ∙ good in
      let here = alt_parts.tokens p.1 ++ rest in
      let ts = spelling_pat p.0 ++ here in
      let still = begins_apart alt_starter (pats.extends p.0) (alt_parts.tokens p.1) rest body_apart
      (starts (spelling_alt_body p.1.0) (flat_map wheres.tokens p.1.1) (alt_body_starts p.1.0)) in
      let pattern = pats_found p.0 (and_left (is_pat p.0) _ fine) here still in
      let parts = alt_parts_found p.1 (omega arith) (and_right (is_pat p.0) _ fine) rest
      (follow_quiet alt_parts ends_item alt_parts_quiet p.1 rest quiet) in
      let same = alt_embeds.one (from_alt p) x (alt_back p fine) in
      subst (λ y. Took alts None (spelling_alt y ++ rest) y rest (alts.deep y)) same
      (found alts ts (from_alt p) rest _ (alt_took None ts p.0 here _ pattern p.1 rest _ parts))
    where
      starts : (xs ys : Ts) → begins alt_starter xs ≡ true → begins alt_starter (xs ++ ys) ≡ true
      starts [] ys h = absurd (true≢false (sym h))
      starts (x ∷ xs) ys h = h

  slot_found : (k : Terminal) (y : AltSlot) → length (spelling_alt_slot y) ≤ n → Found (behind_token k alt_slots) y
  slot_found k y short =
      place_found alts alt_slots sl.NoAlt (λ x. sl.Alt x) starts_lpat ends_item alt_places k y
      (λ x is. alts_found x (omega (
        arith,
        short,
        ap (λ z. length (spelling_alt_slot z)) is,
        ap length (alt_places.tokens x),
      )))

  pub alt_blocks_found : Upto alt_blocks (suc n)
  alt_blocks_found x short =
      embedded_found alt_blocks (ended alt_items t.RightBrace) into_block block_embeds x (λ rest q. q)
      (ended_found alt_items t.RightBrace items_end (into_block x) items)
    where
      items : Found alt_items (into_block x)
      items good rest quiet =
          let p = into_block x in
          let spelled = ap length (block_embeds.tokens x) in
          let one = length-append (alt_items.tokens p) (t.RightBrace ∷ []) in
          let two = length-append (t.LeftBrace ∷ spelling_alt_slot p.0)
          (flat_map (λ y. t.Semicolon ∷ spelling_alt_slot y) p.1) in
          chain_found (items_chain None) alt_items.deep p.0 p.1 rest (good, tt) quiet
          (λ here q. slot_found t.LeftBrace p.0 (omega arith)
          (and_left (alt_slots.formed p.0) _ good) here q)
          (each_upto (λ y. t.Semicolon ∷ spelling_alt_slot y) (ItemFound (items_chain None)) n
          (λ y short k fine here q. slot_found t.Semicolon y (omega (arith, short)) fine.0 here q) p.1 (omega arith))
          (omega arith)
