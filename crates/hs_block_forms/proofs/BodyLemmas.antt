-- Lists of guarded expressions, bodies with their `where`, and places of blocks, as chains; and what their readers
-- answer.
use Rattle.std.proofs.Common.{◌≡◌, ℕ, ◌+◌, Bool, true, false, List, [], ◌∷◌, length, refl, sym, ap, ◌∙◌}
use Rattle.std.proofs.Common.{subst, true≢false, arith}
use Rattle.std.specs.Prelude.{max, not, ◌||◌, Option, Some, None}
use Rattle.std.proofs.lemmas.Bool.{and_from}
use Rattle.hs_forms.specs.Reading.{Form, begins}
use Rattle.hs_forms.specs.Limits.{Within, lowered}
use Rattle.hs_forms.specs.Answers.{Accepts, Fails, Rejects, Sort}
use Rattle.hs_forms.specs.Forms.{behind}
use Rattle.hs_forms.specs.Productions.{Chain}
use Rattle.hs_forms.specs.declared.fault.Fault.{Fault}
use Rattle.hs_forms.specs.declared.fault.Fault.TheVariants.{At}
use Rattle.hs_forms.proofs.FormLemmas.{begins_append, begins_same, reads_behind, refuses_behind}
use Rattle.hs_forms.proofs.LimitLemmas.{within_less, within_lowered, within_raised, within_zero}
use Rattle.hs_forms.proofs.StateLemmas.{fails_after}
use Rattle.hs_tokens.specs.Terminals.{is_arrow, is_at, starts_qconop}
use Rattle.hs_tokens.specs.declared.terminal.Terminal.{Terminal}
use Rattle.hs_tokens.specs.declared.terminal.Terminal.TheVariants as t
use Rattle.hs_tokens.specs.declared.word.Word.TheVariants as w
use Rattle.hs_trees.specs.Patterns.{Ts, starts_apat}
use Rattle.hs_trees.specs.declared.patterns.PatTree.{PatTree}
use Rattle.hs_modules.specs.Tokens.{spelling_alt_body, spelling_gd, spelling_gda, spelling_rhs_body}
use Rattle.hs_modules.specs.declared.expressions.AltBody.{AltBody}
use Rattle.hs_modules.specs.declared.expressions.AltBody.TheVariants as ab
use Rattle.hs_modules.specs.declared.expressions.AltSlot.{AltSlot}
use Rattle.hs_modules.specs.declared.expressions.AltSlot.TheVariants as sl
use Rattle.hs_modules.specs.declared.expressions.DeclBlock.{DeclBlock}
use Rattle.hs_modules.specs.declared.expressions.ExpTree.{ExpTree}
use Rattle.hs_modules.specs.declared.expressions.GdTree.{GdTree}
use Rattle.hs_modules.specs.declared.expressions.GdaTree.{GdaTree}
use Rattle.hs_modules.specs.declared.expressions.RhsBody.{RhsBody}
use Rattle.hs_modules.specs.declared.expressions.RhsBody.TheVariants as rb
use Rattle.hs_expression_forms.specs.Trees.{Trees, within, Took, Failed, behind_token, ended, Follows, Makes}
use Rattle.hs_expression_forms.specs.Expressions.{exps, pats, starts_exp, alt_blocks, decl_blocks}
use Rattle.hs_expression_forms.proofs.TreesLemmas.{behind_took, behind_failed, ended_took, ended_failed, ended_missed}
use Rattle.hs_expression_forms.proofs.TreesLemmas.{row_took, row_first, row_second, made_took, made_failed, stays_first}
use Rattle.hs_expression_forms.proofs.TreesLemmas.{embeds_took, embeds_failed}
use Rattle.hs_expression_forms.proofs.ListedLemmas.{Lists, list_chain}
use Rattle.hs_expression_forms.proofs.RowLemmas.{exp_ends, exp_starts, least_exp, least_exp_formed, least_exp_deep}
use Rattle.hs_expression_forms.proofs.LinkFirstLemmas.{lowered_none}
use Rattle.hs_operand_forms.proofs.LedLemmas.{front_failed, second_failed, both_took}
use Rattle.hs_block_forms.specs.Combined.{Heads, narrowed, ended_if}
use Rattle.hs_block_forms.specs.Blocks.{is_bar, is_equals, is_left_brace, is_where, is_semicolon, ends_body}
use Rattle.hs_block_forms.specs.Blocks.{ends_guarded}
use Rattle.hs_block_forms.specs.Blocks.{ends_item, gds, gdas, rhs_bodies, alt_bodies, wheres, alt_slots, alt_items}
use Rattle.hs_block_forms.specs.Blocks.{guard_lists, GuardList, guards_fit, gd_lists, gda_lists, rhs_parts, alt_parts}
use Rattle.hs_block_forms.specs.Blocks.{rhss, alts, pat_alts}
use Rattle.hs_block_forms.proofs.CombinedLemmas.{headed_chain, narrowed_took, narrowed_failed, ended_if_took}
use Rattle.hs_block_forms.proofs.CombinedLemmas.{ended_if_failed, ended_if_missed}
use Rattle.hs_block_forms.proofs.GuardLemmas.{equals_end, arrow_ends, guards_complete}
use Rattle.hs_block_forms.proofs.BlockLayerLemmas.{gd_starts, gda_starts, gd_makes, gda_makes, make_gd, make_gda}
use Rattle.hs_block_forms.proofs.BlockLayerLemmas.{equals_makes, guarded_makes, arrow_makes, arrows_makes, rhs_case}
use Rattle.hs_block_forms.proofs.BlockLayerLemmas.{RhsCase, by_equals, by_guards, alt_case, AltCase, by_arrow}
use Rattle.hs_block_forms.proofs.BlockLayerLemmas.{by_arrows}
use Rattle.hs_block_forms.proofs.BlockLayerLemmas.{equals_spelled, equals_is, equals_deep, guarded_spelled}
use Rattle.hs_block_forms.proofs.BlockLayerLemmas.{arrow_spelled, arrow_is, arrow_deep, arrows_spelled}
use Rattle.hs_block_forms.proofs.ItemLayerLemmas.{from_rhs, into_rhs, rhs_back, rhs_embeds, from_alt, into_alt}
use Rattle.hs_block_forms.proofs.ItemLayerLemmas.{alt_back}
use Rattle.hs_block_forms.proofs.ItemLayerLemmas.{alt_embeds, alt_places, from_block, into_block, block_back}
use Rattle.hs_block_forms.proofs.ItemLayerLemmas.{block_embeds}

bar_ends : (k : Terminal) → is_bar k ≡ true → not (ends_guarded k) ≡ false
bar_ends t.Bar h = refl
bar_ends _ h = absurd (true≢false (sym h))

pub gd_lists_are : Lists gds [] is_bar
gd_lists_are = record { starts = gd_starts; apart = λ x k e. bar_ends k e }

pub gda_lists_are : Lists gdas [] is_bar
gda_lists_are = record { starts = gda_starts; apart = λ x k e. bar_ends k e }

abbrev pub gd_chain : Option ℕ → Chain Terminal (GdTree × List GdTree) GdTree GdTree
gd_chain limit = list_chain gds [] is_bar gd_lists_are None limit

abbrev pub gda_chain : Option ℕ → Chain Terminal (GdaTree × List GdaTree) GdaTree GdaTree
gda_chain limit = list_chain gdas [] is_bar gda_lists_are None limit

where_ends : (k : Terminal) → is_where k ≡ true → not (ends_body k) ≡ false
where_ends (t.Word w.Where) h = refl
where_ends _ h = absurd (true≢false (sym h))

pub rhs_heads : Heads rhs_bodies wheres is_where
rhs_heads = record { starts = λ x. refl; apart_head = λ h k e. where_ends k e; apart = λ x k e. refl }

pub alt_heads : Heads alt_bodies wheres is_where
alt_heads = record { starts = λ x. refl; apart_head = λ h k e. where_ends k e; apart = λ x k e. refl }

-- The block behind `where` is read within what its own depth leaves, where there is room for it.
abbrev pub where_form : Option ℕ → Form Terminal DeclBlock
where_form limit = behind (t.Word w.Where) (within decl_blocks (lowered limit 1))

pub where_there : (limit : Option ℕ) → Within limit 1 → (x : DeclBlock) → (where_form limit).Good x →
    (within wheres limit).Good x
where_there limit room x g = (g.0, within_raised limit (decl_blocks.deep x) 1 room g.1)

pub where_back : (limit : Option ℕ) (x : DeclBlock) → (within wheres limit).Good x →
    Within limit 1 × (where_form limit).Good x
where_back limit x g = (
  within_less limit 1 (decl_blocks.deep x + 1) (omega arith) g.1,
  (g.0, within_lowered limit (decl_blocks.deep x) 1 g.1),
)

abbrev pub rhs_chain : Option ℕ → Chain Terminal (RhsBody × List DeclBlock) RhsBody DeclBlock
rhs_chain limit =
    headed_chain rhs_bodies wheres is_where rhs_heads (Some 1) limit (where_form limit).Good (Within limit 1)
    (where_there limit) (where_back limit)

abbrev pub alt_chain : Option ℕ → Chain Terminal (AltBody × List DeclBlock) AltBody DeclBlock
alt_chain limit =
    headed_chain alt_bodies wheres is_where alt_heads (Some 1) limit (where_form limit).Good (Within limit 1)
    (where_there limit) (where_back limit)

abbrev pub where_sort : Option ℕ → Sort Terminal DeclBlock
where_sort limit = record { form = where_form limit; depth = wheres.deep }

pub where_took : (limit : Option ℕ) (ts next : Ts) (x : DeclBlock) (rest : Ts) (m : ℕ) → ts ≡ t.Word w.Where ∷ next →
    Took decl_blocks (lowered limit 1) next x rest m → Accepts (where_form limit) wheres.deep ts x rest (m + 1)
where_took limit ts next x rest m at acc = record {
  spelled = at ∙ ap (λ l. t.Word w.Where ∷ l) acc.spelled;
  reads = reads_behind (t.Word w.Where) (within decl_blocks (lowered limit 1)) x rest acc.reads;
  measured_is = ap (λ n. n + 1) acc.measured_is;
  room = omega (arith, acc.room, ap length at);
}

pub where_failed : (limit : Option ℕ) (ts next : Ts) (e : Fault) → ts ≡ t.Word w.Where ∷ next →
    Failed decl_blocks (lowered limit 1) next e → Fails (where_form limit) ts e
where_failed limit ts next e at r =
    fails_after (where_form limit) (within decl_blocks (lowered limit 1)) (t.Word w.Where ∷ []) ts next e at
    (λ before bad split q. refuses_behind (t.Word w.Where) (within decl_blocks (lowered limit 1)) before bad q) r

semicolon_ends : (k : Terminal) → is_semicolon k ≡ true → not (ends_item k) ≡ false
semicolon_ends t.Semicolon h = refl
semicolon_ends _ h = absurd (true≢false (sym h))

pub item_heads : Heads (behind_token t.LeftBrace alt_slots) (behind_token t.Semicolon alt_slots) is_semicolon
item_heads = record {
  starts = λ x. refl;
  apart_head = λ h k e. semicolon_ends k e;
  apart = λ x k e. semicolon_ends k e;
}

abbrev pub items_chain : Option ℕ → Chain Terminal (AltSlot × List AltSlot) AltSlot AltSlot
items_chain limit =
    headed_chain (behind_token t.LeftBrace alt_slots) (behind_token t.Semicolon alt_slots) is_semicolon item_heads
    None limit (within (behind_token t.Semicolon alt_slots) limit).Good (Unit {0}) (λ r x g. g) (λ x g. (tt, g))

-- expressions up to what may stand behind them
guarded_quiet : (x : ExpTree) (k : Terminal) → ends_guarded k ≡ true → exps.extends x k ≡ false
guarded_quiet x t.Semicolon h = exp_ends t.Semicolon refl x
guarded_quiet x t.RightBrace h = exp_ends t.RightBrace refl x
guarded_quiet x t.Bar h = exp_ends t.Bar refl x
guarded_quiet x (t.Word w.Where) h = exp_ends (t.Word w.Where) refl x
guarded_quiet x _ h = absurd (true≢false (sym h))

body_quiet : (x : ExpTree) (k : Terminal) → ends_body k ≡ true → exps.extends x k ≡ false
body_quiet x t.Semicolon h = exp_ends t.Semicolon refl x
body_quiet x t.RightBrace h = exp_ends t.RightBrace refl x
body_quiet x (t.Word w.Where) h = exp_ends (t.Word w.Where) refl x
body_quiet x _ h = absurd (true≢false (sym h))

gds_quiet : (p : GdTree × List GdTree) (k : Terminal) → ends_body k ≡ true → gd_lists.extends p k ≡ false
gds_quiet p t.Semicolon h = refl
gds_quiet p t.RightBrace h = refl
gds_quiet p (t.Word w.Where) h = refl
gds_quiet p _ h = absurd (true≢false (sym h))

gdas_quiet : (p : GdaTree × List GdaTree) (k : Terminal) → ends_body k ≡ true → gda_lists.extends p k ≡ false
gdas_quiet p t.Semicolon h = refl
gdas_quiet p t.RightBrace h = refl
gdas_quiet p (t.Word w.Where) h = refl
gdas_quiet p _ h = absurd (true≢false (sym h))

-- least bodies, and how bodies begin
abbrev pub rhs_starter : Terminal → Bool
rhs_starter k = is_equals k || is_bar k

abbrev pub alt_starter : Terminal → Bool
alt_starter k = is_arrow k || is_bar k

bar_starts : (ts : Ts) (f : Terminal → Bool) → begins is_bar ts ≡ true → begins (λ k. f k || is_bar k) ts ≡ true
bar_starts [] f h = h
bar_starts (t.Bar ∷ ts) f h = both (f t.Bar)
  where
    both : (b : Bool) → b || true ≡ true
    both true = refl
    both false = refl
bar_starts (_ ∷ ts) f h = absurd (true≢false (sym h))

pub rhs_starts : (x : RhsBody) → begins rhs_starter (spelling_rhs_body x) ≡ true
rhs_starts x = by (rhs_case x)
  where
    by : RhsCase x → begins rhs_starter (spelling_rhs_body x) ≡ true
    by (by_equals e is) = ap (λ y. begins rhs_starter (spelling_rhs_body y)) is ∙ ap (begins rhs_starter)
        (equals_spelled e)
    by (by_guards p is) =
        ap (λ y. begins rhs_starter (spelling_rhs_body y)) is ∙ ap (begins rhs_starter) (guarded_spelled p)
        ∙ bar_starts (gd_lists.tokens p) is_equals (begins_append is_bar (spelling_gd p.0) _ (gd_starts p.0))

pub alt_body_starts : (x : AltBody) → begins alt_starter (spelling_alt_body x) ≡ true
alt_body_starts x = by (alt_case x)
  where
    by : AltCase x → begins alt_starter (spelling_alt_body x) ≡ true
    by (by_arrow e is) = ap (λ y. begins alt_starter (spelling_alt_body y)) is ∙ ap (begins alt_starter)
        (arrow_spelled e)
    by (by_arrows p is) =
        ap (λ y. begins alt_starter (spelling_alt_body y)) is ∙ ap (begins alt_starter) (arrows_spelled p)
        ∙ bar_starts (gda_lists.tokens p) is_arrow (begins_append is_bar (spelling_gda p.0) _ (gda_starts p.0))

least_rhs : (limit : Option ℕ) → (within rhs_bodies limit).Good (rb.Equals least_exp)
least_rhs limit = (
  equals_is least_exp ∙ least_exp_formed,
  within_less limit _ 0 (omega (arith, equals_deep least_exp, least_exp_deep)) (within_zero limit),
)

least_alt : (limit : Option ℕ) → (within alt_bodies limit).Good (ab.Arrow least_exp)
least_alt limit = (
  arrow_is least_exp ∙ least_exp_formed,
  within_less limit _ 0 (omega (arith, arrow_deep least_exp, least_exp_deep)) (within_zero limit),
)

alt_follows : Follows pats (narrowed alt_parts ends_item) alt_starter
alt_follows = record {
  starts = λ p. begins_append alt_starter (spelling_alt_body p.0) _ (alt_body_starts p.0);
  apart = λ x k h. apart k h;
  least = (ab.Arrow least_exp, []);
  least_formed = and_from _ _ refl (and_from (alt_bodies.formed (ab.Arrow least_exp)) true
      (arrow_is least_exp ∙ least_exp_formed) refl);
  least_deep = omega (arith, arrow_deep least_exp, least_exp_deep);
}
  where
    apart : (k : Terminal) → alt_starter k ≡ true → (starts_apat k || is_at k) || starts_qconop k ≡ false
    apart t.Arrow h = refl
    apart t.Bar h = refl
    apart _ h = absurd (true≢false (sym h))

rhs_parts_quiet : (p : RhsBody × List DeclBlock) (k : Terminal) → ends_item k ≡ true → rhs_parts.extends p k ≡ false
rhs_parts_quiet (h, []) t.Semicolon e = refl
rhs_parts_quiet (h, []) t.RightBrace e = refl
rhs_parts_quiet (h, x ∷ xs) t.Semicolon e = refl
rhs_parts_quiet (h, x ∷ xs) t.RightBrace e = refl
rhs_parts_quiet p _ e = absurd (true≢false (sym e))

alt_parts_quiet : (p : AltBody × List DeclBlock) (k : Terminal) → ends_item k ≡ true → alt_parts.extends p k ≡ false
alt_parts_quiet (h, []) t.Semicolon e = refl
alt_parts_quiet (h, []) t.RightBrace e = refl
alt_parts_quiet (h, x ∷ xs) t.Semicolon e = refl
alt_parts_quiet (h, x ∷ xs) t.RightBrace e = refl
alt_parts_quiet p _ e = absurd (true≢false (sym e))

least_items : (limit : Option ℕ) → (within alt_items limit).Good (sl.NoAlt, [])
least_items limit = (
  and_from _ _ refl (and_from (alt_slots.formed sl.NoAlt) true alt_places.none_formed refl),
  within_less limit _ 0 (omega (arith, alt_places.none_deep)) (within_zero limit),
)

-- `"|" guards "=" exp` and `"|" guards "->" exp`
gd_follows : Follows (ended guard_lists t.Equals) (narrowed exps ends_guarded) starts_exp
gd_follows = record {
  starts = exp_starts;
  apart = λ x k h. refl;
  least = least_exp;
  least_formed = least_exp_formed;
  least_deep = least_exp_deep;
}

gda_follows : Follows (ended_if guard_lists guards_fit t.Arrow) (narrowed exps ends_guarded) starts_exp
gda_follows = record {
  starts = exp_starts;
  apart = λ x k h. refl;
  least = least_exp;
  least_formed = least_exp_formed;
  least_deep = least_exp_deep;
}

module _ (limit : Option ℕ) (ts next : Ts) (at : ts ≡ t.Bar ∷ next) where
  gd_front : (e : Fault) → Failed (ended guard_lists t.Equals) limit next e → Failed gds limit ts e
  gd_front e r =
      subst (λ l. Failed gds limit l e) (sym at)
      (front_failed gds t.Bar (ended guard_lists t.Equals) (narrowed exps ends_guarded) make_gd 0 (omega arith) is_bar
      gd_makes starts_exp gd_follows refl limit (within_zero limit) limit (sym (lowered_none limit)) next e r)

  pub gd_guards_failed : (e : Fault) → Failed guard_lists limit next e → Failed gds limit ts e
  gd_guards_failed e r = gd_front e (ended_failed guard_lists limit t.Equals equals_end next e r)

  pub gd_missed : (p : GuardList) (here : Ts) (m : ℕ) → Took guard_lists limit next p here m →
      begins is_equals here ≡ false → Rejects (within gds limit) ts (length here)
  gd_missed p here m acc missed =
      gd_front (At (length here)) (ended_missed guard_lists limit t.Equals equals_end is_equals refl next p here m acc
      missed)

  gda_front : (e : Fault) → Failed (ended_if guard_lists guards_fit t.Arrow) limit next e → Failed gdas limit ts e
  gda_front e r =
      subst (λ l. Failed gdas limit l e) (sym at)
      (front_failed gdas t.Bar (ended_if guard_lists guards_fit t.Arrow) (narrowed exps ends_guarded) make_gda 0
      (omega arith) is_bar gda_makes starts_exp gda_follows refl limit (within_zero limit) limit
      (sym (lowered_none limit)) next e r)

  pub gda_guards_failed : (e : Fault) → Failed guard_lists limit next e → Failed gdas limit ts e
  gda_guards_failed e r =
      gda_front e (ended_if_failed guard_lists guards_fit t.Arrow arrow_ends limit (guards_complete limit) next e r)

  pub gda_missed : (p : GuardList) (here : Ts) (m : ℕ) → Took guard_lists limit next p here m →
      ((more : Ts) → here ≡ t.Arrow ∷ more → guards_fit p ≡ true → ⊥) → Rejects (within gdas limit) ts (length here)
  gda_missed p here m acc missed =
      gda_front (At (length here)) (ended_if_missed guard_lists guards_fit t.Arrow arrow_ends limit
      (guards_complete limit) next p here m acc missed)

  module _ (p : GuardList) (here rest : Ts) (m : ℕ) (acc : Took guard_lists limit next p here m) where
    pub gd_exp_failed : here ≡ t.Equals ∷ rest → (e : Fault) → Failed exps limit rest e → Failed gds limit ts e
    gd_exp_failed eq e r =
        subst (λ l. Failed gds limit l e) (sym at)
        (second_failed gds t.Bar (ended guard_lists t.Equals) (narrowed exps ends_guarded) make_gd 0 (omega arith)
        is_bar gd_makes starts_exp gd_follows refl limit (within_zero limit) limit (sym (lowered_none limit)) next p
        rest m (ended_took guard_lists limit t.Equals equals_end next p here rest m acc eq) e
        (narrowed_failed exps ends_guarded guarded_quiet limit rest e r))

    pub gd_took : here ≡ t.Equals ∷ rest → (x : ExpTree) (after : Ts) (n : ℕ) → Took exps limit rest x after n →
        Took gds limit ts (make_gd (p, x)) after (max m n)
    gd_took eq x after n q =
        let same : max m n + 0 ≡ max m n = omega arith in
        subst (λ l. Took gds limit l (make_gd (p, x)) after (max m n)) (sym at)
        (subst (Took gds limit (t.Bar ∷ next) (make_gd (p, x)) after) same
        (both_took gds t.Bar (ended guard_lists t.Equals) (narrowed exps ends_guarded) make_gd 0 (omega arith)
        is_bar gd_makes starts_exp gd_follows refl limit (within_zero limit) limit (sym (lowered_none limit)) next p
        rest m (ended_took guard_lists limit t.Equals equals_end next p here rest m acc eq) x after n
        (narrowed_took exps ends_guarded guarded_quiet limit rest x after n q)))

    pub gda_exp_failed : here ≡ t.Arrow ∷ rest → guards_fit p ≡ true → (e : Fault) → Failed exps limit rest e →
        Failed gdas limit ts e
    gda_exp_failed eq fit e r =
        subst (λ l. Failed gdas limit l e) (sym at)
        (second_failed gdas t.Bar (ended_if guard_lists guards_fit t.Arrow) (narrowed exps ends_guarded) make_gda 0
        (omega arith) is_bar gda_makes starts_exp gda_follows refl limit (within_zero limit) limit
        (sym (lowered_none limit)) next p rest m
        (ended_if_took guard_lists guards_fit t.Arrow arrow_ends limit next p here rest m acc eq fit) e
        (narrowed_failed exps ends_guarded guarded_quiet limit rest e r))

    pub gda_took : here ≡ t.Arrow ∷ rest → guards_fit p ≡ true → (x : ExpTree) (after : Ts) (n : ℕ) →
        Took exps limit rest x after n → Took gdas limit ts (make_gda (p, x)) after (max m n)
    gda_took eq fit x after n q =
        let same : max m n + 0 ≡ max m n = omega arith in
        subst (λ l. Took gdas limit l (make_gda (p, x)) after (max m n)) (sym at)
        (subst (Took gdas limit (t.Bar ∷ next) (make_gda (p, x)) after) same
        (both_took gdas t.Bar (ended_if guard_lists guards_fit t.Arrow) (narrowed exps ends_guarded) make_gda 0
        (omega arith) is_bar gda_makes starts_exp gda_follows refl limit (within_zero limit) limit
        (sym (lowered_none limit)) next p rest m
        (ended_if_took guard_lists guards_fit t.Arrow arrow_ends limit next p here rest m acc eq fit) x after n
        (narrowed_took exps ends_guarded guarded_quiet limit rest x after n q)))

-- bodies, each known by its first token
module _ {P T : Type 0} (whole : Trees Terminal T) (part : Trees Terminal P) (make : P → T) (test : Terminal → Bool)
    (w : Makes whole part make 0 (begins test)) (limit : Option ℕ) (ts : Ts) (starts : begins test ts ≡ true) where
  body_took : (p : P) (rest : Ts) (m : ℕ) → Took part limit ts p rest m → Took whole limit ts (make p) rest m
  body_took p rest m acc =
      let same : m + 0 ≡ m = omega arith in
      subst (Took whole limit ts (make p) rest) same
      (made_took whole part make 0 (begins test) w limit (within_zero limit) ts p rest m
      (subst (λ l. Took part l ts p rest m) (sym (lowered_none limit)) acc) (omega (arith, acc.room)))

  body_failed : (e : Fault) → Failed part limit ts e → Failed whole limit ts e
  body_failed e r =
      made_failed whole part make 0 (begins test) w limit (within_zero limit) ts e (stays_first test ts starts)
      (subst (λ l. Failed part l ts e) (sym (lowered_none limit)) r)

module _ (limit : Option ℕ) (ts : Ts) where
  module _ (next : Ts) where
    pub equals_took : ts ≡ t.Equals ∷ next → (x : ExpTree) (rest : Ts) (m : ℕ) → Took exps limit next x rest m →
        Took rhs_bodies limit ts (rb.Equals x) rest m
    equals_took at x rest m acc =
        body_took rhs_bodies (behind_token t.Equals (narrowed exps ends_body)) (λ e. rb.Equals e) is_equals equals_makes
        limit ts (ap (begins is_equals) at) x rest m
        (behind_took (narrowed exps ends_body) limit t.Equals ts next x rest m at
        (narrowed_took exps ends_body body_quiet limit next x rest m acc))

    pub equals_failed : ts ≡ t.Equals ∷ next → (e : Fault) → Failed exps limit next e → Failed rhs_bodies limit ts e
    equals_failed at e r =
        body_failed rhs_bodies (behind_token t.Equals (narrowed exps ends_body)) (λ e. rb.Equals e) is_equals
        equals_makes limit ts (ap (begins is_equals) at) e
        (behind_failed (narrowed exps ends_body) limit t.Equals ts next e at
        (narrowed_failed exps ends_body body_quiet limit next e r))

    pub arrow_took : ts ≡ t.Arrow ∷ next → (x : ExpTree) (rest : Ts) (m : ℕ) → Took exps limit next x rest m →
        Took alt_bodies limit ts (ab.Arrow x) rest m
    arrow_took at x rest m acc =
        body_took alt_bodies (behind_token t.Arrow (narrowed exps ends_body)) (λ e. ab.Arrow e) is_arrow arrow_makes
        limit ts (ap (begins is_arrow) at) x rest m
        (behind_took (narrowed exps ends_body) limit t.Arrow ts next x rest m at
        (narrowed_took exps ends_body body_quiet limit next x rest m acc))

    pub arrow_failed : ts ≡ t.Arrow ∷ next → (e : Fault) → Failed exps limit next e → Failed alt_bodies limit ts e
    arrow_failed at e r =
        body_failed alt_bodies (behind_token t.Arrow (narrowed exps ends_body)) (λ e. ab.Arrow e) is_arrow arrow_makes
        limit ts (ap (begins is_arrow) at) e
        (behind_failed (narrowed exps ends_body) limit t.Arrow ts next e at
        (narrowed_failed exps ends_body body_quiet limit next e r))

  module _ (bar : begins is_bar ts ≡ true) where
    pub guarded_took : (p : GdTree × List GdTree) (rest : Ts) (m : ℕ) → Took gd_lists limit ts p rest m →
        Took rhs_bodies limit ts (rb.GuardedEquals p.0 p.1) rest m
    guarded_took p rest m acc =
        body_took rhs_bodies (narrowed gd_lists ends_body) (λ p. rb.GuardedEquals p.0 p.1) is_bar guarded_makes limit
        ts bar p rest m (narrowed_took gd_lists ends_body gds_quiet limit ts p rest m acc)

    pub guarded_failed : (e : Fault) → Failed gd_lists limit ts e → Failed rhs_bodies limit ts e
    guarded_failed e r =
        body_failed rhs_bodies (narrowed gd_lists ends_body) (λ p. rb.GuardedEquals p.0 p.1) is_bar guarded_makes limit
        ts bar e (narrowed_failed gd_lists ends_body gds_quiet limit ts e r)

    pub arrows_took : (p : GdaTree × List GdaTree) (rest : Ts) (m : ℕ) → Took gda_lists limit ts p rest m →
        Took alt_bodies limit ts (ab.GuardedArrows p.0 p.1) rest m
    arrows_took p rest m acc =
        body_took alt_bodies (narrowed gda_lists ends_body) (λ p. ab.GuardedArrows p.0 p.1) is_bar arrows_makes limit
        ts bar p rest m (narrowed_took gda_lists ends_body gdas_quiet limit ts p rest m acc)

    pub arrows_failed : (e : Fault) → Failed gda_lists limit ts e → Failed alt_bodies limit ts e
    arrows_failed e r =
        body_failed alt_bodies (narrowed gda_lists ends_body) (λ p. ab.GuardedArrows p.0 p.1) is_bar arrows_makes limit
        ts bar e (narrowed_failed gda_lists ends_body gdas_quiet limit ts e r)

  -- no body begins here
  pub rhs_none : begins is_equals ts ≡ false → begins is_bar ts ≡ false → Rejects (within rhs_bodies limit) ts
      (length ts)
  rhs_none no_equals no_bar = record {
    before = [];
    bad = ts;
    split = refl;
    left_is = refl;
    refuses = record {
      begun = (_, rb.Equals least_exp, least_rhs limit, refl);
      never = λ s other after same good quiet e.
          none s (begins_same is_equals ts s same ∙ no_equals) (begins_same is_bar ts s same ∙ no_bar)
          (ap (begins rhs_starter) e
          ∙ begins_append rhs_starter (spelling_rhs_body other) after (rhs_starts other));
    };
  }
    where
      none : (s : Ts) → begins is_equals s ≡ false → begins is_bar s ≡ false → begins rhs_starter s ≡ true → ⊥
      none [] a b c = true≢false (sym c)
      none (k ∷ s) a b c = true≢false (sym c ∙ ap (λ x. x || is_bar k) a ∙ b)

  pub alt_none : begins is_arrow ts ≡ false → begins is_bar ts ≡ false → Rejects (within alt_bodies limit) ts (length
      ts)
  alt_none no_arrow no_bar = record {
    before = [];
    bad = ts;
    split = refl;
    left_is = refl;
    refuses = record {
      begun = (_, ab.Arrow least_exp, least_alt limit, refl);
      never = λ s other after same good quiet e.
          none s (begins_same is_arrow ts s same ∙ no_arrow) (begins_same is_bar ts s same ∙ no_bar)
          (ap (begins alt_starter) e
          ∙ begins_append alt_starter (spelling_alt_body other) after (alt_body_starts other));
    };
  }
    where
      none : (s : Ts) → begins is_arrow s ≡ false → begins is_bar s ≡ false → begins alt_starter s ≡ true → ⊥
      none [] a b c = true≢false (sym c)
      none (k ∷ s) a b c = true≢false (sym c ∙ ap (λ x. x || is_bar k) a ∙ b)

-- right sides and alternatives
pub rhs_took : (limit : Option ℕ) (ts : Ts) (p : RhsBody × List DeclBlock) (rest : Ts) (m : ℕ) →
    Took rhs_parts limit ts p rest m → Took rhss limit ts (from_rhs p) rest m
rhs_took limit ts p rest m acc =
    let back = rhs_back p acc.reads.good.0 in
    embeds_took rhss (narrowed rhs_parts ends_item) into_rhs rhs_embeds limit ts (from_rhs p) rest m
    (subst (λ q. Took (narrowed rhs_parts ends_item) limit ts q rest m) (sym back)
    (narrowed_took rhs_parts ends_item rhs_parts_quiet limit ts p rest m acc))

pub rhs_failed : (limit : Option ℕ) (ts : Ts) (e : Fault) → Failed rhs_parts limit ts e → Failed rhss limit ts e
rhs_failed limit ts e r =
    embeds_failed rhss (narrowed rhs_parts ends_item) into_rhs rhs_embeds limit
    (λ p good. (from_rhs p, sym (rhs_back p good))) ts e
    (narrowed_failed rhs_parts ends_item rhs_parts_quiet limit ts e r)

module _ (limit : Option ℕ) (ts : Ts) where
  alt_whole_failed : (e : Fault) → Failed pat_alts limit ts e → Failed alts limit ts e
  alt_whole_failed e r =
      embeds_failed alts pat_alts into_alt alt_embeds limit (λ p good. (from_alt p, sym (alt_back p good))) ts e r

  pub alt_pat_failed : (e : Fault) → Failed pats limit ts e → Failed alts limit ts e
  alt_pat_failed e r =
      alt_whole_failed e (row_first pats (narrowed alt_parts ends_item) alt_starter alt_follows limit ts e r)

  module _ (x : PatTree) (here : Ts) (m : ℕ) (acc : Took pats limit ts x here m) where
    pub alt_parts_failed : (e : Fault) → Failed alt_parts limit here e → Failed alts limit ts e
    alt_parts_failed e r =
        alt_whole_failed e (row_second pats (narrowed alt_parts ends_item) alt_starter alt_follows limit ts x here m e
        acc (narrowed_failed alt_parts ends_item alt_parts_quiet limit here e r))

    pub alt_took : (p : AltBody × List DeclBlock) (rest : Ts) (n : ℕ) → Took alt_parts limit here p rest n →
        Took alts limit ts (from_alt (x, p)) rest (max m n)
    alt_took p rest n q =
        let whole = row_took pats (narrowed alt_parts ends_item) alt_starter alt_follows limit ts x here m p rest n acc
        (narrowed_took alt_parts ends_item alt_parts_quiet limit here p rest n q) in
        embeds_took alts pat_alts into_alt alt_embeds limit ts (from_alt (x, p)) rest (max m n)
        (subst (λ o. Took pat_alts limit ts o rest (max m n)) (sym (alt_back (x, p) whole.reads.good.0)) whole)

-- blocks of alternatives
pub items_end : (p : AltSlot × List AltSlot) → alt_items.extends p t.RightBrace ≡ false
items_end (h, []) = refl
items_end (h, x ∷ xs) = refl

pub block_took : (limit : Option ℕ) (ts : Ts) (p : AltSlot × List AltSlot) (here rest : Ts) (m : ℕ) →
    Took alt_items limit ts p here m → here ≡ t.RightBrace ∷ rest → Took alt_blocks limit ts (from_block p) rest m
block_took limit ts p here rest m acc at =
    embeds_took alt_blocks (ended alt_items t.RightBrace) into_block block_embeds limit ts (from_block p) rest m
    (subst (λ q. Took (ended alt_items t.RightBrace) limit ts q rest m) (sym (block_back p))
    (ended_took alt_items limit t.RightBrace items_end ts p here rest m acc at))

block_failed_by : (limit : Option ℕ) (ts : Ts) (e : Fault) → Failed (ended alt_items t.RightBrace) limit ts e →
    Failed alt_blocks limit ts e
block_failed_by limit ts e r =
    embeds_failed alt_blocks (ended alt_items t.RightBrace) into_block block_embeds limit
    (λ p good. (from_block p, sym (block_back p))) ts e r

pub block_failed : (limit : Option ℕ) (ts : Ts) (e : Fault) → Failed alt_items limit ts e → Failed alt_blocks limit ts e
block_failed limit ts e r = block_failed_by limit ts e (ended_failed alt_items limit t.RightBrace items_end ts e r)

pub block_missed : (limit : Option ℕ) (is_right_brace : Terminal → Bool) → is_right_brace t.RightBrace ≡ true →
    (ts : Ts) (p : AltSlot × List AltSlot) (here : Ts) (m : ℕ) → Took alt_items limit ts p here m →
    begins is_right_brace here ≡ false → Rejects (within alt_blocks limit) ts (length here)
block_missed limit is_right_brace is ts p here m acc missed =
    block_failed_by limit ts (At (length here)) (ended_missed alt_items limit t.RightBrace items_end is_right_brace is
    ts p here m acc missed)

-- no block begins here
pub items_none : (limit : Option ℕ) (ts : Ts) → begins is_left_brace ts ≡ false →
    Rejects (within alt_items limit) ts (length ts)
items_none limit ts off = record {
  before = [];
  bad = ts;
  split = refl;
  left_is = refl;
  refuses = record {
    begun = (_, (sl.NoAlt, []), least_items limit, refl);
    never = λ s other after same good quiet e.
        true≢false (sym (ap (begins is_left_brace) e) ∙ begins_same is_left_brace ts s same ∙ off);
  };
}
