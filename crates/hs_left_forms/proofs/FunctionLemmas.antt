-- The returns of the readers of the left sides of functions, over plain variables.
use Rattle.std.proofs.Common.{◌≡◌, ℕ, ◌+◌, true, false, [], ◌∷◌, ◌++◌, length, refl, sym, ap, ◌∙◌, subst}
use Rattle.std.proofs.Common.{arith, true≢false, inl, inr, ◌⊎◌}
use Rattle.std.specs.Prelude.{max, min, Option}
use Rattle.std.proofs.lemmas.Bool.{and_from}
use Rattle.hs_forms.specs.Reading.{begins, SameStart}
use Rattle.hs_forms.specs.Limits.{Within, lowered}
use Rattle.hs_forms.specs.Answers.{Accepts, Rejects, Fails}
use Rattle.hs_forms.specs.declared.fault.Fault.{Fault}
use Rattle.hs_forms.specs.declared.fault.Fault.TheVariants.{At, NoMemory}
use Rattle.hs_forms.proofs.FormLemmas.{begins_append, begins_same, same_start_append}
use Rattle.hs_forms.proofs.LimitLemmas.{within_less, or_left}
use Rattle.hs_tokens.specs.Terminals.{is_right_paren}
use Rattle.hs_tokens.specs.declared.terminal.Terminal.{Terminal}
use Rattle.hs_tokens.specs.declared.terminal.Terminal.TheVariants as t
use Rattle.hs_trees.specs.Kinds.{is_left_paren}
use Rattle.hs_trees.specs.Patterns.{Ts, spelling_apat, spelling_lpat, is_apat, is_lpat, depth_of_lpat, starts_apat}
use Rattle.hs_trees.specs.Patterns.{starts_lpat, starts_pat, APats}
use Rattle.hs_trees.specs.declared.patterns.VarTree.{VarTree}
use Rattle.hs_trees.specs.declared.patterns.VarTree.TheVariants as v
use Rattle.hs_trees.specs.declared.patterns.APatTree.TheVariants as a
use Rattle.hs_trees.specs.declared.patterns.LPatTree.{LPatTree, LPatTree-F}
use Rattle.hs_trees.specs.declared.patterns.LPatTree.TheVariants as lp
use Rattle.hs_trees.proofs.PatternLayerLemmas.{apat_starts, lpat_starts, lpat_is, lpat_deep}
use Rattle.hs_trees.proofs.PatternCaseLemmas.{var_is, var_deep}
use Rattle.hs_modules.specs.Words.{varop_tokens}
use Rattle.hs_modules.specs.declared.names.VarOpTree.{VarOpTree}
use Rattle.hs_modules.specs.declared.names.VarOpTree.TheVariants as o
use Rattle.hs_modules.specs.declared.expressions.FunLhsTree.{FunLhsTree}
use Rattle.hs_headers.specs.Names.{var_form}
use Rattle.hs_expression_forms.specs.Trees.{Trees, within, Took, Failed, ended, behind_token, Follows, Makes}
use Rattle.hs_expression_forms.specs.Expressions.{apats}
use Rattle.hs_expression_forms.proofs.TreesLemmas.{row_took, row_first, row_second, ended_took, ended_failed}
use Rattle.hs_expression_forms.proofs.TreesLemmas.{ended_missed, behind_made, behind_made_failed, stays_first}
use Rattle.hs_declaration_forms.specs.Typings.{vars}
use Rattle.hs_declaration_forms.proofs.FlatLemmas.{flat_took, flat_failed}
use Rattle.hs_declaration_forms.proofs.ListLemmas.{var_flat}
use Rattle.hs_declaration_forms.proofs.MergeLemmas.{Merges, Apart, Side, of_one, of_two, merged_one, merged_two}
use Rattle.hs_declaration_forms.proofs.MergeLemmas.{merged_fails, wider_took, wider_failed}
use Rattle.hs_left_forms.specs.Lefts.{lpat_goes, left_goes, starts_varop, varop_form, varops, lpats, together}
use Rattle.hs_left_forms.specs.Lefts.{on_the_left}
use Rattle.hs_left_forms.specs.Lefts.{PrefixParts, InfixParts, WrappedParts, prefix_rows, prefixes, infix_rows, infixes}
use Rattle.hs_left_forms.specs.Lefts.{wrapped_rows, wrapped, bracketed, bare, functions}
use Rattle.hs_left_forms.proofs.LayerLemmas.{make_prefix, make_infix, make_wrapped, make_bare, functions_merge}
use Rattle.hs_left_forms.proofs.VarOpLemmas.{varop_flat}
use Rattle.hs_left_forms.proofs.ApartLemmas.{prefix_no_infix, prefix_no_wrapped, infix_no_wrapped, no_pattern}
use Rattle.hs_left_forms.proofs.ApartLemmas.{brackets_no_lpat, wrapped_split}
use Rattle.hs_forms.proofs.UnionLemmas.{splits}
use Rattle.hs_modules.specs.Formed.{is_fun_lhs}
use Rattle.hs_forms.proofs.LimitLemmas.{and_left}
use Rattle.hs_trees.specs.Patterns.{spelling_apats}
use Rattle.std.proofs.Common.{append_assoc, length-append, ◌≤◌}
use Rattle.hs_left_forms.specs.Lefts.{behinds, later}

-- what may follow what
args_start : (p : APats) → begins starts_apat (apats.tokens p) ≡ true
args_start p = begins_append starts_apat (spelling_apat p.0) _ (apat_starts p.0)

-- least arguments
abbrev least_args : APats
least_args = (a.Var (v.Id []), [])

-- arguments behind a name
name_follows : Follows vars apats starts_apat
name_follows = record {
  starts = args_start;
  apart = λ x k h. refl;
  least = least_args;
  least_formed = and_from (is_apat (a.Var (v.Id []))) true (var_is (v.Id [])) refl;
  least_deep = omega (arith, var_deep (v.Id []));
}

-- arguments behind brackets
brackets_follow : Follows bracketed apats starts_apat
brackets_follow = record {
  starts = args_start;
  apart = λ x k h. refl;
  least = least_args;
  least_formed = and_from (is_apat (a.Var (v.Id []))) true (var_is (v.Id [])) refl;
  least_deep = omega (arith, var_deep (v.Id []));
}

-- what begins as a pattern begins with the first token of an `lpat`
pat_opens : (ts : Ts) → starts_pat ts ≡ true → begins starts_lpat ts ≡ true
pat_opens [] h = h
pat_opens (t.VarSym n ∷ []) h = absurd (true≢false (sym h))
pat_opens (t.VarSym n ∷ t.Integer m ∷ ts) h = h
pat_opens (t.VarSym n ∷ k ∷ ts) h = absurd (true≢false (sym h))
pat_opens (t.Var n ∷ ts) h = refl
pat_opens (t.Con n ∷ ts) h = refl
pat_opens (t.Integer n ∷ ts) h = refl
pat_opens (t.Char n ∷ ts) h = refl
pat_opens (t.Text n ∷ ts) h = refl
pat_opens (t.LeftParen ∷ ts) h = refl
pat_opens (t.LeftBracket ∷ ts) h = refl
pat_opens (t.Underscore ∷ ts) h = refl
pat_opens (t.Tilde ∷ ts) h = refl
pat_opens (_ ∷ ts) h = absurd (true≢false (sym h))

-- a least operand is well formed
negative_is : is_lpat (lp.Negative []) ≡ true
negative_is = ap is_lpat (sym (lp.rolls-Negative [])) ∙ lpat_is (LPatTree-F.Negative [])

-- a least operand has no depth
negative_deep : depth_of_lpat (lp.Negative []) ≡ 0
negative_deep = ap depth_of_lpat (sym (lp.rolls-Negative [])) ∙ lpat_deep (LPatTree-F.Negative [])

-- an operand behind an operator
operand_follows : Follows varops lpats starts_lpat
operand_follows = record {
  starts = λ y. pat_opens (spelling_lpat y) (lpat_starts y);
  apart = λ x k h. refl;
  least = lp.Negative [];
  least_formed = negative_is;
  least_deep = negative_deep;
}

-- the first token of a variable operator
varop_first : (x : VarOpTree) (s : Ts) → begins starts_varop (varop_tokens x ++ s) ≡ true
varop_first (o.Sym n) s = refl
varop_first (o.Quoted n) s = refl

-- no `lpat` goes on with a variable operator
varop_stops : (k : Terminal) → starts_varop k ≡ true → lpat_goes k ≡ false
varop_stops (t.VarSym n) h = refl
varop_stops t.Backquote h = refl
varop_stops _ h = absurd (true≢false (sym h))

-- an operator behind an operand
operator_follows : Follows lpats behinds starts_varop
operator_follows = record {
  starts = λ y. varop_first y.0 (spelling_lpat y.1);
  apart = λ x k h. varop_stops k h;
  least = (o.Sym [], lp.Negative []);
  least_formed = negative_is;
  least_deep = omega (arith, negative_deep);
}

-- the same trees, which go on with more tokens
args_quiet : (k : Terminal) → left_goes k ≡ false → lpat_goes k ≡ false
args_quiet k e = or_left (lpat_goes k) _ e

module _ {T : Type 0} (rows : Trees Terminal T) (goes : (x : T) (k : Terminal) → rows.extends x k ≡ lpat_goes k)
    (limit : Option ℕ) (ts : Ts) where
  -- such a row was read, as a left side
  left_took : (x : T) (rest : Ts) (m : ℕ) → Took rows limit ts x rest m → Took (on_the_left rows) limit ts x rest m
  left_took x rest m acc =
      wider_took rows (on_the_left rows) (λ x. refl) (λ x. refl) (λ x. refl) (λ x k e. goes x k ∙ args_quiet k e) limit
      ts x rest m acc

  -- no such row stands here, as a left side
  left_failed : (e : Fault) → Failed rows limit ts e → Failed (on_the_left rows) limit ts e
  left_failed e r =
      wider_failed rows (on_the_left rows) (λ x. refl) (λ x. refl) (λ x. refl) (λ x k e. goes x k ∙ args_quiet k e)
      limit ts e r

-- a name and its arguments
module _ (limit : Option ℕ) (ts : Ts) where
  pub name_failed : (e : Fault) → Fails var_form ts e → Failed prefixes limit ts e
  name_failed e r =
      left_failed prefix_rows (λ x k. refl) limit ts e
      (row_first vars apats starts_apat name_follows limit ts e (flat_failed var_form vars var_flat limit ts e r))

  module _ (x : VarTree) (here : Ts) (m : ℕ) (acc : Accepts var_form (λ x. 0) ts x here m) where
    pub named_failed : (e : Fault) → Failed apats limit here e → Failed prefixes limit ts e
    named_failed e r =
        left_failed prefix_rows (λ x k. refl) limit ts e
        (row_second vars apats starts_apat name_follows limit ts x here m e
        (flat_took var_form vars var_flat limit ts x here m acc) r)

    pub prefix_took : (p : APats) (rest : Ts) (n : ℕ) → Took apats limit here p rest n →
        Took prefixes limit ts (x, p) rest n
    prefix_took p rest n q =
        let same : max m n ≡ n = omega (arith, acc.measured_is) in
        subst (Took prefixes limit ts (x, p) rest) same
        (left_took prefix_rows (λ x k. refl) limit ts (x, p) rest (max m n)
        (row_took vars apats starts_apat name_follows limit ts x here m p rest n
        (flat_took var_form vars var_flat limit ts x here m acc) q))

-- an operator and an operand behind it
module _ (limit : Option ℕ) (ts : Ts) where
  pub operator_failed : (e : Fault) → Fails varop_form ts e → Failed behinds limit ts e
  operator_failed e r =
      row_first varops lpats starts_lpat operand_follows limit ts e
      (flat_failed varop_form varops varop_flat limit ts e r)

  module _ (op : VarOpTree) (next : Ts) (n : ℕ) (acc : Accepts varop_form (λ x. 0) ts op next n) where
    pub right_operand_failed : (e : Fault) → Failed lpats limit next e → Failed behinds limit ts e
    right_operand_failed e r =
        row_second varops lpats starts_lpat operand_follows limit ts op next n e
        (flat_took varop_form varops varop_flat limit ts op next n acc) r

    pub behind_took : (y : LPatTree) (rest : Ts) (d : ℕ) → Took lpats limit next y rest d →
        Took behinds limit ts (op, y) rest d
    behind_took y rest d q =
        let same : max n d ≡ d = omega (arith, acc.measured_is) in
        subst (Took behinds limit ts (op, y) rest) same
        (row_took varops lpats starts_lpat operand_follows limit ts op next n y rest d
        (flat_took varop_form varops varop_flat limit ts op next n acc) q)

-- both behind the first operand
module _ (limit : Option ℕ) (ts : Ts) where
  operand_failed : (e : Fault) → Failed lpats limit ts e → Failed infixes limit ts e
  operand_failed e r =
      left_failed infix_rows (λ x k. refl) limit ts e
      (row_first lpats behinds starts_varop operator_follows limit ts e r)

  module _ (x : LPatTree) (here : Ts) (m : ℕ) (acc : Took lpats limit ts x here m) where
    infix_failed : (e : Fault) → Failed behinds limit here e → Failed infixes limit ts e
    infix_failed e r =
        left_failed infix_rows (λ x k. refl) limit ts e
        (row_second lpats behinds starts_varop operator_follows limit ts x here m e acc r)

    infix_took : (y : VarOpTree × LPatTree) (rest : Ts) (d : ℕ) → Took behinds limit here y rest d →
        Took infixes limit ts (x, y) rest (max m d)
    infix_took y rest d q =
        left_took infix_rows (λ x k. refl) limit ts (x, y) rest (max m d)
        (row_took lpats behinds starts_varop operator_follows limit ts x here m y rest d acc q)

-- a left side in brackets
bracketed_makes : Makes bracketed (behind_token t.LeftParen (ended functions t.RightParen)) (λ x. x) 1
    (begins is_left_paren)
bracketed_makes = record {
  spelled = λ x. refl;
  formed = λ x. refl;
  deep = λ x. refl;
  extends = λ x k e. refl;
  starts = λ x after h. refl;
  only = λ x after h e. (x, refl);
}

module _ (limit : Option ℕ) (room : Within limit 1) (b : Option ℕ) (low : b ≡ lowered limit 1) (next : Ts) where
  ended_fails : (e : Fault) → Failed (ended functions t.RightParen) b next e →
      Failed bracketed limit (t.LeftParen ∷ next) e
  ended_fails e r =
      behind_made_failed bracketed t.LeftParen (ended functions t.RightParen) (λ x. x) 1 (begins is_left_paren)
      bracketed_makes limit room (t.LeftParen ∷ next) next e (stays_first is_left_paren (t.LeftParen ∷ next) refl) refl
      (subst (λ l. Failed (ended functions t.RightParen) l next e) low r)

  -- no left side stands behind the bracket
  pub inner_failed : (e : Fault) → Failed functions b next e → Failed bracketed limit (t.LeftParen ∷ next) e
  inner_failed e r = ended_fails e (ended_failed functions b t.RightParen (λ x. refl) next e r)

  module _ (x : FunLhsTree) (here : Ts) (m : ℕ) (acc : Took functions b next x here m) where
    pub bracket_missed : begins is_right_paren here ≡ false →
        Rejects (within bracketed limit) (t.LeftParen ∷ next) (length here)
    bracket_missed missed =
        ended_fails (At (length here))
        (ended_missed functions b t.RightParen (λ x. refl) is_right_paren refl next x here m acc missed)

    pub bracketed_took : (rest : Ts) → here ≡ t.RightParen ∷ rest →
        Took bracketed limit (t.LeftParen ∷ next) x rest (m + 1)
    bracketed_took rest at =
        behind_made bracketed t.LeftParen (ended functions t.RightParen) (λ x. x) 1 (begins is_left_paren)
        bracketed_makes limit room (omega arith) (t.LeftParen ∷ next) next x rest m refl
        (subst (λ l. Took (ended functions t.RightParen) l next x rest m) low
        (ended_took functions b t.RightParen (λ x. refl) next x here rest m acc at))

-- and its arguments
module _ (limit : Option ℕ) (ts : Ts) where
  pub brackets_failed : (e : Fault) → Failed bracketed limit ts e → Failed wrapped limit ts e
  brackets_failed e r =
      left_failed wrapped_rows (λ x k. refl) limit ts e
      (row_first bracketed apats starts_apat brackets_follow limit ts e r)

  module _ (x : FunLhsTree) (here : Ts) (m : ℕ) (acc : Took bracketed limit ts x here m) where
    pub wrapped_failed : (e : Fault) → Failed apats limit here e → Failed wrapped limit ts e
    wrapped_failed e r =
        left_failed wrapped_rows (λ x k. refl) limit ts e
        (row_second bracketed apats starts_apat brackets_follow limit ts x here m e acc r)

    pub wrapped_took : (p : APats) (rest : Ts) (n : ℕ) → Took apats limit here p rest n →
        Took wrapped limit ts (x, p) rest (max m n)
    wrapped_took p rest n q =
        left_took wrapped_rows (λ x k. refl) limit ts (x, p) rest (max m n)
        (row_took bracketed apats starts_apat brackets_follow limit ts x here m p rest n acc q)

-- of two splits of one list the one with the shorter end has the longer front
longer : (before bad front here : Ts) → before ++ bad ≡ front ++ here → length bad ≤ length here →
    (more : Ts) × (before ≡ front ++ more)
longer before bad front here e le =
    let cut = splits before bad front here e
    (omega (arith, ap length e, length-append before bad, length-append front here, le)) in
    (cut.0, cut.1)

-- the three as left sides of functions
pub together_merges : {K A B : Type 0} (one : Trees K A) (two : Trees K B) → Merges one two (together one two) inl inr
together_merges {K} {A} {B} one two = record {
  tokens_one = λ x. refl;
  tokens_two = λ x. refl;
  formed_one = λ x h. h;
  formed_two = λ x h. h;
  deep_one = λ x. refl;
  deep_two = λ x. refl;
  extends_one = λ x k e. e;
  extends_two = λ x k e. e;
  cases = cases;
}
  where
    cases : (x : A ⊎ B) → (together one two).formed x ≡ true → Side one two inl inr x
    cases (inl x) h = of_one x refl h
    cases (inr x) h = of_two x refl h

-- what is read as a name with arguments is no operator between operands
prefix_apart : (p : PrefixParts) (rest : Ts) → Apart prefixes infixes p rest
prefix_apart p rest s h after same good quiet e = prefix_no_infix p h s after good e

-- what is read without brackets is no left side in brackets
bare_apart : (p : PrefixParts ⊎ InfixParts) (rest : Ts) → bare.formed p ≡ true → Apart bare wrapped p rest
bare_apart (inl p) rest is s h after same good quiet e = prefix_no_wrapped p h s after e
bare_apart (inr p) rest is s h after same good quiet e = infix_no_wrapped p h s after is good e

-- what is read in brackets is no left side without them
wrapped_apart : (p : WrappedParts) (rest : Ts) → wrapped.formed p ≡ true → Apart wrapped bare p rest
wrapped_apart p rest is s (inl h) after same good quiet e = prefix_no_wrapped h p after s (sym e)
wrapped_apart p rest is s (inr h) after same good quiet e = infix_no_wrapped h p after s good is (sym e)

module _ (limit : Option ℕ) (ts : Ts) where
  pub function_prefix : (p : PrefixParts) (rest : Ts) (m : ℕ) → Took prefixes limit ts p rest m →
      Took functions limit ts (make_prefix p) rest m
  function_prefix p rest m acc =
      merged_one bare wrapped functions make_bare make_wrapped functions_merge limit ts (inl p) rest m
      (merged_one prefixes infixes bare inl inr (together_merges prefixes infixes) limit ts p rest m acc
      (prefix_apart p rest)) (bare_apart (inl p) rest acc.reads.good.0)

  -- an operand, an operator and an operand as the left side of a function
  pub function_infix : (x : LPatTree) (here : Ts) (m : ℕ) → Took lpats limit ts x here m →
      (y : VarOpTree × LPatTree) (rest : Ts) (d : ℕ) → Took behinds limit here y rest d →
      Took functions limit ts (make_infix (x, y)) rest (max m d)
  function_infix x here m acc y rest d q =
      let whole = infix_took limit ts x here m acc y rest d q in
      let good = whole.reads.good.0 in
      merged_one bare wrapped functions make_bare make_wrapped functions_merge limit ts (inr (x, y)) rest (max m d)
      (merged_two prefixes infixes bare inl inr (together_merges prefixes infixes) limit ts (x, y) rest (max m d) whole
      (λ s h after same g quiet e. prefix_no_infix h (x, y) after s good (sym e)))
      (bare_apart (inr (x, y)) rest good)

  -- brackets with arguments as the left side of a function
  pub function_wrapped : (p : WrappedParts) (rest : Ts) (m : ℕ) → Took wrapped limit ts p rest m →
      Took functions limit ts (make_wrapped p) rest m
  function_wrapped p rest m acc =
      merged_two bare wrapped functions make_bare make_wrapped functions_merge limit ts p rest m acc
      (wrapped_apart p rest acc.reads.good.0)

  -- neither a name with arguments nor an operator between operands stands here
  bare_fails : (l n : ℕ) → Rejects (within prefixes limit) ts l → Rejects (within infixes limit) ts n →
      Rejects (within bare limit) ts (min l n)
  bare_fails l n r q = merged_fails prefixes infixes bare inl inr (together_merges prefixes infixes) limit ts l n r q

  -- no operand stands here
  pub operand_fails : (l n : ℕ) → Rejects (within prefixes limit) ts l → Rejects (within lpats limit) ts n →
      Rejects (within bare limit) ts (min l n)
  operand_fails l n r q = bare_fails l n r (operand_failed limit ts (At n) q)

  -- neither of these stands here, nor brackets with arguments
  function_fails : (l n : ℕ) → Rejects (within bare limit) ts l → Rejects (within wrapped limit) ts n →
      Rejects (within functions limit) ts (min l n)
  function_fails l n r q =
      merged_fails bare wrapped functions make_bare make_wrapped functions_merge limit ts l n r q

  -- no left side in brackets goes on where the others are refused
  only_bare : (l : ℕ) (r : Rejects (within bare limit) ts l) →
      ((s : Ts) (p : WrappedParts) (after : Ts) → SameStart r.bad s → (within wrapped limit).Good p →
      r.before ++ s ≡ wrapped.tokens p ++ after → ⊥) → Rejects (within functions limit) ts l
  only_bare l r none = record {
    before = r.before;
    bad = r.bad;
    split = r.split;
    left_is = r.left_is;
    refuses = record {
      begun = (
        r.refuses.begun.0,
        make_bare r.refuses.begun.1,
        (
          functions_merge.formed_one r.refuses.begun.1 r.refuses.begun.2.0,
          subst (Within limit) (sym (functions_merge.deep_one r.refuses.begun.1)) r.refuses.begun.2.1,
        ),
        r.refuses.begun.3 ∙ sym (functions_merge.tokens_one r.refuses.begun.1),
      );
      never = λ s other after same good quiet e.
          by s other after same good quiet e (functions_merge.cases other good.0);
    };
  }
    where
      by : (s : Ts) (other : FunLhsTree) (after : Ts) → SameStart r.bad s → (within functions limit).Good other →
          begins left_goes after ≡ false → r.before ++ s ≡ functions.tokens other ++ after →
          Side bare wrapped make_bare make_wrapped other → ⊥
      by s other after same good quiet e (of_one p is h) =
          r.refuses.never s p after same
          (h, subst (Within limit) (ap functions.deep is ∙ functions_merge.deep_one p) good.1)
          (bare_quiet p after quiet)
          (e ∙ ap (λ x. functions.tokens x ++ after) is ∙ ap (λ l. l ++ after) (functions_merge.tokens_one p))
        where
          bare_quiet : (p : PrefixParts ⊎ InfixParts) (after : Ts) → begins left_goes after ≡ false →
              begins (bare.extends p) after ≡ false
          bare_quiet (inl p) after q = q
          bare_quiet (inr p) after q = q
      by s other after same good quiet e (of_two p is h) =
          none s p after same (h, subst (Within limit) (ap functions.deep is ∙ functions_merge.deep_two p) good.1)
          (e ∙ ap (λ x. functions.tokens x ++ after) is ∙ ap (λ l. l ++ after) (functions_merge.tokens_two p))

  -- no bracket stands here
  pub no_bracket : (l : ℕ) → begins is_left_paren ts ≡ false → Rejects (within bare limit) ts l →
      Rejects (within functions limit) ts l
  no_bracket l ends r =
      only_bare l r
      (λ s p after same good e.
      true≢false (sym (ap (begins is_left_paren) e)
      ∙ begins_same is_left_paren (r.before ++ r.bad) (r.before ++ s) (same_start_append r.before r.bad s same)
      ∙ ap (begins is_left_paren) (sym r.split) ∙ ends))

  -- no depth is left for brackets
  pub no_room : (l : ℕ) → (Within limit 1 → ⊥) → Rejects (within bare limit) ts l →
      Rejects (within functions limit) ts l
  no_room l over r =
      only_bare l r (λ s p after same good e. over (within_less limit 1 (wrapped.deep p) (omega arith) good.1))

  -- An operand stands here, and no operator with an operand behind it. A left side in brackets begins with no operand.
  behind_fails : (x : LPatTree) (here : Ts) (m : ℕ) → Took lpats limit ts x here m → (l n : ℕ) →
      Rejects (within prefixes limit) ts l → Rejects (within behinds limit) here n →
      Rejects (within functions limit) ts (min l n)
  behind_fails x here m acc l n r q =
      let both = bare_fails l n r (infix_failed limit ts x here m acc (At n) q) in
      let short : length both.bad ≤ length here =
      omega (arith, both.left_is, q.left_is, ap length q.split, length-append q.before q.bad) in
      let cut = longer both.before both.bad (spelling_lpat x) here (sym both.split ∙ acc.spelled) short in
      only_bare (min l n) both
      (λ s p after same good e.
      brackets_no_lpat p.0 (no_pattern p.0 (and_left (is_fun_lhs p.0) _ good.0)) (spelling_apats p.1 ++ after) x
      (cut.0 ++ s) acc.reads.good.0
      (sym (wrapped_split p after) ∙ sym e ∙ ap (λ k. k ++ s) cut.1 ∙ append_assoc (spelling_lpat x) cut.0 s))

  -- the same of any failure
  pub behind_failed : (x : LPatTree) (here : Ts) (m : ℕ) → Took lpats limit ts x here m → (l : ℕ) →
      Rejects (within prefixes limit) ts l → (e : Fault) → Failed behinds limit here e →
      Failed functions limit ts (later l e)
  behind_failed x here m acc l r (At n) q = behind_fails x here m acc l n r q
  behind_failed x here m acc l r NoMemory q = tt

-- behind the bracket that opens it
module _ (limit : Option ℕ) (ts next : Ts) (at : ts ≡ t.LeftParen ∷ next) where
  pub function_bracketed : (p : WrappedParts) (rest : Ts) (m : ℕ) → Took wrapped limit (t.LeftParen ∷ next) p rest m →
      Took functions limit ts (make_wrapped p) rest m
  function_bracketed p rest m acc =
      function_wrapped limit ts p rest m (subst (λ l. Took wrapped limit l p rest m) (sym at) acc)

  -- no brackets with arguments stand here either
  pub brackets_fail : (l : ℕ) → Rejects (within bare limit) ts l → (e : Fault) →
      Failed wrapped limit (t.LeftParen ∷ next) e → Failed functions limit ts (later l e)
  brackets_fail l r (At n) q =
      function_fails limit ts l n r (subst (λ l. Rejects (within wrapped limit) l n) (sym at) q)
  brackets_fail l r NoMemory q = tt
