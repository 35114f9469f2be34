-- Expressions and the fronts of left sections, from chains.
use Rattle.std.proofs.Common.{◌≡◌, ℕ, ◌+◌, Bool, true, false, [], ◌∷◌, ◌++◌, length, refl}
use Rattle.std.proofs.Common.{sym, ap, ◌∙◌, subst, true≢false, arith, append_assoc}
use Rattle.std.specs.Prelude.{max, not, ◌&&◌, Option, Some, None}
use Rattle.std.proofs.lemmas.Bool.{and_from, not-true, not_from_false}
use Rattle.std.proofs.lemmas.List.{append-nil}
use Rattle.hs_forms.specs.Reading.{SameStart, begins, Refuses}
use Rattle.hs_forms.specs.Limits.{Within, lowered}
use Rattle.hs_forms.specs.Answers.{Rejects}
use Rattle.hs_forms.specs.declared.fault.Fault.{Fault}
use Rattle.hs_forms.proofs.FormLemmas.{begins_within, begins_same, same_start_append, uncons}
use Rattle.hs_forms.proofs.LimitLemmas.{within_less, within_raised, within_lowered, within_max, and_left, and_right}
use Rattle.hs_forms.proofs.LimitLemmas.{or_left, or_right}
use Rattle.hs_forms.proofs.StateLemmas.{fails_after}
use Rattle.hs_tokens.specs.declared.terminal.Terminal.TheVariants as t
use Rattle.hs_trees.specs.Types.{spelling_type, is_type, depth_of_type}
use Rattle.hs_trees.specs.Patterns.{Ts}
use Rattle.hs_trees.specs.declared.types.TypeTree.{TypeTree}
use Rattle.hs_modules.specs.Extents.{depth_of}
use Rattle.hs_modules.specs.ExpressionExtents.{extent_algebra}
use Rattle.hs_modules.specs.Tokens.{token_algebra, spelling_exp, spelling_infix}
use Rattle.hs_modules.specs.Formed.{Facts, fact_algebra, good_of, facts_of_exp, facts_of_infix}
use Rattle.hs_modules.specs.declared.names.QOpTree.{QOpTree}
use Rattle.hs_modules.specs.declared.expressions.ExpTree.{ExpTree, ExpTree-F, out-ExpTree, roll-ExpTree}
use Rattle.hs_modules.specs.declared.expressions.ExpTree.{roll-out-ExpTree}
use Rattle.hs_modules.specs.declared.expressions.ExpTree.TheVariants as v
use Rattle.hs_modules.specs.declared.expressions.InfixTree.{InfixTree}
use Rattle.hs_modules.proofs.FoldingLemmas.{ExpTrees, exp_folded}
use Rattle.hs_modules.proofs.PartDepthLemmas.{type_depth_is}
use Rattle.hs_expression_forms.specs.declared.front.Front.{Front}
use Rattle.hs_expression_forms.specs.declared.front.Front.TheVariants as fr
use Rattle.hs_expression_forms.specs.Trees.{within, Took, Failed, Embeds}
use Rattle.hs_expression_forms.specs.Expressions.{is_infix, depth_of_infix, is_exp, depth_of_exp, goes_on}
use Rattle.hs_expression_forms.specs.Expressions.{exps, infixes}
use Rattle.hs_expression_forms.specs.Expressions.{types, is_double_colon, exp_goes_on, infix_goes_on, starts_aexp}
use Rattle.hs_expression_forms.specs.Expressions.{starts_qop}
use Rattle.hs_expression_forms.specs.Links.{Links, links}
use Rattle.hs_expression_forms.specs.Fronts.{front_tokens, front_deep, front_goes_on, fronts}
use Rattle.hs_expression_forms.proofs.StarterLemmas.{goes_on_fewer, type_quiet}

pub plain_spelled : (x : InfixTree) → spelling_exp (v.Infix x) ≡ spelling_infix x
unfolding token_algebra
plain_spelled x = ap spelling_exp (sym (v.rolls-Infix x)) ∙ exp_folded token_algebra (ExpTree-F.Infix x)

pub plain_facts : (x : InfixTree) → facts_of_exp (v.Infix x) ≡ facts_of_infix x
unfolding fact_algebra
plain_facts x = ap facts_of_exp (sym (v.rolls-Infix x)) ∙ exp_folded fact_algebra (ExpTree-F.Infix x)

pub plain_deep : (x : InfixTree) → depth_of_exp (v.Infix x) ≡ depth_of_infix x
unfolding extent_algebra
plain_deep x = ap (λ y. depth_of_exp y) (sym (v.rolls-Infix x)) ∙ ap depth_of (exp_folded extent_algebra
    (ExpTree-F.Infix x))

pub typed_spelled : (x : InfixTree) (ty : TypeTree) →
    spelling_exp (v.Annotated x ty) ≡ spelling_infix x ++ t.DoubleColon ∷ spelling_type ty
unfolding token_algebra
typed_spelled x ty =
    ap spelling_exp (sym (v.rolls-Annotated x ty)) ∙ exp_folded token_algebra (ExpTree-F.Annotated x ty)

pub typed_facts : (x : InfixTree) (ty : TypeTree) → facts_of_exp (v.Annotated x ty) ≡ record {
  good = (is_infix x && not (facts_of_infix x).is_open) && is_type ty;
  is_open = false;
  ends_in_type = true;
}
unfolding fact_algebra
typed_facts x ty = ap facts_of_exp (sym (v.rolls-Annotated x ty)) ∙ exp_folded fact_algebra (ExpTree-F.Annotated x ty)

pub typed_deep : (x : InfixTree) (ty : TypeTree) →
    depth_of_exp (v.Annotated x ty) ≡ max (depth_of_infix x) (depth_of_type ty) + 1
unfolding extent_algebra
typed_deep x ty =
    ap (λ y. depth_of_exp y) (sym (v.rolls-Annotated x ty))
    ∙ ap depth_of (exp_folded extent_algebra (ExpTree-F.Annotated x ty))
    ∙ ap (λ n. max (depth_of_infix x) n + 1) (type_depth_is ty)

pub data ExpCase (e : ExpTree) : Type 0 where
  is_plain : (x : InfixTree) → e ≡ v.Infix x → ExpCase e
  is_typed : (x : InfixTree) (ty : TypeTree) → e ≡ v.Annotated x ty → ExpCase e

exp_layer : (l : ExpTrees) → ExpCase (roll-ExpTree l)
exp_layer (ExpTree-F.Infix x) = is_plain x (v.rolls-Infix x)
exp_layer (ExpTree-F.Annotated x ty) = is_typed x ty (v.rolls-Annotated x ty)

pub exp_case : (e : ExpTree) → ExpCase e
exp_case e = subst ExpCase (roll-out-ExpTree e) (exp_layer (out-ExpTree e))

pub infix_one : (x y : InfixTree) → v.Infix x ≡ v.Infix y → x ≡ y
infix_one x y e = cc

-- the front that a chain is
abbrev pub front_of : Links → Front
front_of (x, None) = fr.Exp (v.Infix x)
front_of (x, Some op) = fr.Section x op

front_of_tokens : (lone : Bool) (l : Links) → front_tokens (front_of l) ≡ (links lone).tokens l
front_of_tokens lone (x, None) = plain_spelled x ∙ sym (append-nil (spelling_infix x))
front_of_tokens lone (x, Some op) = refl

pub front_of_good : (lone : Bool) (limit : Option ℕ) (l : Links) → (within (links lone) limit).Good l →
    (within (fronts lone) limit).Good (front_of l)
front_of_good lone limit (x, None) g = (ap good_of (plain_facts x) ∙ g.0, subst (Within limit) (sym (plain_deep x)) g.1)
front_of_good lone limit (x, Some op) g = g

-- A front is a chain, with a type behind it if it is annotated.
pub data FrontCase (lone : Bool) (limit : Option ℕ) (other : Front) (s after : Ts) : Type 0 where
  of_links : (l : Links) → other ≡ front_of l → (within (links lone) limit).Good l →
      begins ((links lone).extends l) after ≡ false →
      ((x : InfixTree) → l ≡ (x, None) → begins is_double_colon after ≡ false) →
      s ≡ (links lone).tokens l ++ after → FrontCase lone limit other s after
  of_typed : (x : InfixTree) (ty : TypeTree) → other ≡ fr.Exp (v.Annotated x ty) →
      (within (links lone) limit).Good (x, None) →
      (facts_of_infix x).is_open ≡ false → is_type ty ≡ true → Within limit (max (depth_of_infix x)
      (depth_of_type ty) + 1) →
      begins (types.extends ty) after ≡ false →
      s ≡ (links lone).tokens (x, None) ++ t.DoubleColon ∷ (spelling_type ty ++ after) →
      FrontCase lone limit other s after

module _ (lone : Bool) (limit : Option ℕ) where
  front_case : (other : Front) (s after : Ts) → (within (fronts lone) limit).Good other →
      begins (front_goes_on other) after ≡ false → s ≡ front_tokens other ++ after → FrontCase lone limit other s after
  front_case (fr.Section x op) s after good quiet e = of_links (x, Some op) refl good quiet (λ x is. absurd
      (some_none op (ap (λ (l : Links). l.1) is))) e
    where
      some_none : (op : QOpTree) → Some op ≡ None → ⊥
      some_none op h = cc
  front_case (fr.Exp x) s after good quiet e = by (exp_case x)
    where
      by : ExpCase x → FrontCase lone limit (fr.Exp x) s after
      by (is_plain c is) =
          of_links (c, None) (ap fr.Exp is) (
            sym (ap good_of (plain_facts c)) ∙ ap is_exp (sym is) ∙ good.0,
            subst (Within limit) (ap (λ y. depth_of_exp y) is ∙ plain_deep c) good.1,
          )
          (begins_within (exp_goes_on (facts_of_exp x)) (infix_goes_on (facts_of_infix c)) after
          (λ k h. goes_on_fewer true true (facts_of_exp x).ends_in_type true (facts_of_infix c).is_open
          (facts_of_infix c).ends_in_type k (λ h. refl) (λ h. refl)
          (λ h. ap (λ y. (facts_of_exp y).ends_in_type) is ∙ ap (λ (f : Facts). f.ends_in_type) (plain_facts c)
          ∙ h) h) quiet)
          (λ y h. begins_within (exp_goes_on (facts_of_exp x)) is_double_colon after
          (λ k h. or_left (is_double_colon k) _ (or_right (starts_qop k) _ (or_right (starts_aexp k) _ h))) quiet)
          (e ∙ ap (λ y. spelling_exp y ++ after) is ∙ ap (λ l. l ++ after) (front_of_tokens lone (c, None)))
      by (is_typed c ty is) =
          let g = sym (ap good_of (typed_facts c ty)) ∙ ap is_exp (sym is) ∙ good.0 in
          let both = and_left (is_infix c && not (facts_of_infix c).is_open) _ g in
          let deep = subst (Within limit) (ap (λ y. depth_of_exp y) is ∙ typed_deep c ty) good.1 in
          of_typed c ty (ap fr.Exp is) (and_left (is_infix c) _ both, within_less limit _ _ (omega arith) deep)
          (not-true (facts_of_infix c).is_open (and_right (is_infix c) _ both))
          (and_right (is_infix c && not (facts_of_infix c).is_open) _ g) deep
          (begins_within (exp_goes_on (facts_of_exp x)) (types.extends ty) after
          (λ k h. type_quiet true true k (ap (λ b. goes_on true true b k) (sym (ap (λ y.
          (facts_of_exp y).ends_in_type) is
          ∙ ap (λ (f : Facts). f.ends_in_type) (typed_facts c ty))) ∙ h)) quiet)
          (e ∙ ap (λ y. spelling_exp y ++ after) is ∙ ap (λ l. l ++ after) (typed_spelled c ty)
          ∙ append_assoc (spelling_infix c) (t.DoubleColon ∷ spelling_type ty) after
          ∙ ap (λ l. l ++ t.DoubleColon ∷ (spelling_type ty ++ after)) (sym (append-nil (spelling_infix c))))

  -- no annotation extends a closed chain
  closed_quiet : (x : InfixTree) (more : Ts) → (facts_of_infix x).is_open ≡ false →
      begins ((links lone).extends (x, None)) (t.DoubleColon ∷ more) ≡ false
  closed_quiet x more shut = ap (λ b. infix_goes_on (record {
    good = true;
    is_open = b;
    ends_in_type =
        (facts_of_infix x).ends_in_type;
  }) t.DoubleColon) shut
      ∙ ends (facts_of_infix x).ends_in_type
    where
      ends : (b : Bool) → goes_on true false b t.DoubleColon ≡ false
      ends true = refl
      ends false = refl

  typed_good : (x : InfixTree) (ty : TypeTree) → (within (links lone) limit).Good (x, None) →
      (facts_of_infix x).is_open ≡ false → Within limit (depth_of_infix x + 1) →
      (within types (lowered limit 1)).Good ty →
      (within (fronts lone) limit).Good (fr.Exp (v.Annotated x ty))
  typed_good x ty good shut room g = (
    ap good_of (typed_facts x ty) ∙ and_from _ _ (and_from (is_infix x) _ good.0 (not_from_false
        (facts_of_infix x).is_open shut)) g.0,
    subst (Within limit) (sym (typed_deep x ty)) (within_max limit (depth_of_infix x) (depth_of_type ty) 1 room
        (within_raised limit (depth_of_type ty) 1 (within_less limit _ _ (omega arith) room) g.1)),
  )

  pub front_failed : (ts : Ts) (e : Fault) → Failed (links lone) limit ts e → Failed (fronts lone) limit ts e
  front_failed ts e r =
      fails_after (within (fronts lone) limit) (within (links lone) limit) [] ts ts e refl
      (λ before bad split q. record {
        begun = (
          q.begun.0,
          front_of q.begun.1,
          front_of_good lone limit q.begun.1 q.begun.2,
          q.begun.3 ∙ sym (front_of_tokens lone q.begun.1),
        );
        never = λ s other after same good quiet e. go before bad q s other after same
            (front_case other (before ++ s) after good quiet e);
      }) r
    where
      go : (before bad : Ts) → Refuses (within (links lone) limit) before bad → (s : Ts) (other : Front) (after : Ts) →
          SameStart bad s → FrontCase lone limit other (before ++ s) after → ⊥
      go before bad q s other after same (of_links l is good quiet plain e) = q.never s l after same good quiet e
      go before bad q s other after same (of_typed x ty is good shut ok deep quiet e) =
          q.never s (x, None) (t.DoubleColon ∷ (spelling_type ty ++ after)) same good
          (closed_quiet x (spelling_type ty ++ after) shut) e

  -- nothing goes on from the chain
  pub front_stop : (ts : Ts) (l : Links) (here : Ts) (m : ℕ) → Took (links lone) limit ts l here m →
      ((x : InfixTree) → l ≡ (x, None) → (facts_of_infix x).is_open ≡ false → begins is_double_colon here ≡ false) →
      Took (fronts lone) limit ts (front_of l) here m
  front_stop ts l here m acc ends_here = record {
    spelled = acc.spelled ∙ ap (λ r. r ++ here) (sym (front_of_tokens lone l));
    reads = record {
      good = front_of_good lone limit l acc.reads.good;
      only = λ s other after same good quiet e.
          go s other after same (front_case other ((links lone).tokens l ++ s) after good quiet
          (ap (λ r. r ++ s) (sym (front_of_tokens lone l)) ∙ e));
    };
    measured_is = acc.measured_is ∙ same_deep l;
    room = acc.room;
  }
    where
      same_deep : (l : Links) → depth_of_infix l.0 ≡ front_deep (front_of l)
      same_deep (x, None) = sym (plain_deep x)
      same_deep (x, Some op) = refl

      go : (s : Ts) (other : Front) (after : Ts) → SameStart here s →
          FrontCase lone limit other ((links lone).tokens l ++ s) after → (other ≡ front_of l) × (after ≡ s)
      go s other after same (of_links k is good quiet plain e) =
          let found = acc.reads.only s k after same good quiet e in (is ∙ ap front_of found.0, found.1)
      go s other after same (of_typed x ty is good shut ok deep quiet e) =
          let found = acc.reads.only s (x, None) (t.DoubleColon ∷ (spelling_type ty ++ after)) same good
          (closed_quiet x (spelling_type ty ++ after) shut) e in
          absurd (true≢false (ap (begins is_double_colon) found.1 ∙ begins_same is_double_colon here s same
          ∙ ends_here x (sym found.0) shut))

  module _ (ts : Ts) (x : InfixTree) (here next : Ts) (m : ℕ) (acc : Took (links lone) limit ts (x, None) here m)
      (shut : (facts_of_infix x).is_open ≡ false) (at : here ≡ t.DoubleColon ∷ next) where
    abbrev front : Ts
    front = (links lone).tokens (x, None)

    only_typed : (s : Ts) (other : Front) (after : Ts) → SameStart here s →
        FrontCase lone limit other (front ++ s) after →
        (ty : TypeTree) × (other ≡ fr.Exp (v.Annotated x ty)) × (is_type ty ≡ true)
        × Within limit (max (depth_of_infix x) (depth_of_type ty) + 1) × (begins (types.extends ty) after ≡ false)
        × (s ≡ t.DoubleColon ∷ (spelling_type ty ++ after))
    only_typed s other after same (of_links k is good quiet plain e) =
        let found = acc.reads.only s k after same good quiet e in
        absurd (true≢false (sym (ap (begins is_double_colon) found.1 ∙ begins_same is_double_colon here s same
        ∙ ap (begins is_double_colon) at) ∙ plain x found.0))
    only_typed s other after same (of_typed y ty is good shut' ok deep quiet e) =
        let found = acc.reads.only s (y, None) (t.DoubleColon ∷ (spelling_type ty ++ after)) same good
        (closed_quiet y (spelling_type ty ++ after) shut') e in
        let same' : y ≡ x = ap (λ (l : Links). l.0) found.0 in (
          ty,
          is ∙ ap (λ z. fr.Exp (v.Annotated z ty)) same',
          ok,
          subst (λ z. Within limit (max (depth_of_infix z) (depth_of_type ty) + 1)) same' deep,
          quiet,
          sym found.1,
        )

    refused_typed : (before bad : Ts) → here ≡ before ++ bad → (more : Ts) (ty : TypeTree) →
        (within (fronts lone) limit).Good (fr.Exp (v.Annotated x ty)) →
        before ++ more ≡ t.DoubleColon ∷ spelling_type ty →
        ((s : Ts) (ty : TypeTree) (after : Ts) → SameStart bad s → is_type ty ≡ true →
        Within limit (max (depth_of_infix x) (depth_of_type ty) + 1) → begins (types.extends ty) after ≡ false →
        before ++ s ≡ t.DoubleColon ∷ (spelling_type ty ++ after) → ⊥) →
        Refuses (within (fronts lone) limit) (front ++ before) bad
    refused_typed before bad split more ty good spelled never = record {
      begun = (
        more,
        fr.Exp (v.Annotated x ty),
        good,
        append_assoc front before more ∙ ap (λ l. front ++ l) spelled
            ∙ ap (λ l. l ++ t.DoubleColon ∷ spelling_type ty) (append-nil (spelling_infix x))
            ∙ sym (typed_spelled x ty),
      );
      never = λ s other after same good quiet e.
          let same' : SameStart here (before ++ s) =
          subst (λ l. SameStart l (before ++ s)) (sym split) (same_start_append before bad s same) in
          let found = only_typed (before ++ s) other after same'
          (front_case other (front ++ (before ++ s)) after good quiet (sym (append_assoc front before s) ∙ e)) in
          never s found.0 after same found.2 found.3 found.4 found.5;
    }

    -- no depth is left for an annotation
    pub typed_over : (Within limit (m + 1) → ⊥) → Rejects (within (fronts lone) limit) ts (length here)
    typed_over full = record {
      before = front;
      bad = here;
      split = acc.spelled;
      left_is = refl;
      refuses = record {
        begun = (
          [],
          front_of (x, None),
          front_of_good lone limit (x, None) acc.reads.good,
          append-nil front ∙ sym (front_of_tokens lone (x, None)),
        );
        never = λ s other after same good quiet e.
            let found = only_typed s other after same (front_case other (front ++ s) after good quiet e) in
            full (within_less limit _ _ (omega (arith, acc.measured_is)) found.3);
      };
    }

    pub typed_failed : Within limit (m + 1) → (e : Fault) → Failed types (lowered limit 1) next e →
        Failed (fronts lone) limit ts e
    typed_failed room e r =
        fails_after (within (fronts lone) limit) (within types (lowered limit 1))
        (front ++ t.DoubleColon ∷ []) ts next e
        (acc.spelled ∙ ap (λ l. front ++ l) at ∙ sym (append_assoc front (t.DoubleColon ∷ []) next))
        (λ before bad split q.
        subst (λ l. Refuses (within (fronts lone) limit) l bad) (sym (append_assoc front (t.DoubleColon ∷ []) before))
        (refused_typed (t.DoubleColon ∷ before) bad (at ∙ ap (λ l. t.DoubleColon ∷ l) split) q.begun.0 q.begun.1
        (typed_good x q.begun.1 acc.reads.good shut (subst (λ n. Within limit (n + 1)) acc.measured_is room) q.begun.2)
        (ap (λ l. t.DoubleColon ∷ l) q.begun.3)
        (λ s ty after same is deep quiet e. q.never s ty after same
        (is, within_lowered limit (depth_of_type ty) 1 (within_less limit _ _ (omega arith) deep)) quiet
        (uncons _ _ _ e)))) r

    pub typed_took : Within limit (m + 1) → (ty : TypeTree) (rest : Ts) (n : ℕ) →
        Took types (lowered limit 1) next ty rest n →
        Took (fronts lone) limit ts (fr.Exp (v.Annotated x ty)) rest (max m n + 1)
    typed_took room ty rest n q = record {
      spelled = acc.spelled ∙ ap (λ l. front ++ l) (at ∙ ap (λ l. t.DoubleColon ∷ l) q.spelled)
          ∙ sym (append_assoc front (t.DoubleColon ∷ spelling_type ty) rest)
          ∙ ap (λ l. (l ++ t.DoubleColon ∷ spelling_type ty) ++ rest) (append-nil (spelling_infix x))
          ∙ ap (λ l. l ++ rest) (sym (typed_spelled x ty));
      reads = record {
        good = typed_good x ty acc.reads.good shut (subst (λ n. Within limit
            (n + 1)) acc.measured_is room) q.reads.good;
        only = λ s other after same good quiet e.
            let s' = t.DoubleColon ∷ (spelling_type ty ++ s) in
            let same' : SameStart here s' =
            subst (λ l. SameStart l s') (sym at) (spelling_type ty ++ s, refl) in
            let found = only_typed s' other after same' (front_case other (front ++ s') after good quiet
            (sym (append_assoc front (t.DoubleColon ∷ spelling_type ty) s)
            ∙ ap (λ l. (l ++ t.DoubleColon ∷ spelling_type ty) ++ s) (append-nil (spelling_infix x))
            ∙ ap (λ l. l ++ s) (sym (typed_spelled x ty)) ∙ e)) in
            let type_is = q.reads.only s found.0 after same
            (found.2, within_lowered limit (depth_of_type found.0) 1 (within_less limit _ _ (omega arith) found.3))
            found.4 (uncons _ _ _ found.5) in
            (found.1 ∙ ap (λ z. fr.Exp (v.Annotated x z)) type_is.0, type_is.1);
      };
      measured_is = ap (λ k. max k n + 1) acc.measured_is ∙ ap (λ k. max (depth_of_infix x) k + 1) q.measured_is
          ∙ sym (typed_deep x ty);
      room = omega (arith, acc.room, q.room, ap length at);
    }

-- expressions and chains alone
none_only : (l : Links) → (links false).formed l ≡ true → (x : InfixTree) × (l ≡ (x, None))
none_only (x, None) h = (x, refl)
none_only (x, Some op) h = absurd (true≢false (sym h))

pub infix_embeds : (lone : Bool) → Embeds infixes (links lone) (λ x. (x, None))
infix_embeds lone = record {
  tokens = λ x. append-nil (spelling_infix x);
  formed = λ x. refl;
  deep = λ x. refl;
  extends = λ x k e. e;
  one = λ x y e. ap (λ (l : Links). l.0) e;
}

pub infix_back : (l : Links) → (links false).formed l ≡ true → (x : InfixTree) × (l ≡ (x, None))
infix_back = none_only

abbrev exp_front : ExpTree → Front
exp_front e = fr.Exp e

exp_one : (x y : ExpTree) → exp_front x ≡ exp_front y → x ≡ y
exp_one x y e = ap get e
  where
    get : Front → ExpTree
    get (fr.Exp z) = z
    get (fr.Section z op) = x

pub exp_embeds : (lone : Bool) → Embeds exps (fronts lone) exp_front
exp_embeds lone = record {
  tokens = λ x. refl;
  formed = λ x. refl;
  deep = λ x. refl;
  extends = λ x k e. e;
  one = exp_one;
}

pub exp_back : (y : Front) → (fronts false).formed y ≡ true → (x : ExpTree) × (y ≡ exp_front x)
exp_back (fr.Exp x) h = (x, refl)
exp_back (fr.Section x op) h = absurd (true≢false (sym h))
