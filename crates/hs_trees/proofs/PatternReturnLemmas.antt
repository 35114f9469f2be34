-- The loops of the readers of patterns, over plain variables.
use Rattle.std.proofs.Common.{◌≡◌, ℕ, ◌+◌, ◌<◌, Bool, true, false, List, [], ◌∷◌, ◌++◌, length, refl, sym, ap, ◌∙◌}
use Rattle.std.proofs.Common.{subst, append_assoc, true≢false, arith, length-append}
use Rattle.std.specs.Prelude.{not, ◌||◌, Option}
use Rattle.std.proofs.lemmas.Bool.{or_left}
use Rattle.hs_forms.specs.Reading.{Form, begins, Reads, Refuses}
use Rattle.hs_forms.specs.Limits.{Within, lowered}
use Rattle.hs_forms.specs.Answers.{Accepts, Rejects, Fails}
use Rattle.hs_tokens.specs.Terminals.{is_at, is_con, is_backquote, is_minus, starts_qconop}
use Rattle.hs_trees.specs.Types.{starts_tuple_name}
use Rattle.hs_trees.specs.Patterns.{Ts, qconop_tokens, spelling_lpat, spelling_op, is_lpat, depth_of_lpat, depth_of_op}
use Rattle.hs_trees.specs.Patterns.{starts_apat, starts_lpat, starts_pat, opens_name, opens_pat, lpat_form, qconop_form}
use Rattle.hs_tokens.specs.declared.terminal.Terminal.{Terminal}
use Rattle.hs_tokens.specs.declared.terminal.Terminal.TheVariants as t
use Rattle.hs_forms.specs.declared.fault.Fault.{Fault}
use Rattle.hs_trees.specs.declared.patterns.QConOpTree.{QConOpTree}
use Rattle.hs_trees.specs.declared.patterns.QConOpTree.TheVariants as o
use Rattle.hs_trees.specs.declared.patterns.LPatTree.{LPatTree, LPatTree-F}
use Rattle.hs_trees.specs.declared.patterns.LPatTree.TheVariants as lp
use Rattle.hs_trees.specs.declared.patterns.OpLPat.{OpLPat, out-OpLPat, roll-OpLPat, roll-out-OpLPat}
use Rattle.hs_forms.specs.Forms.{item_form, pair}
use Rattle.hs_forms.proofs.FormLemmas.{begins_same, reads_pair, completes_pair, pair_first, pair_second}
use Rattle.hs_forms.proofs.LimitLemmas.{within_zero}
use Rattle.hs_forms.proofs.StateLemmas.{fails_after}
use Rattle.hs_forms.proofs.VariantLemmas.{none_refused}
use Rattle.hs_forms.specs.Productions.{Onto}
use Rattle.hs_forms.proofs.UnionLemmas.{reads_onto, refuses_onto}
use Rattle.hs_trees.proofs.PatternLayerLemmas.{OLayer, qconop_starts, lpat_starts, lpat_is, lpat_deep, op_spelled}
use Rattle.hs_trees.proofs.PatternLayerLemmas.{op_is, op_deep}
use Rattle.hs_trees.proofs.PatternChainLemmas.{pat_item}

abbrev pub make_op : QConOpTree → LPatTree → OpLPat
make_op op x = roll-OpLPat (record { op = op; pat = x })

-- constructor operators
one_op : (x other : QConOpTree) (s after : Ts) → qconop_tokens x ++ s ≡ qconop_tokens other ++ after
    → (other ≡ x) × (after ≡ s)
one_op (o.Sym n) (o.Sym m) s after e = let same : m ≡ n = cc in (ap o.Sym same, cc)
one_op (o.Sym n) o.Colon s after e = absurd cc
one_op (o.Sym n) (o.Quoted m) s after e = absurd cc
one_op o.Colon (o.Sym m) s after e = absurd cc
one_op o.Colon o.Colon s after e = (refl, cc)
one_op o.Colon (o.Quoted m) s after e = absurd cc
one_op (o.Quoted n) (o.Sym m) s after e = absurd cc
one_op (o.Quoted n) o.Colon s after e = absurd cc
one_op (o.Quoted n) (o.Quoted m) s after e = let same : m ≡ n = cc in (ap o.Quoted same, cc)

op_long : (x : QConOpTree) → 0 < length (qconop_tokens x)
op_long (o.Sym n) = omega arith
op_long o.Colon = omega arith
op_long (o.Quoted n) = omega arith

pub qconop_ok : (x : QConOpTree) (ts rest : Ts) → ts ≡ qconop_tokens x ++ rest
    → Accepts qconop_form (λ x. 0) ts x rest 0
qconop_ok x ts rest at = record {
  spelled = at;
  reads = record { good = tt; only = λ s other after same good quiet e. one_op x other s after e };
  measured_is = refl;
  room = omega (arith, ap length at, length-append (qconop_tokens x) rest, op_long x);
}

pub qconop_none : (ts : Ts) → begins starts_qconop ts ≡ false → Rejects qconop_form ts (length ts)
qconop_none ts ends = record {
  before = [];
  bad = ts;
  split = refl;
  left_is = refl;
  refuses = none_refused qconop_form starts_qconop o.Colon tt (λ x good. qconop_starts x) ts ends;
}

name_missed : (s : Ts) (other : QConOpTree) (after : Ts) → begins is_con s ≡ false
    → t.Backquote ∷ s ≡ qconop_tokens other ++ after → ⊥
name_missed s (o.Sym n) after ends e = cc
name_missed s o.Colon after ends e = cc
name_missed s (o.Quoted n) after ends e = let e' : s ≡ t.Con n ∷ t.Backquote ∷ after = cc in
    true≢false (sym (ap (begins is_con) e') ∙ ends)

-- a backquote and no constructor
pub quoted_none : (ts next : Ts) → ts ≡ t.Backquote ∷ next → begins is_con next ≡ false
    → Rejects qconop_form ts (length next)
quoted_none ts next at ends = record {
  before = t.Backquote ∷ [];
  bad = next;
  split = at;
  left_is = refl;
  refuses = record {
    begun = (t.Con [] ∷ t.Backquote ∷ [], o.Quoted [], tt, refl);
    never = λ s other after same good quiet e. name_missed s other after (begins_same is_con next s same ∙ ends) e;
  };
}

quote_missed : (n : List ℕ) (s : Ts) (other : QConOpTree) (after : Ts) → begins is_backquote s ≡ false
    → t.Backquote ∷ t.Con n ∷ s ≡ qconop_tokens other ++ after → ⊥
quote_missed n s (o.Sym m) after ends e = cc
quote_missed n s o.Colon after ends e = cc
quote_missed n s (o.Quoted m) after ends e = let e' : s ≡ t.Backquote ∷ after = cc in
    true≢false (sym (ap (begins is_backquote) e') ∙ ends)

-- a constructor behind a backquote, and no other backquote
pub quoted_open : (n : List ℕ) (ts next more : Ts) → ts ≡ t.Backquote ∷ next → next ≡ t.Con n ∷ more
    → begins is_backquote more ≡ false →
    Rejects qconop_form ts (length more)
quoted_open n ts next more at con ends = record {
  before = t.Backquote ∷ t.Con n ∷ [];
  bad = more;
  split = at ∙ ap (λ l. t.Backquote ∷ l) con;
  left_is = refl;
  refuses = record {
    begun = (t.Backquote ∷ [], o.Quoted n, tt, refl);
    never = λ s other after same good quiet e. quote_missed n s other after (begins_same is_backquote more s same
        ∙ ends) e;
  };
}

starts_wide : (ts : Ts) → starts_pat ts ≡ true → begins starts_lpat ts ≡ true
starts_wide [] h = h
starts_wide (t.VarSym n ∷ []) h = absurd (true≢false (sym h))
starts_wide (t.VarSym n ∷ t.Integer m ∷ ts) h = h
starts_wide (t.VarSym n ∷ k ∷ ts) h = absurd (true≢false (sym h))
starts_wide (k ∷ ts) h = or_left (starts_apat k) (is_minus k) h

lpat_begins : (x : LPatTree) → begins starts_lpat (spelling_lpat x) ≡ true
lpat_begins x = starts_wide (spelling_lpat x) (lpat_starts x)

module _ (limit : Option ℕ) where
  abbrev item_at : ℕ → Form Terminal OpLPat
  item_at n = item_form spelling_op (pat_item limit) (λ x k. starts_apat k || is_at k) n

  abbrev both_at : ℕ → Form Terminal (QConOpTree × LPatTree)
  both_at n = pair qconop_form (lpat_form (lowered limit (n + 1))) (λ x y. Unit {0})

  abbrev make_item : QConOpTree × LPatTree → OpLPat
  make_item p = make_op p.0 p.1

  item_onto : (n : ℕ) → Onto (both_at n) (item_at n) make_item
  item_onto n = record {
    back = λ y. (((out-OpLPat y).op, (out-OpLPat y).pat), sym (roll-out-OpLPat y));
    tokens = λ p. op_spelled (record { op = p.0; pat = p.1 });
    good = λ p g. (
      op_is (record { op = p.0; pat = p.1 }) ∙ g.1.0,
      subst (Within (lowered limit (n + 1))) (sym (op_deep (record { op = p.0; pat = p.1 }))) g.1.1,
    );
    good_back = λ p g. (
      tt,
      (
        sym (op_is (record { op = p.0; pat = p.1 })) ∙ g.0,
        subst (Within (lowered limit (n + 1))) (op_deep (record { op = p.0; pat = p.1 })) g.1,
      ),
      tt,
    );
    extends = λ p k e. e;
  }

  least_good : (n : ℕ) → (lpat_form (lowered limit n)).Good (lp.Negative [])
  least_good n = (
    ap is_lpat (sym (lp.rolls-Negative [])) ∙ lpat_is (LPatTree-F.Negative []),
    subst (Within (lowered limit n)) (sym (ap depth_of_lpat (sym (lp.rolls-Negative []))
        ∙ lpat_deep (LPatTree-F.Negative []))) (within_zero (lowered limit n)),
  )

  pub item_reads : (n : ℕ) (op : QConOpTree) (next : Ts) (x : LPatTree) (rest : Ts) → Reads qconop_form op next
      → next ≡ spelling_lpat x ++ rest →
      Reads (lpat_form (lowered limit (n + 1))) x rest → Reads (item_at n) (make_op op x) rest
  item_reads n op next x rest r at q =
      reads_onto (both_at n) (item_at n) make_item (item_onto n) (op, x) rest
      (reads_pair qconop_form (lpat_form (lowered limit (n + 1))) (λ x y. Unit {0}) starts_lpat lpat_begins
      (λ x y k fits h. refl) op next x rest r at q tt)

  op_refused : (n : ℕ) (before bad : Ts) → Refuses qconop_form before bad → Refuses (item_at n) before bad
  op_refused n before bad r =
      refuses_onto (both_at n) (item_at n) make_item (item_onto n) before bad
      (pair_first qconop_form (lpat_form (lowered limit (n + 1))) (λ x y. Unit {0}) starts_lpat lpat_begins
      (λ x y k fits h. refl)
      (completes_pair qconop_form (lpat_form (lowered limit (n + 1))) (λ x y. Unit {0}) starts_lpat lpat_begins
      (λ x y k fits h. refl) (lp.Negative []) (λ x good. (least_good (n + 1), tt))) before bad r)

  operand_refused : (n : ℕ) (op : QConOpTree) (next before bad : Ts) → Reads qconop_form op next
      → next ≡ before ++ bad →
      Refuses (lpat_form (lowered limit (n + 1))) before bad → Refuses (item_at n) (qconop_tokens op ++ before) bad
  operand_refused n op next before bad r at q =
      refuses_onto (both_at n) (item_at n) make_item (item_onto n) (qconop_tokens op ++ before) bad
      (pair_second qconop_form (lpat_form (lowered limit (n + 1))) (λ x y. Unit {0}) starts_lpat lpat_begins
      (λ x y k fits h. refl) op next before bad r at q (λ u g. tt))

  -- an operator and an `lpat`, of a chain with so many before it
  pub op_fails : (n : ℕ) (here : Ts) (e : Fault) → Fails qconop_form here e → Fails (item_at n) here e
  op_fails n here e r = fails_after (item_at n) qconop_form [] here here e refl
      (λ before bad split q. op_refused n before bad q) r

  pub operand_fails : (n : ℕ) (here : Ts) (op : QConOpTree) (next : Ts) (d : ℕ) (b : Option ℕ) (e : Fault) →
      Accepts qconop_form (λ x. 0) here op next d → b ≡ lowered limit (n + 1) → Fails (lpat_form b) next e
      → Fails (item_at n) here e
  operand_fails n here op next d b e acc same r =
      fails_after (item_at n) (lpat_form (lowered limit (n + 1))) (qconop_tokens op) here next e acc.spelled
      (λ before bad split q. operand_refused n op next before bad acc.reads split q)
      (subst (λ l. Fails (lpat_form l) next e) same r)

  pub item_ok : (n : ℕ) (here : Ts) (op : QConOpTree) (next : Ts) (d : ℕ) (b : Option ℕ) (x : LPatTree) (rest : Ts)
      (e : ℕ) →
      Accepts qconop_form (λ x. 0) here op next d → b ≡ lowered limit (n + 1)
      → Accepts (lpat_form b) depth_of_lpat next x rest e →
      Accepts (item_at n) depth_of_op here (make_op op x) rest e
  item_ok n here op next d b x rest e acc same part =
      let part' = subst (λ l. Accepts (lpat_form l) depth_of_lpat next x rest e) same part in
      let layer : OLayer = record { op = op; pat = x } in
      record {
        spelled = acc.spelled ∙ ap (λ l. qconop_tokens op ++ l) part'.spelled
            ∙ sym (append_assoc (qconop_tokens op) (spelling_lpat x) rest)
            ∙ ap (λ l. l ++ rest) (sym (op_spelled layer));
        reads = item_reads n op next x rest acc.reads part'.spelled part'.reads;
        measured_is = part'.measured_is ∙ sym (op_deep layer);
        room = omega (arith, acc.room, part'.room);
      }

-- what stands at no production's begin
pub no_apat : (x : Terminal) → ((n : List ℕ) → x ≡ t.Var n → ⊥) → ((n : List ℕ) → x ≡ t.Con n → ⊥)
    → (x ≡ t.Underscore → ⊥) → ((n : List ℕ) → x ≡ t.Integer n → ⊥) →
    ((n : List ℕ) → x ≡ t.Char n → ⊥) → ((n : List ℕ) → x ≡ t.Text n → ⊥) → (x ≡ t.LeftParen → ⊥)
    → (x ≡ t.LeftBracket → ⊥) → (x ≡ t.Tilde → ⊥) →
    starts_apat x ≡ false
no_apat (t.Var n) a b c d e f g h i = absurd (a n refl)
no_apat (t.Con n) a b c d e f g h i = absurd (b n refl)
no_apat t.Underscore a b c d e f g h i = absurd (c refl)
no_apat (t.Integer n) a b c d e f g h i = absurd (d n refl)
no_apat (t.Char n) a b c d e f g h i = absurd (e n refl)
no_apat (t.Text n) a b c d e f g h i = absurd (f n refl)
no_apat t.LeftParen a b c d e f g h i = absurd (g refl)
no_apat t.LeftBracket a b c d e f g h i = absurd (h refl)
no_apat t.Tilde a b c d e f g h i = absurd (i refl)
no_apat _ a b c d e f g h i = refl

pub no_opening : (x : Terminal) → starts_tuple_name x ≡ false → ((n : List ℕ) → x ≡ t.ConSym n → ⊥)
    → (x ≡ t.Colon → ⊥) →
    ((n : List ℕ) → x ≡ t.VarSym n → ⊥) → opens_name x ≡ false
no_opening t.RightParen a c d e = absurd (true≢false a)
no_opening t.Comma a c d e = absurd (true≢false a)
no_opening (t.ConSym n) a c d e = absurd (c n refl)
no_opening t.Colon a c d e = absurd (d refl)
no_opening (t.VarSym n) a c d e = absurd (e n refl)
no_opening _ a c d e = refl

pub no_qconop : (x : Terminal) → ((n : List ℕ) → x ≡ t.ConSym n → ⊥) → (x ≡ t.Colon → ⊥) → (x ≡ t.Backquote → ⊥)
    → starts_qconop x ≡ false
no_qconop (t.ConSym n) a b c = absurd (a n refl)
no_qconop t.Colon a b c = absurd (b refl)
no_qconop t.Backquote a b c = absurd (c refl)
no_qconop _ a b c = refl

pub empty_begins : (f : Terminal → Bool) (ts : Ts) → length ts ≡ 0 → begins f ts ≡ false
empty_begins f [] e = refl
empty_begins f (x ∷ ts) e = absurd (omega arith)
