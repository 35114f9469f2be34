-- How an `apat` is read or refused, production by production.
use Rattle.std.proofs.Common.{◌≡◌, ℕ, zero, suc, ◌+◌, ◌<◌, Bool, true, false, List, [], ◌∷◌, ◌++◌, length, refl, sym}
use Rattle.std.proofs.Common.{ap, ◌∙◌, subst, append_assoc, true≢false, arith, length-append}
use Rattle.std.specs.Prelude.{replicate, Option}
use Rattle.std.proofs.lemmas.List.{append-nil}
use Rattle.std.proofs.lemmas.Bool.Decides.{nat_tests}
use Rattle.hs_forms.specs.Reading.{SameStart, begins, Reads, Refuses}
use Rattle.hs_forms.specs.Limits.{Within, lowered}
use Rattle.hs_forms.specs.Answers.{Accepts, Rejects, Fails}
use Rattle.hs_tokens.specs.Terminals.{is_at, is_integer, is_right_paren, is_con}
use Rattle.hs_trees.specs.Types.{tuple_name_form, starts_tuple_name}
use Rattle.hs_trees.specs.Patterns.{Ts, literal_token, var_tokens, gcon_tokens, named_con, spelling_apat, is_gcon}
use Rattle.hs_trees.specs.Patterns.{is_apat, depth_of_apat, starts_apat, starts_pat, opens_name, apat_form, Pats}
use Rattle.hs_tokens.specs.declared.terminal.Terminal.{Terminal}
use Rattle.hs_tokens.specs.declared.terminal.Terminal.TheVariants as t
use Rattle.hs_forms.specs.declared.fault.Fault.{Fault}
use Rattle.hs_trees.specs.declared.patterns.LiteralTree.{LiteralTree}
use Rattle.hs_trees.specs.declared.patterns.LiteralTree.TheVariants as l
use Rattle.hs_trees.specs.declared.patterns.VarTree.{VarTree}
use Rattle.hs_trees.specs.declared.patterns.VarTree.TheVariants as v
use Rattle.hs_trees.specs.declared.patterns.GConTree.{GConTree}
use Rattle.hs_trees.specs.declared.patterns.GConTree.TheVariants as g
use Rattle.hs_trees.specs.declared.patterns.APatTree.{APatTree, APatTree-F}
use Rattle.hs_trees.specs.declared.patterns.APatTree.TheVariants as a
use Rattle.hs_forms.proofs.FormLemmas.{begins_same, same_start_append}
use Rattle.hs_forms.proofs.LimitLemmas.{within_less, within_lowered, within_raised, within_zero}
use Rattle.hs_forms.proofs.StateLemmas.{fails_after}
use Rattle.hs_forms.specs.Productions.{Leads, Variant}
use Rattle.hs_forms.proofs.VariantLemmas.{lead_reads, lead_refuses, variant_reads, reads_leaf, none_refused}
use Rattle.hs_forms.specs.Forms.{leaf}
use Rattle.hs_trees.proofs.PatternLayerLemmas.{apat_spelled, apat_deep, apat_is, apat_starts}
use Rattle.hs_trees.proofs.PatternCaseLemmas.{parts_deep, as_spelled, as_deep, as_is, lazy_spelled, lazy_deep, lazy_is}
use Rattle.hs_trees.proofs.PatternCaseLemmas.{var_spelled, var_deep, var_is, con_spelled, con_deep, con_is}
use Rattle.hs_trees.proofs.PatternCaseLemmas.{is_underscore, is_literal, is_tilde, is_name, pat_no_name, pats_start}
use Rattle.hs_trees.proofs.PatternCaseLemmas.{ParenCase, of_commas, of_con, of_colon, of_var, of_as, of_parts}
use Rattle.hs_trees.proofs.PatternCaseLemmas.{paren_cases, VarCase, of_name, of_bound, var_cases, wild_only, con_only}
use Rattle.hs_trees.proofs.PatternCaseLemmas.{literal_only, lazy_only, of_layer}

var_long : (n : VarTree) → 0 < length (var_tokens n)
var_long (v.Id n) = omega arith
var_long (v.Sym n) = omega arith

pub clash : (f : Terminal → Bool) (xs ys : Ts) → begins f xs ≡ true → xs ≡ ys → begins f ys ≡ false → ⊥
clash f xs ys h e k = true≢false (sym h ∙ ap (begins f) e ∙ k)

pub name_clash : (xs ys : Ts) → is_name xs ≡ true → xs ≡ ys → is_name ys ≡ false → ⊥
name_clash xs ys h e k = true≢false (sym h ∙ ap is_name e ∙ k)

pub comma_name : (n : ℕ) (s : Ts) → is_name ((replicate n t.Comma ++ t.RightParen ∷ []) ++ s) ≡ true
comma_name zero s = refl
comma_name (suc n) s = refl

name_first : (n : ℕ) (s : Ts) → begins starts_tuple_name ((replicate n t.Comma ++ t.RightParen ∷ []) ++ s) ≡ true
name_first zero s = refl
name_first (suc n) s = refl

pub named_tokens : (n : ℕ) → gcon_tokens (named_con n) ≡ t.LeftParen ∷ (replicate n t.Comma ++ t.RightParen ∷ [])
named_tokens zero = refl
named_tokens (suc n) = refl

module _ (limit : Option ℕ) where
  pub con_good : (c : GConTree) → is_gcon c ≡ true → (apat_form limit).Good (a.Con c)
  con_good c is = (con_is c ∙ is, subst (Within limit) (sym (con_deep c)) (within_zero limit))

  pub var_good : (n : VarTree) → (apat_form limit).Good (a.Var n)
  var_good n = (var_is n, subst (Within limit) (sym (var_deep n)) (within_zero limit))

  -- a name that no `@` follows
  pub var_read : (n : VarTree) (rest : Ts) → begins is_at rest ≡ false → Reads (apat_form limit) (a.Var n) rest
  var_read n rest ends = record {
    good = var_good n;
    only = λ s other after same good quiet e.
        decide s other after same (var_cases n other s after good.0 (ap (λ l. l ++ s) (sym (var_spelled n)) ∙ e));
  }
    where
      decide : (s : Ts) (other : APatTree) (after : Ts) → SameStart rest s → VarCase n other s after
          → (other ≡ a.Var n) × (after ≡ s)
      decide s other after same (of_name eq is) = (eq, is)
      decide s other after same (of_bound x eq is e) =
          absurd (true≢false (sym (ap (begins is_at) e) ∙ begins_same is_at rest s same ∙ ends))

  pub name_ok : (n : VarTree) (rest : Ts) → begins is_at rest ≡ false
      → Accepts (apat_form limit) depth_of_apat (var_tokens n ++ rest) (a.Var n) rest 0
  name_ok n rest ends = record {
    spelled = ap (λ l. l ++ rest) (sym (var_spelled n));
    reads = var_read n rest ends;
    measured_is = sym (var_deep n);
    room = omega (arith, length-append (var_tokens n) rest, var_long n);
  }

  -- no depth is left for `@`
  pub name_over : (n : VarTree) (here next : Ts) → here ≡ t.At ∷ next → (Within limit 1 → ⊥)
      → Rejects (apat_form limit) (var_tokens n ++ here) (length here)
  name_over n here next at over = record {
    before = var_tokens n;
    bad = here;
    split = refl;
    left_is = refl;
    refuses = record {
      begun = ([], a.Var n, var_good n, append-nil (var_tokens n) ∙ sym (var_spelled n));
      never = λ s other after same good quiet e. decide s other after same good quiet
          (var_cases n other s after good.0 e);
    };
  }
    where
      decide : (s : Ts) (other : APatTree) (after : Ts) → SameStart here s → (apat_form limit).Good other
          → begins is_at after ≡ false →
          VarCase n other s after → ⊥
      decide s other after same good quiet (of_name eq is) =
          true≢false (sym (ap (begins is_at) is ∙ begins_same is_at here s same ∙ ap (begins is_at) at) ∙ quiet)
      decide s other after same good quiet (of_bound x eq is e) =
          over (within_less limit 1 _ (omega arith) (subst (Within limit) (ap depth_of_apat eq ∙ as_deep n x) good.1))

  pub as_leads : Within limit 1 → (n : VarTree) → Leads (apat_form limit) (var_tokens n ++ t.At ∷ [])
      (apat_form (lowered limit 1)) (a.As n)
  as_leads one n = record {
    tokens = λ x. as_spelled n x ∙ sym (append_assoc (var_tokens n) (t.At ∷ []) (spelling_apat x));
    good = λ x g. (
      as_is n x ∙ g.0,
      subst (Within limit) (sym (as_deep n x))
          (within_raised limit (depth_of_apat x) 1 one g.1),
    );
    good_back = λ x g. (
      sym (as_is n x) ∙ g.0,
      within_lowered limit (depth_of_apat x) 1
          (subst (Within limit) (as_deep n x) g.1),
    );
    extends = λ x k e. e;
    only = λ x s after good quiet e.
        only x s after quiet (var_cases n x (t.At ∷ s) after good.0 (sym (append_assoc (var_tokens n) (t.At ∷ []) s)
        ∙ e));
  }
    where
      only : (x : APatTree) (s after : Ts) → begins is_at after ≡ false → VarCase n x (t.At ∷ s) after
          → (p : APatTree) × (x ≡ a.As n p)
      only x s after quiet (of_name eq is) = absurd (true≢false (sym (ap (begins is_at) is) ∙ quiet))
      only x s after quiet (of_bound p eq good e) = (p, eq)

  pub as_fails : (n : VarTree) (here next : Ts) (b : Option ℕ) (e : Fault) → here ≡ t.At ∷ next → Within limit 1
      → b ≡ lowered limit 1 →
      Fails (apat_form b) next e → Fails (apat_form limit) (var_tokens n ++ here) e
  as_fails n here next b e at one same r =
      fails_after (apat_form limit) (apat_form (lowered limit 1)) (var_tokens n ++ t.At ∷ [])
      (var_tokens n ++ here) next e
      (ap (λ l. var_tokens n ++ l) at ∙ sym (append_assoc (var_tokens n) (t.At ∷ []) next))
      (λ before bad split q. lead_refuses (apat_form limit) (var_tokens n ++ t.At ∷ []) (apat_form (lowered limit 1))
      (a.As n) (as_leads one n) before bad q)
      (subst (λ l. Fails (apat_form l) next e) same r)

  pub as_ok : (n : VarTree) (here next : Ts) (b : Option ℕ) (x : APatTree) (rest : Ts) (d : ℕ) → here ≡ t.At ∷ next
      → Within limit 1 → b ≡ lowered limit 1 →
      Accepts (apat_form b) depth_of_apat next x rest d
      → Accepts (apat_form limit) depth_of_apat (var_tokens n ++ here) (a.As n x) rest (d + 1)
  as_ok n here next b x rest d at one same acc =
      let acc' = subst (λ l. Accepts (apat_form l) depth_of_apat next x rest d) same acc in
      record {
        spelled = ap (λ l. var_tokens n ++ l) (at ∙ ap (λ l. t.At ∷ l) acc'.spelled)
            ∙ sym (append_assoc (var_tokens n) (t.At ∷ spelling_apat x) rest)
            ∙ ap (λ l. l ++ rest) (sym (as_spelled n x));
        reads = lead_reads (apat_form limit) (var_tokens n ++ t.At ∷ []) (apat_form (lowered limit 1)) (a.As n)
            (as_leads one n) x rest acc'.reads;
        measured_is = ap (λ n. n + 1) acc'.measured_is ∙ sym (as_deep n x);
        room = omega (arith, acc'.room, ap length at, length-append (var_tokens n) here, var_long n);
      }

  -- lazy patterns
  pub lazy_leads : Within limit 1 → Leads (apat_form limit) (t.Tilde ∷ []) (apat_form (lowered limit 1)) a.Lazy
  lazy_leads one = record {
    tokens = lazy_spelled;
    good = λ x g. (
      lazy_is x ∙ g.0,
      subst (Within limit) (sym (lazy_deep x))
          (within_raised limit (depth_of_apat x) 1 one g.1),
    );
    good_back = λ x g. (
      sym (lazy_is x) ∙ g.0,
      within_lowered limit (depth_of_apat x) 1
          (subst (Within limit) (lazy_deep x) g.1),
    );
    extends = λ x k e. e;
    only = λ x s after good quiet e. of_layer a.Lazy is_tilde lazy_only x after (ap (begins is_tilde) (sym e));
  }

  pub lazy_fails : (ts next : Ts) (b : Option ℕ) (e : Fault) → ts ≡ t.Tilde ∷ next → Within limit 1
      → b ≡ lowered limit 1 →
      Fails (apat_form b) next e → Fails (apat_form limit) ts e
  lazy_fails ts next b e at one same r =
      fails_after (apat_form limit) (apat_form (lowered limit 1)) (t.Tilde ∷ []) ts next e at
      (λ before bad split q. lead_refuses (apat_form limit) (t.Tilde ∷ []) (apat_form (lowered limit 1)) a.Lazy
      (lazy_leads one) before bad q)
      (subst (λ l. Fails (apat_form l) next e) same r)

  pub lazy_ok : (ts next : Ts) (b : Option ℕ) (x : APatTree) (rest : Ts) (d : ℕ) → ts ≡ t.Tilde ∷ next → Within limit 1
      → b ≡ lowered limit 1 →
      Accepts (apat_form b) depth_of_apat next x rest d
      → Accepts (apat_form limit) depth_of_apat ts (a.Lazy x) rest (d + 1)
  lazy_ok ts next b x rest d at one same acc =
      let acc' = subst (λ l. Accepts (apat_form l) depth_of_apat next x rest d) same acc in
      record {
        spelled = at ∙ ap (λ l. t.Tilde ∷ l) acc'.spelled ∙ ap (λ l. l ++ rest) (sym (lazy_spelled x));
        reads = lead_reads (apat_form limit) (t.Tilde ∷ []) (apat_form (lowered limit 1)) a.Lazy
            (lazy_leads one) x rest acc'.reads;
        measured_is = ap (λ n. n + 1) acc'.measured_is ∙ sym (lazy_deep x);
        room = omega (arith, acc'.room, ap length at);
      }

  pub lazy_over : (ts next : Ts) → ts ≡ t.Tilde ∷ next → (Within limit 1 → ⊥) → Rejects (apat_form limit) ts (length ts)
  lazy_over ts next at over = record {
    before = [];
    bad = ts;
    split = refl;
    left_is = refl;
    refuses = record {
      begun = (spelling_apat (a.Con g.Unit), a.Con g.Unit, con_good g.Unit refl, refl);
      never = λ s other after same good quiet e.
          let q = of_layer a.Lazy is_tilde lazy_only other after (ap (begins is_tilde) (sym e)
          ∙ begins_same is_tilde ts s same ∙ ap (begins is_tilde) at) in
          over (within_less limit 1 _ (omega arith)
          (subst (Within limit) (ap depth_of_apat q.1 ∙ lazy_deep q.0) good.1));
    };
  }

  -- one token
  wild_variant : Variant (apat_form limit) (leaf (λ (u : Unit {0}). t.Underscore)) (λ u. a.Wild) is_underscore
  wild_variant = record {
    tokens = λ u. ap spelling_apat (sym a.rolls-Wild) ∙ apat_spelled APatTree-F.Wild;
    good = λ u h. (
      ap is_apat (sym a.rolls-Wild) ∙ apat_is APatTree-F.Wild,
      subst (Within limit) (sym (ap depth_of_apat (sym a.rolls-Wild) ∙ apat_deep APatTree-F.Wild)) (within_zero limit),
    );
    good_back = λ u h. tt;
    extends = λ u k e. refl;
    starts = λ u. refl;
    only = λ x after good e. of_layer (λ (u : Unit {0}). a.Wild) is_underscore wild_only x after e;
  }

  con_variant : Variant (apat_form limit) (leaf t.Con) (λ n. a.Con (g.Con n)) is_con
  con_variant = record {
    tokens = λ n. con_spelled (g.Con n);
    good = λ n h. con_good (g.Con n) refl;
    good_back = λ n h. tt;
    extends = λ n k e. refl;
    starts = λ n. refl;
    only = λ x after good e. of_layer (λ n. a.Con (g.Con n)) is_con con_only x after e;
  }

  literal_is : (x : LiteralTree) → is_literal (literal_token x) ≡ true
  literal_is (l.Integer n) = refl
  literal_is (l.Char n) = refl
  literal_is (l.Text n) = refl

  literal_variant : Variant (apat_form limit) (leaf literal_token) a.Literal is_literal
  literal_variant = record {
    tokens = λ x. ap spelling_apat (sym (a.rolls-Literal x)) ∙ apat_spelled (APatTree-F.Literal x);
    good = λ x h. (
      ap is_apat (sym (a.rolls-Literal x)) ∙ apat_is (APatTree-F.Literal x),
      subst (Within limit) (sym (ap depth_of_apat (sym (a.rolls-Literal x)) ∙ apat_deep (APatTree-F.Literal x)))
          (within_zero limit),
    );
    good_back = λ x h. tt;
    extends = λ x k e. refl;
    starts = literal_is;
    only = λ x after good e. of_layer a.Literal is_literal literal_only x after e;
  }

  leaf_ok : {N : Type 0} (token : N → Terminal) (make : N → APatTree) (starter : Terminal → Bool)
      → Variant (apat_form limit) (leaf token) make starter →
      ((n m : N) → token n ≡ token m → m ≡ n) → (ts : Ts) (n : N) (rest : Ts) → depth_of_apat (make n) ≡ 0
      → ts ≡ token n ∷ rest →
      Accepts (apat_form limit) depth_of_apat ts (make n) rest 0
  leaf_ok token make starter w inj ts n rest deep at = record {
    spelled = at ∙ ap (λ l. l ++ rest) (sym (w.tokens n));
    reads = variant_reads (apat_form limit) (leaf token) make starter w n rest (reads_leaf token inj n rest);
    measured_is = sym deep;
    room = omega (arith, ap length at);
  }

  pub wild_ok : (ts rest : Ts) → ts ≡ t.Underscore ∷ rest → Accepts (apat_form limit) depth_of_apat ts a.Wild rest 0
  wild_ok ts rest at =
      leaf_ok (λ (u : Unit {0}). t.Underscore) (λ u. a.Wild) is_underscore wild_variant (λ n m e. refl) ts tt rest
      (ap depth_of_apat (sym a.rolls-Wild) ∙ apat_deep APatTree-F.Wild) at

  pub con_ok : (ts : Ts) (n : List ℕ) (rest : Ts) → ts ≡ t.Con n ∷ rest
      → Accepts (apat_form limit) depth_of_apat ts (a.Con (g.Con n)) rest 0
  con_ok ts n rest at = leaf_ok t.Con (λ n. a.Con (g.Con n)) is_con con_variant (λ n m e. con_inj n m e) ts n rest
      (con_deep (g.Con n)) at
    where
      con_inj : (n m : List ℕ) → t.Con n ≡ t.Con m → m ≡ n
      con_inj n m e = cc

  integer_inj : (n m : List ℕ) → t.Integer n ≡ t.Integer m → m ≡ n
  integer_inj n m e = cc

  char_inj : (n m : List ℕ) → t.Char n ≡ t.Char m → m ≡ n
  char_inj n m e = cc

  text_inj : (n m : List ℕ) → t.Text n ≡ t.Text m → m ≡ n
  text_inj n m e = cc

  literal_inj : (x y : LiteralTree) → literal_token x ≡ literal_token y → y ≡ x
  literal_inj (l.Integer n) (l.Integer m) e = ap l.Integer (integer_inj n m e)
  literal_inj (l.Char n) (l.Char m) e = ap l.Char (char_inj n m e)
  literal_inj (l.Text n) (l.Text m) e = ap l.Text (text_inj n m e)
  literal_inj (l.Integer n) (l.Char m) e = absurd cc
  literal_inj (l.Integer n) (l.Text m) e = absurd cc
  literal_inj (l.Char n) (l.Integer m) e = absurd cc
  literal_inj (l.Char n) (l.Text m) e = absurd cc
  literal_inj (l.Text n) (l.Integer m) e = absurd cc
  literal_inj (l.Text n) (l.Char m) e = absurd cc

  pub literal_ok : (ts : Ts) (x : LiteralTree) (rest : Ts) → ts ≡ literal_token x ∷ rest
      → Accepts (apat_form limit) depth_of_apat ts (a.Literal x) rest 0
  literal_ok ts x rest at =
      leaf_ok literal_token a.Literal is_literal literal_variant literal_inj ts x rest
      (ap depth_of_apat (sym (a.rolls-Literal x)) ∙ apat_deep (APatTree-F.Literal x)) at

  pub none_here : (ts : Ts) → begins starts_apat ts ≡ false → Rejects (apat_form limit) ts (length ts)
  none_here ts ends = record {
    before = [];
    bad = ts;
    split = refl;
    left_is = refl;
    refuses = none_refused (apat_form limit) starts_apat (a.Con g.Unit) (con_good g.Unit refl)
        (λ x good. apat_starts x) ts ends;
  }

  -- Names in brackets.
  paren_ok : (c : GConTree) (body ts rest : Ts) → is_gcon c ≡ true → gcon_tokens c ≡ t.LeftParen ∷ body
      → ts ≡ body ++ rest →
      ((s : Ts) (other : APatTree) (after : Ts) → SameStart rest s → ParenCase other (body ++ s) after
      → (other ≡ a.Con c) × (after ≡ s)) →
      Accepts (apat_form limit) depth_of_apat (t.LeftParen ∷ ts) (a.Con c) rest 0
  paren_ok c body ts rest is name at decide = record {
    spelled = ap (λ l. t.LeftParen ∷ l) at ∙ ap (λ l. l ++ rest) (sym name ∙ sym (con_spelled c));
    reads = record {
      good = con_good c is;
      only = λ s other after same good quiet e.
          decide s other after same (paren_cases other (body ++ s) after good.0
          (ap (λ l. l ++ s) (sym (con_spelled c ∙ name)) ∙ e));
    };
    measured_is = sym (con_deep c);
    room = omega (arith, ap length at, length-append body rest);
  }

  sym_decide : (m : List ℕ) (s : Ts) (other : APatTree) (after : Ts)
      → ParenCase other (t.ConSym m ∷ t.RightParen ∷ s) after →
      (other ≡ a.Con (g.Sym m)) × (after ≡ s)
  sym_decide m s other after (of_commas zero eq most e) = absurd cc
  sym_decide m s other after (of_commas (suc n) eq most e) = absurd cc
  sym_decide m s other after (of_con n eq e) = let same : n ≡ m = cc in (eq ∙ ap (λ k. a.Con (g.Sym k)) same, cc)
  sym_decide m s other after (of_colon eq e) = absurd cc
  sym_decide m s other after (of_var n eq e) = absurd cc
  sym_decide m s other after (of_as n x eq is e) = absurd cc
  sym_decide m s other after (of_parts p eq are e) =
      absurd (name_clash _ _ refl e (pat_no_name _ (pats_start p t.RightParen after)))

  pub sym_ok : (m : List ℕ) (ts next rest : Ts) → ts ≡ t.ConSym m ∷ next → next ≡ t.RightParen ∷ rest →
      Accepts (apat_form limit) depth_of_apat (t.LeftParen ∷ ts) (a.Con (g.Sym m)) rest 0
  sym_ok m ts next rest at shut =
      paren_ok (g.Sym m) (t.ConSym m ∷ t.RightParen ∷ []) ts rest refl refl (at
      ∙ ap (λ l. t.ConSym m ∷ l) shut) (λ s other after same c. sym_decide m s other after c)

  colon_decide : (s : Ts) (other : APatTree) (after : Ts) → ParenCase other (t.Colon ∷ t.RightParen ∷ s) after
      → (other ≡ a.Con g.Colon) × (after ≡ s)
  colon_decide s other after (of_commas zero eq most e) = absurd cc
  colon_decide s other after (of_commas (suc n) eq most e) = absurd cc
  colon_decide s other after (of_con n eq e) = absurd cc
  colon_decide s other after (of_colon eq e) = (eq, cc)
  colon_decide s other after (of_var n eq e) = absurd cc
  colon_decide s other after (of_as n x eq is e) = absurd cc
  colon_decide s other after (of_parts p eq are e) =
      absurd (name_clash _ _ refl e (pat_no_name _ (pats_start p t.RightParen after)))

  pub colon_ok : (ts next rest : Ts) → ts ≡ t.Colon ∷ next → next ≡ t.RightParen ∷ rest →
      Accepts (apat_form limit) depth_of_apat (t.LeftParen ∷ ts) (a.Con g.Colon) rest 0
  colon_ok ts next rest at shut =
      paren_ok g.Colon (t.Colon ∷ t.RightParen ∷ []) ts rest refl refl (at
      ∙ ap (λ l. t.Colon ∷ l) shut) (λ s other after same c. colon_decide s other after c)

  pub no_extends : (xs : Ts) → begins (λ (k : Terminal). false) xs ≡ false
  no_extends [] = refl
  no_extends (x ∷ xs) = refl

  tuple_decide : (n : ℕ) (rest : Ts) → Reads tuple_name_form n rest → (s : Ts) (other : APatTree) (after : Ts)
      → SameStart rest s →
      ParenCase other ((replicate n t.Comma ++ t.RightParen ∷ []) ++ s) after
      → (other ≡ a.Con (named_con n)) × (after ≡ s)
  tuple_decide n rest r s other after same (of_con m eq e) =
      absurd (clash starts_tuple_name _ _ (name_first n s) e refl)
  tuple_decide n rest r s other after same (of_colon eq e) =
      absurd (clash starts_tuple_name _ _ (name_first n s) e refl)
  tuple_decide n rest r s other after same (of_var m eq e) =
      absurd (clash starts_tuple_name _ _ (name_first n s) e refl)
  tuple_decide n rest r s other after same (of_as m x eq is e) =
      absurd (clash starts_tuple_name _ _ (name_first n s) e refl)
  tuple_decide n rest r s other after same (of_commas m eq most e) =
      let found = r.only s m after same most (no_extends after) e in
      (eq ∙ ap (λ k. a.Con (named_con k)) found.0, found.1)
  tuple_decide n rest r s other after same (of_parts p eq are e) =
      absurd (name_clash _ _ (comma_name n s) e (pat_no_name _ (pats_start p t.RightParen after)))

  named_gcon : (n : ℕ) → n < 15 → is_gcon (named_con n) ≡ true
  named_gcon zero most = refl
  named_gcon (suc n) most = grind (arith, nat_tests)

  pub tuple_ok : (ts : Ts) (n : ℕ) (rest : Ts) (d : ℕ) → Accepts tuple_name_form (λ n. 0) ts n rest d →
      Accepts (apat_form limit) depth_of_apat (t.LeftParen ∷ ts) (a.Con (named_con n)) rest d
  tuple_ok ts n rest d acc =
      subst (λ m. Accepts (apat_form limit) depth_of_apat (t.LeftParen ∷ ts) (a.Con (named_con n)) rest m)
      (sym acc.measured_is)
      (paren_ok (named_con n) (replicate n t.Comma ++ t.RightParen ∷ []) ts rest (named_gcon n acc.reads.good)
      (named_tokens n) acc.spelled
      (λ s other after same c. tuple_decide n rest acc.reads s other after same c))

  -- Refusals behind a `(`.
  pub paren_refused : (before bad more : Ts) (x : APatTree) → (apat_form limit).Good x
      → spelling_apat x ≡ t.LeftParen ∷ (before ++ more) →
      ((s : Ts) (other : APatTree) (after : Ts) → SameStart bad s → (apat_form limit).Good other
      → ParenCase other (before ++ s) after → ⊥) →
      Refuses (apat_form limit) (t.LeftParen ∷ before) bad
  paren_refused before bad more x good spelled decide = record {
    begun = (more, x, good, sym spelled);
    never = λ s other after same good quiet e. decide s other after same good
        (paren_cases other (before ++ s) after good.0 e);
  }

  tuple_only : (before bad : Ts) → Refuses tuple_name_form before bad → (s : Ts) (other : APatTree) (after : Ts) →
      SameStart bad s → begins starts_tuple_name (before ++ s) ≡ true → ParenCase other (before ++ s) after → ⊥
  tuple_only before bad r s other after same name (of_con m eq e) = clash starts_tuple_name _ _ name e refl
  tuple_only before bad r s other after same name (of_colon eq e) = clash starts_tuple_name _ _ name e refl
  tuple_only before bad r s other after same name (of_var m eq e) = clash starts_tuple_name _ _ name e refl
  tuple_only before bad r s other after same name (of_as m x eq is e) = clash starts_tuple_name _ _ name e refl
  tuple_only before bad r s other after same name (of_commas n eq most e) =
      r.never s n after same most (no_extends after) e
  tuple_only before bad r s other after same name (of_parts p eq are e) =
      clash starts_tuple_name _ _ name e (no_tuple _ (pats_start p t.RightParen after))
    where
      no_tuple : (xs : Ts) → starts_pat xs ≡ true → begins starts_tuple_name xs ≡ false
      no_tuple [] h = refl
      no_tuple (t.Comma ∷ xs) h = absurd (true≢false (sym h))
      no_tuple (t.RightParen ∷ xs) h = absurd (true≢false (sym h))
      no_tuple (_ ∷ xs) h = refl

  pub tuple_fails : (ts : Ts) (e : Fault) → begins starts_tuple_name ts ≡ true → Fails tuple_name_form ts e →
      Fails (apat_form limit) (t.LeftParen ∷ ts) e
  tuple_fails ts e name r =
      fails_after (apat_form limit) tuple_name_form (t.LeftParen ∷ []) (t.LeftParen ∷ ts) ts e refl
      (λ before bad split q.
      paren_refused before bad q.begun.0 (a.Con (named_con q.begun.1))
      (con_good (named_con q.begun.1) (named_gcon q.begun.1 q.begun.2))
      (con_spelled (named_con q.begun.1) ∙ named_tokens q.begun.1 ∙ ap (λ xs. t.LeftParen ∷ xs) (sym q.begun.3))
      (λ s other after same good c. tuple_only before bad q s other after same
      (begins_same starts_tuple_name _ _ (same_start_append before bad s same)
      ∙ ap (begins starts_tuple_name) (sym split) ∙ name) c)) r

  -- a symbol and no `)`
  shut_missed : (s : Ts) (rest bad : Ts) → SameStart bad s → begins is_right_paren bad ≡ false → s ≡ t.RightParen ∷ rest
      → ⊥
  shut_missed s rest bad same ends e = true≢false (sym (ap (begins is_right_paren) e)
      ∙ begins_same is_right_paren bad s same ∙ ends)

  sym_missed : (m : List ℕ) (bad s : Ts) (other : APatTree) (after : Ts) → SameStart bad s
      → begins is_right_paren bad ≡ false →
      ParenCase other (t.ConSym m ∷ s) after → ⊥
  sym_missed m bad s other after same ends (of_commas zero eq most e) = cc
  sym_missed m bad s other after same ends (of_commas (suc n) eq most e) = cc
  sym_missed m bad s other after same ends (of_con n eq e) = shut_missed s after bad same ends cc
  sym_missed m bad s other after same ends (of_colon eq e) = cc
  sym_missed m bad s other after same ends (of_var n eq e) = cc
  sym_missed m bad s other after same ends (of_as n x eq is e) = cc
  sym_missed m bad s other after same ends (of_parts p eq are e) =
      name_clash _ _ refl e (pat_no_name _ (pats_start p t.RightParen after))

  pub sym_none : (m : List ℕ) (ts next : Ts) → ts ≡ t.ConSym m ∷ next → begins is_right_paren next ≡ false →
      Rejects (apat_form limit) (t.LeftParen ∷ ts) (length next)
  sym_none m ts next at ends = record {
    before = t.LeftParen ∷ t.ConSym m ∷ [];
    bad = next;
    split = ap (λ l. t.LeftParen ∷ l) at;
    left_is = refl;
    refuses = paren_refused (t.ConSym m ∷ []) next (t.RightParen ∷ []) (a.Con (g.Sym m)) (con_good (g.Sym m) refl)
        (con_spelled (g.Sym m))
        (λ s other after same good c. sym_missed m next s other after same ends c);
  }

  colon_missed : (bad s : Ts) (other : APatTree) (after : Ts) → SameStart bad s → begins is_right_paren bad ≡ false →
      ParenCase other (t.Colon ∷ s) after → ⊥
  colon_missed bad s other after same ends (of_commas zero eq most e) = cc
  colon_missed bad s other after same ends (of_commas (suc n) eq most e) = cc
  colon_missed bad s other after same ends (of_con n eq e) = cc
  colon_missed bad s other after same ends (of_colon eq e) = shut_missed s after bad same ends cc
  colon_missed bad s other after same ends (of_var n eq e) = cc
  colon_missed bad s other after same ends (of_as n x eq is e) = cc
  colon_missed bad s other after same ends (of_parts p eq are e) =
      name_clash _ _ refl e (pat_no_name _ (pats_start p t.RightParen after))

  pub colon_none : (ts next : Ts) → ts ≡ t.Colon ∷ next → begins is_right_paren next ≡ false
      → Rejects (apat_form limit) (t.LeftParen ∷ ts) (length next)
  colon_none ts next at ends = record {
    before = t.LeftParen ∷ t.Colon ∷ [];
    bad = next;
    split = ap (λ l. t.LeftParen ∷ l) at;
    left_is = refl;
    refuses = paren_refused (t.Colon ∷ []) next (t.RightParen ∷ []) (a.Con g.Colon) (con_good g.Colon refl)
        (con_spelled g.Colon)
        (λ s other after same good c. colon_missed next s other after same ends c);
  }

  minus_behind : (m : List ℕ) (s : Ts) → starts_pat (t.VarSym m ∷ s) ≡ true → begins is_integer s ≡ true
  minus_behind m [] h = absurd (true≢false (sym h))
  minus_behind m (t.Integer n ∷ s) h = refl
  minus_behind m (_ ∷ s) h = absurd (true≢false (sym h))

  same_pat : (m : List ℕ) (bad s : Ts) → SameStart bad s → starts_pat (t.VarSym m ∷ s) ≡ starts_pat (t.VarSym m ∷ bad)
  same_pat m [] s same = ap (λ l. starts_pat (t.VarSym m ∷ l)) same
  same_pat m (k ∷ bad) s same = ap (λ l. starts_pat (t.VarSym m ∷ l)) same.1 ∙ two m k same.0 bad
    where
      two : (m : List ℕ) (k : Terminal) (xs ys : Ts)
          → starts_pat (t.VarSym m ∷ k ∷ xs) ≡ starts_pat (t.VarSym m ∷ k ∷ ys)
      two m (t.Integer n) xs ys = refl
      two m _ xs ys = refl

  -- a symbol, and neither `)` nor, behind `-`, an integer
  op_missed : (m : List ℕ) (bad s : Ts) (other : APatTree) (after : Ts) → SameStart bad s
      → begins is_right_paren bad ≡ false →
      starts_pat (t.VarSym m ∷ bad) ≡ false → ParenCase other (t.VarSym m ∷ s) after → ⊥
  op_missed m bad s other after same ends missed (of_commas zero eq most e) = cc
  op_missed m bad s other after same ends missed (of_commas (suc n) eq most e) = cc
  op_missed m bad s other after same ends missed (of_con n eq e) = cc
  op_missed m bad s other after same ends missed (of_colon eq e) = cc
  op_missed m bad s other after same ends missed (of_var n eq e) = shut_missed s after bad same ends cc
  op_missed m bad s other after same ends missed (of_as n x eq is e) =
      shut_missed s (t.At ∷ (spelling_apat x ++ after)) bad same ends cc
  op_missed m bad s other after same ends missed (of_parts p eq are e) =
      true≢false (sym (ap starts_pat e ∙ pats_start p t.RightParen after) ∙ same_pat m bad s same ∙ missed)

  pub op_none : (m : List ℕ) (ts next : Ts) → ts ≡ t.VarSym m ∷ next → begins is_right_paren next ≡ false
      → starts_pat ts ≡ false →
      Rejects (apat_form limit) (t.LeftParen ∷ ts) (length next)
  op_none m ts next at ends missed = record {
    before = t.LeftParen ∷ t.VarSym m ∷ [];
    bad = next;
    split = ap (λ l. t.LeftParen ∷ l) at;
    left_is = refl;
    refuses = paren_refused (t.VarSym m ∷ []) next (t.RightParen ∷ []) (a.Var (v.Sym m)) (var_good (v.Sym m))
        (var_spelled (v.Sym m))
        (λ s other after same good c. op_missed m next s other after same ends (ap starts_pat (sym at) ∙ missed) c);
  }

  parts_deeper : (p : Pats) (other : APatTree) → (Within limit 1 → ⊥) → other ≡ a.Parts p.0 p.1
      → Within limit (depth_of_apat other) → ⊥
  parts_deeper p other over eq within =
      over (within_less limit 1 _ (omega arith) (subst (Within limit) (ap depth_of_apat eq ∙ parts_deep p) within))

  -- `(- 1` where no depth is left
  minus_deep : (m : List ℕ) (bad s : Ts) (other : APatTree) (after : Ts) → SameStart bad s
      → begins is_integer bad ≡ true → (Within limit 1 → ⊥) →
      (apat_form limit).Good other → ParenCase other (t.VarSym m ∷ s) after → ⊥
  minus_deep m bad s other after same int over good (of_commas zero eq most e) = cc
  minus_deep m bad s other after same int over good (of_commas (suc n) eq most e) = cc
  minus_deep m bad s other after same int over good (of_con n eq e) = cc
  minus_deep m bad s other after same int over good (of_colon eq e) = cc
  minus_deep m bad s other after same int over good (of_var n eq e) =
      let e' : s ≡ t.RightParen ∷ after = cc in clash is_integer s (t.RightParen ∷ after)
      (begins_same is_integer bad s same ∙ int) e' refl
  minus_deep m bad s other after same int over good (of_as n x eq is e) =
      let e' : s ≡ t.RightParen ∷ t.At ∷ (spelling_apat x ++ after) = cc in
      clash is_integer s (t.RightParen ∷ t.At ∷ (spelling_apat x ++ after)) (begins_same is_integer bad s same
      ∙ int) e' refl
  minus_deep m bad s other after same int over good (of_parts p eq are e) = parts_deeper p other over eq good.1

  pub minus_over : (m : List ℕ) (ts next : Ts) → ts ≡ t.VarSym m ∷ next → starts_pat ts ≡ true → (Within limit 1 → ⊥) →
      Rejects (apat_form limit) (t.LeftParen ∷ ts) (length next)
  minus_over m ts next at starts over = record {
    before = t.LeftParen ∷ t.VarSym m ∷ [];
    bad = next;
    split = ap (λ l. t.LeftParen ∷ l) at;
    left_is = refl;
    refuses = paren_refused (t.VarSym m ∷ []) next (t.RightParen ∷ []) (a.Var (v.Sym m)) (var_good (v.Sym m))
        (var_spelled (v.Sym m))
        (λ s other after same good c. minus_deep m next s other after same
        (minus_behind m next (ap starts_pat (sym at) ∙ starts)) over good c);
  }

  pub name_opens : (ts : Ts) → begins opens_name ts ≡ false → is_name ts ≡ false
  name_opens [] h = refl
  name_opens (t.VarSym n ∷ ts) h = absurd (true≢false h)
  name_opens (t.RightParen ∷ ts) h = absurd (true≢false h)
  name_opens (t.Comma ∷ ts) h = absurd (true≢false h)
  name_opens (t.ConSym n ∷ ts) h = absurd (true≢false h)
  name_opens (t.Colon ∷ ts) h = absurd (true≢false h)
  name_opens (_ ∷ ts) h = refl

  pub paren_over : (ts : Ts) → begins opens_name ts ≡ false → (Within limit 1 → ⊥)
      → Rejects (apat_form limit) (t.LeftParen ∷ ts) (length ts)
  paren_over ts ends over = record {
    before = t.LeftParen ∷ [];
    bad = ts;
    split = refl;
    left_is = refl;
    refuses = paren_refused [] ts (t.RightParen ∷ []) (a.Con g.Unit) (con_good g.Unit refl) (con_spelled g.Unit)
        (λ s other after same good c. deep s other after good
        (name_opens s (begins_same opens_name ts s same ∙ ends)) c);
  }
    where
      deep : (s : Ts) (other : APatTree) (after : Ts) → (apat_form limit).Good other → is_name s ≡ false
          → ParenCase other s after → ⊥
      deep s other after good missed (of_commas n eq most e) = name_clash _ _ (comma_name n after) (sym e) missed
      deep s other after good missed (of_con n eq e) = name_clash _ _ refl (sym e) missed
      deep s other after good missed (of_colon eq e) = name_clash _ _ refl (sym e) missed
      deep s other after good missed (of_var n eq e) = name_clash _ _ refl (sym e) missed
      deep s other after good missed (of_as n x eq is e) = name_clash _ _ refl (sym e) missed
      deep s other after good missed (of_parts p eq are e) = parts_deeper p other over eq good.1

  -- `(` and the end
  pub paren_end : (ts : Ts) → length ts ≡ 0 → Rejects (apat_form limit) (t.LeftParen ∷ ts) 0
  paren_end [] none = record {
    before = t.LeftParen ∷ [];
    bad = [];
    split = refl;
    left_is = refl;
    refuses = paren_refused [] [] (t.RightParen ∷ []) (a.Con g.Unit) (con_good g.Unit refl) (con_spelled g.Unit)
        (λ s other after same good c. at_end s other after same c);
  }
    where
      at_end : (s : Ts) (other : APatTree) (after : Ts) → s ≡ [] → ParenCase other s after → ⊥
      at_end s other after same (of_commas n eq most e) = name_clash _ _ (comma_name n after) (sym e) (ap is_name same)
      at_end s other after same (of_con n eq e) = name_clash _ _ refl (sym e) (ap is_name same)
      at_end s other after same (of_colon eq e) = name_clash _ _ refl (sym e) (ap is_name same)
      at_end s other after same (of_var n eq e) = name_clash _ _ refl (sym e) (ap is_name same)
      at_end s other after same (of_as n x eq is e) = name_clash _ _ refl (sym e) (ap is_name same)
      at_end s other after same (of_parts p eq are e) =
          true≢false (sym (ap starts_pat e ∙ pats_start p t.RightParen after) ∙ ap starts_pat same)
  paren_end (x ∷ ts) none = absurd (omega arith)
