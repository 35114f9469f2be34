-- At most one pattern is spelled by a list of tokens, whatever its depth.
use Rattle.std.proofs.Common.{◌≡◌, ℕ, zero, suc, ◌+◌, ◌<◌, ◌≤◌, true, false, List, [], ◌∷◌, ◌++◌, length, refl, sym, ap}
use Rattle.std.proofs.Common.{◌∙◌, subst, arith, length-append, le_refl, true≢false}
use Rattle.std.specs.Prelude.{flat_map, replicate, ◌||◌, nat_lt, Option, Some, None}
use Rattle.std.proofs.lemmas.Bool.Decides.{nat_tests}
use Rattle.hs_forms.specs.Reading.{begins, Reads}
use Rattle.hs_forms.specs.Limits.{Within}
use Rattle.hs_forms.specs.Answers.{Accepts}
use Rattle.hs_trees.specs.Types.{tuple_name_form}
use Rattle.hs_forms.specs.Whole.{Spells}
use Rattle.hs_tokens.specs.Terminals.{is_at, is_comma, is_right_paren, starts_qconop, minus}
use Rattle.hs_trees.specs.Patterns.{Ts, gcon_tokens, qconop_tokens, var_tokens, literal_token, spelling_apat}
use Rattle.hs_trees.specs.Patterns.{spelling_lpat, spelling_op, spelling_pat, is_gcon, is_apat, is_lpat, is_op, is_pat}
use Rattle.hs_trees.specs.Patterns.{starts_apat, APats, spelling_apats, are_apats, Pats, spelling_pats, apat_form}
use Rattle.hs_trees.specs.Patterns.{apats_form, lpat_form, pat_form, pats_form}
use Rattle.hs_tokens.specs.declared.terminal.Terminal.TheVariants as t
use Rattle.hs_trees.specs.declared.patterns.GConTree.{GConTree}
use Rattle.hs_trees.specs.declared.patterns.GConTree.TheVariants as g
use Rattle.hs_trees.specs.declared.patterns.APatTree.{APatTree, APatTree-F, out-APatTree, roll-APatTree}
use Rattle.hs_trees.specs.declared.patterns.APatTree.{roll-out-APatTree}
use Rattle.hs_trees.specs.declared.patterns.APatTree.TheVariants as a
use Rattle.hs_trees.specs.declared.patterns.LPatTree.{LPatTree, LPatTree-F, out-LPatTree, roll-LPatTree}
use Rattle.hs_trees.specs.declared.patterns.LPatTree.{roll-out-LPatTree}
use Rattle.hs_trees.specs.declared.patterns.LPatTree.TheVariants as lp
use Rattle.hs_trees.specs.declared.patterns.OpLPat.{OpLPat, out-OpLPat, roll-out-OpLPat}
use Rattle.hs_trees.specs.declared.patterns.PatTree.{PatTree, out-PatTree, roll-PatTree, roll-out-PatTree}
use Rattle.hs_forms.specs.Forms.{item_form}
use Rattle.hs_forms.proofs.FormLemmas.{begins_within, reads_behind, reads_closed}
use Rattle.std.proofs.lemmas.Bool.{and_from}
use Rattle.hs_forms.proofs.LimitLemmas.{and_left, and_right, within_less, or_left, or_right}
use Rattle.hs_forms.proofs.WholeChainLemmas.{chain_all, all_less, part_length}
use Rattle.hs_forms.proofs.WholeChainLemmas.{begins_length}
use Rattle.hs_forms.proofs.VariantLemmas.{lead_reads}
use Rattle.hs_forms.proofs.CommaLemmas.{commas_ok}
use Rattle.hs_trees.proofs.PatternLayerLemmas.{ALayer, LLayer, PLayer, apat_starts, op_spelled, op_is, pat_spelled}
use Rattle.hs_trees.proofs.PatternLayerLemmas.{pat_is}
use Rattle.hs_trees.proofs.PatternCaseLemmas.{are_pats, parts_spelled, parts_are, list_spelled, list_are, as_spelled}
use Rattle.hs_trees.proofs.PatternCaseLemmas.{as_is, lazy_spelled, lazy_is, con_is}
use Rattle.hs_trees.proofs.PatternAtomLemmas.{var_read, as_leads, lazy_leads, wild_ok, con_ok, literal_ok, sym_ok}
use Rattle.hs_trees.proofs.PatternAtomLemmas.{colon_ok, tuple_ok}
use Rattle.hs_trees.proofs.PatternBracketLemmas.{parts_read, list_read, nil_ok}
use Rattle.hs_trees.proofs.PatternChainLemmas.{make_pat, comma_pats, apats_chain, pat_chain, pats_chain}
use Rattle.hs_trees.proofs.PatternLPatLemmas.{minus_ok, alone_read, applied_read, apply_spelled, apply_is}
use Rattle.hs_trees.proofs.PatternLPatLemmas.{alone_spelled, alone_is}
use Rattle.hs_trees.proofs.PatternReturnLemmas.{qconop_ok, item_reads}

-- a front of a chain is one
apats_less : (h : APatTree) (ys zs : List APatTree) → (apats_form None).Good (h, ys ++ zs)
    → (apats_form None).Good (h, ys)
apats_less h ys zs good = (
  and_from _ _ (and_left (is_apat h) _ good.0)
      (all_less is_apat ys zs (and_right (is_apat h) _ good.0)),
  tt,
)

pat_less : (h : LPatTree) (ys zs : List OpLPat) → (pat_form None).Good (make_pat h (ys ++ zs))
    → (pat_form None).Good (make_pat h ys)
pat_less h ys zs good =
    let m : PLayer = record { first = h; rest = ys ++ zs } in
    let k : PLayer = record { first = h; rest = ys } in
    let both = sym (pat_is m) ∙ good.0 in
    (pat_is k ∙ and_from _ _ (and_left (is_lpat h) _ both) (all_less is_op ys zs (and_right (is_lpat h) _ both)), tt)

pats_less : (most : Option ℕ) (h : PatTree) (ys zs : List PatTree) → (pats_form most None).Good (h, ys ++ zs)
    → (pats_form most None).Good (h, ys)
pats_less most h ys zs good =
    let long = length-append ys zs in (
      within_less most (length ys) (length (ys ++ zs)) (omega arith) good.0,
      and_from _ _ (and_left (is_pat h) _ good.1) (all_less is_pat ys zs (and_right (is_pat h) _ good.1)),
      tt,
    )

name_at : (n : ℕ) (rest : Ts) → n < 15 → Accepts tuple_name_form (λ n. 0)
    (replicate n t.Comma ++ (t.RightParen ∷ rest)) n rest 0
name_at n rest most =
    commas_ok t.Comma t.RightParen is_comma is_right_paren refl refl refl 15
    (replicate n t.Comma ++ (t.RightParen ∷ rest)) n rest refl most

-- each constructor's name is read, whatever stands behind it
gcon_read : (c : GConTree) → is_gcon c ≡ true → (rest : Ts) → Reads (apat_form None) (a.Con c) rest
gcon_read g.Unit is rest = (tuple_ok None (t.RightParen ∷ rest) 0 rest 0 (name_at 0 rest (omega arith))).reads
gcon_read g.List is rest = (nil_ok None (t.RightBracket ∷ rest) rest refl).reads
gcon_read (g.Tuple zero) is rest = absurd (true≢false (sym is))
gcon_read (g.Tuple (suc n)) is rest =
    let most = and_right (nat_lt 0 (suc n)) _ is in
    (tuple_ok None (replicate (suc n) t.Comma ++ (t.RightParen ∷ rest)) (suc n) rest 0
    (name_at (suc n) rest (grind (arith, nat_tests)))).reads
gcon_read (g.Con n) is rest = (con_ok None (t.Con n ∷ rest) n rest refl).reads
gcon_read (g.Sym n) is rest = (sym_ok None n (t.ConSym n ∷ t.RightParen ∷ rest)
    (t.RightParen ∷ rest) rest refl refl).reads
gcon_read g.Colon is rest = (colon_ok None (t.Colon ∷ t.RightParen ∷ rest) (t.RightParen ∷ rest) rest refl refl).reads

-- the `apat`s of at most so many tokens are read, whatever stands behind them but `@`
abbrev pub Upto : ℕ → Type 0
Upto n = (x : APatTree) → length (spelling_apat x) ≤ n → is_apat x ≡ true → (rest : Ts) → begins is_at rest ≡ false
    → Reads (apat_form None) x rest

module _ (n : ℕ) (below : Upto n) where
  pub apats_all : (p : APats) → length (spelling_apats p) ≤ n → are_apats p ≡ true → (rest : Ts)
      → begins (λ k. starts_apat k || is_at k) rest ≡ false →
      Reads (apats_form None) p rest
  apats_all p short is rest q =
      let len = length-append (spelling_apat p.0) (flat_map spelling_apat p.1) in
      chain_all (apats_chain None) apats_less p.0 p.1 rest (is, tt) q
      (λ here quiet. below p.0 (omega arith) (and_left (is_apat p.0) _ is) here quiet)
      (λ ys x zs e k good here quiet.
      let part = part_length spelling_apat p.1 ys zs x e in below x (omega arith) good.0 here quiet)

  lpat_of : (x : LLayer) → length (spelling_lpat (roll-LPatTree x)) ≤ n → is_lpat (roll-LPatTree x) ≡ true
      → (rest : Ts) →
      begins (λ k. starts_apat k || is_at k) rest ≡ false → Reads (lpat_form None) (roll-LPatTree x) rest
  lpat_of (LPatTree-F.Negative m) short is rest q =
      subst (λ o. Reads (lpat_form None) o rest) (sym (lp.rolls-Negative m))
      (minus_ok None (t.VarSym minus ∷ t.Integer m ∷ rest) (t.Integer m ∷ rest) m rest refl refl).reads
  lpat_of (LPatTree-F.Apply c x xs) short is rest q =
      let p : APats = (x, xs) in
      let both = sym (apply_is c p) ∙ ap is_lpat (sym (lp.rolls-Apply c x xs)) ∙ is in
      let len : length (spelling_apats p) ≤ n =
      omega (
        arith,
        ap (λ o. length (spelling_lpat o)) (lp.rolls-Apply c x xs),
        ap length (apply_spelled c p),
        length-append (gcon_tokens c) (spelling_apats p),
      ) in
      subst (λ o. Reads (lpat_form None) o rest) (sym (lp.rolls-Apply c x xs))
      (applied_read None c (spelling_apats p ++ rest) p rest
      (gcon_read c (and_left (is_gcon c) _ both) (spelling_apats p ++ rest)) refl
      (apats_all p len (and_right (is_gcon c) _ both) rest q) (and_left (is_gcon c) _ both))
  lpat_of (LPatTree-F.APat x) short is rest q =
      let len : length (spelling_apat x) ≤ n =
      omega (arith, ap (λ o. length (spelling_lpat o)) (lp.rolls-APat x), ap length (alone_spelled x)) in
      subst (λ o. Reads (lpat_form None) o rest) (sym (lp.rolls-APat x))
      (alone_read None x rest
      (below x len (sym (alone_is x) ∙ ap is_lpat (sym (lp.rolls-APat x)) ∙ is) rest
      (begins_within (λ k. starts_apat k || is_at k) is_at rest (λ k e. or_right (starts_apat k) (is_at k) e) q))
      (λ c e. begins_within (λ k. starts_apat k || is_at k) starts_apat rest
      (λ k e. or_left (starts_apat k) (is_at k) e) q))

  pub lpat_all : (x : LPatTree) → length (spelling_lpat x) ≤ n → is_lpat x ≡ true → (rest : Ts) →
      begins (λ k. starts_apat k || is_at k) rest ≡ false → Reads (lpat_form None) x rest
  lpat_all x =
      subst (λ y. length (spelling_lpat y) ≤ n → is_lpat y ≡ true → (rest : Ts)
      → begins (λ k. starts_apat k || is_at k) rest ≡ false → Reads (lpat_form None) y rest)
      (roll-out-LPatTree x) (lpat_of (out-LPatTree x))

  pat_of : (x : PLayer) → length (spelling_pat (roll-PatTree x)) ≤ n → is_pat (roll-PatTree x) ≡ true → (rest : Ts) →
      begins (λ k. (starts_apat k || is_at k) || starts_qconop k) rest ≡ false
      → Reads (pat_form None) (roll-PatTree x) rest
  pat_of x short is rest q =
      let len : length (spelling_lpat x.first) + length (flat_map spelling_op x.rest) ≤ n =
      omega (arith, ap length (pat_spelled x), length-append (spelling_lpat x.first) (flat_map spelling_op x.rest)) in
      chain_all (pat_chain None) pat_less x.first x.rest rest (is, tt) q
      (λ here quiet. lpat_all x.first (omega arith) (and_left (is_lpat x.first) _ (sym (pat_is x) ∙ is)) here quiet)
      (λ ys y zs e k good here quiet.
      let part = part_length spelling_op x.rest ys zs y e in
      let z = out-OpLPat y in
      let same = roll-out-OpLPat y in
      let spelled : length (spelling_op y) ≡ length (qconop_tokens z.op) + length (spelling_lpat z.pat) =
      ap (λ o. length (spelling_op o)) (sym same) ∙ ap length (op_spelled z)
      ∙ length-append (qconop_tokens z.op) (spelling_lpat z.pat) in
      subst (λ o. Reads (item_form spelling_op ((pat_chain None).item) ((pat_chain None).inner) k) o here) same
      (item_reads None k z.op (spelling_lpat z.pat ++ here) z.pat here
      (qconop_ok z.op (qconop_tokens z.op ++ (spelling_lpat z.pat ++ here)) (spelling_lpat z.pat ++ here) refl).reads
      refl
      (lpat_all z.pat (omega arith) (sym (op_is z) ∙ ap is_op same ∙ good.0) here quiet)))

  pub pat_all : (x : PatTree) → length (spelling_pat x) ≤ n → is_pat x ≡ true → (rest : Ts) →
      begins (λ k. (starts_apat k || is_at k) || starts_qconop k) rest ≡ false → Reads (pat_form None) x rest
  pat_all x =
      subst (λ y. length (spelling_pat y) ≤ n → is_pat y ≡ true → (rest : Ts)
      → begins (λ k. (starts_apat k || is_at k) || starts_qconop k) rest ≡ false → Reads (pat_form None) y rest)
      (roll-out-PatTree x) (pat_of (out-PatTree x))

  pats_all : (most : Option ℕ) (p : Pats) → length (spelling_pats p) ≤ n → Within most (length p.1) → are_pats p ≡ true
      → (rest : Ts) →
      begins (λ k. ((starts_apat k || is_at k) || starts_qconop k) || is_comma k) rest ≡ false
      → Reads (pats_form most None) p rest
  pats_all most p short few is rest q =
      let len = length-append (spelling_pat p.0) (flat_map comma_pats p.1) in
      chain_all (pats_chain most None) (pats_less most) p.0 p.1 rest (few, is, tt) q
      (λ here quiet. pat_all p.0 (omega arith) (and_left (is_pat p.0) _ is) here quiet)
      (λ ys x zs e k good here quiet.
      let part = part_length comma_pats p.1 ys zs x e in
      reads_behind t.Comma (pat_form None) x here (pat_all x (omega arith) good.0 here quiet))

  apat_of : (x : ALayer) → length (spelling_apat (roll-APatTree x)) ≤ suc n → is_apat (roll-APatTree x) ≡ true
      → (rest : Ts) → begins is_at rest ≡ false →
      Reads (apat_form None) (roll-APatTree x) rest
  apat_of (APatTree-F.Var m) short is rest q = subst (λ o. Reads (apat_form None) o rest) (sym (a.rolls-Var m))
      (var_read None m rest q)
  apat_of (APatTree-F.As m x) short is rest q =
      let len : length (spelling_apat x) ≤ n =
      omega (
        arith,
        ap (λ o. length (spelling_apat o)) (a.rolls-As m x),
        ap length (as_spelled m x),
        length-append (var_tokens m) (t.At ∷ spelling_apat x),
      ) in
      subst (λ o. Reads (apat_form None) o rest) (sym (a.rolls-As m x))
      (lead_reads (apat_form None) (var_tokens m ++ t.At ∷ []) (apat_form None) (a.As m) (as_leads None tt m) x rest
      (below x len (sym (as_is m x) ∙ ap is_apat (sym (a.rolls-As m x)) ∙ is) rest q))
  apat_of APatTree-F.Wild short is rest q =
      subst (λ o. Reads (apat_form None) o rest) (sym a.rolls-Wild) (wild_ok None (t.Underscore ∷ rest) rest refl).reads
  apat_of (APatTree-F.Con c) short is rest q =
      subst (λ o. Reads (apat_form None) o rest) (sym (a.rolls-Con c))
      (gcon_read c (sym (con_is c) ∙ ap is_apat (sym (a.rolls-Con c)) ∙ is) rest)
  apat_of (APatTree-F.Literal x) short is rest q =
      subst (λ o. Reads (apat_form None) o rest) (sym (a.rolls-Literal x))
      (literal_ok None (literal_token x ∷ rest) x rest refl).reads
  apat_of (APatTree-F.Parts x xs) short is rest q =
      let p : Pats = (x, xs) in
      let both = sym (parts_are p) ∙ ap is_apat (sym (a.rolls-Parts x xs)) ∙ is in
      let few = and_left (nat_lt (length xs) 15) _ both in
      let lt : length xs < 15 = grind (arith, nat_tests) in
      let len : length (spelling_pats p) ≤ n =
      omega (
        arith,
        ap (λ o. length (spelling_apat o)) (a.rolls-Parts x xs),
        ap length (parts_spelled p),
        length-append (spelling_pats p) (t.RightParen ∷ []),
      ) in
      subst (λ o. Reads (apat_form None) o rest) (sym (a.rolls-Parts x xs))
      (parts_read None p rest tt
      (reads_closed (pats_form (Some 14) None) t.RightParen (λ x. refl) p rest
      (pats_all (Some 14) p len (omega arith) (and_right (nat_lt (length xs) 15) _ both) (t.RightParen ∷ rest) refl)))
  apat_of (APatTree-F.List x xs) short is rest q =
      let p : Pats = (x, xs) in
      let len : length (spelling_pats p) ≤ n =
      omega (
        arith,
        ap (λ o. length (spelling_apat o)) (a.rolls-List x xs),
        ap length (list_spelled p),
        length-append (spelling_pats p) (t.RightBracket ∷ []),
      ) in
      subst (λ o. Reads (apat_form None) o rest) (sym (a.rolls-List x xs))
      (list_read None p rest tt
      (reads_closed (pats_form None None) t.RightBracket (λ x. refl) p rest
      (pats_all None p len tt (sym (list_are p) ∙ ap is_apat (sym (a.rolls-List x xs))
      ∙ is) (t.RightBracket ∷ rest) refl)))
  apat_of (APatTree-F.Lazy x) short is rest q =
      let len : length (spelling_apat x) ≤ n =
      omega (arith, ap (λ o. length (spelling_apat o)) (a.rolls-Lazy x), ap length (lazy_spelled x)) in
      subst (λ o. Reads (apat_form None) o rest) (sym (a.rolls-Lazy x))
      (lead_reads (apat_form None) (t.Tilde ∷ []) (apat_form None) a.Lazy (lazy_leads None tt) x rest
      (below x len (sym (lazy_is x) ∙ ap is_apat (sym (a.rolls-Lazy x)) ∙ is) rest q))

pub upto : (n : ℕ) → Upto n
upto zero = λ x short is rest q. absurd (let some = begins_length starts_apat (spelling_apat x) (apat_starts x) in
    omega arith)
upto (suc n) =
    λ x. subst (λ o. length (spelling_apat o) ≤ suc n → is_apat o ≡ true → (rest : Ts) → begins is_at rest ≡ false
    → Reads (apat_form None) o rest)
    (roll-out-APatTree x) (apat_of n (upto n) (out-APatTree x))

pub one_pattern : (ts : Ts) (x y : PatTree) → Spells (pat_form None) x ts → Spells (pat_form None) y ts → y ≡ x
one_pattern ts x y one two =
    let n = length (spelling_pat x) in
    let r = pat_all n (upto n) x (le_refl n) one.1.0 [] refl in
    (r.only [] y [] refl two.1 refl (ap (λ l. l ++ []) (sym one.0 ∙ two.0))).0
