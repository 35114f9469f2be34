-- No tokens are those of two kinds of left sides, whatever stands behind them that goes on no left side.
use Rattle.std.proofs.Common.{◌≡◌, ℕ, zero, suc, ◌≤◌, Bool, true, false, List, [], ◌∷◌, ◌++◌, length, refl, sym, ap}
use Rattle.std.proofs.Common.{◌∙◌, arith, append_assoc, length-append, le_refl, true≢false, inl, inr}
use Rattle.std.specs.Prelude.{flat_map, nat_lt}
use Rattle.hs_forms.specs.Reading.{begins}
use Rattle.hs_forms.proofs.FormLemmas.{begins_append, begins_apart, begins_within, same_start_self}
use Rattle.hs_forms.proofs.LimitLemmas.{and_left, and_right, or_left}
use Rattle.hs_tokens.specs.Terminals.{is_at, is_backquote, is_var_sym, starts_qconop}
use Rattle.hs_tokens.specs.declared.terminal.Terminal.TheVariants as t
use Rattle.hs_trees.specs.Patterns.{Ts, var_tokens, gcon_tokens, qconop_tokens, spelling_apat, spelling_lpat}
use Rattle.hs_trees.specs.Patterns.{spelling_op, spelling_pat, spelling_apats, is_apat, is_gcon, is_lpat}
use Rattle.hs_trees.specs.Patterns.{is_pat, are_apats, starts_apat, APats}
use Rattle.hs_trees.specs.declared.patterns.VarTree.{VarTree}
use Rattle.hs_trees.specs.declared.patterns.VarTree.TheVariants as v
use Rattle.hs_trees.specs.declared.patterns.GConTree.{GConTree}
use Rattle.hs_trees.specs.declared.patterns.GConTree.TheVariants as g
use Rattle.hs_trees.specs.declared.patterns.QConOpTree.{QConOpTree}
use Rattle.hs_trees.specs.declared.patterns.QConOpTree.TheVariants as q
use Rattle.hs_trees.specs.declared.patterns.APatTree.{APatTree}
use Rattle.hs_trees.specs.declared.patterns.APatTree.TheVariants as a
use Rattle.hs_trees.specs.declared.patterns.LPatTree.{LPatTree}
use Rattle.hs_trees.specs.declared.patterns.OpLPat.{OpLPat, out-OpLPat, roll-out-OpLPat}
use Rattle.hs_trees.specs.declared.patterns.PatTree.{PatTree, out-PatTree, roll-out-PatTree}
use Rattle.hs_trees.proofs.PatternLayerLemmas.{apat_starts, var_starts, op_starts, op_spelled, pat_spelled, pat_is}
use Rattle.hs_trees.proofs.PatternLayerLemmas.{starts_pat_append}
use Rattle.hs_trees.proofs.PatternCaseLemmas.{is_left_paren, is_var, is_name, pat_no_name, con_spelled, con_is}
use Rattle.hs_trees.proofs.PatternCaseLemmas.{ParenCase}
use Rattle.hs_trees.proofs.PatternCaseLemmas.{of_commas, of_con, of_colon, of_var, of_as, of_parts, paren_cases}
use Rattle.hs_trees.proofs.PatternCaseLemmas.{VarCase, of_name, of_bound, var_cases}
use Rattle.hs_trees.proofs.PatternChainLemmas.{apat_apart, op_apart}
use Rattle.hs_trees.proofs.PatternAtomLemmas.{comma_name}
use Rattle.hs_trees.proofs.PatternLPatLemmas.{LPatCase, of_negative, of_apply, of_alone, lpat_cases}
use Rattle.hs_trees.proofs.PatternUniqueLemmas.{lpat_all, apats_all, upto}
use Rattle.hs_modules.specs.Words.{varop_tokens}
use Rattle.hs_modules.specs.Tokens.{spelling_fun_lhs}
use Rattle.hs_modules.specs.Formed.{is_fun_lhs}
use Rattle.hs_modules.specs.declared.names.VarOpTree.{VarOpTree}
use Rattle.hs_modules.specs.declared.names.VarOpTree.TheVariants as o
use Rattle.hs_modules.specs.declared.expressions.FunLhsTree.{FunLhsTree}
use Rattle.hs_declaration_forms.proofs.MergeLemmas.{Side, of_one, of_two}
use Rattle.hs_left_forms.specs.Lefts.{lpat_goes, left_goes, PrefixParts, InfixParts, WrappedParts, prefixes, infixes}
use Rattle.hs_left_forms.specs.Lefts.{bare, wrapped}
use Rattle.hs_left_forms.proofs.LayerLemmas.{make_bare, make_wrapped, prefix_spelled, infix_spelled, wrapped_spelled}
use Rattle.hs_left_forms.proofs.LayerLemmas.{function_cases, function_starts}

-- nothing stands here by which a left side goes on
abbrev pub Quiet : Ts → Type 0
Quiet s = begins left_goes s ≡ false

-- what goes on no left side goes on no `lpat`
pub quiet_lpat : (s : Ts) → Quiet s → begins lpat_goes s ≡ false
quiet_lpat s h = begins_within left_goes lpat_goes s (λ k e. or_left (lpat_goes k) _ e) h

-- a variable's symbol stands second
abbrev second_sym : Ts → Bool
second_sym (k ∷ t.VarSym n ∷ ts) = true
second_sym _ = false

-- a variable's name stands second
abbrev second_var : Ts → Bool
second_var (k ∷ t.Var n ∷ ts) = true
second_var _ = false

-- no name of a variable is one of a constructor
gcon_no_var : (x : VarTree) (c : GConTree) (s r : Ts) → var_tokens x ++ s ≡ gcon_tokens c ++ r → ⊥
gcon_no_var (v.Id n) g.Unit s r e = true≢false (ap (begins is_var) e)
gcon_no_var (v.Id n) g.List s r e = true≢false (ap (begins is_var) e)
gcon_no_var (v.Id n) (g.Tuple m) s r e = true≢false (ap (begins is_var) e)
gcon_no_var (v.Id n) (g.Con m) s r e = true≢false (ap (begins is_var) e)
gcon_no_var (v.Id n) (g.Sym m) s r e = true≢false (ap (begins is_var) e)
gcon_no_var (v.Id n) g.Colon s r e = true≢false (ap (begins is_var) e)
gcon_no_var (v.Sym n) g.Unit s r e = true≢false (ap second_sym e)
gcon_no_var (v.Sym n) g.List s r e = true≢false (ap (begins is_left_paren) e)
gcon_no_var (v.Sym n) (g.Tuple zero) s r e = true≢false (ap second_sym e)
gcon_no_var (v.Sym n) (g.Tuple (suc m)) s r e = true≢false (ap second_sym e)
gcon_no_var (v.Sym n) (g.Con m) s r e = true≢false (ap (begins is_left_paren) e)
gcon_no_var (v.Sym n) (g.Sym m) s r e = true≢false (ap second_sym e)
gcon_no_var (v.Sym n) g.Colon s r e = true≢false (ap second_sym e)

-- an argument stands behind a name
args_start : (p : APats) (s : Ts) → begins starts_apat (spelling_apats p ++ s) ≡ true
args_start p s =
    begins_append starts_apat (spelling_apats p) s (begins_append starts_apat (spelling_apat p.0) _ (apat_starts p.0))

-- what begins an argument is no `@`
no_at : (s : Ts) → begins starts_apat s ≡ true → begins is_at s ≡ false
no_at [] h = refl
no_at (k ∷ s) h = apat_apart k h

-- No `lpat` begins with a name and an argument.
pub named_apart : (x : VarTree) (p : APats) (s : Ts) (l : LPatTree) (tail : Ts) → is_lpat l ≡ true →
    begins lpat_goes tail ≡ false → var_tokens x ++ (spelling_apats p ++ s) ≡ spelling_lpat l ++ tail → ⊥
named_apart x p s l tail is quiet e = by (lpat_cases l _ tail is e)
  where
    by : LPatCase l (var_tokens x ++ (spelling_apats p ++ s)) tail → ⊥
    by (of_negative n same at) =
        true≢false (sym (begins_append starts_apat (var_tokens x) _ (var_starts x)) ∙ ap (begins starts_apat) at)
    by (of_apply c r same good at) =
        gcon_no_var x c _ (spelling_apats r ++ tail)
        (at ∙ ap (λ l. l ++ (spelling_apats r ++ tail)) (con_spelled c))
    by (of_alone y same good at) = bound (var_cases x y (spelling_apats p ++ s) tail good at)
      where
        bound : VarCase x y (spelling_apats p ++ s) tail → ⊥
        bound (of_name eq same) =
            true≢false (sym (ap (begins starts_apat) same ∙ args_start p s)
            ∙ begins_within lpat_goes starts_apat tail (λ k h. or_left (starts_apat k) _ h) quiet)
        bound (of_bound z eq h at') =
            true≢false (sym (ap (begins is_at) at') ∙ no_at (spelling_apats p ++ s) (args_start p s))

-- Two `lpat`s before what goes on none are one, if their tokens are the same.
pub one_lpat : (x y : LPatTree) (s r : Ts) → is_lpat x ≡ true → is_lpat y ≡ true → begins lpat_goes s ≡ false →
    begins lpat_goes r ≡ false → spelling_lpat x ++ s ≡ spelling_lpat y ++ r → (y ≡ x) × (r ≡ s)
one_lpat x y s r is it quiet_s quiet_r e =
    let n = length (spelling_lpat x) in
    (lpat_all n (upto n) x (le_refl n) is s quiet_s).only s y r (same_start_self s) (it, tt) quiet_r e

-- the same of arguments
pub one_apats : (x y : APats) (s r : Ts) → are_apats x ≡ true → are_apats y ≡ true → begins lpat_goes s ≡ false →
    begins lpat_goes r ≡ false → spelling_apats x ++ s ≡ spelling_apats y ++ r → (y ≡ x) × (r ≡ s)
one_apats x y s r is it quiet_s quiet_r e =
    let n = length (spelling_apats x) in
    (apats_all n (upto n) x (le_refl n) is s quiet_s).only s y r (same_start_self s) (it, tt) quiet_r e

-- no `lpat` goes on with a variable operator
pub varop_quiet : (x : VarOpTree) (s : Ts) → begins lpat_goes (varop_tokens x ++ s) ≡ false
varop_quiet (o.Sym n) s = refl
varop_quiet (o.Quoted n) s = refl

-- a left side may go on with a variable operator
varop_goes : (x : VarOpTree) (s : Ts) → begins left_goes (varop_tokens x ++ s) ≡ true
varop_goes (o.Sym n) s = refl
varop_goes (o.Quoted n) s = refl

-- a variable operator is no constructor operator
no_qconop : (x : VarOpTree) (y : QConOpTree) (s r : Ts) → varop_tokens x ++ s ≡ qconop_tokens y ++ r → ⊥
no_qconop (o.Sym n) (q.Sym m) s r e = true≢false (ap (begins is_var_sym) e)
no_qconop (o.Sym n) q.Colon s r e = true≢false (ap (begins is_var_sym) e)
no_qconop (o.Sym n) (q.Quoted m) s r e = true≢false (ap (begins is_var_sym) e)
no_qconop (o.Quoted n) (q.Sym m) s r e = true≢false (ap (begins is_backquote) e)
no_qconop (o.Quoted n) q.Colon s r e = true≢false (ap (begins is_backquote) e)
no_qconop (o.Quoted n) (q.Quoted m) s r e = true≢false (ap second_var e)

-- what stands behind the first operand of a pattern goes on no `lpat`
ops_quiet : (xs : List OpLPat) (s : Ts) → Quiet s → begins lpat_goes (flat_map spelling_op xs ++ s) ≡ false
ops_quiet [] s h = quiet_lpat s h
ops_quiet (x ∷ xs) s h =
    begins_apart starts_qconop lpat_goes (flat_map spelling_op (x ∷ xs)) s op_apart
    (begins_append starts_qconop (spelling_op x) _ (op_starts x))

-- no variable operator stands behind the first operand of a pattern
ops_no_varop : (x : VarOpTree) (more : Ts) (xs : List OpLPat) (s : Ts) → Quiet s →
    varop_tokens x ++ more ≡ flat_map spelling_op xs ++ s → ⊥
ops_no_varop x more [] s h e = true≢false (sym (varop_goes x more) ∙ ap (begins left_goes) e ∙ h)
ops_no_varop x more (y ∷ ys) s h e =
    let z = out-OpLPat y in
    let spelled : spelling_op y ≡ qconop_tokens z.op ++ spelling_lpat z.pat =
    ap spelling_op (sym (roll-out-OpLPat y)) ∙ op_spelled z in
    no_qconop x z.op more (spelling_lpat z.pat ++ (flat_map spelling_op ys ++ s))
    (e ∙ ap (λ l. (l ++ flat_map spelling_op ys) ++ s) spelled ∙ simp append_assoc)

-- a pattern's first operand
first_of : PatTree → LPatTree
first_of p = (out-PatTree p).first

-- the operators and operands of a pattern behind its first operand
ops_of : PatTree → List OpLPat
ops_of p = (out-PatTree p).rest

-- a pattern is its first operand and what stands behind it
pat_parts : (p : PatTree) (s : Ts) → spelling_pat p ++ s ≡ spelling_lpat (first_of p) ++
    (flat_map spelling_op (ops_of p) ++ s)
unfolding first_of ops_of
pat_parts p s =
    ap (λ l. l ++ s) (ap spelling_pat (sym (roll-out-PatTree p)) ∙ pat_spelled (out-PatTree p))
    ∙ append_assoc (spelling_lpat (out-PatTree p).first) (flat_map spelling_op (out-PatTree p).rest) s

-- the first operand of a well formed pattern is well formed
first_formed : (p : PatTree) → is_pat p ≡ true → is_lpat (first_of p) ≡ true
unfolding first_of
first_formed p h =
    and_left (is_lpat (out-PatTree p).first) _ (sym (pat_is (out-PatTree p)) ∙ ap is_pat (roll-out-PatTree p) ∙ h)

-- no pattern is a left side with a name and arguments
prefix_no_pat : (f : PrefixParts) (p : PatTree) (s r : Ts) → is_pat p ≡ true → Quiet r →
    prefixes.tokens f ++ s ≡ spelling_pat p ++ r → ⊥
prefix_no_pat f p s r is quiet e =
    named_apart f.0 f.1 s (first_of p) (flat_map spelling_op (ops_of p) ++ r) (first_formed p is)
    (ops_quiet (ops_of p) r quiet) (sym (append_assoc (var_tokens f.0) (spelling_apats f.1) s) ∙ e ∙ pat_parts p r)

-- no pattern is a left side with a variable operator
infix_no_pat : (f : InfixParts) (p : PatTree) (s r : Ts) → infixes.formed f ≡ true → is_pat p ≡ true → Quiet r →
    infixes.tokens f ++ s ≡ spelling_pat p ++ r → ⊥
infix_no_pat f p s r good is quiet e =
    let behind : Ts = varop_tokens f.1.0 ++ (spelling_lpat f.1.1 ++ s) in
    let split : infixes.tokens f ++ s ≡ spelling_lpat f.0 ++ behind = simp append_assoc in
    let found = one_lpat f.0 (first_of p) behind (flat_map spelling_op (ops_of p) ++ r)
    (and_left (is_lpat f.0) _ good) (first_formed p is) (varop_quiet f.1.0 _) (ops_quiet (ops_of p) r quiet)
    (sym split ∙ e ∙ pat_parts p r) in
    ops_no_varop f.1.0 (spelling_lpat f.1.1 ++ s) (ops_of p) r quiet (sym found.1)

-- No pattern, before what goes on none, has the tokens of this left side.
abbrev pub NoPattern : FunLhsTree → Type 0
NoPattern x =
    (p : PatTree) (s r : Ts) → is_pat p ≡ true → Quiet s → Quiet r → spelling_fun_lhs x ++ s ≡ spelling_pat p ++ r → ⊥

-- No name in brackets begins as such a left side does.
unnamed : (x : FunLhsTree) (s : Ts) → is_name (spelling_fun_lhs x ++ s) ≡ false
unnamed x s = pat_no_name _ (starts_pat_append (spelling_fun_lhs x) s (function_starts x))

-- what is no name in brackets is none that is one
name_clash : (xs ys : Ts) → xs ≡ ys → is_name xs ≡ false → is_name ys ≡ true → ⊥
name_clash xs ys e h k = true≢false (sym k ∙ ap is_name (sym e) ∙ h)

-- brackets about such a left side are no `apat`
pub brackets_no_apat : (x : FunLhsTree) → NoPattern x → (s : Ts) (y : APatTree) (r : Ts) → is_apat y ≡ true →
    t.LeftParen ∷ (spelling_fun_lhs x ++ t.RightParen ∷ s) ≡ spelling_apat y ++ r → ⊥
brackets_no_apat x none s y r is e = by (paren_cases y _ r is e)
  where
    by : ParenCase y (spelling_fun_lhs x ++ t.RightParen ∷ s) r → ⊥
    by (of_commas n eq most at) = name_clash _ _ at (unnamed x _) (comma_name n r)
    by (of_con n eq at) = name_clash _ _ at (unnamed x _) refl
    by (of_colon eq at) = name_clash _ _ at (unnamed x _) refl
    by (of_var n eq at) = name_clash _ _ at (unnamed x _) refl
    by (of_as n z eq h at) = name_clash _ _ at (unnamed x _) refl
    by (of_parts ps eq h at) =
        none ps.0 (t.RightParen ∷ s) (flat_map (λ z. t.Comma ∷ spelling_pat z) ps.1 ++ t.RightParen ∷ r)
        (and_left (is_pat ps.0) _ (and_right (nat_lt (length ps.1) 15) _ h)) refl (commas_quiet ps.1 r)
        (at ∙ simp append_assoc)
      where
        commas_quiet : (zs : List PatTree) (r : Ts) →
            Quiet (flat_map (λ z. t.Comma ∷ spelling_pat z) zs ++ t.RightParen ∷ r)
        commas_quiet [] r = refl
        commas_quiet (z ∷ zs) r = refl

-- brackets about such a left side begin no `lpat`
pub brackets_no_lpat : (x : FunLhsTree) → NoPattern x → (s : Ts) (l : LPatTree) (r : Ts) → is_lpat l ≡ true →
    t.LeftParen ∷ (spelling_fun_lhs x ++ t.RightParen ∷ s) ≡ spelling_lpat l ++ r → ⊥
brackets_no_lpat x none s l r is e = by (lpat_cases l _ r is e)
  where
    by : LPatCase l (t.LeftParen ∷ (spelling_fun_lhs x ++ t.RightParen ∷ s)) r → ⊥
    by (of_negative n same at) = true≢false (ap (begins starts_apat) at)
    by (of_apply c ps same good at) =
        brackets_no_apat x none s (a.Con c) (spelling_apats ps ++ r) (con_is c ∙ and_left (is_gcon c) _ good) at
    by (of_alone y same good at) = brackets_no_apat x none s y r good at

-- a left side in brackets, with what stands behind it
pub wrapped_split : (f : WrappedParts) (s : Ts) → wrapped.tokens f ++ s ≡ t.LeftParen ∷
    (spelling_fun_lhs f.0 ++ t.RightParen ∷ (spelling_apats f.1 ++ s))
wrapped_split f s = simp append_assoc

-- no pattern is a left side in brackets with more arguments
wrapped_no_pat : (f : WrappedParts) → NoPattern f.0 → (p : PatTree) (s r : Ts) → is_pat p ≡ true →
    wrapped.tokens f ++ s ≡ spelling_pat p ++ r → ⊥
wrapped_no_pat f none p s r is e =
    brackets_no_lpat f.0 none (spelling_apats f.1 ++ s) (first_of p) (flat_map spelling_op (ops_of p) ++ r)
    (first_formed p is) (sym (wrapped_split f s) ∙ e ∙ pat_parts p r)

-- by the number of tokens
no_pattern_by : (n : ℕ) (x : FunLhsTree) → Side bare wrapped make_bare make_wrapped x →
    length (spelling_fun_lhs x) ≤ n → NoPattern x
no_pattern_by n x (of_one (inl f) same h) short p s r is quiet_s quiet_r e =
    prefix_no_pat f p s r is quiet_r (ap (λ l. l ++ s) (sym (ap spelling_fun_lhs same ∙ prefix_spelled f)) ∙ e)
no_pattern_by n x (of_one (inr f) same h) short p s r is quiet_s quiet_r e =
    infix_no_pat f p s r h is quiet_r (ap (λ l. l ++ s) (sym (ap spelling_fun_lhs same ∙ infix_spelled f)) ∙ e)
no_pattern_by zero x (of_two f same h) short p s r is quiet_s quiet_r e =
    omega (arith, ap length (ap spelling_fun_lhs same ∙ wrapped_spelled f), short)
no_pattern_by (suc n) x (of_two f same h) short p s r is quiet_s quiet_r e =
    let len : length (spelling_fun_lhs f.0) ≤ n =
    omega (
      arith,
      ap length (ap spelling_fun_lhs same ∙ wrapped_spelled f),
      length-append (t.LeftParen ∷ (spelling_fun_lhs f.0 ++ t.RightParen ∷ [])) (spelling_apats f.1),
      length-append (spelling_fun_lhs f.0) (t.RightParen ∷ []),
      short,
    ) in
    let good = and_left (is_fun_lhs f.0) _ h in
    wrapped_no_pat f (no_pattern_by n f.0 (function_cases f.0 good) len) p s r is
    (ap (λ l. l ++ s) (sym (ap spelling_fun_lhs same ∙ wrapped_spelled f)) ∙ e)

-- No well formed left side of a function is a pattern, before what goes on neither.
pub no_pattern : (x : FunLhsTree) → is_fun_lhs x ≡ true → NoPattern x
no_pattern x good = no_pattern_by (length (spelling_fun_lhs x)) x (function_cases x good) (le_refl _)

-- a name with arguments is no operator between operands
pub prefix_no_infix : (f : PrefixParts) (h : InfixParts) (s r : Ts) → infixes.formed h ≡ true →
    prefixes.tokens f ++ s ≡ infixes.tokens h ++ r → ⊥
prefix_no_infix f h s r good e =
    named_apart f.0 f.1 s h.0 (varop_tokens h.1.0 ++ (spelling_lpat h.1.1 ++ r)) (and_left (is_lpat h.0) _ good)
    (varop_quiet h.1.0 _) (sym (append_assoc (var_tokens f.0) (spelling_apats f.1) s) ∙ e ∙ simp append_assoc)

-- a name with arguments is no left side in brackets
pub prefix_no_wrapped : (f : PrefixParts) (h : WrappedParts) (s r : Ts) →
    prefixes.tokens f ++ s ≡ wrapped.tokens h ++ r → ⊥
prefix_no_wrapped (v.Id n, p) h s r e = true≢false (ap (begins is_var) e)
prefix_no_wrapped (v.Sym n, p) h s r e =
    let at : t.VarSym n ∷ t.RightParen ∷ (spelling_apats p ++ s) ≡ spelling_fun_lhs h.0 ++ t.RightParen ∷
    (spelling_apats h.1 ++ r) = (let e' = e ∙ wrapped_split h r in cc) in
    name_clash _ _ (sym at) (unnamed h.0 _) refl

-- an operator between operands is no left side in brackets
pub infix_no_wrapped : (f : InfixParts) (h : WrappedParts) (s r : Ts) → infixes.formed f ≡ true →
    wrapped.formed h ≡ true → infixes.tokens f ++ s ≡ wrapped.tokens h ++ r → ⊥
infix_no_wrapped f h s r good is e =
    brackets_no_lpat h.0 (no_pattern h.0 (and_left (is_fun_lhs h.0) _ is)) (spelling_apats h.1 ++ r) f.0
    ((varop_tokens f.1.0 ++ spelling_lpat f.1.1) ++ s) (and_left (is_lpat f.0) _ good)
    (sym (wrapped_split h r) ∙ sym e ∙ append_assoc (spelling_lpat f.0) _ s)
