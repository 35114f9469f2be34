-- A variable with `,` or `::` behind it: so the types of variables begin, and no left side of what is bound.
use Rattle.std.proofs.Common.{◌≡◌, Bool, true, false, List, [], ◌∷◌, ◌++◌, refl, sym, ap, ◌∙◌, subst}
use Rattle.std.proofs.Common.{true≢false, append_assoc}
use Rattle.std.specs.Prelude.{zero, suc, flat_map}
use Rattle.hs_forms.specs.Reading.{begins}
use Rattle.hs_forms.proofs.FormLemmas.{begins_apart}
use Rattle.hs_tokens.specs.Terminals.{starts_qconop}
use Rattle.hs_tokens.specs.declared.terminal.Terminal.{Terminal}
use Rattle.hs_tokens.specs.declared.terminal.Terminal.TheVariants as t
use Rattle.hs_trees.specs.Patterns.{Ts, starts_pat, starts_apat, var_tokens, gcon_tokens, literal_token}
use Rattle.hs_trees.specs.Patterns.{spelling_apat, spelling_lpat, spelling_op, spelling_pat}
use Rattle.hs_trees.specs.declared.patterns.APatTree.{APatTree, APatTree-F, out-APatTree, roll-out-APatTree}
use Rattle.hs_trees.specs.declared.patterns.LPatTree.{LPatTree, LPatTree-F, out-LPatTree, roll-out-LPatTree}
use Rattle.hs_trees.specs.declared.patterns.OpLPat.{OpLPat}
use Rattle.hs_trees.specs.declared.patterns.PatTree.{PatTree, out-PatTree, roll-out-PatTree}
use Rattle.hs_trees.specs.declared.patterns.GConTree.{GConTree}
use Rattle.hs_trees.specs.declared.patterns.GConTree.TheVariants as g
use Rattle.hs_trees.specs.declared.patterns.LiteralTree.{LiteralTree}
use Rattle.hs_trees.specs.declared.patterns.LiteralTree.TheVariants as l
use Rattle.hs_trees.specs.declared.patterns.VarTree.{VarTree}
use Rattle.hs_trees.specs.declared.patterns.VarTree.TheVariants as va
use Rattle.hs_trees.proofs.PatternLayerLemmas.{ALayer, LLayer, apat_layer_tokens, apat_spelled, lpat_layer_tokens}
use Rattle.hs_trees.proofs.PatternLayerLemmas.{lpat_spelled, pat_spelled, pat_starts, lpat_starts, apat_starts}
use Rattle.hs_trees.proofs.PatternLayerLemmas.{op_starts}
use Rattle.hs_modules.specs.Words.{varop_tokens}
use Rattle.hs_modules.specs.Tokens.{spelling_fun_lhs, fun_lhs_tokens}
use Rattle.hs_modules.specs.declared.names.VarOpTree.{VarOpTree}
use Rattle.hs_modules.specs.declared.names.VarOpTree.TheVariants as op
use Rattle.hs_modules.specs.declared.expressions.FunLhsTree.{FunLhsTree, FunLhsTree-F, out-FunLhsTree, roll-FunLhsTree}
use Rattle.hs_modules.specs.declared.expressions.FunLhsTree.{roll-out-FunLhsTree, fold-roll-FunLhsTree}

-- what stands behind a variable of a list
abbrev pub lists : Terminal → Bool
lists t.Comma = true
lists t.DoubleColon = true
lists _ = false

abbrev pub lists_vars : Ts → Bool
lists_vars (t.Var n ∷ ts) = begins lists ts
lists_vars (t.LeftParen ∷ t.VarSym n ∷ t.RightParen ∷ ts) = begins lists ts
lists_vars _ = false

pub var_lists_on : (x : VarTree) (ts : Ts) → lists_vars (var_tokens x ++ ts) ≡ begins lists ts
var_lists_on (va.Id n) ts = refl
var_lists_on (va.Sym n) ts = refl

-- no list begins so
no_list_apat : (k : Terminal) → starts_apat k ≡ true → lists k ≡ false
no_list_apat t.Comma h = absurd (true≢false (sym h))
no_list_apat t.DoubleColon h = absurd (true≢false (sym h))
no_list_apat _ h = refl

no_list_op : (k : Terminal) → starts_qconop k ≡ true → lists k ≡ false
no_list_op t.Comma h = absurd (true≢false (sym h))
no_list_op t.DoubleColon h = absurd (true≢false (sym h))
no_list_op _ h = refl

bracket_off : (ts more : Ts) → starts_pat ts ≡ true → lists_vars (t.LeftParen ∷ (ts ++ more)) ≡ false
bracket_off [] more h = absurd (true≢false (sym h))
bracket_off (t.VarSym n ∷ t.Integer m ∷ ts) more h = refl
bracket_off (t.VarSym n ∷ []) more h = absurd (true≢false (sym h))
bracket_off (t.VarSym n ∷ k ∷ ts) more h = absurd (true≢false (sym h))
bracket_off (k ∷ ts) more h = refl

gcon_off : (x : GConTree) (more : Ts) → lists_vars (gcon_tokens x ++ more) ≡ false
gcon_off g.Unit more = refl
gcon_off g.List more = refl
gcon_off (g.Tuple zero) more = refl
gcon_off (g.Tuple (suc n)) more = refl
gcon_off (g.Con n) more = refl
gcon_off (g.Sym n) more = refl
gcon_off g.Colon more = refl

literal_off : (x : LiteralTree) (more : Ts) → lists_vars (literal_token x ∷ more) ≡ false
literal_off (l.Integer text) more = refl
literal_off (l.Char text) more = refl
literal_off (l.Text text) more = refl

as_off : (x : VarTree) (ts more : Ts) → lists_vars ((var_tokens x ++ t.At ∷ ts) ++ more) ≡ false
as_off (va.Id n) ts more = refl
as_off (va.Sym n) ts more = refl

regrouped : (a b c d : Ts) → ((a ++ b) ++ c) ++ d ≡ a ++ (b ++ (c ++ d))
regrouped a b c d = simp append_assoc

-- patterns, before what goes on with no list
apat_off_layer : (x : ALayer) (more : Ts) → begins lists more ≡ false → lists_vars (apat_layer_tokens x ++ more) ≡ false
apat_off_layer (APatTree-F.Var name) more h = var_lists_on name more ∙ h
apat_off_layer (APatTree-F.As name part) more h = as_off name (spelling_apat part) more
apat_off_layer APatTree-F.Wild more h = refl
apat_off_layer (APatTree-F.Con con) more h = gcon_off con more
apat_off_layer (APatTree-F.Literal literal) more h = literal_off literal more
apat_off_layer (APatTree-F.Parts first rest) more h =
    ap (λ l. lists_vars (t.LeftParen ∷ l)) (regrouped (spelling_pat first) _ _ more)
    ∙ bracket_off (spelling_pat first) _ (pat_starts first)
apat_off_layer (APatTree-F.List first rest) more h = refl
apat_off_layer (APatTree-F.Lazy part) more h = refl

apat_off : (x : APatTree) (more : Ts) → begins lists more ≡ false → lists_vars (spelling_apat x ++ more) ≡ false
apat_off x more h =
    subst (λ y. lists_vars (spelling_apat y ++ more) ≡ false) (roll-out-APatTree x)
    (ap (λ l. lists_vars (l ++ more)) (apat_spelled (out-APatTree x)) ∙ apat_off_layer (out-APatTree x) more h)

lpat_off_layer : (x : LLayer) (more : Ts) → begins lists more ≡ false → lists_vars (lpat_layer_tokens x ++ more) ≡ false
lpat_off_layer (LPatTree-F.Negative text) more h = refl
lpat_off_layer (LPatTree-F.Apply con first rest) more h =
    ap lists_vars (append_assoc (gcon_tokens con) _ more) ∙ gcon_off con _
lpat_off_layer (LPatTree-F.APat part) more h = apat_off part more h

lpat_off : (x : LPatTree) (more : Ts) → begins lists more ≡ false → lists_vars (spelling_lpat x ++ more) ≡ false
lpat_off x more h =
    subst (λ y. lists_vars (spelling_lpat y ++ more) ≡ false) (roll-out-LPatTree x)
    (ap (λ l. lists_vars (l ++ more)) (lpat_spelled (out-LPatTree x)) ∙ lpat_off_layer (out-LPatTree x) more h)

ops_off : (xs : List OpLPat) (more : Ts) → begins lists more ≡ false →
    begins lists (flat_map spelling_op xs ++ more) ≡ false
ops_off [] more h = h
ops_off (x ∷ xs) more h =
    ap (begins lists) (append_assoc (spelling_op x) _ more)
    ∙ begins_apart starts_qconop lists (spelling_op x) _ no_list_op (op_starts x)

pub pat_off : (x : PatTree) (more : Ts) → begins lists more ≡ false → lists_vars (spelling_pat x ++ more) ≡ false
pat_off x more h =
    let o = out-PatTree x in
    subst (λ y. lists_vars (spelling_pat y ++ more) ≡ false) (roll-out-PatTree x)
    (ap (λ l. lists_vars (l ++ more)) (pat_spelled o)
    ∙ ap lists_vars (append_assoc (spelling_lpat o.first) _ more) ∙ lpat_off o.first _ (ops_off o.rest more h))

-- left sides of functions
inner_off_layer : (x : FunLhsTree-F FunLhsTree) (more : Ts) →
    lists_vars (t.LeftParen ∷ (spelling_fun_lhs (roll-FunLhsTree x) ++ more)) ≡ false
inner_off_layer (FunLhsTree-F.Prefix (va.Id n) first rest) more =
    ap (λ l. lists_vars (t.LeftParen ∷ (l ++ more)))
    (fold-roll-FunLhsTree Ts fun_lhs_tokens (FunLhsTree-F.Prefix (va.Id n) first rest))
inner_off_layer (FunLhsTree-F.Prefix (va.Sym n) first rest) more =
    ap (λ l. lists_vars (t.LeftParen ∷ (l ++ more)))
    (fold-roll-FunLhsTree Ts fun_lhs_tokens (FunLhsTree-F.Prefix (va.Sym n) first rest))
inner_off_layer (FunLhsTree-F.Infix left op right) more =
    ap (λ l. lists_vars (t.LeftParen ∷ (l ++ more)))
    (fold-roll-FunLhsTree Ts fun_lhs_tokens (FunLhsTree-F.Infix left op right))
    ∙ ap (λ l. lists_vars (t.LeftParen ∷ l)) (append_assoc (spelling_lpat left) _ more)
    ∙ bracket_off (spelling_lpat left) _ (lpat_starts left)
inner_off_layer (FunLhsTree-F.Parens inner first rest) more =
    ap (λ l. lists_vars (t.LeftParen ∷ (l ++ more)))
    (fold-roll-FunLhsTree Ts fun_lhs_tokens (FunLhsTree-F.Parens inner first rest))

inner_off : (x : FunLhsTree) (more : Ts) → lists_vars (t.LeftParen ∷ (spelling_fun_lhs x ++ more)) ≡ false
inner_off x more =
    subst (λ y. lists_vars (t.LeftParen ∷ (spelling_fun_lhs y ++ more)) ≡ false) (roll-out-FunLhsTree x)
    (inner_off_layer (out-FunLhsTree x) more)

varop_off : (x : VarOpTree) (more : Ts) → begins lists (varop_tokens x ++ more) ≡ false
varop_off (op.Sym n) more = refl
varop_off (op.Quoted n) more = refl

left_off_layer : (x : FunLhsTree-F FunLhsTree) (more : Ts) →
    lists_vars (spelling_fun_lhs (roll-FunLhsTree x) ++ more) ≡ false
left_off_layer (FunLhsTree-F.Prefix var first rest) more =
    ap (λ l. lists_vars (l ++ more)) (fold-roll-FunLhsTree Ts fun_lhs_tokens (FunLhsTree-F.Prefix var first rest))
    ∙ ap lists_vars (append_assoc (var_tokens var) _ more) ∙ var_lists_on var _
    ∙ ap (begins lists) (append_assoc (spelling_apat first) _ more)
    ∙ begins_apart starts_apat lists (spelling_apat first) _ no_list_apat (apat_starts first)
left_off_layer (FunLhsTree-F.Infix left op right) more =
    ap (λ l. lists_vars (l ++ more)) (fold-roll-FunLhsTree Ts fun_lhs_tokens (FunLhsTree-F.Infix left op right))
    ∙ ap lists_vars (append_assoc (spelling_lpat left) _ more)
    ∙ lpat_off left _ (ap (begins lists) (append_assoc (varop_tokens op) _ more) ∙ varop_off op _)
left_off_layer (FunLhsTree-F.Parens inner first rest) more =
    ap (λ l. lists_vars (l ++ more)) (fold-roll-FunLhsTree Ts fun_lhs_tokens (FunLhsTree-F.Parens inner first rest))
    ∙ ap (λ l. lists_vars (t.LeftParen ∷ l)) (append_assoc (spelling_fun_lhs inner) _ more) ∙ inner_off inner _

pub left_off : (x : FunLhsTree) (more : Ts) → lists_vars (spelling_fun_lhs x ++ more) ≡ false
left_off x more =
    subst (λ y. lists_vars (spelling_fun_lhs y ++ more) ≡ false) (roll-out-FunLhsTree x)
    (left_off_layer (out-FunLhsTree x) more)
