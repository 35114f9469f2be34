-- The trees of patterns, one layer at a time.
use Rattle.std.proofs.Common.{◌≡◌, ℕ, ◌+◌, Bool, true, [], ◌∷◌, ◌++◌, length, refl, sym, ap, ◌∙◌, subst, true≢false}
use Rattle.std.specs.Prelude.{flat_map, map, max, ◌&&◌}
use Rattle.std.proofs.lemmas.List.Folds.{flat_map-map}
use Rattle.hs_forms.specs.Reading.{begins}
use Rattle.hs_forms.specs.Limits.{deepest, all_of}
use Rattle.hs_tokens.specs.Terminals.{starts_qconop}
use Rattle.hs_trees.specs.Patterns.{Ts, var_tokens, gcon_tokens, literal_token, qconop_tokens, apat_tokens, lpat_tokens}
use Rattle.hs_trees.specs.Patterns.{op_tokens, pat_tokens, spelling_apat, spelling_lpat, spelling_op, spelling_pat}
use Rattle.hs_trees.specs.Patterns.{apat_formed, lpat_formed, op_formed, pat_formed, is_apat, is_lpat, is_op, is_pat}
use Rattle.hs_trees.specs.Patterns.{apat_depth, lpat_depth, op_depth, pat_depth, depth_of_apat, depth_of_lpat}
use Rattle.hs_trees.specs.Patterns.{depth_of_op, depth_of_pat, starts_apat, starts_pat}
use Rattle.hs_tokens.specs.declared.terminal.Terminal.TheVariants as t
use Rattle.hs_trees.specs.declared.patterns.LiteralTree.{LiteralTree}
use Rattle.hs_trees.specs.declared.patterns.LiteralTree.TheVariants as l
use Rattle.hs_trees.specs.declared.patterns.VarTree.{VarTree}
use Rattle.hs_trees.specs.declared.patterns.VarTree.TheVariants as v
use Rattle.hs_trees.specs.declared.patterns.GConTree.{GConTree}
use Rattle.hs_trees.specs.declared.patterns.GConTree.TheVariants as g
use Rattle.hs_trees.specs.declared.patterns.QConOpTree.{QConOpTree}
use Rattle.hs_trees.specs.declared.patterns.QConOpTree.TheVariants as o
use Rattle.hs_trees.specs.declared.patterns.PatTree.{PatTree, PatTree-F, out-PatTree, roll-PatTree, roll-out-PatTree}
use Rattle.hs_trees.specs.declared.patterns.PatTree.{fold-roll-PatTree}
use Rattle.hs_trees.specs.declared.patterns.OpLPat.{OpLPat, OpLPat-F, out-OpLPat, roll-OpLPat, roll-out-OpLPat}
use Rattle.hs_trees.specs.declared.patterns.OpLPat.{fold-roll-OpLPat}
use Rattle.hs_trees.specs.declared.patterns.LPatTree.{LPatTree, LPatTree-F, out-LPatTree, roll-LPatTree}
use Rattle.hs_trees.specs.declared.patterns.LPatTree.{roll-out-LPatTree, fold-roll-LPatTree, map-LPatTree}
use Rattle.hs_trees.specs.declared.patterns.APatTree.{APatTree, APatTree-F, out-APatTree, roll-APatTree}
use Rattle.hs_trees.specs.declared.patterns.APatTree.{roll-out-APatTree, fold-roll-APatTree, map-APatTree}
use Rattle.hs_forms.proofs.FormLemmas.{begins_append}
use Rattle.hs_trees.proofs.TypeLayerLemmas.{length_of_map}

abbrev pub ALayer : Type 0
ALayer = APatTree-F APatTree LPatTree OpLPat PatTree

abbrev pub LLayer : Type 0
LLayer = LPatTree-F APatTree LPatTree OpLPat PatTree

abbrev pub OLayer : Type 0
OLayer = OpLPat-F APatTree LPatTree OpLPat PatTree

abbrev pub PLayer : Type 0
PLayer = PatTree-F APatTree LPatTree OpLPat PatTree

-- an `apat` of a layer
abbrev pub apat_layer_tokens : ALayer → Ts
apat_layer_tokens x = apat_tokens (map-APatTree _ _ _ _ _ _ _ _ spelling_apat spelling_lpat spelling_op spelling_pat x)

pub apat_spelled : (x : ALayer) → spelling_apat (roll-APatTree x) ≡ apat_layer_tokens x
apat_spelled x = fold-roll-APatTree Ts Ts Ts Ts apat_tokens lpat_tokens op_tokens pat_tokens x

pub apat_deep : (x : ALayer) → depth_of_apat (roll-APatTree x) ≡ apat_depth
    (map-APatTree _ _ _ _ _ _ _ _ depth_of_apat depth_of_lpat depth_of_op depth_of_pat x)
apat_deep x = fold-roll-APatTree ℕ ℕ ℕ ℕ apat_depth lpat_depth op_depth pat_depth x

pub apat_is : (x : ALayer) → is_apat (roll-APatTree x) ≡ apat_formed
    (map-APatTree _ _ _ _ _ _ _ _ is_apat is_lpat is_op is_pat x)
apat_is x = fold-roll-APatTree Bool Bool Bool Bool apat_formed lpat_formed op_formed pat_formed x

abbrev pub lpat_layer_tokens : LLayer → Ts
lpat_layer_tokens x = lpat_tokens (map-LPatTree _ _ _ _ _ _ _ _ spelling_apat spelling_lpat spelling_op spelling_pat x)

pub lpat_spelled : (x : LLayer) → spelling_lpat (roll-LPatTree x) ≡ lpat_layer_tokens x
lpat_spelled x = fold-roll-LPatTree Ts Ts Ts Ts apat_tokens lpat_tokens op_tokens pat_tokens x

pub lpat_deep : (x : LLayer) → depth_of_lpat (roll-LPatTree x) ≡ lpat_depth
    (map-LPatTree _ _ _ _ _ _ _ _ depth_of_apat depth_of_lpat depth_of_op depth_of_pat x)
lpat_deep x = fold-roll-LPatTree ℕ ℕ ℕ ℕ apat_depth lpat_depth op_depth pat_depth x

pub lpat_is : (x : LLayer) → is_lpat (roll-LPatTree x) ≡ lpat_formed
    (map-LPatTree _ _ _ _ _ _ _ _ is_apat is_lpat is_op is_pat x)
lpat_is x = fold-roll-LPatTree Bool Bool Bool Bool apat_formed lpat_formed op_formed pat_formed x

pub op_spelled : (x : OLayer) → spelling_op (roll-OpLPat x) ≡ qconop_tokens x.op ++ spelling_lpat x.pat
op_spelled x = fold-roll-OpLPat Ts Ts Ts Ts apat_tokens lpat_tokens op_tokens pat_tokens x

pub op_deep : (x : OLayer) → depth_of_op (roll-OpLPat x) ≡ depth_of_lpat x.pat
op_deep x = fold-roll-OpLPat ℕ ℕ ℕ ℕ apat_depth lpat_depth op_depth pat_depth x

pub op_is : (x : OLayer) → is_op (roll-OpLPat x) ≡ is_lpat x.pat
op_is x = fold-roll-OpLPat Bool Bool Bool Bool apat_formed lpat_formed op_formed pat_formed x

pub pat_spelled : (x : PLayer) → spelling_pat (roll-PatTree x) ≡ spelling_lpat x.first ++ flat_map spelling_op x.rest
pat_spelled x =
    fold-roll-PatTree Ts Ts Ts Ts apat_tokens lpat_tokens op_tokens pat_tokens x
    ∙ ap (λ xs. spelling_lpat x.first ++ xs) (flat_map-map (λ y. y) spelling_op x.rest)

pub pat_deep : (x : PLayer) → depth_of_pat (roll-PatTree x) ≡ max (depth_of_lpat x.first)
    (deepest (map depth_of_op x.rest)) + length x.rest
pat_deep x =
    fold-roll-PatTree ℕ ℕ ℕ ℕ apat_depth lpat_depth op_depth pat_depth x
    ∙ ap (λ n. max (depth_of_lpat x.first) (deepest (map depth_of_op x.rest)) + n) (length_of_map depth_of_op x.rest)

pub pat_is : (x : PLayer) → is_pat (roll-PatTree x) ≡ is_lpat x.first && all_of (map is_op x.rest)
pat_is x = fold-roll-PatTree Bool Bool Bool Bool apat_formed lpat_formed op_formed pat_formed x

-- first tokens
pub var_starts : (x : VarTree) → begins starts_apat (var_tokens x) ≡ true
var_starts (v.Id name) = refl
var_starts (v.Sym name) = refl

pub gcon_starts : (x : GConTree) → begins starts_apat (gcon_tokens x) ≡ true
gcon_starts g.Unit = refl
gcon_starts g.List = refl
gcon_starts (g.Tuple commas) = refl
gcon_starts (g.Con name) = refl
gcon_starts (g.Sym name) = refl
gcon_starts g.Colon = refl

literal_starts : (x : LiteralTree) → starts_apat (literal_token x) ≡ true
literal_starts (l.Integer text) = refl
literal_starts (l.Char text) = refl
literal_starts (l.Text text) = refl

apat_starts_layer : (x : ALayer) → begins starts_apat (apat_layer_tokens x) ≡ true
apat_starts_layer (APatTree-F.Var name) = var_starts name
apat_starts_layer (APatTree-F.As name part) = begins_append starts_apat (var_tokens name) _ (var_starts name)
apat_starts_layer APatTree-F.Wild = refl
apat_starts_layer (APatTree-F.Con con) = gcon_starts con
apat_starts_layer (APatTree-F.Literal literal) = literal_starts literal
apat_starts_layer (APatTree-F.Parts first rest) = refl
apat_starts_layer (APatTree-F.List first rest) = refl
apat_starts_layer (APatTree-F.Lazy part) = refl

pub apat_starts : (x : APatTree) → begins starts_apat (spelling_apat x) ≡ true
apat_starts x =
    subst (λ y. begins starts_apat (spelling_apat y) ≡ true) (roll-out-APatTree x)
    (ap (begins starts_apat) (apat_spelled (out-APatTree x)) ∙ apat_starts_layer (out-APatTree x))

pub qconop_starts : (x : QConOpTree) → begins starts_qconop (qconop_tokens x) ≡ true
qconop_starts (o.Sym name) = refl
qconop_starts o.Colon = refl
qconop_starts (o.Quoted name) = refl

pub op_starts : (x : OpLPat) → begins starts_qconop (spelling_op x) ≡ true
op_starts x =
    subst (λ y. begins starts_qconop (spelling_op y) ≡ true) (roll-out-OpLPat x)
    (ap (begins starts_qconop) (op_spelled (out-OpLPat x))
    ∙ begins_append starts_qconop (qconop_tokens (out-OpLPat x).op) _ (qconop_starts (out-OpLPat x).op))

-- what begins as an `apat` begins as a pattern
pub apat_pat : (ts : Ts) → begins starts_apat ts ≡ true → starts_pat ts ≡ true
apat_pat [] h = h
apat_pat (t.VarSym name ∷ ts) h = absurd (true≢false (sym h))
apat_pat (k ∷ ts) h = h

pub starts_pat_append : (xs ys : Ts) → starts_pat xs ≡ true → starts_pat (xs ++ ys) ≡ true
starts_pat_append [] ys h = absurd (true≢false (sym h))
starts_pat_append (t.VarSym name ∷ t.Integer text ∷ xs) ys h = h
starts_pat_append (t.VarSym name ∷ []) ys h = absurd (true≢false (sym h))
starts_pat_append (t.VarSym name ∷ k ∷ xs) ys h = absurd (true≢false (sym h))
starts_pat_append (k ∷ xs) ys h = h

pub lpat_starts_layer : (x : LLayer) → starts_pat (lpat_layer_tokens x) ≡ true
lpat_starts_layer (LPatTree-F.Negative text) = refl
lpat_starts_layer (LPatTree-F.Apply con first rest) =
    apat_pat _ (begins_append starts_apat (gcon_tokens con) _ (gcon_starts con))
lpat_starts_layer (LPatTree-F.APat part) = apat_pat _ (apat_starts part)

pub lpat_starts : (x : LPatTree) → starts_pat (spelling_lpat x) ≡ true
lpat_starts x =
    subst (λ y. starts_pat (spelling_lpat y) ≡ true) (roll-out-LPatTree x)
    (ap starts_pat (lpat_spelled (out-LPatTree x)) ∙ lpat_starts_layer (out-LPatTree x))

pub pat_starts : (x : PatTree) → starts_pat (spelling_pat x) ≡ true
pat_starts x =
    subst (λ y. starts_pat (spelling_pat y) ≡ true) (roll-out-PatTree x)
    (ap starts_pat (pat_spelled (out-PatTree x))
    ∙ starts_pat_append (spelling_lpat (out-PatTree x).first) _ (lpat_starts (out-PatTree x).first))
