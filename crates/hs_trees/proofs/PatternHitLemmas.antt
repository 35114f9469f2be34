-- No pattern before `<-` goes past a token that stands behind a guard.
use Rattle.std.proofs.Common.{◌≡◌, ℕ, zero, suc, true, false, List, [], ◌∷◌, ◌++◌, refl, sym, ap, ◌∙◌, subst}
use Rattle.std.proofs.Common.{append_assoc, true≢false}
use Rattle.std.specs.Prelude.{flat_map, map, replicate, not}
use Rattle.hs_forms.specs.Reading.{begins}
use Rattle.hs_trees.specs.Hits.{hits, Passes, follows_guard}
use Rattle.hs_trees.specs.Patterns.{Ts, between_commas, var_tokens, gcon_tokens, qconop_tokens, literal_token}
use Rattle.hs_trees.specs.Patterns.{apat_tokens, lpat_tokens, op_tokens, pat_tokens, spelling_apat, spelling_lpat}
use Rattle.hs_trees.specs.Patterns.{spelling_op, spelling_pat}
use Rattle.hs_tokens.specs.declared.terminal.Terminal.TheVariants as t
use Rattle.hs_trees.specs.declared.patterns.LiteralTree.{LiteralTree}
use Rattle.hs_trees.specs.declared.patterns.LiteralTree.TheVariants as l
use Rattle.hs_trees.specs.declared.patterns.VarTree.{VarTree}
use Rattle.hs_trees.specs.declared.patterns.VarTree.TheVariants as v
use Rattle.hs_trees.specs.declared.patterns.GConTree.{GConTree}
use Rattle.hs_trees.specs.declared.patterns.GConTree.TheVariants as g
use Rattle.hs_trees.specs.declared.patterns.QConOpTree.{QConOpTree}
use Rattle.hs_trees.specs.declared.patterns.QConOpTree.TheVariants as o
use Rattle.hs_trees.specs.declared.patterns.PatTree.{PatTree, fold-roll-PatTree, ind-PatTree}
use Rattle.hs_trees.specs.declared.patterns.OpLPat.{OpLPat, fold-roll-OpLPat}
use Rattle.hs_trees.specs.declared.patterns.LPatTree.{LPatTree, LPatTree-F, fold-roll-LPatTree, map-LPatTree}
use Rattle.hs_trees.specs.declared.patterns.APatTree.{APatTree, APatTree-F, fold-roll-APatTree, map-APatTree}

abbrev PassesIn : Ts → Type 0
PassesIn ts = (r : Ts) (d : ℕ) → hits (ts ++ r) (suc d) ≡ hits r (suc d)

pub passes_append : (xs ys : Ts) → Passes xs → Passes ys → Passes (xs ++ ys)
passes_append xs ys p q r d = ap (λ l. hits l d) (append_assoc xs ys r) ∙ p (ys ++ r) d ∙ q r d

passes_in_append : (xs ys : Ts) → PassesIn xs → PassesIn ys → PassesIn (xs ++ ys)
passes_in_append xs ys p q r d = ap (λ l. hits l (suc d)) (append_assoc xs ys r) ∙ p (ys ++ r) d ∙ q r d

abbrev pub Each : {X : Type 0} → (X → Type 0) → List X → Type 0
Each P [] = Unit {0}
Each P (x ∷ xs) = P x × Each P xs

passes_all : (xss : List Ts) → Each Passes xss → Passes (flat_map (λ x. x) xss)
passes_all [] e = λ r d. refl
passes_all (x ∷ xss) e = passes_append x (flat_map (λ x. x) xss) e.0 (passes_all xss e.1)

passes_commas : (xss : List Ts) → Each Passes xss → PassesIn (flat_map (λ x. t.Comma ∷ x) xss)
passes_commas [] e = λ r d. refl
passes_commas (x ∷ xss) e =
    passes_in_append (t.Comma ∷ x) (flat_map (λ x. t.Comma ∷ x) xss) (λ r d. e.0 r (suc d)) (passes_commas xss e.1)

passes_between : (x : Ts) (xss : List Ts) → Passes x → Each Passes xss → PassesIn (between_commas x xss)
passes_between x xss p e =
    passes_in_append x (flat_map (λ x. t.Comma ∷ x) xss) (λ r d. p r (suc d)) (passes_commas xss e)

round_passes : (xs : Ts) → PassesIn xs → Passes (t.LeftParen ∷ (xs ++ t.RightParen ∷ []))
round_passes xs p r d = ap (λ l. hits l (suc d)) (append_assoc xs (t.RightParen ∷ []) r) ∙ p (t.RightParen ∷ r) d

square_passes : (xs : Ts) → PassesIn xs → Passes (t.LeftBracket ∷ (xs ++ t.RightBracket ∷ []))
square_passes xs p r d = ap (λ l. hits l (suc d)) (append_assoc xs (t.RightBracket ∷ []) r) ∙ p (t.RightBracket ∷ r) d

commas_pass : (n : ℕ) → PassesIn (replicate n t.Comma)
commas_pass zero r d = refl
commas_pass (suc n) r d = commas_pass n r d

var_passes : (x : VarTree) → Passes (var_tokens x)
var_passes (v.Id n) = λ r d. refl
var_passes (v.Sym n) = λ r d. refl

gcon_passes : (x : GConTree) → Passes (gcon_tokens x)
gcon_passes g.Unit = λ r d. refl
gcon_passes g.List = λ r d. refl
gcon_passes (g.Tuple n) = round_passes (replicate n t.Comma) (commas_pass n)
gcon_passes (g.Con n) = λ r d. refl
gcon_passes (g.Sym n) = λ r d. refl
gcon_passes g.Colon = λ r d. refl

literal_passes : (x : LiteralTree) → Passes (literal_token x ∷ [])
literal_passes (l.Integer n) = λ r d. refl
literal_passes (l.Char n) = λ r d. refl
literal_passes (l.Text n) = λ r d. refl

qconop_passes : (x : QConOpTree) → Passes (qconop_tokens x)
qconop_passes (o.Sym n) = λ r d. refl
qconop_passes o.Colon = λ r d. refl
qconop_passes (o.Quoted n) = λ r d. refl

abbrev PA : APatTree → Type 0
PA x = Passes (spelling_apat x)

abbrev PL : LPatTree → Type 0
PL x = Passes (spelling_lpat x)

abbrev PO : OpLPat → Type 0
PO x = Passes (spelling_op x)

abbrev PP : PatTree → Type 0
PP x = Passes (spelling_pat x)

abbrev SA : Type 0
SA = (x : APatTree) × PA x

abbrev SL : Type 0
SL = (x : LPatTree) × PL x

abbrev SO : Type 0
SO = (x : OpLPat) × PO x

abbrev SP : Type 0
SP = (x : PatTree) × PP x

pub each_of : {X : Type 0} (f : X → Ts) (P : Ts → Type 0) (ys : List ((x : X) × P (f x)))
    → Each P (map f (map (λ e. e.0) ys))
each_of f P [] = tt
each_of f P (y ∷ ys) = (y.1, each_of f P ys)

apat_step : (y : APatTree-F SA SL SO SP) →
    Passes (apat_tokens (map-APatTree _ _ _ _ _ _ _ _ spelling_apat spelling_lpat spelling_op spelling_pat
    (map-APatTree SA SL SO SP _ _ _ _ (λ e. e.0) (λ e. e.0) (λ e. e.0) (λ e. e.0) y)))
apat_step (APatTree-F.Var n) = var_passes n
apat_step (APatTree-F.As n p) = passes_append (var_tokens n) (t.At ∷ spelling_apat p.0) (var_passes n) (λ r d. p.1 r d)
apat_step APatTree-F.Wild = λ r d. refl
apat_step (APatTree-F.Con c) = gcon_passes c
apat_step (APatTree-F.Literal x) = literal_passes x
apat_step (APatTree-F.Parts p ps) =
    round_passes (between_commas (spelling_pat p.0) (map spelling_pat (map (λ e. e.0) ps)))
    (passes_between (spelling_pat p.0) (map spelling_pat (map (λ e. e.0) ps)) p.1 (each_of spelling_pat Passes ps))
apat_step (APatTree-F.List p ps) =
    square_passes (between_commas (spelling_pat p.0) (map spelling_pat (map (λ e. e.0) ps)))
    (passes_between (spelling_pat p.0) (map spelling_pat (map (λ e. e.0) ps)) p.1 (each_of spelling_pat Passes ps))
apat_step (APatTree-F.Lazy p) = λ r d. p.1 r d

lpat_step : (y : LPatTree-F SA SL SO SP) →
    Passes (lpat_tokens (map-LPatTree _ _ _ _ _ _ _ _ spelling_apat spelling_lpat spelling_op spelling_pat
    (map-LPatTree SA SL SO SP _ _ _ _ (λ e. e.0) (λ e. e.0) (λ e. e.0) (λ e. e.0) y)))
lpat_step (LPatTree-F.Negative n) = λ r d. refl
lpat_step (LPatTree-F.Apply c p ps) =
    passes_append (gcon_tokens c) _ (gcon_passes c)
    (passes_append (spelling_apat p.0) _ p.1 (passes_all (map spelling_apat (map (λ e. e.0) ps))
    (each_of spelling_apat Passes ps)))
lpat_step (LPatTree-F.APat p) = p.1

pub pat_passes : (x : PatTree) → Passes (spelling_pat x)
pat_passes = ind-PatTree PA PL PO PP
    (λ x y is. subst Passes (sym (fold-roll-APatTree Ts Ts Ts Ts apat_tokens lpat_tokens op_tokens pat_tokens x))
    (subst (λ l. Passes (apat_tokens (map-APatTree _ _ _ _ _ _ _ _ spelling_apat spelling_lpat spelling_op spelling_pat
    l))) is (apat_step y)))
    (λ x y is. subst Passes (sym (fold-roll-LPatTree Ts Ts Ts Ts apat_tokens lpat_tokens op_tokens pat_tokens x))
    (subst (λ l. Passes (lpat_tokens (map-LPatTree _ _ _ _ _ _ _ _ spelling_apat spelling_lpat spelling_op spelling_pat
    l))) is (lpat_step y)))
    (λ x y is. subst Passes (sym (fold-roll-OpLPat Ts Ts Ts Ts apat_tokens lpat_tokens op_tokens pat_tokens x))
    (subst (λ l. Passes (qconop_tokens l.op ++ spelling_lpat l.pat)) is
    (passes_append (qconop_tokens y.op) (spelling_lpat y.pat.0) (qconop_passes y.op) y.pat.1)))
    (λ x y is. subst Passes (sym (fold-roll-PatTree Ts Ts Ts Ts apat_tokens lpat_tokens op_tokens pat_tokens x))
    (subst (λ l. Passes (spelling_lpat l.first ++ flat_map (λ part. part) (map spelling_op l.rest))) is
    (passes_append (spelling_lpat y.first.0) _ y.first.1 (passes_all _ (each_of spelling_op Passes y.rest)))))

-- What begins as a pattern before `<-` makes a hit.
pub bind_hits : (p : PatTree) (more : Ts) → hits (spelling_pat p ++ t.LeftArrow ∷ more) zero ≡ true
bind_hits p more = pat_passes p (t.LeftArrow ∷ more) zero

-- what may stand behind a guard makes no hit
pub follow_misses : (s : Ts) → begins (λ k. not (follows_guard k)) s ≡ false → hits s zero ≡ false
follow_misses [] h = refl
follow_misses (t.Comma ∷ s) h = refl
follow_misses (t.Equals ∷ s) h = refl
follow_misses (t.Arrow ∷ s) h = refl
follow_misses (_ ∷ s) h = absurd (true≢false h)

-- Tokens without a hit begin no pattern before `<-`.
pub no_bind : (ts : Ts) (p : PatTree) (more : Ts) → hits ts zero ≡ false → ts ≡ spelling_pat p ++ t.LeftArrow ∷ more → ⊥
no_bind ts p more miss e = true≢false (sym (ap (λ l. hits l zero) e ∙ bind_hits p more) ∙ miss)
