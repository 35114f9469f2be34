-- Types and fields stand on one side of the operator of an infix constructor.
use Rattle.std.proofs.Common.{◌≡◌, ℕ, zero, suc, Bool, true, false, List, [], ◌∷◌, ◌++◌, refl, sym, ap, ◌∙◌, subst}
use Rattle.std.proofs.Common.{append_assoc, true≢false}
use Rattle.std.specs.Prelude.{flat_map, map, replicate, codes, ◌||◌, ◌&&◌}
use Rattle.std.specs.Str.{bytes_eq}
use Rattle.hs_forms.proofs.LimitLemmas.{or_left}
use Rattle.hs_forms.specs.Reading.{begins}
use Rattle.hs_tokens.specs.declared.terminal.Terminal.TheVariants as t
use Rattle.hs_trees.specs.Patterns.{Ts}
use Rattle.hs_trees.specs.Types.{atype_tokens, btype_tokens, type_tokens, spelling_atype, spelling_btype, spelling_type}
use Rattle.hs_trees.specs.declared.types.ATypeTree.{ATypeTree, ATypeTree-F, fold-roll-ATypeTree, map-ATypeTree}
use Rattle.hs_trees.specs.declared.types.ATypeTree.{ind-ATypeTree}
use Rattle.hs_trees.specs.declared.types.BTypeTree.{BTypeTree, fold-roll-BTypeTree, out-BTypeTree, roll-out-BTypeTree}
use Rattle.hs_trees.specs.declared.types.TypeTree.{TypeTree, fold-roll-TypeTree}
use Rattle.hs_trees.proofs.PatternHitLemmas.{Each, each_of}
use Rattle.hs_trees.proofs.TypeLayerLemmas.{btype_spelled}
use Rattle.hs_modules.specs.ModuleTokens.{field_tokens, side_tokens, bang}
use Rattle.hs_modules.specs.Words.{con_tokens, conop_tokens}
use Rattle.hs_modules.specs.declared.names.ConTree.{ConTree}
use Rattle.hs_modules.specs.declared.names.ConTree.TheVariants as c
use Rattle.hs_modules.specs.declared.names.ConOpTree.{ConOpTree}
use Rattle.hs_modules.specs.declared.names.ConOpTree.TheVariants as k
use Rattle.hs_modules.specs.declared.declarations.Field.{Field}
use Rattle.hs_modules.specs.declared.declarations.ConstrSide.{ConstrSide}
use Rattle.hs_modules.specs.declared.declarations.ConstrSide.TheVariants as v_side
use Rattle.hs_declaration_forms.specs.Crossing.{crosses, Passes}
use Rattle.hs_declaration_forms.specs.Datatypes.{constr_goes}

abbrev PassesIn : Ts → Type 0
PassesIn ts = (r : Ts) (d : ℕ) → crosses (ts ++ r) (suc d) ≡ crosses r (suc d)

pub passes_append : (xs ys : Ts) → Passes xs → Passes ys → Passes (xs ++ ys)
passes_append xs ys p q r d = ap (λ l. crosses l d) (append_assoc xs ys r) ∙ p (ys ++ r) d ∙ q r d

passes_in_append : (xs ys : Ts) → PassesIn xs → PassesIn ys → PassesIn (xs ++ ys)
passes_in_append xs ys p q r d = ap (λ l. crosses l (suc d)) (append_assoc xs ys r) ∙ p (ys ++ r) d ∙ q r d

passes_all : (xss : List Ts) → Each Passes xss → Passes (flat_map (λ x. x) xss)
passes_all [] e = λ r d. refl
passes_all (x ∷ xss) e = passes_append x (flat_map (λ x. x) xss) e.0 (passes_all xss e.1)

passes_commas : (xss : List Ts) → Each PassesIn xss → PassesIn (flat_map (λ x. t.Comma ∷ x) xss)
passes_commas [] e = λ r d. refl
passes_commas (x ∷ xss) e =
    passes_in_append (t.Comma ∷ x) (flat_map (λ x. t.Comma ∷ x) xss) (λ r d. e.0 r d) (passes_commas xss e.1)

passes_arrows : (xss : List Ts) → Each Passes xss → PassesIn (flat_map (λ x. t.Arrow ∷ x) xss)
passes_arrows [] e = λ r d. refl
passes_arrows (x ∷ xss) e =
    passes_in_append (t.Arrow ∷ x) (flat_map (λ x. t.Arrow ∷ x) xss) (λ r d. e.0 r (suc d)) (passes_arrows xss e.1)

round_passes : (xs : Ts) → PassesIn xs → Passes (t.LeftParen ∷ (xs ++ t.RightParen ∷ []))
round_passes xs p r d = ap (λ l. crosses l (suc d)) (append_assoc xs (t.RightParen ∷ []) r) ∙ p (t.RightParen ∷ r) d

square_passes : (xs : Ts) → PassesIn xs → Passes (t.LeftBracket ∷ (xs ++ t.RightBracket ∷ []))
square_passes xs p r d =
    ap (λ l. crosses l (suc d)) (append_assoc xs (t.RightBracket ∷ []) r) ∙ p (t.RightBracket ∷ r) d

commas_pass : (n : ℕ) → PassesIn (replicate n t.Comma)
commas_pass zero r d = refl
commas_pass (suc n) r d = commas_pass n r d

abbrev PA : ATypeTree → Type 0
PA x = Passes (spelling_atype x)

abbrev PB : BTypeTree → Type 0
PB x = Passes (spelling_btype x)

-- a type stands between brackets, since its arrows do
abbrev PT : TypeTree → Type 0
PT x = PassesIn (spelling_type x)

abbrev SA : Type 0
SA = (x : ATypeTree) × PA x

abbrev SB : Type 0
SB = (x : BTypeTree) × PB x

abbrev ST : Type 0
ST = (x : TypeTree) × PT x

atype_step : (y : ATypeTree-F SA SB ST) →
    Passes (atype_tokens (map-ATypeTree _ _ _ _ _ _ spelling_atype spelling_btype spelling_type
    (map-ATypeTree SA SB ST _ _ _ (λ e. e.0) (λ e. e.0) (λ e. e.0) y)))
atype_step (ATypeTree-F.Con n) = λ r d. refl
atype_step ATypeTree-F.Unit = λ r d. refl
atype_step ATypeTree-F.ListCon = λ r d. refl
atype_step ATypeTree-F.ArrowCon = λ r d. refl
atype_step (ATypeTree-F.TupleCon n) = round_passes (replicate n t.Comma) (commas_pass n)
atype_step (ATypeTree-F.Var n) = λ r d. refl
atype_step (ATypeTree-F.Parts p ps) =
    round_passes (spelling_type p.0 ++ flat_map (λ part. t.Comma ∷ part) (map spelling_type (map (λ e. e.0) ps)))
    (passes_in_append (spelling_type p.0) _ p.1 (passes_commas (map spelling_type (map (λ e. e.0) ps))
    (each_of spelling_type PassesIn ps)))
atype_step (ATypeTree-F.List p) = square_passes (spelling_type p.0) p.1

pub atype_passes : (x : ATypeTree) → Passes (spelling_atype x)
atype_passes = ind-ATypeTree PA PB PT
    (λ x y is. subst Passes (sym (fold-roll-ATypeTree Ts Ts Ts atype_tokens btype_tokens type_tokens x))
    (subst (λ l. Passes (atype_tokens (map-ATypeTree _ _ _ _ _ _ spelling_atype spelling_btype spelling_type l))) is
    (atype_step y)))
    (λ x y is. subst Passes (sym (fold-roll-BTypeTree Ts Ts Ts atype_tokens btype_tokens type_tokens x))
    (subst (λ l. Passes (spelling_atype l.first ++ flat_map (λ part. part) (map spelling_atype l.rest))) is
    (passes_append (spelling_atype y.first.0) _ y.first.1 (passes_all _ (each_of spelling_atype Passes y.rest)))))
    (λ x y is. subst PassesIn (sym (fold-roll-TypeTree Ts Ts Ts atype_tokens btype_tokens type_tokens x))
    (subst (λ l. PassesIn (spelling_btype l.first ++ flat_map (λ part. t.Arrow ∷ part) (map spelling_btype l.rest))) is
    (passes_in_append (spelling_btype y.first.0) _ (λ r d. y.first.1 r (suc d))
    (passes_arrows _ (each_of spelling_btype Passes y.rest)))))

atypes_pass : (xs : List ATypeTree) → Passes (flat_map spelling_atype xs)
atypes_pass [] = λ r d. refl
atypes_pass (x ∷ xs) = passes_append (spelling_atype x) _ (atype_passes x) (atypes_pass xs)

pub btype_passes : (x : BTypeTree) → Passes (spelling_btype x)
btype_passes x =
    subst (λ y. Passes (spelling_btype y)) (roll-out-BTypeTree x)
    (subst Passes (sym (btype_spelled (out-BTypeTree x)))
    (passes_append (spelling_atype (out-BTypeTree x).first) _ (atype_passes (out-BTypeTree x).first)
    (atypes_pass (out-BTypeTree x).rest)))

strict_passes : (b : Bool) (x : ATypeTree) → Passes (field_tokens (record { strict = b; atype = x }))
strict_passes true x = λ r d. atype_passes x r d
strict_passes false x = atype_passes x

fields_pass : (fs : List Field) → Passes (flat_map field_tokens fs)
fields_pass [] = λ r d. refl
fields_pass (f ∷ fs) = passes_append (field_tokens f) _ (strict_passes f.strict f.atype) (fields_pass fs)

pub side_passes : (x : ConstrSide) → Passes (side_tokens x)
side_passes (v_side.Lazy b) = btype_passes b
side_passes (v_side.Strict a) = λ r d. atype_passes a r d

-- what goes on no constructor is not crossed
pub ends_uncrossed : (s : Ts) → begins constr_goes s ≡ false → crosses s zero ≡ false
ends_uncrossed [] h = refl
ends_uncrossed (t.Con n ∷ s) h = absurd (true≢false h)
ends_uncrossed (t.Var n ∷ s) h = absurd (true≢false h)
ends_uncrossed (t.LeftParen ∷ s) h = absurd (true≢false h)
ends_uncrossed (t.LeftBracket ∷ s) h = absurd (true≢false h)
ends_uncrossed (t.ConSym n ∷ s) h = absurd (true≢false h)
ends_uncrossed (t.Backquote ∷ s) h = absurd (true≢false h)
ends_uncrossed (t.VarSym n ∷ s) h = ap (λ b. b && crosses s zero) (or_left (bytes_eq n (codes "!")) false h)
ends_uncrossed (_ ∷ s) h = refl

-- constructors with their fields are not crossed, and infix ones are
pub prefix_uncrossed : (c : ConTree) (fs : List Field) (s : Ts) → crosses s zero ≡ false →
    crosses ((con_tokens c ++ flat_map field_tokens fs) ++ s) zero ≡ false
prefix_uncrossed (c.Id n) fs s h = fields_pass fs s zero ∙ h
prefix_uncrossed (c.Sym n) fs s h = refl

pub infix_crossed : (x y : ConstrSide) (op : ConOpTree) (s : Ts) →
    crosses ((side_tokens x ++ (conop_tokens op ++ side_tokens y)) ++ s) zero ≡ true
infix_crossed x y op s =
    ap (λ l. crosses l zero) (append_assoc (side_tokens x) (conop_tokens op ++ side_tokens y) s)
    ∙ side_passes x _ zero ∙ by op
  where
    by : (op : ConOpTree) → crosses ((conop_tokens op ++ side_tokens y) ++ s) zero ≡ true
    by (k.Sym n) = refl
    by (k.Quoted n) = refl
