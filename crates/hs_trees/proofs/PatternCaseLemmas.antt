-- What an `apat` is by its first tokens.
use Rattle.std.proofs.Common.{◌≡◌, ℕ, zero, suc, ◌+◌, ◌<◌, Bool, true, false, List, [], ◌∷◌, ◌++◌, length, refl, sym}
use Rattle.std.proofs.Common.{ap, ◌∙◌, subst, true≢false, arith}
use Rattle.std.specs.Prelude.{map, replicate, ◌&&◌, nat_lt}
use Rattle.std.proofs.lemmas.List.Folds.{flat_map-map}
use Rattle.std.proofs.lemmas.Bool.Decides.{nat_tests}
use Rattle.hs_forms.specs.Reading.{begins}
use Rattle.hs_forms.specs.Limits.{all_of}
use Rattle.hs_tokens.specs.Terminals.{is_con}
use Rattle.hs_trees.specs.Patterns.{Ts, var_tokens, gcon_tokens, named_con, spelling_apat, spelling_pat, is_gcon}
use Rattle.hs_trees.specs.Patterns.{is_apat, is_pat, depth_of_apat, Pats, spelling_pats, depth_of_pats, starts_pat}
use Rattle.hs_tokens.specs.declared.terminal.Terminal.{Terminal}
use Rattle.hs_tokens.specs.declared.terminal.Terminal.TheVariants as t
use Rattle.hs_trees.specs.declared.patterns.LiteralTree.{LiteralTree}
use Rattle.hs_trees.specs.declared.patterns.LiteralTree.TheVariants as l
use Rattle.hs_trees.specs.declared.patterns.VarTree.{VarTree}
use Rattle.hs_trees.specs.declared.patterns.VarTree.TheVariants as v
use Rattle.hs_trees.specs.declared.patterns.GConTree.{GConTree}
use Rattle.hs_trees.specs.declared.patterns.GConTree.TheVariants as g
use Rattle.hs_trees.specs.declared.patterns.APatTree.{APatTree, APatTree-F, out-APatTree, roll-APatTree}
use Rattle.hs_trees.specs.declared.patterns.APatTree.{roll-out-APatTree}
use Rattle.hs_trees.specs.declared.patterns.APatTree.TheVariants as a
use Rattle.hs_forms.proofs.LimitLemmas.{and_right}
use Rattle.hs_trees.proofs.TypeLayerLemmas.{length_of_map}
use Rattle.hs_trees.proofs.PatternLayerLemmas.{ALayer, apat_layer_tokens, apat_spelled, apat_deep, apat_is, pat_starts}
use Rattle.hs_trees.proofs.PatternLayerLemmas.{starts_pat_append}

-- brackets, lists, bound names and lazy patterns, from their parts
abbrev pub are_pats : Pats → Bool
are_pats p = is_pat p.0 && all_of (map is_pat p.1)

pub parts_spelled : (p : Pats) → spelling_apat (a.Parts p.0 p.1) ≡ t.LeftParen ∷ (spelling_pats p ++ t.RightParen ∷ [])
parts_spelled p =
    ap spelling_apat (sym (a.rolls-Parts p.0 p.1)) ∙ apat_spelled (APatTree-F.Parts p.0 p.1)
    ∙ ap (λ xs. t.LeftParen ∷ ((spelling_pat p.0 ++ xs) ++ t.RightParen ∷ []))
    (flat_map-map (λ x. t.Comma ∷ x) spelling_pat p.1)

pub parts_deep : (p : Pats) → depth_of_apat (a.Parts p.0 p.1) ≡ depth_of_pats p + 1
parts_deep p = ap depth_of_apat (sym (a.rolls-Parts p.0 p.1)) ∙ apat_deep (APatTree-F.Parts p.0 p.1)

pub parts_are : (p : Pats) → is_apat (a.Parts p.0 p.1) ≡ nat_lt (length p.1) 15 && are_pats p
parts_are p =
    ap is_apat (sym (a.rolls-Parts p.0 p.1)) ∙ apat_is (APatTree-F.Parts p.0 p.1)
    ∙ ap (λ n. nat_lt n 15 && are_pats p) (length_of_map is_pat p.1)

pub list_spelled : (p : Pats) → spelling_apat (a.List p.0 p.1) ≡ t.LeftBracket ∷
    (spelling_pats p ++ t.RightBracket ∷ [])
list_spelled p =
    ap spelling_apat (sym (a.rolls-List p.0 p.1)) ∙ apat_spelled (APatTree-F.List p.0 p.1)
    ∙ ap (λ xs. t.LeftBracket ∷ ((spelling_pat p.0 ++ xs) ++ t.RightBracket ∷ []))
    (flat_map-map (λ x. t.Comma ∷ x) spelling_pat p.1)

pub list_deep : (p : Pats) → depth_of_apat (a.List p.0 p.1) ≡ depth_of_pats p + 1
list_deep p = ap depth_of_apat (sym (a.rolls-List p.0 p.1)) ∙ apat_deep (APatTree-F.List p.0 p.1)

pub list_are : (p : Pats) → is_apat (a.List p.0 p.1) ≡ are_pats p
list_are p = ap is_apat (sym (a.rolls-List p.0 p.1)) ∙ apat_is (APatTree-F.List p.0 p.1)

pub as_spelled : (n : VarTree) (x : APatTree) → spelling_apat (a.As n x) ≡ var_tokens n ++ t.At ∷ spelling_apat x
as_spelled n x = ap spelling_apat (sym (a.rolls-As n x)) ∙ apat_spelled (APatTree-F.As n x)

pub as_deep : (n : VarTree) (x : APatTree) → depth_of_apat (a.As n x) ≡ depth_of_apat x + 1
as_deep n x = ap depth_of_apat (sym (a.rolls-As n x)) ∙ apat_deep (APatTree-F.As n x)

pub as_is : (n : VarTree) (x : APatTree) → is_apat (a.As n x) ≡ is_apat x
as_is n x = ap is_apat (sym (a.rolls-As n x)) ∙ apat_is (APatTree-F.As n x)

pub lazy_spelled : (x : APatTree) → spelling_apat (a.Lazy x) ≡ t.Tilde ∷ spelling_apat x
lazy_spelled x = ap spelling_apat (sym (a.rolls-Lazy x)) ∙ apat_spelled (APatTree-F.Lazy x)

pub lazy_deep : (x : APatTree) → depth_of_apat (a.Lazy x) ≡ depth_of_apat x + 1
lazy_deep x = ap depth_of_apat (sym (a.rolls-Lazy x)) ∙ apat_deep (APatTree-F.Lazy x)

pub lazy_is : (x : APatTree) → is_apat (a.Lazy x) ≡ is_apat x
lazy_is x = ap is_apat (sym (a.rolls-Lazy x)) ∙ apat_is (APatTree-F.Lazy x)

pub var_spelled : (n : VarTree) → spelling_apat (a.Var n) ≡ var_tokens n
var_spelled n = ap spelling_apat (sym (a.rolls-Var n)) ∙ apat_spelled (APatTree-F.Var n)

pub var_deep : (n : VarTree) → depth_of_apat (a.Var n) ≡ 0
var_deep n = ap depth_of_apat (sym (a.rolls-Var n)) ∙ apat_deep (APatTree-F.Var n)

pub var_is : (n : VarTree) → is_apat (a.Var n) ≡ true
var_is n = ap is_apat (sym (a.rolls-Var n)) ∙ apat_is (APatTree-F.Var n)

pub con_spelled : (c : GConTree) → spelling_apat (a.Con c) ≡ gcon_tokens c
con_spelled c = ap spelling_apat (sym (a.rolls-Con c)) ∙ apat_spelled (APatTree-F.Con c)

pub con_deep : (c : GConTree) → depth_of_apat (a.Con c) ≡ 0
con_deep c = ap depth_of_apat (sym (a.rolls-Con c)) ∙ apat_deep (APatTree-F.Con c)

pub con_is : (c : GConTree) → is_apat (a.Con c) ≡ is_gcon c
con_is c = ap is_apat (sym (a.rolls-Con c)) ∙ apat_is (APatTree-F.Con c)

-- tests of the first token
abbrev pub is_left_paren : Terminal → Bool
is_left_paren t.LeftParen = true
is_left_paren _ = false

abbrev pub is_left_bracket : Terminal → Bool
is_left_bracket t.LeftBracket = true
is_left_bracket _ = false

abbrev pub is_var : Terminal → Bool
is_var (t.Var n) = true
is_var _ = false

abbrev pub is_underscore : Terminal → Bool
is_underscore t.Underscore = true
is_underscore _ = false

abbrev pub is_literal : Terminal → Bool
is_literal (t.Integer n) = true
is_literal (t.Char n) = true
is_literal (t.Text n) = true
is_literal _ = false

abbrev pub is_tilde : Terminal → Bool
is_tilde t.Tilde = true
is_tilde _ = false

-- Whether the tokens behind a `(` are those of a name.
abbrev pub is_name : Ts → Bool
is_name [] = false
is_name (t.VarSym n ∷ t.RightParen ∷ ts) = true
is_name (t.RightParen ∷ ts) = true
is_name (t.Comma ∷ ts) = true
is_name (t.ConSym n ∷ ts) = true
is_name (t.Colon ∷ ts) = true
is_name (_ ∷ ts) = false

pub pat_no_name : (ts : Ts) → starts_pat ts ≡ true → is_name ts ≡ false
pat_no_name [] h = refl
pat_no_name (t.VarSym n ∷ []) h = refl
pat_no_name (t.VarSym n ∷ t.RightParen ∷ ts) h = absurd (true≢false (sym h))
pat_no_name (t.VarSym n ∷ k ∷ ts) h = refl
pat_no_name (t.RightParen ∷ ts) h = absurd (true≢false (sym h))
pat_no_name (t.Comma ∷ ts) h = absurd (true≢false (sym h))
pat_no_name (t.ConSym n ∷ ts) h = absurd (true≢false (sym h))
pat_no_name (t.Colon ∷ ts) h = absurd (true≢false (sym h))
pat_no_name (_ ∷ ts) h = refl

pub pats_start : (p : Pats) (k : Terminal) (after : Ts) → starts_pat ((spelling_pats p ++ k ∷ []) ++ after) ≡ true
pats_start p k after =
    starts_pat_append (spelling_pats p ++ k ∷ []) after
    (starts_pat_append (spelling_pats p) _ (starts_pat_append (spelling_pat p.0) _ (pat_starts p.0)))

pub tail_is : (x : Terminal) (xs ys : Ts) → x ∷ xs ≡ x ∷ ys → xs ≡ ys
tail_is x xs ys e = cc

-- an `apat` that begins with `(`, by what follows
pub data ParenCase (other : APatTree) (s after : Ts) : Type 0 where
  of_commas : (n : ℕ) → other ≡ a.Con (named_con n) → n < 15 → s ≡ (replicate n t.Comma ++ t.RightParen ∷ []) ++ after →
      ParenCase other s after
  of_con : (n : List ℕ) → other ≡ a.Con (g.Sym n) → s ≡ t.ConSym n ∷ t.RightParen ∷ after → ParenCase other s after
  of_colon : other ≡ a.Con g.Colon → s ≡ t.Colon ∷ t.RightParen ∷ after → ParenCase other s after
  of_var : (n : List ℕ) → other ≡ a.Var (v.Sym n) → s ≡ t.VarSym n ∷ t.RightParen ∷ after → ParenCase other s after
  of_as : (n : List ℕ) (x : APatTree) → other ≡ a.As (v.Sym n) x → is_apat x ≡ true
      → s ≡ t.VarSym n ∷ t.RightParen ∷ t.At ∷ (spelling_apat x ++ after) →
      ParenCase other s after
  of_parts : (p : Pats) → other ≡ a.Parts p.0 p.1 → nat_lt (length p.1) 15 && are_pats p ≡ true
      → s ≡ (spelling_pats p ++ t.RightParen ∷ []) ++ after →
      ParenCase other s after

paren_layer : (x : ALayer) (s after : Ts) → is_apat (roll-APatTree x) ≡ true
    → t.LeftParen ∷ s ≡ apat_layer_tokens x ++ after →
    ParenCase (roll-APatTree x) s after
paren_layer (APatTree-F.Var (v.Id n)) s after good e = absurd (true≢false (ap (begins is_left_paren) e))
paren_layer (APatTree-F.Var (v.Sym n)) s after good e = of_var n (a.rolls-Var (v.Sym n)) (tail_is _ _ _ e)
paren_layer (APatTree-F.As (v.Id n) x) s after good e = absurd (true≢false (ap (begins is_left_paren) e))
paren_layer (APatTree-F.As (v.Sym n) x) s after good e =
    of_as n x (a.rolls-As (v.Sym n) x) (sym (as_is (v.Sym n) x) ∙ ap is_apat (sym (a.rolls-As (v.Sym n) x))
    ∙ good) (tail_is _ _ _ e)
paren_layer APatTree-F.Wild s after good e = absurd (true≢false (ap (begins is_left_paren) e))
paren_layer (APatTree-F.Con g.Unit) s after good e = of_commas 0 (a.rolls-Con g.Unit) (omega arith) (tail_is _ _ _ e)
paren_layer (APatTree-F.Con g.List) s after good e = absurd (true≢false (ap (begins is_left_paren) e))
paren_layer (APatTree-F.Con (g.Tuple zero)) s after good e =
    absurd (true≢false (sym (sym (apat_is (APatTree-F.Con (g.Tuple 0))) ∙ good)))
paren_layer (APatTree-F.Con (g.Tuple (suc n))) s after good e =
    let most = and_right (nat_lt 0 (suc n)) _ (sym (apat_is (APatTree-F.Con (g.Tuple (suc n)))) ∙ good) in
    of_commas (suc n) (a.rolls-Con (g.Tuple (suc n))) (grind (arith, nat_tests)) (tail_is _ _ _ e)
paren_layer (APatTree-F.Con (g.Con n)) s after good e = absurd (true≢false (ap (begins is_left_paren) e))
paren_layer (APatTree-F.Con (g.Sym n)) s after good e = of_con n (a.rolls-Con (g.Sym n)) (tail_is _ _ _ e)
paren_layer (APatTree-F.Con g.Colon) s after good e = of_colon (a.rolls-Con g.Colon) (tail_is _ _ _ e)
paren_layer (APatTree-F.Literal (l.Integer n)) s after good e = absurd (true≢false (ap (begins is_left_paren) e))
paren_layer (APatTree-F.Literal (l.Char n)) s after good e = absurd (true≢false (ap (begins is_left_paren) e))
paren_layer (APatTree-F.Literal (l.Text n)) s after good e = absurd (true≢false (ap (begins is_left_paren) e))
paren_layer (APatTree-F.Parts x y) s after good e =
    let same = a.rolls-Parts x y in
    let e' : t.LeftParen ∷ s ≡ spelling_apat (a.Parts x y) ++ after =
    e ∙ ap (λ xs. xs ++ after) (sym (apat_spelled (APatTree-F.Parts x y))) ∙ ap (λ o. spelling_apat o ++ after) same in
    of_parts (x, y) same (sym (parts_are (x, y)) ∙ subst (λ o. is_apat o ≡ true) same good)
    (tail_is _ _ _ (e' ∙ ap (λ xs. xs ++ after) (parts_spelled (x, y))))
paren_layer (APatTree-F.List x y) s after good e = absurd (true≢false (ap (begins is_left_paren) e))
paren_layer (APatTree-F.Lazy x) s after good e = absurd (true≢false (ap (begins is_left_paren) e))

pub paren_cases : (other : APatTree) (s after : Ts) → is_apat other ≡ true
    → t.LeftParen ∷ s ≡ spelling_apat other ++ after → ParenCase other s after
paren_cases other s after good e =
    subst (λ o. ParenCase o s after) (roll-out-APatTree other)
    (paren_layer (out-APatTree other) s after (ap is_apat (roll-out-APatTree other) ∙ good)
    (e ∙ ap (λ o. spelling_apat o ++ after) (sym (roll-out-APatTree other))
    ∙ ap (λ xs. xs ++ after) (apat_spelled (out-APatTree other))))

pub data BracketCase (other : APatTree) (s after : Ts) : Type 0 where
  of_nil : other ≡ a.Con g.List → s ≡ t.RightBracket ∷ after → BracketCase other s after
  of_list : (p : Pats) → other ≡ a.List p.0 p.1 → are_pats p ≡ true
      → s ≡ (spelling_pats p ++ t.RightBracket ∷ []) ++ after → BracketCase other s after

bracket_layer : (x : ALayer) (s after : Ts) → is_apat (roll-APatTree x) ≡ true
    → t.LeftBracket ∷ s ≡ apat_layer_tokens x ++ after →
    BracketCase (roll-APatTree x) s after
bracket_layer (APatTree-F.Var (v.Id n)) s after good e = absurd (true≢false (ap (begins is_left_bracket) e))
bracket_layer (APatTree-F.Var (v.Sym n)) s after good e = absurd (true≢false (ap (begins is_left_bracket) e))
bracket_layer (APatTree-F.As (v.Id n) x) s after good e = absurd (true≢false (ap (begins is_left_bracket) e))
bracket_layer (APatTree-F.As (v.Sym n) x) s after good e = absurd (true≢false (ap (begins is_left_bracket) e))
bracket_layer APatTree-F.Wild s after good e = absurd (true≢false (ap (begins is_left_bracket) e))
bracket_layer (APatTree-F.Con g.Unit) s after good e = absurd (true≢false (ap (begins is_left_bracket) e))
bracket_layer (APatTree-F.Con g.List) s after good e = of_nil (a.rolls-Con g.List) (tail_is _ _ _ e)
bracket_layer (APatTree-F.Con (g.Tuple n)) s after good e = absurd (true≢false (ap (begins is_left_bracket) e))
bracket_layer (APatTree-F.Con (g.Con n)) s after good e = absurd (true≢false (ap (begins is_left_bracket) e))
bracket_layer (APatTree-F.Con (g.Sym n)) s after good e = absurd (true≢false (ap (begins is_left_bracket) e))
bracket_layer (APatTree-F.Con g.Colon) s after good e = absurd (true≢false (ap (begins is_left_bracket) e))
bracket_layer (APatTree-F.Literal (l.Integer n)) s after good e = absurd (true≢false (ap (begins is_left_bracket) e))
bracket_layer (APatTree-F.Literal (l.Char n)) s after good e = absurd (true≢false (ap (begins is_left_bracket) e))
bracket_layer (APatTree-F.Literal (l.Text n)) s after good e = absurd (true≢false (ap (begins is_left_bracket) e))
bracket_layer (APatTree-F.Parts x y) s after good e = absurd (true≢false (ap (begins is_left_bracket) e))
bracket_layer (APatTree-F.List x y) s after good e =
    let same = a.rolls-List x y in
    let e' : t.LeftBracket ∷ s ≡ spelling_apat (a.List x y) ++ after =
    e ∙ ap (λ xs. xs ++ after) (sym (apat_spelled (APatTree-F.List x y))) ∙ ap (λ o. spelling_apat o ++ after) same in
    of_list (x, y) same (sym (list_are (x, y)) ∙ subst (λ o. is_apat o ≡ true) same good)
    (tail_is _ _ _ (e' ∙ ap (λ xs. xs ++ after) (list_spelled (x, y))))
bracket_layer (APatTree-F.Lazy x) s after good e = absurd (true≢false (ap (begins is_left_bracket) e))

pub bracket_cases : (other : APatTree) (s after : Ts) → is_apat other ≡ true
    → t.LeftBracket ∷ s ≡ spelling_apat other ++ after → BracketCase other s after
bracket_cases other s after good e =
    subst (λ o. BracketCase o s after) (roll-out-APatTree other)
    (bracket_layer (out-APatTree other) s after (ap is_apat (roll-out-APatTree other) ∙ good)
    (e ∙ ap (λ o. spelling_apat o ++ after) (sym (roll-out-APatTree other))
    ∙ ap (λ xs. xs ++ after) (apat_spelled (out-APatTree other))))

-- an `apat` that begins with a name
pub data VarCase (name : VarTree) (other : APatTree) (s after : Ts) : Type 0 where
  of_name : other ≡ a.Var name → after ≡ s → VarCase name other s after
  of_bound : (x : APatTree) → other ≡ a.As name x → is_apat x ≡ true → s ≡ t.At ∷ (spelling_apat x ++ after)
      → VarCase name other s after

id_layer : (m : List ℕ) (x : ALayer) (s after : Ts) → is_apat (roll-APatTree x) ≡ true
    → t.Var m ∷ s ≡ apat_layer_tokens x ++ after →
    VarCase (v.Id m) (roll-APatTree x) s after
id_layer m (APatTree-F.Var (v.Id n)) s after good e = let same : n ≡ m = cc in
    of_name (a.rolls-Var (v.Id n) ∙ ap (λ k. a.Var (v.Id k)) same) cc
id_layer m (APatTree-F.Var (v.Sym n)) s after good e = absurd (true≢false (ap (begins is_var) e))
id_layer m (APatTree-F.As (v.Id n) x) s after good e =
    let same : n ≡ m = cc in
    of_bound x (a.rolls-As (v.Id n) x ∙ ap (λ k. a.As (v.Id k) x) same) (sym (as_is (v.Id n) x)
    ∙ ap is_apat (sym (a.rolls-As (v.Id n) x)) ∙ good) cc
id_layer m (APatTree-F.As (v.Sym n) x) s after good e = absurd (true≢false (ap (begins is_var) e))
id_layer m APatTree-F.Wild s after good e = absurd (true≢false (ap (begins is_var) e))
id_layer m (APatTree-F.Con g.Unit) s after good e = absurd (true≢false (ap (begins is_var) e))
id_layer m (APatTree-F.Con g.List) s after good e = absurd (true≢false (ap (begins is_var) e))
id_layer m (APatTree-F.Con (g.Tuple n)) s after good e = absurd (true≢false (ap (begins is_var) e))
id_layer m (APatTree-F.Con (g.Con n)) s after good e = absurd (true≢false (ap (begins is_var) e))
id_layer m (APatTree-F.Con (g.Sym n)) s after good e = absurd (true≢false (ap (begins is_var) e))
id_layer m (APatTree-F.Con g.Colon) s after good e = absurd (true≢false (ap (begins is_var) e))
id_layer m (APatTree-F.Literal (l.Integer n)) s after good e = absurd (true≢false (ap (begins is_var) e))
id_layer m (APatTree-F.Literal (l.Char n)) s after good e = absurd (true≢false (ap (begins is_var) e))
id_layer m (APatTree-F.Literal (l.Text n)) s after good e = absurd (true≢false (ap (begins is_var) e))
id_layer m (APatTree-F.Parts x y) s after good e = absurd (true≢false (ap (begins is_var) e))
id_layer m (APatTree-F.List x y) s after good e = absurd (true≢false (ap (begins is_var) e))
id_layer m (APatTree-F.Lazy x) s after good e = absurd (true≢false (ap (begins is_var) e))

sym_case : (m : List ℕ) (other : APatTree) (s after : Ts) → ParenCase other (t.VarSym m ∷ t.RightParen ∷ s) after
    → VarCase (v.Sym m) other s after
sym_case m other s after (of_commas zero eq most e) = absurd cc
sym_case m other s after (of_commas (suc n) eq most e) = absurd cc
sym_case m other s after (of_con n eq e) = absurd cc
sym_case m other s after (of_colon eq e) = absurd cc
sym_case m other s after (of_var n eq e) = let same : n ≡ m = cc in of_name (eq ∙ ap (λ k. a.Var (v.Sym k)) same) cc
sym_case m other s after (of_as n x eq is e) = let same : n ≡ m = cc in
    of_bound x (eq ∙ ap (λ k. a.As (v.Sym k) x) same) is cc
sym_case m other s after (of_parts p eq are e) = absurd
    (true≢false (ap is_name e ∙ pat_no_name _ (pats_start p t.RightParen after)))

pub var_cases : (name : VarTree) (other : APatTree) (s after : Ts) → is_apat other ≡ true
    → var_tokens name ++ s ≡ spelling_apat other ++ after →
    VarCase name other s after
var_cases (v.Id m) other s after good e =
    subst (λ o. VarCase (v.Id m) o s after) (roll-out-APatTree other)
    (id_layer m (out-APatTree other) s after (ap is_apat (roll-out-APatTree other) ∙ good)
    (e ∙ ap (λ o. spelling_apat o ++ after) (sym (roll-out-APatTree other))
    ∙ ap (λ xs. xs ++ after) (apat_spelled (out-APatTree other))))
var_cases (v.Sym m) other s after good e = sym_case m other s after
    (paren_cases other (t.VarSym m ∷ t.RightParen ∷ s) after good e)

-- productions of one token, or behind one
pub wild_only : (x : ALayer) (after : Ts) → begins is_underscore (apat_layer_tokens x ++ after) ≡ true
    → (p : Unit {0}) × (roll-APatTree x ≡ a.Wild)
wild_only (APatTree-F.Var (v.Id n)) after e = absurd (true≢false (sym e))
wild_only (APatTree-F.Var (v.Sym n)) after e = absurd (true≢false (sym e))
wild_only (APatTree-F.As (v.Id n) x) after e = absurd (true≢false (sym e))
wild_only (APatTree-F.As (v.Sym n) x) after e = absurd (true≢false (sym e))
wild_only APatTree-F.Wild after e = (tt, a.rolls-Wild)
wild_only (APatTree-F.Con g.Unit) after e = absurd (true≢false (sym e))
wild_only (APatTree-F.Con g.List) after e = absurd (true≢false (sym e))
wild_only (APatTree-F.Con (g.Tuple n)) after e = absurd (true≢false (sym e))
wild_only (APatTree-F.Con (g.Con n)) after e = absurd (true≢false (sym e))
wild_only (APatTree-F.Con (g.Sym n)) after e = absurd (true≢false (sym e))
wild_only (APatTree-F.Con g.Colon) after e = absurd (true≢false (sym e))
wild_only (APatTree-F.Literal (l.Integer n)) after e = absurd (true≢false (sym e))
wild_only (APatTree-F.Literal (l.Char n)) after e = absurd (true≢false (sym e))
wild_only (APatTree-F.Literal (l.Text n)) after e = absurd (true≢false (sym e))
wild_only (APatTree-F.Parts x y) after e = absurd (true≢false (sym e))
wild_only (APatTree-F.List x y) after e = absurd (true≢false (sym e))
wild_only (APatTree-F.Lazy x) after e = absurd (true≢false (sym e))

pub con_only : (x : ALayer) (after : Ts) → begins is_con (apat_layer_tokens x ++ after) ≡ true
    → (p : List ℕ) × (roll-APatTree x ≡ a.Con (g.Con p))
con_only (APatTree-F.Var (v.Id n)) after e = absurd (true≢false (sym e))
con_only (APatTree-F.Var (v.Sym n)) after e = absurd (true≢false (sym e))
con_only (APatTree-F.As (v.Id n) x) after e = absurd (true≢false (sym e))
con_only (APatTree-F.As (v.Sym n) x) after e = absurd (true≢false (sym e))
con_only APatTree-F.Wild after e = absurd (true≢false (sym e))
con_only (APatTree-F.Con g.Unit) after e = absurd (true≢false (sym e))
con_only (APatTree-F.Con g.List) after e = absurd (true≢false (sym e))
con_only (APatTree-F.Con (g.Tuple n)) after e = absurd (true≢false (sym e))
con_only (APatTree-F.Con (g.Con n)) after e = (n, a.rolls-Con (g.Con n))
con_only (APatTree-F.Con (g.Sym n)) after e = absurd (true≢false (sym e))
con_only (APatTree-F.Con g.Colon) after e = absurd (true≢false (sym e))
con_only (APatTree-F.Literal (l.Integer n)) after e = absurd (true≢false (sym e))
con_only (APatTree-F.Literal (l.Char n)) after e = absurd (true≢false (sym e))
con_only (APatTree-F.Literal (l.Text n)) after e = absurd (true≢false (sym e))
con_only (APatTree-F.Parts x y) after e = absurd (true≢false (sym e))
con_only (APatTree-F.List x y) after e = absurd (true≢false (sym e))
con_only (APatTree-F.Lazy x) after e = absurd (true≢false (sym e))

pub literal_only : (x : ALayer) (after : Ts) → begins is_literal (apat_layer_tokens x ++ after) ≡ true
    → (p : LiteralTree) × (roll-APatTree x ≡ a.Literal p)
literal_only (APatTree-F.Var (v.Id n)) after e = absurd (true≢false (sym e))
literal_only (APatTree-F.Var (v.Sym n)) after e = absurd (true≢false (sym e))
literal_only (APatTree-F.As (v.Id n) x) after e = absurd (true≢false (sym e))
literal_only (APatTree-F.As (v.Sym n) x) after e = absurd (true≢false (sym e))
literal_only APatTree-F.Wild after e = absurd (true≢false (sym e))
literal_only (APatTree-F.Con g.Unit) after e = absurd (true≢false (sym e))
literal_only (APatTree-F.Con g.List) after e = absurd (true≢false (sym e))
literal_only (APatTree-F.Con (g.Tuple n)) after e = absurd (true≢false (sym e))
literal_only (APatTree-F.Con (g.Con n)) after e = absurd (true≢false (sym e))
literal_only (APatTree-F.Con (g.Sym n)) after e = absurd (true≢false (sym e))
literal_only (APatTree-F.Con g.Colon) after e = absurd (true≢false (sym e))
literal_only (APatTree-F.Literal (l.Integer n)) after e = (l.Integer n, a.rolls-Literal (l.Integer n))
literal_only (APatTree-F.Literal (l.Char n)) after e = (l.Char n, a.rolls-Literal (l.Char n))
literal_only (APatTree-F.Literal (l.Text n)) after e = (l.Text n, a.rolls-Literal (l.Text n))
literal_only (APatTree-F.Parts x y) after e = absurd (true≢false (sym e))
literal_only (APatTree-F.List x y) after e = absurd (true≢false (sym e))
literal_only (APatTree-F.Lazy x) after e = absurd (true≢false (sym e))

pub lazy_only : (x : ALayer) (after : Ts) → begins is_tilde (apat_layer_tokens x ++ after) ≡ true
    → (p : APatTree) × (roll-APatTree x ≡ a.Lazy p)
lazy_only (APatTree-F.Var (v.Id n)) after e = absurd (true≢false (sym e))
lazy_only (APatTree-F.Var (v.Sym n)) after e = absurd (true≢false (sym e))
lazy_only (APatTree-F.As (v.Id n) x) after e = absurd (true≢false (sym e))
lazy_only (APatTree-F.As (v.Sym n) x) after e = absurd (true≢false (sym e))
lazy_only APatTree-F.Wild after e = absurd (true≢false (sym e))
lazy_only (APatTree-F.Con g.Unit) after e = absurd (true≢false (sym e))
lazy_only (APatTree-F.Con g.List) after e = absurd (true≢false (sym e))
lazy_only (APatTree-F.Con (g.Tuple n)) after e = absurd (true≢false (sym e))
lazy_only (APatTree-F.Con (g.Con n)) after e = absurd (true≢false (sym e))
lazy_only (APatTree-F.Con (g.Sym n)) after e = absurd (true≢false (sym e))
lazy_only (APatTree-F.Con g.Colon) after e = absurd (true≢false (sym e))
lazy_only (APatTree-F.Literal (l.Integer n)) after e = absurd (true≢false (sym e))
lazy_only (APatTree-F.Literal (l.Char n)) after e = absurd (true≢false (sym e))
lazy_only (APatTree-F.Literal (l.Text n)) after e = absurd (true≢false (sym e))
lazy_only (APatTree-F.Parts x y) after e = absurd (true≢false (sym e))
lazy_only (APatTree-F.List x y) after e = absurd (true≢false (sym e))
lazy_only (APatTree-F.Lazy x) after e = (x, a.rolls-Lazy x)

-- from the layer to the tree
pub of_layer : {P : Type 0} (make : P → APatTree) (test : Terminal → Bool) →
    ((x : ALayer) (after : Ts) → begins test (apat_layer_tokens x ++ after) ≡ true
    → (p : P) × (roll-APatTree x ≡ make p)) →
    (x : APatTree) (after : Ts) → begins test (spelling_apat x ++ after) ≡ true → (p : P) × (x ≡ make p)
of_layer make test f x after e =
    let y = out-APatTree x in
    let is = roll-out-APatTree x in
    let found = f y after (ap (λ ts. begins test (ts ++ after)) (sym (apat_spelled y))
    ∙ ap (λ z. begins test (spelling_apat z ++ after)) is ∙ e) in
    (found.0, sym is ∙ found.1)
