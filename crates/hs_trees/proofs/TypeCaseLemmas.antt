-- What an `atype` is by its first tokens, and how it is read from its parts.
use Rattle.std.proofs.Common.{◌≡◌, ℕ, zero, suc, ◌+◌, ◌<◌, true, true≢false, List, [], ◌∷◌, ◌++◌, sym, ap, ◌∙◌, subst}
use Rattle.std.proofs.Common.{arith}
use Rattle.std.specs.Prelude.{map, replicate, ◌&&◌, nat_lt, Option}
use Rattle.std.proofs.lemmas.List.Folds.{flat_map-map}
use Rattle.std.proofs.lemmas.Bool.Decides.{nat_tests}
use Rattle.hs_forms.specs.Reading.{Reads}
use Rattle.hs_forms.specs.Limits.{Within, all_of}
use Rattle.hs_trees.specs.Types.{atype_tokens, spelling_atype, spelling_btype, spelling_type, depth_of_atype}
use Rattle.hs_trees.specs.Types.{depth_of_type, is_atype, is_type, Parts, spelling_parts, depth_of_parts, are_parts}
use Rattle.hs_trees.specs.Types.{atype_form, named_type}
use Rattle.hs_tokens.specs.declared.terminal.Terminal.{Terminal}
use Rattle.hs_tokens.specs.declared.terminal.Terminal.TheVariants as t
use Rattle.hs_trees.specs.declared.types.ATypeTree.{ATypeTree, ATypeTree-F, out-ATypeTree, roll-ATypeTree}
use Rattle.hs_trees.specs.declared.types.ATypeTree.{roll-out-ATypeTree, map-ATypeTree}
use Rattle.hs_trees.specs.declared.types.ATypeTree.TheVariants as a
use Rattle.hs_trees.specs.declared.types.TypeTree.{TypeTree}
use Rattle.hs_forms.proofs.LimitLemmas.{within_zero, and_right}
use Rattle.hs_trees.proofs.TypeLayerLemmas.{ALayer, atype_spelled, atype_deep, atype_is, length_of_map}

pub parts_spelled : (p : Parts) → spelling_atype (a.Parts p.0 p.1) ≡ t.LeftParen ∷
    (spelling_parts p ++ t.RightParen ∷ [])
parts_spelled p =
    ap spelling_atype (sym (a.rolls-Parts p.0 p.1)) ∙ atype_spelled (ATypeTree-F.Parts p.0 p.1)
    ∙ ap (λ xs. t.LeftParen ∷ ((spelling_type p.0 ++ xs) ++ t.RightParen ∷ []))
    (flat_map-map (λ x. t.Comma ∷ x) spelling_type p.1)

pub parts_deep : (p : Parts) → depth_of_atype (a.Parts p.0 p.1) ≡ depth_of_parts p + 1
parts_deep p = ap depth_of_atype (sym (a.rolls-Parts p.0 p.1)) ∙ atype_deep (ATypeTree-F.Parts p.0 p.1)

pub parts_are : (p : Parts) → is_atype (a.Parts p.0 p.1) ≡ are_parts p
parts_are p =
    ap is_atype (sym (a.rolls-Parts p.0 p.1)) ∙ atype_is (ATypeTree-F.Parts p.0 p.1)
    ∙ ap (λ n. nat_lt n 15 && (is_type p.0 && all_of (map is_type p.1))) (length_of_map is_type p.1)

pub list_spelled : (x : TypeTree) → spelling_atype (a.List x) ≡ t.LeftBracket ∷ (spelling_type x ++ t.RightBracket ∷ [])
list_spelled x = ap spelling_atype (sym (a.rolls-List x)) ∙ atype_spelled (ATypeTree-F.List x)

pub list_deep : (x : TypeTree) → depth_of_atype (a.List x) ≡ depth_of_type x + 1
list_deep x = ap depth_of_atype (sym (a.rolls-List x)) ∙ atype_deep (ATypeTree-F.List x)

pub list_is : (x : TypeTree) → is_atype (a.List x) ≡ is_type x
list_is x = ap is_atype (sym (a.rolls-List x)) ∙ atype_is (ATypeTree-F.List x)

-- an `atype` that begins with a bracket, by what follows
pub data ParenCase (other : ATypeTree) (s after : List Terminal) : Type 0 where
  of_arrow : other ≡ a.ArrowCon → s ≡ t.Arrow ∷ t.RightParen ∷ after → ParenCase other s after
  of_commas : (n : ℕ) → other ≡ named_type n → n < 15 → s ≡ (replicate n t.Comma ++ t.RightParen ∷ []) ++ after →
      ParenCase other s after
  of_parts : (p : Parts) → other ≡ a.Parts p.0 p.1 → are_parts p ≡ true
      → s ≡ (spelling_parts p ++ t.RightParen ∷ []) ++ after →
      ParenCase other s after

tail_is : (x : Terminal) (xs ys : List Terminal) → x ∷ xs ≡ x ∷ ys → xs ≡ ys
tail_is x xs ys e = cc

con_apart : (name : List ℕ) (xs ys : List Terminal) → t.LeftParen ∷ xs ≡ t.Con name ∷ ys → ⊥
con_apart name xs ys e = cc

var_apart : (name : List ℕ) (xs ys : List Terminal) → t.LeftParen ∷ xs ≡ t.Var name ∷ ys → ⊥
var_apart name xs ys e = cc

bracket_apart : (xs ys : List Terminal) → t.LeftParen ∷ xs ≡ t.LeftBracket ∷ ys → ⊥
bracket_apart xs ys e = cc

spelled_at : (l : ALayer) (s after : List Terminal) → s ≡ spelling_atype (roll-ATypeTree l) ++ after →
    s ≡ atype_tokens (map-ATypeTree _ _ _ _ _ _ spelling_atype spelling_btype spelling_type l) ++ after
spelled_at l s after e = e ∙ ap (λ xs. xs ++ after) (atype_spelled l)

paren_layer : (l : ALayer) (s after : List Terminal) → is_atype (roll-ATypeTree l) ≡ true
    → t.LeftParen ∷ s ≡ spelling_atype (roll-ATypeTree l) ++ after →
    ParenCase (roll-ATypeTree l) s after
paren_layer (ATypeTree-F.Con x) s after good e = absurd (con_apart x _ _ (spelled_at (ATypeTree-F.Con x) _ _ e))
paren_layer ATypeTree-F.Unit s after good e =
    of_commas 0 a.rolls-Unit (omega arith) (tail_is _ _ _ (spelled_at ATypeTree-F.Unit _ _ e))
paren_layer ATypeTree-F.ListCon s after good e = absurd (bracket_apart _ _ (spelled_at ATypeTree-F.ListCon _ _ e))
paren_layer ATypeTree-F.ArrowCon s after good e = of_arrow a.rolls-ArrowCon
    (tail_is _ _ _ (spelled_at ATypeTree-F.ArrowCon _ _ e))
paren_layer (ATypeTree-F.TupleCon zero) s after good e =
    absurd (true≢false (sym (sym (atype_is (ATypeTree-F.TupleCon 0)) ∙ good)))
paren_layer (ATypeTree-F.TupleCon (suc n)) s after good e =
    let most = and_right (nat_lt 0 (suc n)) _ (sym (atype_is (ATypeTree-F.TupleCon (suc n))) ∙ good) in
    of_commas (suc n) (a.rolls-TupleCon (suc n)) (grind (arith, nat_tests))
    (tail_is _ _ _ (spelled_at (ATypeTree-F.TupleCon (suc n)) _ _ e))
paren_layer (ATypeTree-F.Var x) s after good e = absurd (var_apart x _ _ (spelled_at (ATypeTree-F.Var x) _ _ e))
paren_layer (ATypeTree-F.Parts x y) s after good e =
    let same = a.rolls-Parts x y in
    of_parts (x, y) same (sym (parts_are (x, y)) ∙ subst (λ o. is_atype o ≡ true) same good)
    (tail_is _ _ _ (e ∙ ap (λ o. spelling_atype o ++ after) same ∙ ap (λ xs. xs ++ after) (parts_spelled (x, y))))
paren_layer (ATypeTree-F.List x) s after good e = absurd (bracket_apart _ _ (spelled_at (ATypeTree-F.List x) _ _ e))

pub paren_cases : (other : ATypeTree) (s after : List Terminal) → is_atype other ≡ true
    → t.LeftParen ∷ s ≡ spelling_atype other ++ after →
    ParenCase other s after
paren_cases other =
    subst (λ o. (s after : List Terminal) → is_atype o ≡ true → t.LeftParen ∷ s ≡ spelling_atype o ++ after
    → ParenCase o s after)
    (roll-out-ATypeTree other) (paren_layer (out-ATypeTree other))

pub data BracketCase (other : ATypeTree) (s after : List Terminal) : Type 0 where
  of_list_con : other ≡ a.ListCon → s ≡ t.RightBracket ∷ after → BracketCase other s after
  of_list : (x : TypeTree) → other ≡ a.List x → is_type x ≡ true
      → s ≡ (spelling_type x ++ t.RightBracket ∷ []) ++ after →
      BracketCase other s after

con_bracket : (name : List ℕ) (xs ys : List Terminal) → t.LeftBracket ∷ xs ≡ t.Con name ∷ ys → ⊥
con_bracket name xs ys e = cc

var_bracket : (name : List ℕ) (xs ys : List Terminal) → t.LeftBracket ∷ xs ≡ t.Var name ∷ ys → ⊥
var_bracket name xs ys e = cc

paren_bracket : (xs ys : List Terminal) → t.LeftBracket ∷ xs ≡ t.LeftParen ∷ ys → ⊥
paren_bracket xs ys e = cc

bracket_layer : (l : ALayer) (s after : List Terminal) → is_atype (roll-ATypeTree l) ≡ true
    → t.LeftBracket ∷ s ≡ spelling_atype (roll-ATypeTree l) ++ after →
    BracketCase (roll-ATypeTree l) s after
bracket_layer (ATypeTree-F.Con x) s after good e = absurd (con_bracket x _ _ (spelled_at (ATypeTree-F.Con x) _ _ e))
bracket_layer ATypeTree-F.Unit s after good e = absurd (paren_bracket _ _ (spelled_at ATypeTree-F.Unit _ _ e))
bracket_layer ATypeTree-F.ListCon s after good e =
    of_list_con a.rolls-ListCon (tail_is _ _ _ (spelled_at ATypeTree-F.ListCon _ _ e))
bracket_layer ATypeTree-F.ArrowCon s after good e = absurd (paren_bracket _ _ (spelled_at ATypeTree-F.ArrowCon _ _ e))
bracket_layer (ATypeTree-F.TupleCon n) s after good e =
    absurd (paren_bracket _ _ (spelled_at (ATypeTree-F.TupleCon n) _ _ e))
bracket_layer (ATypeTree-F.Var x) s after good e = absurd (var_bracket x _ _ (spelled_at (ATypeTree-F.Var x) _ _ e))
bracket_layer (ATypeTree-F.Parts x y) s after good e =
    absurd (paren_bracket _ _ (spelled_at (ATypeTree-F.Parts x y) _ _ e))
bracket_layer (ATypeTree-F.List x) s after good e =
    let same = a.rolls-List x in
    of_list x same (sym (list_is x) ∙ subst (λ o. is_atype o ≡ true) same good)
    (tail_is _ _ _ (e ∙ ap (λ o. spelling_atype o ++ after) same ∙ ap (λ xs. xs ++ after) (list_spelled x)))

pub bracket_cases : (other : ATypeTree) (s after : List Terminal) → is_atype other ≡ true
    → t.LeftBracket ∷ s ≡ spelling_atype other ++ after →
    BracketCase other s after
bracket_cases other =
    subst (λ o. (s after : List Terminal) → is_atype o ≡ true → t.LeftBracket ∷ s ≡ spelling_atype o ++ after
    → BracketCase o s after)
    (roll-out-ATypeTree other) (bracket_layer (out-ATypeTree other))

-- a name alone
con_layer : (l : ALayer) (name : List ℕ) (s after : List Terminal)
    → t.Con name ∷ s ≡ atype_tokens (map-ATypeTree _ _ _ _ _ _ spelling_atype spelling_btype spelling_type l) ++ after →
    (roll-ATypeTree l ≡ a.Con name) × (after ≡ s)
con_layer (ATypeTree-F.Con x) name s after e = (let same : x ≡ name = cc in a.rolls-Con x ∙ ap a.Con same, cc)
con_layer ATypeTree-F.Unit name s after e = cc
con_layer ATypeTree-F.ListCon name s after e = cc
con_layer ATypeTree-F.ArrowCon name s after e = cc
con_layer (ATypeTree-F.TupleCon n) name s after e = cc
con_layer (ATypeTree-F.Var x) name s after e = cc
con_layer (ATypeTree-F.Parts x y) name s after e = cc
con_layer (ATypeTree-F.List x) name s after e = cc

pub con_case : (other : ATypeTree) (name : List ℕ) (s after : List Terminal)
    → t.Con name ∷ s ≡ spelling_atype other ++ after →
    (other ≡ a.Con name) × (after ≡ s)
con_case other =
    subst (λ o. (name : List ℕ) (s after : List Terminal) → t.Con name ∷ s ≡ spelling_atype o ++ after
    → (o ≡ a.Con name) × (after ≡ s))
    (roll-out-ATypeTree other)
    (λ name s after e. con_layer (out-ATypeTree other) name s after (spelled_at (out-ATypeTree other) _ _ e))

var_layer : (l : ALayer) (name : List ℕ) (s after : List Terminal)
    → t.Var name ∷ s ≡ atype_tokens (map-ATypeTree _ _ _ _ _ _ spelling_atype spelling_btype spelling_type l) ++ after →
    (roll-ATypeTree l ≡ a.Var name) × (after ≡ s)
var_layer (ATypeTree-F.Con x) name s after e = cc
var_layer ATypeTree-F.Unit name s after e = cc
var_layer ATypeTree-F.ListCon name s after e = cc
var_layer ATypeTree-F.ArrowCon name s after e = cc
var_layer (ATypeTree-F.TupleCon n) name s after e = cc
var_layer (ATypeTree-F.Var x) name s after e = (let same : x ≡ name = cc in a.rolls-Var x ∙ ap a.Var same, cc)
var_layer (ATypeTree-F.Parts x y) name s after e = cc
var_layer (ATypeTree-F.List x) name s after e = cc

pub var_case : (other : ATypeTree) (name : List ℕ) (s after : List Terminal)
    → t.Var name ∷ s ≡ spelling_atype other ++ after →
    (other ≡ a.Var name) × (after ≡ s)
var_case other =
    subst (λ o. (name : List ℕ) (s after : List Terminal) → t.Var name ∷ s ≡ spelling_atype o ++ after
    → (o ≡ a.Var name) × (after ≡ s))
    (roll-out-ATypeTree other)
    (λ name s after e. var_layer (out-ATypeTree other) name s after (spelled_at (out-ATypeTree other) _ _ e))

-- What a name, `()`, `[]` and `(->)` read.
pub con_read : (limit : Option ℕ) (name : List ℕ) (rest : List Terminal) → Reads (atype_form limit) (a.Con name) rest
con_read limit name rest = record {
  good = (
    ap is_atype (sym (a.rolls-Con name)) ∙ atype_is (ATypeTree-F.Con name),
    subst (Within limit) (sym (ap depth_of_atype (sym (a.rolls-Con name)) ∙ atype_deep (ATypeTree-F.Con name)))
        (within_zero limit),
  );
  only = λ s other after same good quiet e.
      con_case other name s after
      (sym (ap (λ o. spelling_atype o ++ s) (sym (a.rolls-Con name))
      ∙ ap (λ l. l ++ s) (atype_spelled (ATypeTree-F.Con name))) ∙ e);
}

pub var_read : (limit : Option ℕ) (name : List ℕ) (rest : List Terminal) → Reads (atype_form limit) (a.Var name) rest
var_read limit name rest = record {
  good = (
    ap is_atype (sym (a.rolls-Var name)) ∙ atype_is (ATypeTree-F.Var name),
    subst (Within limit) (sym (ap depth_of_atype (sym (a.rolls-Var name)) ∙ atype_deep (ATypeTree-F.Var name)))
        (within_zero limit),
  );
  only = λ s other after same good quiet e.
      var_case other name s after
      (sym (ap (λ o. spelling_atype o ++ s) (sym (a.rolls-Var name))
      ∙ ap (λ l. l ++ s) (atype_spelled (ATypeTree-F.Var name))) ∙ e);
}
