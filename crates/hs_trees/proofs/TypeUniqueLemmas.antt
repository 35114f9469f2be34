-- At most one type is spelled by a list of tokens, whatever its depth.
use Rattle.std.proofs.Common.{◌≡◌, ℕ, zero, suc, ◌+◌, ◌<◌, ◌≤◌, true, false, List, [], ◌∷◌, ◌++◌, length, refl, sym, ap}
use Rattle.std.proofs.Common.{◌∙◌, subst, arith, length-append, le_refl, true≢false}
use Rattle.std.specs.Prelude.{flat_map, ◌||◌, nat_lt, None}
use Rattle.std.proofs.lemmas.Bool.Decides.{nat_tests}
use Rattle.hs_forms.specs.Reading.{begins, Reads}
use Rattle.hs_forms.specs.Whole.{Spells}
use Rattle.hs_trees.specs.Types.{starts_atype, spelling_atype, spelling_btype, spelling_type, is_atype, is_btype}
use Rattle.hs_trees.specs.Types.{is_type, Parts, spelling_parts, are_parts, atype_form, btype_form, type_form}
use Rattle.hs_trees.specs.Types.{parts_form}
use Rattle.hs_tokens.specs.Terminals.{is_arrow, is_comma, is_right_paren}
use Rattle.hs_tokens.specs.declared.terminal.Terminal.{Terminal}
use Rattle.hs_tokens.specs.declared.terminal.Terminal.TheVariants as t
use Rattle.hs_trees.specs.declared.types.ATypeTree.{ATypeTree, ATypeTree-F, out-ATypeTree, roll-ATypeTree}
use Rattle.hs_trees.specs.declared.types.ATypeTree.{roll-out-ATypeTree}
use Rattle.hs_trees.specs.declared.types.ATypeTree.TheVariants as a
use Rattle.hs_trees.specs.declared.types.BTypeTree.{BTypeTree, out-BTypeTree, roll-BTypeTree, roll-out-BTypeTree}
use Rattle.hs_trees.specs.declared.types.TypeTree.{TypeTree, out-TypeTree, roll-TypeTree, roll-out-TypeTree}
use Rattle.hs_forms.proofs.FormLemmas.{reads_behind, reads_closed}
use Rattle.std.proofs.lemmas.Bool.{and_from}
use Rattle.hs_forms.proofs.LimitLemmas.{and_left, and_right}
use Rattle.hs_trees.proofs.TypeLayerLemmas.{ALayer, BLayer, Layer, atype_is, atype_starts, btype_spelled, btype_is}
use Rattle.hs_trees.proofs.TypeLayerLemmas.{type_spelled, type_is}
use Rattle.hs_trees.proofs.TypeCaseLemmas.{parts_spelled, parts_are, list_spelled, list_is, con_read, var_read}
use Rattle.hs_trees.proofs.TypeBracketLemmas.{arrow_read, tuple_read, parts_read, list_con_read, list_read}
use Rattle.hs_forms.proofs.CommaLemmas.{commas_read}
use Rattle.hs_forms.proofs.WholeChainLemmas.{chain_all, all_less, part_length}
use Rattle.hs_forms.proofs.WholeChainLemmas.{begins_length}
use Rattle.hs_trees.proofs.TypeChainLemmas.{make_btype, make_type, make_parts, arrow_items, comma_items, btype_chain}
use Rattle.hs_trees.proofs.TypeChainLemmas.{type_chain, parts_chain}

-- a front of a chain is one
btype_less : (h : ATypeTree) (ys zs : List ATypeTree) → (btype_form None).Good (make_btype h (ys ++ zs))
    → (btype_form None).Good (make_btype h ys)
btype_less h ys zs good =
    let m : BLayer = record { first = h; rest = ys ++ zs } in
    let k : BLayer = record { first = h; rest = ys } in
    let both = sym (btype_is m) ∙ good.0 in (
      btype_is k ∙ and_from _ _ (and_left (is_atype h) _ both) (all_less is_atype ys zs (and_right (is_atype h) _ both)),
      tt,
    )

type_less : (h : BTypeTree) (ys zs : List BTypeTree) → (type_form None).Good (make_type h (ys ++ zs))
    → (type_form None).Good (make_type h ys)
type_less h ys zs good =
    let m : Layer = record { first = h; rest = ys ++ zs } in
    let k : Layer = record { first = h; rest = ys } in
    let both = sym (type_is m) ∙ good.0 in (
      type_is k ∙ and_from _ _ (and_left (is_btype h) _ both) (all_less is_btype ys zs (and_right (is_btype h) _ both)),
      tt,
    )

parts_less : (h : TypeTree) (ys zs : List TypeTree) → (parts_form None).Good (make_parts h (ys ++ zs))
    → (parts_form None).Good (make_parts h ys)
parts_less h ys zs good =
    let few = and_left (nat_lt (length (ys ++ zs)) 15) _ good.0 in
    let more = and_right (nat_lt (length (ys ++ zs)) 15) _ good.0 in
    let long = length-append ys zs in
    let lt : length (ys ++ zs) < 15 = grind (arith, nat_tests) in
    let less : length ys < 15 = omega arith in (
      and_from _ _ (grind (arith, nat_tests)) (and_from _ _ (and_left (is_type h) _ more)
          (all_less is_type ys zs (and_right (is_type h) _ more))),
      tt,
    )

abbrev Upto : ℕ → Type 0
Upto n = (x : ATypeTree) → length (spelling_atype x) ≤ n → is_atype x ≡ true → (rest : List Terminal)
    → Reads (atype_form None) x rest

module _ (n : ℕ) (below : Upto n) where
  btype_of : (l : BLayer) → length (spelling_btype (roll-BTypeTree l)) ≤ n → is_btype (roll-BTypeTree l) ≡ true
      → (rest : List Terminal) →
      begins starts_atype rest ≡ false → Reads (btype_form None) (roll-BTypeTree l) rest
  btype_of l short is rest q =
      let len : length (spelling_atype l.first) + length (flat_map spelling_atype l.rest) ≤ n =
      omega (
        arith,
        ap length (btype_spelled l),
        length-append (spelling_atype l.first)
            (flat_map spelling_atype l.rest),
      ) in
      chain_all (btype_chain None) btype_less l.first l.rest rest (is, tt) q
      (λ here quiet. below l.first (omega arith) (and_left (is_atype l.first) _ (sym (btype_is l) ∙ is)) here)
      (λ ys x zs e k good here quiet.
      let part = part_length spelling_atype l.rest ys zs x e in below x (omega arith) good.0 here)

  btype_all : (x : BTypeTree) → length (spelling_btype x) ≤ n → is_btype x ≡ true → (rest : List Terminal) →
      begins starts_atype rest ≡ false → Reads (btype_form None) x rest
  btype_all x =
      subst (λ y. length (spelling_btype y) ≤ n → is_btype y ≡ true → (rest : List Terminal)
      → begins starts_atype rest ≡ false → Reads (btype_form None) y rest)
      (roll-out-BTypeTree x) (btype_of (out-BTypeTree x))

  type_of : (l : Layer) → length (spelling_type (roll-TypeTree l)) ≤ n → is_type (roll-TypeTree l) ≡ true
      → (rest : List Terminal) →
      begins (λ k. starts_atype k || is_arrow k) rest ≡ false → Reads (type_form None) (roll-TypeTree l) rest
  type_of l short is rest q =
      let len : length (spelling_btype l.first) + length (flat_map arrow_items l.rest) ≤ n =
      omega (arith, ap length (type_spelled l), length-append (spelling_btype l.first) (flat_map arrow_items l.rest)) in
      chain_all (type_chain None) type_less l.first l.rest rest (is, tt) q
      (λ here quiet. btype_all l.first (omega arith) (and_left (is_btype l.first) _ (sym (type_is l) ∙ is)) here quiet)
      (λ ys x zs e k good here quiet.
      let part = part_length arrow_items l.rest ys zs x e in
      reads_behind t.Arrow (btype_form None) x here (btype_all x (omega arith) good.0 here quiet))

  pub type_all : (x : TypeTree) → length (spelling_type x) ≤ n → is_type x ≡ true → (rest : List Terminal) →
      begins (λ k. starts_atype k || is_arrow k) rest ≡ false → Reads (type_form None) x rest
  type_all x =
      subst (λ y. length (spelling_type y) ≤ n → is_type y ≡ true → (rest : List Terminal)
      → begins (λ k. starts_atype k || is_arrow k) rest ≡ false → Reads (type_form None) y rest)
      (roll-out-TypeTree x) (type_of (out-TypeTree x))

  parts_all : (p : Parts) → length (spelling_parts p) ≤ n → are_parts p ≡ true → (rest : List Terminal) →
      begins (λ k. (starts_atype k || is_arrow k) || is_comma k) rest ≡ false → Reads (parts_form None) p rest
  parts_all p short is rest q =
      let len = length-append (spelling_type p.0) (flat_map comma_items p.1) in
      let both = and_right (nat_lt (length p.1) 15) _ is in
      chain_all (parts_chain None) parts_less p.0 p.1 rest (is, tt) q
      (λ here quiet. type_all p.0 (omega arith) (and_left (is_type p.0) _ both) here quiet)
      (λ ys x zs e k good here quiet.
      let part = part_length comma_items p.1 ys zs x e in
      reads_behind t.Comma (type_form None) x here (type_all x (omega arith) good.0 here quiet))

  atype_of : (l : ALayer) → length (spelling_atype (roll-ATypeTree l)) ≤ suc n → is_atype (roll-ATypeTree l) ≡ true
      → (rest : List Terminal) →
      Reads (atype_form None) (roll-ATypeTree l) rest
  atype_of (ATypeTree-F.Con x) short is rest = subst (λ o. Reads (atype_form None) o rest) (sym (a.rolls-Con x))
      (con_read None x rest)
  atype_of ATypeTree-F.Unit short is rest = subst (λ o. Reads (atype_form None) o rest) (sym a.rolls-Unit)
      (tuple_read None 0 rest (commas_read t.Comma t.RightParen is_comma is_right_paren refl refl refl 15 0 rest
      (omega arith)))
  atype_of ATypeTree-F.ListCon short is rest = subst (λ o. Reads (atype_form None) o rest) (sym a.rolls-ListCon)
      (list_con_read None rest)
  atype_of ATypeTree-F.ArrowCon short is rest = subst (λ o. Reads (atype_form None) o rest) (sym a.rolls-ArrowCon)
      (arrow_read None rest)
  atype_of (ATypeTree-F.TupleCon zero) short is rest =
      absurd (true≢false (sym (sym (atype_is (ATypeTree-F.TupleCon 0)) ∙ is)))
  atype_of (ATypeTree-F.TupleCon (suc m)) short is rest =
      let most = and_right (nat_lt 0 (suc m)) _ (sym (atype_is (ATypeTree-F.TupleCon (suc m))) ∙ is) in
      subst (λ o. Reads (atype_form None) o rest) (sym (a.rolls-TupleCon (suc m)))
      (tuple_read None (suc m) rest
      (commas_read t.Comma t.RightParen is_comma is_right_paren refl refl refl 15 (suc m) rest
      (grind (arith, nat_tests))))
  atype_of (ATypeTree-F.Var x) short is rest = subst (λ o. Reads (atype_form None) o rest) (sym (a.rolls-Var x))
      (var_read None x rest)
  atype_of (ATypeTree-F.Parts x y) short is rest =
      let p : Parts = (x, y) in
      let good = sym (parts_are p) ∙ ap is_atype (sym (a.rolls-Parts x y)) ∙ is in
      let len : length (spelling_parts p) ≤ n =
      omega (
        arith,
        ap (λ o. length (spelling_atype o)) (a.rolls-Parts x y),
        ap length (parts_spelled p),
        length-append (spelling_parts p) (t.RightParen ∷ []),
      ) in
      subst (λ o. Reads (atype_form None) o rest) (sym (a.rolls-Parts x y))
      (parts_read None p rest tt (reads_closed (parts_form None) t.RightParen (λ x. refl) p rest
      (parts_all p len good (t.RightParen ∷ rest) refl)))
  atype_of (ATypeTree-F.List x) short is rest =
      let good = sym (list_is x) ∙ ap is_atype (sym (a.rolls-List x)) ∙ is in
      let len : length (spelling_type x) ≤ n =
      omega (
        arith,
        ap (λ o. length (spelling_atype o)) (a.rolls-List x),
        ap length (list_spelled x),
        length-append (spelling_type x) (t.RightBracket ∷ []),
      ) in
      subst (λ o. Reads (atype_form None) o rest) (sym (a.rolls-List x))
      (list_read None x rest tt (reads_closed (type_form None) t.RightBracket (λ x. refl) x rest
      (type_all x len good (t.RightBracket ∷ rest) refl)))

upto : (n : ℕ) → Upto n
upto zero = λ x short is rest. absurd (let some = begins_length starts_atype (spelling_atype x) (atype_starts x) in
    omega arith)
upto (suc n) =
    λ x. subst (λ o. length (spelling_atype o) ≤ suc n → is_atype o ≡ true → (rest : List Terminal)
    → Reads (atype_form None) o rest)
    (roll-out-ATypeTree x) (atype_of n (upto n) (out-ATypeTree x))

pub one_type : (ts : List Terminal) (x y : TypeTree) → Spells (type_form None) x ts → Spells (type_form None) y ts
    → y ≡ x
one_type ts x y one two =
    let n = length (spelling_type x) in
    let r = type_all n (upto n) x (le_refl n) one.1.0 [] refl in
    (r.only [] y [] refl two.1 refl (ap (λ l. l ++ []) (sym one.0 ∙ two.0))).0
