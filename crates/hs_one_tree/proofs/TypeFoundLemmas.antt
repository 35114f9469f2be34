-- Types are found again, and are less deep than they have tokens.
use Rattle.std.proofs.Common.{◌≡◌, ℕ, zero, suc, ◌+◌, ◌≤◌, true, List, [], ◌∷◌, ◌++◌, length, refl, sym}
use Rattle.std.proofs.Common.{ap, ◌∙◌, subst, arith, length-append, le_refl, true≢false}
use Rattle.std.specs.Prelude.{flat_map, ◌||◌, nat_lt, None}
use Rattle.std.proofs.lemmas.Bool.Decides.{nat_tests}
use Rattle.hs_forms.specs.Reading.{Reads}
use Rattle.hs_forms.proofs.FormLemmas.{reads_closed}
use Rattle.hs_forms.proofs.CommaLemmas.{commas_read}
use Rattle.hs_forms.proofs.LimitLemmas.{and_left, and_right}
use Rattle.hs_forms.proofs.WholeChainLemmas.{begins_length}
use Rattle.hs_tokens.specs.Terminals.{is_arrow, is_comma, is_right_paren}
use Rattle.hs_tokens.specs.declared.terminal.Terminal.{Terminal}
use Rattle.hs_tokens.specs.declared.terminal.Terminal.TheVariants as t
use Rattle.hs_trees.specs.Types.{starts_atype, spelling_atype, spelling_btype, spelling_type, is_atype, is_btype}
use Rattle.hs_trees.specs.Types.{is_type, Parts, spelling_parts, are_parts, depth_of_atype, depth_of_btype}
use Rattle.hs_trees.specs.Types.{depth_of_type, depth_of_parts, atype_form, parts_form, type_form}
use Rattle.hs_trees.specs.declared.types.ATypeTree.{ATypeTree, ATypeTree-F, out-ATypeTree, roll-ATypeTree}
use Rattle.hs_trees.specs.declared.types.ATypeTree.{roll-out-ATypeTree}
use Rattle.hs_trees.specs.declared.types.ATypeTree.TheVariants as a
use Rattle.hs_trees.specs.declared.types.BTypeTree.{BTypeTree, out-BTypeTree, roll-BTypeTree, roll-out-BTypeTree}
use Rattle.hs_trees.specs.declared.types.TypeTree.{TypeTree, out-TypeTree, roll-TypeTree, roll-out-TypeTree}
use Rattle.hs_trees.proofs.TypeLayerLemmas.{ALayer, BLayer, Layer, atype_is, atype_deep, atype_starts, btype_spelled}
use Rattle.hs_trees.proofs.TypeLayerLemmas.{btype_is, btype_deep, type_spelled, type_is, type_deep}
use Rattle.hs_trees.proofs.TypeCaseLemmas.{parts_spelled, parts_are, parts_deep, list_spelled, list_is, list_deep}
use Rattle.hs_trees.proofs.TypeCaseLemmas.{con_read, var_read}
use Rattle.hs_trees.proofs.TypeBracketLemmas.{arrow_read, tuple_read, parts_read, list_con_read, list_read}
use Rattle.hs_trees.proofs.TypeChainLemmas.{arrow_items, comma_items, btype_chain, type_chain, parts_chain}
use Rattle.hs_expression_forms.specs.Trees.{Trees, Took}
use Rattle.hs_expression_forms.specs.Expressions.{types}
use Rattle.hs_declaration_forms.specs.Datatypes.{atypes, btypes}
use Rattle.hs_one_tree.specs.Found.{Found}
use Rattle.hs_one_tree.proofs.WholeLemmas.{each_upto, chain_found, ItemFound}
use Rattle.hs_one_tree.proofs.FoundLemmas.{behind_found, read_found, found_room}

-- what stands in brackets
abbrev parts : Trees Terminal Parts
parts = record {
  tokens = spelling_parts;
  formed = are_parts;
  deep = depth_of_parts;
  extends = λ x k. (starts_atype k || is_arrow k) || is_comma k;
}

-- an `atype`, which nothing goes on
abbrev Stands : ATypeTree → Type 0
Stands x =
    is_atype x ≡ true → (rest : List Terminal) →
    Took atypes None (spelling_atype x ++ rest) x rest (depth_of_atype x)

module _ (n : ℕ) (below : (x : ATypeTree) → length (spelling_atype x) ≤ n → Stands x) where
  btype_of : (l : BLayer) → length (spelling_btype (roll-BTypeTree l)) ≤ n → Found btypes (roll-BTypeTree l)
  btype_of l short is rest q =
      let spelled = btype_spelled l in
      let long = length-append (spelling_atype l.first) (flat_map spelling_atype l.rest) in
      let len : length (spelling_atype l.first) + length (flat_map spelling_atype l.rest) ≤ n =
      omega (arith, ap length spelled) in
      chain_found (btype_chain None) depth_of_btype l.first l.rest rest (is, tt) q
      (λ here quiet. below l.first (omega arith) (and_left (is_atype l.first) _ (sym (btype_is l) ∙ is)) here)
      (each_upto spelling_atype (ItemFound (btype_chain None)) n
      (λ x short k good here quiet. below x short good.0 here) l.rest (omega arith))
      (omega (arith, btype_deep l))

  btype_all : (x : BTypeTree) → length (spelling_btype x) ≤ n → Found btypes x
  btype_all x =
      subst (λ y. length (spelling_btype y) ≤ n → Found btypes y) (roll-out-BTypeTree x) (btype_of (out-BTypeTree x))

  type_of : (l : Layer) → length (spelling_type (roll-TypeTree l)) ≤ n → Found types (roll-TypeTree l)
  type_of l short is rest q =
      let spelled = type_spelled l in
      let long = length-append (spelling_btype l.first) (flat_map arrow_items l.rest) in
      let len : length (spelling_btype l.first) + length (flat_map arrow_items l.rest) ≤ n =
      omega (arith, ap length spelled) in
      chain_found (type_chain None) depth_of_type l.first l.rest rest (is, tt) q
      (λ here quiet. btype_all l.first (omega arith) (and_left (is_btype l.first) _ (sym (type_is l) ∙ is)) here quiet)
      (each_upto arrow_items (ItemFound (type_chain None)) n
      (λ x short k good here quiet.
      behind_found btypes t.Arrow x (btype_all x (omega (arith, short))) good.0 here quiet) l.rest (omega arith))
      (omega (arith, type_deep l))

  type_all : (x : TypeTree) → length (spelling_type x) ≤ n → Found types x
  type_all x =
      subst (λ y. length (spelling_type y) ≤ n → Found types y) (roll-out-TypeTree x) (type_of (out-TypeTree x))

  parts_all : (p : Parts) → length (spelling_parts p) ≤ n → Found parts p
  parts_all p short is rest q =
      let long = length-append (spelling_type p.0) (flat_map comma_items p.1) in
      let both = and_right (nat_lt (length p.1) 15) _ is in
      chain_found (parts_chain None) depth_of_parts p.0 p.1 rest (is, tt) q
      (λ here quiet. type_all p.0 (omega arith) (and_left (is_type p.0) _ both) here quiet)
      (each_upto comma_items (ItemFound (parts_chain None)) n
      (λ x short k good here quiet.
      behind_found types t.Comma x (type_all x (omega (arith, short))) good.0 here quiet) p.1 (omega arith))
      (omega arith)

  -- one without parts
  leaf_of : (l : ALayer) → depth_of_atype (roll-ATypeTree l) ≡ 0 → (y : ATypeTree) → roll-ATypeTree l ≡ y →
      (rest : List Terminal) → Reads (atype_form None) y rest →
      Took atypes None (spelling_atype (roll-ATypeTree l) ++ rest) (roll-ATypeTree l) rest
      (depth_of_atype (roll-ATypeTree l))
  leaf_of l deep y is rest r =
      let x = roll-ATypeTree l in
      let some = begins_length starts_atype (spelling_atype x) (atype_starts x) in
      read_found atypes x rest (subst (λ o. Reads (atype_form None) o rest) (sym is) r) (omega arith)

  atype_of : (l : ALayer) → length (spelling_atype (roll-ATypeTree l)) ≤ suc n → Stands (roll-ATypeTree l)
  atype_of (ATypeTree-F.Con x) short is rest =
      leaf_of (ATypeTree-F.Con x) (atype_deep (ATypeTree-F.Con x)) (a.Con x) (a.rolls-Con x) rest (con_read None x rest)
  atype_of ATypeTree-F.Unit short is rest =
      leaf_of ATypeTree-F.Unit (atype_deep ATypeTree-F.Unit) a.Unit a.rolls-Unit rest
      (tuple_read None 0 rest (commas_read t.Comma t.RightParen is_comma is_right_paren refl refl refl 15 0 rest
      (omega arith)))
  atype_of ATypeTree-F.ListCon short is rest =
      leaf_of ATypeTree-F.ListCon (atype_deep ATypeTree-F.ListCon) a.ListCon a.rolls-ListCon rest
      (list_con_read None rest)
  atype_of ATypeTree-F.ArrowCon short is rest =
      leaf_of ATypeTree-F.ArrowCon (atype_deep ATypeTree-F.ArrowCon) a.ArrowCon a.rolls-ArrowCon rest
      (arrow_read None rest)
  atype_of (ATypeTree-F.TupleCon zero) short is rest =
      absurd (true≢false (sym (sym (atype_is (ATypeTree-F.TupleCon 0)) ∙ is)))
  atype_of (ATypeTree-F.TupleCon (suc m)) short is rest =
      let most = and_right (nat_lt 0 (suc m)) _ (sym (atype_is (ATypeTree-F.TupleCon (suc m))) ∙ is) in
      leaf_of (ATypeTree-F.TupleCon (suc m)) (atype_deep (ATypeTree-F.TupleCon (suc m))) (a.TupleCon (suc m))
      (a.rolls-TupleCon (suc m)) rest
      (tuple_read None (suc m) rest
      (commas_read t.Comma t.RightParen is_comma is_right_paren refl refl refl 15 (suc m) rest
      (grind (arith, nat_tests))))
  atype_of (ATypeTree-F.Var x) short is rest =
      leaf_of (ATypeTree-F.Var x) (atype_deep (ATypeTree-F.Var x)) (a.Var x) (a.rolls-Var x) rest (var_read None x rest)
  atype_of (ATypeTree-F.Parts x y) short is rest =
      let p : Parts = (x, y) in
      let spelled = parts_spelled p in
      let deep = parts_deep p in
      let long = length-append (spelling_parts p) (t.RightParen ∷ []) in
      let good = sym (parts_are p) ∙ ap is_atype (sym (a.rolls-Parts x y)) ∙ is in
      let len : length (spelling_parts p) ≤ n =
      omega (arith, ap (λ o. length (spelling_atype o)) (a.rolls-Parts x y), ap length spelled) in
      let acc = parts_all p len good (t.RightParen ∷ rest) refl in
      let less = found_room parts p (t.RightParen ∷ rest) acc in
      subst (λ o. Took atypes None (spelling_atype o ++ rest) o rest (depth_of_atype o)) (sym (a.rolls-Parts x y))
      (read_found atypes (a.Parts x y) rest
      (parts_read None p rest tt (reads_closed (parts_form None) t.RightParen (λ x. refl) p rest acc.reads))
      (omega (arith, ap length spelled)))
  atype_of (ATypeTree-F.List x) short is rest =
      let spelled = list_spelled x in
      let deep = list_deep x in
      let long = length-append (spelling_type x) (t.RightBracket ∷ []) in
      let good = sym (list_is x) ∙ ap is_atype (sym (a.rolls-List x)) ∙ is in
      let len : length (spelling_type x) ≤ n =
      omega (arith, ap (λ o. length (spelling_atype o)) (a.rolls-List x), ap length spelled) in
      let acc = type_all x len good (t.RightBracket ∷ rest) refl in
      let less = found_room types x (t.RightBracket ∷ rest) acc in
      subst (λ o. Took atypes None (spelling_atype o ++ rest) o rest (depth_of_atype o)) (sym (a.rolls-List x))
      (read_found atypes (a.List x) rest
      (list_read None x rest tt (reads_closed (type_form None) t.RightBracket (λ x. refl) x rest acc.reads))
      (omega (arith, ap length spelled)))

upto : (n : ℕ) (x : ATypeTree) → length (spelling_atype x) ≤ n → Stands x
upto zero = λ x short. absurd (let some = begins_length starts_atype (spelling_atype x) (atype_starts x) in omega arith)
upto (suc n) =
    λ x. subst (λ o. length (spelling_atype o) ≤ suc n → Stands o) (roll-out-ATypeTree x)
    (atype_of n (upto n) (out-ATypeTree x))

-- each type is found
pub types_found : (x : TypeTree) → Found types x
types_found x = type_all (length (spelling_type x)) (upto (length (spelling_type x))) x (le_refl _)

-- each `btype` and each `atype`
pub btypes_found : (x : BTypeTree) → Found btypes x
btypes_found x = btype_all (length (spelling_btype x)) (upto (length (spelling_btype x))) x (le_refl _)

pub atypes_found : (x : ATypeTree) → Found atypes x
atypes_found x good rest quiet = upto (length (spelling_atype x)) x (le_refl _) good rest
