-- Patterns are less deep than they have tokens, and so are found again.
use Rattle.std.proofs.Common.{◌≡◌, ℕ, zero, suc, ◌+◌, ◌<◌, ◌≤◌, List, [], ◌∷◌, length, sym}
use Rattle.std.proofs.Common.{ap, ◌∙◌, subst, arith, length-append, le_refl}
use Rattle.std.specs.Prelude.{flat_map, map}
use Rattle.hs_forms.specs.Limits.{deepest}
use Rattle.hs_forms.proofs.WholeChainLemmas.{begins_length}
use Rattle.hs_tokens.specs.declared.terminal.Terminal.TheVariants as t
use Rattle.hs_trees.specs.Patterns.{gcon_tokens, qconop_tokens, var_tokens, spelling_apat, spelling_lpat, spelling_op}
use Rattle.hs_trees.specs.Patterns.{spelling_pat, APats, spelling_apats, Pats, spelling_pats, depth_of_apat}
use Rattle.hs_trees.specs.Patterns.{depth_of_lpat}
use Rattle.hs_trees.specs.Patterns.{depth_of_op, depth_of_pat, depth_of_apats, depth_of_pats, starts_apat}
use Rattle.hs_trees.specs.declared.patterns.APatTree.{APatTree, APatTree-F, out-APatTree, roll-APatTree}
use Rattle.hs_trees.specs.declared.patterns.APatTree.{roll-out-APatTree}
use Rattle.hs_trees.specs.declared.patterns.APatTree.TheVariants as a
use Rattle.hs_trees.specs.declared.patterns.LPatTree.{LPatTree, LPatTree-F, out-LPatTree, roll-LPatTree}
use Rattle.hs_trees.specs.declared.patterns.LPatTree.{roll-out-LPatTree}
use Rattle.hs_trees.specs.declared.patterns.LPatTree.TheVariants as lp
use Rattle.hs_trees.specs.declared.patterns.OpLPat.{OpLPat, out-OpLPat, roll-out-OpLPat}
use Rattle.hs_trees.specs.declared.patterns.PatTree.{PatTree, out-PatTree, roll-PatTree, roll-out-PatTree}
use Rattle.hs_trees.proofs.PatternLayerLemmas.{ALayer, LLayer, PLayer, apat_starts, apat_deep, lpat_deep, lpat_spelled}
use Rattle.hs_trees.proofs.PatternLayerLemmas.{op_spelled, op_deep, pat_spelled, pat_deep, var_starts}
use Rattle.hs_trees.proofs.PatternCaseLemmas.{parts_spelled, parts_deep, list_spelled, list_deep, as_spelled, as_deep}
use Rattle.hs_trees.proofs.PatternCaseLemmas.{lazy_spelled, lazy_deep}
use Rattle.hs_trees.proofs.PatternLPatLemmas.{apply_spelled, alone_spelled}
use Rattle.hs_trees.proofs.PatternUniqueLemmas.{upto, apats_all, pat_all}
use Rattle.hs_expression_forms.specs.Expressions.{apats, pats}
use Rattle.hs_one_tree.specs.Found.{Found}
use Rattle.hs_one_tree.proofs.WholeLemmas.{Each, each_upto}
use Rattle.hs_one_tree.proofs.FoundLemmas.{read_found}

-- items are as deep as they have tokens at most, and one less for each
pub deepest_tokens : {K X : Type 0} (items : X → List K) (deep : X → ℕ) (xs : List X) →
    Each (λ x. deep x < length (items x)) xs → deepest (map deep xs) + length xs ≤ length (flat_map items xs)
deepest_tokens items deep [] each = omega arith
deepest_tokens items deep (x ∷ xs) each =
    let more = deepest_tokens items deep xs each.1 in
    let long = length-append (items x) (flat_map items xs) in
    let one = each.0 in omega arith

module _ (n : ℕ)
    (below : (x : APatTree) → length (spelling_apat x) ≤ n → depth_of_apat x < length (spelling_apat x)) where
  apats_low : (p : APats) → length (spelling_apats p) ≤ n → depth_of_apats p < length (spelling_apats p)
  apats_low p short =
      let long = length-append (spelling_apat p.0) (flat_map spelling_apat p.1) in
      let head = below p.0 (omega arith) in
      let more = deepest_tokens spelling_apat depth_of_apat p.1
      (each_upto spelling_apat (λ x. depth_of_apat x < length (spelling_apat x)) n below p.1 (omega arith)) in
      omega arith

  lpat_of : (l : LLayer) → length (spelling_lpat (roll-LPatTree l)) ≤ n →
      depth_of_lpat (roll-LPatTree l) < length (spelling_lpat (roll-LPatTree l))
  lpat_of (LPatTree-F.Negative m) short =
      omega (arith, lpat_deep (LPatTree-F.Negative m), ap length (lpat_spelled (LPatTree-F.Negative m)))
  lpat_of (LPatTree-F.Apply c x xs) short =
      let p : APats = (x, xs) in
      let spelled = ap (λ o. length (spelling_lpat o)) (lp.rolls-Apply c x xs) ∙ ap length (apply_spelled c p) in
      let long = length-append (gcon_tokens c) (spelling_apats p) in
      let low = apats_low p (omega arith) in
      let deep : depth_of_lpat (roll-LPatTree (LPatTree-F.Apply c x xs)) ≡ depth_of_apats p =
      lpat_deep (LPatTree-F.Apply c x xs) in
      omega arith
  lpat_of (LPatTree-F.APat x) short =
      let spelled = ap (λ o. length (spelling_lpat o)) (lp.rolls-APat x) ∙ ap length (alone_spelled x) in
      let low = below x (omega arith) in
      let deep : depth_of_lpat (roll-LPatTree (LPatTree-F.APat x)) ≡ depth_of_apat x = lpat_deep (LPatTree-F.APat x) in
      omega arith

  lpat_low : (x : LPatTree) → length (spelling_lpat x) ≤ n → depth_of_lpat x < length (spelling_lpat x)
  lpat_low x =
      subst (λ y. length (spelling_lpat y) ≤ n → depth_of_lpat y < length (spelling_lpat y)) (roll-out-LPatTree x)
      (lpat_of (out-LPatTree x))

  op_low : (x : OpLPat) → length (spelling_op x) ≤ n → depth_of_op x < length (spelling_op x)
  op_low x short =
      let z = out-OpLPat x in
      let same = roll-out-OpLPat x in
      let spelled : length (spelling_op x) ≡ length (qconop_tokens z.op) + length (spelling_lpat z.pat) =
      ap (λ o. length (spelling_op o)) (sym same) ∙ ap length (op_spelled z)
      ∙ length-append (qconop_tokens z.op) (spelling_lpat z.pat) in
      let deep : depth_of_op x ≡ depth_of_lpat z.pat = ap (λ o. depth_of_op o) (sym same) ∙ op_deep z in
      let low = lpat_low z.pat (omega arith) in
      omega arith

  pat_of : (l : PLayer) → length (spelling_pat (roll-PatTree l)) ≤ n →
      depth_of_pat (roll-PatTree l) < length (spelling_pat (roll-PatTree l))
  pat_of l short =
      let spelled = ap length (pat_spelled l) in
      let long = length-append (spelling_lpat l.first) (flat_map spelling_op l.rest) in
      let head = lpat_low l.first (omega arith) in
      let more = deepest_tokens spelling_op depth_of_op l.rest
      (each_upto spelling_op (λ x. depth_of_op x < length (spelling_op x)) n op_low l.rest (omega arith)) in
      let deep = pat_deep l in
      omega arith

  pat_low : (x : PatTree) → length (spelling_pat x) ≤ n → depth_of_pat x < length (spelling_pat x)
  pat_low x =
      subst (λ y. length (spelling_pat y) ≤ n → depth_of_pat y < length (spelling_pat y)) (roll-out-PatTree x)
      (pat_of (out-PatTree x))

  pats_low : (p : Pats) → length (spelling_pats p) ≤ n → depth_of_pats p < length (spelling_pats p)
  pats_low p short =
      let long = length-append (spelling_pat p.0) (flat_map (λ x. t.Comma ∷ spelling_pat x) p.1) in
      let head = pat_low p.0 (omega arith) in
      let more = deepest_tokens (λ x. t.Comma ∷ spelling_pat x) depth_of_pat p.1
      (each_upto (λ x. t.Comma ∷ spelling_pat x) (λ x. depth_of_pat x < length (t.Comma ∷ spelling_pat x)) n
      (λ x short. let low = pat_low x (omega (arith, short)) in omega (arith, low)) p.1 (omega arith)) in
      omega arith

  -- one without parts
  leaf_of : (l : ALayer) → depth_of_apat (roll-APatTree l) ≡ 0 →
      depth_of_apat (roll-APatTree l) < length (spelling_apat (roll-APatTree l))
  leaf_of l deep =
      let some = begins_length starts_apat (spelling_apat (roll-APatTree l)) (apat_starts (roll-APatTree l)) in
      omega arith

  apat_of : (l : ALayer) → length (spelling_apat (roll-APatTree l)) ≤ suc n →
      depth_of_apat (roll-APatTree l) < length (spelling_apat (roll-APatTree l))
  apat_of (APatTree-F.Var x) short = leaf_of (APatTree-F.Var x) (apat_deep (APatTree-F.Var x))
  apat_of APatTree-F.Wild short = leaf_of APatTree-F.Wild (apat_deep APatTree-F.Wild)
  apat_of (APatTree-F.Con c) short = leaf_of (APatTree-F.Con c) (apat_deep (APatTree-F.Con c))
  apat_of (APatTree-F.Literal x) short = leaf_of (APatTree-F.Literal x) (apat_deep (APatTree-F.Literal x))
  apat_of (APatTree-F.As v x) short =
      let is = a.rolls-As v x in
      let spelled = ap (λ o. length (spelling_apat o)) is ∙ ap length (as_spelled v x) in
      let long = length-append (var_tokens v) (t.At ∷ spelling_apat x) in
      let deep = ap (λ o. depth_of_apat o) is ∙ as_deep v x in
      let low = below x (omega arith) in
      let some = begins_length starts_apat (var_tokens v) (var_starts v) in
      omega arith
  apat_of (APatTree-F.Parts x xs) short =
      let p : Pats = (x, xs) in
      let is = a.rolls-Parts x xs in
      let spelled = ap (λ o. length (spelling_apat o)) is ∙ ap length (parts_spelled p) in
      let long = length-append (spelling_pats p) (t.RightParen ∷ []) in
      let deep = ap (λ o. depth_of_apat o) is ∙ parts_deep p in
      let low = pats_low p (omega arith) in
      omega arith
  apat_of (APatTree-F.List x xs) short =
      let p : Pats = (x, xs) in
      let is = a.rolls-List x xs in
      let spelled = ap (λ o. length (spelling_apat o)) is ∙ ap length (list_spelled p) in
      let long = length-append (spelling_pats p) (t.RightBracket ∷ []) in
      let deep = ap (λ o. depth_of_apat o) is ∙ list_deep p in
      let low = pats_low p (omega arith) in
      omega arith
  apat_of (APatTree-F.Lazy x) short =
      let is = a.rolls-Lazy x in
      let spelled = ap (λ o. length (spelling_apat o)) is ∙ ap length (lazy_spelled x) in
      let deep = ap (λ o. depth_of_apat o) is ∙ lazy_deep x in
      let low = below x (omega arith) in
      omega arith

low : (n : ℕ) (x : APatTree) → length (spelling_apat x) ≤ n → depth_of_apat x < length (spelling_apat x)
low zero = λ x short. absurd (let some = begins_length starts_apat (spelling_apat x) (apat_starts x) in omega arith)
low (suc n) =
    λ x. subst (λ o. length (spelling_apat o) ≤ suc n → depth_of_apat o < length (spelling_apat o))
    (roll-out-APatTree x) (apat_of n (low n) (out-APatTree x))

-- arguments and operands are less deep than they have tokens
pub apats_room : (p : APats) → depth_of_apats p < length (spelling_apats p)
apats_room p = apats_low (length (spelling_apats p)) (low (length (spelling_apats p))) p (le_refl _)

pub lpat_room : (x : LPatTree) → depth_of_lpat x < length (spelling_lpat x)
lpat_room x = lpat_low (length (spelling_lpat x)) (low (length (spelling_lpat x))) x (le_refl _)

-- each pattern and each list of arguments is found
pub pats_found : (x : PatTree) → Found pats x
pats_found x good rest quiet =
    let n = length (spelling_pat x) in
    read_found pats x rest (pat_all n (upto n) x (le_refl n) good rest quiet) (pat_low n (low n) x (le_refl n))

pub apats_found : (p : APats) → Found apats p
apats_found p good rest quiet =
    let n = length (spelling_apats p) in
    read_found apats p rest (apats_all n (upto n) p (le_refl n) good rest quiet) (apats_room p)
