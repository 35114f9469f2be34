-- Kinds are found again, and are less deep than they have tokens.
use Rattle.std.proofs.Common.{◌≡◌, ℕ, zero, suc, ◌+◌, ◌≤◌, false, [], ◌∷◌, ◌++◌, length, refl, sym, ap}
use Rattle.std.proofs.Common.{◌∙◌, subst, arith, length-append, le_refl}
use Rattle.std.specs.Prelude.{flat_map, None}
use Rattle.hs_forms.specs.Reading.{begins}
use Rattle.hs_forms.specs.Answers.{Accepts}
use Rattle.hs_forms.specs.Forms.{behind, closed}
use Rattle.hs_forms.proofs.FormLemmas.{reads_behind, reads_closed}
use Rattle.hs_forms.proofs.VariantLemmas.{lead_reads}
use Rattle.hs_forms.proofs.WholeChainLemmas.{begins_length}
use Rattle.hs_tokens.specs.Terminals.{is_arrow, star}
use Rattle.hs_tokens.specs.declared.terminal.Terminal.TheVariants as t
use Rattle.hs_trees.specs.Kinds.{Ts, akind_depth, kind_depth, spelling_akind, spelling_kind, depth_of_akind}
use Rattle.hs_trees.specs.Kinds.{depth_of_kind}
use Rattle.hs_trees.specs.Kinds.{starts_akind, akind_form, kind_form}
use Rattle.hs_trees.specs.declared.types.AKindTree.{AKindTree, AKindTree-F, out-AKindTree, roll-AKindTree}
use Rattle.hs_trees.specs.declared.types.AKindTree.{roll-out-AKindTree, fold-roll-AKindTree}
use Rattle.hs_trees.specs.declared.types.AKindTree.TheVariants as a
use Rattle.hs_trees.specs.declared.types.KindTree.{KindTree, out-KindTree, roll-KindTree, roll-out-KindTree}
use Rattle.hs_trees.proofs.KindLemmas.{ALayer, KLayer, kind_spelled, kind_deep, parens_spelled, akind_starts}
use Rattle.hs_trees.proofs.KindLemmas.{arrow_kinds, kind_chain, star_ok, parens_leads}
use Rattle.hs_one_tree.proofs.WholeLemmas.{each_upto, told, chain_found, ItemFound}

abbrev Stands : AKindTree → Type 0
Stands x = (rest : Ts) → Accepts (akind_form None) depth_of_akind (spelling_akind x ++ rest) x rest (depth_of_akind x)

parens_deep : (k : KindTree) → depth_of_akind (a.Parens k) ≡ depth_of_kind k + 1
parens_deep k =
    ap depth_of_akind (sym (a.rolls-Parens k)) ∙ fold-roll-AKindTree ℕ ℕ akind_depth kind_depth (AKindTree-F.Parens k)

module _ (n : ℕ) (below : (x : AKindTree) → length (spelling_akind x) ≤ n → Stands x) where
  kind_of : (l : KLayer) → length (spelling_kind (roll-KindTree l)) ≤ n → (rest : Ts) → begins is_arrow rest ≡ false →
      Accepts (kind_form None) depth_of_kind (spelling_kind (roll-KindTree l) ++ rest) (roll-KindTree l) rest
      (depth_of_kind (roll-KindTree l))
  kind_of l short rest q =
      let spelled = kind_spelled l in
      let long = length-append (spelling_akind l.first) (flat_map arrow_kinds l.rest) in
      let len : length (spelling_akind l.first) + length (flat_map arrow_kinds l.rest) ≤ n =
      omega (arith, ap length spelled) in
      chain_found (kind_chain None) depth_of_kind l.first l.rest rest tt q
      (λ here quiet. below l.first (omega arith) here)
      (each_upto arrow_kinds (ItemFound (kind_chain None)) n
      (λ x short k good here quiet. item x (omega (arith, short)) here) l.rest (omega arith))
      (omega (arith, kind_deep l))
    where
      item : (x : AKindTree) → length (spelling_akind x) ≤ n → (here : Ts) →
          Accepts (behind t.Arrow (akind_form None)) depth_of_akind (arrow_kinds x ++ here) x here (depth_of_akind x)
      item x short here =
          let acc = below x short here in
          let room = acc.room in
          record {
            spelled = refl;
            reads = reads_behind t.Arrow (akind_form None) x here acc.reads;
            measured_is = refl;
            room = omega arith;
          }

  kind_all : (x : KindTree) → length (spelling_kind x) ≤ n → (rest : Ts) → begins is_arrow rest ≡ false →
      Accepts (kind_form None) depth_of_kind (spelling_kind x ++ rest) x rest (depth_of_kind x)
  kind_all x =
      subst (λ y. length (spelling_kind y) ≤ n → (rest : Ts) → begins is_arrow rest ≡ false →
      Accepts (kind_form None) depth_of_kind (spelling_kind y ++ rest) y rest (depth_of_kind y)) (roll-out-KindTree x)
      (kind_of (out-KindTree x))

  akind_of : (l : ALayer) → length (spelling_akind (roll-AKindTree l)) ≤ suc n → Stands (roll-AKindTree l)
  akind_of AKindTree-F.Star short rest =
      subst (λ o. Accepts (akind_form None) depth_of_akind (spelling_akind o ++ rest) o rest (depth_of_akind o))
      (sym a.rolls-Star)
      (told (akind_form None) depth_of_akind (t.VarSym star ∷ rest) a.Star rest 0
      (star_ok None (t.VarSym star ∷ rest) rest refl))
  akind_of (AKindTree-F.Parens k) short rest =
      let spelled = parens_spelled k in
      let deep = parens_deep k in
      let long = length-append (spelling_kind k) (t.RightParen ∷ []) in
      let whole = length-append (spelling_akind (a.Parens k)) rest in
      let part = length-append (spelling_kind k) (t.RightParen ∷ rest) in
      let len : length (spelling_kind k) ≤ n =
      omega (arith, ap (λ o. length (spelling_akind o)) (a.rolls-Parens k), ap length spelled) in
      let acc = kind_all k len (t.RightParen ∷ rest) refl in
      let room = acc.room in
      subst (λ o. Accepts (akind_form None) depth_of_akind (spelling_akind o ++ rest) o rest (depth_of_akind o))
      (sym (a.rolls-Parens k)) (record {
        spelled = refl;
        reads = lead_reads (akind_form None) (t.LeftParen ∷ []) (closed (kind_form None) t.RightParen) a.Parens
            (parens_leads None tt) k rest
            (reads_closed (kind_form None) t.RightParen (λ x. refl) k rest acc.reads);
        measured_is = refl;
        room = omega (arith, ap length spelled);
      })

upto : (n : ℕ) (x : AKindTree) → length (spelling_akind x) ≤ n → Stands x
upto zero = λ x short. absurd (let some = begins_length starts_akind (spelling_akind x) (akind_starts x) in omega arith)
upto (suc n) =
    λ x. subst (λ o. length (spelling_akind o) ≤ suc n → Stands o) (roll-out-AKindTree x)
    (akind_of n (upto n) (out-AKindTree x))

-- each kind is found
pub kind_found : (x : KindTree) (rest : Ts) → begins is_arrow rest ≡ false →
    Accepts (kind_form None) depth_of_kind (spelling_kind x ++ rest) x rest (depth_of_kind x)
kind_found x = kind_all (length (spelling_kind x)) (upto (length (spelling_kind x))) x (le_refl _)
