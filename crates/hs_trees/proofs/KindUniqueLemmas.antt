-- At most one kind is spelled by a list of tokens, whatever its depth.
use Rattle.std.proofs.Common.{◌≡◌, ℕ, zero, suc, ◌+◌, ◌≤◌, false, [], ◌∷◌, ◌++◌, length, refl, sym, ap, ◌∙◌, subst}
use Rattle.std.proofs.Common.{arith, length-append, le_refl}
use Rattle.std.specs.Prelude.{flat_map, None}
use Rattle.hs_forms.specs.Reading.{begins, Reads}
use Rattle.hs_forms.specs.Whole.{Spells}
use Rattle.hs_tokens.specs.Terminals.{is_arrow, star}
use Rattle.hs_trees.specs.Kinds.{Ts, spelling_akind, spelling_kind, starts_akind, akind_form, kind_form}
use Rattle.hs_tokens.specs.declared.terminal.Terminal.TheVariants as t
use Rattle.hs_trees.specs.declared.types.AKindTree.{AKindTree, AKindTree-F, out-AKindTree, roll-AKindTree}
use Rattle.hs_trees.specs.declared.types.AKindTree.{roll-out-AKindTree}
use Rattle.hs_trees.specs.declared.types.AKindTree.TheVariants as a
use Rattle.hs_trees.specs.declared.types.KindTree.{KindTree, out-KindTree, roll-KindTree, roll-out-KindTree}
use Rattle.hs_forms.specs.Forms.{closed}
use Rattle.hs_forms.proofs.FormLemmas.{reads_behind, reads_closed}
use Rattle.hs_forms.proofs.VariantLemmas.{lead_reads}
use Rattle.hs_forms.proofs.WholeChainLemmas.{chain_all, part_length}
use Rattle.hs_forms.proofs.WholeChainLemmas.{begins_length}
use Rattle.hs_trees.proofs.KindLemmas.{ALayer, KLayer, kind_spelled, parens_spelled, akind_starts, arrow_kinds}
use Rattle.hs_trees.proofs.KindLemmas.{kind_chain, star_ok, parens_leads}

abbrev Upto : ℕ → Type 0
Upto n = (x : AKindTree) → length (spelling_akind x) ≤ n → (rest : Ts) → Reads (akind_form None) x rest

module _ (n : ℕ) (below : Upto n) where
  kind_of : (x : KLayer) → length (spelling_kind (roll-KindTree x)) ≤ n → (rest : Ts) → begins is_arrow rest ≡ false →
      Reads (kind_form None) (roll-KindTree x) rest
  kind_of x short rest q =
      let len : length (spelling_akind x.first) + length (flat_map arrow_kinds x.rest) ≤ n =
      omega (arith, ap length (kind_spelled x), length-append (spelling_akind x.first) (flat_map arrow_kinds x.rest)) in
      chain_all (kind_chain None) (λ h ys zs good. tt) x.first x.rest rest tt q
      (λ here quiet. below x.first (omega arith) here)
      (λ ys y zs e k good here quiet.
      let part = part_length arrow_kinds x.rest ys zs y e in
      reads_behind t.Arrow (akind_form None) y here (below y (omega arith) here))

  pub kind_all : (x : KindTree) → length (spelling_kind x) ≤ n → (rest : Ts) → begins is_arrow rest ≡ false
      → Reads (kind_form None) x rest
  kind_all x =
      subst (λ y. length (spelling_kind y) ≤ n → (rest : Ts) → begins is_arrow rest ≡ false
      → Reads (kind_form None) y rest)
      (roll-out-KindTree x) (kind_of (out-KindTree x))

  akind_of : (x : ALayer) → length (spelling_akind (roll-AKindTree x)) ≤ suc n → (rest : Ts)
      → Reads (akind_form None) (roll-AKindTree x) rest
  akind_of AKindTree-F.Star short rest =
      subst (λ o. Reads (akind_form None) o rest) (sym a.rolls-Star)
      (star_ok None (t.VarSym star ∷ rest) rest refl).reads
  akind_of (AKindTree-F.Parens k) short rest =
      let len : length (spelling_kind k) ≤ n =
      omega (
        arith,
        ap (λ o. length (spelling_akind o)) (a.rolls-Parens k),
        ap length (parens_spelled k),
        length-append (spelling_kind k) (t.RightParen ∷ []),
      ) in
      subst (λ o. Reads (akind_form None) o rest) (sym (a.rolls-Parens k))
      (lead_reads (akind_form None) (t.LeftParen ∷ []) (closed (kind_form None) t.RightParen) a.Parens
      (parens_leads None tt) k rest
      (reads_closed (kind_form None) t.RightParen (λ x. refl) k rest (kind_all k len (t.RightParen ∷ rest) refl)))

upto : (n : ℕ) → Upto n
upto zero = λ x short rest. absurd (let some = begins_length starts_akind (spelling_akind x) (akind_starts x) in
    omega arith)
upto (suc n) =
    λ x. subst (λ o. length (spelling_akind o) ≤ suc n → (rest : Ts) → Reads (akind_form None) o rest)
    (roll-out-AKindTree x) (akind_of n (upto n) (out-AKindTree x))

pub one_kind : (ts : Ts) (x y : KindTree) → Spells (kind_form None) x ts → Spells (kind_form None) y ts → y ≡ x
one_kind ts x y one two =
    let n = length (spelling_kind x) in
    let r = kind_all n (upto n) x (le_refl n) [] refl in
    (r.only [] y [] refl two.1 refl (ap (λ l. l ++ []) (sym one.0 ∙ two.0))).0
