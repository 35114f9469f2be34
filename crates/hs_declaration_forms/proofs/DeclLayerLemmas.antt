-- The tokens, the well-formedness and the depth of declarations that bind nothing, and the cases of a declaration.
use Rattle.std.proofs.Common.{◌≡◌, ℕ, Bool, true, false, List, [], ◌∷◌, ◌++◌, refl, sym, ap, ◌∙◌, subst, append_assoc}
use Rattle.std.proofs.Common.{arith}
use Rattle.std.specs.Prelude.{max, ◌&&◌, map}
use Rattle.hs_forms.specs.Limits.{deepest}
use Rattle.hs_tokens.specs.declared.terminal.Terminal.TheVariants as t
use Rattle.hs_trees.specs.Types.{spelling_type, is_type, depth_of_type}
use Rattle.hs_trees.specs.declared.patterns.PatTree.{PatTree}
use Rattle.hs_trees.specs.declared.types.TypeTree.{TypeTree}
use Rattle.hs_trees.specs.declared.patterns.VarTree.{VarTree}
use Rattle.hs_modules.specs.Extents.{depth_of}
use Rattle.hs_modules.specs.ExpressionExtents.{extent_algebra, extent_of_decl}
use Rattle.hs_modules.specs.Tokens.{token_algebra, spelling_decl}
use Rattle.hs_modules.specs.Formed.{fact_algebra, good_of, facts_of_decl, is_level}
use Rattle.hs_modules.specs.ModuleForms.{binds_nothing}
use Rattle.hs_modules.specs.declared.declarations.TopDeclTree.TheVariants as top
use Rattle.hs_modules.specs.declared.expressions.DeclTree.{DeclTree, DeclTree-F, out-DeclTree, roll-DeclTree}
use Rattle.hs_modules.specs.declared.expressions.DeclTree.{roll-out-DeclTree, out-roll-DeclTree}
use Rattle.hs_modules.specs.declared.expressions.DeclTree.TheVariants as v
use Rattle.hs_modules.specs.declared.expressions.FunLhsTree.{FunLhsTree}
use Rattle.hs_modules.specs.declared.expressions.RhsTree.{RhsTree}
use Rattle.hs_modules.specs.declared.names.OpTree.{OpTree}
use Rattle.hs_modules.proofs.FoldingLemmas.{DeclTrees, decl_folded}
use Rattle.hs_modules.proofs.PartDepthLemmas.{type_depth_is}
use Rattle.hs_declaration_forms.specs.Typings.{typings, fixities, FixityHead, var_lists, op_lists, plain_decls}
use Rattle.hs_declaration_forms.proofs.FlatLemmas.{none_deep, each_formed}

abbrev pub VarParts : Type 0
VarParts = VarTree × List VarTree

abbrev pub OpParts : Type 0
OpParts = OpTree × List OpTree

abbrev pub make_typing : VarParts × TypeTree → DeclTree
make_typing p = v.Signature p.0.0 p.0.1 p.1

abbrev pub make_fixity : FixityHead × OpParts → DeclTree
make_fixity p = v.Fixity p.0.0 p.0.1 p.1.0 p.1.1

-- the types of variables
pub typing_spelled : (p : VarParts × TypeTree) → spelling_decl (make_typing p) ≡ typings.tokens p
unfolding token_algebra
typing_spelled p =
    ap spelling_decl (sym (v.rolls-Signature p.0.0 p.0.1 p.1))
    ∙ decl_folded token_algebra (DeclTree-F.Signature p.0.0 p.0.1 p.1)
    ∙ sym (append_assoc (var_lists.tokens p.0) (t.DoubleColon ∷ []) (spelling_type p.1))

pub typing_is : (p : VarParts × TypeTree) → (facts_of_decl (make_typing p)).good ≡ typings.formed p
unfolding fact_algebra
typing_is p =
    ap (λ x. (facts_of_decl x).good) (sym (v.rolls-Signature p.0.0 p.0.1 p.1))
    ∙ ap good_of (decl_folded fact_algebra (DeclTree-F.Signature p.0.0 p.0.1 p.1))
    ∙ ap (λ b. b && is_type p.1) (sym (each_formed p.0.1))

pub typing_deep : (p : VarParts × TypeTree) → (extent_of_decl (make_typing p)).depth ≡ typings.deep p
unfolding extent_algebra
typing_deep p =
    let e : (extent_of_decl (make_typing p)).depth ≡ depth_of_type p.1 =
    ap (λ x. (extent_of_decl x).depth) (sym (v.rolls-Signature p.0.0 p.0.1 p.1))
    ∙ ap depth_of (decl_folded extent_algebra (DeclTree-F.Signature p.0.0 p.0.1 p.1))
    ∙ type_depth_is p.1 in
    omega (arith, e, none_deep p.0.1)

pub typing_binds : (p : VarParts × TypeTree) → binds_nothing (top.Decl (make_typing p)) ≡ true
typing_binds p =
    let out : out-DeclTree (make_typing p) ≡ DeclTree-F.Signature p.0.0 p.0.1 p.1 =
    ap out-DeclTree (sym (v.rolls-Signature p.0.0 p.0.1 p.1))
    ∙ out-roll-DeclTree (DeclTree-F.Signature p.0.0 p.0.1 p.1) in
    rw out refl

-- fixity declarations
pub fixity_spelled : (p : FixityHead × OpParts) → spelling_decl (make_fixity p) ≡ fixities.tokens p
unfolding token_algebra
fixity_spelled p =
    ap spelling_decl (sym (v.rolls-Fixity p.0.0 p.0.1 p.1.0 p.1.1))
    ∙ decl_folded token_algebra (DeclTree-F.Fixity p.0.0 p.0.1 p.1.0 p.1.1)

pub fixity_is : (p : FixityHead × OpParts) → (facts_of_decl (make_fixity p)).good ≡ fixities.formed p
unfolding fact_algebra
fixity_is p =
    ap (λ x. (facts_of_decl x).good) (sym (v.rolls-Fixity p.0.0 p.0.1 p.1.0 p.1.1))
    ∙ ap good_of (decl_folded fact_algebra (DeclTree-F.Fixity p.0.0 p.0.1 p.1.0 p.1.1))

pub fixity_deep : (p : FixityHead × OpParts) → (extent_of_decl (make_fixity p)).depth ≡ fixities.deep p
unfolding extent_algebra
fixity_deep p =
    let e : (extent_of_decl (make_fixity p)).depth ≡ 0 =
    ap (λ x. (extent_of_decl x).depth) (sym (v.rolls-Fixity p.0.0 p.0.1 p.1.0 p.1.1))
    ∙ ap depth_of (decl_folded extent_algebra (DeclTree-F.Fixity p.0.0 p.0.1 p.1.0 p.1.1)) in
    omega (arith, e, none_deep p.1.1)

pub fixity_binds : (p : FixityHead × OpParts) → binds_nothing (top.Decl (make_fixity p)) ≡ true
fixity_binds p =
    let out : out-DeclTree (make_fixity p) ≡ DeclTree-F.Fixity p.0.0 p.0.1 p.1.0 p.1.1 =
    ap out-DeclTree (sym (v.rolls-Fixity p.0.0 p.0.1 p.1.0 p.1.1))
    ∙ out-roll-DeclTree (DeclTree-F.Fixity p.0.0 p.0.1 p.1.0 p.1.1) in
    rw out refl

-- what binds something
function_binds : (l : FunLhsTree) (r : RhsTree) → binds_nothing (top.Decl (v.Function l r)) ≡ false
function_binds l r =
    let out : out-DeclTree (v.Function l r) ≡ DeclTree-F.Function l r =
    ap out-DeclTree (sym (v.rolls-Function l r)) ∙ out-roll-DeclTree (DeclTree-F.Function l r) in
    rw out refl

pattern_binds : (l : PatTree) (r : RhsTree) → binds_nothing (top.Decl (v.Pattern l r)) ≡ false
pattern_binds l r =
    let out : out-DeclTree (v.Pattern l r) ≡ DeclTree-F.Pattern l r =
    ap out-DeclTree (sym (v.rolls-Pattern l r)) ∙ out-roll-DeclTree (DeclTree-F.Pattern l r) in
    rw out refl

pub data DeclCase (x : DeclTree) : Type 0 where
  is_typing : (p : VarParts × TypeTree) → x ≡ make_typing p → DeclCase x
  is_fixity : (p : FixityHead × OpParts) → x ≡ make_fixity p → DeclCase x
  binds : binds_nothing (top.Decl x) ≡ false → DeclCase x

decl_layer : (l : DeclTrees) → DeclCase (roll-DeclTree l)
decl_layer (DeclTree-F.Signature first rest ty) = is_typing ((first, rest), ty) (v.rolls-Signature first rest ty)
decl_layer (DeclTree-F.Fixity word level first rest) =
    is_fixity ((word, level), (first, rest)) (v.rolls-Fixity word level first rest)
decl_layer (DeclTree-F.Function left right) =
    binds (ap (λ x. binds_nothing (top.Decl x)) (v.rolls-Function left right) ∙ function_binds left right)
decl_layer (DeclTree-F.Pattern left right) =
    binds (ap (λ x. binds_nothing (top.Decl x)) (v.rolls-Pattern left right) ∙ pattern_binds left right)

pub decl_case : (x : DeclTree) → DeclCase x
decl_case x = subst DeclCase (roll-out-DeclTree x) (decl_layer (out-DeclTree x))
