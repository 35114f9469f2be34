-- The first tokens of declarations.
use Rattle.std.proofs.Common.{◌≡◌, true, false, List, [], ◌∷◌, ◌++◌, refl, sym, ap, ◌∙◌, subst}
use Rattle.std.proofs.Common.{true≢false, append_assoc}
use Rattle.hs_forms.specs.Reading.{begins}
use Rattle.hs_tokens.specs.declared.terminal.Terminal.TheVariants as t
use Rattle.hs_trees.specs.Patterns.{Ts, starts_pat, spelling_pat, spelling_lpat, var_tokens}
use Rattle.hs_trees.specs.declared.patterns.VarTree.{VarTree}
use Rattle.hs_trees.specs.declared.patterns.VarTree.TheVariants as va
use Rattle.hs_trees.proofs.PatternLayerLemmas.{pat_starts, lpat_starts}
use Rattle.hs_modules.specs.Tokens.{token_algebra, spelling_decl, spelling_fun_lhs, fun_lhs_tokens, spelling_rhs}
use Rattle.hs_modules.specs.Tokens.{fixity_word}
use Rattle.hs_modules.specs.declared.declarations.Fixity.{Fixity}
use Rattle.hs_modules.specs.declared.declarations.Fixity.TheVariants as f
use Rattle.hs_modules.specs.declared.expressions.DeclTree.{DeclTree, DeclTree-F, out-DeclTree, roll-DeclTree}
use Rattle.hs_modules.specs.declared.expressions.DeclTree.{roll-out-DeclTree}
use Rattle.hs_modules.specs.declared.expressions.FunLhsTree.{FunLhsTree, FunLhsTree-F, out-FunLhsTree, roll-FunLhsTree}
use Rattle.hs_modules.specs.declared.expressions.FunLhsTree.{roll-out-FunLhsTree, fold-roll-FunLhsTree}
use Rattle.hs_modules.proofs.FoldingLemmas.{DeclTrees, decl_folded}
use Rattle.hs_headers.specs.Names.{is_import_word}
use Rattle.hs_declaration_forms.specs.Datatypes.{starts_type_decl}
use Rattle.hs_declaration_forms.specs.Typings.{fills_place}

-- what the first token of a declaration is not: what declares a type, what ends an item, an import
pub record Starts (ts : Ts) : Type 0 where
  pub no_type : begins starts_type_decl ts ≡ false
  pub place : begins fills_place ts ≡ true
  pub no_import : begins is_import_word ts ≡ false

var_first : (x : VarTree) (more : Ts) → Starts (var_tokens x ++ more)
var_first (va.Id m) more = record { no_type = refl; place = refl; no_import = refl }
var_first (va.Sym m) more = record { no_type = refl; place = refl; no_import = refl }

pat_first : (ts more : Ts) → starts_pat ts ≡ true → Starts (ts ++ more)
pat_first [] more h = absurd (true≢false (sym h))
pat_first (t.Var n ∷ ts) more h = record { no_type = refl; place = refl; no_import = refl }
pat_first (t.Con n ∷ ts) more h = record { no_type = refl; place = refl; no_import = refl }
pat_first (t.VarSym n ∷ ts) more h = record { no_type = refl; place = refl; no_import = refl }
pat_first (t.Integer n ∷ ts) more h = record { no_type = refl; place = refl; no_import = refl }
pat_first (t.Char n ∷ ts) more h = record { no_type = refl; place = refl; no_import = refl }
pat_first (t.Text n ∷ ts) more h = record { no_type = refl; place = refl; no_import = refl }
pat_first (t.LeftParen ∷ ts) more h = record { no_type = refl; place = refl; no_import = refl }
pat_first (t.LeftBracket ∷ ts) more h = record { no_type = refl; place = refl; no_import = refl }
pat_first (t.Underscore ∷ ts) more h = record { no_type = refl; place = refl; no_import = refl }
pat_first (t.Tilde ∷ ts) more h = record { no_type = refl; place = refl; no_import = refl }
pat_first (_ ∷ ts) more h = absurd (true≢false (sym h))

-- the left side of a function
left_layer : (l : FunLhsTree-F FunLhsTree) (more : Ts) → Starts (spelling_fun_lhs (roll-FunLhsTree l) ++ more)
left_layer (FunLhsTree-F.Prefix x p ps) more =
    subst Starts (sym (ap (λ l. l ++ more) (fold-roll-FunLhsTree Ts fun_lhs_tokens (FunLhsTree-F.Prefix x p ps))
    ∙ append_assoc (var_tokens x) _ more)) (var_first x _)
left_layer (FunLhsTree-F.Infix l op r) more =
    subst Starts (sym (ap (λ l. l ++ more) (fold-roll-FunLhsTree Ts fun_lhs_tokens (FunLhsTree-F.Infix l op r))
    ∙ append_assoc (spelling_lpat l) _ more)) (pat_first (spelling_lpat l) _ (lpat_starts l))
left_layer (FunLhsTree-F.Parens x p ps) more =
    subst Starts (sym (ap (λ l. l ++ more) (fold-roll-FunLhsTree Ts fun_lhs_tokens (FunLhsTree-F.Parens x p ps))))
    (record { no_type = refl; place = refl; no_import = refl })

left_first : (x : FunLhsTree) (more : Ts) → Starts (spelling_fun_lhs x ++ more)
left_first x more = subst (λ y. Starts (spelling_fun_lhs y ++ more)) (roll-out-FunLhsTree x)
    (left_layer (out-FunLhsTree x) more)

word_first : (w : Fixity) (more : Ts) → Starts (fixity_word w ∷ more)
word_first f.Left more = record { no_type = refl; place = refl; no_import = refl }
word_first f.Right more = record { no_type = refl; place = refl; no_import = refl }
word_first f.Neither more = record { no_type = refl; place = refl; no_import = refl }

regrouped : (a b c d : Ts) → ((a ++ b) ++ c) ++ d ≡ a ++ (b ++ (c ++ d))
regrouped a b c d = simp append_assoc

decl_layer : (l : DeclTrees) (more : Ts) → Starts (spelling_decl (roll-DeclTree l) ++ more)
unfolding token_algebra
decl_layer (DeclTree-F.Signature x xs ty) more =
    subst Starts (sym (ap (λ l. l ++ more) (decl_folded token_algebra (DeclTree-F.Signature x xs ty))
    ∙ regrouped (var_tokens x) _ _ more)) (var_first x _)
decl_layer (DeclTree-F.Fixity w l op ops) more =
    subst Starts (sym (ap (λ l. l ++ more) (decl_folded token_algebra (DeclTree-F.Fixity w l op ops))))
    (word_first w _)
decl_layer (DeclTree-F.Function l r) more =
    subst Starts (sym (ap (λ l. l ++ more) (decl_folded token_algebra (DeclTree-F.Function l r))
    ∙ append_assoc (spelling_fun_lhs l) (spelling_rhs r) more)) (left_first l _)
decl_layer (DeclTree-F.Pattern p r) more =
    subst Starts (sym (ap (λ l. l ++ more) (decl_folded token_algebra (DeclTree-F.Pattern p r))
    ∙ append_assoc (spelling_pat p) (spelling_rhs r) more)) (pat_first (spelling_pat p) _ (pat_starts p))

pub decl_first : (x : DeclTree) (more : Ts) → Starts (spelling_decl x ++ more)
decl_first x more = subst (λ y. Starts (spelling_decl y ++ more)) (roll-out-DeclTree x)
    (decl_layer (out-DeclTree x) more)
