-- The returns of the readers of exports and items, over plain variables.
use Rattle.std.proofs.Common.{◌≡◌, ℕ, Bool, true, false, List, [], ◌∷◌, ◌++◌, length, refl, sym, ap, ◌∙◌, arith}
use Rattle.std.proofs.Common.{true≢false}
use Rattle.std.specs.Prelude.{not, map}
use Rattle.std.proofs.lemmas.Bool.{and_from}
use Rattle.hs_forms.specs.Reading.{begins}
use Rattle.hs_forms.specs.Answers.{Accepts, Rejects}
use Rattle.hs_forms.proofs.FormLemmas.{uncons}
use Rattle.hs_forms.proofs.LimitLemmas.{and_left, and_right}
use Rattle.hs_tokens.specs.Terminals.{is_right_paren, is_con}
use Rattle.hs_tokens.specs.declared.terminal.Terminal.{Terminal}
use Rattle.hs_tokens.specs.declared.terminal.Terminal.TheVariants as t
use Rattle.hs_tokens.specs.declared.word.Word.TheVariants as w
use Rattle.hs_trees.specs.declared.patterns.VarTree.TheVariants as v
use Rattle.hs_modules.specs.Words.{has_dot}
use Rattle.hs_modules.specs.ModuleTokens.{listed, subs_tokens, cname_tokens, export_tokens}
use Rattle.hs_modules.specs.declared.names.QVarTree.TheVariants as q
use Rattle.hs_modules.specs.declared.names.ConTree.TheVariants as c
use Rattle.hs_modules.specs.declared.module.CNameTree.{CNameTree}
use Rattle.hs_modules.specs.declared.module.CNameTree.TheVariants as n
use Rattle.hs_modules.specs.declared.module.SubsTree.{SubsTree}
use Rattle.hs_modules.specs.declared.module.SubsTree.TheVariants as u
use Rattle.hs_modules.specs.declared.module.ExportTree.{ExportTree}
use Rattle.hs_modules.specs.declared.module.ExportTree.TheVariants as x
use Rattle.hs_modules.specs.declared.module.ExportsTree.{ExportsTree}
use Rattle.hs_modules.specs.declared.module.ItemTree.{ItemTree}
use Rattle.hs_modules.specs.declared.module.ItemTree.TheVariants as i
use Rattle.hs_headers.specs.Lists.{Ts, tail_tokens, listed_form}
use Rattle.hs_headers.specs.Names.{is_left_paren, is_dots, is_own_con, is_module_word, starts_var, starts_qvar}
use Rattle.hs_headers.specs.Names.{starts_export, starts_item, var_form, qvar_form, subs_form}
use Rattle.hs_headers.specs.Elements.{cname_element, export_element}
use Rattle.hs_headers.specs.Headers.{export_form, exports_form, item_form}
use Rattle.hs_headers.proofs.TurnLemmas.{Turn, tree_ok, Next, stuck}
use Rattle.hs_headers.proofs.ElementLemmas.{listed_is}

-- the test that no token passes
abbrev pub none : Terminal → Bool
none k = false

pub passes_none : (s : Ts) → begins none s ≡ false
passes_none [] = refl
passes_none (k ∷ s) = refl

-- what stands in the brackets of a list
pub inside : {X : Type 0} (f : X → Ts) (xs : List X) (b : Bool) (s after : Ts) →
    t.LeftParen ∷ s ≡ listed (map f xs) b ++ after → s ≡ tail_tokens false f xs b ++ after
inside f xs b s after h =
    uncons t.LeftParen s (tail_tokens false f xs b ++ after) (h ∙ ap (λ l. l ++ after) (listed_is f xs b))

-- the names behind a type begin with a bracket
pub subs_open : (y : SubsTree) (s after : Ts) → s ≡ subs_tokens y ++ after → begins is_left_paren s ≡ true
subs_open u.All s after e = ap (begins is_left_paren) e
subs_open (u.Only names) s after e = ap (begins is_left_paren) e

no_dots : (xs : List CNameTree) (s after : Ts) → s ≡ tail_tokens false cname_tokens xs false ++ after →
    begins is_dots s ≡ false
no_dots [] s after e = ap (begins is_dots) e
no_dots (n.Var (v.Id m) ∷ ys) s after e = ap (begins is_dots) e
no_dots (n.Var (v.Sym m) ∷ ys) s after e = ap (begins is_dots) e
no_dots (n.Con (c.Id m) ∷ ys) s after e = ap (begins is_dots) e
no_dots (n.Con (c.Sym m) ∷ ys) s after e = ap (begins is_dots) e

-- subs
pub subs_all_ok : (ts next behind rest : Ts) → ts ≡ t.LeftParen ∷ next → next ≡ t.DotDot ∷ behind →
    behind ≡ t.RightParen ∷ rest → Accepts subs_form (λ y. 0) ts u.All rest 0
subs_all_ok ts next behind rest at dots shut =
    tree_ok subs_form ts (t.LeftParen ∷ t.DotDot ∷ t.RightParen ∷ []) rest u.All
    (at ∙ ap (λ l. t.LeftParen ∷ l) (dots ∙ ap (λ l. t.DotDot ∷ l) shut)) (omega arith) refl refl
    (λ s other after same good quiet e. go s other after e)
  where
    go : (s : Ts) (other : SubsTree) (after : Ts) →
        t.LeftParen ∷ t.DotDot ∷ t.RightParen ∷ s ≡ subs_form.tokens other ++ after → other ≡ u.All
    go s u.All after e = refl
    go s (u.Only names) after e = absurd (true≢false (no_dots names _ after (inside cname_tokens names false _ after
        e)))

pub subs_none : (ts : Ts) → begins is_left_paren ts ≡ false → Rejects subs_form ts (length ts)
subs_none ts p =
    stuck subs_form is_left_paren ts [] ts (subs_tokens u.All) u.All refl refl
    (λ y s after good quiet e. subs_open y s after e) refl p

pub subs_dots_open : (ts next behind : Ts) → ts ≡ t.LeftParen ∷ next → next ≡ t.DotDot ∷ behind →
    begins is_right_paren behind ≡ false → Rejects subs_form ts (length behind)
subs_dots_open ts next behind at dots p =
    stuck subs_form is_right_paren ts (t.LeftParen ∷ t.DotDot ∷ []) behind (t.RightParen ∷ []) u.All refl refl follows
    (at ∙ ap (λ l. t.LeftParen ∷ l) dots) p
  where
    follows : Next subs_form (t.LeftParen ∷ t.DotDot ∷ []) is_right_paren
    follows u.All s after good quiet e = let at : s ≡ t.RightParen ∷ after = cc in ap (begins is_right_paren) at
    follows (u.Only names) s after good quiet e =
        absurd (true≢false (no_dots names _ after (inside cname_tokens names false _ after e)))

pub subs_names : Turn subs_form (t.LeftParen ∷ []) is_dots false (listed_form cname_element false) (λ p. u.Only p.0)
subs_names = record {
  tokens = λ p good. tokens p.0 p.1 good.1;
  good = λ p good. good.0;
  extends = λ p k e. refl;
  only = λ y s after h good quiet e. only y s after h good e;
}
  where
    tokens : (xs : List CNameTree) (b : Bool) → (b ≡ true → false ≡ true) →
        subs_tokens (u.Only xs) ≡ t.LeftParen ∷ tail_tokens false cname_tokens xs b
    tokens xs true may = absurd (true≢false (sym (may refl)))
    tokens xs false may = listed_is cname_tokens xs false

    only : (y : SubsTree) (s after : Ts) → begins is_dots s ≡ false → subs_form.Good y →
        t.LeftParen ∷ s ≡ subs_tokens y ++ after →
        (p : List CNameTree × Bool) × (y ≡ u.Only p.0) × (listed_form cname_element false).Good p
    only u.All s after h good e =
        let at : s ≡ t.DotDot ∷ t.RightParen ∷ after = cc in
        absurd (true≢false (sym (ap (begins is_dots) at) ∙ h))
    only (u.Only names) s after h good e = ((names, false), refl, (good, λ b. absurd (true≢false (sym b))))

-- export
pub export_names : (name : List ℕ) → Turn export_form (t.Con name ∷ []) is_left_paren true subs_form (x.TypeWith name)
export_names name = record {
  tokens = λ p good. refl;
  good = λ p good. good;
  extends = λ p k e. refl;
  only = λ y s after h good quiet e. only y s after h good quiet e;
}
  where
    only : (y : ExportTree) (s after : Ts) → begins is_left_paren s ≡ true → export_form.Good y →
        begins (export_form.extends y) after ≡ false → t.Con name ∷ s ≡ export_tokens y ++ after →
        (p : SubsTree) × (y ≡ x.TypeWith name p) × subs_form.Good p
    only (x.Var (q.Id m)) s after h good quiet e = absurd cc
    only (x.Var (q.Sym m)) s after h good quiet e = absurd cc
    only (x.Var (q.QualifiedId m)) s after h good quiet e = absurd cc
    only (x.Var (q.QualifiedSym m)) s after h good quiet e = absurd cc
    only (x.Type m) s after h good quiet e =
        let at : s ≡ after = cc in absurd (true≢false (sym h ∙ ap (begins is_left_paren) at ∙ quiet))
    only (x.TypeWith m subs) s after h good quiet e =
        let is : m ≡ name = cc in (subs, ap (λ k. x.TypeWith k subs) is, good)
    only (x.Module m) s after h good quiet e = absurd cc

pub export_var : Turn export_form [] starts_qvar true qvar_form x.Var
export_var = record {
  tokens = λ p good. refl;
  good = λ p good. refl;
  extends = λ p k e. refl;
  only = λ y s after h good quiet e. only y s after h e;
}
  where
    only : (y : ExportTree) (s after : Ts) → begins starts_qvar s ≡ true → s ≡ export_tokens y ++ after →
        (p : _) × (y ≡ x.Var p) × qvar_form.Good p
    only (x.Var y) s after h e = (y, refl, tt)
    only (x.Type m) s after h e = absurd (true≢false (sym h ∙ ap (begins starts_qvar) e))
    only (x.TypeWith m subs) s after h e = absurd (true≢false (sym h ∙ ap (begins starts_qvar) e))
    only (x.Module m) s after h e = absurd (true≢false (sym h ∙ ap (begins starts_qvar) e))

pub export_none : (ts : Ts) → begins is_con ts ≡ false → begins is_module_word ts ≡ false →
    begins starts_qvar ts ≡ false → Rejects export_form ts (length ts)
export_none ts p r h =
    stuck export_form starts_export ts [] ts (t.Con [] ∷ []) (x.Type []) refl refl next refl (ends ts p r h)
  where
    next : Next export_form [] starts_export
    next (x.Var (q.Id m)) s after good quiet e = ap (begins starts_export) e
    next (x.Var (q.Sym m)) s after good quiet e = ap (begins starts_export) e
    next (x.Var (q.QualifiedId m)) s after good quiet e = ap (begins starts_export) e
    next (x.Var (q.QualifiedSym m)) s after good quiet e = ap (begins starts_export) e
    next (x.Type m) s after good quiet e = ap (begins starts_export) e
    next (x.TypeWith m subs) s after good quiet e = ap (begins starts_export) e
    next (x.Module m) s after good quiet e = ap (begins starts_export) e

    ends : (ts : Ts) → begins is_con ts ≡ false → begins is_module_word ts ≡ false → begins starts_qvar ts ≡ false →
        begins starts_export ts ≡ false
    ends [] p r h = refl
    ends (t.Con m ∷ ts) p r h = p
    ends (t.Word w.Module ∷ ts) p r h = r
    ends (t.Word word ∷ ts) p r h = refl
    ends (t.Var m ∷ ts) p r h = h
    ends (t.QVar m ∷ ts) p r h = h
    ends (t.LeftParen ∷ ts) p r h = h
    ends (_ ∷ ts) p r h = refl

pub export_module_open : (ts : Ts) → begins is_con ts ≡ false →
    Rejects export_form (t.Word w.Module ∷ ts) (length ts)
export_module_open ts p =
    stuck export_form is_con (t.Word w.Module ∷ ts) (t.Word w.Module ∷ []) ts (t.Con [] ∷ []) (x.Module []) refl refl
    follows refl p
  where
    follows : Next export_form (t.Word w.Module ∷ []) is_con
    follows (x.Var (q.Id m)) s after good quiet e = absurd cc
    follows (x.Var (q.Sym m)) s after good quiet e = absurd cc
    follows (x.Var (q.QualifiedId m)) s after good quiet e = absurd cc
    follows (x.Var (q.QualifiedSym m)) s after good quiet e = absurd cc
    follows (x.Type m) s after good quiet e = absurd cc
    follows (x.TypeWith m subs) s after good quiet e = absurd cc
    follows (x.Module m) s after good quiet e = let at : s ≡ t.Con m ∷ after = cc in ap (begins is_con) at

-- exports
abbrev pub make_exports : List ExportTree × Bool → ExportsTree
make_exports p = record { exports = p.0; trailing = p.1 }

pub exports_listed : Turn exports_form (t.LeftParen ∷ []) none false (listed_form export_element true) make_exports
exports_listed = record {
  tokens = λ p good. listed_is export_tokens p.0 p.1;
  good = λ p good. good.0;
  extends = λ p k e. refl;
  only = λ y s after h good quiet e. ((y.exports, y.trailing), refl, (good, λ b. refl));
}

pub exports_none : (ts : Ts) → begins is_left_paren ts ≡ false → Rejects exports_form ts (length ts)
exports_none ts p =
    stuck exports_form is_left_paren ts [] ts (t.LeftParen ∷ t.RightParen ∷ []) (make_exports ([], false)) refl refl
    (λ y s after good quiet e. ap (begins is_left_paren) e) refl p

-- item
pub item_names : (name : List ℕ) → has_dot name ≡ false →
    Turn item_form (t.Con name ∷ []) is_left_paren true subs_form (i.TypeWith name)
item_names name own = record {
  tokens = λ p good. refl;
  good = λ p good. and_from _ _ (ap not own) good;
  extends = λ p k e. refl;
  only = λ y s after h good quiet e. only y s after h good quiet e;
}
  where
    only : (y : ItemTree) (s after : Ts) → begins is_left_paren s ≡ true → item_form.Good y →
        begins (item_form.extends y) after ≡ false → t.Con name ∷ s ≡ item_form.tokens y ++ after →
        (p : SubsTree) × (y ≡ i.TypeWith name p) × subs_form.Good p
    only (i.Var (v.Id m)) s after h good quiet e = absurd cc
    only (i.Var (v.Sym m)) s after h good quiet e = absurd cc
    only (i.Type m) s after h good quiet e =
        let at : s ≡ after = cc in absurd (true≢false (sym h ∙ ap (begins is_left_paren) at ∙ quiet))
    only (i.TypeWith m subs) s after h good quiet e =
        let is : m ≡ name = cc in (subs, ap (λ k. i.TypeWith k subs) is, and_right (not (has_dot m)) _ good)

pub item_var : Turn item_form [] starts_var true var_form i.Var
item_var = record {
  tokens = λ p good. refl;
  good = λ p good. refl;
  extends = λ p k e. refl;
  only = λ y s after h good quiet e. only y s after h e;
}
  where
    only : (y : ItemTree) (s after : Ts) → begins starts_var s ≡ true → s ≡ item_form.tokens y ++ after →
        (p : _) × (y ≡ i.Var p) × var_form.Good p
    only (i.Var y) s after h e = (y, refl, tt)
    only (i.Type m) s after h e = absurd (true≢false (sym h ∙ ap (begins starts_var) e))
    only (i.TypeWith m subs) s after h e = absurd (true≢false (sym h ∙ ap (begins starts_var) e))

pub item_none : (ts : Ts) → begins is_own_con ts ≡ false → begins starts_var ts ≡ false →
    Rejects item_form ts (length ts)
item_none ts p h =
    stuck item_form starts_item ts [] ts (t.Var [] ∷ []) (i.Var (v.Id [])) refl refl next refl (ends ts p h)
  where
    next : Next item_form [] starts_item
    next (i.Var (v.Id m)) s after good quiet e = ap (begins starts_item) e
    next (i.Var (v.Sym m)) s after good quiet e = ap (begins starts_item) e
    next (i.Type m) s after good quiet e = ap (begins starts_item) e ∙ good
    next (i.TypeWith m subs) s after good quiet e = ap (begins starts_item) e ∙ and_left (not (has_dot m)) _ good

    ends : (ts : Ts) → begins is_own_con ts ≡ false → begins starts_var ts ≡ false → begins starts_item ts ≡ false
    ends [] p h = refl
    ends (t.Con m ∷ ts) p h = p
    ends (t.Var m ∷ ts) p h = h
    ends (t.LeftParen ∷ ts) p h = h
    ends (_ ∷ ts) p h = refl
