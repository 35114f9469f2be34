-- The returns of the readers of imports, over plain variables.
use Rattle.std.proofs.Common.{◌≡◌, ℕ, Bool, true, false, List, [], ◌∷◌, ◌++◌, length, refl, sym, ap, ◌∙◌, arith}
use Rattle.std.proofs.Common.{true≢false}
use Rattle.std.specs.Prelude.{◌||◌, Option, Some, None, codes}
use Rattle.hs_forms.specs.Reading.{begins}
use Rattle.hs_forms.specs.Answers.{Accepts, Rejects}
use Rattle.hs_forms.proofs.FormLemmas.{begins_same, uncons}
use Rattle.hs_forms.proofs.LimitLemmas.{or_left, or_right}
use Rattle.hs_tokens.specs.Terminals.{is_con}
use Rattle.hs_tokens.specs.declared.terminal.Terminal.TheVariants as t
use Rattle.hs_tokens.specs.declared.word.Word.TheVariants as w
use Rattle.hs_modules.specs.ModuleTokens.{item_tokens, import_list_tokens, import_tokens}
use Rattle.hs_modules.specs.declared.module.ItemTree.{ItemTree}
use Rattle.hs_modules.specs.declared.module.ImportList.{ImportList}
use Rattle.hs_modules.specs.declared.module.ImportList.TheVariants as l
use Rattle.hs_modules.specs.declared.module.ImpDeclTree.{ImpDeclTree}
use Rattle.hs_headers.specs.Lists.{Ts, listed_form}
use Rattle.hs_headers.specs.Names.{is_left_paren, is_as_word, is_hiding_word, is_import_word, is_qualified_word}
use Rattle.hs_headers.specs.Names.{starts_list, goes_on}
use Rattle.hs_headers.specs.Elements.{item_element}
use Rattle.hs_headers.specs.Headers.{list_form, alias_tokens, imported_form, import_form, has_list}
use Rattle.hs_headers.specs.declared.imports.Imported.{Imported}
use Rattle.hs_headers.proofs.TurnLemmas.{Turn, tree_ok, Next, stuck}
use Rattle.hs_headers.proofs.ElementLemmas.{listed_is}
use Rattle.hs_headers.proofs.ExportLemmas.{none}

-- the list of an import
pub only_listed : Turn list_form (t.LeftParen ∷ []) none false (listed_form item_element true) (λ p. l.Only p.0 p.1)
only_listed = record {
  tokens = λ p good. listed_is item_tokens p.0 p.1;
  good = λ p good. (good.0, refl);
  extends = λ p k e. refl;
  only = λ y s after h good quiet e. only y s after good e;
}
  where
    only : (y : ImportList) (s after : Ts) → list_form.Good y → t.LeftParen ∷ s ≡ import_list_tokens y ++ after →
        (p : List ItemTree × Bool) × (y ≡ l.Only p.0 p.1) × (listed_form item_element true).Good p
    only l.Everything s after good e = absurd (true≢false (sym good.1))
    only (l.Only items b) s after good e = ((items, b), refl, (good.0, λ c. refl))
    only (l.Hiding items b) s after good e = absurd cc

pub hidden_listed : Turn list_form (t.Var (codes "hiding") ∷ t.LeftParen ∷ []) none false (listed_form item_element
    true)
    (λ p. l.Hiding p.0 p.1)
hidden_listed = record {
  tokens = λ p good. ap (λ ts. t.Var (codes "hiding") ∷ ts) (listed_is item_tokens p.0 p.1);
  good = λ p good. (good.0, refl);
  extends = λ p k e. refl;
  only = λ y s after h good quiet e. only y s after good e;
}
  where
    only : (y : ImportList) (s after : Ts) → list_form.Good y →
        t.Var (codes "hiding") ∷ t.LeftParen ∷ s ≡ import_list_tokens y ++ after →
        (p : List ItemTree × Bool) × (y ≡ l.Hiding p.0 p.1) × (listed_form item_element true).Good p
    only l.Everything s after good e = absurd (true≢false (sym good.1))
    only (l.Only items b) s after good e = absurd cc
    only (l.Hiding items b) s after good e = ((items, b), refl, (good.0, λ c. refl))

list_starts : (y : ImportList) (s after : Ts) → has_list y ≡ true → s ≡ import_list_tokens y ++ after →
    begins starts_list s ≡ true
list_starts l.Everything s after h e = absurd (true≢false (sym h))
list_starts (l.Only items b) s after h e = ap (begins starts_list) e
list_starts (l.Hiding items b) s after h e = ap (begins starts_list) e

pub list_none : (ts : Ts) → begins is_hiding_word ts ≡ false → begins is_left_paren ts ≡ false →
    Rejects list_form ts (length ts)
list_none ts p r =
    stuck list_form starts_list ts [] ts (t.LeftParen ∷ t.RightParen ∷ []) (l.Only [] false) (refl, refl) refl
    (λ y s after good quiet e. list_starts y s after good.1 e) refl (ends ts p r)
  where
    ends : (ts : Ts) → begins is_hiding_word ts ≡ false → begins is_left_paren ts ≡ false →
        begins starts_list ts ≡ false
    ends [] p r = refl
    ends (k ∷ ts) p r = ap (λ b. b || is_hiding_word k) r ∙ p

pub hidden_open : (ts : Ts) → begins is_left_paren ts ≡ false →
    Rejects list_form (t.Var (codes "hiding") ∷ ts) (length ts)
hidden_open ts p =
    stuck list_form is_left_paren (t.Var (codes "hiding") ∷ ts) (t.Var (codes "hiding") ∷ []) ts
    (t.LeftParen ∷ t.RightParen ∷ []) (l.Hiding [] false) (refl, refl) refl follows refl p
  where
    follows : Next list_form (t.Var (codes "hiding") ∷ []) is_left_paren
    follows l.Everything s after good quiet e = absurd (true≢false (sym good.1))
    follows (l.Only items b) s after good quiet e = absurd cc
    follows (l.Hiding items b) s after good quiet e =
        ap (begins is_left_paren) (uncons (t.Var (codes "hiding")) s (import_list_tokens (l.Only items b) ++ after) e)

-- the part of an import that begins with the module's name
abbrev pub imported : List ℕ → Option (List ℕ) → ImportList → Imported
imported modid alias list = record { modid = modid; alias = alias; list = list }

abbrev pub as_front : List ℕ → List ℕ → Ts
as_front name alias = t.Con name ∷ t.Var (codes "as") ∷ t.Con alias ∷ []

-- what stands behind the module's name
behind_name : (m : List ℕ) (a : Option (List ℕ)) (y : ImportList) (name : List ℕ) (s after : Ts) →
    t.Con name ∷ s ≡ imported_form.tokens (imported m a y) ++ after →
    (m ≡ name) × (s ≡ (alias_tokens a ++ import_list_tokens y) ++ after)
behind_name m a y name s after e = (cc, cc)

no_as : (y : ImportList) (s after : Ts) → s ≡ import_list_tokens y ++ after → begins goes_on after ≡ false →
    begins is_as_word s ≡ false
no_as l.Everything s after e quiet = ap (begins is_as_word) e ∙ quiet_as after quiet
  where
    quiet_as : (after : Ts) → begins goes_on after ≡ false → begins is_as_word after ≡ false
    quiet_as [] h = refl
    quiet_as (k ∷ after) h = or_right (starts_list k) (is_as_word k) h
no_as (l.Only items b) s after e quiet = ap (begins is_as_word) e
no_as (l.Hiding items b) s after e quiet = ap (begins is_as_word) e

quiet_list : (after : Ts) → begins goes_on after ≡ false → begins starts_list after ≡ false
quiet_list [] h = refl
quiet_list (k ∷ after) h = or_left (starts_list k) (is_as_word k) h

-- which list it is
listed_here : (y : ImportList) (s after : Ts) → begins starts_list s ≡ true → s ≡ import_list_tokens y ++ after →
    begins goes_on after ≡ false → has_list y ≡ true
listed_here l.Everything s after h e quiet =
    absurd (true≢false (sym h ∙ ap (begins starts_list) e ∙ quiet_list after quiet))
listed_here (l.Only items b) s after h e quiet = refl
listed_here (l.Hiding items b) s after h e quiet = refl

unlisted_here : (y : ImportList) (s after : Ts) → begins starts_list s ≡ false → s ≡ import_list_tokens y ++ after →
    y ≡ l.Everything
unlisted_here l.Everything s after h e = refl
unlisted_here (l.Only items b) s after h e = absurd (true≢false (sym (ap (begins starts_list) e) ∙ h))
unlisted_here (l.Hiding items b) s after h e = absurd (true≢false (sym (ap (begins starts_list) e) ∙ h))

pub name_listed : (name : List ℕ) →
    Turn imported_form (t.Con name ∷ []) starts_list true list_form (λ y. imported name None y)
name_listed name = record {
  tokens = λ y good. refl;
  good = λ y good. good.0;
  extends = λ y k e. refl;
  only = λ x s after h good quiet e. only x.modid x.alias x.list s after h good quiet e;
}
  where
    only : (m : List ℕ) (a : Option (List ℕ)) (y : ImportList) (s after : Ts) → begins starts_list s ≡ true →
        imported_form.Good (imported m a y) → begins goes_on after ≡ false →
        t.Con name ∷ s ≡ imported_form.tokens (imported m a y) ++ after →
        (p : ImportList) × (imported m a y ≡ imported name None p) × list_form.Good p
    only m None y s after h good quiet e =
        let b = behind_name m None y name s after e in
        (y, ap (λ k. imported k None y) b.0, (good, listed_here y s after h b.1 quiet))
    only m (Some alias) y s after h good quiet e =
        let b = behind_name m (Some alias) y name s after e in
        absurd (true≢false (sym h ∙ ap (begins starts_list) b.1))

pub alias_listed : (name alias : List ℕ) →
    Turn imported_form (as_front name alias) starts_list true list_form (λ y. imported name (Some alias) y)
alias_listed name alias = record {
  tokens = λ y good. refl;
  good = λ y good. good.0;
  extends = λ y k e. refl;
  only = λ x s after h good quiet e. only x.modid x.alias x.list s after h good quiet e;
}
  where
    only : (m : List ℕ) (a : Option (List ℕ)) (y : ImportList) (s after : Ts) → begins starts_list s ≡ true →
        imported_form.Good (imported m a y) → begins goes_on after ≡ false →
        as_front name alias ++ s ≡ imported_form.tokens (imported m a y) ++ after →
        (p : ImportList) × (imported m a y ≡ imported name (Some alias) p) × list_form.Good p
    only m None y s after h good quiet e =
        let b = behind_name m None y name _ after e in
        absurd (true≢false (no_as y _ after b.1 quiet))
    only m (Some k) y s after h good quiet e =
        let one : m ≡ name = cc in
        let two : k ≡ alias = cc in
        let three : s ≡ import_list_tokens y ++ after = cc in
        (y, (λ j. imported (one j) (Some (two j)) y), (good, listed_here y s after h three quiet))

pub name_ok : (name : List ℕ) (ts : Ts) → begins is_as_word ts ≡ false → begins starts_list ts ≡ false →
    Accepts imported_form (λ x. 0) (t.Con name ∷ ts) (imported name None l.Everything) ts 0
name_ok name ts p r =
    tree_ok imported_form (t.Con name ∷ ts) (t.Con name ∷ []) ts (imported name None l.Everything) refl (omega
    arith) refl
    refl (λ s other after same good quiet e. go other.modid other.alias other.list s after
    (begins_same is_as_word ts s same ∙ p) (begins_same starts_list ts s same ∙ r) e)
  where
    go : (m : List ℕ) (a : Option (List ℕ)) (y : ImportList) (s after : Ts) → begins is_as_word s ≡ false →
        begins starts_list s ≡ false → t.Con name ∷ s ≡ imported_form.tokens (imported m a y) ++ after →
        imported m a y ≡ imported name None l.Everything
    go m None y s after p r e =
        let b = behind_name m None y name s after e in
        let none = unlisted_here y s after r b.1 in λ j. imported (b.0 j) None (none j)
    go m (Some alias) y s after p r e =
        let b = behind_name m (Some alias) y name s after e in
        absurd (true≢false (sym (ap (begins is_as_word) b.1) ∙ p))

pub alias_ok : (name alias : List ℕ) (ts : Ts) → begins starts_list ts ≡ false →
    Accepts imported_form (λ x. 0) (t.Con name ∷ t.Var (codes "as") ∷ t.Con alias ∷ ts)
    (imported name (Some alias) l.Everything) ts 0
alias_ok name alias ts r =
    tree_ok imported_form (t.Con name ∷ t.Var (codes "as") ∷ t.Con alias ∷ ts) (as_front name alias) ts
    (imported name (Some alias) l.Everything) refl (omega arith) refl refl
    (λ s other after same good quiet e. go other.modid other.alias other.list s after
    (begins_same starts_list ts s same ∙ r) quiet e)
  where
    go : (m : List ℕ) (a : Option (List ℕ)) (y : ImportList) (s after : Ts) → begins starts_list s ≡ false →
        begins goes_on after ≡ false → as_front name alias ++ s ≡ imported_form.tokens (imported m a y) ++ after →
        imported m a y ≡ imported name (Some alias) l.Everything
    go m None y s after r quiet e =
        let b = behind_name m None y name _ after e in
        absurd (true≢false (no_as y _ after b.1 quiet))
    go m (Some k) y s after r quiet e =
        let one : m ≡ name = cc in
        let two : k ≡ alias = cc in
        let three : s ≡ import_list_tokens y ++ after = cc in
        let none = unlisted_here y s after r three in λ j. imported (one j) (Some (two j)) (none j)

pub alias_open : (name : List ℕ) (ts next : Ts) → ts ≡ t.Var (codes "as") ∷ next → begins is_con next ≡ false →
    Rejects imported_form (t.Con name ∷ ts) (length next)
alias_open name ts next at p =
    stuck imported_form is_con (t.Con name ∷ ts) (t.Con name ∷ t.Var (codes "as") ∷ []) next (t.Con [] ∷ [])
    (imported name (Some []) l.Everything) refl refl
    (λ x s after good quiet e. follows x.modid x.alias x.list s after quiet e) (ap (λ ks. t.Con name ∷ ks) at) p
  where
    follows : (m : List ℕ) (a : Option (List ℕ)) (y : ImportList) (s after : Ts) → begins goes_on after ≡ false →
        t.Con name ∷ t.Var (codes "as") ∷ s ≡ imported_form.tokens (imported m a y) ++ after → begins is_con s ≡ true
    follows m None y s after quiet e =
        let b = behind_name m None y name _ after e in
        absurd (true≢false (no_as y _ after b.1 quiet))
    follows m (Some k) y s after quiet e =
        let at : s ≡ t.Con k ∷ (import_list_tokens y ++ after) = cc in ap (begins is_con) at

pub imported_none : (ts : Ts) → begins is_con ts ≡ false → Rejects imported_form ts (length ts)
imported_none ts p =
    stuck imported_form is_con ts [] ts (t.Con [] ∷ []) (imported [] None l.Everything) refl refl
    (λ x s after good quiet e. ap (begins is_con) e) refl p

-- impdecl
abbrev pub make_import : Bool → Imported → ImpDeclTree
make_import b x = record { qualified = b; modid = x.modid; alias = x.alias; list = x.list }

pub import_plain : Turn import_form (t.Word w.Import ∷ []) is_qualified_word false imported_form (make_import false)
import_plain = record {
  tokens = λ x good. tokens x.modid x.alias x.list;
  good = λ x good. good;
  extends = λ x k e. e;
  only = λ x s after h good quiet e. only x.qualified x.modid x.alias x.list s after h good e;
}
  where
    tokens : (m : List ℕ) (a : Option (List ℕ)) (y : ImportList) →
        import_tokens (make_import false (imported m a y))
        ≡ t.Word w.Import ∷ t.Con m ∷ (alias_tokens a ++ import_list_tokens y)
    tokens m None y = refl
    tokens m (Some k) y = refl

    only : (b : Bool) (m : List ℕ) (a : Option (List ℕ)) (y : ImportList) (s after : Ts) →
        begins is_qualified_word s ≡ false → import_form.Good (make_import b (imported m a y)) →
        t.Word w.Import ∷ s ≡ import_tokens (make_import b (imported m a y)) ++ after →
        (p : Imported) × (make_import b (imported m a y) ≡ make_import false p) × imported_form.Good p
    only false m a y s after h good e = (imported m a y, refl, good)
    only true m a y s after h good e =
        absurd (true≢false (sym (ap (begins is_qualified_word) (uncons (t.Word w.Import) s _ e)) ∙ h))

pub import_qualified : Turn import_form (t.Word w.Import ∷ t.Var (codes "qualified") ∷ []) none false imported_form
    (make_import true)
import_qualified = record {
  tokens = λ x good. tokens x.modid x.alias x.list;
  good = λ x good. good;
  extends = λ x k e. e;
  only = λ x s after h good quiet e. only x.qualified x.modid x.alias x.list s after good e;
}
  where
    tokens : (m : List ℕ) (a : Option (List ℕ)) (y : ImportList) →
        import_tokens (make_import true (imported m a y))
        ≡ t.Word w.Import ∷ t.Var (codes "qualified") ∷ t.Con m ∷ (alias_tokens a ++ import_list_tokens y)
    tokens m None y = refl
    tokens m (Some k) y = refl

    only : (b : Bool) (m : List ℕ) (a : Option (List ℕ)) (y : ImportList) (s after : Ts) →
        import_form.Good (make_import b (imported m a y)) →
        t.Word w.Import ∷ t.Var (codes "qualified") ∷ s ≡ import_tokens (make_import b (imported m a y)) ++ after →
        (p : Imported) × (make_import b (imported m a y) ≡ make_import true p) × imported_form.Good p
    only true m a y s after good e = (imported m a y, refl, good)
    only false m a y s after good e = absurd cc

pub import_none : (ts : Ts) → begins is_import_word ts ≡ false → Rejects import_form ts (length ts)
import_none ts p =
    stuck import_form is_import_word ts [] ts (t.Word w.Import ∷ t.Con [] ∷ [])
    (make_import false (imported [] None l.Everything)) refl refl
    (λ x s after good quiet e. ap (begins is_import_word) e) refl p
