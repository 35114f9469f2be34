-- The returns of the readers of constructors' names and operators, over plain variables.
use Rattle.std.proofs.Common.{◌≡◌, ℕ, true, false, List, [], ◌∷◌, ◌++◌, length, refl, sym, ap, ◌∙◌}
use Rattle.std.specs.Prelude.{not, codes}
use Rattle.hs_forms.specs.Reading.{begins}
use Rattle.hs_forms.specs.Answers.{Rejects}
use Rattle.hs_tokens.specs.Terminals.{is_backquote, is_right_paren}
use Rattle.hs_tokens.specs.declared.terminal.Terminal.TheVariants as t
use Rattle.hs_modules.specs.Words.{has_dot, begins_with_colon}
use Rattle.hs_modules.specs.declared.names.ConTree.{ConTree}
use Rattle.hs_modules.specs.declared.names.ConTree.TheVariants as c
use Rattle.hs_modules.specs.declared.names.ConOpTree.{ConOpTree}
use Rattle.hs_modules.specs.declared.names.ConOpTree.TheVariants as k
use Rattle.hs_headers.specs.Lists.{Ts}
use Rattle.hs_headers.specs.Names.{is_own_con, is_own_con_sym, is_left_paren}
use Rattle.hs_headers.proofs.TurnLemmas.{Next, stuck}
use Rattle.hs_declaration_forms.specs.Datatypes.{con_form, conop_form, cons, conops, starts_con, starts_own_conop}
use Rattle.hs_declaration_forms.proofs.FlatLemmas.{Flat}

abbrev colon : List ℕ
colon = codes ":"

-- con
pub con_starts : (x : ConTree) (s after : Ts) → con_form.Good x → s ≡ con_form.tokens x ++ after →
    begins starts_con s ≡ true
con_starts (c.Id m) s after good e = ap (begins starts_con) e ∙ good
con_starts (c.Sym m) s after good e = ap (begins starts_con) e

pub con_none : (ts : Ts) → begins is_own_con ts ≡ false → begins is_left_paren ts ≡ false →
    Rejects con_form ts (length ts)
con_none ts p q =
    stuck con_form starts_con ts [] ts (t.Con [] ∷ []) (c.Id []) refl refl
    (λ x s after good quiet e. con_starts x s after good e) refl (ends ts p q)
  where
    ends : (ts : Ts) → begins is_own_con ts ≡ false → begins is_left_paren ts ≡ false → begins starts_con ts ≡ false
    ends [] p q = refl
    ends (t.Con m ∷ ts) p q = p
    ends (t.LeftParen ∷ ts) p q = q
    ends (_ ∷ ts) p q = refl

pub con_no_symbol : (ts : Ts) → begins is_own_con_sym ts ≡ false → Rejects con_form (t.LeftParen ∷ ts) (length ts)
con_no_symbol ts p =
    stuck con_form is_own_con_sym (t.LeftParen ∷ ts) (t.LeftParen ∷ []) ts (t.ConSym colon ∷ t.RightParen ∷ [])
    (c.Sym colon) refl refl next refl p
  where
    next : Next con_form (t.LeftParen ∷ []) is_own_con_sym
    next (c.Id m) s after good quiet e = absurd cc
    next (c.Sym m) s after good quiet e =
        let at : s ≡ t.ConSym m ∷ t.RightParen ∷ after = cc in ap (begins is_own_con_sym) at ∙ good

pub con_open : (ts : Ts) (name : List ℕ) (next : Ts) → ts ≡ t.ConSym name ∷ next → begins_with_colon name ≡ true →
    begins is_right_paren next ≡ false → Rejects con_form (t.LeftParen ∷ ts) (length next)
con_open ts name next at own p =
    stuck con_form is_right_paren (t.LeftParen ∷ ts) (t.LeftParen ∷ t.ConSym name ∷ []) next (t.RightParen ∷ [])
    (c.Sym name) own refl follows (ap (λ l. t.LeftParen ∷ l) at) p
  where
    follows : Next con_form (t.LeftParen ∷ t.ConSym name ∷ []) is_right_paren
    follows (c.Id m) s after good quiet e = absurd cc
    follows (c.Sym m) s after good quiet e = let at : s ≡ t.RightParen ∷ after = cc in ap (begins is_right_paren) at

pub con_flat : Flat con_form cons
con_flat = record {
  tokens = λ x. refl;
  formed = λ x g. g;
  good = λ x e. e;
  deep = λ x. refl;
  extends = λ x k e. refl;
}

-- conop
pub conop_starts : (x : ConOpTree) (s after : Ts) → conop_form.Good x → s ≡ conop_form.tokens x ++ after →
    begins starts_own_conop s ≡ true
conop_starts (k.Sym m) s after good e = ap (begins starts_own_conop) e ∙ good
conop_starts (k.Quoted m) s after good e = ap (begins starts_own_conop) e

pub conop_none : (ts : Ts) → begins is_own_con_sym ts ≡ false → begins is_backquote ts ≡ false →
    Rejects conop_form ts (length ts)
conop_none ts p q =
    stuck conop_form starts_own_conop ts [] ts (t.ConSym colon ∷ []) (k.Sym colon) refl refl
    (λ x s after good quiet e. conop_starts x s after good e) refl (ends ts p q)
  where
    ends : (ts : Ts) → begins is_own_con_sym ts ≡ false → begins is_backquote ts ≡ false →
        begins starts_own_conop ts ≡ false
    ends [] p q = refl
    ends (t.ConSym m ∷ ts) p q = p
    ends (t.Backquote ∷ ts) p q = q
    ends (_ ∷ ts) p q = refl

pub conop_no_name : (ts : Ts) → begins is_own_con ts ≡ false → Rejects conop_form (t.Backquote ∷ ts) (length ts)
conop_no_name ts p =
    stuck conop_form is_own_con (t.Backquote ∷ ts) (t.Backquote ∷ []) ts (t.Con [] ∷ t.Backquote ∷ [])
    (k.Quoted []) refl refl next refl p
  where
    next : Next conop_form (t.Backquote ∷ []) is_own_con
    next (k.Sym m) s after good quiet e = absurd cc
    next (k.Quoted m) s after good quiet e =
        let at : s ≡ t.Con m ∷ t.Backquote ∷ after = cc in ap (begins is_own_con) at ∙ good

pub conop_open : (ts : Ts) (name : List ℕ) (next : Ts) → ts ≡ t.Con name ∷ next → has_dot name ≡ false →
    begins is_backquote next ≡ false → Rejects conop_form (t.Backquote ∷ ts) (length next)
conop_open ts name next at own p =
    stuck conop_form is_backquote (t.Backquote ∷ ts) (t.Backquote ∷ t.Con name ∷ []) next (t.Backquote ∷ [])
    (k.Quoted name) (ap not own) refl follows (ap (λ l. t.Backquote ∷ l) at) p
  where
    follows : Next conop_form (t.Backquote ∷ t.Con name ∷ []) is_backquote
    follows (k.Sym m) s after good quiet e = absurd cc
    follows (k.Quoted m) s after good quiet e =
        let at : s ≡ t.Backquote ∷ after = cc in ap (begins is_backquote) at

pub conop_flat : Flat conop_form conops
conop_flat = record {
  tokens = λ x. refl;
  formed = λ x g. g;
  good = λ x e. e;
  deep = λ x. refl;
  extends = λ x k e. refl;
}
