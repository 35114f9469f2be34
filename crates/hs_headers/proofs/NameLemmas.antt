-- The returns of the readers of names, over plain variables.
use Rattle.std.proofs.Common.{◌≡◌, ℕ, true, false, List, [], ◌∷◌, ◌++◌, length, refl, ap, ◌∙◌}
use Rattle.std.specs.Prelude.{◌||◌, nat_eq}
use Rattle.std.specs.List.{list_any}
use Rattle.hs_forms.specs.Reading.{begins}
use Rattle.hs_forms.specs.Answers.{Rejects}
use Rattle.hs_tokens.specs.Terminals.{is_right_paren, is_var_sym}
use Rattle.hs_tokens.specs.declared.terminal.Terminal.TheVariants as t
use Rattle.hs_trees.specs.declared.patterns.VarTree.TheVariants as v
use Rattle.hs_modules.specs.Words.{has_dot, begins_with_colon}
use Rattle.hs_modules.specs.declared.names.QVarTree.TheVariants as q
use Rattle.hs_modules.specs.declared.names.ConTree.TheVariants as c
use Rattle.hs_modules.specs.declared.module.CNameTree.{CNameTree}
use Rattle.hs_modules.specs.declared.module.CNameTree.TheVariants as n
use Rattle.hs_headers.specs.Lists.{Ts}
use Rattle.hs_headers.specs.Names.{is_left_paren, is_var, is_qvar, is_qvar_sym, is_own_con, is_own_con_sym, starts_var}
use Rattle.hs_headers.specs.Names.{starts_qvar, starts_cname, is_symbol, is_cname_symbol, var_form, qvar_form}
use Rattle.hs_headers.specs.Names.{cname_form}
use Rattle.hs_headers.proofs.TurnLemmas.{Next, stuck}

-- whether a dot stands in a text, by the search of the kit
pub dot_listed : (text : List ℕ) → list_any (λ b. nat_eq b 46) text ≡ has_dot text
dot_listed [] = refl
dot_listed (b ∷ bs) = ap (λ r. nat_eq b 46 || r) (dot_listed bs)

-- var
pub var_none : (ts : Ts) → begins is_var ts ≡ false → begins is_left_paren ts ≡ false → Rejects var_form ts (length ts)
var_none ts p q = stuck var_form starts_var ts [] ts (t.Var [] ∷ []) (v.Id []) tt refl next refl (ends ts p q)
  where
    next : Next var_form [] starts_var
    next (v.Id m) s after good quiet e = ap (begins starts_var) e
    next (v.Sym m) s after good quiet e = ap (begins starts_var) e

    ends : (ts : Ts) → begins is_var ts ≡ false → begins is_left_paren ts ≡ false → begins starts_var ts ≡ false
    ends [] p q = refl
    ends (t.Var m ∷ ts) p q = p
    ends (t.LeftParen ∷ ts) p q = q
    ends (_ ∷ ts) p q = refl

pub var_no_symbol : (ts : Ts) → begins is_var_sym ts ≡ false → Rejects var_form (t.LeftParen ∷ ts) (length ts)
var_no_symbol ts p =
    stuck var_form is_var_sym (t.LeftParen ∷ ts) (t.LeftParen ∷ []) ts (t.VarSym [] ∷ t.RightParen ∷ []) (v.Sym []) tt
    refl next refl p
  where
    next : Next var_form (t.LeftParen ∷ []) is_var_sym
    next (v.Id m) s after good quiet e = absurd cc
    next (v.Sym m) s after good quiet e =
        let at : s ≡ t.VarSym m ∷ t.RightParen ∷ after = cc in ap (begins is_var_sym) at

pub var_open : (ts : Ts) (name : List ℕ) (next : Ts) → ts ≡ t.VarSym name ∷ next → begins is_right_paren next ≡ false →
    Rejects var_form (t.LeftParen ∷ ts) (length next)
var_open ts name next at p =
    stuck var_form is_right_paren (t.LeftParen ∷ ts) (t.LeftParen ∷ t.VarSym name ∷ []) next (t.RightParen ∷ [])
    (v.Sym name) tt refl follows (ap (λ l. t.LeftParen ∷ l) at) p
  where
    follows : Next var_form (t.LeftParen ∷ t.VarSym name ∷ []) is_right_paren
    follows (v.Id m) s after good quiet e = absurd cc
    follows (v.Sym m) s after good quiet e = let at : s ≡ t.RightParen ∷ after = cc in ap (begins is_right_paren) at

-- qvar
pub qvar_none : (ts : Ts) → begins is_var ts ≡ false → begins is_qvar ts ≡ false → begins is_left_paren ts ≡ false →
    Rejects qvar_form ts (length ts)
qvar_none ts p r l = stuck qvar_form starts_qvar ts [] ts (t.Var [] ∷ []) (q.Id []) tt refl next refl (ends ts p r l)
  where
    next : Next qvar_form [] starts_qvar
    next (q.Id m) s after good quiet e = ap (begins starts_qvar) e
    next (q.Sym m) s after good quiet e = ap (begins starts_qvar) e
    next (q.QualifiedId m) s after good quiet e = ap (begins starts_qvar) e
    next (q.QualifiedSym m) s after good quiet e = ap (begins starts_qvar) e

    ends : (ts : Ts) → begins is_var ts ≡ false → begins is_qvar ts ≡ false → begins is_left_paren ts ≡ false →
        begins starts_qvar ts ≡ false
    ends [] p r l = refl
    ends (t.Var m ∷ ts) p r l = p
    ends (t.QVar m ∷ ts) p r l = r
    ends (t.LeftParen ∷ ts) p r l = l
    ends (_ ∷ ts) p r l = refl

pub qvar_no_symbol : (ts : Ts) → begins is_var_sym ts ≡ false → begins is_qvar_sym ts ≡ false →
    Rejects qvar_form (t.LeftParen ∷ ts) (length ts)
qvar_no_symbol ts p r =
    stuck qvar_form is_symbol (t.LeftParen ∷ ts) (t.LeftParen ∷ []) ts (t.VarSym [] ∷ t.RightParen ∷ []) (q.Sym []) tt
    refl next refl (ends ts p r)
  where
    next : Next qvar_form (t.LeftParen ∷ []) is_symbol
    next (q.Id m) s after good quiet e = absurd cc
    next (q.Sym m) s after good quiet e =
        let at : s ≡ t.VarSym m ∷ t.RightParen ∷ after = cc in ap (begins is_symbol) at
    next (q.QualifiedId m) s after good quiet e = absurd cc
    next (q.QualifiedSym m) s after good quiet e =
        let at : s ≡ t.QVarSym m ∷ t.RightParen ∷ after = cc in ap (begins is_symbol) at

    ends : (ts : Ts) → begins is_var_sym ts ≡ false → begins is_qvar_sym ts ≡ false → begins is_symbol ts ≡ false
    ends [] p r = refl
    ends (t.VarSym m ∷ ts) p r = p
    ends (t.QVarSym m ∷ ts) p r = r
    ends (_ ∷ ts) p r = refl

pub qvar_open : (ts : Ts) (name : List ℕ) (next : Ts) → ts ≡ t.VarSym name ∷ next →
    begins is_right_paren next ≡ false → Rejects qvar_form (t.LeftParen ∷ ts) (length next)
qvar_open ts name next at p =
    stuck qvar_form is_right_paren (t.LeftParen ∷ ts) (t.LeftParen ∷ t.VarSym name ∷ []) next (t.RightParen ∷ [])
    (q.Sym name) tt refl follows (ap (λ l. t.LeftParen ∷ l) at) p
  where
    follows : Next qvar_form (t.LeftParen ∷ t.VarSym name ∷ []) is_right_paren
    follows (q.Id m) s after good quiet e = absurd cc
    follows (q.Sym m) s after good quiet e = let at : s ≡ t.RightParen ∷ after = cc in ap (begins is_right_paren) at
    follows (q.QualifiedId m) s after good quiet e = absurd cc
    follows (q.QualifiedSym m) s after good quiet e = absurd cc

pub qvar_qualified_open : (ts : Ts) (name : List ℕ) (next : Ts) → ts ≡ t.QVarSym name ∷ next →
    begins is_right_paren next ≡ false → Rejects qvar_form (t.LeftParen ∷ ts) (length next)
qvar_qualified_open ts name next at p =
    stuck qvar_form is_right_paren (t.LeftParen ∷ ts) (t.LeftParen ∷ t.QVarSym name ∷ []) next (t.RightParen ∷ [])
    (q.QualifiedSym name) tt refl follows (ap (λ l. t.LeftParen ∷ l) at) p
  where
    follows : Next qvar_form (t.LeftParen ∷ t.QVarSym name ∷ []) is_right_paren
    follows (q.Id m) s after good quiet e = absurd cc
    follows (q.Sym m) s after good quiet e = absurd cc
    follows (q.QualifiedId m) s after good quiet e = absurd cc
    follows (q.QualifiedSym m) s after good quiet e =
        let at : s ≡ t.RightParen ∷ after = cc in ap (begins is_right_paren) at

-- cname
pub cname_starts : (x : CNameTree) → (s after : Ts) → cname_form.Good x → s ≡ cname_form.tokens x ++ after →
    begins starts_cname s ≡ true
cname_starts (n.Var (v.Id m)) s after good e = ap (begins starts_cname) e
cname_starts (n.Var (v.Sym m)) s after good e = ap (begins starts_cname) e
cname_starts (n.Con (c.Id m)) s after good e = ap (begins starts_cname) e ∙ good
cname_starts (n.Con (c.Sym m)) s after good e = ap (begins starts_cname) e

pub cname_none : (ts : Ts) → begins is_var ts ≡ false → begins is_own_con ts ≡ false →
    begins is_left_paren ts ≡ false → Rejects cname_form ts (length ts)
cname_none ts p r q =
    stuck cname_form starts_cname ts [] ts (t.Var [] ∷ []) (n.Var (v.Id [])) refl refl
    (λ x s after good quiet e. cname_starts x s after good e) refl (ends ts p r q)
  where
    ends : (ts : Ts) → begins is_var ts ≡ false → begins is_own_con ts ≡ false → begins is_left_paren ts ≡ false →
        begins starts_cname ts ≡ false
    ends [] p r q = refl
    ends (t.Var m ∷ ts) p r q = p
    ends (t.Con m ∷ ts) p r q = r
    ends (t.LeftParen ∷ ts) p r q = q
    ends (_ ∷ ts) p r q = refl

pub cname_no_symbol : (ts : Ts) → begins is_var_sym ts ≡ false → begins is_own_con_sym ts ≡ false →
    Rejects cname_form (t.LeftParen ∷ ts) (length ts)
cname_no_symbol ts p r =
    stuck cname_form is_cname_symbol (t.LeftParen ∷ ts) (t.LeftParen ∷ []) ts (t.VarSym [] ∷ t.RightParen ∷ [])
    (n.Var (v.Sym [])) refl refl next refl (ends ts p r)
  where
    next : Next cname_form (t.LeftParen ∷ []) is_cname_symbol
    next (n.Var (v.Id m)) s after good quiet e = absurd cc
    next (n.Var (v.Sym m)) s after good quiet e =
        let at : s ≡ t.VarSym m ∷ t.RightParen ∷ after = cc in ap (begins is_cname_symbol) at
    next (n.Con (c.Id m)) s after good quiet e = absurd cc
    next (n.Con (c.Sym m)) s after good quiet e =
        let at : s ≡ t.ConSym m ∷ t.RightParen ∷ after = cc in ap (begins is_cname_symbol) at ∙ good

    ends : (ts : Ts) → begins is_var_sym ts ≡ false → begins is_own_con_sym ts ≡ false →
        begins is_cname_symbol ts ≡ false
    ends [] p r = refl
    ends (t.VarSym m ∷ ts) p r = p
    ends (t.ConSym m ∷ ts) p r = r
    ends (_ ∷ ts) p r = refl

pub cname_var_open : (ts : Ts) (name : List ℕ) (next : Ts) → ts ≡ t.VarSym name ∷ next →
    begins is_right_paren next ≡ false → Rejects cname_form (t.LeftParen ∷ ts) (length next)
cname_var_open ts name next at p =
    stuck cname_form is_right_paren (t.LeftParen ∷ ts) (t.LeftParen ∷ t.VarSym name ∷ []) next (t.RightParen ∷ [])
    (n.Var (v.Sym name)) refl refl follows (ap (λ l. t.LeftParen ∷ l) at) p
  where
    follows : Next cname_form (t.LeftParen ∷ t.VarSym name ∷ []) is_right_paren
    follows (n.Var (v.Id m)) s after good quiet e = absurd cc
    follows (n.Var (v.Sym m)) s after good quiet e =
        let at : s ≡ t.RightParen ∷ after = cc in ap (begins is_right_paren) at
    follows (n.Con (c.Id m)) s after good quiet e = absurd cc
    follows (n.Con (c.Sym m)) s after good quiet e = absurd cc

pub cname_con_open : (ts : Ts) (name : List ℕ) (next : Ts) → ts ≡ t.ConSym name ∷ next →
    begins_with_colon name ≡ true → begins is_right_paren next ≡ false →
    Rejects cname_form (t.LeftParen ∷ ts) (length next)
cname_con_open ts name next at own p =
    stuck cname_form is_right_paren (t.LeftParen ∷ ts) (t.LeftParen ∷ t.ConSym name ∷ []) next (t.RightParen ∷ [])
    (n.Con (c.Sym name)) own refl follows (ap (λ l. t.LeftParen ∷ l) at) p
  where
    follows : Next cname_form (t.LeftParen ∷ t.ConSym name ∷ []) is_right_paren
    follows (n.Var (v.Id m)) s after good quiet e = absurd cc
    follows (n.Var (v.Sym m)) s after good quiet e = absurd cc
    follows (n.Con (c.Id m)) s after good quiet e = absurd cc
    follows (n.Con (c.Sym m)) s after good quiet e =
        let at : s ≡ t.RightParen ∷ after = cc in ap (begins is_right_paren) at
