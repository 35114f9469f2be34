-- The returns of the reader of operators, over plain variables.
use Rattle.std.proofs.Common.{◌≡◌, ℕ, true, false, List, [], ◌∷◌, ◌++◌, length, refl, sym, ap, ◌∙◌}
use Rattle.std.specs.Prelude.{not}
use Rattle.hs_forms.specs.Reading.{begins}
use Rattle.hs_forms.specs.Answers.{Rejects}
use Rattle.hs_tokens.specs.Terminals.{is_backquote, is_var_sym}
use Rattle.hs_tokens.specs.declared.terminal.Terminal.TheVariants as t
use Rattle.hs_modules.specs.Words.{has_dot}
use Rattle.hs_modules.specs.declared.names.OpTree.{OpTree}
use Rattle.hs_modules.specs.declared.names.OpTree.TheVariants as o
use Rattle.hs_modules.specs.declared.names.VarOpTree.TheVariants as v
use Rattle.hs_modules.specs.declared.names.ConOpTree.TheVariants as c
use Rattle.hs_headers.specs.Lists.{Ts}
use Rattle.hs_headers.specs.Names.{is_var, is_own_con, is_own_con_sym}
use Rattle.hs_headers.proofs.TurnLemmas.{Next, stuck}
use Rattle.hs_declaration_forms.specs.Typings.{op_form, starts_op, is_quotable}

pub op_starts : (x : OpTree) (s after : Ts) → op_form.Good x → s ≡ op_form.tokens x ++ after →
    begins starts_op s ≡ true
op_starts (o.Var (v.Sym m)) s after good e = ap (begins starts_op) e
op_starts (o.Var (v.Quoted m)) s after good e = ap (begins starts_op) e
op_starts (o.Con (c.Sym m)) s after good e = ap (begins starts_op) e ∙ good
op_starts (o.Con (c.Quoted m)) s after good e = ap (begins starts_op) e

pub op_none : (ts : Ts) → begins is_var_sym ts ≡ false → begins is_own_con_sym ts ≡ false →
    begins is_backquote ts ≡ false → Rejects op_form ts (length ts)
op_none ts p r q =
    stuck op_form starts_op ts [] ts (t.VarSym [] ∷ []) (o.Var (v.Sym [])) refl refl
    (λ x s after good quiet e. op_starts x s after good e) refl (ends ts p r q)
  where
    ends : (ts : Ts) → begins is_var_sym ts ≡ false → begins is_own_con_sym ts ≡ false →
        begins is_backquote ts ≡ false → begins starts_op ts ≡ false
    ends [] p r q = refl
    ends (t.VarSym m ∷ ts) p r q = p
    ends (t.ConSym m ∷ ts) p r q = r
    ends (t.Backquote ∷ ts) p r q = q
    ends (_ ∷ ts) p r q = refl

pub op_no_name : (ts : Ts) → begins is_var ts ≡ false → begins is_own_con ts ≡ false →
    Rejects op_form (t.Backquote ∷ ts) (length ts)
op_no_name ts p r =
    stuck op_form is_quotable (t.Backquote ∷ ts) (t.Backquote ∷ []) ts (t.Var [] ∷ t.Backquote ∷ [])
    (o.Var (v.Quoted [])) refl refl next refl (ends ts p r)
  where
    next : Next op_form (t.Backquote ∷ []) is_quotable
    next (o.Var (v.Sym m)) s after good quiet e = absurd cc
    next (o.Var (v.Quoted m)) s after good quiet e =
        let at : s ≡ t.Var m ∷ t.Backquote ∷ after = cc in ap (begins is_quotable) at
    next (o.Con (c.Sym m)) s after good quiet e = absurd cc
    next (o.Con (c.Quoted m)) s after good quiet e =
        let at : s ≡ t.Con m ∷ t.Backquote ∷ after = cc in ap (begins is_quotable) at ∙ good

    ends : (ts : Ts) → begins is_var ts ≡ false → begins is_own_con ts ≡ false → begins is_quotable ts ≡ false
    ends [] p r = refl
    ends (t.Var m ∷ ts) p r = p
    ends (t.Con m ∷ ts) p r = r
    ends (_ ∷ ts) p r = refl

pub op_var_open : (ts : Ts) (name : List ℕ) (next : Ts) → ts ≡ t.Var name ∷ next →
    begins is_backquote next ≡ false → Rejects op_form (t.Backquote ∷ ts) (length next)
op_var_open ts name next at p =
    stuck op_form is_backquote (t.Backquote ∷ ts) (t.Backquote ∷ t.Var name ∷ []) next (t.Backquote ∷ [])
    (o.Var (v.Quoted name)) refl refl follows (ap (λ l. t.Backquote ∷ l) at) p
  where
    follows : Next op_form (t.Backquote ∷ t.Var name ∷ []) is_backquote
    follows (o.Var (v.Sym m)) s after good quiet e = absurd cc
    follows (o.Var (v.Quoted m)) s after good quiet e =
        let at : s ≡ t.Backquote ∷ after = cc in ap (begins is_backquote) at
    follows (o.Con (c.Sym m)) s after good quiet e = absurd cc
    follows (o.Con (c.Quoted m)) s after good quiet e = absurd cc

pub op_con_open : (ts : Ts) (name : List ℕ) (next : Ts) → ts ≡ t.Con name ∷ next → has_dot name ≡ false →
    begins is_backquote next ≡ false → Rejects op_form (t.Backquote ∷ ts) (length next)
op_con_open ts name next at own p =
    stuck op_form is_backquote (t.Backquote ∷ ts) (t.Backquote ∷ t.Con name ∷ []) next (t.Backquote ∷ [])
    (o.Con (c.Quoted name)) (ap not own) refl follows (ap (λ l. t.Backquote ∷ l) at) p
  where
    follows : Next op_form (t.Backquote ∷ t.Con name ∷ []) is_backquote
    follows (o.Var (v.Sym m)) s after good quiet e = absurd cc
    follows (o.Var (v.Quoted m)) s after good quiet e = absurd cc
    follows (o.Con (c.Sym m)) s after good quiet e = absurd cc
    follows (o.Con (c.Quoted m)) s after good quiet e =
        let at : s ≡ t.Backquote ∷ after = cc in ap (begins is_backquote) at
