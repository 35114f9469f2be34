-- The returns of the reader of variable operators, over plain variables.
use Rattle.std.proofs.Common.{◌≡◌, ℕ, true, false, List, [], ◌∷◌, ◌++◌, length, refl, ap}
use Rattle.hs_forms.specs.Reading.{begins}
use Rattle.hs_forms.specs.Answers.{Rejects}
use Rattle.hs_tokens.specs.Terminals.{is_backquote, is_var_sym}
use Rattle.hs_tokens.specs.declared.terminal.Terminal.TheVariants as t
use Rattle.hs_modules.specs.declared.names.VarOpTree.{VarOpTree}
use Rattle.hs_modules.specs.declared.names.VarOpTree.TheVariants as o
use Rattle.hs_headers.specs.Lists.{Ts}
use Rattle.hs_headers.specs.Names.{is_var}
use Rattle.hs_headers.proofs.TurnLemmas.{Next, stuck}
use Rattle.hs_declaration_forms.proofs.FlatLemmas.{Flat}
use Rattle.hs_left_forms.specs.Lefts.{varop_form, varops, starts_varop}

-- the first token of an operator
pub varop_starts : (x : VarOpTree) (s after : Ts) → s ≡ varop_form.tokens x ++ after → begins starts_varop s ≡ true
varop_starts (o.Sym m) s after e = ap (begins starts_varop) e
varop_starts (o.Quoted m) s after e = ap (begins starts_varop) e

-- no operator begins here
pub varop_none : (ts : Ts) → begins is_var_sym ts ≡ false → begins is_backquote ts ≡ false →
    Rejects varop_form ts (length ts)
varop_none ts p q =
    stuck varop_form starts_varop ts [] ts (t.VarSym [] ∷ []) (o.Sym []) tt refl
    (λ x s after good quiet e. varop_starts x s after e) refl (ends ts p q)
  where
    ends : (ts : Ts) → begins is_var_sym ts ≡ false → begins is_backquote ts ≡ false → begins starts_varop ts ≡ false
    ends [] p q = refl
    ends (t.VarSym m ∷ ts) p q = p
    ends (t.Backquote ∷ ts) p q = q
    ends (_ ∷ ts) p q = refl

-- no variable stands behind the backquote
pub varop_no_name : (ts : Ts) → begins is_var ts ≡ false → Rejects varop_form (t.Backquote ∷ ts) (length ts)
varop_no_name ts p =
    stuck varop_form is_var (t.Backquote ∷ ts) (t.Backquote ∷ []) ts (t.Var [] ∷ t.Backquote ∷ []) (o.Quoted []) tt refl
    next refl p
  where
    next : Next varop_form (t.Backquote ∷ []) is_var
    next (o.Sym m) s after good quiet e = absurd cc
    next (o.Quoted m) s after good quiet e =
        let at : s ≡ t.Var m ∷ t.Backquote ∷ after = cc in ap (begins is_var) at

-- no backquote closes the name
pub varop_open : (ts : Ts) (name : List ℕ) (next : Ts) → ts ≡ t.Var name ∷ next → begins is_backquote next ≡ false →
    Rejects varop_form (t.Backquote ∷ ts) (length next)
varop_open ts name next at p =
    stuck varop_form is_backquote (t.Backquote ∷ ts) (t.Backquote ∷ t.Var name ∷ []) next (t.Backquote ∷ [])
    (o.Quoted name) tt refl follows (ap (λ l. t.Backquote ∷ l) at) p
  where
    follows : Next varop_form (t.Backquote ∷ t.Var name ∷ []) is_backquote
    follows (o.Sym m) s after good quiet e = absurd cc
    follows (o.Quoted m) s after good quiet e =
        let at : s ≡ t.Backquote ∷ after = cc in ap (begins is_backquote) at

-- operators have no depth
pub varop_flat : Flat varop_form varops
varop_flat = record {
  tokens = λ x. refl;
  formed = λ x g. refl;
  good = λ x e. tt;
  deep = λ x. refl;
  extends = λ x k e. refl;
}
