-- Renaming by nothing changes nothing: expressions and declarations.
use Rattle.std.proofs.Common.{◌≡◌, List, ◌∷◌, refl, ap, sym, ◌∙◌}
use Rattle.std.specs.Prelude.{map}
use Rattle.hs_core.specs.declared.tree.Written.{Written}
use Rattle.hs_core.specs.declared.tree.Pat.{Pat}
use Rattle.hs_core.specs.declared.tree.Decl.{Decl}
use Rattle.hs_core.specs.declared.tree.Decl.TheVariants.{DataDecl, SynonymDecl, TypeSig, FixityOf, Clause, PatBind}
use Rattle.hs_core.specs.declared.tree.Exp.{Exp, out-Exp}
use Rattle.hs_core.specs.declared.tree.Exp.TheVariants.{Local, Global, Int, Chr, Str, Apply, Apply', Lambda, Lambda'}
use Rattle.hs_core.specs.declared.tree.Exp.TheVariants.{Let, Let', If, If', Case, Case', Tuple, Tuple', List as ListOf}
use Rattle.hs_core.specs.declared.tree.Exp.TheVariants.{List' as ListOf', RightSection, RightSection', Annot, Annot'}
use Rattle.hs_core.specs.declared.tree.Rhs.{Rhs, Rhs', out-Rhs}
use Rattle.hs_core.specs.declared.tree.Choice.{Choice}
use Rattle.hs_core.specs.declared.tree.Guard.{Guard}
use Rattle.hs_core.specs.declared.tree.Guard.TheVariants.{Test, Bind}
use Rattle.hs_core.specs.declared.tree.Alt.{Alt, Alt'}
use Rattle.hs_core.specs.declared.tree.Body.{Body}
use Rattle.hs_core.specs.declared.tree.Decl.TheBlock.{Row_of-Choice, end_of-Choice, more_of-Choice, Row_of-Decl}
use Rattle.hs_core.specs.declared.tree.Decl.TheBlock.{end_of-Decl, more_of-Decl, Row_of-Guard, end_of-Guard}
use Rattle.hs_core.specs.declared.tree.Decl.TheBlock.{more_of-Guard, Row_of-Exp, end_of-Exp, more_of-Exp, Row_of-Alt}
use Rattle.hs_core.specs.declared.tree.Decl.TheBlock.{end_of-Alt, more_of-Alt}
use Rattle.hs_core.specs.declared.tree.Decl.TheBlock.{shape-the_row-Exp-0, hidden-the_row-Exp-0, shown-the_row-Exp-0}
use Rattle.hs_core.specs.declared.tree.Decl.TheBlock.{shown-the_row-Exp-1, shown-the_row-Decl-2, shown-the_row-Alt-3}
use Rattle.hs_core.specs.declared.tree.Decl.TheBlock.{shown-the_row-Choice-5}
use Rattle.hs_core.specs.declared.tree.Decl.TheBlock.{items-the_row-Exp, items-the_row-Decl, items-the_row-Alt}
use Rattle.hs_core.specs.declared.tree.Decl.TheBlock.{items-the_row-Guard, items-the_row-Choice}
use Rattle.hs_core.specs.declared.tree.Decl.TheBlock.{items_shown-the_row-Exp-1, items_shown-the_row-Decl-2}
use Rattle.hs_core.specs.declared.tree.Decl.TheBlock.{items_shown-the_row-Alt-3, items_shown-the_row-Guard-4}
use Rattle.hs_core.specs.declared.tree.Decl.TheBlock.{items_shown-the_row-Choice-5}
use Rattle.hs_core.specs.declared.tree.Decl.TheViews.{roll-Exp, roll-out-Exp, roll-Rhs, roll-out-Rhs, roll-Alt}
use Rattle.hs_core.specs.Rename.{renamed_con, renamed_pat, renamed_exp, renamed_exp_row, renamed_decl, renamed_decl_row}
use Rattle.hs_core.specs.Rename.{renamed_rhs, renamed_choice, renamed_choice_row, renamed_guard, renamed_guard_row}
use Rattle.hs_core.specs.Rename.{renamed_alt, renamed_alt_row, renamed_body}
use Rattle.hs_core.specs.RenameLaws.{nothing}
use Rattle.hs_core.proofs.NothingLemmas.{name-same, written-same, field-same, con-same, pat-same, list-same}
use denote.Hole.Carrier.{hidden, out, roll, shown}

-- ---- a variant of its own parts is itself

Apply-is : (s z : _) (e : Exp) (es : _) → Apply e (shown-the_row-Exp-1 z es) ≡ Apply' s (more_of-Exp e end_of-Exp) z es
unfolding roll-Exp shown-the_row-Exp-0 shown-the_row-Exp-1 out-Exp roll out shown
Apply-is s z e es = roll-out-Exp (Apply' s (more_of-Exp e end_of-Exp) z es)

Lambda-is : (ps : List Pat) (s : _) (e : Exp) → Lambda ps e ≡ Lambda' ps s (more_of-Exp e end_of-Exp)
unfolding shape-the_row-Exp-0 hidden-the_row-Exp-0 hidden
Lambda-is ps s e = refl

Let-is : (s z : _) (ds : _) (e : Exp) → Let (shown-the_row-Decl-2 s ds) e ≡ Let' s ds z (more_of-Exp e end_of-Exp)
unfolding roll-Exp shown-the_row-Exp-0 shown-the_row-Decl-2 out-Exp roll out shown
Let-is s z ds e = roll-out-Exp (Let' s ds z (more_of-Exp e end_of-Exp))

If-is : (s y z : _) (a b c : Exp) → If a b c ≡ If' s (more_of-Exp a end_of-Exp) y (more_of-Exp b end_of-Exp) z
    (more_of-Exp c end_of-Exp)
unfolding shape-the_row-Exp-0 hidden-the_row-Exp-0 hidden
If-is s y z a b c = refl

Case-is : (s z : _) (e : Exp) (as' : _) → Case e (shown-the_row-Alt-3 z as') ≡ Case' s (more_of-Exp e end_of-Exp) z as'
unfolding roll-Exp shown-the_row-Exp-0 shown-the_row-Alt-3 out-Exp roll out shown
Case-is s z e as' = roll-out-Exp (Case' s (more_of-Exp e end_of-Exp) z as')

Tuple-is : (s : _) (es : _) → Tuple (shown-the_row-Exp-1 s es) ≡ Tuple' s es
unfolding roll-Exp shown-the_row-Exp-1 out-Exp roll out
Tuple-is s es = roll-out-Exp (Tuple' s es)

List-is : (s : _) (es : _) → ListOf (shown-the_row-Exp-1 s es) ≡ ListOf' s es
unfolding roll-Exp shown-the_row-Exp-1 out-Exp roll out
List-is s es = roll-out-Exp (ListOf' s es)

RightSection-is : (s z : _) (a b : Exp) → RightSection a b ≡ RightSection' s (more_of-Exp a end_of-Exp) z
    (more_of-Exp b end_of-Exp)
unfolding shape-the_row-Exp-0 hidden-the_row-Exp-0 hidden
RightSection-is s z a b = refl

Annot-is : (s : _) (e : Exp) (t : Written) → Annot e t ≡ Annot' s (more_of-Exp e end_of-Exp) t
unfolding shape-the_row-Exp-0 hidden-the_row-Exp-0 hidden
Annot-is s e t = refl

Rhs-is : (s z : _) (cs ds : _) → roll-Rhs (record {
  choices = shown-the_row-Choice-5 s cs;
  local = shown-the_row-Decl-2 z ds;
}) ≡ Rhs' s cs z ds
unfolding out-Rhs roll-Rhs out
Rhs-is s z cs ds = roll-out-Rhs (Rhs' s cs z ds)

Alt-is : (p : Pat) (r : Rhs) → roll-Alt (record { pat = p; rhs = r }) ≡ Alt' p r
unfolding roll-Alt roll
Alt-is p r = refl

-- ---- expressions and declarations

mutual
  pub exp-same : (e : Exp) → renamed_exp e nothing ≡ e
  exp-same (Local n) = refl
  exp-same (Global n) = ap Global (name-same n)
  exp-same (Int v) = refl
  exp-same (Chr v) = refl
  exp-same (Str v) = refl
  exp-same (Apply' s (more_of-Exp e end_of-Exp) z es) =
      (λ i. Apply (exp-same e i) ((exps-same es ∙ sym (items_shown-the_row-Exp-1 z es)) i)) ∙ Apply-is s z e es
  exp-same (Lambda' ps s (more_of-Exp e end_of-Exp)) =
      (λ i. Lambda (list-same (λ p. renamed_pat p nothing) pat-same ps i) (exp-same e i)) ∙ Lambda-is ps s e
  exp-same (Let' s ds z (more_of-Exp e end_of-Exp)) =
      (λ i. Let ((decls-same ds ∙ sym (items_shown-the_row-Decl-2 s ds)) i) (exp-same e i)) ∙ Let-is s z ds e
  exp-same (If' s (more_of-Exp a end_of-Exp) y (more_of-Exp b end_of-Exp) z (more_of-Exp c end_of-Exp)) =
      (λ i. If (exp-same a i) (exp-same b i) (exp-same c i)) ∙ If-is s y z a b c
  exp-same (Case' s (more_of-Exp e end_of-Exp) z as') =
      (λ i. Case (exp-same e i) ((alts-same as' ∙ sym (items_shown-the_row-Alt-3 z as')) i)) ∙ Case-is s z e as'
  exp-same (Tuple' s es) = ap Tuple (exps-same es ∙ sym (items_shown-the_row-Exp-1 s es)) ∙ Tuple-is s es
  exp-same (ListOf' s es) = ap ListOf (exps-same es ∙ sym (items_shown-the_row-Exp-1 s es)) ∙ List-is s es
  exp-same (RightSection' s (more_of-Exp a end_of-Exp) z (more_of-Exp b end_of-Exp)) =
      (λ i. RightSection (exp-same a i) (exp-same b i)) ∙ RightSection-is s z a b
  exp-same (Annot' s (more_of-Exp e end_of-Exp) t) = (λ i. Annot (exp-same e i) (written-same t i)) ∙ Annot-is s e t

  exps-same : {m : _} (es : Row_of-Exp m) → renamed_exp_row es nothing ≡ items-the_row-Exp m es
  exps-same end_of-Exp = refl
  exps-same (more_of-Exp e es) = λ i. exp-same e i ∷ exps-same es i

  pub decl-same : (d : Decl) → renamed_decl d nothing ≡ d
  decl-same (DataDecl n w ps cs) = ap (DataDecl n w ps) (list-same (λ c. renamed_con c nothing) con-same cs)
  decl-same (SynonymDecl n ps t) = ap (SynonymDecl n ps) (written-same t)
  decl-same (TypeSig n t) = ap (TypeSig n) (written-same t)
  decl-same (FixityOf n x) = refl
  decl-same (Clause n ps r) = λ i. Clause n (list-same (λ p. renamed_pat p nothing) pat-same ps i) (rhs-same r i)
  decl-same (PatBind p r) = λ i. PatBind (pat-same p i) (rhs-same r i)

  decls-same : {m : _} (ds : Row_of-Decl m) → renamed_decl_row ds nothing ≡ items-the_row-Decl m ds
  decls-same end_of-Decl = refl
  decls-same (more_of-Decl d ds) = λ i. decl-same d i ∷ decls-same ds i

  pub rhs-same : (r : Rhs) → renamed_rhs r nothing ≡ r
  rhs-same (Rhs' s cs z ds) = (λ i. roll-Rhs (record {
    choices =
        (choices-same cs ∙ sym (items_shown-the_row-Choice-5 s cs)) i;
    local = (decls-same ds ∙ sym (items_shown-the_row-Decl-2 z ds)) i;
  })) ∙ Rhs-is s z cs ds

  choices-same : {m : _} (cs : Row_of-Choice m) → renamed_choice_row cs nothing ≡ items-the_row-Choice m cs
  choices-same end_of-Choice = refl
  choices-same (more_of-Choice s gs e cs) = λ i. record {
    guards =
        (guards-same gs ∙ sym (items_shown-the_row-Guard-4 s gs)) i;
    exp = exp-same e i;
  } ∷ choices-same cs i

  pub guard-same : (x : Guard) → renamed_guard x nothing ≡ x
  guard-same (Test e) = ap Test (exp-same e)
  guard-same (Bind p e) = λ i. Bind (pat-same p i) (exp-same e i)

  guards-same : {m : _} (gs : Row_of-Guard m) → renamed_guard_row gs nothing ≡ items-the_row-Guard m gs
  guards-same end_of-Guard = refl
  guards-same (more_of-Guard x gs) = λ i. guard-same x i ∷ guards-same gs i

  pub alt-same : (a : Alt) → renamed_alt a nothing ≡ a
  alt-same (Alt' p r) = (λ i. roll-Alt (record { pat = pat-same p i; rhs = rhs-same r i })) ∙ Alt-is p r

  alts-same : {m : _} (as' : Row_of-Alt m) → renamed_alt_row as' nothing ≡ items-the_row-Alt m as'
  alts-same end_of-Alt = refl
  alts-same (more_of-Alt a as') = λ i. alt-same a i ∷ alts-same as' i

pub body-same : (b : Body) → renamed_body b nothing ≡ b
body-same b = λ i. record { decls = list-same (λ d. renamed_decl d nothing) decl-same b.decls i }

pub choice-same : (c : Choice) → renamed_choice c nothing ≡ c
choice-same c = λ i. record {
  guards = list-same (λ g. renamed_guard g nothing) guard-same c.guards i;
  exp = exp-same c.exp i;
}

pub decl_list-same : (ds : List Decl) → map (λ d. renamed_decl d nothing) ds ≡ ds
decl_list-same = list-same (λ d. renamed_decl d nothing) decl-same

pub ruleset sameness = (
  written-same,
  field-same,
  con-same,
  pat-same,
  exp-same,
  decl-same,
  rhs-same,
  choice-same,
  guard-same,
  alt-same,
  body-same,
  decl_list-same,
)
