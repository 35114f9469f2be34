-- Renaming twice is renaming by the composition: patterns, expressions and declarations.
use Rattle.std.proofs.Common.{◌≡◌, List, [], ◌∷◌, ◌++◌, refl, ap, ◌∙◌}
use Rattle.std.specs.Prelude.{map}
use Rattle.std.specs.List.{flat_map}
use Rattle.bp_base.specs.declared.linking.Renaming.{Renaming}
use Rattle.hs_core.specs.declared.tree.Pat.{Pat}
use Rattle.hs_core.specs.declared.tree.Pat.TheVariants.{PVar, PWild, PInt, PChr, PStr, PCon, PCon', PTuple, PTuple'}
use Rattle.hs_core.specs.declared.tree.Pat.TheVariants.{PList, PList', PAs, PAs', PLazy, PLazy'}
use Rattle.hs_core.specs.declared.tree.Pat.TheBlock.{Row_of-Pat, end_of-Pat, more_of-Pat}
use Rattle.hs_core.specs.declared.tree.Decl.{Decl}
use Rattle.hs_core.specs.declared.tree.Decl.TheVariants.{DataDecl, SynonymDecl, TypeSig, FixityOf, Clause, PatBind}
use Rattle.hs_core.specs.declared.tree.Exp.{Exp}
use Rattle.hs_core.specs.declared.tree.Exp.TheVariants.{Local, Global, Int, Chr, Str, Apply, Apply', Lambda, Lambda'}
use Rattle.hs_core.specs.declared.tree.Exp.TheVariants.{Let, Let', If, If', Case, Case', Tuple, Tuple', List as ListOf}
use Rattle.hs_core.specs.declared.tree.Exp.TheVariants.{List' as ListOf', RightSection, RightSection', Annot, Annot'}
use Rattle.hs_core.specs.declared.tree.Rhs.{Rhs, Rhs'}
use Rattle.hs_core.specs.declared.tree.Guard.{Guard}
use Rattle.hs_core.specs.declared.tree.Guard.TheVariants.{Test, Bind}
use Rattle.hs_core.specs.declared.tree.Alt.{Alt, Alt'}
use Rattle.hs_core.specs.declared.tree.ConDecl.{ConDecl}
use Rattle.hs_core.specs.declared.tree.FieldDecl.{FieldDecl}
use Rattle.hs_core.specs.declared.tree.Body.{Body}
use Rattle.hs_core.specs.declared.tree.Decl.TheBlock.{Row_of-Choice, end_of-Choice, more_of-Choice, Row_of-Decl}
use Rattle.hs_core.specs.declared.tree.Decl.TheBlock.{end_of-Decl, more_of-Decl, Row_of-Guard, end_of-Guard}
use Rattle.hs_core.specs.declared.tree.Decl.TheBlock.{more_of-Guard, Row_of-Exp, end_of-Exp, more_of-Exp, Row_of-Alt}
use Rattle.hs_core.specs.declared.tree.Decl.TheBlock.{end_of-Alt, more_of-Alt}
use Rattle.hs_core.specs.declared.tree.Decl.TheViews.{roll-Rhs, roll-Alt}
use Rattle.hs_core.specs.Rename.{renamed_name, renamed_written, renamed_field, renamed_con, renamed_pat, renamed_pats}
use Rattle.hs_core.specs.Rename.{renamed_exp, renamed_exp_row, renamed_decl, renamed_decl_row, renamed_rhs}
use Rattle.hs_core.specs.Rename.{renamed_choice, renamed_choice_row, renamed_guard, renamed_guard_row, renamed_alt}
use Rattle.hs_core.specs.Rename.{renamed_alt_row, renamed_body, composed_renaming}
use Rattle.hs_core.specs.Occurring.{names_of_written, names_of_field, names_of_con, names_of_pat, names_of_pats}
use Rattle.hs_core.specs.Occurring.{names_of_exp, names_of_exp_row, names_of_decl, names_of_decl_row, names_of_rhs}
use Rattle.hs_core.specs.Occurring.{names_of_choice_row, names_of_guard, names_of_guard_row, names_of_alt}
use Rattle.hs_core.specs.Occurring.{names_of_alt_row, names_of_body}
use Rattle.hs_core.specs.RenameLaws.{Covers}
use Rattle.hs_core.proofs.TwiceLemmas.{covers-left, covers-right, covers-head, covers-tail, name-twice, written-twice}
use Rattle.hs_core.proofs.TwiceLemmas.{list-twice}
use Rattle.hs_core.proofs.PatternLemmas.{at-PCon, at-PTuple, at-PList, at-PAs, at-PLazy}
use Rattle.hs_core.proofs.TreeLemmas.{at-Apply, at-Lambda, at-Let, at-If, at-Case, at-Tuple, at-List, at-RightSection}
use Rattle.hs_core.proofs.TreeLemmas.{at-Annot, rhs-roll, alt-roll}

field-twice : (d : FieldDecl) (f g : Renaming) → Covers f (names_of_field d)
    → renamed_field (renamed_field d f) g ≡ renamed_field d (composed_renaming f g)
field-twice d f g c = λ i. record { strict = d.strict; ty = written-twice d.ty f g c i }

con-twice : (d : ConDecl) (f g : Renaming) → Covers f (names_of_con d)
    → renamed_con (renamed_con d f) g ≡ renamed_con d (composed_renaming f g)
con-twice d f g c = λ i. record {
  occ = d.occ;
  fields =
      list-twice names_of_field renamed_field f g (λ x k. field-twice x f g k) d.fields c i;
}

mutual
  pat-twice : (p : Pat) (f g : Renaming) → Covers f (names_of_pat p)
      → renamed_pat (renamed_pat p f) g ≡ renamed_pat p (composed_renaming f g)
  pat-twice (PVar n) f g c = refl
  pat-twice PWild f g c = refl
  pat-twice (PInt w v) f g c = refl
  pat-twice (PChr v) f g c = refl
  pat-twice (PStr v) f g c = refl
  pat-twice (PCon' n s ps) f g c = at-PCon (renamed_name n f) (renamed_pats ps f) g
      ∙ (λ i. PCon (name-twice n f g (covers-head f n (names_of_pats ps) c) i)
      (pats-twice ps f g (covers-tail f n (names_of_pats ps) c) i))
  pat-twice (PTuple' s ps) f g c = at-PTuple (renamed_pats ps f) g ∙ (λ i. PTuple (pats-twice ps f g c i))
  pat-twice (PList' s ps) f g c = at-PList (renamed_pats ps f) g ∙ (λ i. PList (pats-twice ps f g c i))
  pat-twice (PAs' n s (more_of-Pat p end_of-Pat)) f g c = at-PAs n (renamed_pat p f) g
      ∙ (λ i. PAs n (pat-twice p f g c i))
  pat-twice (PLazy' s (more_of-Pat p end_of-Pat)) f g c = at-PLazy (renamed_pat p f) g
      ∙ (λ i. PLazy (pat-twice p f g c i))

  pats-twice : {m : _} (ps : Row_of-Pat m) (f g : Renaming) → Covers f (names_of_pats ps)
      → map (λ p. renamed_pat p g) (renamed_pats ps f) ≡ renamed_pats ps (composed_renaming f g)
  pats-twice end_of-Pat f g c = refl
  pats-twice (more_of-Pat p ps) f g c = λ i. pat-twice p f g (covers-left f (names_of_pat p) (names_of_pats ps) c) i
      ∷ pats-twice ps f g (covers-right f (names_of_pat p) (names_of_pats ps) c) i

pat_list-twice : (ps : List Pat) (f g : Renaming) → Covers f (flat_map (λ p. names_of_pat p) ps)
    → map (λ p. renamed_pat p g) (map (λ p. renamed_pat p f) ps) ≡ map (λ p. renamed_pat p (composed_renaming f g)) ps
pat_list-twice ps f g c = list-twice (λ p. names_of_pat p) renamed_pat f g (λ p k. pat-twice p f g k) ps c

mutual
  exp-twice : (e : Exp) (f g : Renaming) → Covers f (names_of_exp e)
      → renamed_exp (renamed_exp e f) g ≡ renamed_exp e (composed_renaming f g)
  exp-twice (Local n) f g c = refl
  exp-twice (Global n) f g c = ap Global (name-twice n f g (covers-head f n [] c))
  exp-twice (Int v) f g c = refl
  exp-twice (Chr v) f g c = refl
  exp-twice (Str v) f g c = refl
  exp-twice (Apply' s (more_of-Exp e end_of-Exp) z es) f g c =
      at-Apply (renamed_exp e f) (renamed_exp_row es f) g
      ∙ (λ i. Apply (exp-twice e f g (covers-left f (names_of_exp e) (names_of_exp_row es) c) i)
      (exps-twice es f g (covers-right f (names_of_exp e) (names_of_exp_row es) c) i))
  exp-twice (Lambda' ps s (more_of-Exp e end_of-Exp)) f g c =
      at-Lambda (map (λ p. renamed_pat p f) ps) (renamed_exp e f) g
      ∙ (λ i. Lambda (pat_list-twice ps f g (covers-left f (flat_map (λ p. names_of_pat p) ps) (names_of_exp e) c)
      i) (exp-twice e f g (covers-right f (flat_map (λ p. names_of_pat p) ps) (names_of_exp e) c) i))
  exp-twice (Let' s ds z (more_of-Exp e end_of-Exp)) f g c =
      at-Let (renamed_decl_row ds f) (renamed_exp e f) g
      ∙ (λ i. Let (decls-twice ds f g (covers-left f (names_of_decl_row ds) (names_of_exp e) c) i)
      (exp-twice e f g (covers-right f (names_of_decl_row ds) (names_of_exp e) c) i))
  exp-twice (If' s (more_of-Exp a end_of-Exp) y (more_of-Exp b end_of-Exp) z (more_of-Exp d end_of-Exp)) f g c =
      at-If (renamed_exp a f) (renamed_exp b f) (renamed_exp d f) g
      ∙ (λ i. If (exp-twice a f g (covers-left f (names_of_exp a) (names_of_exp b ++ names_of_exp d) c) i)
      (exp-twice b f g (covers-left f (names_of_exp b) (names_of_exp d)
      (covers-right f (names_of_exp a) (names_of_exp b ++ names_of_exp d) c)) i)
      (exp-twice d f g (covers-right f (names_of_exp b) (names_of_exp d)
      (covers-right f (names_of_exp a) (names_of_exp b ++ names_of_exp d) c)) i))
  exp-twice (Case' s (more_of-Exp e end_of-Exp) z as') f g c =
      at-Case (renamed_exp e f) (renamed_alt_row as' f) g
      ∙ (λ i. Case (exp-twice e f g (covers-left f (names_of_exp e) (names_of_alt_row as') c) i)
      (alts-twice as' f g (covers-right f (names_of_exp e) (names_of_alt_row as') c) i))
  exp-twice (Tuple' s es) f g c = at-Tuple (renamed_exp_row es f) g ∙ (λ i. Tuple (exps-twice es f g c i))
  exp-twice (ListOf' s es) f g c = at-List (renamed_exp_row es f) g ∙ (λ i. ListOf (exps-twice es f g c i))
  exp-twice (RightSection' s (more_of-Exp a end_of-Exp) z (more_of-Exp b end_of-Exp)) f g c =
      at-RightSection (renamed_exp a f) (renamed_exp b f) g
      ∙ (λ i. RightSection (exp-twice a f g (covers-left f (names_of_exp a) (names_of_exp b) c) i)
      (exp-twice b f g (covers-right f (names_of_exp a) (names_of_exp b) c) i))
  exp-twice (Annot' s (more_of-Exp e end_of-Exp) t) f g c =
      at-Annot (renamed_exp e f) (renamed_written t f) g
      ∙ (λ i. Annot (exp-twice e f g (covers-left f (names_of_exp e) (names_of_written t) c) i)
      (written-twice t f g (covers-right f (names_of_exp e) (names_of_written t) c) i))

  exps-twice : {m : _} (es : Row_of-Exp m) (f g : Renaming) → Covers f (names_of_exp_row es)
      → map (λ e. renamed_exp e g) (renamed_exp_row es f) ≡ renamed_exp_row es (composed_renaming f g)
  exps-twice end_of-Exp f g c = refl
  exps-twice (more_of-Exp e es) f g c = λ i. exp-twice e f g (covers-left f (names_of_exp e) (names_of_exp_row es) c) i
      ∷ exps-twice es f g (covers-right f (names_of_exp e) (names_of_exp_row es) c) i

  decl-twice : (d : Decl) (f g : Renaming) → Covers f (names_of_decl d)
      → renamed_decl (renamed_decl d f) g ≡ renamed_decl d (composed_renaming f g)
  decl-twice (DataDecl n w ps cs) f g c = ap (DataDecl n w ps)
      (list-twice (λ x. names_of_con x) renamed_con f g (λ x k. con-twice x f g k) cs c)
  decl-twice (SynonymDecl n ps t) f g c = ap (SynonymDecl n ps) (written-twice t f g c)
  decl-twice (TypeSig n t) f g c = ap (TypeSig n) (written-twice t f g c)
  decl-twice (FixityOf n x) f g c = refl
  decl-twice (Clause n ps r) f g c = λ i. Clause n
      (pat_list-twice ps f g (covers-left f (flat_map (λ p. names_of_pat p) ps) (names_of_rhs r) c) i)
      (rhs-twice r f g (covers-right f (flat_map (λ p. names_of_pat p) ps) (names_of_rhs r) c) i)
  decl-twice (PatBind p r) f g c = λ i. PatBind (pat-twice p f g (covers-left f (names_of_pat p) (names_of_rhs r) c) i)
      (rhs-twice r f g (covers-right f (names_of_pat p) (names_of_rhs r) c) i)

  decls-twice : {m : _} (ds : Row_of-Decl m) (f g : Renaming) → Covers f (names_of_decl_row ds)
      → map (λ d. renamed_decl d g) (renamed_decl_row ds f) ≡ renamed_decl_row ds (composed_renaming f g)
  decls-twice end_of-Decl f g c = refl
  decls-twice (more_of-Decl d ds) f g c = λ i. decl-twice d f g
      (covers-left f (names_of_decl d) (names_of_decl_row ds) c) i ∷ decls-twice ds f g
      (covers-right f (names_of_decl d) (names_of_decl_row ds) c) i

  rhs-twice : (r : Rhs) (f g : Renaming) → Covers f (names_of_rhs r)
      → renamed_rhs (renamed_rhs r f) g ≡ renamed_rhs r (composed_renaming f g)
  rhs-twice (Rhs' s cs z ds) f g c =
      rhs-roll (renamed_choice_row cs f) (renamed_decl_row ds f) g
      ∙ (λ i. roll-Rhs (record {
        choices = choices-twice cs f g
            (covers-left f (names_of_choice_row cs) (names_of_decl_row ds) c) i;
        local = decls-twice ds f g (covers-right f (names_of_choice_row cs) (names_of_decl_row ds) c) i;
      }))

  choices-twice : {m : _} (cs : Row_of-Choice m) (f g : Renaming) → Covers f (names_of_choice_row cs)
      → map (λ c. renamed_choice c g) (renamed_choice_row cs f) ≡ renamed_choice_row cs (composed_renaming f g)
  choices-twice end_of-Choice f g c = refl
  choices-twice (more_of-Choice s gs e cs) f g c =
      let first = covers-left f (names_of_guard_row gs ++ names_of_exp e) (names_of_choice_row cs) c in
      λ i. record {
        guards = guards-twice gs f g (covers-left f (names_of_guard_row gs) (names_of_exp e) first) i;
        exp = exp-twice e f g (covers-right f (names_of_guard_row gs) (names_of_exp e) first) i;
      }
      ∷ choices-twice cs f g (covers-right f (names_of_guard_row gs ++ names_of_exp e) (names_of_choice_row cs) c) i

  guard-twice : (x : Guard) (f g : Renaming) → Covers f (names_of_guard x)
      → renamed_guard (renamed_guard x f) g ≡ renamed_guard x (composed_renaming f g)
  guard-twice (Test e) f g c = ap Test (exp-twice e f g c)
  guard-twice (Bind p e) f g c = λ i. Bind (pat-twice p f g (covers-left f (names_of_pat p) (names_of_exp e) c) i)
      (exp-twice e f g (covers-right f (names_of_pat p) (names_of_exp e) c) i)

  guards-twice : {m : _} (gs : Row_of-Guard m) (f g : Renaming) → Covers f (names_of_guard_row gs)
      → map (λ x. renamed_guard x g) (renamed_guard_row gs f) ≡ renamed_guard_row gs (composed_renaming f g)
  guards-twice end_of-Guard f g c = refl
  guards-twice (more_of-Guard x gs) f g c = λ i. guard-twice x f g
      (covers-left f (names_of_guard x) (names_of_guard_row gs) c) i ∷ guards-twice gs f g
      (covers-right f (names_of_guard x) (names_of_guard_row gs) c) i

  alt-twice : (a : Alt) (f g : Renaming) → Covers f (names_of_alt a)
      → renamed_alt (renamed_alt a f) g ≡ renamed_alt a (composed_renaming f g)
  alt-twice (Alt' p r) f g c = alt-roll (renamed_pat p f) (renamed_rhs r f) g
      ∙ (λ i. roll-Alt (record {
        pat = pat-twice p f g (covers-left f (names_of_pat p) (names_of_rhs r) c) i;
        rhs = rhs-twice r f g (covers-right f (names_of_pat p) (names_of_rhs r) c) i;
      }))

  alts-twice : {m : _} (as' : Row_of-Alt m) (f g : Renaming) → Covers f (names_of_alt_row as')
      → map (λ a. renamed_alt a g) (renamed_alt_row as' f) ≡ renamed_alt_row as' (composed_renaming f g)
  alts-twice end_of-Alt f g c = refl
  alts-twice (more_of-Alt a as') f g c = λ i. alt-twice a f g
      (covers-left f (names_of_alt a) (names_of_alt_row as') c) i ∷ alts-twice as' f g
      (covers-right f (names_of_alt a) (names_of_alt_row as') c) i

-- ---- the declarations of a module

pub body-twice : (b : Body) (f g : Renaming) → Covers f (names_of_body b)
    → renamed_body (renamed_body b f) g ≡ renamed_body b (composed_renaming f g)
body-twice b f g c = λ i. record {
  decls = list-twice (λ d. names_of_decl d) renamed_decl f g
      (λ d k. decl-twice d f g k) b.decls c i;
}
