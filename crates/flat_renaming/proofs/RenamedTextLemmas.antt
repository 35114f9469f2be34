-- A renamed declaration is printable just if the declaration is.
use Rattle.std.proofs.Common.{◌≡◌, ℕ, suc, ◌-◌, Bool, true, false, List, [], ◌∷◌, length, map, refl, ap, ◌∙◌}
use Rattle.std.specs.Prelude.{◌&&◌, nat_le}
use Rattle.hs_forms.specs.Limits.{all_of}
use Rattle.bp_base.specs.declared.ty.OrigName.{OrigName}
use Rattle.bp_base.specs.declared.linking.Renaming.{Renaming}
use Rattle.hs_core.specs.declared.tree.Written.{Written}
use Rattle.hs_core.specs.declared.tree.Written.TheVariants.{WVar, WCon, WApp, WApp'}
use Rattle.hs_core.specs.declared.tree.Written.TheBlock.{end_of-Written, more_of-Written, hidden-the_row-Written-0}
use Rattle.hs_core.specs.declared.tree.Pat.{Pat}
use Rattle.hs_core.specs.declared.tree.Pat.TheVariants.{PVar, PWild, PInt, PChr, PStr, PCon, PCon', PTuple, PTuple'}
use Rattle.hs_core.specs.declared.tree.Pat.TheVariants.{PList, PList', PAs, PAs', PLazy, PLazy'}
use Rattle.hs_core.specs.declared.tree.Pat.TheBlock.{Row_of-Pat, end_of-Pat, more_of-Pat}
use Rattle.hs_core.specs.declared.tree.Pat.TheBlock.{hidden-the_row-Pat-0, hidden-the_row-Pat-1}
use Rattle.hs_core.specs.declared.tree.ConDecl.{ConDecl}
use Rattle.hs_core.specs.declared.tree.FieldDecl.{FieldDecl}
use Rattle.hs_core.specs.declared.tree.Decl.{Decl}
use Rattle.hs_core.specs.declared.tree.Decl.TheVariants.{DataDecl, SynonymDecl, TypeSig, FixityOf, Clause, PatBind}
use Rattle.hs_core.specs.declared.tree.Exp.{Exp}
use Rattle.hs_core.specs.declared.tree.Exp.TheVariants.{Local, Global, Int, Chr, Str, Apply, Apply', Lambda, Lambda'}
use Rattle.hs_core.specs.declared.tree.Exp.TheVariants.{Let, Let', If, If', Case, Case', Tuple, Tuple', List as ListOf}
use Rattle.hs_core.specs.declared.tree.Exp.TheVariants.{List' as ListOf', RightSection, RightSection', Annot, Annot'}
use Rattle.hs_core.specs.declared.tree.Rhs.{Rhs, Rhs'}
use Rattle.hs_core.specs.declared.tree.Choice.{Choice}
use Rattle.hs_core.specs.declared.tree.Guard.{Guard}
use Rattle.hs_core.specs.declared.tree.Guard.TheVariants.{Test, Bind}
use Rattle.hs_core.specs.declared.tree.Alt.{Alt, Alt'}
use Rattle.hs_core.specs.declared.tree.Decl.TheBlock.{Row_of-Choice, end_of-Choice, more_of-Choice, Row_of-Decl}
use Rattle.hs_core.specs.declared.tree.Decl.TheBlock.{end_of-Decl, more_of-Decl, Row_of-Guard, end_of-Guard}
use Rattle.hs_core.specs.declared.tree.Decl.TheBlock.{more_of-Guard, Row_of-Exp, end_of-Exp, more_of-Exp, Row_of-Alt}
use Rattle.hs_core.specs.declared.tree.Decl.TheBlock.{end_of-Alt, more_of-Alt}
use Rattle.hs_core.specs.declared.tree.Decl.TheBlock.{hidden-the_row-Exp-0, hidden-the_row-Exp-1, hidden-the_row-Decl-2}
use Rattle.hs_core.specs.declared.tree.Decl.TheBlock.{hidden-the_row-Alt-3, hidden-the_row-Guard-4}
use Rattle.hs_core.specs.declared.tree.Decl.TheBlock.{hidden-the_row-Choice-5}
use Rattle.hs_core.specs.declared.tree.Decl.TheViews.{roll-Rhs, roll-Alt}
use Rattle.hs_core.specs.Rename.{renamed_name, renamed_written, renamed_field, renamed_con, renamed_pat, renamed_pats}
use Rattle.hs_core.specs.Rename.{renamed_exp, renamed_exp_row, renamed_decl, renamed_decl_row, renamed_rhs}
use Rattle.hs_core.specs.Rename.{renamed_choice_row, renamed_guard, renamed_guard_row, renamed_alt, renamed_alt_row}
use denote.Hole.Carrier.{hidden, roll}
use Rattle.flat_text.specs.declared.name.Place.TheVariants as p
use Rattle.flat_text.specs.Names.{form_of}
use Rattle.flat_text.specs.PatternMarks.{pats_marks}
use Rattle.flat_text.specs.ExpressionMarks.{exps_marks, guards_marks}
use Rattle.flat_spelled.specs.Printable.{constructs, names_type, names_value, global_operates, is_some, guard_flags}
use Rattle.flat_spelled.specs.Printable.{is_shape, is_printable_type, is_printable_pat, are_printable_pats}
use Rattle.flat_spelled.specs.Printable.{is_printable_op, is_printable_exp, are_printable_exps, is_printable_decl}
use Rattle.flat_spelled.specs.Printable.{are_printable_decls, is_printable_rhs, are_printable_choices}
use Rattle.flat_spelled.specs.Printable.{is_printable_guard, are_printable_guards, is_printable_alt, are_printable_alts}
use Rattle.flat_whole.specs.PrintableModule.{is_own_con, is_type_head, is_printable_field, is_printable_con}
use Rattle.flat_whole.specs.PrintableModule.{is_lone_field, is_lone_con, fits_word, is_printable_top}
use Rattle.flat_renaming.proofs.RenamedNameLemmas.{occ_keeps}

-- ---- rows as lists

pats_listed : (l : List Pat) → are_printable_pats (hidden-the_row-Pat-0 l) ≡ all_of (map is_printable_pat l)
unfolding hidden-the_row-Pat-0 hidden
pats_listed [] = refl
pats_listed (x ∷ l) = ap (λ v. is_printable_pat x && v) (pats_listed l)

pats_many : (l : List Pat) → length (pats_marks (hidden-the_row-Pat-0 l)) ≡ length l
unfolding hidden-the_row-Pat-0 hidden
pats_many [] = refl
pats_many (x ∷ l) = ap suc (pats_many l)

exps_listed : (l : List Exp) → are_printable_exps (hidden-the_row-Exp-1 l) ≡ all_of (map is_printable_exp l)
unfolding hidden-the_row-Exp-1 hidden
exps_listed [] = refl
exps_listed (x ∷ l) = ap (λ v. is_printable_exp x && v) (exps_listed l)

exps_many : (l : List Exp) → length (exps_marks (hidden-the_row-Exp-1 l) p.Whole) ≡ length l
unfolding hidden-the_row-Exp-1 hidden
exps_many [] = refl
exps_many (x ∷ l) = ap suc (exps_many l)

decls_listed : (l : List Decl) → are_printable_decls (hidden-the_row-Decl-2 l) ≡ all_of (map is_printable_decl l)
unfolding hidden-the_row-Decl-2 hidden
decls_listed [] = refl
decls_listed (x ∷ l) = ap (λ v. is_printable_decl x && v) (decls_listed l)

alts_listed : (l : List Alt) → are_printable_alts (hidden-the_row-Alt-3 l) ≡ all_of (map is_printable_alt l)
unfolding hidden-the_row-Alt-3 hidden
alts_listed [] = refl
alts_listed (x ∷ l) = ap (λ v. is_printable_alt x && v) (alts_listed l)

guards_listed : (l : List Guard) → are_printable_guards (hidden-the_row-Guard-4 l) ≡ all_of (map is_printable_guard l)
unfolding hidden-the_row-Guard-4 hidden
guards_listed [] = refl
guards_listed (x ∷ l) = ap (λ v. is_printable_guard x && v) (guards_listed l)

some_guards : (l : List Guard) → is_some (guards_marks (hidden-the_row-Guard-4 l)) ≡ is_some l
unfolding hidden-the_row-Guard-4 hidden
some_guards [] = refl
some_guards (x ∷ l) = refl

abbrev choices_of : List Choice → Bool
choices_of [] = true
choices_of (c ∷ cs) = all_of (map is_printable_guard c.guards) && (is_printable_exp c.exp && choices_of cs)

abbrev flags_of : List Choice → List Bool
flags_of [] = []
flags_of (c ∷ cs) = is_some c.guards ∷ flags_of cs

choices_listed : (l : List Choice) → are_printable_choices (hidden-the_row-Choice-5 l) ≡ choices_of l
unfolding hidden-the_row-Choice-5 hidden
choices_listed [] = refl
choices_listed (c ∷ l) = λ i. guards_listed c.guards i && (is_printable_exp c.exp && choices_listed l i)

flags_listed : (l : List Choice) → guard_flags (hidden-the_row-Choice-5 l) ≡ flags_of l
unfolding hidden-the_row-Choice-5 hidden
flags_listed [] = refl
flags_listed (c ∷ l) = λ i. some_guards c.guards i ∷ flags_listed l i

-- ---- each variant

of_WApp : (a b : Written) → is_printable_type (WApp a b) ≡ is_printable_type a && is_printable_type b
unfolding hidden-the_row-Written-0 hidden
of_WApp a b = refl

of_PCon : (n : OrigName) (l : List Pat) → is_printable_pat (PCon n l)
    ≡ constructs (form_of n.occ) (length n.occ - 2) && all_of (map is_printable_pat l)
of_PCon n l = ap (λ v. constructs (form_of n.occ) (length n.occ - 2) && v) (pats_listed l)

of_PTuple : (l : List Pat) → is_printable_pat (PTuple l) ≡ nat_le (length l) 15 && all_of (map is_printable_pat l)
of_PTuple l = λ i. nat_le (pats_many l i) 15 && pats_listed l i

of_PList : (l : List Pat) → is_printable_pat (PList l) ≡ all_of (map is_printable_pat l)
of_PList l = pats_listed l

of_PAs : (n : List ℕ) (x : Pat) → is_printable_pat (PAs n x) ≡ is_printable_pat x
unfolding hidden-the_row-Pat-1 hidden
of_PAs n x = refl

of_PLazy : (x : Pat) → is_printable_pat (PLazy x) ≡ is_printable_pat x
unfolding hidden-the_row-Pat-1 hidden
of_PLazy x = refl

of_Apply : (x : Exp) (l : List Exp) → is_printable_exp (Apply x l)
    ≡ is_printable_exp x && all_of (map is_printable_exp l)
unfolding hidden-the_row-Exp-0 hidden
of_Apply x l = ap (λ v. is_printable_exp x && v) (exps_listed l)

of_Lambda : (l : List Pat) (x : Exp) → is_printable_exp (Lambda l x)
    ≡ is_some l && (all_of (map is_printable_pat l) && is_printable_exp x)
unfolding hidden-the_row-Exp-0 hidden
of_Lambda l x = refl

of_Let : (l : List Decl) (x : Exp) → is_printable_exp (Let l x)
    ≡ all_of (map is_printable_decl l) && is_printable_exp x
unfolding hidden-the_row-Exp-0 hidden
of_Let l x = ap (λ v. v && is_printable_exp x) (decls_listed l)

of_If : (a b c : Exp) → is_printable_exp (If a b c) ≡ is_printable_exp a && (is_printable_exp b && is_printable_exp c)
unfolding hidden-the_row-Exp-0 hidden
of_If a b c = refl

of_Case : (x : Exp) (l : List Alt) → is_printable_exp (Case x l)
    ≡ is_printable_exp x && all_of (map is_printable_alt l)
unfolding hidden-the_row-Exp-0 hidden
of_Case x l = ap (λ v. is_printable_exp x && v) (alts_listed l)

of_Tuple : (l : List Exp) → is_printable_exp (Tuple l) ≡ nat_le (length l) 15 && all_of (map is_printable_exp l)
of_Tuple l = λ i. nat_le (exps_many l i) 15 && exps_listed l i

of_List : (l : List Exp) → is_printable_exp (ListOf l) ≡ all_of (map is_printable_exp l)
of_List l = exps_listed l

of_RightSection : (a b : Exp) → is_printable_exp (RightSection a b) ≡ is_printable_op a && is_printable_exp b
unfolding hidden-the_row-Exp-0 hidden
of_RightSection a b = refl

of_Annot : (x : Exp) (ty : Written) → is_printable_exp (Annot x ty) ≡ is_printable_exp x && is_printable_type ty
unfolding hidden-the_row-Exp-0 hidden
of_Annot x ty = refl

of_Rhs : (cs : List Choice) (ds : List Decl) → is_printable_rhs (roll-Rhs (record { choices = cs; local = ds }))
    ≡ is_shape (flags_of cs) && (choices_of cs && all_of (map is_printable_decl ds))
unfolding roll-Rhs roll
of_Rhs cs ds = λ i. is_shape (flags_listed cs i) && (choices_listed cs i && decls_listed ds i)

of_Alt : (pat : Pat) (rhs : Rhs) → is_printable_alt (roll-Alt (record { pat = pat; rhs = rhs }))
    ≡ is_printable_pat pat && is_printable_rhs rhs
unfolding roll-Alt roll
of_Alt pat rhs = refl

-- ---- types and patterns

written_keeps : (ty : Written) (by : Renaming) → is_printable_type (renamed_written ty by) ≡ is_printable_type ty
written_keeps (WVar n) by = refl
written_keeps (WCon n) by = ap (λ occ. names_type (form_of occ) (length occ - 2)) (occ_keeps n by)
written_keeps (WApp' s (more_of-Written a end_of-Written) z (more_of-Written b end_of-Written)) by =
    of_WApp (renamed_written a by) (renamed_written b by) ∙ (λ i. written_keeps a by i && written_keeps b by i)

pats_count : {m : _} (ps : Row_of-Pat m) (by : Renaming) → length (renamed_pats ps by) ≡ length (pats_marks ps)
pats_count end_of-Pat by = refl
pats_count (more_of-Pat x ps) by = ap suc (pats_count ps by)

mutual
  pat_keeps : (x : Pat) (by : Renaming) → is_printable_pat (renamed_pat x by) ≡ is_printable_pat x
  pat_keeps (PVar n) by = refl
  pat_keeps PWild by = refl
  pat_keeps (PInt negative value) by = refl
  pat_keeps (PChr code) by = refl
  pat_keeps (PStr text) by = refl
  pat_keeps (PCon' n s ps) by = of_PCon (renamed_name n by) (renamed_pats ps by)
      ∙ (λ i. constructs (form_of (occ_keeps n by i)) (length (occ_keeps n by i) - 2) && pats_keep ps by i)
  pat_keeps (PTuple' s ps) by = of_PTuple (renamed_pats ps by)
      ∙ (λ i. nat_le (pats_count ps by i) 15 && pats_keep ps by i)
  pat_keeps (PList' s ps) by = of_PList (renamed_pats ps by) ∙ pats_keep ps by
  pat_keeps (PAs' n s (more_of-Pat x end_of-Pat)) by = of_PAs n (renamed_pat x by) ∙ pat_keeps x by
  pat_keeps (PLazy' s (more_of-Pat x end_of-Pat)) by = of_PLazy (renamed_pat x by) ∙ pat_keeps x by

  pats_keep : {m : _}
      (ps : Row_of-Pat m) (by : Renaming)
      → all_of (map is_printable_pat (renamed_pats ps by)) ≡ are_printable_pats ps
  pats_keep end_of-Pat by = refl
  pats_keep (more_of-Pat x ps) by = λ i. pat_keeps x by i && pats_keep ps by i

pat_list_keeps : (ps : List Pat)
    (by : Renaming)
    → all_of (map is_printable_pat (map (λ x. renamed_pat x by) ps)) ≡ all_of (map is_printable_pat ps)
pat_list_keeps [] by = refl
pat_list_keeps (x ∷ ps) by = λ i. pat_keeps x by i && pat_list_keeps ps by i

some_keeps : (ps : List Pat) (by : Renaming) → is_some (map (λ x. renamed_pat x by) ps) ≡ is_some ps
some_keeps [] by = refl
some_keeps (x ∷ ps) by = refl

-- ---- expressions and declarations

op_keeps : (o : Exp) (by : Renaming) → is_printable_op (renamed_exp o by) ≡ is_printable_op o
op_keeps (Local n) by = refl
op_keeps (Global n) by = ap (λ occ. global_operates (form_of occ)) (occ_keeps n by)
op_keeps (Int value) by = refl
op_keeps (Chr code) by = refl
op_keeps (Str text) by = refl
op_keeps (Apply' s (more_of-Exp x end_of-Exp) z es) by = refl
op_keeps (Lambda' ps s (more_of-Exp x end_of-Exp)) by = refl
op_keeps (Let' s ds z (more_of-Exp x end_of-Exp)) by = refl
op_keeps (If' s (more_of-Exp a end_of-Exp) y (more_of-Exp b end_of-Exp) z (more_of-Exp c end_of-Exp)) by = refl
op_keeps (Case' s (more_of-Exp x end_of-Exp) z as') by = refl
op_keeps (Tuple' s es) by = refl
op_keeps (ListOf' s es) by = refl
op_keeps (RightSection' s (more_of-Exp a end_of-Exp) z (more_of-Exp b end_of-Exp)) by = refl
op_keeps (Annot' s (more_of-Exp x end_of-Exp) ty) by = refl

exps_count : {m : _}
    (es : Row_of-Exp m) (by : Renaming)
    → length (renamed_exp_row es by) ≡ length (exps_marks es p.Whole)
exps_count end_of-Exp by = refl
exps_count (more_of-Exp x es) by = ap suc (exps_count es by)

some_guards_keep : {m : _} (gs : Row_of-Guard m) (by : Renaming)
    → is_some (renamed_guard_row gs by) ≡ is_some (guards_marks gs)
some_guards_keep end_of-Guard by = refl
some_guards_keep (more_of-Guard g gs) by = refl

flags_keep : {m : _} (cs : Row_of-Choice m) (by : Renaming) → flags_of (renamed_choice_row cs by) ≡ guard_flags cs
flags_keep end_of-Choice by = refl
flags_keep (more_of-Choice s gs x cs) by = λ i. some_guards_keep gs by i ∷ flags_keep cs by i

mutual
  exp_keeps : (x : Exp) (by : Renaming) → is_printable_exp (renamed_exp x by) ≡ is_printable_exp x
  exp_keeps (Local n) by = refl
  exp_keeps (Global n) by = ap (λ occ. names_value (form_of occ) (length occ - 2)) (occ_keeps n by)
  exp_keeps (Int value) by = refl
  exp_keeps (Chr code) by = refl
  exp_keeps (Str text) by = refl
  exp_keeps (Apply' s (more_of-Exp x end_of-Exp) z es) by =
      of_Apply (renamed_exp x by) (renamed_exp_row es by) ∙ (λ i. exp_keeps x by i && exps_keep es by i)
  exp_keeps (Lambda' ps s (more_of-Exp x end_of-Exp)) by =
      of_Lambda (map (λ q. renamed_pat q by) ps) (renamed_exp x by)
      ∙ (λ i. some_keeps ps by i && (pat_list_keeps ps by i && exp_keeps x by i))
  exp_keeps (Let' s ds z (more_of-Exp x end_of-Exp)) by =
      of_Let (renamed_decl_row ds by) (renamed_exp x by) ∙ (λ i. decls_keep ds by i && exp_keeps x by i)
  exp_keeps (If' s (more_of-Exp a end_of-Exp) y (more_of-Exp b end_of-Exp) z (more_of-Exp c end_of-Exp)) by =
      of_If (renamed_exp a by) (renamed_exp b by) (renamed_exp c by)
      ∙ (λ i. exp_keeps a by i && (exp_keeps b by i && exp_keeps c by i))
  exp_keeps (Case' s (more_of-Exp x end_of-Exp) z as') by =
      of_Case (renamed_exp x by) (renamed_alt_row as' by) ∙ (λ i. exp_keeps x by i && alts_keep as' by i)
  exp_keeps (Tuple' s es) by =
      of_Tuple (renamed_exp_row es by) ∙ (λ i. nat_le (exps_count es by i) 15 && exps_keep es by i)
  exp_keeps (ListOf' s es) by = of_List (renamed_exp_row es by) ∙ exps_keep es by
  exp_keeps (RightSection' s (more_of-Exp a end_of-Exp) z (more_of-Exp b end_of-Exp)) by =
      of_RightSection (renamed_exp a by) (renamed_exp b by) ∙ (λ i. op_keeps a by i && exp_keeps b by i)
  exp_keeps (Annot' s (more_of-Exp x end_of-Exp) ty) by =
      of_Annot (renamed_exp x by) (renamed_written ty by) ∙ (λ i. exp_keeps x by i && written_keeps ty by i)

  exps_keep : {m : _}
      (es : Row_of-Exp m) (by : Renaming)
      → all_of (map is_printable_exp (renamed_exp_row es by)) ≡ are_printable_exps es
  exps_keep end_of-Exp by = refl
  exps_keep (more_of-Exp x es) by = λ i. exp_keeps x by i && exps_keep es by i

  decl_keeps : (d : Decl) (by : Renaming) → is_printable_decl (renamed_decl d by) ≡ is_printable_decl d
  decl_keeps (DataDecl occ is_new params cons) by = refl
  decl_keeps (SynonymDecl occ params body) by = refl
  decl_keeps (TypeSig occ ty) by = written_keeps ty by
  decl_keeps (FixityOf occ fixity) by = refl
  decl_keeps (Clause occ ps rhs) by = λ i. pat_list_keeps ps by i && rhs_keeps rhs by i
  decl_keeps (PatBind x rhs) by = λ i. pat_keeps x by i && rhs_keeps rhs by i

  decls_keep : {m : _}
      (ds : Row_of-Decl m) (by : Renaming)
      → all_of (map is_printable_decl (renamed_decl_row ds by)) ≡ are_printable_decls ds
  decls_keep end_of-Decl by = refl
  decls_keep (more_of-Decl d ds) by = λ i. decl_keeps d by i && decls_keep ds by i

  rhs_keeps : (rhs : Rhs) (by : Renaming) → is_printable_rhs (renamed_rhs rhs by) ≡ is_printable_rhs rhs
  rhs_keeps (Rhs' s cs z ds) by =
      of_Rhs (renamed_choice_row cs by) (renamed_decl_row ds by)
      ∙ (λ i. is_shape (flags_keep cs by i) && (choices_keep cs by i && decls_keep ds by i))

  choices_keep : {m : _}
      (cs : Row_of-Choice m) (by : Renaming)
      → choices_of (renamed_choice_row cs by) ≡ are_printable_choices cs
  choices_keep end_of-Choice by = refl
  choices_keep (more_of-Choice s gs x cs) by = λ i. guards_keep gs by i && (exp_keeps x by i && choices_keep cs by i)

  guard_keeps : (g : Guard) (by : Renaming) → is_printable_guard (renamed_guard g by) ≡ is_printable_guard g
  guard_keeps (Test x) by = exp_keeps x by
  guard_keeps (Bind q x) by = λ i. pat_keeps q by i && exp_keeps x by i

  guards_keep : {m : _} (gs : Row_of-Guard m) (by : Renaming)
      → all_of (map is_printable_guard (renamed_guard_row gs by)) ≡ are_printable_guards gs
  guards_keep end_of-Guard by = refl
  guards_keep (more_of-Guard g gs) by = λ i. guard_keeps g by i && guards_keep gs by i

  alt_keeps : (a : Alt) (by : Renaming) → is_printable_alt (renamed_alt a by) ≡ is_printable_alt a
  alt_keeps (Alt' q rhs) by =
      of_Alt (renamed_pat q by) (renamed_rhs rhs by) ∙ (λ i. pat_keeps q by i && rhs_keeps rhs by i)

  alts_keep : {m : _}
      (as' : Row_of-Alt m) (by : Renaming)
      → all_of (map is_printable_alt (renamed_alt_row as' by)) ≡ are_printable_alts as'
  alts_keep end_of-Alt by = refl
  alts_keep (more_of-Alt a as') by = λ i. alt_keeps a by i && alts_keep as' by i

-- ---- declarations of a module

fields_keep : (fields : List FieldDecl) (by : Renaming)
    → all_of (map is_printable_field (map (λ f. renamed_field f by) fields)) ≡ all_of (map is_printable_field fields)
fields_keep [] by = refl
fields_keep (field ∷ fields) by = λ i. written_keeps field.ty by i && fields_keep fields by i

cons_keep : (cons : List ConDecl) (by : Renaming)
    → all_of (map is_printable_con (map (λ c. renamed_con c by) cons)) ≡ all_of (map is_printable_con cons)
cons_keep [] by = refl
cons_keep (con ∷ cons) by = λ i. (is_own_con con.occ && fields_keep con.fields by i) && cons_keep cons by i

lone_field_keeps : (fields : List FieldDecl) (by : Renaming)
    → is_lone_field (map (λ f. renamed_field f by) fields) ≡ is_lone_field fields
lone_field_keeps [] by = refl
lone_field_keeps (field ∷ []) by = refl
lone_field_keeps (field ∷ next ∷ fields) by = refl

lone_con_keeps : (cons : List ConDecl) (by : Renaming)
    → is_lone_con (map (λ c. renamed_con c by) cons) ≡ is_lone_con cons
lone_con_keeps [] by = refl
lone_con_keeps (con ∷ []) by = lone_field_keeps con.fields by
lone_con_keeps (con ∷ next ∷ cons) by = refl

word_keeps : (is_new : Bool) (cons : List ConDecl) (by : Renaming)
    → fits_word is_new (map (λ c. renamed_con c by) cons) ≡ fits_word is_new cons
word_keeps true cons by = lone_con_keeps cons by
word_keeps false cons by = refl

pub top_keeps : (d : Decl) (by : Renaming) → is_printable_top (renamed_decl d by) ≡ is_printable_top d
top_keeps (DataDecl occ is_new params cons) by = λ i. is_type_head occ params
    && (word_keeps is_new cons by i && cons_keep cons by i)
top_keeps (SynonymDecl occ params body) by = ap (λ v. is_type_head occ params && v) (written_keeps body by)
top_keeps (TypeSig occ ty) by = written_keeps ty by
top_keeps (FixityOf occ fixity) by = refl
top_keeps (Clause occ ps rhs) by = λ i. pat_list_keeps ps by i && rhs_keeps rhs by i
top_keeps (PatBind x rhs) by = λ i. pat_keeps x by i && rhs_keeps rhs by i
