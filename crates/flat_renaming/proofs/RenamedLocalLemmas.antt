-- A renamed declaration mentions the same locals.
use Rattle.std.proofs.Common.{◌≡◌, List, [], ◌∷◌, ◌++◌, map, refl, ap, ◌∙◌}
use Rattle.std.specs.List.{flat_map}
use Rattle.bp_base.specs.Texts.{Text}
use Rattle.bp_base.specs.declared.ty.OrigName.{OrigName}
use Rattle.bp_base.specs.declared.linking.Renaming.{Renaming}
use Rattle.hs_core.specs.declared.tree.Written.{Written}
use Rattle.hs_core.specs.declared.tree.Pat.{Pat}
use Rattle.hs_core.specs.declared.tree.Pat.TheVariants.{PVar, PWild, PInt, PChr, PStr, PCon, PCon', PTuple, PTuple'}
use Rattle.hs_core.specs.declared.tree.Pat.TheVariants.{PList, PList', PAs, PAs', PLazy, PLazy'}
use Rattle.hs_core.specs.declared.tree.Pat.TheBlock.{Row_of-Pat, end_of-Pat, more_of-Pat}
use Rattle.hs_core.specs.declared.tree.Pat.TheBlock.{hidden-the_row-Pat-0, hidden-the_row-Pat-1}
use Rattle.hs_core.specs.declared.tree.Decl.{Decl}
use Rattle.hs_core.specs.declared.tree.Decl.TheVariants.{DataDecl, SynonymDecl, TypeSig, FixityOf, Clause, PatBind}
use Rattle.hs_core.specs.declared.tree.Exp.{Exp}
use Rattle.hs_core.specs.declared.tree.Exp.TheVariants.{Local, Global, Int, Chr, Str, Apply, Apply', Lambda, Lambda'}
use Rattle.hs_core.specs.declared.tree.Exp.TheVariants.{Let, Let', If, If', Case, Case', Tuple, Tuple', List as ListOf}
use Rattle.hs_core.specs.declared.tree.Exp.TheVariants.{List' as ListOf', RightSection, RightSection', Annot, Annot'}
use Rattle.hs_core.specs.declared.tree.Rhs.{Rhs, Rhs'}
use Rattle.hs_core.specs.declared.tree.Choice.{Choice}
use Rattle.hs_core.specs.declared.tree.Guard.{Guard}
use Rattle.hs_core.specs.declared.tree.Guard.TheVariants.{Test, Bind}
use Rattle.hs_core.specs.declared.tree.Alt.{Alt, Alt'}
use Rattle.hs_core.specs.declared.tree.Decl.TheBlock.{Row_of-Choice, end_of-Choice, more_of-Choice, Row_of-Decl}
use Rattle.hs_core.specs.declared.tree.Decl.TheBlock.{end_of-Decl, more_of-Decl, Row_of-Guard, end_of-Guard}
use Rattle.hs_core.specs.declared.tree.Decl.TheBlock.{more_of-Guard, Row_of-Exp, end_of-Exp, more_of-Exp, Row_of-Alt}
use Rattle.hs_core.specs.declared.tree.Decl.TheBlock.{end_of-Alt, more_of-Alt}
use Rattle.hs_core.specs.declared.tree.Decl.TheBlock.{hidden-the_row-Exp-0, hidden-the_row-Exp-1, hidden-the_row-Decl-2}
use Rattle.hs_core.specs.declared.tree.Decl.TheBlock.{hidden-the_row-Alt-3, hidden-the_row-Guard-4}
use Rattle.hs_core.specs.declared.tree.Decl.TheBlock.{hidden-the_row-Choice-5}
use Rattle.hs_core.specs.declared.tree.Decl.TheViews.{roll-Rhs, roll-Alt}
use Rattle.hs_core.specs.Rename.{renamed_name, renamed_written, renamed_pat, renamed_pats}
use Rattle.hs_core.specs.Rename.{renamed_exp, renamed_exp_row, renamed_decl, renamed_decl_row, renamed_rhs}
use Rattle.hs_core.specs.Rename.{renamed_choice_row, renamed_guard, renamed_guard_row, renamed_alt, renamed_alt_row}
use denote.Hole.Carrier.{hidden, roll}
use Rattle.hs_core.specs.FreeNames.{pattern_names, patterns_names, bound_names, row_bound_names, without, mentioned}
use Rattle.hs_core.specs.FreeNames.{mentioned_in_all, mentioned_in_alternatives, mentioned_in_alternative}
use Rattle.hs_core.specs.FreeNames.{mentioned_in_right, mentioned_in_choices, mentioned_behind, mentioned_from}
use Rattle.hs_core.specs.FreeNames.{mentioned_in_decls, mentioned_in_decl}

-- ---- rows as lists

pats_listed : (l : List Pat) → patterns_names (hidden-the_row-Pat-0 l) ≡ flat_map pattern_names l
unfolding hidden-the_row-Pat-0 hidden
pats_listed [] = refl
pats_listed (x ∷ l) = ap (λ r. pattern_names x ++ r) (pats_listed l)

exps_listed : (l : List Exp) → mentioned_in_all (hidden-the_row-Exp-1 l) ≡ flat_map mentioned l
unfolding hidden-the_row-Exp-1 hidden
exps_listed [] = refl
exps_listed (x ∷ l) = ap (λ r. mentioned x ++ r) (exps_listed l)

decls_listed : (l : List Decl) → mentioned_in_decls (hidden-the_row-Decl-2 l) ≡ flat_map mentioned_in_decl l
unfolding hidden-the_row-Decl-2 hidden
decls_listed [] = refl
decls_listed (x ∷ l) = ap (λ r. mentioned_in_decl x ++ r) (decls_listed l)

bound_listed : (l : List Decl) → row_bound_names (hidden-the_row-Decl-2 l) ≡ flat_map bound_names l
unfolding hidden-the_row-Decl-2 hidden
bound_listed [] = refl
bound_listed (x ∷ l) = ap (λ r. bound_names x ++ r) (bound_listed l)

alts_listed : (l : List Alt) → mentioned_in_alternatives (hidden-the_row-Alt-3 l) ≡ flat_map mentioned_in_alternative l
unfolding hidden-the_row-Alt-3 hidden
alts_listed [] = refl
alts_listed (x ∷ l) = ap (λ r. mentioned_in_alternative x ++ r) (alts_listed l)

abbrev behind : List Guard → List Text → List Text
behind [] inner = inner
behind (g ∷ gs) inner = mentioned_from g (behind gs inner)

guards_listed : (l : List Guard) (inner : List Text)
    → mentioned_behind (hidden-the_row-Guard-4 l) inner ≡ behind l inner
unfolding hidden-the_row-Guard-4 hidden
guards_listed [] inner = refl
guards_listed (x ∷ l) inner = ap (mentioned_from x) (guards_listed l inner)

abbrev choices_of : List Choice → List Text
choices_of [] = []
choices_of (c ∷ cs) = behind c.guards (mentioned c.exp) ++ choices_of cs

choices_listed : (l : List Choice) → mentioned_in_choices (hidden-the_row-Choice-5 l) ≡ choices_of l
unfolding hidden-the_row-Choice-5 hidden
choices_listed [] = refl
choices_listed (c ∷ l) = λ i. guards_listed c.guards (mentioned c.exp) i ++ choices_listed l i

-- ---- each variant

of_PCon : (n : OrigName) (l : List Pat) → pattern_names (PCon n l) ≡ flat_map pattern_names l
of_PCon n l = pats_listed l

of_PTuple : (l : List Pat) → pattern_names (PTuple l) ≡ flat_map pattern_names l
of_PTuple l = pats_listed l

of_PList : (l : List Pat) → pattern_names (PList l) ≡ flat_map pattern_names l
of_PList l = pats_listed l

of_PAs : (n : Text) (x : Pat) → pattern_names (PAs n x) ≡ n ∷ pattern_names x
unfolding hidden-the_row-Pat-1 hidden
of_PAs n x = refl

of_PLazy : (x : Pat) → pattern_names (PLazy x) ≡ pattern_names x
unfolding hidden-the_row-Pat-1 hidden
of_PLazy x = refl

of_Apply : (x : Exp) (l : List Exp) → mentioned (Apply x l) ≡ mentioned x ++ flat_map mentioned l
unfolding hidden-the_row-Exp-0 hidden
of_Apply x l = ap (λ r. mentioned x ++ r) (exps_listed l)

of_Lambda : (l : List Pat) (x : Exp) → mentioned (Lambda l x) ≡ without (flat_map pattern_names l) (mentioned x)
unfolding hidden-the_row-Exp-0 hidden
of_Lambda l x = refl

of_Let : (l : List Decl) (x : Exp) → mentioned (Let l x)
    ≡ without (flat_map bound_names l) (flat_map mentioned_in_decl l ++ mentioned x)
unfolding hidden-the_row-Exp-0 hidden
of_Let l x = λ i. without (bound_listed l i) (decls_listed l i ++ mentioned x)

of_If : (a b c : Exp) → mentioned (If a b c) ≡ mentioned a ++ mentioned b ++ mentioned c
unfolding hidden-the_row-Exp-0 hidden
of_If a b c = refl

of_Case : (x : Exp) (l : List Alt) → mentioned (Case x l) ≡ mentioned x ++ flat_map mentioned_in_alternative l
unfolding hidden-the_row-Exp-0 hidden
of_Case x l = ap (λ r. mentioned x ++ r) (alts_listed l)

of_Tuple : (l : List Exp) → mentioned (Tuple l) ≡ flat_map mentioned l
of_Tuple l = exps_listed l

of_List : (l : List Exp) → mentioned (ListOf l) ≡ flat_map mentioned l
of_List l = exps_listed l

of_RightSection : (a b : Exp) → mentioned (RightSection a b) ≡ mentioned a ++ mentioned b
unfolding hidden-the_row-Exp-0 hidden
of_RightSection a b = refl

of_Annot : (x : Exp) (ty : Written) → mentioned (Annot x ty) ≡ mentioned x
unfolding hidden-the_row-Exp-0 hidden
of_Annot x ty = refl

of_Rhs : (cs : List Choice) (ds : List Decl) → mentioned_in_right (roll-Rhs (record { choices = cs; local = ds }))
    ≡ without (flat_map bound_names ds) (flat_map mentioned_in_decl ds ++ choices_of cs)
unfolding roll-Rhs roll
of_Rhs cs ds = λ i. without (bound_listed ds i) (decls_listed ds i ++ choices_listed cs i)

of_Alt : (pat : Pat) (rhs : Rhs) → mentioned_in_alternative (roll-Alt (record { pat = pat; rhs = rhs }))
    ≡ without (pattern_names pat) (mentioned_in_right rhs)
unfolding roll-Alt roll
of_Alt pat rhs = refl

-- ---- what is bound

mutual
  pat_keeps : (x : Pat) (by : Renaming) → pattern_names (renamed_pat x by) ≡ pattern_names x
  pat_keeps (PVar n) by = refl
  pat_keeps PWild by = refl
  pat_keeps (PInt negative value) by = refl
  pat_keeps (PChr code) by = refl
  pat_keeps (PStr text) by = refl
  pat_keeps (PCon' n s ps) by = of_PCon (renamed_name n by) (renamed_pats ps by) ∙ pats_keep ps by
  pat_keeps (PTuple' s ps) by = of_PTuple (renamed_pats ps by) ∙ pats_keep ps by
  pat_keeps (PList' s ps) by = of_PList (renamed_pats ps by) ∙ pats_keep ps by
  pat_keeps (PAs' n s (more_of-Pat x end_of-Pat)) by =
      of_PAs n (renamed_pat x by) ∙ ap (λ r. n ∷ r) (pat_keeps x by)
  pat_keeps (PLazy' s (more_of-Pat x end_of-Pat)) by = of_PLazy (renamed_pat x by) ∙ pat_keeps x by

  pats_keep : {m : _} (ps : Row_of-Pat m) (by : Renaming)
      → flat_map pattern_names (renamed_pats ps by) ≡ patterns_names ps
  pats_keep end_of-Pat by = refl
  pats_keep (more_of-Pat x ps) by = λ i. pat_keeps x by i ++ pats_keep ps by i

pat_list_keeps : (ps : List Pat)
    (by : Renaming)
    → flat_map pattern_names (map (λ x. renamed_pat x by) ps) ≡ flat_map pattern_names ps
pat_list_keeps [] by = refl
pat_list_keeps (x ∷ ps) by = λ i. pat_keeps x by i ++ pat_list_keeps ps by i

bound_keeps : (d : Decl) (by : Renaming) → bound_names (renamed_decl d by) ≡ bound_names d
bound_keeps (DataDecl occ is_new params cons) by = refl
bound_keeps (SynonymDecl occ params body) by = refl
bound_keeps (TypeSig occ ty) by = refl
bound_keeps (FixityOf occ fixity) by = refl
bound_keeps (Clause occ ps rhs) by = refl
bound_keeps (PatBind x rhs) by = pat_keeps x by

bounds_keep : {m : _} (ds : Row_of-Decl m) (by : Renaming)
    → flat_map bound_names (renamed_decl_row ds by) ≡ row_bound_names ds
bounds_keep end_of-Decl by = refl
bounds_keep (more_of-Decl d ds) by = λ i. bound_keeps d by i ++ bounds_keep ds by i

-- ---- what is mentioned

mutual
  exp_keeps : (x : Exp) (by : Renaming) → mentioned (renamed_exp x by) ≡ mentioned x
  exp_keeps (Local n) by = refl
  exp_keeps (Global n) by = refl
  exp_keeps (Int value) by = refl
  exp_keeps (Chr code) by = refl
  exp_keeps (Str text) by = refl
  exp_keeps (Apply' s (more_of-Exp x end_of-Exp) z es) by =
      of_Apply (renamed_exp x by) (renamed_exp_row es by) ∙ (λ i. exp_keeps x by i ++ exps_keep es by i)
  exp_keeps (Lambda' ps s (more_of-Exp x end_of-Exp)) by =
      of_Lambda (map (λ q. renamed_pat q by) ps) (renamed_exp x by)
      ∙ (λ i. without (pat_list_keeps ps by i) (exp_keeps x by i))
  exp_keeps (Let' s ds z (more_of-Exp x end_of-Exp)) by =
      of_Let (renamed_decl_row ds by) (renamed_exp x by)
      ∙ (λ i. without (bounds_keep ds by i) (decls_keep ds by i ++ exp_keeps x by i))
  exp_keeps (If' s (more_of-Exp a end_of-Exp) y (more_of-Exp b end_of-Exp) z (more_of-Exp c end_of-Exp)) by =
      of_If (renamed_exp a by) (renamed_exp b by) (renamed_exp c by)
      ∙ (λ i. exp_keeps a by i ++ exp_keeps b by i ++ exp_keeps c by i)
  exp_keeps (Case' s (more_of-Exp x end_of-Exp) z as') by =
      of_Case (renamed_exp x by) (renamed_alt_row as' by) ∙ (λ i. exp_keeps x by i ++ alts_keep as' by i)
  exp_keeps (Tuple' s es) by = of_Tuple (renamed_exp_row es by) ∙ exps_keep es by
  exp_keeps (ListOf' s es) by = of_List (renamed_exp_row es by) ∙ exps_keep es by
  exp_keeps (RightSection' s (more_of-Exp a end_of-Exp) z (more_of-Exp b end_of-Exp)) by =
      of_RightSection (renamed_exp a by) (renamed_exp b by) ∙ (λ i. exp_keeps a by i ++ exp_keeps b by i)
  exp_keeps (Annot' s (more_of-Exp x end_of-Exp) ty) by =
      of_Annot (renamed_exp x by) (renamed_written ty by) ∙ exp_keeps x by

  exps_keep : {m : _} (es : Row_of-Exp m) (by : Renaming)
      → flat_map mentioned (renamed_exp_row es by) ≡ mentioned_in_all es
  exps_keep end_of-Exp by = refl
  exps_keep (more_of-Exp x es) by = λ i. exp_keeps x by i ++ exps_keep es by i

  pub decl_keeps : (d : Decl) (by : Renaming) → mentioned_in_decl (renamed_decl d by) ≡ mentioned_in_decl d
  decl_keeps (DataDecl occ is_new params cons) by = refl
  decl_keeps (SynonymDecl occ params body) by = refl
  decl_keeps (TypeSig occ ty) by = refl
  decl_keeps (FixityOf occ fixity) by = refl
  decl_keeps (Clause occ ps rhs) by = λ i. without (pat_list_keeps ps by i) (rhs_keeps rhs by i)
  decl_keeps (PatBind x rhs) by = rhs_keeps rhs by

  decls_keep : {m : _}
      (ds : Row_of-Decl m) (by : Renaming)
      → flat_map mentioned_in_decl (renamed_decl_row ds by) ≡ mentioned_in_decls ds
  decls_keep end_of-Decl by = refl
  decls_keep (more_of-Decl d ds) by = λ i. decl_keeps d by i ++ decls_keep ds by i

  rhs_keeps : (rhs : Rhs) (by : Renaming) → mentioned_in_right (renamed_rhs rhs by) ≡ mentioned_in_right rhs
  rhs_keeps (Rhs' s cs z ds) by =
      of_Rhs (renamed_choice_row cs by) (renamed_decl_row ds by)
      ∙ (λ i. without (bounds_keep ds by i) (decls_keep ds by i ++ choices_keep cs by i))

  choices_keep : {m : _} (cs : Row_of-Choice m) (by : Renaming)
      → choices_of (renamed_choice_row cs by) ≡ mentioned_in_choices cs
  choices_keep end_of-Choice by = refl
  choices_keep (more_of-Choice s gs x cs) by = λ i. guards_keep gs by (renamed_exp x by) x (exp_keeps x by) i
      ++ choices_keep cs by i

  guards_keep : {m : _} (gs : Row_of-Guard m) (by : Renaming) (x y : Exp) → mentioned x ≡ mentioned y
      → behind (renamed_guard_row gs by) (mentioned x) ≡ mentioned_behind gs (mentioned y)
  guards_keep end_of-Guard by x y e = e
  guards_keep (more_of-Guard g gs) by x y e =
      guard_keeps g by (behind (renamed_guard_row gs by) (mentioned x))
      ∙ ap (mentioned_from g) (guards_keep gs by x y e)

  guard_keeps : (g : Guard) (by : Renaming) (inner : List Text)
      → mentioned_from (renamed_guard g by) inner ≡ mentioned_from g inner
  guard_keeps (Test x) by inner = ap (λ r. r ++ inner) (exp_keeps x by)
  guard_keeps (Bind q x) by inner = λ i. exp_keeps x by i ++ without (pat_keeps q by i) inner

  alt_keeps : (a : Alt) (by : Renaming) → mentioned_in_alternative (renamed_alt a by) ≡ mentioned_in_alternative a
  alt_keeps (Alt' q rhs) by =
      of_Alt (renamed_pat q by) (renamed_rhs rhs by) ∙ (λ i. without (pat_keeps q by i) (rhs_keeps rhs by i))

  alts_keep : {m : _} (as' : Row_of-Alt m) (by : Renaming)
      → flat_map mentioned_in_alternative (renamed_alt_row as' by) ≡ mentioned_in_alternatives as'
  alts_keep end_of-Alt by = refl
  alts_keep (more_of-Alt a as') by = λ i. alt_keeps a by i ++ alts_keep as' by i
