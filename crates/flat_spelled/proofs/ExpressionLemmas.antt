-- The expressions and declarations that marks of printable ones spell, by one recursion over them.
use Rattle.std.proofs.Common.{◌≡◌, true, List, [], ◌∷◌, ◌++◌, length, map, refl}
use Rattle.std.specs.Prelude.{◌&&◌, nat_le}
use Rattle.std.proofs.lemmas.Bool.{and_from, and_parts}
use Rattle.std.specs.Fmt.{decimal}
use Rattle.flat_lex.specs.Literals.{char_bytes, string_bytes}
use Rattle.hs_forms.specs.Limits.{all_of}
use Rattle.hs_trees.specs.declared.patterns.LiteralTree.TheVariants as l
use Rattle.hs_modules.specs.Formed.{all_good, facts_of_alt, facts_of_decl}
use Rattle.hs_core.specs.declared.tree.Pat.{Pat}
use Rattle.hs_core.specs.declared.tree.Decl.{Decl}
use Rattle.hs_core.specs.declared.tree.Decl.TheVariants.{DataDecl, SynonymDecl, TypeSig, FixityOf, Clause, PatBind}
use Rattle.hs_core.specs.declared.tree.Exp.{Exp}
use Rattle.hs_core.specs.declared.tree.Exp.TheVariants.{Local, Global, Int, Chr, Str, Apply', Lambda', Let', If', Case'}
use Rattle.hs_core.specs.declared.tree.Exp.TheVariants.{Tuple', List' as ListOf', RightSection', Annot'}
use Rattle.hs_core.specs.declared.tree.Rhs.{Rhs, Rhs'}
use Rattle.hs_core.specs.declared.tree.Guard.{Guard}
use Rattle.hs_core.specs.declared.tree.Guard.TheVariants.{Test, Bind}
use Rattle.hs_core.specs.declared.tree.Alt.{Alt, Alt'}
use Rattle.hs_core.specs.declared.tree.Decl.TheBlock.{Row_of-Choice, end_of-Choice, more_of-Choice, Row_of-Decl}
use Rattle.hs_core.specs.declared.tree.Decl.TheBlock.{end_of-Decl, more_of-Decl, Row_of-Guard, end_of-Guard}
use Rattle.hs_core.specs.declared.tree.Decl.TheBlock.{more_of-Guard, Row_of-Exp, end_of-Exp, more_of-Exp, Row_of-Alt}
use Rattle.hs_core.specs.declared.tree.Decl.TheBlock.{end_of-Alt, more_of-Alt}
use Rattle.flat_text.specs.declared.expression.Sign.{Sign}
use Rattle.flat_text.specs.declared.expression.Sign.TheVariants as n
use Rattle.flat_text.specs.declared.name.Place.TheVariants as p
use Rattle.flat_text.specs.Marks.{Marks}
use Rattle.flat_text.specs.Names.{bare_marks, global_marks}
use Rattle.flat_text.specs.TypeMarks.{type_marks}
use Rattle.flat_text.specs.PatternMarks.{pat_marks}
use Rattle.flat_text.specs.ExpressionMarks.{exp_marks, exps_marks, decl_marks, decls_marks, rhs_marks, choices_marks}
use Rattle.flat_text.specs.ExpressionMarks.{guard_marks, guards_marks, alt_marks, alts_marks, op_marks}
use Rattle.flat_text.specs.ExpressionMarks.{apply_marks, lambda_marks, let_marks, if_marks, case_marks, annot_marks}
use Rattle.flat_text.specs.ExpressionMarks.{section_marks}
use Rattle.flat_spelled.specs.Printable.{is_some, is_shape, guard_flags, is_printable_type}
use Rattle.flat_spelled.specs.Printable.{is_printable_pat, is_printable_op, is_printable_exp, are_printable_exps}
use Rattle.flat_spelled.specs.Printable.{is_printable_decl, are_printable_decls, is_printable_rhs}
use Rattle.flat_spelled.specs.Printable.{are_printable_choices, is_printable_guard, are_printable_guards}
use Rattle.flat_spelled.specs.Printable.{is_printable_alt, are_printable_alts}
use Rattle.flat_spelled.specs.Spelled.{ExpressionsAreSpelled, DeclarationsAreSpelled}
use Rattle.flat_spelled.proofs.TypeLemmas.{types_spelled}
use Rattle.flat_spelled.proofs.PatternLemmas.{APatsOf, no_pats, more_pats, pat_spells}
use Rattle.flat_spelled.proofs.ExpressionFormLemmas.{Both, Row, DeclsOf, AltsOf, OpOf, no_row, more_row, atomic}
use Rattle.flat_spelled.proofs.ExpressionFormLemmas.{compound, literal_atom, bare_atom, global_atom, local_op}
use Rattle.flat_spelled.proofs.ExpressionFormLemmas.{module_op}
use Rattle.flat_spelled.proofs.ExpressionFormLemmas.{section_atom, tuple_atom, list_atom, apply_exp, lambda_exp, if_exp}
use Rattle.flat_spelled.proofs.ExpressionFormLemmas.{let_exp, case_exp, annot_exp}
use Rattle.flat_spelled.proofs.SideFormLemmas.{GuardOf, GuardsOf, test_guard, bind_guard, no_guards, more_guards}
use Rattle.flat_spelled.proofs.SideFormLemmas.{ChoiceOf, GdsOf, GdasOf, no_gds, more_gds, no_gdas, more_gdas, BodyOf}
use Rattle.flat_spelled.proofs.SideFormLemmas.{AltBodyOf, rhs_body, alt_body, RhsOf, AltOf, rhs_side, alternative}
use Rattle.flat_spelled.proofs.SideFormLemmas.{DeclOf, signature, fixity, pattern_decl, clause_decl}

-- the patterns of a lambda or a clause
list_pats : (ps : List Pat) → all_of (map is_printable_pat ps) ≡ true → APatsOf (map pat_marks ps)
list_pats [] e = no_pats
list_pats (pat ∷ ps) e =
    let h = and_parts (is_printable_pat pat) (all_of (map is_printable_pat ps)) e in
    more_pats (pat_marks pat) (map pat_marks ps) (pat_spells pat h.0) (list_pats ps h.1)

some_marks : (ps : List Pat) → is_some ps ≡ true → is_some (map pat_marks ps) ≡ true
some_marks [] e = cc
some_marks (pat ∷ ps) e = refl

op_spells : (o : Exp) → is_printable_op o ≡ true → OpOf (op_marks o)
op_spells (Local name) e = local_op name e
op_spells (Global name) e = module_op name e
op_spells (Int value) e = cc
op_spells (Chr code) e = cc
op_spells (Str text) e = cc
op_spells (Apply' s g z es) e = cc
op_spells (Lambda' ps s g) e = cc
op_spells (Let' s ds z g) e = cc
op_spells (If' s a y b z c) e = cc
op_spells (Case' s g z as') e = cc
op_spells (Tuple' s es) e = cc
op_spells (ListOf' s es) e = cc
op_spells (RightSection' s o z a) e = cc
op_spells (Annot' s g ty) e = cc

-- ---- the choices of a right side

abbrev ChoicesOf : {m : _} → Row_of-Choice m → Type 0
ChoicesOf end_of-Choice = Unit {0}
ChoicesOf (more_of-Choice s gs e cs) = ChoiceOf (guards_marks gs) (exp_marks e p.Whole) × ChoicesOf cs

gds : {m : _} (cs : Row_of-Choice m) → all_of (guard_flags cs) ≡ true → ChoicesOf cs → GdsOf (choices_marks n.Equals cs)
gds end_of-Choice e it = no_gds
gds (more_of-Choice s gs x cs) e it =
    let both = and_parts (is_some (guards_marks gs)) (all_of (guard_flags cs)) e in
    more_gds (guards_marks gs) (exp_marks x p.Whole) (choices_marks n.Equals cs) both.0 it.0 (gds cs both.1 it.1)

gdas : {m : _} (cs : Row_of-Choice m) → all_of (guard_flags cs) ≡ true → ChoicesOf cs
    → GdasOf (choices_marks n.Arrow cs)
gdas end_of-Choice e it = no_gdas
gdas (more_of-Choice s gs x cs) e it =
    let both = and_parts (is_some (guards_marks gs)) (all_of (guard_flags cs)) e in
    more_gdas (guards_marks gs) (exp_marks x p.Whole) (choices_marks n.Arrow cs) both.0 it.0 (gdas cs both.1 it.1)

none_left : {m : _} (sign : Sign) (cs : Row_of-Choice m) → guard_flags cs ≡ [] → choices_marks sign cs ≡ []
none_left sign end_of-Choice e = refl
none_left sign (more_of-Choice s gs x cs) e = cc

equals_body : {m : _} (cs : Row_of-Choice m) → is_shape (guard_flags cs) ≡ true → ChoicesOf cs
    → BodyOf (choices_marks n.Equals cs)
equals_body end_of-Choice e it = cc
equals_body (more_of-Choice s gs x cs) e it =
    rhs_body (guards_marks gs) (exp_marks x p.Whole) (choices_marks n.Equals cs) (guard_flags cs) e it.0
    (none_left n.Equals cs) (λ h. gds cs h it.1)

arrow_body : {m : _} (cs : Row_of-Choice m) → is_shape (guard_flags cs) ≡ true → ChoicesOf cs
    → AltBodyOf (choices_marks n.Arrow cs)
arrow_body end_of-Choice e it = cc
arrow_body (more_of-Choice s gs x cs) e it =
    alt_body (guards_marks gs) (exp_marks x p.Whole) (choices_marks n.Arrow cs) (guard_flags cs) e it.0
    (none_left n.Arrow cs) (λ h. gdas cs h it.1)

-- ---- rows of declarations and alternatives

no_decls : DeclsOf []
no_decls = record { trees = []; spelled = refl; good = refl }

more_decls : (ms : Marks) (parts : List Marks) → DeclOf ms → DeclsOf parts → DeclsOf (ms ∷ parts)
more_decls ms parts it rest = record {
  trees = it.tree ∷ rest.trees;
  spelled = λ i. it.spelled i ∷ rest.spelled i;
  good = and_from (facts_of_decl it.tree).good (all_good (map facts_of_decl rest.trees)) it.good rest.good;
}

no_alts : AltsOf []
no_alts = record { trees = []; spelled = refl; good = refl }

more_alts : (ms : Marks) (parts : List Marks) → AltOf ms → AltsOf parts → AltsOf (ms ∷ parts)
more_alts ms parts it rest = record {
  trees = it.tree ∷ rest.trees;
  spelled = λ i. it.spelled i ∷ rest.spelled i;
  good = and_from (facts_of_alt it.tree).good (all_good (map facts_of_alt rest.trees)) it.good rest.good;
}

mutual
  pub exp_spells : (x : Exp) → is_printable_exp x ≡ true → Both (exp_marks x p.Atom) (exp_marks x p.Whole)
  exp_spells (Local name) e = atomic (bare_marks name) (bare_atom name)
  exp_spells (Global name) e = atomic (global_marks name) (global_atom name e)
  exp_spells (Int value) e = atomic _ (literal_atom (l.Integer (decimal value)))
  exp_spells (Chr code) e = atomic _ (literal_atom (l.Char (39 ∷ (char_bytes 39 code ++ 39 ∷ []))))
  exp_spells (Str text) e = atomic _ (literal_atom (l.Text (34 ∷ (string_bytes text ++ 34 ∷ []))))
  exp_spells (Apply' s (more_of-Exp x end_of-Exp) z es) e =
      let h = and_parts (is_printable_exp x) (are_printable_exps es) e in
      compound (apply_marks (exp_marks x p.Atom) (exps_marks es p.Atom))
      (apply_exp (exp_marks x p.Atom) (exps_marks es p.Atom) (exp_spells x h.0).atom (exps_spell es h.1).atoms)
  exp_spells (Lambda' ps s (more_of-Exp x end_of-Exp)) e =
      let h = and_parts (is_some ps) (all_of (map is_printable_pat ps) && is_printable_exp x) e in
      let k = and_parts (all_of (map is_printable_pat ps)) (is_printable_exp x) h.1 in
      compound (lambda_marks (map pat_marks ps) (exp_marks x p.Whole))
      (lambda_exp (map pat_marks ps) (exp_marks x p.Whole) (some_marks ps h.0) (list_pats ps k.0)
      (exp_spells x k.1).whole)
  exp_spells (Let' s ds z (more_of-Exp x end_of-Exp)) e =
      let h = and_parts (are_printable_decls ds) (is_printable_exp x) e in
      compound (let_marks (decls_marks ds) (exp_marks x p.Whole))
      (let_exp (decls_marks ds) (exp_marks x p.Whole) (decls_spell ds h.0) (exp_spells x h.1).whole)
  exp_spells (If' s (more_of-Exp a end_of-Exp) y (more_of-Exp b end_of-Exp) z (more_of-Exp c end_of-Exp)) e =
      let h = and_parts (is_printable_exp a) (is_printable_exp b && is_printable_exp c) e in
      let k = and_parts (is_printable_exp b) (is_printable_exp c) h.1 in
      compound (if_marks (exp_marks a p.Whole) (exp_marks b p.Whole) (exp_marks c p.Whole))
      (if_exp (exp_marks a p.Whole) (exp_marks b p.Whole) (exp_marks c p.Whole) (exp_spells a h.0).whole
      (exp_spells b k.0).whole (exp_spells c k.1).whole)
  exp_spells (Case' s (more_of-Exp x end_of-Exp) z as') e =
      let h = and_parts (is_printable_exp x) (are_printable_alts as') e in
      compound (case_marks (exp_marks x p.Whole) (alts_marks as'))
      (case_exp (exp_marks x p.Whole) (alts_marks as') (exp_spells x h.0).whole (alts_spell as' h.1))
  exp_spells (Tuple' s es) e =
      let h = and_parts (nat_le (length (exps_marks es p.Whole)) 15) (are_printable_exps es) e in
      atomic _ (tuple_atom (exps_marks es p.Whole) h.0 (exps_spell es h.1).wholes)
  exp_spells (ListOf' s es) e = atomic _ (list_atom (exps_marks es p.Whole) (exps_spell es e).wholes)
  exp_spells (RightSection' s (more_of-Exp o end_of-Exp) z (more_of-Exp a end_of-Exp)) e =
      let h = and_parts (is_printable_op o) (is_printable_exp a) e in
      atomic (section_marks (op_marks o) (exp_marks a p.Atom))
      (section_atom (op_marks o) (exp_marks a p.Atom) (op_spells o h.0) (exp_spells a h.1).atom)
  exp_spells (Annot' s (more_of-Exp x end_of-Exp) ty) e =
      let h = and_parts (is_printable_exp x) (is_printable_type ty) e in
      let it = types_spelled ty h.1 in
      compound (annot_marks (exp_marks x p.Atom) (type_marks ty p.Whole))
      (annot_exp (exp_marks x p.Atom) (type_marks ty p.Whole) it.0 (exp_spells x h.0).atom it.1.0 it.1.1.0)

  pub exps_spell : {m : _} (es : Row_of-Exp m) → are_printable_exps es ≡ true
      → Row (exps_marks es p.Atom) (exps_marks es p.Whole)
  exps_spell end_of-Exp e = no_row
  exps_spell (more_of-Exp x es) e =
      let h = and_parts (is_printable_exp x) (are_printable_exps es) e in
      more_row (exp_marks x p.Atom) (exp_marks x p.Whole) (exps_marks es p.Atom) (exps_marks es p.Whole)
      (exp_spells x h.0) (exps_spell es h.1)

  pub decl_spells : (d : Decl) → is_printable_decl d ≡ true → DeclOf (decl_marks d)
  decl_spells (TypeSig occ ty) e =
      let it = types_spelled ty e in signature occ (type_marks ty p.Whole) it.0 it.1.0 it.1.1.0
  decl_spells (FixityOf occ it) e = fixity occ it e
  decl_spells (Clause occ ps rhs) e =
      let h = and_parts (all_of (map is_printable_pat ps)) (is_printable_rhs rhs) e in
      clause_decl occ (map pat_marks ps) (rhs_marks n.Equals rhs) (list_pats ps h.0) (rhs_spells rhs h.1)
  decl_spells (PatBind pat rhs) e =
      let h = and_parts (is_printable_pat pat) (is_printable_rhs rhs) e in
      pattern_decl (pat_marks pat) (rhs_marks n.Equals rhs) (pat_spells pat h.0) (rhs_spells rhs h.1)
  decl_spells (DataDecl occ is_new params cons) e = cc
  decl_spells (SynonymDecl occ params body) e = cc

  pub decls_spell : {m : _} (ds : Row_of-Decl m) → are_printable_decls ds ≡ true → DeclsOf (decls_marks ds)
  decls_spell end_of-Decl e = no_decls
  decls_spell (more_of-Decl d ds) e =
      let h = and_parts (is_printable_decl d) (are_printable_decls ds) e in
      more_decls (decl_marks d) (decls_marks ds) (decl_spells d h.0) (decls_spell ds h.1)

  rhs_spells : (rhs : Rhs) → is_printable_rhs rhs ≡ true → RhsOf (rhs_marks n.Equals rhs)
  rhs_spells (Rhs' s cs z ds) e =
      let h = and_parts (is_shape (guard_flags cs)) (are_printable_choices cs && are_printable_decls ds) e in
      let k = and_parts (are_printable_choices cs) (are_printable_decls ds) h.1 in
      rhs_side (choices_marks n.Equals cs) (decls_marks ds) (equals_body cs h.0 (choices_spell cs k.0))
      (decls_spell ds k.1)

  choices_spell : {m : _} (cs : Row_of-Choice m) → are_printable_choices cs ≡ true → ChoicesOf cs
  choices_spell end_of-Choice e = tt
  choices_spell (more_of-Choice s gs x cs) e =
      let h = and_parts (are_printable_guards gs) (is_printable_exp x && are_printable_choices cs) e in
      let k = and_parts (is_printable_exp x) (are_printable_choices cs) h.1 in
      (record { guards = guards_spell gs h.0; exp = (exp_spells x k.0).whole }, choices_spell cs k.1)

  guard_spells : (g : Guard) → is_printable_guard g ≡ true → GuardOf (guard_marks g)
  guard_spells (Test x) e = test_guard (exp_marks x p.Atom) (exp_spells x e).atom
  guard_spells (Bind pat x) e =
      let h = and_parts (is_printable_pat pat) (is_printable_exp x) e in
      bind_guard (pat_marks pat) (exp_marks x p.Atom) (pat_spells pat h.0) (exp_spells x h.1).atom

  guards_spell : {m : _} (gs : Row_of-Guard m) → are_printable_guards gs ≡ true → GuardsOf (guards_marks gs)
  guards_spell end_of-Guard e = no_guards
  guards_spell (more_of-Guard g gs) e =
      let h = and_parts (is_printable_guard g) (are_printable_guards gs) e in
      more_guards (guard_marks g) (guards_marks gs) (guard_spells g h.0) (guards_spell gs h.1)

  alt_spells : (a : Alt) → is_printable_alt a ≡ true → AltOf (alt_marks a)
  alt_spells (Alt' pat (Rhs' s cs z ds)) e =
      let g = and_parts (is_printable_pat pat) (is_printable_rhs (Rhs' s cs z ds)) e in
      let h = and_parts (is_shape (guard_flags cs)) (are_printable_choices cs && are_printable_decls ds) g.1 in
      let k = and_parts (are_printable_choices cs) (are_printable_decls ds) h.1 in
      alternative (pat_marks pat) (choices_marks n.Arrow cs) (decls_marks ds) (pat_spells pat g.0)
      (arrow_body cs h.0 (choices_spell cs k.0)) (decls_spell ds k.1)

  alts_spell : {m : _} (as' : Row_of-Alt m) → are_printable_alts as' ≡ true → AltsOf (alts_marks as')
  alts_spell end_of-Alt e = no_alts
  alts_spell (more_of-Alt a as') e =
      let h = and_parts (is_printable_alt a) (are_printable_alts as') e in
      more_alts (alt_marks a) (alts_marks as') (alt_spells a h.0) (alts_spell as' h.1)

pub expressions_spelled : ExpressionsAreSpelled
expressions_spelled x e = let it = (exp_spells x e).whole in (it.tree, it.spelled, it.good)

pub declarations_spelled : DeclarationsAreSpelled
declarations_spelled d e = let it = decl_spells d e in (it.tree, it.spelled, it.good)
