-- The declaration of a module that a printable declaration's marks spell.
use Rattle.std.proofs.Common.{◌≡◌, ℕ, Bool, true, false, List, [], ◌∷◌, ◌++◌, map, refl, ap, ◌∙◌}
use Rattle.std.specs.Prelude.{not, ◌&&◌, codes}
use Rattle.std.specs.List.{flat_map}
use Rattle.std.proofs.lemmas.Bool.{and_from, and_parts}
use Rattle.std.proofs.lemmas.List.{append-nil}
use Rattle.hs_forms.specs.Limits.{all_of}
use Rattle.hs_tokens.specs.declared.terminal.Terminal.TheVariants as t
use Rattle.hs_tokens.specs.declared.word.Word.TheVariants as w
use Rattle.hs_trees.specs.Types.{spelling_type, is_type}
use Rattle.hs_trees.specs.declared.types.TypeTree.{TypeTree}
use Rattle.hs_modules.specs.declared.declarations.Field.{Field}
use Rattle.hs_modules.specs.declared.declarations.ConstrTree.{ConstrTree}
use Rattle.hs_modules.specs.declared.declarations.ConstrTree.TheVariants as c
use Rattle.hs_modules.specs.declared.declarations.TopDeclTree.{TopDeclTree}
use Rattle.hs_modules.specs.declared.declarations.TopDeclTree.TheVariants as v
use Rattle.hs_modules.specs.Words.{has_dot, is_con}
use Rattle.hs_modules.specs.ModuleTokens.{field_tokens, constr_tokens, head_tokens, top_decl_tokens}
use Rattle.hs_modules.specs.ModuleForms.{is_field, is_constr, is_top_decl}
use Rattle.hs_core.specs.declared.tree.Written.{Written}
use Rattle.hs_core.specs.declared.tree.ConDecl.{ConDecl}
use Rattle.hs_core.specs.declared.tree.FieldDecl.{FieldDecl}
use Rattle.hs_core.specs.declared.tree.Decl.{Decl}
use Rattle.hs_core.specs.declared.tree.Decl.TheVariants.{DataDecl, SynonymDecl, TypeSig, FixityOf, Clause, PatBind}
use Rattle.flat_text.specs.declared.name.NameForm.{NameForm}
use Rattle.flat_text.specs.declared.name.NameForm.TheVariants as f
use Rattle.flat_text.specs.declared.name.Place.TheVariants as p
use Rattle.flat_text.specs.Marks.{Marks, seen, led, spaced}
use Rattle.flat_text.specs.Names.{form_of, bare_by, bare_marks, con_by, con_marks}
use Rattle.flat_text.specs.TypeMarks.{type_marks}
use Rattle.flat_text.specs.ExpressionMarks.{signed, field_marks, con_decl_marks, data_marks, synonym_marks, decl_marks}
use Rattle.flat_spelled.specs.Printable.{is_printable_type, is_printable_decl}
use Rattle.flat_spelled.proofs.SeenLemmas.{Ts, seen_both, seen_spaced}
use Rattle.flat_spelled.proofs.TypeLemmas.{types_spelled, type_at}
use Rattle.flat_spelled.proofs.ExpressionLemmas.{decl_spells}
use Rattle.flat_whole.specs.PrintableModule.{is_word, is_own_con, is_param, is_type_head, is_printable_field}
use Rattle.flat_whole.specs.PrintableModule.{is_printable_con, is_lone_field, is_lone_con, fits_word, is_printable_top}
use Rattle.flat_whole.proofs.ExportLemmas.{own_con}

-- ---- a type's name and its variables

name_by : (form : NameForm) (name : List ℕ) → is_word form ≡ true → seen (con_by form name) ≡ t.Con name ∷ []
name_by f.VarSym name e = cc
name_by f.ConSym name e = cc
name_by f.Var name e = refl
name_by f.Con name e = refl
name_by f.Colon name e = refl
name_by f.Arrow name e = refl
name_by f.List name e = refl
name_by f.Tuple name e = refl

type_name : (name : List ℕ) → is_word (form_of name) ≡ true → seen (con_marks name) ≡ t.Con name ∷ []
unfolding con_marks
type_name name e = name_by (form_of name) name e

param_by : (form : NameForm) (name : List ℕ) → is_word form ≡ true → seen (bare_by form name) ≡ t.Var name ∷ []
param_by f.VarSym name e = cc
param_by f.ConSym name e = cc
param_by f.Var name e = refl
param_by f.Con name e = refl
param_by f.Colon name e = refl
param_by f.Arrow name e = refl
param_by f.List name e = refl
param_by f.Tuple name e = refl

param : (name : List ℕ) → is_param name ≡ true → seen (bare_marks name) ≡ t.Var name ∷ []
unfolding bare_marks
param name e = param_by (form_of name) name e

params_are : (names : List (List ℕ)) → all_of (map is_param names) ≡ true
    → seen (spaced (map bare_marks names)) ≡ map (λ name. t.Var name) names
params_are [] e = refl
params_are (name ∷ names) e =
    let both = and_parts (is_param name) (all_of (map is_param names)) e in
    seen_both (bare_marks name) (spaced (map bare_marks names))
    ∙ (λ i. param name both.0 i ++ params_are names both.1 i)

record HeadOf (occ : List ℕ) (params : List (List ℕ)) (rest : Marks) : Type 0 where
  spelled : seen (con_marks occ ++ (spaced (map bare_marks params) ++ rest)) ≡ head_tokens occ params ++ seen rest
  good : not (has_dot occ) ≡ true

head_of : (occ : List ℕ) (params : List (List ℕ)) (rest : Marks) → is_type_head occ params ≡ true
    → HeadOf occ params rest
head_of occ params rest e =
    let h = and_parts (is_word (form_of occ)) (not (has_dot occ) && all_of (map is_param params)) e in
    let k = and_parts (not (has_dot occ)) (all_of (map is_param params)) h.1 in
    record {
      spelled = seen_both (con_marks occ) (spaced (map bare_marks params) ++ rest)
          ∙ (λ i. type_name occ h.0 i ++ (seen_both (spaced (map bare_marks params)) rest
          ∙ ap (λ (z : Ts). z ++ seen rest) (params_are params k.1)) i);
      good = k.0;
    }

-- ---- constructors and their fields

flat_of_map : {X Y : Type 0} (g : Y → Ts) (h : X → Y) (xs : List X) → flat_map g (map h xs)
    ≡ flat_map (λ (it : X). g (h it)) xs
flat_of_map g h [] = refl
flat_of_map g h (it ∷ xs) = ap (λ r. g (h it) ++ r) (flat_of_map g h xs)

record FieldOf (ms : Marks) : Type 0 where
  tree : Field
  spelled : seen ms ≡ field_tokens tree
  good : is_field tree ≡ true

field_by : (strict : Bool) (ty : Written) → is_printable_type ty ≡ true
    → FieldOf (field_marks (record { strict = strict; ty = ty }))
field_by true ty e =
    let it = (type_at ty e).atom in
    record {
      tree = record { strict = true; atype = it.tree };
      spelled = ap (λ (z : Ts). t.VarSym (codes "!") ∷ z) it.spelled;
      good = it.good;
    }
field_by false ty e =
    let it = (type_at ty e).atom in
    record { tree = record { strict = false; atype = it.tree }; spelled = it.spelled; good = it.good }

record FieldsOf (parts : List Marks) : Type 0 where
  trees : List Field
  spelled : map seen parts ≡ map field_tokens trees
  good : all_of (map is_field trees) ≡ true

fields_spell : (fields : List FieldDecl) → all_of (map is_printable_field fields) ≡ true
    → FieldsOf (map field_marks fields)
fields_spell [] e = record { trees = []; spelled = refl; good = refl }
fields_spell (field ∷ fields) e =
    let both = and_parts (is_printable_field field) (all_of (map is_printable_field fields)) e in
    let one = field_by field.strict field.ty both.0 in
    let rest = fields_spell fields both.1 in
    record {
      trees = one.tree ∷ rest.trees;
      spelled = λ i. one.spelled i ∷ rest.spelled i;
      good = and_from (is_field one.tree) (all_of (map is_field rest.trees)) one.good rest.good;
    }

record ConstrOf (ms : Marks) : Type 0 where
  tree : ConstrTree
  spelled : seen ms ≡ constr_tokens tree
  good : is_constr tree ≡ true

constr_spells : (con : ConDecl) → is_printable_con con ≡ true → ConstrOf (con_decl_marks con)
constr_spells con e =
    let both = and_parts (is_own_con con.occ) (all_of (map is_printable_field con.fields)) e in
    let name = own_con con.occ both.0 in
    let all = fields_spell con.fields both.1 in
    record {
      tree = c.Prefix name.tree all.trees;
      spelled = seen_both (con_marks con.occ) (spaced (map field_marks con.fields))
          ∙ (λ i. name.spelled i ++ (seen_spaced (map field_marks con.fields)
          ∙ ap (flat_map (λ (part : Ts). part)) all.spelled
          ∙ flat_of_map (λ (part : Ts). part) field_tokens all.trees) i);
      good = and_from (is_con name.tree) (all_of (map is_field all.trees)) name.good all.good;
    }

record ConstrsOf (parts : List Marks) : Type 0 where
  trees : List ConstrTree
  spelled : map seen parts ≡ map constr_tokens trees
  good : all_of (map is_constr trees) ≡ true

constrs_spell : (cons : List ConDecl) → all_of (map is_printable_con cons) ≡ true
    → ConstrsOf (map con_decl_marks cons)
constrs_spell [] e = record { trees = []; spelled = refl; good = refl }
constrs_spell (con ∷ cons) e =
    let both = and_parts (is_printable_con con) (all_of (map is_printable_con cons)) e in
    let one = constr_spells con both.0 in
    let rest = constrs_spell cons both.1 in
    record {
      trees = one.tree ∷ rest.trees;
      spelled = λ i. one.spelled i ∷ rest.spelled i;
      good = and_from (is_constr one.tree) (all_of (map is_constr rest.trees)) one.good rest.good;
    }

seen_barred : (parts : List Marks) → seen (led (signed t.Bar) (signed t.Bar) parts)
    ≡ flat_map (λ (it : Ts). t.Bar ∷ it) (map seen parts)
seen_barred [] = refl
seen_barred (part ∷ parts) =
    ap (λ (z : Ts). t.Bar ∷ z) (seen_both part (led (signed t.Bar) (signed t.Bar) parts)
    ∙ ap (λ (z : Ts). seen part ++ z) (seen_barred parts))

-- ---- types

pub record TopOf (ms : Marks) : Type 0 where
  pub tree : TopDeclTree
  pub spelled : seen ms ≡ top_decl_tokens tree
  pub good : is_top_decl tree ≡ true

data_decl : (occ : List ℕ) (params : List (List ℕ)) (cons : List ConDecl) → is_type_head occ params ≡ true
    → all_of (map is_printable_con cons) ≡ true → TopOf (data_marks occ false params cons)
data_decl occ params [] e h =
    let head = head_of occ params [] e in
    record {
      tree = v.EmptyData occ params;
      spelled = ap (λ (z : Ts). t.Word w.Data ∷ z) (head.spelled ∙ append-nil (head_tokens occ params));
      good = head.good;
    }
data_decl occ params (con ∷ cons) e h =
    let both = and_parts (is_printable_con con) (all_of (map is_printable_con cons)) h in
    let one = constr_spells con both.0 in
    let rest = constrs_spell cons both.1 in
    let head = head_of occ params (led (signed t.Equals) (signed t.Bar) (map con_decl_marks (con ∷ cons))) e in
    record {
      tree = v.Data occ params one.tree rest.trees;
      spelled = ap (λ (z : Ts). t.Word w.Data ∷ z) (head.spelled
          ∙ ap (λ (z : Ts). head_tokens occ params ++ t.Equals ∷ z)
          (seen_both (con_decl_marks con) (led (signed t.Bar) (signed t.Bar) (map con_decl_marks cons))
          ∙ (λ i. one.spelled i ++ (seen_barred (map con_decl_marks cons)
          ∙ ap (flat_map (λ (it : Ts). t.Bar ∷ it)) rest.spelled
          ∙ flat_of_map (λ (it : Ts). t.Bar ∷ it) constr_tokens rest.trees) i)));
      good = and_from (not (has_dot occ)) (is_constr one.tree && all_of (map is_constr rest.trees)) head.good
          (and_from (is_constr one.tree) (all_of (map is_constr rest.trees)) one.good rest.good);
    }

-- the one constructor of a newtype
lone_con : (occ : List ℕ) (params : List (List ℕ)) (con : List ℕ) (strict : Bool) (ty : Written)
    → is_type_head occ params ≡ true → not strict ≡ true → is_own_con con ≡ true → is_printable_type ty ≡ true
    → TopOf (data_marks occ true params
    (record { occ = con; fields = record { strict = strict; ty = ty } ∷ [] } ∷ []))
lone_con occ params con true ty e h g k = cc
lone_con occ params con false ty e h g k =
    let it = (type_at ty k).atom in
    let name = own_con con g in
    let field = type_marks ty p.Atom in
    let head = head_of occ params (signed t.Equals ++ ((con_marks con ++ spaced (field ∷ [])) ++ [])) e in
    record {
      tree = v.Newtype occ params name.tree it.tree;
      spelled = ap (λ (z : Ts). t.Word w.Newtype ∷ z) (head.spelled
          ∙ ap (λ (z : Ts). head_tokens occ params ++ t.Equals ∷ z)
          (ap seen (append-nil (con_marks con ++ spaced (field ∷ [])))
          ∙ seen_both (con_marks con) (spaced (field ∷ []))
          ∙ (λ i. name.spelled i ++ (ap seen (append-nil field) ∙ it.spelled) i)));
      good = and_from (not (has_dot occ)) (is_con name.tree && _) head.good
          (and_from (is_con name.tree) _ name.good it.good);
    }

lone_fields : (occ : List ℕ) (params : List (List ℕ)) (con : List ℕ) (fields : List FieldDecl)
    → is_type_head occ params ≡ true → is_lone_field fields ≡ true → is_own_con con ≡ true
    → all_of (map is_printable_field fields) ≡ true
    → TopOf (data_marks occ true params (record { occ = con; fields = fields } ∷ []))
lone_fields occ params con [] e h g k = cc
lone_fields occ params con (field ∷ []) e h g k =
    lone_con occ params con field.strict field.ty e h g (and_parts (is_printable_field field) true k).0
lone_fields occ params con (field ∷ next ∷ fields) e h g k = cc

newtype_decl : (occ : List ℕ) (params : List (List ℕ)) (cons : List ConDecl) → is_type_head occ params ≡ true
    → is_lone_con cons ≡ true → all_of (map is_printable_con cons) ≡ true → TopOf (data_marks occ true params cons)
newtype_decl occ params [] e h k = cc
newtype_decl occ params (con ∷ []) e h k =
    let one = (and_parts (is_printable_con con) true k).0 in
    let both = and_parts (is_own_con con.occ) (all_of (map is_printable_field con.fields)) one in
    lone_fields occ params con.occ con.fields e h both.0 both.1
newtype_decl occ params (con ∷ next ∷ cons) e h k = cc

data_by : (is_new : Bool) (occ : List ℕ) (params : List (List ℕ)) (cons : List ConDecl)
    → is_type_head occ params ≡ true → fits_word is_new cons ≡ true → all_of (map is_printable_con cons) ≡ true
    → TopOf (data_marks occ is_new params cons)
data_by true occ params cons e h k = newtype_decl occ params cons e h k
data_by false occ params cons e h k = data_decl occ params cons e k

synonym : (occ : List ℕ) (params : List (List ℕ)) (body : Written) (tree : TypeTree)
    → is_type_head occ params ≡ true → seen (type_marks body p.Whole) ≡ spelling_type tree → is_type tree ≡ true
    → TopOf (synonym_marks occ params body)
synonym occ params body tree e h k =
    let head = head_of occ params (signed t.Equals ++ type_marks body p.Whole) e in
    record {
      tree = v.Synonym occ params tree;
      spelled = ap (λ (z : Ts). t.Word w.Type ∷ z)
          (head.spelled ∙ ap (λ (z : Ts). head_tokens occ params ++ t.Equals ∷ z) h);
      good = and_from (not (has_dot occ)) (is_type tree) head.good k;
    }

-- ---- declarations

plain : (d : Decl) → is_printable_decl d ≡ true → TopOf (decl_marks d)
plain d e = let it = decl_spells d e in record { tree = v.Decl it.tree; spelled = it.spelled; good = it.good }

pub top_spells : (d : Decl) → is_printable_top d ≡ true → TopOf (decl_marks d)
top_spells (DataDecl occ is_new params cons) e =
    let h = and_parts (is_type_head occ params) (fits_word is_new cons && all_of (map is_printable_con cons)) e in
    let k = and_parts (fits_word is_new cons) (all_of (map is_printable_con cons)) h.1 in
    data_by is_new occ params cons h.0 k.0 k.1
top_spells (SynonymDecl occ params body) e =
    let h = and_parts (is_type_head occ params) (is_printable_type body) e in
    let it = types_spelled body h.1 in
    synonym occ params body it.0 h.0 it.1.0 it.1.1.0
top_spells (TypeSig occ ty) e = plain (TypeSig occ ty) e
top_spells (FixityOf occ fixity) e = plain (FixityOf occ fixity) e
top_spells (Clause occ ps rhs) e = plain (Clause occ ps rhs) e
top_spells (PatBind pat rhs) e = plain (PatBind pat rhs) e
