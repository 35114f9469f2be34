-- The export list that printable exports' marks spell.
use Rattle.std.proofs.Common.{◌≡◌, ℕ, true, false, List, [], ◌∷◌, ◌++◌, map, refl, ap, ◌∙◌}
use Rattle.std.specs.List.{flat_map}
use Rattle.std.proofs.lemmas.Bool.{and_from, and_parts}
use Rattle.hs_forms.specs.Limits.{all_of}
use Rattle.hs_tokens.specs.declared.terminal.Terminal.TheVariants as t
use Rattle.hs_modules.specs.declared.names.ConTree.{ConTree}
use Rattle.hs_modules.specs.declared.names.ConTree.TheVariants as c
use Rattle.hs_modules.specs.declared.names.QVarTree.TheVariants as q
use Rattle.hs_modules.specs.declared.module.CNameTree.{CNameTree}
use Rattle.hs_modules.specs.declared.module.CNameTree.TheVariants as n
use Rattle.hs_modules.specs.declared.module.SubsTree.TheVariants as s
use Rattle.hs_modules.specs.declared.module.ExportTree.{ExportTree}
use Rattle.hs_modules.specs.declared.module.ExportTree.TheVariants as x
use Rattle.hs_modules.specs.Words.{con_tokens, is_con}
use Rattle.hs_modules.specs.ModuleTokens.{cname_tokens, export_tokens, listed as list_tokens}
use Rattle.hs_modules.specs.ModuleForms.{is_cname, is_export}
use Rattle.flat_text.specs.declared.name.NameForm.{NameForm}
use Rattle.flat_text.specs.declared.name.NameForm.TheVariants as f
use Rattle.flat_text.specs.declared.flat.FlatExport.{FlatExport}
use Rattle.flat_text.specs.Marks.{Marks, seen, bracketed, parted}
use Rattle.flat_text.specs.Names.{form_of, flat_form, con_by, con_marks, flat_by, flat_marks}
use Rattle.flat_text.specs.ModuleMarks.{cons_marks, export_marks}
use Rattle.flat_spelled.proofs.SeenLemmas.{Ts, seen_brackets, seen_parts}
use Rattle.flat_spelled.proofs.PatternLemmas.{first_same, rest_same}
use Rattle.flat_whole.specs.PrintableModule.{is_own, is_own_con, exports_by, is_printable_export}

-- a list in round brackets
pub in_list : (parts : List Marks) (ts : List Ts) → map seen parts ≡ ts
    → seen (bracketed (parted parts)) ≡ list_tokens ts false
in_list [] [] e = refl
in_list [] (x ∷ ts) e = cc
in_list (m ∷ parts) [] e = cc
in_list (m ∷ parts) (x ∷ ts) e =
    seen_brackets (parted (m ∷ parts))
    ∙ ap (λ (z : Ts). t.LeftParen ∷ (z ++ t.RightParen ∷ []))
    (seen_parts t.Comma m parts
    ∙ (λ i. first_same _ _ _ _ e i ++ flat_map (λ (part : Ts). t.Comma ∷ part) (rest_same _ _ _ _ e i)))

-- ---- constructors

pub record ConNameOf (ms : Marks) : Type 0 where
  pub tree : ConTree
  pub spelled : seen ms ≡ con_tokens tree
  pub good : is_con tree ≡ true

own_by : (form : NameForm) (name : List ℕ) → is_own form name ≡ true → ConNameOf (con_by form name)
own_by f.VarSym name e = record { tree = c.Sym name; spelled = refl; good = e }
own_by f.ConSym name e = record { tree = c.Sym name; spelled = refl; good = e }
own_by f.Var name e = record { tree = c.Id name; spelled = refl; good = e }
own_by f.Con name e = record { tree = c.Id name; spelled = refl; good = e }
own_by f.Colon name e = record { tree = c.Id name; spelled = refl; good = e }
own_by f.Arrow name e = record { tree = c.Id name; spelled = refl; good = e }
own_by f.List name e = record { tree = c.Id name; spelled = refl; good = e }
own_by f.Tuple name e = record { tree = c.Id name; spelled = refl; good = e }

pub own_con : (name : List ℕ) → is_own_con name ≡ true → ConNameOf (con_marks name)
unfolding con_marks
own_con name e = own_by (form_of name) name e

record CNamesOf (parts : List Marks) : Type 0 where
  trees : List CNameTree
  spelled : map seen parts ≡ map cname_tokens trees
  good : all_of (map is_cname trees) ≡ true

cnames : (names : List (List ℕ)) → all_of (map is_own_con names) ≡ true → CNamesOf (map con_marks names)
cnames [] e = record { trees = []; spelled = refl; good = refl }
cnames (name ∷ names) e =
    let both = and_parts (is_own_con name) (all_of (map is_own_con names)) e in
    let one = own_con name both.0 in
    let rest = cnames names both.1 in
    record {
      trees = n.Con one.tree ∷ rest.trees;
      spelled = λ i. one.spelled i ∷ rest.spelled i;
      good = and_from (is_con one.tree) (all_of (map is_cname rest.trees)) one.good rest.good;
    }

-- ---- exports

record ExportOf (ms : Marks) : Type 0 where
  tree : ExportTree
  spelled : seen ms ≡ export_tokens tree
  good : is_export tree ≡ true

export_by : (form : NameForm) (flat : List ℕ) (cons : List (List ℕ)) → exports_by form cons ≡ true
    → ExportOf (flat_by form flat ++ cons_marks cons)
export_by f.Con flat [] e = record { tree = x.Type flat; spelled = refl; good = refl }
export_by f.Con flat (con ∷ cons) e =
    let all = cnames (con ∷ cons) e in
    record {
      tree = x.TypeWith flat (s.Only all.trees);
      spelled = ap (λ (z : Ts). t.Con flat ∷ z)
          (in_list (map con_marks (con ∷ cons)) (map cname_tokens all.trees) all.spelled);
      good = all.good;
    }
export_by f.ConSym flat cons e = cc
export_by f.VarSym flat [] e = record { tree = x.Var (q.QualifiedSym flat); spelled = refl; good = refl }
export_by f.VarSym flat (con ∷ cons) e = cc
export_by f.Var flat [] e = record { tree = x.Var (q.QualifiedId flat); spelled = refl; good = refl }
export_by f.Var flat (con ∷ cons) e = cc
export_by f.Colon flat [] e = record { tree = x.Var (q.QualifiedId flat); spelled = refl; good = refl }
export_by f.Colon flat (con ∷ cons) e = cc
export_by f.Arrow flat [] e = record { tree = x.Var (q.QualifiedId flat); spelled = refl; good = refl }
export_by f.Arrow flat (con ∷ cons) e = cc
export_by f.List flat [] e = record { tree = x.Var (q.QualifiedId flat); spelled = refl; good = refl }
export_by f.List flat (con ∷ cons) e = cc
export_by f.Tuple flat [] e = record { tree = x.Var (q.QualifiedId flat); spelled = refl; good = refl }
export_by f.Tuple flat (con ∷ cons) e = cc

export_spells : (export : FlatExport) → is_printable_export export ≡ true → ExportOf (export_marks export)
unfolding flat_marks
export_spells export e = export_by (flat_form false export.name) export.name export.cons e

pub record ExportsOf (parts : List Marks) : Type 0 where
  pub trees : List ExportTree
  pub spelled : map seen parts ≡ map export_tokens trees
  pub good : all_of (map is_export trees) ≡ true

pub exports_spell : (exports : List FlatExport) → all_of (map is_printable_export exports) ≡ true
    → ExportsOf (map export_marks exports)
exports_spell [] e = record { trees = []; spelled = refl; good = refl }
exports_spell (export ∷ exports) e =
    let both = and_parts (is_printable_export export) (all_of (map is_printable_export exports)) e in
    let one = export_spells export both.0 in
    let rest = exports_spell exports both.1 in
    record {
      trees = one.tree ∷ rest.trees;
      spelled = λ i. one.spelled i ∷ rest.spelled i;
      good = and_from (is_export one.tree) (all_of (map is_export rest.trees)) one.good rest.good;
    }
