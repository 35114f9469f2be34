-- The expression that marks of each form spell, from what its parts spell.
use Rattle.std.proofs.Common.{◌≡◌, ℕ, suc, ◌-◌, true, List, [], ◌∷◌, ◌++◌, length, map, refl, sym, ap, ◌∙◌}
use Rattle.std.proofs.Common.{append_assoc}
use Rattle.std.specs.Prelude.{not, nat_le}
use Rattle.std.specs.List.{flat_map}
use Rattle.std.proofs.lemmas.Bool.{and_from, and_parts}
use Rattle.std.proofs.lemmas.List.{append-nil}
use Rattle.bp_base.specs.declared.ty.OrigName.{OrigName}
use Rattle.hs_forms.specs.Limits.{all_of}
use Rattle.hs_tokens.specs.declared.terminal.Terminal.TheVariants as t
use Rattle.hs_tokens.specs.declared.word.Word.TheVariants as w
use Rattle.hs_trees.specs.Patterns.{gcon_tokens, is_gcon, literal_token, spelling_apat, is_apat}
use Rattle.hs_trees.specs.Types.{spelling_type, is_type}
use Rattle.hs_trees.specs.declared.patterns.APatTree.{APatTree}
use Rattle.hs_trees.specs.declared.patterns.GConTree.{GConTree}
use Rattle.hs_trees.specs.declared.patterns.GConTree.TheVariants as g
use Rattle.hs_trees.specs.declared.patterns.LiteralTree.{LiteralTree}
use Rattle.hs_trees.specs.declared.patterns.QConOpTree.TheVariants as k
use Rattle.hs_trees.specs.declared.types.TypeTree.{TypeTree}
use Rattle.hs_modules.specs.declared.names.QVarTree.{QVarTree}
use Rattle.hs_modules.specs.declared.names.QVarTree.TheVariants as q
use Rattle.hs_modules.specs.declared.names.QOpTree.{QOpTree}
use Rattle.hs_modules.specs.declared.names.QOpTree.TheVariants as o
use Rattle.hs_modules.specs.declared.expressions.AExpTree.{AExpTree, AExpTree-F, roll-AExpTree}
use Rattle.hs_modules.specs.declared.expressions.AltTree.{AltTree}
use Rattle.hs_modules.specs.declared.expressions.DeclTree.{DeclTree}
use Rattle.hs_modules.specs.declared.expressions.ExpTree.{ExpTree, ExpTree-F, roll-ExpTree}
use Rattle.hs_modules.specs.declared.expressions.OperandTree.{OperandTree, OperandTree-F, roll-OperandTree}
use Rattle.hs_modules.specs.Words.{qvar_tokens, qop_tokens, is_bare_minus}
use Rattle.hs_modules.specs.Tokens.{spelling_aexp, spelling_alt, spelling_decl, spelling_exp, spelling_infix}
use Rattle.hs_modules.specs.Tokens.{spelling_operand}
use Rattle.hs_modules.specs.Formed.{all_good, good_of, facts_of_aexp, facts_of_alt, facts_of_decl, facts_of_exp}
use Rattle.hs_modules.specs.Formed.{facts_of_operand}
use Rattle.flat_text.specs.declared.name.NameForm.{NameForm}
use Rattle.flat_text.specs.declared.name.NameForm.TheVariants as f
use Rattle.flat_text.specs.Marks.{Mark, Marks, seen, space, bracketed, listed, led, parted, spaced, block}
use Rattle.flat_text.specs.Names.{form_of, flat_name, bare_by, bare_marks, flat_by, global_by}
use Rattle.flat_text.specs.Names.{global_marks, bare_op_by, bare_op, global_op_by, global_op}
use Rattle.flat_text.specs.ExpressionMarks.{signed, apply_marks, lambda_marks, let_marks, if_marks, case_marks}
use Rattle.flat_text.specs.ExpressionMarks.{annot_marks, section_marks}
use Rattle.flat_spelled.specs.Printable.{names_value, local_operates, global_operates, is_some}
use Rattle.flat_spelled.proofs.SeenLemmas.{Ts, seen_both, seen_brackets, seen_listed, seen_spaced, seen_parts}
use Rattle.flat_spelled.proofs.PatternLemmas.{APatsOf, first_same, rest_same, one_less, few, tuple_of}
use Rattle.flat_spelled.proofs.LayerLemmas.{chain_of, exp_of, operand_of, chain_tokens, exp_tokens_are}
use Rattle.flat_spelled.proofs.LayerLemmas.{annotated_tokens, apply_tokens, operand_tokens_are, var_tokens_are}
use Rattle.flat_spelled.proofs.LayerLemmas.{con_tokens_are, literal_tokens, parts_tokens, list_tokens, section_tokens}
use Rattle.flat_spelled.proofs.LayerLemmas.{lambda_tokens, if_tokens, chain_facts, exp_facts_are, apply_facts}
use Rattle.flat_spelled.proofs.LayerLemmas.{operand_good, annotated_facts, between_semicolons, decl_block_of}
use Rattle.flat_spelled.proofs.LayerLemmas.{decl_block_tokens, decl_block_good, alt_block_of, alt_block_tokens}
use Rattle.flat_spelled.proofs.LayerLemmas.{alt_block_good}
use Rattle.flat_spelled.proofs.FormLayerLemmas.{lambda_of, if_of, let_of, case_of, let_tokens, case_tokens, var_good}
use Rattle.flat_spelled.proofs.FormLayerLemmas.{con_good, literal_good, parts_good, list_good, section_good}
use Rattle.flat_spelled.proofs.FormLayerLemmas.{lambda_good, if_good, let_good, case_good}

pub record AExpOf (ms : Marks) : Type 0 where
  pub tree : AExpTree
  pub spelled : seen ms ≡ spelling_aexp tree
  pub good : (facts_of_aexp tree).good ≡ true

pub record ExpOf (ms : Marks) : Type 0 where
  pub tree : ExpTree
  pub spelled : seen ms ≡ spelling_exp tree
  pub good : (facts_of_exp tree).good ≡ true

-- an expression where an atom stands, and where any expression does
pub record Both (one any : Marks) : Type 0 where
  pub atom : AExpOf one
  pub whole : ExpOf any

pub record AExpsOf (parts : List Marks) : Type 0 where
  pub trees : List AExpTree
  pub spelled : map seen parts ≡ map spelling_aexp trees
  pub good : all_good (map facts_of_aexp trees) ≡ true

pub record ExpsOf (parts : List Marks) : Type 0 where
  pub trees : List ExpTree
  pub spelled : map seen parts ≡ map spelling_exp trees
  pub good : all_good (map facts_of_exp trees) ≡ true
  pub as_many : length trees ≡ length parts

pub record Row (ones anys : List Marks) : Type 0 where
  pub atoms : AExpsOf ones
  pub wholes : ExpsOf anys

pub record DeclsOf (parts : List Marks) : Type 0 where
  pub trees : List DeclTree
  pub spelled : map seen parts ≡ map spelling_decl trees
  pub good : all_good (map facts_of_decl trees) ≡ true

pub record AltsOf (parts : List Marks) : Type 0 where
  pub trees : List AltTree
  pub spelled : map seen parts ≡ map spelling_alt trees
  pub good : all_good (map facts_of_alt trees) ≡ true

pub no_row : Row [] []
no_row = record {
  atoms = record { trees = []; spelled = refl; good = refl };
  wholes = record { trees = []; spelled = refl; good = refl; as_many = refl };
}

pub more_row : (one any : Marks) (ones anys : List Marks) → Both one any → Row ones anys
    → Row (one ∷ ones) (any ∷ anys)
more_row one any ones anys it rest = record {
  atoms = record {
    trees = it.atom.tree ∷ rest.atoms.trees;
    spelled = λ i. it.atom.spelled i ∷ rest.atoms.spelled i;
    good = and_from (facts_of_aexp it.atom.tree).good (all_good (map facts_of_aexp rest.atoms.trees)) it.atom.good
        rest.atoms.good;
  };
  wholes = record {
    trees = it.whole.tree ∷ rest.wholes.trees;
    spelled = λ i. it.whole.spelled i ∷ rest.wholes.spelled i;
    good = and_from (facts_of_exp it.whole.tree).good (all_good (map facts_of_exp rest.wholes.trees)) it.whole.good
        rest.wholes.good;
    as_many = ap suc rest.wholes.as_many;
  };
}

-- ---- an atom is an expression, and an expression in brackets is an atom

atom_exp : (ms : Marks) → AExpOf ms → ExpOf ms
atom_exp ms it = record {
  tree = exp_of (operand_of it.tree);
  spelled = it.spelled ∙ sym (exp_tokens_are (operand_of it.tree) ∙ operand_tokens_are it.tree);
  good = exp_facts_are (operand_of it.tree) (operand_good it.tree it.good);
}

pub atomic : (ms : Marks) → AExpOf ms → Both ms ms
atomic ms it = record { atom = it; whole = atom_exp ms it }

pub compound : (ms : Marks) → ExpOf ms → Both (bracketed ms) ms
compound ms it = record {
  atom = record {
    tree = roll-AExpTree (AExpTree-F.Parts it.tree []);
    spelled = seen_brackets ms ∙ ap (λ (z : Ts). t.LeftParen ∷ (z ++ t.RightParen ∷ []))
        (it.spelled ∙ sym (append-nil (spelling_exp it.tree))) ∙ sym (parts_tokens it.tree []);
    good = parts_good it.tree [] refl it.good refl;
  };
  whole = it;
}

pub operand_exp : (ms : Marks) (x : OperandTree) → seen ms ≡ spelling_operand x → (facts_of_operand x).good ≡ true
    → ExpOf ms
operand_exp ms x e h = record {
  tree = exp_of x;
  spelled = e ∙ sym (exp_tokens_are x);
  good = exp_facts_are x h;
}

-- ---- names and literals

pub literal_atom : (it : LiteralTree) → AExpOf (Mark.word (literal_token it) ∷ [])
literal_atom it = record {
  tree = roll-AExpTree (AExpTree-F.Literal it);
  spelled = sym (literal_tokens it);
  good = literal_good it;
}

var_atom : (ms : Marks) (name : QVarTree) → seen ms ≡ qvar_tokens name → AExpOf ms
var_atom ms name e = record {
  tree = roll-AExpTree (AExpTree-F.Var name);
  spelled = e ∙ sym (var_tokens_are name);
  good = var_good name;
}

con_atom : (ms : Marks) (con : GConTree) → seen ms ≡ gcon_tokens con → is_gcon con ≡ true → AExpOf ms
con_atom ms con e h = record {
  tree = roll-AExpTree (AExpTree-F.Con con);
  spelled = e ∙ sym (con_tokens_are con);
  good = con_good con h;
}

bare_atom_by : (form : NameForm) (name : List ℕ) → AExpOf (bare_by form name)
bare_atom_by f.VarSym name = var_atom _ (q.Sym name) refl
bare_atom_by f.ConSym name = var_atom _ (q.Sym name) refl
bare_atom_by f.Var name = var_atom _ (q.Id name) refl
bare_atom_by f.Con name = var_atom _ (q.Id name) refl
bare_atom_by f.Colon name = var_atom _ (q.Id name) refl
bare_atom_by f.Arrow name = var_atom _ (q.Id name) refl
bare_atom_by f.List name = var_atom _ (q.Id name) refl
bare_atom_by f.Tuple name = var_atom _ (q.Id name) refl

pub bare_atom : (name : List ℕ) → AExpOf (bare_marks name)
unfolding bare_marks
bare_atom name = bare_atom_by (form_of name) name

flat_atom : (form : NameForm) (flat : List ℕ) → AExpOf (flat_by form flat)
flat_atom f.Con flat = con_atom _ (g.Con flat) refl refl
flat_atom f.VarSym flat = var_atom _ (q.QualifiedSym flat) refl
flat_atom f.ConSym flat = con_atom _ (g.Sym flat) refl refl
flat_atom f.Var flat = var_atom _ (q.QualifiedId flat) refl
flat_atom f.Colon flat = var_atom _ (q.QualifiedId flat) refl
flat_atom f.Arrow flat = var_atom _ (q.QualifiedId flat) refl
flat_atom f.List flat = var_atom _ (q.QualifiedId flat) refl
flat_atom f.Tuple flat = var_atom _ (q.QualifiedId flat) refl

global_atom_by : (form : NameForm) (occ flat : List ℕ) → names_value form (length occ - 2) ≡ true
    → AExpOf (global_by form occ flat)
global_atom_by f.Colon occ flat e = con_atom _ g.Colon refl refl
global_atom_by f.Arrow occ flat e = cc
global_atom_by f.List occ flat e = con_atom _ g.List refl refl
global_atom_by f.Tuple occ flat e =
    let it = tuple_of (length occ - 2) e in con_atom _ it.tree it.spelled it.good
global_atom_by f.Con occ flat e = flat_atom f.Con flat
global_atom_by f.VarSym occ flat e = flat_atom f.VarSym flat
global_atom_by f.ConSym occ flat e = flat_atom f.ConSym flat
global_atom_by f.Var occ flat e = flat_atom f.Var flat

pub global_atom : (name : OrigName) → names_value (form_of name.occ) (length name.occ - 2) ≡ true
    → AExpOf (global_marks name)
unfolding global_marks
global_atom name e = global_atom_by (form_of name.occ) name.occ (flat_name name) e

-- ---- operators of sections

pub record OpOf (ms : Marks) : Type 0 where
  pub tree : QOpTree
  pub spelled : seen ms ≡ qop_tokens tree
  pub good : not (is_bare_minus tree) ≡ true

bare_op_tree : (form : NameForm) (name : List ℕ) → local_operates form name ≡ true → OpOf (bare_op_by form name)
bare_op_tree f.Con name e = record { tree = o.Con (k.Quoted name); spelled = refl; good = refl }
bare_op_tree f.VarSym name e = record { tree = o.Sym name; spelled = refl; good = e }
bare_op_tree f.ConSym name e = record { tree = o.Con (k.Sym name); spelled = refl; good = refl }
bare_op_tree f.Var name e = record { tree = o.Quoted name; spelled = refl; good = refl }
bare_op_tree f.Colon name e = record { tree = o.Quoted name; spelled = refl; good = refl }
bare_op_tree f.Arrow name e = record { tree = o.Quoted name; spelled = refl; good = refl }
bare_op_tree f.List name e = record { tree = o.Quoted name; spelled = refl; good = refl }
bare_op_tree f.Tuple name e = record { tree = o.Quoted name; spelled = refl; good = refl }

pub local_op : (name : List ℕ) → local_operates (form_of name) name ≡ true → OpOf (bare_op name)
unfolding bare_op
local_op name e = bare_op_tree (form_of name) name e

global_op_tree : (form : NameForm) (flat : List ℕ) → global_operates form ≡ true → OpOf (global_op_by form flat)
global_op_tree f.Con flat e = record { tree = o.Con (k.Quoted flat); spelled = refl; good = refl }
global_op_tree f.VarSym flat e = record { tree = o.QualifiedSym flat; spelled = refl; good = refl }
global_op_tree f.ConSym flat e = record { tree = o.Con (k.Sym flat); spelled = refl; good = refl }
global_op_tree f.Colon flat e = record { tree = o.Con k.Colon; spelled = refl; good = refl }
global_op_tree f.Var flat e = record { tree = o.QualifiedQuoted flat; spelled = refl; good = refl }
global_op_tree f.Arrow flat e = cc
global_op_tree f.List flat e = cc
global_op_tree f.Tuple flat e = cc

pub module_op : (name : OrigName) → global_operates (form_of name.occ) ≡ true → OpOf (global_op name)
unfolding global_op
module_op name e = global_op_tree (form_of name.occ) (flat_name name) e

pub section_atom : (op arg : Marks) → OpOf op → AExpOf arg → AExpOf (section_marks op arg)
section_atom op arg o' it =
    let chain = chain_of (operand_of it.tree) in
    record {
      tree = roll-AExpTree (AExpTree-F.RightSection o'.tree chain);
      spelled = seen_brackets (op ++ space ∷ arg)
          ∙ ap (λ (z : Ts). t.LeftParen ∷ (z ++ t.RightParen ∷ [])) (seen_both op (space ∷ arg)
          ∙ (λ i. o'.spelled i
          ++ (it.spelled ∙ sym (chain_tokens (operand_of it.tree) ∙ operand_tokens_are it.tree)) i))
          ∙ ap (λ (z : Ts). t.LeftParen ∷ z)
          (append_assoc (qop_tokens o'.tree) (spelling_infix chain) (t.RightParen ∷ []))
          ∙ sym (section_tokens o'.tree chain);
      good = section_good o'.tree chain o'.good (chain_facts (operand_of it.tree) (operand_good it.tree it.good));
    }

-- ---- tuples and lists

mapped : (trees : List ExpTree) → length (map facts_of_exp trees) ≡ length trees
mapped [] = refl
mapped (x ∷ trees) = ap suc (mapped trees)

pub tuple_atom : (parts : List Marks) → nat_le (length parts) 15 ≡ true → ExpsOf parts
    → AExpOf (bracketed (parted parts))
tuple_atom [] few' it = con_atom _ g.Unit refl refl
tuple_atom (m ∷ parts) few' it = by it.trees it.spelled it.good it.as_many
  where
    by : (trees : List ExpTree) → map seen (m ∷ parts) ≡ map spelling_exp trees → all_good (map facts_of_exp trees)
        ≡ true
        → length trees ≡ length (m ∷ parts) → AExpOf (bracketed (parted (m ∷ parts)))
    by [] e h n = cc
    by (x ∷ xs) e h n =
        let goods = and_parts (facts_of_exp x).good (all_good (map facts_of_exp xs)) h in
        record {
          tree = roll-AExpTree (AExpTree-F.Parts x xs);
          spelled = seen_brackets (parted (m ∷ parts))
              ∙ ap (λ (z : Ts). t.LeftParen ∷ (z ++ t.RightParen ∷ []))
              (seen_parts t.Comma m parts
              ∙ (λ i. first_same _ _ _ _ e i ++ flat_map (λ (part : Ts). t.Comma ∷ part) (rest_same _ _ _ _ e i)))
              ∙ sym (parts_tokens x xs);
          good = parts_good x xs (few _ _ _ (mapped xs) (one_less _ _ n) few') goods.0 goods.1;
        }

pub list_atom : (parts : List Marks) → ExpsOf parts → AExpOf (listed (parted parts))
list_atom [] it = con_atom _ g.List refl refl
list_atom (m ∷ parts) it = by it.trees it.spelled it.good
  where
    by : (trees : List ExpTree) → map seen (m ∷ parts) ≡ map spelling_exp trees → all_good (map facts_of_exp trees)
        ≡ true
        → AExpOf (listed (parted (m ∷ parts)))
    by [] e h = cc
    by (x ∷ xs) e h =
        let goods = and_parts (facts_of_exp x).good (all_good (map facts_of_exp xs)) h in
        record {
          tree = roll-AExpTree (AExpTree-F.List x xs);
          spelled = seen_listed (parted (m ∷ parts))
              ∙ ap (λ (z : Ts). t.LeftBracket ∷ (z ++ t.RightBracket ∷ []))
              (seen_parts t.Comma m parts
              ∙ (λ i. first_same _ _ _ _ e i ++ flat_map (λ (part : Ts). t.Comma ∷ part) (rest_same _ _ _ _ e i)))
              ∙ sym (list_tokens x xs);
          good = list_good x xs goods.0 goods.1;
        }

-- ---- the other forms

pub apply_exp : (fun : Marks) (args : List Marks) → AExpOf fun → AExpsOf args → ExpOf (apply_marks fun args)
apply_exp fun args it all =
    let x = roll-OperandTree (OperandTree-F.Apply it.tree all.trees) in
    operand_exp (apply_marks fun args) x
    (seen_both fun (spaced args)
    ∙ (λ i. it.spelled i ++ (seen_spaced args ∙ ap (flat_map (λ (part : Ts). part)) all.spelled) i)
    ∙ sym (apply_tokens it.tree all.trees))
    (ap good_of (apply_facts it.tree all.trees)
    ∙ and_from (facts_of_aexp it.tree).good (all_good (map facts_of_aexp all.trees)) it.good all.good)

pub flat_mapped : (trees : List APatTree) → flat_map (λ (part : Ts). part) (map spelling_apat trees)
    ≡ flat_map spelling_apat trees
flat_mapped [] = refl
flat_mapped (a ∷ trees) = ap (λ r. spelling_apat a ++ r) (flat_mapped trees)

pub lambda_exp : (pats : List Marks) (body : Marks) → is_some pats ≡ true → APatsOf pats → ExpOf body
    → ExpOf (lambda_marks pats body)
lambda_exp [] body s ps it = cc
lambda_exp (m ∷ pats) body s ps it = by ps.trees ps.spelled ps.good
  where
    by : (trees : List APatTree) → map seen (m ∷ pats) ≡ map spelling_apat trees → all_of (map is_apat trees) ≡ true
        → ExpOf (lambda_marks (m ∷ pats) body)
    by [] e h = cc
    by (a ∷ trees) e h =
        operand_exp (lambda_marks (m ∷ pats) body) (lambda_of a trees it.tree)
        (ap (λ (z : Ts). t.Backslash ∷ z)
        (seen_both (m ++ spaced pats) (signed t.Arrow ++ body)
        ∙ (λ i. (seen_both m (spaced pats) ∙ (λ j. first_same _ _ _ _ e j
        ++ (seen_spaced pats ∙ ap (flat_map (λ (part : Ts). part)) (rest_same _ _ _ _ e) ∙ flat_mapped trees) j)) i
        ++ t.Arrow ∷ it.spelled i))
        ∙ sym (lambda_tokens a trees it.tree))
        (lambda_good a trees it.tree h it.good)

pub if_exp : (a b c : Marks) → ExpOf a → ExpOf b → ExpOf c → ExpOf (if_marks a b c)
if_exp a b c x y z =
    operand_exp (if_marks a b c) (if_of x.tree y.tree z.tree)
    (ap (λ (r : Ts). t.Word w.If ∷ r)
    (seen_both a (space ∷ Mark.word (t.Word w.Then) ∷ space ∷ (b ++ space ∷ Mark.word (t.Word w.Else) ∷ space ∷ c))
    ∙ (λ i. x.spelled i ++ t.Word w.Then ∷ (seen_both b (space ∷ Mark.word (t.Word w.Else) ∷ space ∷ c)
    ∙ (λ j. y.spelled j ++ t.Word w.Else ∷ z.spelled j)) i))
    ∙ sym (if_tokens x.tree y.tree z.tree))
    (if_good x.tree y.tree z.tree x.good y.good z.good)

-- what stands between braces and semicolons
pub seen_block : (parts : List Marks) → seen (block parts)
    ≡ t.LeftBrace ∷ (between_semicolons (map seen parts) ++ t.RightBrace ∷ [])
seen_block [] = refl
seen_block (m ∷ parts) =
    ap (λ (z : Ts). t.LeftBrace ∷ z)
    (seen_both (led [] (Mark.word t.Semicolon ∷ space ∷ []) (m ∷ parts)) (Mark.word t.RightBrace ∷ [])
    ∙ ap (λ (z : Ts). z ++ t.RightBrace ∷ []) (seen_parts t.Semicolon m parts))

pub let_exp : (parts : List Marks) (body : Marks) → DeclsOf parts → ExpOf body → ExpOf (let_marks parts body)
let_exp parts body ds it =
    operand_exp (let_marks parts body) (let_of (decl_block_of ds.trees) it.tree)
    (ap (λ (r : Ts). t.Word w.Let ∷ r)
    (seen_both (block parts) (space ∷ Mark.word (t.Word w.In) ∷ space ∷ body)
    ∙ (λ i. (seen_block parts
    ∙ ap (λ (z : List Ts). t.LeftBrace ∷ (between_semicolons z ++ t.RightBrace ∷ [])) ds.spelled
    ∙ sym (decl_block_tokens ds.trees)) i ++ t.Word w.In ∷ it.spelled i))
    ∙ sym (let_tokens (decl_block_of ds.trees) it.tree))
    (let_good (decl_block_of ds.trees) it.tree (decl_block_good ds.trees ds.good) it.good)

pub case_exp : (of' : Marks) (parts : List Marks) → ExpOf of' → AltsOf parts → ExpOf (case_marks of' parts)
case_exp of' parts it as' =
    operand_exp (case_marks of' parts) (case_of it.tree (alt_block_of as'.trees))
    (ap (λ (r : Ts). t.Word w.Case ∷ r)
    (seen_both of' (space ∷ Mark.word (t.Word w.Of) ∷ space ∷ block parts)
    ∙ (λ i. it.spelled i ++ t.Word w.Of ∷ (seen_block parts
    ∙ ap (λ (z : List Ts). t.LeftBrace ∷ (between_semicolons z ++ t.RightBrace ∷ [])) as'.spelled
    ∙ sym (alt_block_tokens as'.trees)) i))
    ∙ sym (case_tokens it.tree (alt_block_of as'.trees)))
    (case_good it.tree (alt_block_of as'.trees) it.good (alt_block_good as'.trees as'.good))

pub annot_exp : (exp ty : Marks) (tree : TypeTree) → AExpOf exp → seen ty ≡ spelling_type tree → is_type tree ≡ true
    → ExpOf (annot_marks exp ty)
annot_exp exp ty tree it e h = record {
  tree = roll-ExpTree (ExpTree-F.Annotated (chain_of (operand_of it.tree)) tree);
  spelled = seen_both exp (signed t.DoubleColon ++ ty)
      ∙ (λ i. (it.spelled ∙ sym (operand_tokens_are it.tree)) i ++ t.DoubleColon ∷ e i)
      ∙ sym (annotated_tokens (operand_of it.tree) tree);
  good = annotated_facts it.tree tree it.good h;
}
