-- The pattern that a printable pattern's marks spell.
use Rattle.std.proofs.Common.{◌≡◌, ℕ, suc, zero, ◌-◌, Bool, true, false, List, [], ◌∷◌, ◌++◌, length, map, refl, sym}
use Rattle.std.proofs.Common.{ap, ◌∙◌}
use Rattle.std.proofs.Common.{arith}
use Rattle.std.specs.Prelude.{◌&&◌, nat_lt, nat_le, replicate}
use Rattle.std.specs.List.{flat_map}
use Rattle.std.specs.Fmt.{decimal}
use Rattle.std.proofs.lemmas.Bool.{and_parts, and_from, lt-ltb}
use Rattle.std.proofs.lemmas.Bool.Decides.{nat_tests}
use Rattle.std.proofs.lemmas.List.{append-nil}
use Rattle.bp_base.specs.declared.ty.OrigName.{OrigName}
use Rattle.hs_forms.specs.Limits.{all_of}
use Rattle.hs_tokens.specs.declared.terminal.Terminal.TheVariants as t
use Rattle.hs_tokens.specs.Terminals.{minus}
use Rattle.hs_trees.specs.declared.patterns.LiteralTree.TheVariants as l
use Rattle.hs_trees.specs.declared.patterns.VarTree.{VarTree}
use Rattle.hs_trees.specs.declared.patterns.VarTree.TheVariants as v
use Rattle.hs_trees.specs.declared.patterns.GConTree.{GConTree}
use Rattle.hs_trees.specs.declared.patterns.GConTree.TheVariants as g
use Rattle.hs_trees.specs.declared.patterns.PatTree.{PatTree, roll-PatTree}
use Rattle.hs_trees.specs.declared.patterns.LPatTree.{LPatTree, LPatTree-F, roll-LPatTree}
use Rattle.hs_trees.specs.declared.patterns.APatTree.{APatTree, APatTree-F, roll-APatTree}
use Rattle.hs_trees.specs.Patterns.{var_tokens, gcon_tokens, is_gcon, spelling_apat, spelling_lpat, spelling_pat}
use Rattle.hs_trees.specs.Patterns.{is_apat}
use Rattle.hs_trees.specs.Patterns.{is_lpat, is_pat}
use Rattle.hs_trees.proofs.PatternLayerLemmas.{apat_spelled, lpat_spelled, pat_spelled, apat_is, lpat_is, pat_is}
use Rattle.hs_core.specs.declared.tree.Pat.{Pat}
use Rattle.hs_core.specs.declared.tree.Pat.TheVariants.{PVar, PWild, PInt, PChr, PStr, PCon', PTuple'}
use Rattle.hs_core.specs.declared.tree.Pat.TheVariants.{PList', PAs', PLazy'}
use Rattle.hs_core.specs.declared.tree.Pat.TheBlock.{Row_of-Pat, end_of-Pat, more_of-Pat}
use Rattle.flat_lex.specs.Literals.{char_bytes, string_bytes}
use Rattle.flat_text.specs.declared.name.NameForm.{NameForm}
use Rattle.flat_text.specs.declared.name.NameForm.TheVariants as f
use Rattle.flat_text.specs.Marks.{Mark, Marks, seen, bracketed, listed, parted, spaced}
use Rattle.flat_text.specs.Names.{form_of, flat_name, bare_by, bare_marks, global_by, global_marks}
use Rattle.flat_text.specs.PatternMarks.{integer_mark, signed_marks, con_pat_marks, pat_marks, pats_marks}
use Rattle.flat_spelled.specs.Printable.{constructs, is_printable_pat, are_printable_pats}
use Rattle.flat_spelled.specs.Spelled.{PatternsAreSpelled}
use Rattle.flat_spelled.proofs.SeenLemmas.{Ts, seen_both, seen_brackets, seen_listed, seen_spaced, seen_parts}
use Rattle.flat_spelled.proofs.SeenLemmas.{seen_commas}

-- ---- names

pub record VarOf (ms : Marks) : Type 0 where
  pub tree : VarTree
  pub spelled : seen ms ≡ var_tokens tree

var_by : (form : NameForm) (name : List ℕ) → VarOf (bare_by form name)
var_by f.VarSym name = record { tree = v.Sym name; spelled = refl }
var_by f.ConSym name = record { tree = v.Sym name; spelled = refl }
var_by f.Var name = record { tree = v.Id name; spelled = refl }
var_by f.Con name = record { tree = v.Id name; spelled = refl }
var_by f.Colon name = record { tree = v.Id name; spelled = refl }
var_by f.Arrow name = record { tree = v.Id name; spelled = refl }
var_by f.List name = record { tree = v.Id name; spelled = refl }
var_by f.Tuple name = record { tree = v.Id name; spelled = refl }

pub var_of : (name : List ℕ) → VarOf (bare_marks name)
unfolding bare_marks
var_of name = var_by (form_of name) name

pub record ConOf (ms : Marks) : Type 0 where
  pub tree : GConTree
  pub spelled : seen ms ≡ gcon_tokens tree
  pub good : is_gcon tree ≡ true

pub tuple_of : (count : ℕ) → nat_lt count 15 ≡ true → ConOf (bracketed (replicate count (Mark.word t.Comma)))
tuple_of zero e = record { tree = g.Unit; spelled = refl; good = refl }
tuple_of (suc count) e = record {
  tree = g.Tuple (suc count);
  spelled = seen_brackets (replicate (suc count) (Mark.word t.Comma))
      ∙ ap (λ (z : Ts). t.LeftParen ∷ (z ++ t.RightParen ∷ [])) (seen_commas (suc count));
  good = and_from (nat_lt 0 (suc count)) (nat_lt (suc count) 15) (lt-ltb 0 (suc count) (omega arith)) e;
}

con_by : (form : NameForm) (occ flat : List ℕ) → constructs form (length occ - 2) ≡ true
    → ConOf (global_by form occ flat)
con_by f.Con occ flat e = record { tree = g.Con flat; spelled = refl; good = refl }
con_by f.ConSym occ flat e = record { tree = g.Sym flat; spelled = refl; good = refl }
con_by f.Colon occ flat e = record { tree = g.Colon; spelled = refl; good = refl }
con_by f.List occ flat e = record { tree = g.List; spelled = refl; good = refl }
con_by f.Tuple occ flat e = tuple_of (length occ - 2) e
con_by f.Var occ flat e = cc
con_by f.VarSym occ flat e = cc
con_by f.Arrow occ flat e = cc

pub con_of : (name : OrigName) → constructs (form_of name.occ) (length name.occ - 2) ≡ true → ConOf (global_marks name)
unfolding global_marks
con_of name e = con_by (form_of name.occ) name.occ (flat_name name) e

-- ---- atoms and lists of them

pub record APatOf (ms : Marks) : Type 0 where
  pub tree : APatTree
  pub spelled : seen ms ≡ spelling_apat tree
  pub good : is_apat tree ≡ true

pub record APatsOf (parts : List Marks) : Type 0 where
  pub trees : List APatTree
  pub spelled : map seen parts ≡ map spelling_apat trees
  pub good : all_of (map is_apat trees) ≡ true
  pub as_many : length trees ≡ length parts

pub no_pats : APatsOf []
no_pats = record { trees = []; spelled = refl; good = refl; as_many = refl }

pub more_pats : (ms : Marks) (parts : List Marks) → APatOf ms → APatsOf parts → APatsOf (ms ∷ parts)
more_pats ms parts it rest = record {
  trees = it.tree ∷ rest.trees;
  spelled = λ i. it.spelled i ∷ rest.spelled i;
  good = and_from (is_apat it.tree) (all_of (map is_apat rest.trees)) it.good rest.good;
  as_many = ap suc rest.as_many;
}

-- ---- patterns above atoms

abbrev pub pat_of : LPatTree → PatTree
pat_of x = roll-PatTree (record { first = x; rest = [] })

abbrev pub lpat_of : APatTree → LPatTree
lpat_of a = roll-LPatTree (LPatTree-F.APat a)

pat_tokens_are : (x : LPatTree) → spelling_pat (pat_of x) ≡ spelling_lpat x
pat_tokens_are x = pat_spelled (record { first = x; rest = [] }) ∙ append-nil (spelling_lpat x)

pat_good : (x : LPatTree) → is_lpat x ≡ true → is_pat (pat_of x) ≡ true
pat_good x e = pat_is (record { first = x; rest = [] }) ∙ and_from (is_lpat x) true e refl

pub apat_tokens_are : (a : APatTree) → spelling_pat (pat_of (lpat_of a)) ≡ spelling_apat a
apat_tokens_are a = pat_tokens_are (lpat_of a) ∙ lpat_spelled (LPatTree-F.APat a)

pub apat_good : (a : APatTree) → is_apat a ≡ true → is_pat (pat_of (lpat_of a)) ≡ true
apat_good a e = pat_good (lpat_of a) (lpat_is (LPatTree-F.APat a) ∙ e)

-- an `lpat` in brackets
in_brackets : (ms : Marks) (x : LPatTree) → seen ms ≡ spelling_lpat x → is_lpat x ≡ true → APatOf (bracketed ms)
in_brackets ms x e h = record {
  tree = roll-APatTree (APatTree-F.Parts (pat_of x) []);
  spelled = seen_brackets ms
      ∙ ap (λ (z : Ts). t.LeftParen ∷ (z ++ t.RightParen ∷ []))
      (e ∙ sym (append-nil (spelling_pat (pat_of x)) ∙ pat_tokens_are x))
      ∙ sym (apat_spelled (APatTree-F.Parts (pat_of x) []));
  good = apat_is (APatTree-F.Parts (pat_of x) []) ∙ and_from (is_pat (pat_of x)) true (pat_good x h) refl;
}

-- ---- the parts of tuples and lists

pats_tokens : (trees : List APatTree) → map spelling_pat (map (λ a. pat_of (lpat_of a)) trees) ≡ map spelling_apat trees
pats_tokens [] = refl
pats_tokens (a ∷ trees) = λ i. apat_tokens_are a i ∷ pats_tokens trees i

pats_good : (trees : List APatTree) → all_of (map is_apat trees) ≡ true
    → all_of (map is_pat (map (λ a. pat_of (lpat_of a)) trees)) ≡ true
pats_good [] e = refl
pats_good (a ∷ trees) e =
    let h = and_parts (is_apat a) (all_of (map is_apat trees)) e in
    and_from (is_pat (pat_of (lpat_of a))) (all_of (map is_pat (map (λ x. pat_of (lpat_of x)) trees))) (apat_good a h.0)
    (pats_good trees h.1)

mapped : (trees : List APatTree) → length (map is_pat (map (λ a. pat_of (lpat_of a)) trees)) ≡ length trees
mapped [] = refl
mapped (a ∷ trees) = ap suc (mapped trees)

-- the terminals of parts between commas
parts_tokens : (m : Marks) (parts : List Marks) (a : APatTree) (trees : List APatTree) → seen m ≡ spelling_apat a
    → map seen parts ≡ map spelling_apat trees → seen (parted (m ∷ parts)) ≡ spelling_pat (pat_of (lpat_of a))
    ++ flat_map (λ (part : Ts). t.Comma ∷ part) (map spelling_pat (map (λ x. pat_of (lpat_of x)) trees))
parts_tokens m parts a trees e h =
    seen_parts t.Comma m parts
    ∙ (λ i. (e ∙ sym (apat_tokens_are a)) i ++ flat_map (λ (part : Ts). t.Comma ∷ part)
    ((h ∙ sym (pats_tokens trees)) i))

pub first_same : (x y : Ts) (xs ys : List Ts) → x ∷ xs ≡ y ∷ ys → x ≡ y
first_same x y xs ys e = cc

pub rest_same : (x y : Ts) (xs ys : List Ts) → x ∷ xs ≡ y ∷ ys → xs ≡ ys
rest_same x y xs ys e = cc

pub one_less : (n k' : ℕ) → suc n ≡ suc k' → n ≡ k'
one_less n k' e = omega arith

pub few : (n m k' : ℕ) → n ≡ m → m ≡ k' → nat_le (suc k') 15 ≡ true → nat_lt n 15 ≡ true
few n m k' e h g = grind (arith, nat_tests)

tuple_pat : (parts : List Marks) → nat_le (length parts) 15 ≡ true → APatsOf parts → APatOf (bracketed (parted parts))
tuple_pat [] few' it = record {
  tree = roll-APatTree (APatTree-F.Con g.Unit);
  spelled = sym (apat_spelled (APatTree-F.Con g.Unit));
  good = apat_is (APatTree-F.Con g.Unit);
}
tuple_pat (m ∷ parts) few' it = by it.trees it.spelled it.good it.as_many
  where
    by : (trees : List APatTree) → map seen (m ∷ parts) ≡ map spelling_apat trees → all_of (map is_apat trees) ≡ true
        → length trees ≡ length (m ∷ parts) → APatOf (bracketed (parted (m ∷ parts)))
    by [] e h n = cc
    by (a ∷ trees) e h n =
        let goods = and_parts (is_apat a) (all_of (map is_apat trees)) h in
        let rest = map (λ x. pat_of (lpat_of x)) trees in
        record {
          tree = roll-APatTree (APatTree-F.Parts (pat_of (lpat_of a)) rest);
          spelled = seen_brackets (parted (m ∷ parts))
              ∙ ap (λ (z : Ts). t.LeftParen ∷ (z ++ t.RightParen ∷ []))
              (parts_tokens m parts a trees (first_same _ _ _ _ e) (rest_same _ _ _ _ e))
              ∙ sym (apat_spelled (APatTree-F.Parts (pat_of (lpat_of a)) rest));
          good = apat_is (APatTree-F.Parts (pat_of (lpat_of a)) rest)
              ∙ and_from (nat_lt (length (map is_pat rest)) 15)
              (is_pat (pat_of (lpat_of a)) && all_of (map is_pat rest))
              (few _ _ _ (mapped trees) (one_less _ _ n) few')
              (and_from (is_pat (pat_of (lpat_of a))) (all_of (map is_pat rest)) (apat_good a goods.0)
              (pats_good trees goods.1));
        }

list_pat : (parts : List Marks) → APatsOf parts → APatOf (listed (parted parts))
list_pat [] it = record {
  tree = roll-APatTree (APatTree-F.Con g.List);
  spelled = sym (apat_spelled (APatTree-F.Con g.List));
  good = apat_is (APatTree-F.Con g.List);
}
list_pat (m ∷ parts) it = by it.trees it.spelled it.good
  where
    by : (trees : List APatTree) → map seen (m ∷ parts) ≡ map spelling_apat trees → all_of (map is_apat trees) ≡ true
        → APatOf (listed (parted (m ∷ parts)))
    by [] e h = cc
    by (a ∷ trees) e h =
        let goods = and_parts (is_apat a) (all_of (map is_apat trees)) h in
        let rest = map (λ x. pat_of (lpat_of x)) trees in
        record {
          tree = roll-APatTree (APatTree-F.List (pat_of (lpat_of a)) rest);
          spelled = seen_listed (parted (m ∷ parts))
              ∙ ap (λ (z : Ts). t.LeftBracket ∷ (z ++ t.RightBracket ∷ []))
              (parts_tokens m parts a trees (first_same _ _ _ _ e) (rest_same _ _ _ _ e))
              ∙ sym (apat_spelled (APatTree-F.List (pat_of (lpat_of a)) rest));
          good = apat_is (APatTree-F.List (pat_of (lpat_of a)) rest)
              ∙ and_from (is_pat (pat_of (lpat_of a))) (all_of (map is_pat rest)) (apat_good a goods.0)
              (pats_good trees goods.1);
        }

-- ---- constructors with arguments

con_pat : (name : Marks) (parts : List Marks) → ConOf name → APatsOf parts → APatOf (con_pat_marks name parts)
con_pat name [] con it = record {
  tree = roll-APatTree (APatTree-F.Con con.tree);
  spelled = con.spelled ∙ sym (apat_spelled (APatTree-F.Con con.tree));
  good = apat_is (APatTree-F.Con con.tree) ∙ con.good;
}
con_pat name (m ∷ parts) con it = by it.trees it.spelled it.good
  where
    by : (trees : List APatTree) → map seen (m ∷ parts) ≡ map spelling_apat trees → all_of (map is_apat trees) ≡ true
        → APatOf (con_pat_marks name (m ∷ parts))
    by [] e h = cc
    by (a ∷ trees) e h =
        in_brackets (name ++ spaced (m ∷ parts)) (roll-LPatTree (LPatTree-F.Apply con.tree a trees))
        (seen_both name (spaced (m ∷ parts))
        ∙ (λ i. con.spelled i ++ (seen_spaced (m ∷ parts) ∙ ap (flat_map (λ (part : Ts). part)) e) i)
        ∙ sym (lpat_spelled (LPatTree-F.Apply con.tree a trees)))
        (lpat_is (LPatTree-F.Apply con.tree a trees)
        ∙ and_from (is_gcon con.tree) (is_apat a && all_of (map is_apat trees)) con.good h)

-- ---- patterns

signed_pat : (negative : Bool) (value : ℕ) → APatOf (signed_marks negative value)
signed_pat false value = record {
  tree = roll-APatTree (APatTree-F.Literal (l.Integer (decimal value)));
  spelled = sym (apat_spelled (APatTree-F.Literal (l.Integer (decimal value))));
  good = apat_is (APatTree-F.Literal (l.Integer (decimal value)));
}
signed_pat true value =
    in_brackets (Mark.word (t.VarSym minus) ∷ integer_mark value ∷ [])
    (roll-LPatTree (LPatTree-F.Negative (decimal value))) (sym (lpat_spelled (LPatTree-F.Negative (decimal value))))
    (lpat_is (LPatTree-F.Negative (decimal value)))

mutual
  pub pat_spells : (pat : Pat) → is_printable_pat pat ≡ true → APatOf (pat_marks pat)
  pat_spells (PVar name) e = record {
    tree = roll-APatTree (APatTree-F.Var (var_of name).tree);
    spelled = (var_of name).spelled ∙ sym (apat_spelled (APatTree-F.Var (var_of name).tree));
    good = apat_is (APatTree-F.Var (var_of name).tree);
  }
  pat_spells PWild e = record {
    tree = roll-APatTree APatTree-F.Wild;
    spelled = sym (apat_spelled APatTree-F.Wild);
    good = apat_is APatTree-F.Wild;
  }
  pat_spells (PInt negative value) e = signed_pat negative value
  pat_spells (PChr code) e =
      let text = 39 ∷ (char_bytes 39 code ++ 39 ∷ []) in
      record {
        tree = roll-APatTree (APatTree-F.Literal (l.Char text));
        spelled = sym (apat_spelled (APatTree-F.Literal (l.Char text)));
        good = apat_is (APatTree-F.Literal (l.Char text));
      }
  pat_spells (PStr codes) e =
      let text = 34 ∷ (string_bytes codes ++ 34 ∷ []) in
      record {
        tree = roll-APatTree (APatTree-F.Literal (l.Text text));
        spelled = sym (apat_spelled (APatTree-F.Literal (l.Text text)));
        good = apat_is (APatTree-F.Literal (l.Text text));
      }
  pat_spells (PCon' name s ps) e =
      let h = and_parts (constructs (form_of name.occ) (length name.occ - 2)) (are_printable_pats ps) e in
      con_pat (global_marks name) (pats_marks ps) (con_of name h.0) (pats_spell ps h.1)
  pat_spells (PTuple' s ps) e =
      let h = and_parts (nat_le (length (pats_marks ps)) 15) (are_printable_pats ps) e in
      tuple_pat (pats_marks ps) h.0 (pats_spell ps h.1)
  pat_spells (PList' s ps) e = list_pat (pats_marks ps) (pats_spell ps e)
  pat_spells (PAs' name s (more_of-Pat inner end_of-Pat)) e =
      let it = pat_spells inner e in
      record {
        tree = roll-APatTree (APatTree-F.As (var_of name).tree it.tree);
        spelled = seen_both (bare_marks name) (Mark.word t.At ∷ pat_marks inner)
            ∙ (λ i. (var_of name).spelled i ++ t.At ∷ it.spelled i)
            ∙ sym (apat_spelled (APatTree-F.As (var_of name).tree it.tree));
        good = apat_is (APatTree-F.As (var_of name).tree it.tree) ∙ it.good;
      }
  pat_spells (PLazy' s (more_of-Pat inner end_of-Pat)) e =
      let it = pat_spells inner e in
      let lazy = roll-APatTree (APatTree-F.Lazy it.tree) in
      in_brackets (Mark.word t.Tilde ∷ pat_marks inner) (lpat_of lazy)
      (ap (λ (z : Ts). t.Tilde ∷ z) it.spelled ∙ sym (lpat_spelled (LPatTree-F.APat lazy)
      ∙ apat_spelled (APatTree-F.Lazy it.tree)))
      (lpat_is (LPatTree-F.APat lazy) ∙ apat_is (APatTree-F.Lazy it.tree) ∙ it.good)

  pub pats_spell : {m : _} (ps : Row_of-Pat m) → are_printable_pats ps ≡ true → APatsOf (pats_marks ps)
  pats_spell end_of-Pat e = no_pats
  pats_spell (more_of-Pat pat ps) e =
      let h = and_parts (is_printable_pat pat) (are_printable_pats ps) e in
      more_pats (pat_marks pat) (pats_marks ps) (pat_spells pat h.0) (pats_spell ps h.1)

pub patterns_spelled : PatternsAreSpelled
patterns_spelled pat e =
    let it = pat_spells pat e in
    (pat_of (lpat_of it.tree), (it.spelled ∙ sym (apat_tokens_are it.tree), (apat_good it.tree it.good, tt)))
