-- The type that a printable type's marks spell.
use Rattle.std.proofs.Common.{◌≡◌, ℕ, suc, zero, ◌-◌, Bool, true, false, List, [], ◌∷◌, ◌++◌, length, map, refl, sym}
use Rattle.std.proofs.Common.{ap, ◌∙◌}
use Rattle.std.proofs.Common.{append_assoc, arith}
use Rattle.std.specs.Prelude.{◌&&◌, ◌==◌, nat_lt, replicate, codes, if◌then◌else◌}
use Rattle.std.specs.List.{flat_map}
use Rattle.std.specs.Str.{bytes_eq}
use Rattle.std.proofs.lemmas.Bool.{and_parts, and_from, eqb-true, lt-ltb}
use Rattle.std.proofs.lemmas.Bool.Decides.{nat_tests}
use Rattle.std.proofs.lemmas.List.{append-nil}
use Rattle.bp_base.specs.declared.ty.OrigName.{OrigName}
use Rattle.hs_forms.specs.Limits.{all_of}
use Rattle.hs_tokens.specs.declared.terminal.Terminal.TheVariants as t
use Rattle.hs_trees.specs.declared.types.ATypeTree.{ATypeTree, ATypeTree-F, roll-ATypeTree}
use Rattle.hs_trees.specs.declared.types.BTypeTree.{BTypeTree, roll-BTypeTree}
use Rattle.hs_trees.specs.declared.types.TypeTree.{TypeTree, roll-TypeTree}
use Rattle.hs_trees.specs.Types.{spelling_atype, spelling_btype, spelling_type, is_atype, is_btype, is_type}
use Rattle.hs_trees.proofs.TypeLayerLemmas.{atype_spelled, btype_spelled, type_spelled, atype_is, btype_is, type_is}
use Rattle.hs_core.specs.declared.tree.Written.{Written}
use Rattle.hs_core.specs.declared.tree.Written.TheVariants.{WVar, WCon, WApp'}
use Rattle.hs_core.specs.declared.tree.Written.TheBlock.{end_of-Written, more_of-Written}
use Rattle.flat_text.specs.declared.name.NameForm.{NameForm}
use Rattle.flat_text.specs.declared.name.NameForm.TheVariants as f
use Rattle.flat_text.specs.declared.name.Place.TheVariants as p
use Rattle.flat_text.specs.declared.types.Applied.{Applied}
use Rattle.flat_text.specs.declared.types.Applied.TheVariants as a
use Rattle.flat_text.specs.declared.types.Head.{Head}
use Rattle.flat_text.specs.declared.types.Head.TheVariants as h
use Rattle.flat_text.specs.Marks.{Mark, Marks, seen, space, bracketed, listed}
use Rattle.flat_text.specs.Names.{form_of, plain_form, first_form, flat_name, global_by, global_marks}
use Rattle.flat_text.specs.TypeMarks.{Placed, TypeText, head_of, is_tuple_name, applied_form, list_marks, arrow_marks}
use Rattle.flat_text.specs.TypeMarks.{tuple_marks, application_marks, applied_marks, type_text, type_marks}
use Rattle.flat_spelled.specs.Printable.{names_type, is_printable_type}
use Rattle.flat_spelled.specs.Spelled.{TypesAreSpelled}
use Rattle.flat_spelled.proofs.SeenLemmas.{Ts, seen_both, seen_brackets, seen_listed, seen_commas}

pub record ATypeOf (ms : Marks) : Type 0 where
  pub tree : ATypeTree
  pub spelled : seen ms ≡ spelling_atype tree
  pub good : is_atype tree ≡ true

-- an application: a head and its arguments
pub record BTypeOf (ms : Marks) : Type 0 where
  pub first : ATypeTree
  pub rest : List ATypeTree
  pub spelled : seen ms ≡ spelling_atype first ++ flat_map spelling_atype rest
  pub good : is_atype first && all_of (map is_atype rest) ≡ true

-- a type: applications with arrows between them
pub record TypeOf (ms : Marks) : Type 0 where
  pub first : BTypeTree
  pub rest : List BTypeTree
  pub spelled : seen ms ≡ spelling_btype first ++ flat_map (λ x. t.Arrow ∷ spelling_btype x) rest
  pub good : is_btype first && all_of (map is_btype rest) ≡ true

abbrev pub tree_of : {ms : Marks} → TypeOf ms → TypeTree
tree_of it = roll-TypeTree (record { first = it.first; rest = it.rest })

-- the tree of a type's parts
tree_spelled : (ms : Marks) (it : TypeOf ms) → seen ms ≡ spelling_type (tree_of it)
tree_spelled ms it = it.spelled ∙ sym (type_spelled (record { first = it.first; rest = it.rest }))

tree_good : (ms : Marks) (it : TypeOf ms) → is_type (tree_of it) ≡ true
tree_good ms it = type_is (record { first = it.first; rest = it.rest }) ∙ it.good

as_btype : (ms : Marks) → ATypeOf ms → BTypeOf ms
as_btype ms it = record {
  first = it.tree;
  rest = [];
  spelled = it.spelled ∙ sym (append-nil (spelling_atype it.tree));
  good = and_from (is_atype it.tree) true it.good refl;
}

as_type : (ms : Marks) → BTypeOf ms → TypeOf ms
as_type ms it = record {
  first = roll-BTypeTree (record { first = it.first; rest = it.rest });
  rest = [];
  spelled = it.spelled ∙ sym (btype_spelled (record { first = it.first; rest = it.rest }))
      ∙ sym (append-nil (spelling_btype (roll-BTypeTree (record { first = it.first; rest = it.rest }))));
  good = and_from (is_btype (roll-BTypeTree (record { first = it.first; rest = it.rest }))) true
      (btype_is (record { first = it.first; rest = it.rest }) ∙ it.good) refl;
}

in_brackets : (ms : Marks) → TypeOf ms → ATypeOf (bracketed ms)
in_brackets ms it =
    let inner = tree_of it in
    record {
      tree = roll-ATypeTree (ATypeTree-F.Parts inner []);
      spelled = seen_brackets ms
          ∙ ap (λ (z : Ts). t.LeftParen ∷ (z ++ t.RightParen ∷ []))
          (tree_spelled ms it ∙ sym (append-nil (spelling_type inner)))
          ∙ sym (atype_spelled (ATypeTree-F.Parts inner []));
      good = atype_is (ATypeTree-F.Parts inner []) ∙ and_from (is_type inner) true (tree_good ms it) refl;
    }

in_list : (ms : Marks) → TypeOf ms → ATypeOf (listed ms)
in_list ms it =
    let inner = tree_of it in
    record {
      tree = roll-ATypeTree (ATypeTree-F.List inner);
      spelled = seen_listed ms ∙ ap (λ (z : Ts). t.LeftBracket ∷ (z ++ t.RightBracket ∷ [])) (tree_spelled ms it)
          ∙ sym (atype_spelled (ATypeTree-F.List inner));
      good = atype_is (ATypeTree-F.List inner) ∙ tree_good ms it;
    }

-- ---- a part at each place

pub record ArgOf (arg : Placed) : Type 0 where
  pub atom : ATypeOf (arg p.Atom)
  pub operand : BTypeOf (arg p.Operand)
  pub whole : TypeOf (arg p.Whole)

abbrev ArgsOf : List Placed → Type 0
ArgsOf [] = Unit {0}
ArgsOf (arg ∷ args) = ArgOf arg × ArgsOf args

more_args : (args : List Placed) (last : Placed) → ArgsOf args → ArgOf last → ArgsOf (args ++ last ∷ [])
more_args [] last g it = (it, tt)
more_args (arg ∷ args) last g it = (g.0, more_args args last g.1 it)

atomic : (ms : Marks) → ATypeOf ms → ArgOf (λ place. ms)
atomic ms it = record { atom = it; operand = as_btype ms it; whole = as_type ms (as_btype ms it) }

-- ---- arrows

arrows : (args : List Placed) (last : Placed) → ArgsOf args → ArgOf last → TypeOf (arrow_marks args last)
arrows [] last g it = it.whole
arrows (arg ∷ args) last g it =
    let rest = arrows args last g.1 it in
    let one = roll-BTypeTree (record { first = g.0.operand.first; rest = g.0.operand.rest }) in
    let tail = flat_map (λ (x : Placed). x p.Operand ++ space ∷ Mark.word t.Arrow ∷ space ∷ []) args in
    record {
      first = one;
      rest = rest.first ∷ rest.rest;
      spelled = ap seen (append_assoc (arg p.Operand ++ space ∷ Mark.word t.Arrow ∷ space ∷ []) tail (last p.Whole)
          ∙ append_assoc (arg p.Operand) (space ∷ Mark.word t.Arrow ∷ space ∷ []) (tail ++ last p.Whole))
          ∙ seen_both (arg p.Operand) (space ∷ Mark.word t.Arrow ∷ space ∷ (tail ++ last p.Whole))
          ∙ (λ i. (g.0.operand.spelled ∙ sym (btype_spelled (record
          { first = g.0.operand.first; rest = g.0.operand.rest }))) i
          ++ t.Arrow ∷ rest.spelled i);
      good = and_from (is_btype one) (is_btype rest.first && all_of (map is_btype rest.rest))
          (btype_is (record { first = g.0.operand.first; rest = g.0.operand.rest }) ∙ g.0.operand.good) rest.good;
    }

-- ---- tuples

record PartsOf (count : ℕ) (ms : Marks) : Type 0 where
  first : TypeTree
  rest : List TypeTree
  spelled : seen ms ≡ spelling_type first ++ flat_map (λ (part : Ts). t.Comma ∷ part) (map spelling_type rest)
  good : is_type first && all_of (map is_type rest) ≡ true
  as_many : length (map is_type rest) ≡ count

parts : (args : List Placed) (last : Placed) → ArgsOf args → ArgOf last
    → PartsOf (length args) (flat_map (λ (arg : Placed). arg p.Whole ++ Mark.word t.Comma ∷ space ∷ []) args
    ++ last p.Whole)
parts [] last g it = record {
  first = tree_of it.whole;
  rest = [];
  spelled = tree_spelled (last p.Whole) it.whole ∙ sym (append-nil (spelling_type (tree_of it.whole)));
  good = and_from (is_type (tree_of it.whole)) true (tree_good (last p.Whole) it.whole) refl;
  as_many = refl;
}
parts (arg ∷ args) last g it =
    let rest = parts args last g.1 it in
    let tail = flat_map (λ (x : Placed). x p.Whole ++ Mark.word t.Comma ∷ space ∷ []) args in
    record {
      first = tree_of g.0.whole;
      rest = rest.first ∷ rest.rest;
      spelled = ap seen (append_assoc (arg p.Whole ++ Mark.word t.Comma ∷ space ∷ []) tail (last p.Whole)
          ∙ append_assoc (arg p.Whole) (Mark.word t.Comma ∷ space ∷ []) (tail ++ last p.Whole))
          ∙ seen_both (arg p.Whole) (Mark.word t.Comma ∷ space ∷ (tail ++ last p.Whole))
          ∙ (λ i. tree_spelled (arg p.Whole) g.0.whole i ++ t.Comma ∷ rest.spelled i);
      good = and_from (is_type (tree_of g.0.whole)) (is_type rest.first && all_of (map is_type rest.rest))
          (tree_good (arg p.Whole) g.0.whole) rest.good;
      as_many = ap suc rest.as_many;
    }

tuple : (args : List Placed) (last : Placed) → nat_lt (length args) 15 ≡ true → ArgsOf args → ArgOf last
    → ATypeOf (tuple_marks args last)
tuple args last few g it =
    let all = parts args last g it in
    let ms = flat_map (λ (arg : Placed). arg p.Whole ++ Mark.word t.Comma ∷ space ∷ []) args ++ last p.Whole in
    record {
      tree = roll-ATypeTree (ATypeTree-F.Parts all.first all.rest);
      spelled = seen_brackets ms ∙ ap (λ (z : Ts). t.LeftParen ∷ (z ++ t.RightParen ∷ [])) all.spelled
          ∙ sym (atype_spelled (ATypeTree-F.Parts all.first all.rest));
      good = atype_is (ATypeTree-F.Parts all.first all.rest)
          ∙ and_from (nat_lt (length (map is_type all.rest)) 15) (is_type all.first && all_of (map is_type all.rest))
          (ap (λ n. nat_lt n 15) all.as_many ∙ few) all.good;
    }

-- ---- applications

record ATypesOf (ms : Marks) : Type 0 where
  trees : List ATypeTree
  spelled : seen ms ≡ flat_map spelling_atype trees
  good : all_of (map is_atype trees) ≡ true

fronts : (args : List Placed) (last : Placed) → ArgsOf args → ArgOf last
    → ATypesOf (flat_map (λ (arg : Placed). space ∷ arg p.Atom) args ++ space ∷ last p.Atom)
fronts [] last g it = record {
  trees = it.atom.tree ∷ [];
  spelled = it.atom.spelled ∙ sym (append-nil (spelling_atype it.atom.tree));
  good = and_from (is_atype it.atom.tree) true it.atom.good refl;
}
fronts (arg ∷ args) last g it =
    let rest = fronts args last g.1 it in
    let tail = flat_map (λ (x : Placed). space ∷ x p.Atom) args in
    record {
      trees = g.0.atom.tree ∷ rest.trees;
      spelled = ap seen (append_assoc (arg p.Atom) tail (space ∷ last p.Atom))
          ∙ seen_both (arg p.Atom) (tail ++ space ∷ last p.Atom) ∙ (λ i. g.0.atom.spelled i ++ rest.spelled i);
      good = and_from (is_atype g.0.atom.tree) (all_of (map is_atype rest.trees)) g.0.atom.good rest.good;
    }

application : (name : Marks) (args : List Placed) (last : Placed) → ATypeOf name → ArgsOf args → ArgOf last
    → BTypeOf (application_marks name args last)
application name args last n g it =
    let rest = fronts args last g it in
    record {
      first = n.tree;
      rest = rest.trees;
      spelled = seen_both name (flat_map (λ (arg : Placed). space ∷ arg p.Atom) args ++ space ∷ last p.Atom)
          ∙ (λ i. n.spelled i ++ rest.spelled i);
      good = and_from (is_atype n.tree) (all_of (map is_atype rest.trees)) n.good rest.good;
    }

-- ---- what is applied to one argument more

abbrev small_head : Head → Type 0
small_head (h.Tuple commas) = nat_lt commas 15 ≡ true
small_head _ = Unit {0}

few_args : (head : Head) (n : ℕ) → small_head head → applied_form head n ≡ a.Tuple → nat_lt n 15 ≡ true
few_args h.List n small e = no (n == 0) e
  where
    no : (v : Bool) → (if v then a.List else a.Other) ≡ a.Tuple → nat_lt n 15 ≡ true
    no true e = cc
    no false e = cc
few_args h.Arrow n small e = no (n == 1) e
  where
    no : (v : Bool) → (if v then a.Arrow else a.Other) ≡ a.Tuple → nat_lt n 15 ≡ true
    no true e = cc
    no false e = cc
few_args (h.Tuple commas) n small e = by (n == commas) refl e
  where
    by : (v : Bool) → n == commas ≡ v → (if v then a.Tuple else a.Other) ≡ a.Tuple → nat_lt n 15 ≡ true
    by true is e = ap (λ m. nat_lt m 15) (eqb-true n commas is) ∙ small
    by false is e = cc
few_args h.Other n small e = cc

applied : (form : Applied) (name : Marks) (args : List Placed) (last : Placed)
    → (form ≡ a.Tuple → nat_lt (length args) 15 ≡ true) → ATypeOf name → ArgsOf args → ArgOf last
    → ArgOf (applied_marks form name args last)
applied a.List name args last few n g it =
    let list = in_list (last p.Whole) it.whole in
    record {
      atom = list;
      operand = as_btype (list_marks last) list;
      whole =
          as_type (list_marks last) (as_btype (list_marks last) list);
    }
applied a.Arrow name args last few n g it =
    let ms = arrow_marks args last in
    let chain = arrows args last g it in
    let atom = in_brackets ms chain in
    record { atom = atom; operand = as_btype (bracketed ms) atom; whole = chain }
applied a.Tuple name args last few n g it =
    let ms = tuple_marks args last in
    let atom = tuple args last (few refl) g it in
    record { atom = atom; operand = as_btype ms atom; whole = as_type ms (as_btype ms atom) }
applied a.Other name args last few n g it =
    let ms = application_marks name args last in
    let operand = application name args last n g it in
    record { atom = in_brackets ms (as_type ms operand); operand = operand; whole = as_type ms operand }

-- ---- names

count_name : (count : ℕ) → nat_lt count 15 ≡ true → ATypeOf (bracketed (replicate count (Mark.word t.Comma)))
count_name zero e = record {
  tree = roll-ATypeTree ATypeTree-F.Unit;
  spelled = sym (atype_spelled ATypeTree-F.Unit);
  good = atype_is ATypeTree-F.Unit;
}
count_name (suc count) e = record {
  tree = roll-ATypeTree (ATypeTree-F.TupleCon (suc count));
  spelled = seen_brackets (replicate (suc count) (Mark.word t.Comma))
      ∙ ap (λ (z : Ts). t.LeftParen ∷ (z ++ t.RightParen ∷ [])) (seen_commas (suc count))
      ∙ sym (atype_spelled (ATypeTree-F.TupleCon (suc count)));
  good = atype_is (ATypeTree-F.TupleCon (suc count)) ∙ and_from (nat_lt 0 (suc count)) (nat_lt (suc count) 15)
      (lt-ltb 0 (suc count) (omega arith)) e;
}

name_by : (form : NameForm) (occ flat : List ℕ) → names_type form (length occ - 2) ≡ true
    → ATypeOf (global_by form occ flat)
name_by f.Con occ flat e = record {
  tree = roll-ATypeTree (ATypeTree-F.Con flat);
  spelled = sym (atype_spelled (ATypeTree-F.Con flat));
  good = atype_is (ATypeTree-F.Con flat);
}
name_by f.Arrow occ flat e = record {
  tree = roll-ATypeTree ATypeTree-F.ArrowCon;
  spelled = sym (atype_spelled ATypeTree-F.ArrowCon);
  good = atype_is ATypeTree-F.ArrowCon;
}
name_by f.List occ flat e = record {
  tree = roll-ATypeTree ATypeTree-F.ListCon;
  spelled = sym (atype_spelled ATypeTree-F.ListCon);
  good = atype_is ATypeTree-F.ListCon;
}
name_by f.Tuple occ flat e = count_name (length occ - 2) e
name_by f.Var occ flat e = cc
name_by f.VarSym occ flat e = cc
name_by f.ConSym occ flat e = cc
name_by f.Colon occ flat e = cc

name_of : (name : OrigName) → names_type (form_of name.occ) (length name.occ - 2) ≡ true → ATypeOf (global_marks name)
unfolding global_marks
name_of name e = name_by (form_of name.occ) name.occ (flat_name name) e

-- a tuple's name begins with a bracket
bracket_first : (b : ℕ) → b == 40 ≡ true → first_form b ≡ f.Tuple
bracket_first b e = ap first_form (eqb-true b 40 e)

tuple_form : (occ : List ℕ) → is_tuple_name occ ≡ true → plain_form occ ≡ f.Tuple
tuple_form [] e = cc
tuple_form (b ∷ []) e = cc
tuple_form (b ∷ c ∷ rest) e = bracket_first b (and_parts (b == 40) (c == 44) e).0

head_small : (occ : List ℕ) → names_type (form_of occ) (length occ - 2) ≡ true → small_head (head_of occ)
head_small occ e = by (bytes_eq occ (codes "[]")) (bytes_eq occ (codes "->")) (bytes_eq occ (codes ":"))
    (is_tuple_name occ) refl e
  where
    by : (v w x y : Bool) → is_tuple_name occ ≡ y
        → names_type (if v then f.List else (if w then f.Arrow else (if x then f.Colon else plain_form occ)))
        (length occ - 2) ≡ true
        → small_head (if v then h.List else (if w then h.Arrow else (if y then h.Tuple (length occ - 2) else h.Other)))
    by true w x y is e = tt
    by false true x y is e = tt
    by false false x false is e = tt
    by false false true true is e = cc
    by false false false true is e = sym (ap (λ form. names_type form (length occ - 2)) (tuple_form occ is)) ∙ e

-- ---- types

record TextOf (ty : TypeText) : Type 0 where
  small : small_head ty.head
  name : ATypeOf ty.name
  args : ArgsOf ty.args
  text : ArgOf ty.text

type_spells : (ty : Written) → is_printable_type ty ≡ true → TextOf (type_text ty)
type_spells (WVar name) e =
    let it : ATypeOf (Mark.word (t.Var name) ∷ []) = record {
      tree = roll-ATypeTree (ATypeTree-F.Var name);
      spelled = sym (atype_spelled (ATypeTree-F.Var name));
      good = atype_is (ATypeTree-F.Var name);
    } in
    record { small = tt; name = it; args = tt; text = atomic (Mark.word (t.Var name) ∷ []) it }
type_spells (WCon name) e = record {
  small = head_small name.occ e;
  name = name_of name e;
  args = tt;
  text = atomic (global_marks name) (name_of name e);
}
type_spells (WApp' s (more_of-Written g end_of-Written) z (more_of-Written x end_of-Written)) e =
    let both = and_parts (is_printable_type g) (is_printable_type x) e in
    let fun = type_spells g both.0 in
    let last = type_spells x both.1 in
    let args = (type_text g).args in
    record {
      small = fun.small;
      name = fun.name;
      args = more_args args (type_text x).text fun.args last.text;
      text = applied (applied_form (type_text g).head (length args)) (type_text g).name args (type_text x).text
          (few_args (type_text g).head (length args) fun.small) fun.name fun.args last.text;
    }

pub type_at : (ty : Written) → is_printable_type ty ≡ true → ArgOf (type_marks ty)
unfolding type_marks
type_at ty e = (type_spells ty e).text

pub types_spelled : TypesAreSpelled
types_spelled ty e =
    let it = (type_at ty e).whole in
    (tree_of it, (tree_spelled (type_marks ty p.Whole) it, (tree_good (type_marks ty p.Whole) it, tt)))
