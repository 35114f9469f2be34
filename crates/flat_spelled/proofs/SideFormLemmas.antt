-- The right side, alternative or declaration that marks of each form spell, from what their parts spell.
use Rattle.std.proofs.Common.{◌≡◌, ℕ, ◌+◌, ◌/◌, ◌%◌, ◌^◌, ◌<◌, ◌≤◌, Bool, true, List, [], ◌∷◌, ◌++◌, map, refl, sym}
use Rattle.std.proofs.Common.{ap, ◌∙◌}
use Rattle.std.proofs.Common.{append_assoc, arith}
use Rattle.std.specs.Prelude.{Some, ◌&&◌, nat_le}
use Rattle.std.specs.List.{flat_map}
use Rattle.std.specs.Fmt.{decimal}
use Rattle.std.proofs.lemmas.Bool.{and_from, and_parts}
use Rattle.std.proofs.lemmas.Bool.Decides.{nat_tests}
use Rattle.std.proofs.lemmas.Fmt.{decimal_by_steps}
use Rattle.std.proofs.lemmas.List.{append-nil}
use Rattle.bp_base.specs.declared.entity.Assoc.{Assoc}
use Rattle.bp_base.specs.declared.entity.Assoc.TheVariants as s
use Rattle.bp_base.specs.declared.entity.Fixity.{Fixity}
use Rattle.hs_forms.specs.Limits.{all_of}
use Rattle.hs_tokens.specs.declared.terminal.Terminal.TheVariants as t
use Rattle.hs_tokens.specs.declared.word.Word.TheVariants as w
use Rattle.hs_trees.specs.Patterns.{var_tokens, spelling_apat, is_apat}
use Rattle.hs_trees.specs.Types.{spelling_type, is_type}
use Rattle.hs_trees.specs.declared.patterns.APatTree.{APatTree, APatTree-F, roll-APatTree}
use Rattle.hs_trees.specs.declared.types.TypeTree.{TypeTree}
use Rattle.hs_trees.proofs.PatternLayerLemmas.{apat_spelled, apat_is}
use Rattle.hs_modules.specs.declared.declarations.Fixity.{Fixity as FixityWord}
use Rattle.hs_modules.specs.declared.declarations.Fixity.TheVariants as x
use Rattle.hs_modules.specs.declared.names.OpTree.{OpTree}
use Rattle.hs_modules.specs.declared.names.OpTree.TheVariants as o
use Rattle.hs_modules.specs.declared.names.VarOpTree.TheVariants as v
use Rattle.hs_modules.specs.declared.names.ConOpTree.TheVariants as c
use Rattle.hs_modules.specs.declared.expressions.AltBody.{AltBody, AltBody-F, roll-AltBody}
use Rattle.hs_modules.specs.declared.expressions.AltTree.{AltTree, roll-AltTree}
use Rattle.hs_modules.specs.declared.expressions.DeclTree.{DeclTree, DeclTree-F, roll-DeclTree}
use Rattle.hs_modules.specs.declared.expressions.GdTree.{GdTree}
use Rattle.hs_modules.specs.declared.expressions.GdaTree.{GdaTree}
use Rattle.hs_modules.specs.declared.expressions.GuardTree.{GuardTree}
use Rattle.hs_modules.specs.declared.expressions.RhsBody.{RhsBody, RhsBody-F, roll-RhsBody}
use Rattle.hs_modules.specs.declared.expressions.RhsTree.{RhsTree, roll-RhsTree}
use Rattle.hs_modules.specs.Words.{op_tokens, is_operator}
use Rattle.hs_modules.specs.Tokens.{fixity_word, spelling_alt, spelling_alt_body, spelling_decl, spelling_gd}
use Rattle.hs_modules.specs.Tokens.{spelling_gda, spelling_guard, spelling_locals, spelling_rhs, spelling_rhs_body}
use Rattle.hs_modules.specs.Formed.{all_good, facts_of_alt, facts_of_alt_body, facts_of_decl, facts_of_gd}
use Rattle.hs_modules.specs.Formed.{facts_of_gda, facts_of_rhs, facts_of_rhs_body, is_level}
use Rattle.flat_text.specs.declared.expression.Sign.TheVariants as n
use Rattle.flat_text.specs.declared.name.NameForm.{NameForm}
use Rattle.flat_text.specs.declared.name.NameForm.TheVariants as f
use Rattle.flat_text.specs.Marks.{Mark, Marks, seen, space, led, spaced}
use Rattle.flat_text.specs.Names.{form_of, bare_marks, bare_op_by, bare_op}
use Rattle.flat_text.specs.ExpressionMarks.{signed, choice_marks, where_marks, fixity_marks}
use Rattle.flat_spelled.specs.Printable.{is_some, is_shape, declares_op}
use Rattle.flat_spelled.proofs.SeenLemmas.{Ts, seen_both, seen_spaced, seen_more}
use Rattle.flat_spelled.proofs.PatternLemmas.{APatOf, APatsOf, var_of, pat_of, lpat_of, apat_tokens_are}
use Rattle.flat_spelled.proofs.PatternLemmas.{apat_good, first_same, rest_same}
use Rattle.flat_spelled.proofs.LayerLemmas.{between_semicolons, decl_block_tokens}
use Rattle.flat_spelled.proofs.SideLayerLemmas.{test_of, bind_of, test_tokens, bind_tokens, guard_ok, test_ok, bind_ok}
use Rattle.flat_spelled.proofs.SideLayerLemmas.{guarded_tokens, gd_of, gd_tokens, gd_good, gda_of, gda_tokens, gda_good}
use Rattle.flat_spelled.proofs.SideLayerLemmas.{equals_tokens, equals_good, guarded_equals_tokens, guarded_equals_good}
use Rattle.flat_spelled.proofs.SideLayerLemmas.{arrow_tokens, arrow_good, guarded_arrows_tokens, guarded_arrows_good}
use Rattle.flat_spelled.proofs.SideLayerLemmas.{locals_of, no_locals_tokens, locals_tokens_are, locals_good}
use Rattle.flat_spelled.proofs.SideLayerLemmas.{rhs_tokens_are, rhs_good, alt_tokens_are, alt_good, signature_tokens}
use Rattle.flat_spelled.proofs.SideLayerLemmas.{signature_good, fixity_tokens, fixity_good, pattern_tokens}
use Rattle.flat_spelled.proofs.SideLayerLemmas.{pattern_good}
use Rattle.flat_spelled.proofs.SideLayerLemmas.{prefix_of, function_tokens, function_good}
use Rattle.flat_spelled.proofs.ExpressionFormLemmas.{AExpOf, ExpOf, DeclsOf, seen_block, flat_mapped}

-- ---- guards

pub record GuardOf (ms : Marks) : Type 0 where
  pub tree : GuardTree
  pub spelled : seen ms ≡ spelling_guard tree
  pub ok : guard_ok tree ≡ true

pub record GuardsOf (parts : List Marks) : Type 0 where
  pub trees : List GuardTree
  pub spelled : map seen parts ≡ map spelling_guard trees
  pub ok : all_of (map guard_ok trees) ≡ true

pub test_guard : (ms : Marks) → AExpOf ms → GuardOf ms
test_guard ms it = record {
  tree = test_of it.tree;
  spelled = it.spelled ∙ sym (test_tokens it.tree);
  ok = test_ok it.tree it.good;
}

pub bind_guard : (pat ms : Marks) → APatOf pat → AExpOf ms → GuardOf (pat ++ (signed t.LeftArrow ++ ms))
bind_guard pat ms p it = record {
  tree = bind_of (pat_of (lpat_of p.tree)) it.tree;
  spelled = seen_both pat (signed t.LeftArrow ++ ms)
      ∙ (λ i. (p.spelled ∙ sym (apat_tokens_are p.tree)) i ++ t.LeftArrow ∷ it.spelled i)
      ∙ sym (bind_tokens (pat_of (lpat_of p.tree)) it.tree);
  ok = bind_ok (pat_of (lpat_of p.tree)) it.tree (apat_good p.tree p.good) it.good;
}

pub no_guards : GuardsOf []
no_guards = record { trees = []; spelled = refl; ok = refl }

pub more_guards : (ms : Marks) (parts : List Marks) → GuardOf ms → GuardsOf parts → GuardsOf (ms ∷ parts)
more_guards ms parts it rest = record {
  trees = it.tree ∷ rest.trees;
  spelled = λ i. it.spelled i ∷ rest.spelled i;
  ok = and_from (guard_ok it.tree) (all_of (map guard_ok rest.trees)) it.ok rest.ok;
}

-- guards behind their bar
seen_guards : (m : Marks) (parts : List Marks) (g : GuardTree) (gs : List GuardTree)
    → map seen (m ∷ parts) ≡ map spelling_guard (g ∷ gs)
    → seen (led (signed t.Bar) (Mark.word t.Comma ∷ space ∷ []) (m ∷ parts)) ≡ guarded_tokens g gs
seen_guards m parts g gs e =
    ap (λ (z : Ts). t.Bar ∷ z)
    (seen_both m (led (Mark.word t.Comma ∷ space ∷ []) (Mark.word t.Comma ∷ space ∷ []) parts)
    ∙ (λ i. first_same _ _ _ _ e i
    ++ (seen_more t.Comma parts ∙ ap (flat_map (λ (it : Ts). t.Comma ∷ it)) (rest_same _ _ _ _ e)) i))

-- ---- a choice behind guards

pub record ChoiceOf (parts : List Marks) (ms : Marks) : Type 0 where
  pub guards : GuardsOf parts
  pub exp : ExpOf ms

pub record GdsOf (ms : Marks) : Type 0 where
  pub trees : List GdTree
  pub spelled : seen ms ≡ flat_map (λ (part : Ts). part) (map spelling_gd trees)
  pub good : all_good (map facts_of_gd trees) ≡ true

pub record GdasOf (ms : Marks) : Type 0 where
  pub trees : List GdaTree
  pub spelled : seen ms ≡ flat_map (λ (part : Ts). part) (map spelling_gda trees)
  pub good : all_good (map facts_of_gda trees) ≡ true

record GdOf (ms : Marks) : Type 0 where
  tree : GdTree
  spelled : seen ms ≡ spelling_gd tree
  good : (facts_of_gd tree).good ≡ true

record GdaOf (ms : Marks) : Type 0 where
  tree : GdaTree
  spelled : seen ms ≡ spelling_gda tree
  good : (facts_of_gda tree).good ≡ true

gd_choice : (parts : List Marks) (ms : Marks) → is_some parts ≡ true → ChoiceOf parts ms
    → GdOf (choice_marks n.Equals parts ms)
gd_choice [] ms e it = cc
gd_choice (m ∷ parts) ms e it = by it.guards.trees it.guards.spelled it.guards.ok
  where
    by : (trees : List GuardTree) → map seen (m ∷ parts) ≡ map spelling_guard trees → all_of (map guard_ok trees) ≡ true
        → GdOf (choice_marks n.Equals (m ∷ parts) ms)
    by [] h k = cc
    by (g ∷ gs) h k =
        let goods = and_parts (guard_ok g) (all_of (map guard_ok gs)) k in
        record {
          tree = gd_of g gs it.exp.tree;
          spelled = seen_both (led (signed t.Bar) (Mark.word t.Comma ∷ space ∷ []) (m ∷ parts)) (signed t.Equals ++ ms)
              ∙ (λ i. seen_guards m parts g gs h i ++ t.Equals ∷ it.exp.spelled i)
              ∙ sym (gd_tokens g gs it.exp.tree);
          good = gd_good g gs it.exp.tree goods.0 goods.1 it.exp.good;
        }

gda_choice : (parts : List Marks) (ms : Marks) → is_some parts ≡ true → ChoiceOf parts ms
    → GdaOf (choice_marks n.Arrow parts ms)
gda_choice [] ms e it = cc
gda_choice (m ∷ parts) ms e it = by it.guards.trees it.guards.spelled it.guards.ok
  where
    by : (trees : List GuardTree) → map seen (m ∷ parts) ≡ map spelling_guard trees → all_of (map guard_ok trees) ≡ true
        → GdaOf (choice_marks n.Arrow (m ∷ parts) ms)
    by [] h k = cc
    by (g ∷ gs) h k =
        let goods = and_parts (guard_ok g) (all_of (map guard_ok gs)) k in
        record {
          tree = gda_of g gs it.exp.tree;
          spelled = seen_both (led (signed t.Bar) (Mark.word t.Comma ∷ space ∷ []) (m ∷ parts)) (signed t.Arrow ++ ms)
              ∙ (λ i. seen_guards m parts g gs h i ++ t.Arrow ∷ it.exp.spelled i)
              ∙ sym (gda_tokens g gs it.exp.tree);
          good = gda_good g gs it.exp.tree goods.0 goods.1 it.exp.good;
        }

pub no_gds : GdsOf []
no_gds = record { trees = []; spelled = refl; good = refl }

pub more_gds : (parts : List Marks) (ms rest : Marks) → is_some parts ≡ true → ChoiceOf parts ms → GdsOf rest
    → GdsOf (choice_marks n.Equals parts ms ++ rest)
more_gds parts ms rest e it more =
    let one = gd_choice parts ms e it in
    record {
      trees = one.tree ∷ more.trees;
      spelled = seen_both (choice_marks n.Equals parts ms) rest ∙ (λ i. one.spelled i ++ more.spelled i);
      good = and_from (facts_of_gd one.tree).good (all_good (map facts_of_gd more.trees)) one.good more.good;
    }

pub no_gdas : GdasOf []
no_gdas = record { trees = []; spelled = refl; good = refl }

pub more_gdas : (parts : List Marks) (ms rest : Marks) → is_some parts ≡ true → ChoiceOf parts ms → GdasOf rest
    → GdasOf (choice_marks n.Arrow parts ms ++ rest)
more_gdas parts ms rest e it more =
    let one = gda_choice parts ms e it in
    record {
      trees = one.tree ∷ more.trees;
      spelled = seen_both (choice_marks n.Arrow parts ms) rest ∙ (λ i. one.spelled i ++ more.spelled i);
      good = and_from (facts_of_gda one.tree).good (all_good (map facts_of_gda more.trees)) one.good more.good;
    }

-- ---- all choices of a right side: one without guards, or each with guards

pub record BodyOf (ms : Marks) : Type 0 where
  pub tree : RhsBody
  pub spelled : seen ms ≡ spelling_rhs_body tree
  pub good : (facts_of_rhs_body tree).good ≡ true

pub record AltBodyOf (ms : Marks) : Type 0 where
  pub tree : AltBody
  pub spelled : seen ms ≡ spelling_alt_body tree
  pub good : (facts_of_alt_body tree).good ≡ true

pub rhs_body : (parts : List Marks) (ms rest : Marks) (flags : List Bool) → is_shape (is_some parts ∷ flags) ≡ true
    → ChoiceOf parts ms → (flags ≡ [] → rest ≡ []) → (all_of flags ≡ true → GdsOf rest)
    → BodyOf (choice_marks n.Equals parts ms ++ rest)
rhs_body [] ms rest [] e it none more = record {
  tree = roll-RhsBody (RhsBody-F.Equals it.exp.tree);
  spelled = ap (λ (z : Ts). t.Equals ∷ z)
      (ap (λ (r : Marks). seen (ms ++ r)) (none refl) ∙ ap seen (append-nil ms) ∙ it.exp.spelled)
      ∙ sym (equals_tokens it.exp.tree);
  good = equals_good it.exp.tree it.exp.good;
}
rhs_body [] ms rest (flag ∷ flags) e it none more = cc
rhs_body (m ∷ parts) ms rest flags e it none more =
    let one = gd_choice (m ∷ parts) ms refl it in
    let others = more e in
    record {
      tree = roll-RhsBody (RhsBody-F.GuardedEquals one.tree others.trees);
      spelled = seen_both (choice_marks n.Equals (m ∷ parts) ms) rest ∙ (λ i. one.spelled i ++ others.spelled i)
          ∙ sym (guarded_equals_tokens one.tree others.trees);
      good = guarded_equals_good one.tree others.trees one.good others.good;
    }

pub alt_body : (parts : List Marks) (ms rest : Marks) (flags : List Bool) → is_shape (is_some parts ∷ flags) ≡ true
    → ChoiceOf parts ms → (flags ≡ [] → rest ≡ []) → (all_of flags ≡ true → GdasOf rest)
    → AltBodyOf (choice_marks n.Arrow parts ms ++ rest)
alt_body [] ms rest [] e it none more = record {
  tree = roll-AltBody (AltBody-F.Arrow it.exp.tree);
  spelled = ap (λ (z : Ts). t.Arrow ∷ z)
      (ap (λ (r : Marks). seen (ms ++ r)) (none refl) ∙ ap seen (append-nil ms) ∙ it.exp.spelled)
      ∙ sym (arrow_tokens it.exp.tree);
  good = arrow_good it.exp.tree it.exp.good;
}
alt_body [] ms rest (flag ∷ flags) e it none more = cc
alt_body (m ∷ parts) ms rest flags e it none more =
    let one = gda_choice (m ∷ parts) ms refl it in
    let others = more e in
    record {
      tree = roll-AltBody (AltBody-F.GuardedArrows one.tree others.trees);
      spelled = seen_both (choice_marks n.Arrow (m ∷ parts) ms) rest ∙ (λ i. one.spelled i ++ others.spelled i)
          ∙ sym (guarded_arrows_tokens one.tree others.trees);
      good = guarded_arrows_good one.tree others.trees one.good others.good;
    }

-- ---- right sides and alternatives, with what they declare

pub record RhsOf (ms : Marks) : Type 0 where
  pub tree : RhsTree
  pub spelled : seen ms ≡ spelling_rhs tree
  pub good : (facts_of_rhs tree).good ≡ true

pub record AltOf (ms : Marks) : Type 0 where
  pub tree : AltTree
  pub spelled : seen ms ≡ spelling_alt tree
  pub good : (facts_of_alt tree).good ≡ true

seen_where : (parts : List Marks) (ds : List DeclTree) → map seen parts ≡ map spelling_decl ds
    → seen (where_marks parts) ≡ spelling_locals (locals_of ds)
seen_where [] [] e = sym no_locals_tokens
seen_where [] (d ∷ ds) e = cc
seen_where (m ∷ parts) [] e = cc
seen_where (m ∷ parts) (d ∷ ds) e =
    ap (λ (z : Ts). t.Word w.Where ∷ z) (seen_block (m ∷ parts)
    ∙ ap (λ (z : List Ts). t.LeftBrace ∷ (between_semicolons z ++ t.RightBrace ∷ [])) e
    ∙ sym (decl_block_tokens (d ∷ ds))) ∙ sym (locals_tokens_are d ds)

pub rhs_side : (ms : Marks) (parts : List Marks) → BodyOf ms → DeclsOf parts → RhsOf (ms ++ where_marks parts)
rhs_side ms parts body ds = record {
  tree = roll-RhsTree (record { body = body.tree; locals = locals_of ds.trees });
  spelled = seen_both ms (where_marks parts) ∙ (λ i. body.spelled i ++ seen_where parts ds.trees ds.spelled i)
      ∙ sym (rhs_tokens_are body.tree (locals_of ds.trees));
  good = rhs_good body.tree (locals_of ds.trees) body.good (locals_good ds.trees ds.good);
}

pub alternative : (pat ms : Marks) (parts : List Marks) → APatOf pat → AltBodyOf ms → DeclsOf parts
    → AltOf (pat ++ (ms ++ where_marks parts))
alternative pat ms parts p body ds = record {
  tree = roll-AltTree (record { pat = pat_of (lpat_of p.tree); body = body.tree; locals = locals_of ds.trees });
  spelled = seen_both pat (ms ++ where_marks parts)
      ∙ (λ i. (p.spelled ∙ sym (apat_tokens_are p.tree)) i ++ (seen_both ms (where_marks parts)
      ∙ (λ j. body.spelled j ++ seen_where parts ds.trees ds.spelled j)) i)
      ∙ sym (alt_tokens_are (pat_of (lpat_of p.tree)) body.tree (locals_of ds.trees));
  good = alt_good (pat_of (lpat_of p.tree)) body.tree (locals_of ds.trees) (apat_good p.tree p.good) body.good
      (locals_good ds.trees ds.good);
}

-- ---- declarations

pub record DeclOf (ms : Marks) : Type 0 where
  pub tree : DeclTree
  pub spelled : seen ms ≡ spelling_decl tree
  pub good : (facts_of_decl tree).good ≡ true

pub signature : (occ : List ℕ) (ty : Marks) (tree : TypeTree) → seen ty ≡ spelling_type tree → is_type tree ≡ true
    → DeclOf (bare_marks occ ++ (signed t.DoubleColon ++ ty))
signature occ ty tree e h =
    let var = var_of occ in
    record {
      tree = roll-DeclTree (DeclTree-F.Signature var.tree [] tree);
      spelled = seen_both (bare_marks occ) (signed t.DoubleColon ++ ty) ∙ (λ i. var.spelled i ++ t.DoubleColon ∷ e i)
          ∙ sym (signature_tokens var.tree tree);
      good = signature_good var.tree tree h;
    }

abbrev word_of : Assoc → FixityWord
word_of s.Left = x.Left
word_of s.Right = x.Right
word_of s.Neither = x.Neither

record FixedOf (ms : Marks) : Type 0 where
  tree : OpTree
  spelled : seen ms ≡ op_tokens tree
  good : is_operator tree ≡ true

fixed_by : (form : NameForm) (name : List ℕ) → declares_op form name ≡ true → FixedOf (bare_op_by form name)
fixed_by f.Con name e = record { tree = o.Con (c.Quoted name); spelled = refl; good = e }
fixed_by f.VarSym name e = record { tree = o.Var (v.Sym name); spelled = refl; good = refl }
fixed_by f.ConSym name e = record { tree = o.Con (c.Sym name); spelled = refl; good = e }
fixed_by f.Var name e = record { tree = o.Var (v.Quoted name); spelled = refl; good = refl }
fixed_by f.Colon name e = record { tree = o.Var (v.Quoted name); spelled = refl; good = refl }
fixed_by f.Arrow name e = record { tree = o.Var (v.Quoted name); spelled = refl; good = refl }
fixed_by f.List name e = record { tree = o.Var (v.Quoted name); spelled = refl; good = refl }
fixed_by f.Tuple name e = record { tree = o.Var (v.Quoted name); spelled = refl; good = refl }

fixed : (name : List ℕ) → declares_op (form_of name) name ≡ true → FixedOf (bare_op name)
unfolding bare_op
fixed name e = fixed_by (form_of name) name e

level_below : (level : ℕ) → nat_le level 9 ≡ true → level < 10
level_below level e = grind (arith, nat_tests)

level_small : (level : ℕ) → nat_le level 9 ≡ true → level < 2 ^ 64
level_small level e = let h = level_below level e in omega (arith, h)

-- One digit is written for a level.
record IsDigitBelow (n : ℕ) (ds : List ℕ) : Type 0 where
  is_digit : n < 10 → is_level (Some ds) ≡ true

one_digit : (level : ℕ) → nat_le level 9 ≡ true → is_level (Some (decimal level)) ≡ true
one_digit level e = (decimal_by_steps IsDigitBelow one more level (level_small level e)).is_digit (level_below level e)
  where
    low : (n : ℕ) → nat_le 48 (48 + n) ≡ true
    low n = grind (arith, nat_tests)

    high : (n : ℕ) → n < 10 → nat_le (48 + n) 57 ≡ true
    high n h = grind (arith, nat_tests)

    one : (n : ℕ) → n < 10 → IsDigitBelow n ((48 + n) ∷ [])
    one n h = record {
      is_digit = λ g. and_from (nat_le 48 (48 + n)) (nat_le (48 + n) 57) (low n) (high n h);
    }

    not_below : (n : ℕ) → 10 ≤ n → n < 10 → ⊥
    not_below n h g = omega (arith, h, g)

    more : (n : ℕ) (ds : List ℕ) → 10 ≤ n → IsDigitBelow (n / 10) ds → IsDigitBelow n (ds ++ ((48 + n % 10) ∷ []))
    more n ds h it = record {
      is_digit = λ g. absurd (not_below n h g);
    }

pub fixity : (occ : List ℕ) (it : Fixity) → nat_le it.level 9 && declares_op (form_of occ) occ ≡ true
    → DeclOf (fixity_marks occ it)
fixity occ it e =
    let both = and_parts (nat_le it.level 9) (declares_op (form_of occ) occ) e in
    let op = fixed occ both.1 in
    record {
      tree = roll-DeclTree (DeclTree-F.Fixity (word_of it.assoc) (Some (decimal it.level)) op.tree []);
      spelled = by it.assoc op.tree op.spelled ∙ sym (fixity_tokens (word_of it.assoc) (decimal it.level) op.tree);
      good = fixity_good (word_of it.assoc) (decimal it.level) op.tree (one_digit it.level both.0) op.good;
    }
  where
    by : (assoc : Assoc) (tree : OpTree) → seen (bare_op occ) ≡ op_tokens tree
        → seen (fixity_marks occ (record { assoc = assoc; level = it.level }))
        ≡ fixity_word (word_of assoc) ∷ t.Integer (decimal it.level) ∷ op_tokens tree
    by s.Left tree h = ap (λ (z : Ts). t.Word w.Infixl ∷ t.Integer (decimal it.level) ∷ z) h
    by s.Right tree h = ap (λ (z : Ts). t.Word w.Infixr ∷ t.Integer (decimal it.level) ∷ z) h
    by s.Neither tree h = ap (λ (z : Ts). t.Word w.Infix ∷ t.Integer (decimal it.level) ∷ z) h

pub pattern_decl : (pat ms : Marks) → APatOf pat → RhsOf ms → DeclOf (pat ++ ms)
pattern_decl pat ms p it = record {
  tree = roll-DeclTree (DeclTree-F.Pattern (pat_of (lpat_of p.tree)) it.tree);
  spelled = seen_both pat ms ∙ (λ i. (p.spelled ∙ sym (apat_tokens_are p.tree)) i ++ it.spelled i)
      ∙ sym (pattern_tokens (pat_of (lpat_of p.tree)) it.tree);
  good = pattern_good (pat_of (lpat_of p.tree)) it.tree (apat_good p.tree p.good) it.good;
}

-- a variable as a pattern
var_pat : (occ : List ℕ) → APatOf (bare_marks occ)
var_pat occ = record {
  tree = roll-APatTree (APatTree-F.Var (var_of occ).tree);
  spelled = (var_of occ).spelled ∙ sym (apat_spelled (APatTree-F.Var (var_of occ).tree));
  good = apat_is (APatTree-F.Var (var_of occ).tree);
}

pub clause_decl : (occ : List ℕ) (pats : List Marks) (ms : Marks) → APatsOf pats → RhsOf ms
    → DeclOf (bare_marks occ ++ (spaced pats ++ ms))
clause_decl occ [] ms ps it = pattern_decl (bare_marks occ) ms (var_pat occ) it
clause_decl occ (m ∷ pats) ms ps it = by ps.trees ps.spelled ps.good
  where
    by : (trees : List APatTree)
        → map seen (m ∷ pats) ≡ map spelling_apat trees → all_of (map is_apat trees) ≡ true
        → DeclOf (bare_marks occ ++ (spaced (m ∷ pats) ++ ms))
    by [] e h = cc
    by (a ∷ trees) e h =
        let var = (var_of occ).tree in
        record {
          tree = roll-DeclTree (DeclTree-F.Function (prefix_of var a trees) it.tree);
          spelled = seen_both (bare_marks occ) (spaced (m ∷ pats) ++ ms)
              ∙ (λ i. (var_of occ).spelled i ++ (seen_both (spaced (m ∷ pats)) ms
              ∙ (λ j. (seen_spaced (m ∷ pats) ∙ ap (flat_map (λ (part : Ts). part)) e
              ∙ ap (λ (z : Ts). spelling_apat a ++ z) (flat_mapped trees)) j ++ it.spelled j)) i)
              ∙ sym (append_assoc (var_tokens var) (spelling_apat a ++ flat_map spelling_apat trees)
              (spelling_rhs it.tree))
              ∙ sym (function_tokens var a trees it.tree);
          good = function_good var a trees it.tree h it.good;
        }
