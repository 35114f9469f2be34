-- The returns of the reader of a fixity declaration, over plain variables.
use Rattle.std.proofs.Common.{◌≡◌, ℕ, ◌<◌, Bool, true, false, List, [], ◌∷◌, ◌++◌, length, refl, sym, ap, ◌∙◌, subst, arith}
use Rattle.std.proofs.Common.{true≢false}
use Rattle.std.specs.Prelude.{not, max, Option, Some, None}
use Rattle.hs_forms.specs.Reading.{begins, SameStart}
use Rattle.hs_forms.specs.Answers.{Accepts, Rejects, Fails}
use Rattle.hs_forms.specs.declared.fault.Fault.{Fault}
use Rattle.hs_forms.proofs.FormLemmas.{begins_same}
use Rattle.hs_tokens.specs.Terminals.{is_comma}
use Rattle.hs_tokens.specs.declared.terminal.Terminal.{Terminal}
use Rattle.hs_tokens.specs.declared.terminal.Terminal.TheVariants as t
use Rattle.hs_tokens.specs.declared.word.Word.TheVariants as w
use Rattle.hs_modules.specs.Tokens.{fixity_word, level_tokens}
use Rattle.hs_modules.specs.Formed.{is_level}
use Rattle.hs_modules.specs.Words.{op_tokens}
use Rattle.hs_modules.specs.declared.declarations.Fixity.{Fixity}
use Rattle.hs_modules.specs.declared.declarations.Fixity.TheVariants as f
use Rattle.hs_modules.specs.declared.names.OpTree.{OpTree}
use Rattle.hs_modules.specs.declared.names.OpTree.TheVariants as o
use Rattle.hs_modules.specs.declared.names.VarOpTree.TheVariants as v
use Rattle.hs_modules.specs.declared.names.ConOpTree.TheVariants as c
use Rattle.hs_headers.specs.Lists.{Ts}
use Rattle.hs_headers.proofs.TurnLemmas.{Next, Alone, stuck, tree_ok}
use Rattle.hs_expression_forms.specs.Trees.{Took, Failed, Follows}
use Rattle.hs_expression_forms.proofs.TreesLemmas.{row_took, row_first, row_second}
use Rattle.hs_block_forms.specs.Combined.{narrowed}
use Rattle.hs_block_forms.specs.Blocks.{ends_item}
use Rattle.hs_block_forms.proofs.CombinedLemmas.{narrowed_took, narrowed_failed}
use Rattle.hs_declaration_forms.specs.Typings.{fixities, fixity_heads, fixity_head_form, FixityHead, op_lists, starts_fixity}
use Rattle.hs_declaration_forms.specs.Typings.{is_digit, level_goes}
use Rattle.hs_declaration_forms.proofs.FlatLemmas.{Flat, flat_took, flat_failed, none_deep}

-- the word tells
same_word : (a b : Fixity) (xs ys : Ts) → fixity_word a ∷ xs ≡ fixity_word b ∷ ys → b ≡ a
same_word f.Left f.Left xs ys e = refl
same_word f.Left f.Right xs ys e = absurd cc
same_word f.Left f.Neither xs ys e = absurd cc
same_word f.Right f.Left xs ys e = absurd cc
same_word f.Right f.Right xs ys e = refl
same_word f.Right f.Neither xs ys e = absurd cc
same_word f.Neither f.Left xs ys e = absurd cc
same_word f.Neither f.Right xs ys e = absurd cc
same_word f.Neither f.Neither xs ys e = refl

behind_word : (a b : Terminal) (xs ys : Ts) → a ∷ xs ≡ b ∷ ys → xs ≡ ys
behind_word a b xs ys e = cc

word_starts : (a : Fixity) (xs : Ts) → begins starts_fixity (fixity_word a ∷ xs) ≡ true
word_starts f.Left xs = refl
word_starts f.Right xs = refl
word_starts f.Neither xs = refl

pub head_none : (ts : Ts) → begins starts_fixity ts ≡ false → Rejects fixity_head_form ts (length ts)
head_none ts p =
    stuck fixity_head_form starts_fixity ts [] ts (t.Word w.Infix ∷ []) (f.Neither, None) refl refl
    (λ x s after good quiet e. ap (begins starts_fixity) e ∙ word_starts x.0 (level_tokens x.1 ++ after)) refl p

module _ (word : Fixity) (ts next : Ts) (at : ts ≡ fixity_word word ∷ next) where
  -- no digit
  pub bare_ok : begins is_digit next ≡ false → Accepts fixity_head_form (λ x. 0) ts (word, None) next 0
  bare_ok p =
      tree_ok fixity_head_form ts (fixity_word word ∷ []) next (word, None) at (omega arith) refl refl
      (λ s x after same good quiet e. alone s x.0 x.1 after same good e)
    where
      alone : (s : Ts) (b : Fixity) (l : Option (List ℕ)) (after : Ts) → SameStart next s → is_level l ≡ true →
          fixity_word word ∷ s ≡ (fixity_word b ∷ level_tokens l) ++ after →
          ◌≡◌ {A = FixityHead} (b, l) (word, None)
      alone s b None after same good e = ap (λ x. (x, None)) (same_word word b s after e)
      alone s b (Some d) after same good e =
          let is : s ≡ t.Integer d ∷ after = behind_word (fixity_word word) (fixity_word b) s (t.Integer d ∷ after) e in
          absurd (true≢false (sym (ap (begins is_digit) is ∙ good) ∙ begins_same is_digit next s same ∙ p))

  pub level_ok : (d : List ℕ) (rest : Ts) → next ≡ t.Integer d ∷ rest → is_level (Some d) ≡ true →
      Accepts fixity_head_form (λ x. 0) ts (word, Some d) rest 0
  level_ok d rest is digit =
      tree_ok fixity_head_form ts (fixity_word word ∷ t.Integer d ∷ []) rest (word, Some d)
      (at ∙ ap (λ l. fixity_word word ∷ l) is) (omega arith) refl digit
      (λ s x after same good quiet e. alone s x.0 x.1 after quiet e)
    where
      alone : (s : Ts) (b : Fixity) (l : Option (List ℕ)) (after : Ts) → begins (level_goes l) after ≡ false →
          fixity_word word ∷ t.Integer d ∷ s ≡ (fixity_word b ∷ level_tokens l) ++ after →
          ◌≡◌ {A = FixityHead} (b, l) (word, Some d)
      alone s b None after quiet e =
          let is : t.Integer d ∷ s ≡ after = behind_word (fixity_word word) (fixity_word b) (t.Integer d ∷ s) after e in
          absurd (true≢false (sym digit ∙ ap (begins is_digit) is ∙ quiet))
      alone s b (Some d') after quiet e =
          let is : t.Integer d ∷ s ≡ t.Integer d' ∷ after =
          behind_word (fixity_word word) (fixity_word b) (t.Integer d ∷ s) (t.Integer d' ∷ after) e in
          let same : d' ≡ d = cc in
          let one = same_word word b (t.Integer d ∷ s) (t.Integer d' ∷ after) e in λ i. (one i, Some (same i))

head_flat : Flat fixity_head_form fixity_heads
head_flat = record {
  tokens = λ x. refl;
  formed = λ x g. g;
  good = λ x e. e;
  deep = λ x. refl;
  extends = λ x k e. e;
}

-- the operators behind the head
abbrev starts_operators : Terminal → Bool
starts_operators (t.Integer text) = false
starts_operators k = true

ops_quiet : (p : OpTree × List OpTree) (k : Terminal) → ends_item k ≡ true → op_lists.extends p k ≡ false
ops_quiet p t.Semicolon h = refl
ops_quiet p t.RightBrace h = refl
ops_quiet p _ h = absurd (true≢false (sym h))

op_opens : (x : OpTree) (more : Ts) → begins starts_operators (op_tokens x ++ more) ≡ true
op_opens (o.Var (v.Sym m)) more = refl
op_opens (o.Var (v.Quoted m)) more = refl
op_opens (o.Con (c.Sym m)) more = refl
op_opens (o.Con (c.Quoted m)) more = refl

no_level : (l : Option (List ℕ)) (k : Terminal) → starts_operators k ≡ true → level_goes l k ≡ false
no_level (Some d) k h = refl
no_level None (t.Integer text) h = absurd (true≢false (sym h))
no_level None _ h = refl

follows : Follows fixity_heads (narrowed op_lists ends_item) starts_operators
follows = record {
  starts = λ p. op_opens p.0 _;
  apart = λ x k h. no_level x.1 k h;
  least = (o.Var (v.Sym []), []);
  least_formed = refl;
  least_deep = refl;
}

module _ (limit : Option ℕ) (ts : Ts) where
  pub fixity_head_fails : (e : Fault) → Fails fixity_head_form ts e → Failed fixities limit ts e
  fixity_head_fails e r =
      row_first fixity_heads (narrowed op_lists ends_item) starts_operators follows limit ts e
      (flat_failed fixity_head_form fixity_heads head_flat limit ts e r)

  module _ (x : FixityHead) (here : Ts) (m : ℕ) (acc : Accepts fixity_head_form (λ x. 0) ts x here m) where
    pub fixity_fails : (e : Fault) → Failed op_lists limit here e → Failed fixities limit ts e
    fixity_fails e r =
        row_second fixity_heads (narrowed op_lists ends_item) starts_operators follows limit ts x here m e
        (flat_took fixity_head_form fixity_heads head_flat limit ts x here m acc)
        (narrowed_failed op_lists ends_item ops_quiet limit here e r)

    pub fixity_took : (p : OpTree × List OpTree) (rest : Ts) (n : ℕ) → Took op_lists limit here p rest n →
        Took fixities limit ts (x, p) rest 0
    fixity_took p rest n q =
        let same : max m n ≡ 0 = omega (arith, q.measured_is, none_deep p.1, acc.measured_is) in
        subst (Took fixities limit ts (x, p) rest) same
        (row_took fixity_heads (narrowed op_lists ends_item) starts_operators follows limit ts x here m p rest n
        (flat_took fixity_head_form fixity_heads head_flat limit ts x here m acc)
        (narrowed_took op_lists ends_item ops_quiet limit here p rest n q))
