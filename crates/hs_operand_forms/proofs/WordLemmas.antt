-- Names and literals as expressions.
use Rattle.std.proofs.Common.{◌≡◌, ℕ, ◌<◌, true, false, List, [], ◌∷◌, ◌++◌, length, refl, sym, ap, ◌∙◌}
use Rattle.std.proofs.Common.{true≢false, arith, length-append}
use Rattle.std.specs.Prelude.{Option}
use Rattle.hs_forms.specs.Reading.{begins}
use Rattle.hs_forms.specs.Limits.{lowered}
use Rattle.hs_forms.specs.Answers.{Rejects}
use Rattle.hs_forms.proofs.FormLemmas.{begins_same, begins_append}
use Rattle.hs_forms.proofs.LimitLemmas.{within_less, within_zero}
use Rattle.hs_tokens.specs.declared.terminal.Terminal.{Terminal}
use Rattle.hs_tokens.specs.declared.terminal.Terminal.TheVariants as t
use Rattle.hs_trees.specs.Patterns.{Ts, literal_token}
use Rattle.hs_trees.specs.declared.patterns.GConTree.TheVariants as g
use Rattle.hs_trees.specs.declared.patterns.LiteralTree.{LiteralTree}
use Rattle.hs_trees.specs.declared.patterns.LiteralTree.TheVariants as l
use Rattle.hs_modules.specs.Words.{bracketed}
use Rattle.hs_modules.specs.Tokens.{spelling_aexp}
use Rattle.hs_modules.specs.declared.names.QVarTree.TheVariants as q
use Rattle.hs_modules.specs.declared.expressions.AExpTree.{AExpTree}
use Rattle.hs_modules.specs.declared.expressions.AExpTree.TheVariants as a
use Rattle.hs_expression_forms.specs.Trees.{within, Took, Makes}
use Rattle.hs_expression_forms.specs.Expressions.{aexps, starts_aexp}
use Rattle.hs_expression_forms.specs.Fronts.{fixed}
use Rattle.hs_expression_forms.proofs.TreesLemmas.{made_took}
use Rattle.hs_expression_forms.proofs.AExpLayerLemmas.{con_is, con_deep, aexp_starts}
use Rattle.hs_expression_forms.proofs.AExpLemmas.{aexp_test, id_makes, qualified_id_makes, con_makes, literal_makes}
use Rattle.hs_expression_forms.proofs.AExpLemmas.{nil_makes, sym_makes, qualified_sym_makes, con_sym_makes, colon_makes}
use Rattle.hs_operand_forms.specs.Brackets.{is_opening, is_symbol, named_symbol}

-- trees of fixed tokens
module _ {N : Type 0} (tokens : N → Ts) (make : N → AExpTree) (class : ℕ)
    (w : Makes aexps (fixed tokens) make 0 (aexp_test class))
    (one : (n m : N) (s after : Ts) → tokens n ++ s ≡ tokens m ++ after → (m ≡ n) × (after ≡ s))
    (some : (n : N) → begins (λ k. true) (tokens n) ≡ true) where
  long : (ts : Ts) → begins (λ k. true) ts ≡ true → 0 < length ts
  long [] h = absurd (true≢false (sym h))
  long (k ∷ ts) h = omega arith

  fixed_took : (limit : Option ℕ) (ts : Ts) (n : N) (rest : Ts) → ts ≡ tokens n ++ rest →
      Took (fixed tokens) limit ts n rest 0
  fixed_took limit ts n rest at = record {
    spelled = at;
    reads = record {
      good = (refl, within_zero limit);
      only = λ s other after same good quiet e. one n other s after e;
    };
    measured_is = refl;
    room = omega (arith, ap length at, length-append (tokens n) rest, long (tokens n) (some n));
  }

  pub name_took : (limit : Option ℕ) (ts : Ts) (n : N) (rest : Ts) → ts ≡ tokens n ++ rest →
      Took aexps limit ts (make n) rest 0
  name_took limit ts n rest at =
      let part = fixed_took (lowered limit 0) ts n rest at in
      made_took aexps (fixed tokens) make 0 (aexp_test class) w limit (within_zero limit) ts n rest 0 part
      (omega (arith, part.room))

var_one : (n m : List ℕ) (s after : Ts) → t.Var n ∷ s ≡ t.Var m ∷ after → (m ≡ n) × (after ≡ s)
var_one n m s after e = (cc, cc)

qvar_one : (n m : List ℕ) (s after : Ts) → t.QVar n ∷ s ≡ t.QVar m ∷ after → (m ≡ n) × (after ≡ s)
qvar_one n m s after e = (cc, cc)

con_one : (n m : List ℕ) (s after : Ts) → t.Con n ∷ s ≡ t.Con m ∷ after → (m ≡ n) × (after ≡ s)
con_one n m s after e = (cc, cc)

literal_one : (x y : LiteralTree) (s after : Ts) → literal_token x ∷ s ≡ literal_token y ∷ after → (y ≡ x) × (after ≡ s)
literal_one (l.Integer n) (l.Integer m) s after e = let same : m ≡ n = cc in (ap l.Integer same, cc)
literal_one (l.Char n) (l.Char m) s after e = let same : m ≡ n = cc in (ap l.Char same, cc)
literal_one (l.Text n) (l.Text m) s after e = let same : m ≡ n = cc in (ap l.Text same, cc)
literal_one (l.Integer n) (l.Char m) s after e = absurd cc
literal_one (l.Integer n) (l.Text m) s after e = absurd cc
literal_one (l.Char n) (l.Integer m) s after e = absurd cc
literal_one (l.Char n) (l.Text m) s after e = absurd cc
literal_one (l.Text n) (l.Integer m) s after e = absurd cc
literal_one (l.Text n) (l.Char m) s after e = absurd cc

sym_one : (n m : List ℕ) (s after : Ts) → bracketed (t.VarSym n) ++ s ≡ bracketed (t.VarSym m) ++ after →
    (m ≡ n) × (after ≡ s)
sym_one n m s after e = (cc, cc)

qualified_one : (n m : List ℕ) (s after : Ts) → bracketed (t.QVarSym n) ++ s ≡ bracketed (t.QVarSym m) ++ after →
    (m ≡ n) × (after ≡ s)
qualified_one n m s after e = (cc, cc)

con_sym_one : (n m : List ℕ) (s after : Ts) → bracketed (t.ConSym n) ++ s ≡ bracketed (t.ConSym m) ++ after →
    (m ≡ n) × (after ≡ s)
con_sym_one n m s after e = (cc, cc)

three : (a b c : Terminal) (s after : Ts) → a ∷ b ∷ c ∷ s ≡ a ∷ b ∷ c ∷ after → after ≡ s
three a b c s after e = cc

two : (a b : Terminal) (s after : Ts) → a ∷ b ∷ s ≡ a ∷ b ∷ after → after ≡ s
two a b s after e = cc

module _ (limit : Option ℕ) (ts : Ts) where
  pub var_took : (n : List ℕ) (rest : Ts) → ts ≡ t.Var n ∷ rest → Took aexps limit ts (a.Var (q.Id n)) rest 0
  var_took = name_took (λ n. t.Var n ∷ []) (λ n. a.Var (q.Id n)) 1 id_makes var_one (λ n. refl) limit ts

  pub qvar_took : (n : List ℕ) (rest : Ts) → ts ≡ t.QVar n ∷ rest →
      Took aexps limit ts (a.Var (q.QualifiedId n)) rest 0
  qvar_took = name_took (λ n. t.QVar n ∷ []) (λ n. a.Var (q.QualifiedId n)) 2 qualified_id_makes qvar_one (λ n. refl)
      limit ts

  pub con_took : (n : List ℕ) (rest : Ts) → ts ≡ t.Con n ∷ rest → Took aexps limit ts (a.Con (g.Con n)) rest 0
  con_took = name_took (λ n. t.Con n ∷ []) (λ n. a.Con (g.Con n)) 3 con_makes con_one (λ n. refl) limit ts

  pub literal_took : (x : LiteralTree) (rest : Ts) → ts ≡ literal_token x ∷ rest →
      Took aexps limit ts (a.Literal x) rest 0
  literal_took = name_took (λ x. literal_token x ∷ []) (λ x. a.Literal x) 4 literal_makes literal_one (λ x. refl)
      limit ts

  pub nil_took : (rest : Ts) → ts ≡ t.LeftBracket ∷ t.RightBracket ∷ rest → Took aexps limit ts (a.Con g.List) rest 0
  nil_took rest = name_took (λ (u : Unit {0}). t.LeftBracket ∷ t.RightBracket ∷ []) (λ u. a.Con g.List) 5 nil_makes
      (λ n m s after e. (refl, two t.LeftBracket t.RightBracket s after e)) (λ u. refl) limit ts tt rest

  pub symbol_took : (k : Terminal) (rest : Ts) → is_symbol k ≡ true → ts ≡ t.LeftParen ∷ k ∷ t.RightParen ∷ rest →
      Took aexps limit ts (named_symbol k) rest 0
  symbol_took (t.VarSym n) rest h at =
      name_took (λ n. bracketed (t.VarSym n)) (λ n. a.Var (q.Sym n)) 8 sym_makes sym_one (λ n. refl) limit ts n rest at
  symbol_took (t.QVarSym n) rest h at =
      name_took (λ n. bracketed (t.QVarSym n)) (λ n. a.Var (q.QualifiedSym n)) 9 qualified_sym_makes qualified_one
      (λ n. refl) limit ts n rest at
  symbol_took (t.ConSym n) rest h at =
      name_took (λ n. bracketed (t.ConSym n)) (λ n. a.Con (g.Sym n)) 10 con_sym_makes con_sym_one (λ n. refl) limit ts
      n rest at
  symbol_took t.Colon rest h at =
      name_took (λ (u : Unit {0}). bracketed t.Colon) (λ u. a.Con g.Colon) 11 colon_makes
      (λ n m s after e. (refl, three t.LeftParen t.Colon t.RightParen s after e)) (λ u. refl) limit ts tt rest at
  symbol_took _ rest h at = absurd (true≢false (sym h))

-- the unit
pub unit_good : (limit : Option ℕ) → (within aexps limit).Good (a.Con g.Unit)
unit_good limit = (con_is g.Unit, within_less limit _ 0 (omega (arith, con_deep g.Unit)) (within_zero limit))

pub nil_good : (limit : Option ℕ) → (within aexps limit).Good (a.Con g.List)
nil_good limit = (con_is g.List, within_less limit _ 0 (omega (arith, con_deep g.List)) (within_zero limit))

-- no expression begins here
pub aexp_none : (limit : Option ℕ) (ts : Ts) → begins starts_aexp ts ≡ false →
    Rejects (within aexps limit) ts (length ts)
aexp_none limit ts ends = record {
  before = [];
  bad = ts;
  split = refl;
  left_is = refl;
  refuses = record {
    begun = (_, a.Con g.Unit, unit_good limit, refl);
    never = λ s other after same good quiet e.
        true≢false (sym (begins_append starts_aexp (spelling_aexp other) after (aexp_starts other))
        ∙ ap (begins starts_aexp) (sym e) ∙ begins_same starts_aexp ts s same ∙ ends);
  };
}

pub no_word : (k : Terminal) → is_opening k ≡ false → ((n : List ℕ) → k ≡ t.Var n → ⊥) →
    ((n : List ℕ) → k ≡ t.QVar n → ⊥) → ((n : List ℕ) → k ≡ t.Con n → ⊥) → ((n : List ℕ) → k ≡ t.Integer n → ⊥) →
    ((n : List ℕ) → k ≡ t.Char n → ⊥) → ((n : List ℕ) → k ≡ t.Text n → ⊥) → starts_aexp k ≡ false
no_word t.LeftParen o v w c i x y = absurd (true≢false o)
no_word t.LeftBracket o v w c i x y = absurd (true≢false o)
no_word (t.Var n) o v w c i x y = absurd (v n refl)
no_word (t.QVar n) o v w c i x y = absurd (w n refl)
no_word (t.Con n) o v w c i x y = absurd (c n refl)
no_word (t.Integer n) o v w c i x y = absurd (i n refl)
no_word (t.Char n) o v w c i x y = absurd (x n refl)
no_word (t.Text n) o v w c i x y = absurd (y n refl)
no_word _ o v w c i x y = refl
