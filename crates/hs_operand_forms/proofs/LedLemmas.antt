-- Productions of two parts with a token before each and before the second: `\`, `let`, `if` and `case`.
use Rattle.std.proofs.Common.{◌≡◌, ℕ, ◌+◌, ◌≤◌, Bool, true, false, [], ◌∷◌, length, refl, sym, ap, ◌∙◌, subst}
use Rattle.std.proofs.Common.{true≢false, arith}
use Rattle.std.specs.Prelude.{max, Option, nat_eq}
use Rattle.hs_forms.specs.Reading.{begins}
use Rattle.hs_forms.specs.Limits.{Within, lowered}
use Rattle.hs_forms.specs.Answers.{Rejects}
use Rattle.hs_forms.specs.declared.fault.Fault.{Fault}
use Rattle.hs_forms.specs.declared.fault.Fault.TheVariants.{At}
use Rattle.hs_forms.proofs.FormLemmas.{begins_same, begins_append}
use Rattle.hs_forms.proofs.LimitLemmas.{within_zero}
use Rattle.hs_tokens.specs.declared.terminal.Terminal.{Terminal}
use Rattle.hs_tokens.specs.declared.terminal.Terminal.TheVariants as t
use Rattle.hs_tokens.specs.declared.word.Word.TheVariants as w
use Rattle.hs_trees.specs.Patterns.{Ts}
use Rattle.hs_modules.specs.Tokens.{spelling_operand}
use Rattle.hs_modules.specs.declared.expressions.OperandTree.{OperandTree}
use Rattle.hs_expression_forms.specs.Trees.{Trees, within, Took, Failed, behind_token, ended, row, Follows, Makes}
use Rattle.hs_expression_forms.specs.Expressions.{exps, operands, applies, starts_exp}
use Rattle.hs_expression_forms.specs.Expressions.{starts_operand, starts_aexp}
use Rattle.hs_expression_forms.proofs.TreesLemmas.{ended_took, ended_failed, ended_missed, row_took, row_first}
use Rattle.hs_expression_forms.proofs.TreesLemmas.{row_second}
use Rattle.hs_expression_forms.proofs.TreesLemmas.{behind_made, behind_made_failed, made_over, made_took, made_failed}
use Rattle.hs_expression_forms.proofs.TreesLemmas.{stays_first}
use Rattle.hs_expression_forms.proofs.OperandLayerLemmas.{Apply, make_apply}
use Rattle.hs_expression_forms.proofs.OperandLemmas.{operand_class, operand_test}
use Rattle.hs_expression_forms.proofs.OperandLemmas.{apply_makes, apply_test, operand_starts}
use Rattle.hs_expression_forms.proofs.RowLemmas.{exp_follows, exp_ends}
use Rattle.hs_expression_forms.proofs.LinkAnswerLemmas.{least_operand, least_operand_good}
use Rattle.hs_expression_forms.proofs.LinkFirstLemmas.{lowered_none}

-- a production behind a token, of two parts
module _ {C B T : Type 0} (whole : Trees Terminal T) (k : Terminal) (c : Trees Terminal C) (b : Trees Terminal B)
    (make : C × B → T) (used : ℕ) (le : used ≤ 1) (test : Terminal → Bool)
    (w : Makes whole (behind_token k (row c b)) make used (begins test)) (starter : Terminal → Bool)
    (f : Follows c b starter) (known : test k ≡ true) (limit : Option ℕ) (room : Within limit used) (l : Option ℕ)
    (low : l ≡ lowered limit used) (next : Ts) where
  row_failed : (e : Fault) → Failed (row c b) (lowered limit used) next e → Failed whole limit (k ∷ next) e
  row_failed e r =
      behind_made_failed whole k (row c b) make used (begins test) w limit room (k ∷ next) next e
      (stays_first test (k ∷ next) known) refl r

  pub front_failed : (e : Fault) → Failed c l next e → Failed whole limit (k ∷ next) e
  front_failed e r =
      row_failed e (row_first c b starter f (lowered limit used) next e (subst (λ o. Failed c o next e) low r))

  pub second_failed : (x : C) (here : Ts) (m : ℕ) → Took c l next x here m → (e : Fault) → Failed b l here e →
      Failed whole limit (k ∷ next) e
  second_failed x here m p e r =
      row_failed e (row_second c b starter f (lowered limit used) next x here m e
      (subst (λ o. Took c o next x here m) low p) (subst (λ o. Failed b o here e) low r))

  pub both_took : (x : C) (here : Ts) (m : ℕ) → Took c l next x here m → (y : B) (after : Ts) (n : ℕ) →
      Took b l here y after n → Took whole limit (k ∷ next) (make (x, y)) after (max m n + used)
  both_took x here m p y after n q =
      behind_made whole k (row c b) make used (begins test) w limit room le (k ∷ next) next (x, y) after (max m n) refl
      (row_took c b starter f (lowered limit used) next x here m y after n
      (subst (λ o. Took c o next x here m) low p) (subst (λ o. Took b o here y after n) low q))

-- an operand behind its first token, with a token between its parts
module _ {A B : Type 0} (k mid : Terminal) (a : Trees Terminal A) (b : Trees Terminal B) (make : A × B → OperandTree)
    (class : ℕ) (w : Makes operands (behind_token k (row (ended a mid) b)) make 1 (operand_test class))
    (starter : Terminal → Bool) (f : Follows (ended a mid) b starter) (ends : (x : A) → a.extends x mid ≡ false)
    (is_mid : Terminal → Bool) (is : is_mid mid ≡ true) (known : nat_eq (operand_class k) class ≡ true)
    (limit : Option ℕ) (next : Ts) where
  pub led_over : (Within limit 1 → ⊥) → (n : ℕ) → n ≡ length next + 1 → Rejects (within operands limit) (k ∷ next) n
  led_over over n is =
      let same : length (k ∷ next) ≡ n = omega (arith, is) in
      subst (Rejects (within operands limit) (k ∷ next)) same
      (made_over operands (behind_token k (row (ended a mid) b)) make 1 (operand_test class) w limit over least_operand
      (least_operand_good limit) (k ∷ next) (λ s same. begins_same (λ t. nat_eq (operand_class t) class)
      (k ∷ next) s same ∙ known))

  module _ (room : Within limit 1) (l : Option ℕ) (low : l ≡ lowered limit 1) where
    pub led_first : (e : Fault) → Failed a l next e → Failed operands limit (k ∷ next) e
    led_first e r =
        front_failed operands k (ended a mid) b make 1 (omega arith) (λ t. nat_eq (operand_class t) class) w starter f
        known limit room l low next e (ended_failed a l mid ends next e r)

    pub led_missed : (x : A) (here : Ts) (m : ℕ) → Took a l next x here m → begins is_mid here ≡ false →
        Rejects (within operands limit) (k ∷ next) (length here)
    led_missed x here m p missed =
        front_failed operands k (ended a mid) b make 1 (omega arith) (λ t. nat_eq (operand_class t) class) w starter f
        known limit room l low next (At (length here)) (ended_missed a l mid ends is_mid is next x here m p missed)

    pub led_second : (x : A) (here rest : Ts) (m : ℕ) → Took a l next x here m → here ≡ mid ∷ rest → (e : Fault) →
        Failed b l rest e → Failed operands limit (k ∷ next) e
    led_second x here rest m p at e r =
        second_failed operands k (ended a mid) b make 1 (omega arith) (λ t. nat_eq (operand_class t) class) w starter f
        known limit room l low next x rest m (ended_took a l mid ends next x here rest m p at) e r

    pub led_ok : (x : A) (here rest : Ts) (m : ℕ) → Took a l next x here m → here ≡ mid ∷ rest → (y : B) (after : Ts)
        (n : ℕ) → Took b l rest y after n → Took operands limit (k ∷ next) (make (x, y)) after (max m n + 1)
    led_ok x here rest m p at y after n q =
        both_took operands k (ended a mid) b make 1 (omega arith) (λ t. nat_eq (operand_class t) class) w starter f
        known limit room l low next x rest m (ended_took a l mid ends next x here rest m p at) y after n q

-- expressions behind `then`, up to `else` and what follows it
module _ (l : Option ℕ) (next : Ts) where
  else_ends : (x : _) → exps.extends x (t.Word w.Else) ≡ false
  else_ends = exp_ends (t.Word w.Else) refl

  pub branches_first : (e : Fault) → Failed exps l next e → Failed (row (ended exps (t.Word w.Else)) exps) l next e
  branches_first e r =
      row_first (ended exps (t.Word w.Else)) exps starts_exp (exp_follows exps (t.Word w.Else)) l next e
      (ended_failed exps l (t.Word w.Else) else_ends next e r)

  pub branches_missed : (is_else : Terminal → Bool) → is_else (t.Word w.Else) ≡ true → (x : _) (here : Ts) (m : ℕ) →
      Took exps l next x here m → begins is_else here ≡ false →
      Failed (row (ended exps (t.Word w.Else)) exps) l next (At (length here))
  branches_missed is_else is x here m p missed =
      row_first (ended exps (t.Word w.Else)) exps starts_exp (exp_follows exps (t.Word w.Else)) l next
      (At (length here)) (ended_missed exps l (t.Word w.Else) else_ends is_else is next x here m p missed)

  pub branches_second : (x : _) (here rest : Ts) (m : ℕ) → Took exps l next x here m → here ≡ t.Word w.Else ∷ rest →
      (e : Fault) → Failed exps l rest e → Failed (row (ended exps (t.Word w.Else)) exps) l next e
  branches_second x here rest m p at e r =
      row_second (ended exps (t.Word w.Else)) exps starts_exp (exp_follows exps (t.Word w.Else)) l next x rest m e
      (ended_took exps l (t.Word w.Else) else_ends next x here rest m p at) r

  pub branches_ok : (x : _) (here rest : Ts) (m : ℕ) → Took exps l next x here m → here ≡ t.Word w.Else ∷ rest →
      (y : _) (after : Ts) (n : ℕ) → Took exps l rest y after n →
      Took (row (ended exps (t.Word w.Else)) exps) l next (x, y) after (max m n)
  branches_ok x here rest m p at y after n q =
      row_took (ended exps (t.Word w.Else)) exps starts_exp (exp_follows exps (t.Word w.Else)) l next x rest m y after n
      (ended_took exps l (t.Word w.Else) else_ends next x here rest m p at) q

-- applications
pub apply_took : (limit : Option ℕ) (ts : Ts) (p : Apply) (rest : Ts) (m : ℕ) → Took applies limit ts p rest m →
    Took operands limit ts (make_apply p) rest m
apply_took limit ts p rest m acc =
    let same : m + 0 ≡ m = omega arith in
    subst (Took operands limit ts (make_apply p) rest) same
    (made_took operands applies make_apply 0 (operand_test 5) apply_makes limit (within_zero limit) ts p rest m
    (subst (λ l. Took applies l ts p rest m) (sym (lowered_none limit)) acc) (omega (arith, acc.room)))

pub apply_failed : (limit : Option ℕ) (ts : Ts) (e : Fault) → begins starts_aexp ts ≡ true → Failed applies limit ts e →
    Failed operands limit ts e
apply_failed limit ts e starts r =
    made_failed operands applies make_apply 0 (operand_test 5) apply_makes limit (within_zero limit) ts e
    (stays_first (λ t. nat_eq (operand_class t) 5) ts (apply_test ts starts))
    (subst (λ l. Failed applies l ts e) (sym (lowered_none limit)) r)

-- no operand
pub operand_none : (limit : Option ℕ) (ts : Ts) → begins starts_operand ts ≡ false →
    Rejects (within operands limit) ts (length ts)
operand_none limit ts ends = record {
  before = [];
  bad = ts;
  split = refl;
  left_is = refl;
  refuses = record {
    begun = (_, least_operand, least_operand_good limit, refl);
    never = λ s other after same good quiet e.
        true≢false (sym (begins_append starts_operand (spelling_operand other) after (operand_starts other))
        ∙ ap (begins starts_operand) (sym e) ∙ begins_same starts_operand ts s same ∙ ends);
  };
}
