-- How the reader of a chain goes on and where it stops.
use Rattle.std.proofs.Common.{◌≡◌, ℕ, zero, suc, ◌+◌, ◌-◌, ◌<◌, Bool, true, false, List, [], ◌∷◌, ◌++◌, length, refl, sym}
use Rattle.std.proofs.Common.{ap, ◌∙◌, subst, arith, inl, inr, ◌⊎◌, true≢false}
use Rattle.std.specs.Prelude.{max, Option, Some, None, not, ◌&&◌}
use Rattle.std.specs.List.{slice_get}
use Rattle.hs_forms.specs.Reading.{begins}
use Rattle.hs_forms.specs.Limits.{Within}
use Rattle.hs_forms.specs.Answers.{Rejects, Fails}
use Rattle.hs_forms.specs.declared.fault.Fault.{Fault}
use Rattle.hs_trees.specs.Patterns.{Ts}
use Rattle.hs_modules.specs.ExpressionExtents.{sign}
use Rattle.hs_modules.specs.Formed.{facts_of_infix}
use Rattle.hs_modules.specs.declared.names.QOpTree.{QOpTree}
use Rattle.hs_modules.specs.declared.expressions.InfixTree.{InfixTree, out-InfixTree, roll-out-InfixTree}
use Rattle.hs_modules.specs.declared.expressions.OpOperand.{OpOperand, out-OpOperand}
use Rattle.hs_modules.specs.declared.expressions.SignedOperand.{SignedOperand}
use Rattle.hs_expression_forms.specs.Trees.{within}
use Rattle.hs_expression_forms.specs.Expressions.{starts_qop}
use Rattle.hs_expression_forms.specs.Links.{links}
use Rattle.hs_expression_forms.proofs.LinkLayerLemmas.{negated_of}
use Rattle.hs_expression_forms.proofs.LinkLemmas.{LinkState, make_infix, make_link}
use Rattle.hs_expression_forms.proofs.LinkReturnLemmas.{SignedTook}
use Rattle.hs_expression_forms.proofs.LinkAnswerLemmas.{Completes, completes_lone, completes_room, op_over, op_fails}
use Rattle.hs_expression_forms.proofs.LinkAnswerLemmas.{next_fails}
use Rattle.hs_expression_forms.proofs.LinkFirstLemmas.{first_state}
use Rattle.hs_expression_forms.proofs.OpenLemmas.{signed_open, last_open, chain_open, first_open, more_open, links_step}
use Rattle.hs_expressions.specs.Chains.{Reading}
use Rattle.hs_expressions.specs.LinkAnswers.{LinkFails, over, operator, behind, LinkTook}

pub reading_first : (limit : Option ℕ) (ts : Ts) (s : SignedOperand) (rest : Ts) (m n : ℕ) (b : Bool) →
    SignedTook limit 0 0 ts s rest m → n ≡ sign (negated_of s) → b ≡ signed_open s →
    Reading limit ts s [] rest m n b
reading_first limit ts s rest m n b took signs is =
    let same : 0 + sign (negated_of s) ≡ n = omega (arith, signs) in
    record {
      state = subst (LinkState limit ts (make_infix s []) rest m) same (first_state limit ts s rest m took);
      opened = is ∙ sym (first_open s);
    }

pub reading_step : (limit : Option ℕ) (ts : Ts) (s : SignedOperand) (xs : List OpOperand) (here : Ts) (deep ops : ℕ)
    (b : Bool) → Reading limit ts s xs here deep ops b → b ≡ false → (op : QOpTree) (x : SignedOperand) (rest : Ts)
    (m n : ℕ) (c : Bool) → LinkTook limit deep ops here op x rest m → n ≡ sign (negated_of x) → c ≡ signed_open x →
    Reading limit ts s (xs ++ make_link op x ∷ []) rest (max deep m) ((ops + 1) + n) c
reading_step limit ts s xs here deep ops b r shut op x rest m n c took signs is = record {
  state = subst (λ k. LinkState limit ts (make_infix s (xs ++ make_link op x ∷ [])) rest (max deep m) ((ops + 1) + k))
      (sym signs)
      (links_step limit ts s xs here deep ops r.state (sym r.opened ∙ shut) op took.0 took.1 x rest m took.2);
  opened = is ∙ sym (more_open s xs op x);
}

-- a chain goes on where its last operand is not open and an operator stands
pub goes : (b c : Bool) → not b && c ≡ true → (b ≡ false) × (c ≡ true)
goes true c h = absurd (true≢false (sym h))
goes false c h = (refl, h)

pub stops : (b c : Bool) → not b && c ≡ false → (b ≡ true) ⊎ (c ≡ false)
stops true c h = inl refl
stops false c h = inr h

completes : (limit : Option ℕ) (ts : Ts) (x : InfixTree) (here : Ts) (deep ops : ℕ)
    (st : LinkState limit ts x here deep ops) → (facts_of_infix x).is_open ≡ false → (lone : Bool) →
    (lone ≡ false → Within limit (deep + (ops + 1))) → Completes limit ts x here deep ops st lone
completes limit ts x here deep ops st shut true room = completes_lone limit ts x here deep ops st shut
completes limit ts x here deep ops st shut false room = completes_room limit ts x here deep ops st shut (room refl) false

pub link_fails : (limit : Option ℕ) (lone : Bool) (ts : Ts) (s : SignedOperand) (xs : List OpOperand) (here : Ts)
    (deep ops : ℕ) (b : Bool) → Reading limit ts s xs here deep ops b → b ≡ false → begins starts_qop here ≡ true →
    (e : Fault) → LinkFails limit lone deep ops here e → Fails (within (links lone) limit) ts e
link_fails limit lone ts s xs here deep ops b r shut starts e (over is not_lone full) =
    subst (Fails (within (links lone) limit) ts) (sym is)
    (subst (λ l. Rejects (within (links l) limit) ts (length here)) (sym not_lone)
    (op_over limit ts (make_infix s xs) here deep ops r.state starts full))
link_fails limit lone ts s xs here deep ops b r shut starts e (operator room f) =
    op_fails limit ts (make_infix s xs) here deep ops r.state lone starts
    (completes limit ts (make_infix s xs) here deep ops r.state (sym r.opened ∙ shut) lone room) e f
link_fails limit lone ts s xs here deep ops b r shut starts e (behind room op rest at begun f) =
    next_fails limit ts (make_infix s xs) here deep ops r.state lone op rest at begun
    (completes limit ts (make_infix s xs) here deep ops r.state (sym r.opened ∙ shut) lone room)
    (sym r.opened ∙ shut) e f

-- the last operand of a chain
last_at : (s : SignedOperand) (xs : List OpOperand) (x : OpOperand) → slice_get xs (length xs - 1) ≡ Some x →
    last_open s xs ≡ signed_open (out-OpOperand x).operand
last_at s [] x e = absurd (none e)
  where
    none : None ≡ Some x → ⊥
    none e = cc
last_at s (y ∷ []) x e = ap (λ o. signed_open (out-OpOperand o).operand) (some e)
  where
    some : Some y ≡ Some x → y ≡ x
    some e = cc
last_at s (y ∷ z ∷ xs) x e =
    let n : length (y ∷ z ∷ xs) - 1 ≡ suc (length (z ∷ xs) - 1) = omega arith in
    last_at (out-OpOperand y).operand (z ∷ xs) x (ap (slice_get (y ∷ z ∷ xs)) (sym n) ∙ e)

last_none : (s : SignedOperand) (xs : List OpOperand) → slice_get xs (length xs - 1) ≡ None → last_open s xs ≡ signed_open s
last_none s [] e = refl
last_none s (y ∷ []) e = absurd (none e)
  where
    none : Some y ≡ None → ⊥
    none e = cc
last_none s (y ∷ z ∷ xs) e = absurd (no (y ∷ z ∷ xs) (length (y ∷ z ∷ xs) - 1) (omega arith) e)
  where
    none : (x : OpOperand) → Some x ≡ None → ⊥
    none x e = cc

    no : (l : List OpOperand) (i : ℕ) → i < length l → slice_get l i ≡ None → ⊥
    no [] i lt e = omega arith
    no (x ∷ l) zero lt e = none x e
    no (x ∷ l) (suc i) lt e = no l i (omega arith) e

opened_as : (x : InfixTree) → (facts_of_infix x).is_open ≡ last_open (out-InfixTree x).first (out-InfixTree x).rest
opened_as x =
    ap (λ y. (facts_of_infix y).is_open) (sym (roll-out-InfixTree x))
    ∙ chain_open (out-InfixTree x).first (out-InfixTree x).rest

pub open_at : (x : InfixTree) (y : OpOperand) →
    slice_get (out-InfixTree x).rest (length (out-InfixTree x).rest - 1) ≡ Some y →
    signed_open (out-OpOperand y).operand ≡ (facts_of_infix x).is_open
open_at x y e = sym (opened_as x ∙ last_at (out-InfixTree x).first (out-InfixTree x).rest y e)

pub open_alone : (x : InfixTree) → slice_get (out-InfixTree x).rest (length (out-InfixTree x).rest - 1) ≡ None →
    signed_open (out-InfixTree x).first ≡ (facts_of_infix x).is_open
open_alone x e = sym (opened_as x ∙ last_none (out-InfixTree x).first (out-InfixTree x).rest e)

-- whether an operator may follow, and whether it ends a section
pub may_not : (b : Bool) (W : Type 0) → ((b ≡ false → W) → ⊥) → (b ≡ false) × (W → ⊥)
may_not true W f = absurd (f (λ e. absurd (true≢false e)))
may_not false W f = (refl, λ w. f (λ e. w))

pub ends_there : (b c : Bool) → b && not c ≡ true → (b ≡ true) × (c ≡ false)
ends_there true true h = absurd (true≢false (sym h))
ends_there true false h = (refl, refl)
ends_there false c h = absurd (true≢false (sym h))

pub goes_there : (b c : Bool) → b && not c ≡ false → b ≡ true → c ≡ true
goes_there true true h e = refl
goes_there true false h e = absurd (true≢false h)
goes_there false c h e = absurd (true≢false (sym e))
