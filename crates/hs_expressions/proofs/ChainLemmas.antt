-- What the steps of a chain say.
use Rattle.std.proofs.Common.{◌≡◌, ℕ, ◌+◌, ◌<◌, Bool, true, false, List, ◌∷◌, [], ◌++◌, length, sym, ap, ◌∙◌, subst, arith}
use Rattle.std.proofs.Common.{inl, inr, ◌⊎◌, length-append}
use Rattle.std.specs.Prelude.{max, not, ◌&&◌, Option, Some, None}
use Rattle.hs_forms.specs.Reading.{begins}
use Rattle.hs_trees.specs.Patterns.{Ts}
use Rattle.hs_modules.specs.Words.{qop_tokens}
use Rattle.hs_modules.specs.ExpressionExtents.{sign}
use Rattle.hs_modules.specs.Tokens.{sign_tokens}
use Rattle.hs_modules.specs.Formed.{facts_of_infix}
use Rattle.hs_modules.specs.declared.names.QOpTree.{QOpTree}
use Rattle.hs_modules.specs.declared.expressions.OpOperand.{OpOperand}
use Rattle.hs_modules.specs.declared.expressions.SignedOperand.{SignedOperand}
use Rattle.hs_expression_forms.specs.Trees.{Took}
use Rattle.hs_expression_forms.specs.Expressions.{starts_exp, starts_qop}
use Rattle.hs_expression_forms.specs.Links.{links}
use Rattle.hs_expression_forms.proofs.LinkLayerLemmas.{negated_of}
use Rattle.hs_expression_forms.proofs.LinkLemmas.{make_infix, make_link}
use Rattle.hs_expression_forms.proofs.LinkAnswerLemmas.{chain_stop, lone_stop}
use Rattle.hs_expression_forms.proofs.LinkReturnLemmas.{SignedTook}
use Rattle.hs_expression_forms.proofs.OpenLemmas.{signed_open}
use Rattle.hs_expressions.specs.LinkAnswers.{LinkTook}
use Rattle.hs_expressions.specs.Chains.{Reading}
use Rattle.hs_expressions.proofs.LinksLemmas.{reading_first, reading_step, stops}

-- what a reading leaves
fits : (limit : Option ℕ) (ts : Ts) (s : SignedOperand) (xs : List OpOperand) (here : Ts) (deep ops : ℕ) (b : Bool) →
    Reading limit ts s xs here deep ops b → deep + ops + length here < length ts
fits limit ts s xs here deep ops b r = omega (arith, r.state.state.room, r.state.ops_is)

pub holds_first : (limit : Option ℕ) (ts : Ts) (s : SignedOperand) (rest : Ts) (m n : ℕ) (b : Bool) →
    SignedTook limit 0 0 ts s rest m → n ≡ sign (negated_of s) → b ≡ signed_open s →
    Reading limit ts s [] rest m n b × (m + n + length rest < length ts)
holds_first limit ts s rest m n b took signs is =
    let r = reading_first limit ts s rest m n b took signs is in (r, fits limit ts s [] rest m n b r)

pub holds_step : (limit : Option ℕ) (ts : Ts) (s : SignedOperand) (xs : List OpOperand) (here : Ts) (deep ops : ℕ)
    (b : Bool) → Reading limit ts s xs here deep ops b → b ≡ false → (op : QOpTree) (x : SignedOperand) (rest : Ts)
    (m n : ℕ) (c : Bool) → LinkTook limit deep ops here op x rest m → n ≡ sign (negated_of x) → c ≡ signed_open x →
    (Reading limit ts s (xs ++ make_link op x ∷ []) rest (max deep m) ((ops + 1) + n) c
    × (max deep m + ((ops + 1) + n) + length rest < length ts)) × (length rest < length here)
holds_step limit ts s xs here deep ops b r shut op x rest m n c took signs is =
    let next = reading_step limit ts s xs here deep ops b r shut op x rest m n c took signs is in
    let behind = took.2 in (
      (next, fits limit ts s (xs ++ make_link op x ∷ []) rest (max deep m) ((ops + 1) + n) c next),
      omega (
        arith,
        behind.took.room,
        ap length behind.at,
        length-append (sign_tokens (negated_of x)) behind.next,
        ap length took.1,
        length-append (qop_tokens op) took.0,
      ),
    )

pub holds_stop : (limit : Option ℕ) (lone : Bool) (ts : Ts) (s : SignedOperand) (xs : List OpOperand) (here : Ts)
    (deep ops : ℕ) (b : Bool) → Reading limit ts s xs here deep ops b → not b && begins starts_qop here ≡ false →
    Took (links lone) limit ts (make_infix s xs, None) here (deep + ops)
holds_stop limit lone ts s xs here deep ops b r ends =
    chain_stop limit ts (make_infix s xs) here deep ops r.state lone (by (stops b (begins starts_qop here) ends))
  where
    by : (b ≡ true) ⊎ (begins starts_qop here ≡ false) →
        ((facts_of_infix (make_infix s xs)).is_open ≡ true) ⊎ (begins starts_qop here ≡ false)
    by (inl e) = inl (sym r.opened ∙ e)
    by (inr e) = inr e

pub holds_alone : (limit : Option ℕ) (lone : Bool) (ts : Ts) (s : SignedOperand) (xs : List OpOperand) (here : Ts)
    (deep ops : ℕ) (b : Bool) → Reading limit ts s xs here deep ops b → b ≡ false → lone ≡ true → (op : QOpTree)
    (rest : Ts) → here ≡ qop_tokens op ++ rest → begins starts_exp rest ≡ false →
    Took (links lone) limit ts (make_infix s xs, Some op) rest (deep + ops)
holds_alone limit lone ts s xs here deep ops b r shut is op rest at ends =
    subst (λ o. Took (links o) limit ts (make_infix s xs, Some op) rest (deep + ops)) (sym is)
    (lone_stop limit ts (make_infix s xs) here deep ops r.state (sym r.opened ∙ shut) op rest at ends)
