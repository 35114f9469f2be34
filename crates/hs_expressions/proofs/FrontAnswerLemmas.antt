-- Chains, expressions and fronts of sections, from what the reader of links answered.
use Rattle.std.proofs.Common.{◌≡◌, ℕ, true, false, sym, ap, ◌∙◌, subst}
use Rattle.std.specs.Prelude.{Option, Some, None, Result, Ok, Err}
use Rattle.hs_forms.specs.declared.fault.Fault.{Fault}
use Rattle.hs_trees.specs.Patterns.{Ts}
use Rattle.hs_readers.specs.Answers.{Answers}
use Rattle.hs_readers.specs.declared.read.Read.{Read}
use Rattle.hs_modules.specs.declared.names.QOpTree.{QOpTree}
use Rattle.hs_modules.specs.declared.expressions.ExpTree.{ExpTree}
use Rattle.hs_expression_forms.specs.Trees.{Took, Failed, sort_of}
use Rattle.hs_expression_forms.specs.Expressions.{exps, infixes}
use Rattle.hs_expression_forms.specs.Fronts.{fronts}
use Rattle.hs_expression_forms.specs.Links.{Links, links}
use Rattle.hs_expression_forms.specs.declared.front.Front.TheVariants as fr
use Rattle.hs_expression_forms.proofs.TreesLemmas.{embeds_took, embeds_failed}
use Rattle.hs_expression_forms.proofs.FrontLemmas.{infix_embeds, infix_back, exp_embeds, exp_back, front_stop, front_failed}
use Rattle.hs_expressions.specs.FrontAnswers.{ExpAnswers}

-- a chain that is no front of a section
pub no_section : (limit : Option ℕ) (ts : Ts) (l : Links) (rest : Ts) (m : ℕ) →
    Took (links false) limit ts l rest m → Took (links false) limit ts (l.0, None) rest m
no_section limit ts l rest m acc =
    let x = infix_back l acc.reads.good.0 in
    subst (λ k. Took (links false) limit ts k rest m) (x.1 ∙ ap (λ y. (y, None)) (sym (ap (λ (k : Links). k.0) x.1))) acc

pub infix_took : (limit : Option ℕ) (ts : Ts) (l : Links) (rest : Ts) (m : ℕ) →
    Took (links false) limit ts l rest m → Took infixes limit ts l.0 rest m
infix_took limit ts l rest m acc =
    embeds_took infixes (links false) (λ x. (x, None)) (infix_embeds false) limit ts l.0 rest m
    (no_section limit ts l rest m acc)

pub infix_failed : (limit : Option ℕ) (ts : Ts) (e : Fault) → Failed (links false) limit ts e →
    Failed infixes limit ts e
infix_failed limit ts e r =
    embeds_failed infixes (links false) (λ x. (x, None)) (infix_embeds false) limit infix_back ts e r

pub exp_answers : (limit : Option ℕ) (ts : Ts) (r : Result (Read ExpTree) Fault) → ExpAnswers false limit ts r →
    Answers (sort_of exps limit) ts r
exp_answers limit ts (Ok r) a =
    embeds_took exps (fronts false) (λ e. fr.Exp e) (exp_embeds false) limit ts r.tree r.rest.now r.depth a
exp_answers limit ts (Err e) a =
    embeds_failed exps (fronts false) (λ e. fr.Exp e) (exp_embeds false) limit exp_back ts e a

pub exp_failed : (limit : Option ℕ) (ts : Ts) (e : Fault) → Failed (links false) limit ts e → Failed exps limit ts e
exp_failed limit ts e r =
    embeds_failed exps (fronts false) (λ e. fr.Exp e) (exp_embeds false) limit exp_back ts e (front_failed false limit ts e r)

pub section_took : (limit : Option ℕ) (ts : Ts) (l : Links) (op : QOpTree) (rest : Ts) (m : ℕ) → l.1 ≡ Some op →
    Took (links true) limit ts l rest m → Took (fronts true) limit ts (fr.Section l.0 op) rest m
section_took limit ts l op rest m is acc =
    let same : l ≡ (l.0, Some op) = λ i. (l.0, is i) in
    front_stop true limit ts (l.0, Some op) rest m (subst (λ k. Took (links true) limit ts k rest m) same acc)
    (λ x e shut. absurd (none (ap (λ (k : Links). k.1) e)))
  where
    none : Some op ≡ None → ⊥
    none e = cc

pub chain_took : (limit : Option ℕ) (ts : Ts) (l : Links) (rest : Ts) (m : ℕ) → l.1 ≡ None →
    Took (links true) limit ts l rest m → Took (links true) limit ts (l.0, None) rest m
chain_took limit ts l rest m is acc =
    let same : l ≡ (l.0, None) = λ i. (l.0, is i) in subst (λ k. Took (links true) limit ts k rest m) same acc
