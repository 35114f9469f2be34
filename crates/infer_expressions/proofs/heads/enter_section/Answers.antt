use Rattle.std.proofs.Common.{refl}
use Rattle.std.proofs.lemmas.Result.{err_from_is_err_and}
use Rattle.type_terms.specs.Terms.{var}
use Rattle.type_equations.specs.States.{state_of}
use Rattle.type_equations.specs.Syntax.{plain_function}
use Rattle.infer_expressions.proofs.EnterLemmas.{section_ok, section_first_err, section_then_err}
use Rattle.infer_expressions.proofs.heads.enter_section.Goals as goal

pub returns-in_err-equate-clause-none : goal.returns-in_err-equate-clause-none
returns-in_err-equate-clause-none c =
    let p = err_from_is_err_and c.from_residual-in_err-equate.result c.from_residual-in_err-equate.ensures.1 in
    rw (p.1, p.2) (λ z. section_first_err c.args.state.now c.section_unknowns.new.state c.args.wanted c.in_ok-left.left
    c.in_ok-left.right c.in_ok-left.outcome c.in_ok-left.own c.in_ok-whole.whole c.in_ok-from.from c.in_ok-to.to
    c.in_ok-ty.ty (var c.in_ok-left.own) (var c.in_ok-left.outcome) (var c.in_ok-left.right)
    (plain_function (var c.in_ok-left.right) (var c.in_ok-left.outcome)) (var c.in_ok-left.left)
    (plain_function (var c.in_ok-left.left) (plain_function (var c.in_ok-left.right) (var c.in_ok-left.outcome)))
    (record {
      bindings = c.in_ok-left.ensures.same;
      kinds = c.in_ok-left.ensures.kinds;
      is_l = c.in_ok-left.ensures.left;
      is_r = c.in_ok-left.ensures.right;
      is_u = c.in_ok-left.ensures.outcome;
      is_w = c.in_ok-left.ensures.own;
      is_whole = c.in_ok-whole.ensures;
      is_from = c.in_ok-from.ensures;
      is_to = c.in_ok-to.ensures;
      is_ty = c.in_ok-ty.ensures;
      is_front = refl;
      is_ends = refl;
      is_right = refl;
      is_rest = refl;
      is_left = refl;
      is_operator = refl;
    }) (c.in_err-equate.ensures.none z))

pub returns-in_err-equate-2-clause-none : goal.returns-in_err-equate-2-clause-none
returns-in_err-equate-2-clause-none c =
    let p = err_from_is_err_and c.from_residual-in_err-equate-2.result c.from_residual-in_err-equate-2.ensures.1 in
    rw (p.1, p.2) (λ z. section_then_err c.args.state.now c.section_unknowns.new.state c.args.wanted c.in_ok-left.left
    c.in_ok-left.right c.in_ok-left.outcome c.in_ok-left.own c.in_ok-whole.whole c.in_ok-from.from c.in_ok-to.to
    c.in_ok-ty.ty c.in_ok-front.front c.in_ok-ends.ends c.in_ok-second.second c.in_ok-rest.rest c.in_ok-first.first
    c.in_ok-operator.operator
    (record {
      bindings = c.in_ok-left.ensures.same;
      kinds = c.in_ok-left.ensures.kinds;
      is_l = c.in_ok-left.ensures.left;
      is_r = c.in_ok-left.ensures.right;
      is_u = c.in_ok-left.ensures.outcome;
      is_w = c.in_ok-left.ensures.own;
      is_whole = c.in_ok-whole.ensures;
      is_from = c.in_ok-from.ensures;
      is_to = c.in_ok-to.ensures;
      is_ty = c.in_ok-ty.ensures;
      is_front = c.in_ok-front.ensures;
      is_ends = c.in_ok-ends.ensures;
      is_right = c.in_ok-second.ensures;
      is_rest = c.in_ok-rest.ensures;
      is_left = c.in_ok-first.ensures;
      is_operator = c.in_ok-operator.ensures;
    }) (state_of c.equate.new.self) c.in_ok-equate.ensures.ok (c.in_err-equate-2.ensures.none z))

pub returns-clause-ok : goal.returns-clause-ok
returns-clause-ok c = section_ok c.args.state.now c.section_unknowns.new.state c.args.wanted c.in_ok-left.left
    c.in_ok-left.right c.in_ok-left.outcome c.in_ok-left.own c.in_ok-whole.whole c.in_ok-from.from c.in_ok-to.to
    c.in_ok-ty.ty c.in_ok-front.front c.in_ok-ends.ends c.in_ok-second.second c.in_ok-rest.rest c.in_ok-first.first
    c.in_ok-operator.operator
    (record {
      bindings = c.in_ok-left.ensures.same;
      kinds = c.in_ok-left.ensures.kinds;
      is_l = c.in_ok-left.ensures.left;
      is_r = c.in_ok-left.ensures.right;
      is_u = c.in_ok-left.ensures.outcome;
      is_w = c.in_ok-left.ensures.own;
      is_whole = c.in_ok-whole.ensures;
      is_from = c.in_ok-from.ensures;
      is_to = c.in_ok-to.ensures;
      is_ty = c.in_ok-ty.ensures;
      is_front = c.in_ok-front.ensures;
      is_ends = c.in_ok-ends.ensures;
      is_right = c.in_ok-second.ensures;
      is_rest = c.in_ok-rest.ensures;
      is_left = c.in_ok-first.ensures;
      is_operator = c.in_ok-operator.ensures;
    }) (state_of c.equate.new.self) (state_of c.equate-2.new.self) c.in_ok-equate.ensures.ok
    c.in_ok-equate-2.ensures.ok
