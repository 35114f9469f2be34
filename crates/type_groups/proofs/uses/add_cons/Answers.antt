use Rattle.std.proofs.Common.{sym, ap, ◌∙◌, ◌≡◌, take, length, arith, subst}
use Rattle.std.specs.Prelude.{map, flat_map}
use Rattle.hs_core.specs.WellTyped.{field_terms}
use Rattle.kind_check.specs.Scopes.{decls_of, field_term}
use Rattle.type_groups.specs.Uses.{with_numbers, uses_in}
use Rattle.type_groups.proofs.UseLemmas.{joined}
use Rattle.kind_check.proofs.LoopLemmas.{flat_next, take_end}
use Rattle.type_groups.proofs.uses.add_cons.Goals as goal

pub loop-index-preserved : goal.loop-index-preserved
loop-index-preserved c ps =
    joined (decls_of c.args.decls.now) (flat_map (field_terms ps) (take c.loop-index.index c.args.cons.now)) _
    c.args.numbers.now c.loop-index.numbers c.add_fields.new.numbers (c.loop-index.invariant ps)
    (subst (λ fs. c.add_fields.new.numbers
    ≡ with_numbers c.loop-index.numbers (uses_in (decls_of c.args.decls.now) (map (field_term ps) fs)))
    c.as_slice.ensures (c.in_ok-add_fields.ensures ps))
    ∙ ap (λ ts. with_numbers c.args.numbers.now (uses_in (decls_of c.args.decls.now) ts))
    (sym (flat_next (field_terms ps) c.args.cons.now c.loop-index.index c.index-cons-index.result
    c.loop-index-test.true))

pub returns : goal.returns
returns c ps =
    let e : c.loop-index.index ≡ length c.args.cons.now =
    omega (arith, c.loop-index-test.false, c.loop-index.auto.index-end) in
    c.loop-index.invariant ps
    ∙ ap (λ cs. with_numbers c.args.numbers.now (uses_in (decls_of c.args.decls.now) (flat_map (field_terms ps) cs)))
    (take_end c.args.cons.now c.loop-index.index e)
