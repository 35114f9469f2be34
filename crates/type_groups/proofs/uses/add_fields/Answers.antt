use Rattle.std.proofs.Common.{sym, ap, ◌∙◌, ◌≡◌, take, length, arith}
use Rattle.std.specs.Prelude.{map}
use Rattle.kind_check.specs.Scopes.{decls_of, field_term}
use Rattle.type_groups.specs.Uses.{with_numbers, uses_in}
use Rattle.type_groups.proofs.UseLemmas.{joined}
use Rattle.kind_check.proofs.LoopLemmas.{map_next, take_end}
use Rattle.type_groups.proofs.uses.add_fields.Goals as goal

pub loop-index-preserved : goal.loop-index-preserved
loop-index-preserved c ps =
    joined (decls_of c.args.decls.now) (map (field_term ps) (take c.loop-index.index c.args.fields.now)) _
    c.args.numbers.now c.loop-index.numbers c.add_type.new.numbers (c.loop-index.invariant ps)
    (c.in_ok-add_type.ensures ps)
    ∙ ap (λ ts. with_numbers c.args.numbers.now (uses_in (decls_of c.args.decls.now) ts))
    (sym (map_next (field_term ps) c.args.fields.now c.loop-index.index c.index-fields-index.result
    c.loop-index-test.true))

pub returns : goal.returns
returns c ps =
    let e : c.loop-index.index ≡ length c.args.fields.now =
    omega (arith, c.loop-index-test.false, c.loop-index.auto.index-end) in
    c.loop-index.invariant ps
    ∙ ap (λ fs. with_numbers c.args.numbers.now (uses_in (decls_of c.args.decls.now) (map (field_term ps) fs)))
    (take_end c.args.fields.now c.loop-index.index e)
