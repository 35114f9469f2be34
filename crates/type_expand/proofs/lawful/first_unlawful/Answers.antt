use Rattle.std.proofs.Common.{◌≡◌, length, arith}
use Rattle.kind_check.specs.Answers.{known_synonyms}
use Rattle.type_expand.proofs.LawfulLemmas.{lawful_next, unlawful_here, all_lawful}
use Rattle.type_expand.proofs.lawful.first_unlawful.Goals as goal

pub returns-then-not-branch : goal.returns-then-not-branch
returns-then-not-branch c =
    unlawful_here c.as_slice-known.result.now c.args.env.now.names c.loop-index.index c.index-known-index.result
    c.in_ok-is_lawful_name.field-0 c.as_slice-known.ensures c.loop-index-test.true c.loop-index.invariant
    c.in_ok-is_lawful_name.ensures c.if-not-branch.true

pub loop-index-preserved : goal.loop-index-preserved
loop-index-preserved c =
    lawful_next (known_synonyms c.as_slice-known.result.now) c.as_slice-known.result.now c.loop-index.index
    c.index-known-index.result c.in_ok-is_lawful_name.field-0 c.loop-index-test.true c.loop-index.invariant
    c.in_ok-is_lawful_name.ensures c.if-not-branch.false

pub returns : goal.returns
returns c =
    let e : c.loop-index.index ≡ length c.as_slice-known.result.now =
    omega (arith, c.loop-index-test.false, c.loop-index.auto.index-end) in
    all_lawful c.as_slice-known.result.now c.args.env.now.names c.loop-index.index c.as_slice-known.ensures e
    c.loop-index.invariant
