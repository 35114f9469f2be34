use Rattle.std.proofs.Common.{refl, sym, subst, inl, inr, ◌∙◌, take, get_or}
use Rattle.bp_base.specs.Lists.{Among}
use Rattle.bp_base.proofs.SetLemmas.{among-either}
use Rattle.std.proofs.lemmas.List.{take_more}
use Rattle.declared_kinds.proofs.CycleLemmas.{among-at}
use Rattle.declared_kinds.proofs.members.is_member.Goals as goal

pub returns-then-each-number : goal.returns-then-each-number
returns-then-each-number c = (
  λ t. among-at c.args.numbers.now c.loop-each.each-index c.args.number 0 c.loop-each-test.true
      (sym c.if-each-number.true),
  λ a. refl,
)

pub loop-each-preserved : goal.loop-each-preserved
loop-each-preserved c = λ a.
    elim (among-either c.args.number (take c.loop-each.each-index c.args.numbers.now) _
    (subst (λ z. Among c.args.number z) (take_more c.args.numbers.now c.loop-each.each-index 0 c.loop-each-test.true) a)) [
      | inl b ↦ c.loop-each.invariant b
      | inr b ↦ elim b [ inl e ↦ c.if-each-number.false e | inr n ↦ n ]
    ]
