use Rattle.std.proofs.Common.{length, ap, subst, sym, ◌∙◌, arith}
use Rattle.std.proofs.lemmas.List.{take_all}
use Rattle.bp_base.specs.declared.ident.Ident.TheVariants.{Module}
use Rattle.ident_table.specs.Parts.{terms_in_fills}
use Rattle.ident_table.specs.Numbers.{fills_of, AreFillsBelow}
use Rattle.ident_table.proofs.NumberingLemmas.{Adds, hole-parts, module-parts, number-step}
use Rattle.ident_table.proofs.table.IdentTable.+number.Goals as goal

pub number-number_module-requires : goal.number-number_module-requires
number-number_module-requires t c = subst (AreFillsBelow (length c.number_fills.new.self))
    (sym c.fills.view_is) c.in_ok-fills-in-Module.ensures.below

pub number-returns-in_ok-copied-in-Hole-clause-parts : goal.number-returns-in_ok-copied-in-Hole-clause-parts
number-returns-in_ok-copied-in-Hole-clause-parts t c =
    hole-parts c.insert.result c.args.self.now c.insert.new.self c.args.ident.now c.in-Hole.name
    c.in_ok-copied-in-Hole.field-0 c.in-Hole.is c.in_ok-copied-in-Hole.ensures c.insert.ensures.parts

pub number-returns-in_ok-copied-in-Module-2-clause-parts : goal.number-returns-in_ok-copied-in-Module-2-clause-parts
number-returns-in_ok-copied-in-Module-2-clause-parts t c =
    module-parts c.number_module.result c.args.self.now c.number_fills.new.self c.number_module.new.self
    c.args.ident.now c.get-unit.result.now c.in-Module.module
    c.in_ok-copied-in-Module-2.field-0 c.in_ok-copied-in-Module.field-0 c.as_slice.result.now c.fills.inside.fills.items
    (c.in-Module.is ∙ ap (λ u. Module u c.in-Module.module) (sym c.get-unit.ensures)) c.as_slice.ensures
    c.in_ok-copied-in-Module.ensures c.in_ok-copied-in-Module-2.ensures
    (ap (fills_of c.number_fills.new.self) c.fills.view_is
    ∙ c.in_ok-fills-in-Module.ensures.numbers) c.in_ok-fills-in-Module.ensures.parts c.number_module.ensures.parts

pub number_fills-loop-fill-preserved : goal.number_fills-loop-fill-preserved
number_fills-loop-fill-preserved t c =
    number-step c.args.self.now c.loop-fill.self c.number.new.self c.args.fills.now c.loop-fill.fill-index
    c.fill-item.result c.loop-fill.numbers c.push.new.self c.in_ok-copied.field-0 c.in_ok-ident.ident
    (omega (arith, c.loop-fill-test.true)) c.fill-item.is c.loop-fill.invariant c.in_ok-ident.ensures.number
    c.number.ensures.grows c.in_ok-ident.ensures.parts c.in_ok-copied.ensures c.in_ok-push.ensures.ok

pub number_fills-returns-clause-parts : goal.number_fills-returns-clause-parts
number_fills-returns-clause-parts t c =
    subst (λ l. Adds c.args.self.now c.loop-fill.self (terms_in_fills l))
    (take_all c.loop-fill.fill-index c.args.fills.now (omega (arith, c.loop-fill-test.false)))
    c.loop-fill.invariant.3
