use Rattle.std.proofs.Common.{◌≡◌, rules}
use Rattle.bp_base.specs.declared.ident.Unit.{out-Unit}
use Rattle.bp_base.proofs.IdentLemmas.{units-same}
use Rattle.bp_base.proofs.ident.+same.Goals as goal

pub same_unit-returns-then-eq : goal.same_unit-returns-then-eq
same_unit-returns-then-eq t c =
    let same_component : (out-Unit c.args.a.now).component ≡ (out-Unit c.args.b.now).component = search rules in
    units-same _ _ _ _ _ c.as_slice.ensures c.as_slice-then-eq.ensures same_component c.same_fills.ensures
