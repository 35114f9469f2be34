use Rattle.std.proofs.Common.{subst, length}
use Rattle.type_unify.specs.Cells.{seen}
use Rattle.type_unify.specs.Stacks.{Below}
use Rattle.type_unify.proofs.StackingLemmas.{Below-front, Looks-true, Looks-false, among-seen, among-found, sizes-seen}
use Rattle.type_unify.proofs.occurs.occurs.Goals as goal

pub look-requires-clause-within : goal.look-requires-clause-within
look-requires-clause-within c =
    (Below-front (length c.args.cells.now) c.pop.new.self.items c.in-Some.next
    (subst (Below (length c.args.cells.now)) c.in-Some.ensures.items c.loop-next.invariant.within)).1

pub returns-then-branch : goal.returns-then-branch
returns-then-branch c =
    among-found (seen c.args.cells.now c.args.entries.now.entries) c.args.id c.in-Some.next c.loop-next.stack.items
    c.pop.new.self.items _ c.in-Some.ensures.items
    (Looks-true (seen c.args.cells.now c.args.entries.now.entries)
    (length c.args.cells.now) c.args.id c.in-Some.next c.pop.new.self.items c.look.new.stack.items
    c.in_ok-look.field-0 c.in_ok-look.ensures c.if-branch.true)
    c.loop-next.invariant.same

pub loop-next-smaller : goal.loop-next-smaller
loop-next-smaller c =
    sizes-seen (seen c.args.cells.now c.args.entries.now.entries)
    (length c.args.cells.now) c.args.id c.in-Some.next c.loop-next.stack.items c.pop.new.self.items
    c.look.new.stack.items c.in-Some.ensures.items
    (Looks-false (seen c.args.cells.now c.args.entries.now.entries)
    (length c.args.cells.now) c.args.id c.in-Some.next c.pop.new.self.items c.look.new.stack.items
    c.in_ok-look.field-0 c.in_ok-look.ensures c.if-branch.false)

pub loop-next-preserved : goal.loop-next-preserved
loop-next-preserved c =
    let u = Looks-false (seen c.args.cells.now c.args.entries.now.entries)
    (length c.args.cells.now) c.args.id c.in-Some.next c.pop.new.self.items c.look.new.stack.items
    c.in_ok-look.field-0 c.in_ok-look.ensures c.if-branch.false in
    record {
      within = u.within (Below-front (length c.args.cells.now) c.pop.new.self.items c.in-Some.next
          (subst (Below (length c.args.cells.now)) c.in-Some.ensures.items c.loop-next.invariant.within)).0;
      same = among-seen (seen c.args.cells.now c.args.entries.now.entries)
          (length c.args.cells.now) c.args.id c.in-Some.next c.loop-next.stack.items c.pop.new.self.items
          c.look.new.stack.items _ c.in-Some.ensures.items u c.loop-next.invariant.same;
    }
