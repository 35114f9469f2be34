use Rattle.std.proofs.Common.{[], subst, sym}
use Rattle.ident_table.specs.Numbers.{idents_of, IsIdentTable}
use Rattle.ident_table.proofs.NodeLemmas.{IsIdentTable-nodes}
use Rattle.ident_table.proofs.TableLemmas.{inserted, ident-found}
use Rattle.ident_table.proofs.table.IdentTable.insert.Goals as goal

pub returns-in_err-number-clause-table : goal.returns-in_err-number-clause-table
returns-in_err-number-clause-table c = subst (λ l. IsIdentTable (idents_of [] l)) (sym c.in_err-number.ensures.err)
    (IsIdentTable-nodes c.self.inside.nodes.keys c.self.invariant)

pub invariant_of-self-2 : goal.invariant_of-self-2
invariant_of-self-2 c = (inserted c.self.inside.nodes.keys c.insert_full.new.self.keys c.args.node c.args.self.now
    c.self.invariant c.self.view_is c.requires c.in_ok-number.ensures.keys).nodes

pub returns-clause-number : goal.returns-clause-number
returns-clause-number c =
    let step = inserted c.self.inside.nodes.keys c.insert_full.new.self.keys c.args.node c.args.self.now
    c.self.invariant c.self.view_is c.requires c.in_ok-number.ensures.keys in
    let found = c.in_ok-number.ensures.stored in
    ident-found c.args.self.now c.insert_full.new.self.keys c.args.node found.0 c.in_ok-number.number step c.requires
    found.1 found.2

pub returns-clause-grows : goal.returns-clause-grows
returns-clause-grows c = (inserted c.self.inside.nodes.keys c.insert_full.new.self.keys c.args.node c.args.self.now
    c.self.invariant c.self.view_is c.requires c.in_ok-number.ensures.keys).grows

pub returns-clause-parts : goal.returns-clause-parts
returns-clause-parts c = (inserted c.self.inside.nodes.keys c.insert_full.new.self.keys c.args.node c.args.self.now
    c.self.invariant c.self.view_is c.requires c.in_ok-number.ensures.keys).parts

pub returns-clause-table : goal.returns-clause-table
returns-clause-table c = IsIdentTable-nodes c.insert_full.new.self.keys
    (inserted c.self.inside.nodes.keys c.insert_full.new.self.keys c.args.node c.args.self.now c.self.invariant
    c.self.view_is c.requires c.in_ok-number.ensures.keys).nodes
