use Rattle.hs_operands.proofs.brackets.read_paren.Goals as goal

pub returns-then-begins_tuple_name : goal.returns-then-begins_tuple_name
returns-then-begins_tuple_name g c = c.read_tuple.ensures c.args.limit
