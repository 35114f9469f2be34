use Rattle.hs_blocks.proofs.guards.read_guard.Goals as goal

pub returns-in-Ok : goal.returns-in-Ok
returns-in-Ok g c = c.bound.ensures c.args.limit c.args.tokens.now c.in-Ok.ensures
