use Rattle.std.proofs.Common.{◌≡◌, map, take}
use Rattle.hs_tokens.specs.Terminals.{terminal_of}
use Rattle.hs_tokens.proofs.terminal.terminals_of.Given as goal

abbrev pub invariant-tokens : goal.invariant-tokens
invariant-tokens l = l.seen ≡ map terminal_of (take l.token-index l.token-items)
