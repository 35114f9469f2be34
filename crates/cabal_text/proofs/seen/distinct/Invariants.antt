use Rattle.std.proofs.Common.{◌≡◌, ◌++◌, List, ℕ, take, drop}
use Rattle.std.specs.HashSet.{contains}
use Rattle.std.specs.Str.{bytes_eq}
use Rattle.bp_base.specs.Lists.{is_among}
use Rattle.cabal_text.specs.Seen.{new_after, distinct}
use Rattle.cabal_text.proofs.seen.distinct.Given as goal

abbrev pub invariant-loop-name : goal.invariant-loop-name
invariant-loop-name l =
    (l.found ++ new_after (take l.name-index l.names) (drop l.name-index l.names) ≡ distinct l.names)
    × ((q : List ℕ) → contains bytes_eq l.seen q ≡ is_among q (take l.name-index l.names))
