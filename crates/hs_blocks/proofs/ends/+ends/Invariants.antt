use Rattle.std.proofs.Common.{◌≡◌, take}
use Rattle.std.specs.Prelude.{map}
use Rattle.hs_modules.specs.Formed.{Facts, facts_of_link, last_of}
use Rattle.hs_blocks.proofs.ends.+ends.Given as goal

abbrev pub invariant-links_end_in_type-loop-link : goal.invariant-links_end_in_type-loop-link
invariant-links_end_in_type-loop-link l =
    (first : Facts) → l.before ≡ first.ends_in_type →
    l.ends ≡ (last_of first (map facts_of_link (take l.link-index l.links))).ends_in_type
