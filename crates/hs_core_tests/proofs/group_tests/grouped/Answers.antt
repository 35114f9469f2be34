use Rattle.hs_core_tests.proofs.group_tests.grouped.Goals as goal

pub groups-requires : goal.groups-requires
groups-requires c = c.are_in_range.ensures.0 c.if-are_in_range.true
