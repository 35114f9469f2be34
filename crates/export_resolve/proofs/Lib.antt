pub mod SortLemmas
pub mod JoinLemmas
pub mod OwnedLemmas
pub mod ThingLemmas
pub mod OfferedLemmas
pub mod LeastLemmas
pub mod ClashLemmas
pub mod WholeLemmas
