pub mod FillLemmas
pub mod FilledLemmas
pub mod WellFormedLemmas
pub mod ReadBackLemmas
pub mod ExactLemmas
