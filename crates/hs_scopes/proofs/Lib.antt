pub mod SideLemmas
pub mod GrowingLemmas
pub mod StepLemmas
pub mod UniqueLemmas
pub mod ReadingLemmas
pub mod MeaningLemmas
pub mod ExampleLemmas
