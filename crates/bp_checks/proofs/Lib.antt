pub mod CheckLemmas
pub mod WalkLemmas
pub mod ReachedLemmas
pub mod EndingLemmas
pub mod RefusedLemmas
pub mod TellsLemmas
pub mod LoopLemmas
pub mod StepLemmas
