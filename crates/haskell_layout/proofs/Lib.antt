mod ContextLemmas
mod AdvancingLemmas
mod StepLemmas
mod StandingLemmas
mod StayingLemmas
mod MatchingLemmas
pub mod AnsweringLemmas
