pub mod AnswerLemmas
pub mod GivenLemmas
pub mod CountLemmas
pub mod LoopLemmas
pub mod StageLemmas
