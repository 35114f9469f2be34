pub mod ExactLemmas
pub mod ExampleLemmas
