pub mod NameLemmas
pub mod LiteralLemmas
pub mod PrintableLemmas
pub mod ExampleLemmas
