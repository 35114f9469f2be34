pub mod CodedLemmas
pub mod StateLemmas
pub mod DemandLemmas
pub mod SyntaxLemmas
pub mod UnknownLemmas
