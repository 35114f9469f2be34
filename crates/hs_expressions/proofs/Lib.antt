pub mod QOpReturnLemmas
pub mod SignedLemmas
pub mod LinksLemmas
pub mod FrontAnswerLemmas
pub mod ChainLemmas
