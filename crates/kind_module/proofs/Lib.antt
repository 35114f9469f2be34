pub mod SchemeLemmas
pub mod ExpandLemmas
pub mod WrittenLemmas
pub mod LoopLemmas
pub mod EntityLemmas
pub mod KindLemmas
pub mod ExactLemmas
