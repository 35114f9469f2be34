pub mod AskedLemmas
pub mod ExactLemmas
pub mod IllLemmas
pub mod OneTextLemmas
pub mod TableLemmas
pub mod TypeLemmas
