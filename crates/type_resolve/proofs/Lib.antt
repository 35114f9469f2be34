pub mod LayerLemmas
pub mod FitLemmas
pub mod ExactLemmas
