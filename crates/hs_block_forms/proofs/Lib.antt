pub mod HitLemmas
pub mod CombinedLemmas
pub mod BlockLayerLemmas
pub mod ItemLayerLemmas
pub mod GuardLemmas
pub mod BodyLemmas
pub mod TokenLemmas
