pub mod LayerLemmas
pub mod ApartLemmas
pub mod VarOpLemmas
pub mod FunctionLemmas
pub mod LeftSideLemmas
pub mod UniqueLemmas
