pub mod Graph
pub mod Walking
