pub mod SplitLemmas
pub mod ListedLemmas
pub mod SoonerLemmas
pub mod WordyLemmas
