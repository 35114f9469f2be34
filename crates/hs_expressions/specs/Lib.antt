pub mod Leaves
pub mod SignedAnswers
pub mod LinkAnswers
pub mod FrontAnswers
pub mod StepAnswers
pub mod Chains
