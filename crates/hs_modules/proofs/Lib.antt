pub mod ExpressionMeasureLemmas
pub mod FoldingLemmas
pub mod MeasuringLemmas
pub mod ModuleMeasureLemmas
pub mod PartDepthLemmas
pub mod PatternMeasureLemmas
pub mod TypeMeasureLemmas
